-- What a life of a client sends has a spelling, since all that came to it is in range; and each compound has a number of its own.
use Rattle.std.proofs.Common.{◌≡◌, ◌<◌, ◌≤◌, ℕ, suc, ◌^◌, List, [], ◌∷◌, ◌++◌, Some, sym, ap, subst, ◌∙◌, inl, inr, arith, append_assoc}
use Rattle.std.specs.List.{AllByRecursion}
use Rattle.ff_xdr.specs.Laws.{IsBytes}
use Rattle.cluster_model.specs.declared.ids.NodeId.{NodeId}
use Rattle.cluster_model.specs.declared.ids.NodeId.TheVariants.{Client}
use Rattle.cluster_model.specs.declared.entry.Entry.{Entry}
use Rattle.cluster_model.specs.declared.entry.Entry.TheVariants as entry
use Rattle.rpc_record.specs.CallNumbers.{IsBelow}
use Rattle.cluster_laws.proofs.Lists.{all_split}
use Rattle.client_mds_calls.specs.MdsCalls.{MdsCallValue}
use Rattle.client_state.specs.declared.request.UserRequest.TheVariants.{Open, Write, Through, Commit, Read, Return}
use Rattle.client_state.specs.ClientStates.{ClientValue}
use Rattle.client_state.specs.ClientSends.{ClientSend, CallsMds}
use Rattle.client_calls.specs.ClientLaws.{new_number}
use Rattle.client_laws.specs.ClientHistory.{ClientInput, Requested, Recorded, TimeoutOf, Ticked, LeftProtocol, Strayed, input_step, HistoryItem, Hears, Enters, Sends, entered, sent, HasItem, Each, client_history}
use Rattle.client_laws.proofs.Orders.{in_more, in_end}
use Rattle.client_records.specs.ClientRecords.{AreBytes, IsInputInRange, HasSpelling, SendsSpelled, CallsAreBelow, IsNextNumber, NumbersOn, EachRunIsSpelled, EachRunIsNumbered}
use Rattle.node_histories.specs.Weaves.{IsUnseen, WeaveStep, Passes, Unseen, Seen, entries_in, items_in, HasPacket, IsShownAs, AreWoven}
use Rattle.node_histories.specs.ClientLives.{client_shown, Life, start_of}
use Rattle.node_histories.specs.NodeHistories.{IsInputOfScript}
use Rattle.world_journal.specs.Journal.{IsEntryInRange, IsJournalInRange}
use Rattle.world_reads.proofs.Steps.{all_second}
use Rattle.world_reads.proofs.Lives.{LifeFacts}

-- ---- what came to it is of bytes

abbrev pub IsHeard : HistoryItem → Type 0
IsHeard (Hears (Recorded from bytes now)) = AreBytes bytes
IsHeard (Hears (Requested request)) = Unit {0}
IsHeard (Hears (TimeoutOf to)) = Unit {0}
IsHeard (Hears (Ticked now)) = Unit {0}
IsHeard (Hears LeftProtocol) = Unit {0}
IsHeard (Hears (Strayed place at bytes)) = Unit {0}
IsHeard (Enters entry) = Unit {0}
IsHeard (Sends send) = Unit {0}

unseen_heard : (item : HistoryItem) → client_shown item ≡ IsUnseen → IsHeard item
unseen_heard (Hears (Recorded from bytes now)) is = absurd cc
unseen_heard (Hears (Requested request)) is = tt
unseen_heard (Hears (TimeoutOf to)) is = tt
unseen_heard (Hears (Ticked now)) is = tt
unseen_heard (Hears LeftProtocol) is = tt
unseen_heard (Hears (Strayed place at bytes)) is = tt
unseen_heard (Enters entry) is = tt
unseen_heard (Sends send) is = tt

-- by bytes and by places
pub are_bytes : (bytes : List ℕ) → IsBytes bytes → AreBytes bytes
are_bytes [] is = tt
are_bytes (b ∷ bytes) is = (is 0, are_bytes bytes (λ i. is (suc i)))

module _ (journal : List Entry) (range : IsJournalInRange journal) where
  packet_bytes : (begun rest : List Entry) → journal ≡ begun ++ rest → (number : ℕ) (from to : NodeId) (bytes : List ℕ) → HasPacket begun number from to bytes → AreBytes bytes
  packet_bytes begun rest is number from to bytes p =
      let packet : Entry = entry.Packet number from to bytes in
      let whole : journal ≡ p.before ++ packet ∷ (p.behind ++ rest) = is ∙ (ap (λ (l : List Entry). l ++ rest) p.split ∙ append_assoc p.before (packet ∷ p.behind) rest) in
      are_bytes bytes (all_split IsEntryInRange p.before packet (p.behind ++ rest) (subst IsJournalInRange whole range))

  seen_heard : (node : NodeId) (begun rest : List Entry) → journal ≡ begun ++ rest → (item : HistoryItem) (e : Entry) → IsShownAs node begun (client_shown item) e → IsHeard item
  seen_heard node begun rest is (Hears (Recorded from bytes now)) (entry.Delivered number) shown = packet_bytes begun rest is number from node bytes shown
  seen_heard node begun rest is (Hears (Recorded from bytes now)) e shown = absurd shown
  seen_heard node begun rest is (Hears (Requested request)) e shown = tt
  seen_heard node begun rest is (Hears (TimeoutOf to)) e shown = tt
  seen_heard node begun rest is (Hears (Ticked now)) e shown = tt
  seen_heard node begun rest is (Hears LeftProtocol) e shown = tt
  seen_heard node begun rest is (Hears (Strayed place at bytes)) e shown = tt
  seen_heard node begun rest is (Enters entry) e shown = tt
  seen_heard node begun rest is (Sends send) e shown = tt

  all_heard : (node : NodeId) (begun : List Entry) (steps : List (WeaveStep HistoryItem)) (rest : List Entry) → journal ≡ begun ++ (entries_in steps ++ rest) → AreWoven client_shown node begun steps → AllByRecursion IsHeard (items_in steps)
  all_heard node begun [] rest is so = tt
  all_heard node begun (Passes e ∷ steps) rest is so = all_heard node (begun ++ e ∷ []) steps rest (is ∙ sym (append_assoc begun (e ∷ []) (entries_in steps ++ rest))) so
  all_heard node begun (Unseen item ∷ steps) rest is so = (unseen_heard item so.0, all_heard node begun steps rest is so.1)
  all_heard node begun (Seen item e ∷ steps) rest is so =
      (seen_heard node begun (e ∷ (entries_in steps ++ rest)) is item e so.0, all_heard node (begun ++ e ∷ []) steps rest (is ∙ sym (append_assoc begun (e ∷ []) (entries_in steps ++ rest))) so.1)

-- ---- so it is in range

one_in_range : (input : ClientInput) → IsHeard (Hears input) → IsInputOfScript input → IsInputInRange input
one_in_range (Requested (Open name)) heard asked = asked
one_in_range (Requested (Write at bytes)) heard asked = asked.1
one_in_range (Requested (Through at bytes)) heard asked = asked.1
one_in_range (Requested Commit) heard asked = tt
one_in_range (Requested (Read at count)) heard asked = asked
one_in_range (Requested Return) heard asked = tt
one_in_range (Recorded from bytes now) heard asked = heard
one_in_range (TimeoutOf to) heard asked = tt
one_in_range (Ticked now) heard asked = tt
one_in_range LeftProtocol heard asked = tt
one_in_range (Strayed place at bytes) heard asked = asked

all_in_range : (c : ClientValue) (inputs : List ClientInput) → AllByRecursion IsHeard (client_history c inputs) → AllByRecursion IsInputOfScript inputs → AllByRecursion IsInputInRange inputs
all_in_range c [] heard asked = tt
all_in_range c (input ∷ inputs) heard asked =
    let s = input_step input c in
    (one_in_range input heard.0 asked.0, all_in_range s.client inputs (all_second IsHeard (entered s.entries ++ sent s.sends) (client_history s.client inputs) heard.1) asked.1)

-- ---- what it sends

spelled_in : (past h : List HistoryItem) (send : ClientSend) → Each SendsSpelled past h → HasItem h (Sends send) → HasSpelling send
spelled_in past [] send each has = absurd has
spelled_in past (x ∷ h) send each (inl here) = subst (λ (item : HistoryItem). SendsSpelled past item) (sym here.0) each.0
spelled_in past (x ∷ h) send each (inr has) = spelled_in (past ++ x ∷ []) h send each.1 has

pub life_spelled : EachRunIsSpelled → (journal : List Entry) → IsJournalInRange journal → (n : ℕ) → n < 2 ^ 32 → (k : Life) (numbered : EachRunIsNumbered) → LifeFacts numbered n journal k → (send : ClientSend) → HasItem (items_in k.steps) (Sends send)
    → HasSpelling send
life_spelled spelled journal range n small k numbered f send has =
    let whole : journal ≡ k.begun ++ (entries_in k.steps ++ f.rest) = f.whole ∙ append_assoc k.begun (entries_in k.steps) f.rest in
    let heard : AllByRecursion IsHeard (items_in k.steps) = all_heard journal range (Client n) k.begun k.steps f.rest whole f.is.woven in
    let inputs : AllByRecursion IsInputInRange k.inputs = all_in_range (start_of n k) k.inputs (subst (λ (l : List HistoryItem). AllByRecursion IsHeard l) (sym f.is.history) heard) f.asked in
    let each : Each SendsSpelled [] (client_history (start_of n k) k.inputs) = spelled n k.verifier k.first_xid k.inputs (record { number_fits = small; verifier_fits = f.verifier; first_fits = f.first }) inputs in
    spelled_in [] (client_history (start_of n k) k.inputs) send each (subst (λ (l : List HistoryItem). HasItem l (Sends send)) (sym f.is.history) has)

-- ---- numbers of compounds

abbrev pub compound : ℕ → List ℕ → MdsCallValue → HistoryItem
compound xid name call = Sends (CallsMds xid name call)

below_has : (xid : ℕ) (past : List HistoryItem) (name : List ℕ) (call : MdsCallValue) → CallsAreBelow xid past → HasItem past (compound xid name call) → ⊥
below_has xid [] name call below has = absurd has
below_has xid (Hears input ∷ past) name call below (inl here) = not_heard here.0
  where
    not_heard : compound xid name call ≡ Hears input → ⊥
    not_heard same = absurd cc
below_has xid (Hears input ∷ past) name call below (inr has) = below_has xid past name call below has
below_has xid (Enters e ∷ past) name call below (inl here) = not_entered here.0
  where
    not_entered : compound xid name call ≡ Enters e → ⊥
    not_entered same = absurd cc
below_has xid (Enters e ∷ past) name call below (inr has) = below_has xid past name call below has
below_has xid (Sends send ∷ past) name call below (inl here) =
    let same : CallsMds xid name call ≡ send = send_is here.0 in
    let less : IsBelow xid (Some xid) = subst (IsBelow xid) (sym (ap new_number same)) below.0 in
    absurd (omega (arith, less))
  where
    send_is : compound xid name call ≡ Sends send → CallsMds xid name call ≡ send
    send_is e = cc
below_has xid (Sends send ∷ past) name call below (inr has) = below_has xid past name call below.1 has

not_later : (first : ℕ) (past h : List HistoryItem) (xid : ℕ) (name other : List ℕ) (call asked : MdsCallValue) → Each (NumbersOn first) past h → HasItem past (compound xid name call) → HasItem h (compound xid other asked) → ⊥
not_later first past [] xid name other call asked each was has = absurd has
not_later first past (x ∷ h) xid name other call asked each was (inl here) =
    let next : IsNextNumber first past xid = subst (λ (item : HistoryItem). NumbersOn first past item) (sym here.0) each.0 in
    below_has xid past name call next.above was
not_later first past (x ∷ h) xid name other call asked each was (inr has) = not_later first (past ++ x ∷ []) h xid name other call asked each.1 (in_more (compound xid name call ∷ []) past (x ∷ []) was) has

-- two compounds of one number are one
pub one_compound : (first : ℕ) (past h : List HistoryItem) (xid : ℕ) (name other : List ℕ) (call asked : MdsCallValue) → Each (NumbersOn first) past h → HasItem h (compound xid name call) → HasItem h (compound xid other asked)
    → compound xid name call ≡ compound xid other asked
one_compound first past [] xid name other call asked each has also = absurd has
one_compound first past (x ∷ h) xid name other call asked each (inl here) (inl there) = here.0 ∙ sym there.0
one_compound first past (x ∷ h) xid name other call asked each (inl here) (inr also) =
    absurd (not_later first (past ++ x ∷ []) h xid name other call asked each.1 (subst (λ (item : HistoryItem). HasItem (past ++ item ∷ []) (compound xid name call)) here.0 (in_end past (compound xid name call))) also)
one_compound first past (x ∷ h) xid name other call asked each (inr has) (inl there) =
    absurd (not_later first (past ++ x ∷ []) h xid other name asked call each.1 (subst (λ (item : HistoryItem). HasItem (past ++ item ∷ []) (compound xid other asked)) there.0 (in_end past (compound xid other asked))) has)
one_compound first past (x ∷ h) xid name other call asked each (inr has) (inr also) = one_compound first (past ++ x ∷ []) h xid name other call asked each.1 has also

pub from_first : (first : ℕ) (past h : List HistoryItem) (xid : ℕ) (name : List ℕ) (call : MdsCallValue) → Each (NumbersOn first) past h → HasItem h (compound xid name call) → first ≤ xid
from_first first past [] xid name call each has = absurd has
from_first first past (x ∷ h) xid name call each (inl here) =
    let next : IsNextNumber first past xid = subst (λ (item : HistoryItem). NumbersOn first past item) (sym here.0) each.0 in
    next.from_first
from_first first past (x ∷ h) xid name call each (inr has) = from_first first (past ++ x ∷ []) h xid name call each.1 has

pub below_next : (next : ℕ) (h : List HistoryItem) (xid : ℕ) (name : List ℕ) (call : MdsCallValue) → CallsAreBelow next h → HasItem h (compound xid name call) → xid < next
below_next next [] xid name call below has = absurd has
below_next next (Hears input ∷ h) xid name call below (inl here) = absurd (not_heard here.0)
  where
    not_heard : compound xid name call ≡ Hears input → ⊥
    not_heard same = absurd cc
below_next next (Hears input ∷ h) xid name call below (inr has) = below_next next h xid name call below has
below_next next (Enters e ∷ h) xid name call below (inl here) = absurd (not_entered here.0)
  where
    not_entered : compound xid name call ≡ Enters e → ⊥
    not_entered same = absurd cc
below_next next (Enters e ∷ h) xid name call below (inr has) = below_next next h xid name call below has
below_next next (Sends send ∷ h) xid name call below (inl here) = subst (IsBelow next) (sym (ap new_number (send_is here.0))) below.0
  where
    send_is : compound xid name call ≡ Sends send → CallsMds xid name call ≡ send
    send_is e = cc
below_next next (Sends send ∷ h) xid name call below (inr has) = below_next next h xid name call below.1 has
