-- What came to a life of a client is in range, so each compound of it fits its form.
use Rattle.std.proofs.Common.{◌≡◌, ◌<◌, ℕ, ◌^◌, List, [], ◌∷◌, ◌++◌, sym, ap, subst, ◌∙◌, inl, inr, append_assoc}
use Rattle.std.specs.List.{AllByRecursion}
use Rattle.cluster_model.specs.declared.ids.NodeId.{NodeId}
use Rattle.cluster_model.specs.declared.ids.NodeId.TheVariants.{Client}
use Rattle.cluster_model.specs.declared.entry.Entry.{Entry}
use Rattle.cluster_model.specs.declared.entry.Entry.TheVariants as entry
use Rattle.cluster_laws.proofs.Lists.{all_split}
use Rattle.client_mds_calls.specs.FittingCalls.{FitsAsked}
use Rattle.client_mds_calls.specs.MdsCalls.{MdsCallValue}
use Rattle.client_state.specs.declared.request.UserRequest.TheVariants.{Open, Write, Through, Commit, Read, Return}
use Rattle.client_state.specs.ClientStates.{ClientValue}
use Rattle.client_state.specs.ClientSends.{CallsMds}
use Rattle.client_laws.specs.ClientHistory.{ClientInput, Requested, Recorded, TimeoutOf, Ticked, LeftProtocol, Strayed, input_step, HistoryItem, Hears, Enters, Sends, entered, sent, HasItem, Each, client_history}
use Rattle.client_records.specs.ClientRecords.{AreBytes, IsInputInRange, EachRunIsNumbered}
use Rattle.node_histories.specs.Weaves.{IsUnseen, WeaveStep, Passes, Unseen, Seen, entries_in, items_in, HasPacket, IsShownAs, AreWoven}
use Rattle.node_histories.specs.ClientLives.{client_shown, Life, start_of}
use Rattle.node_histories.specs.NodeHistories.{IsInputOfScript}
use Rattle.world_journal.specs.Journal.{IsEntryInRange, IsJournalInRange}
use Rattle.world_reads.proofs.Steps.{all_second}
use Rattle.world_reads.proofs.Lives.{LifeFacts}
use Rattle.world_reads.proofs.LifeRecords.{are_bytes}
use Rattle.client_sessions.specs.FittingCalls.{AsksFit, EachRunAsksFit}

-- ---- what came to it is of bytes

abbrev IsOfBytes : HistoryItem → Type 0
IsOfBytes (Hears (Recorded from bytes now)) = AreBytes bytes
IsOfBytes (Hears (Requested request)) = Unit {0}
IsOfBytes (Hears (TimeoutOf to)) = Unit {0}
IsOfBytes (Hears (Ticked now)) = Unit {0}
IsOfBytes (Hears LeftProtocol) = Unit {0}
IsOfBytes (Hears (Strayed place at bytes)) = Unit {0}
IsOfBytes (Enters entry) = Unit {0}
IsOfBytes (Sends send) = Unit {0}

unseen_heard : (item : HistoryItem) → client_shown item ≡ IsUnseen → IsOfBytes item
unseen_heard (Hears (Recorded from bytes now)) is = absurd cc
unseen_heard (Hears (Requested request)) is = tt
unseen_heard (Hears (TimeoutOf to)) is = tt
unseen_heard (Hears (Ticked now)) is = tt
unseen_heard (Hears LeftProtocol) is = tt
unseen_heard (Hears (Strayed place at bytes)) is = tt
unseen_heard (Enters entry) is = tt
unseen_heard (Sends send) is = tt

module _ (journal : List Entry) (range : IsJournalInRange journal) where
  packet_bytes : (begun rest : List Entry) → journal ≡ begun ++ rest → (number : ℕ) (from to : NodeId) (bytes : List ℕ) → HasPacket begun number from to bytes → AreBytes bytes
  packet_bytes begun rest is number from to bytes p =
      let packet : Entry = entry.Packet number from to bytes in
      let whole : journal ≡ p.before ++ packet ∷ (p.behind ++ rest) = is ∙ (ap (λ (l : List Entry). l ++ rest) p.split ∙ append_assoc p.before (packet ∷ p.behind) rest) in
      are_bytes bytes (all_split IsEntryInRange p.before packet (p.behind ++ rest) (subst IsJournalInRange whole range))

  seen_heard : (node : NodeId) (begun rest : List Entry) → journal ≡ begun ++ rest → (item : HistoryItem) (e : Entry) → IsShownAs node begun (client_shown item) e → IsOfBytes item
  seen_heard node begun rest is (Hears (Recorded from bytes now)) (entry.Delivered number) shown = packet_bytes begun rest is number from node bytes shown
  seen_heard node begun rest is (Hears (Recorded from bytes now)) e shown = absurd shown
  seen_heard node begun rest is (Hears (Requested request)) e shown = tt
  seen_heard node begun rest is (Hears (TimeoutOf to)) e shown = tt
  seen_heard node begun rest is (Hears (Ticked now)) e shown = tt
  seen_heard node begun rest is (Hears LeftProtocol) e shown = tt
  seen_heard node begun rest is (Hears (Strayed place at bytes)) e shown = tt
  seen_heard node begun rest is (Enters entry) e shown = tt
  seen_heard node begun rest is (Sends send) e shown = tt

  all_heard : (node : NodeId) (begun : List Entry) (steps : List (WeaveStep HistoryItem)) (rest : List Entry) → journal ≡ begun ++ (entries_in steps ++ rest) → AreWoven client_shown node begun steps → AllByRecursion IsOfBytes (items_in steps)
  all_heard node begun [] rest is so = tt
  all_heard node begun (Passes e ∷ steps) rest is so = all_heard node (begun ++ e ∷ []) steps rest (is ∙ sym (append_assoc begun (e ∷ []) (entries_in steps ++ rest))) so
  all_heard node begun (Unseen item ∷ steps) rest is so = (unseen_heard item so.0, all_heard node begun steps rest is so.1)
  all_heard node begun (Seen item e ∷ steps) rest is so =
      (seen_heard node begun (e ∷ (entries_in steps ++ rest)) is item e so.0, all_heard node (begun ++ e ∷ []) steps rest (is ∙ sym (append_assoc begun (e ∷ []) (entries_in steps ++ rest))) so.1)

-- ---- so it is in range

one_in_range : (input : ClientInput) → IsOfBytes (Hears input) → IsInputOfScript input → IsInputInRange input
one_in_range (Requested (Open name)) heard asked = asked
one_in_range (Requested (Write at bytes)) heard asked = asked.1
one_in_range (Requested (Through at bytes)) heard asked = asked.1
one_in_range (Requested Commit) heard asked = tt
one_in_range (Requested (Read at count)) heard asked = asked
one_in_range (Requested Return) heard asked = tt
one_in_range (Recorded from bytes now) heard asked = heard
one_in_range (TimeoutOf to) heard asked = tt
one_in_range (Ticked now) heard asked = tt
one_in_range LeftProtocol heard asked = tt
one_in_range (Strayed place at bytes) heard asked = asked

all_in_range : (c : ClientValue) (inputs : List ClientInput) → AllByRecursion IsOfBytes (client_history c inputs) → AllByRecursion IsInputOfScript inputs → AllByRecursion IsInputInRange inputs
all_in_range c [] heard asked = tt
all_in_range c (input ∷ inputs) heard asked =
    let s = input_step input c in
    (one_in_range input heard.0 asked.0, all_in_range s.client inputs (all_second IsOfBytes (entered s.entries ++ sent s.sends) (client_history s.client inputs) heard.1) asked.1)

-- ---- what it asks

pub inputs_in_range : (journal : List Entry) → IsJournalInRange journal → (n : ℕ) (k : Life) (numbered : EachRunIsNumbered) → LifeFacts numbered n journal k → AllByRecursion IsInputInRange k.inputs
inputs_in_range journal range n k numbered f =
    let whole : journal ≡ k.begun ++ (entries_in k.steps ++ f.rest) = f.whole ∙ append_assoc k.begun (entries_in k.steps) f.rest in
    let heard : AllByRecursion IsOfBytes (items_in k.steps) = all_heard journal range (Client n) k.begun k.steps f.rest whole f.is.woven in
    all_in_range (start_of n k) k.inputs (subst (λ (l : List HistoryItem). AllByRecursion IsOfBytes l) (sym f.is.history) heard) f.asked

asks_in : (past h : List HistoryItem) (xid : ℕ) (name : List ℕ) (call : MdsCallValue) → Each AsksFit past h → HasItem h (Sends (CallsMds xid name call)) → FitsAsked name call
asks_in past [] xid name call each has = absurd has
asks_in past (x ∷ h) xid name call each (inl here) = subst (λ (item : HistoryItem). AsksFit past item) (sym here.0) each.0
asks_in past (x ∷ h) xid name call each (inr has) = asks_in (past ++ x ∷ []) h xid name call each.1 has

pub life_asks : EachRunAsksFit → (journal : List Entry) → IsJournalInRange journal → (n : ℕ) → n < 2 ^ 32 → (k : Life) (numbered : EachRunIsNumbered) → LifeFacts numbered n journal k → (xid : ℕ) (name : List ℕ) (call : MdsCallValue)
    → HasItem (items_in k.steps) (Sends (CallsMds xid name call)) → FitsAsked name call
life_asks fit journal range n small k numbered f xid name call has =
    let each : Each AsksFit [] (client_history (start_of n k) k.inputs) =
    fit n k.verifier k.first_xid k.inputs (record { number_fits = small; verifier_fits = f.verifier; first_fits = f.first }) (inputs_in_range journal range n k numbered f) in
    asks_in [] (client_history (start_of n k) k.inputs) xid name call each (subst (λ (l : List HistoryItem). HasItem l (Sends (CallsMds xid name call))) (sym f.is.history) has)
