-- Each call of a client, to a data server or to the metadata server, has a number of its own over all lives of it (RFC 5531, section 9).
use Rattle.std.proofs.Common.{◌≡◌, ◌<◌, ◌≤◌, ℕ, List, [], ◌∷◌, ◌++◌, Some, sym, ap, subst, ◌∙◌, inl, inr, ◌⊎◌, arith, append-nil, append_assoc}
use Rattle.std.proofs.lemmas.Option.{same_Some, none-some}
use Rattle.cluster_model.specs.Members.{IsOneOf}
use Rattle.rpc_record.specs.CallNumbers.{IsBelow}
use Rattle.client_state.specs.ClientStates.{fresh_client}
use Rattle.client_state.specs.ClientSends.{ClientSend, CallsServer, CallsMds, RepeatsToServer, RepeatsToMds, RepliesToMds}
use Rattle.client_calls.specs.ClientLaws.{new_number}
use Rattle.client_laws.specs.ClientHistory.{ClientInput, HistoryItem, Hears, Enters, Sends, HasItem, Each, client_history, client_after}
use Rattle.client_laws.proofs.Orders.{in_more, in_end}
use Rattle.client_records.specs.ClientRecords.{CallsAreBelow, IsNextNumber, NumbersSend, NumbersOn, IsNumberedOn, EachRunIsNumbered}
use Rattle.node_histories.specs.Weaves.{items_in}
use Rattle.node_histories.specs.ClientLives.{Life, start_of, client_of, AreLives}
use Rattle.world_reads.proofs.Lives.{first_fits}
use Rattle.world_holders.proofs.MuteClients.{CallsNone, StaysMute, stays_mute}

-- ---- of one history

heard_no_send : {A : Type 0} (send : ClientSend) (input : ClientInput) → Sends send ≡ Hears input → A
heard_no_send send input is = absurd cc

pub same_send : (x y : ClientSend) → Sends x ≡ Sends y → x ≡ y
same_send x y is = cc

below_call : (xid : ℕ) (past : List HistoryItem) (send : ClientSend) → CallsAreBelow xid past → HasItem past (Sends send) → new_number send ≡ Some xid → ⊥
below_call xid [] send below has is = has
below_call xid (Hears input ∷ past) send below (inl here) is = heard_no_send send input here.0
below_call xid (Hears input ∷ past) send below (inr has) is = below_call xid past send below has is
below_call xid (Enters e ∷ past) send below (inl here) is = not_entered here.0
  where
    not_entered : Sends send ≡ Enters e → ⊥
    not_entered same = absurd cc
below_call xid (Enters e ∷ past) send below (inr has) is = below_call xid past send below has is
below_call xid (Sends other ∷ past) send below (inl here) is =
    let less : IsBelow xid (Some xid) = subst (IsBelow xid) (sym (ap new_number (same_send send other here.0)) ∙ is) below.0 in
    absurd (omega (arith, less))
below_call xid (Sends other ∷ past) send below (inr has) is = below_call xid past send below.1 has is

next_number : (first : ℕ) (past : List HistoryItem) (send : ClientSend) (xid : ℕ) → NumbersSend first past send → new_number send ≡ Some xid → IsNextNumber first past xid
next_number first past (CallsServer server number name uid call) xid next is = subst (IsNextNumber first past) (same_Some number xid is) next
next_number first past (CallsMds number name call) xid next is = subst (IsNextNumber first past) (same_Some number xid is) next
next_number first past (RepeatsToServer server number name uid call) xid next is = absurd (none-some xid is)
next_number first past (RepeatsToMds number message) xid next is = absurd (none-some xid is)
next_number first past (RepliesToMds reply) xid next is = absurd (none-some xid is)

number_here : (first : ℕ) (past : List HistoryItem) (x : HistoryItem) (send : ClientSend) (xid : ℕ) → NumbersOn first past x → Sends send ≡ x → new_number send ≡ Some xid → IsNextNumber first past xid
number_here first past x send xid numbers here is = next_number first past send xid (subst (λ (item : HistoryItem). NumbersOn first past item) (sym here) numbers) is

not_later : (first : ℕ) (past h : List HistoryItem) (xid : ℕ) (send other : ClientSend) → Each (NumbersOn first) past h → HasItem past (Sends send) → new_number send ≡ Some xid → HasItem h (Sends other) → new_number other ≡ Some xid → ⊥
not_later first past [] xid send other each was is has also = has
not_later first past (x ∷ h) xid send other each was is (inl here) also = below_call xid past send (number_here first past x other xid each.0 here.0 also).above was is
not_later first past (x ∷ h) xid send other each was is (inr has) also = not_later first (past ++ x ∷ []) h xid send other each.1 (in_more (Sends send ∷ []) past (x ∷ []) was) is has also

now_last : (past : List HistoryItem) (x : HistoryItem) (send : ClientSend) → Sends send ≡ x → HasItem (past ++ x ∷ []) (Sends send)
now_last past x send here = subst (λ (item : HistoryItem). HasItem (past ++ item ∷ []) (Sends send)) here (in_end past (Sends send))

-- two calls of one number are one
pub one_call : (first : ℕ) (past h : List HistoryItem) (xid : ℕ) (send other : ClientSend) → Each (NumbersOn first) past h → HasItem h (Sends send) → new_number send ≡ Some xid → HasItem h (Sends other) → new_number other ≡ Some xid → Sends send ≡ Sends other
one_call first past [] xid send other each has is there also = absurd has
one_call first past (x ∷ h) xid send other each (inl here) is (inl there) also = here.0 ∙ sym there.0
one_call first past (x ∷ h) xid send other each (inl here) is (inr there) also = absurd (not_later first (past ++ x ∷ []) h xid send other each.1 (now_last past x send here.0) is there also)
one_call first past (x ∷ h) xid send other each (inr has) is (inl there) also = absurd (not_later first (past ++ x ∷ []) h xid other send each.1 (now_last past x other there.0) also has is)
one_call first past (x ∷ h) xid send other each (inr has) is (inr there) also = one_call first (past ++ x ∷ []) h xid send other each.1 has is there also

-- and stands there once
pub none_before : (first : ℕ) (a b : List HistoryItem) (xid : ℕ) (send other : ClientSend) → Each (NumbersOn first) [] (a ++ Sends send ∷ b) → new_number send ≡ Some xid → HasItem a (Sends other) → new_number other ≡ Some xid → ⊥
none_before first a b xid send other each is has also = below_call xid a other (next_number first a send xid (each_there [] a b each) is).above has also
  where
    each_there : (past a b : List HistoryItem) → Each (NumbersOn first) past (a ++ Sends send ∷ b) → NumbersSend first (past ++ a) send
    each_there past [] b each = subst (λ (l : List HistoryItem). NumbersSend first l send) (sym (append-nil past)) each.0
    each_there past (x ∷ a) b each = subst (λ (l : List HistoryItem). NumbersSend first l send) (append_assoc past (x ∷ []) a) (each_there (past ++ x ∷ []) a b each.1)

from_first : (first : ℕ) (past h : List HistoryItem) (xid : ℕ) (send : ClientSend) → Each (NumbersOn first) past h → HasItem h (Sends send) → new_number send ≡ Some xid → first ≤ xid
from_first first past [] xid send each has is = absurd has
from_first first past (x ∷ h) xid send each (inl here) is = (number_here first past x send xid each.0 here.0 is).from_first
from_first first past (x ∷ h) xid send each (inr has) is = from_first first (past ++ x ∷ []) h xid send each.1 has is

below_next : (next : ℕ) (h : List HistoryItem) (xid : ℕ) (send : ClientSend) → CallsAreBelow next h → HasItem h (Sends send) → new_number send ≡ Some xid → xid < next
below_next next [] xid send below has is = absurd has
below_next next (Hears input ∷ h) xid send below (inl here) is = heard_no_send send input here.0
below_next next (Hears input ∷ h) xid send below (inr has) is = below_next next h xid send below has is
below_next next (Enters e ∷ h) xid send below (inl here) is = absurd (not_entered here.0)
  where
    not_entered : Sends send ≡ Enters e → ⊥
    not_entered same = absurd cc
below_next next (Enters e ∷ h) xid send below (inr has) is = below_next next h xid send below has is
below_next next (Sends other ∷ h) xid send below (inl here) is = subst (IsBelow next) (sym (ap new_number (same_send send other here.0)) ∙ is) below.0
below_next next (Sends other ∷ h) xid send below (inr has) is = below_next next h xid send below.1 has is

-- a client that is mute makes no call
no_call : (past : List HistoryItem) (send : ClientSend) (xid : ℕ) → CallsNone past (Sends send) → new_number send ≡ Some xid → ⊥
no_call past (CallsServer server number name uid call) xid none is = none
no_call past (CallsMds number name call) xid none is = none
no_call past (RepeatsToServer server number name uid call) xid none is = none-some xid is
no_call past (RepeatsToMds number message) xid none is = none-some xid is
no_call past (RepliesToMds reply) xid none is = none-some xid is

calls_none : (past h : List HistoryItem) (send : ClientSend) (xid : ℕ) → Each CallsNone past h → HasItem h (Sends send) → new_number send ≡ Some xid → ⊥
calls_none past [] send xid each has is = has
calls_none past (x ∷ h) send xid each (inl here) is = no_call past send xid (subst (λ (item : HistoryItem). CallsNone past item) (sym here.0) each.0) is
calls_none past (x ∷ h) send xid each (inr has) is = calls_none (past ++ x ∷ []) h send xid each.1 has is

-- ---- of all lives of a client

-- a number of a life is below the first of those behind it, or these have none
abbrev IsUsedBefore : ℕ → ℕ → Type 0
IsUsedBefore xid first = (xid < first) ⊎ (first ≡ 0)

mute_from : (n verifier first : ℕ) (inputs : List ClientInput) → first ≡ 0 → Each CallsNone [] (client_history (fresh_client n verifier first) inputs) × ((client_after (fresh_client n verifier first) inputs).next_xid ≡ 0)
mute_from n verifier first inputs is =
    let s : StaysMute n verifier inputs = stays_mute n verifier inputs in
    subst (λ (x : ℕ). Each CallsNone [] (client_history (fresh_client n verifier x) inputs) × ((client_after (fresh_client n verifier x) inputs).next_xid ≡ 0)) (sym is) (s.none, s.spent)

-- a call of this number is one of its items
abbrev pub HasCall : Life → ClientSend → ℕ → Type 0
HasCall l send xid = HasItem (items_in l.steps) (Sends send) × (new_number send ≡ Some xid)

module _ (numbered : EachRunIsNumbered) (n : ℕ) where
  history_of : (l : Life) (older : List Life) → AreLives n l older → client_history (start_of n l) l.inputs ≡ items_in l.steps
  history_of l [] lives = lives.0.history
  history_of l (old ∷ older) lives = lives.0.history

  pub each_number : (l : Life) (older : List Life) → AreLives n l older → Each (NumbersOn l.first_xid) [] (items_in l.steps)
  each_number l older lives = subst (λ (h : List HistoryItem). Each (NumbersOn l.first_xid) [] h) (history_of l older lives) (numbered n l.verifier l.first_xid l.inputs (first_fits numbered n l older lives)).0

  next_of : (l : Life) (older : List Life) → AreLives n l older → IsNumberedOn l.first_xid (items_in l.steps) (client_of n l).next_xid
  next_of l older lives =
      subst (λ (h : List HistoryItem). IsNumberedOn l.first_xid h (client_of n l).next_xid) (history_of l older lives) (numbered n l.verifier l.first_xid l.inputs (first_fits numbered n l older lives)).1

  silent : (l : Life) (older : List Life) → AreLives n l older → l.first_xid ≡ 0 → (send : ClientSend) (xid : ℕ) → HasCall l send xid → ⊥
  silent l older lives none send xid has =
      calls_none [] (items_in l.steps) send xid (subst (λ (h : List HistoryItem). Each CallsNone [] h) (history_of l older lives) (mute_from n l.verifier l.first_xid l.inputs none).0) has.0 has.1

  -- what was used before the first number is so before the next
  goes_on : (l : Life) (older : List Life) → AreLives n l older → (xid : ℕ) → IsUsedBefore xid l.first_xid → IsUsedBefore xid (client_of n l).next_xid
  goes_on l older lives xid (inr none) = inr (mute_from n l.verifier l.first_xid l.inputs none).1
  goes_on l older lives xid (inl less) = by_next (next_of l older lives)
    where
      by_next : IsNumberedOn l.first_xid (items_in l.steps) (client_of n l).next_xid → IsUsedBefore xid (client_of n l).next_xid
      by_next (inl spent) = inr spent
      by_next (inr (from, fits, above)) = inl (omega (arith, less, from))

  its_own : (l : Life) (older : List Life) → AreLives n l older → (send : ClientSend) (xid : ℕ) → HasCall l send xid → IsUsedBefore xid (client_of n l).next_xid
  its_own l older lives send xid has = by_next (next_of l older lives)
    where
      by_next : IsNumberedOn l.first_xid (items_in l.steps) (client_of n l).next_xid → IsUsedBefore xid (client_of n l).next_xid
      by_next (inl spent) = inr spent
      by_next (inr (from, fits, above)) = inl (below_next (client_of n l).next_xid (items_in l.steps) xid send above has.0 has.1)

  -- a call of an older life
  used_before : (l : Life) (older : List Life) → AreLives n l older → (k : Life) → IsOneOf k older → (send : ClientSend) (xid : ℕ) → HasCall k send xid → IsUsedBefore xid l.first_xid
  used_before l [] lives k inside send xid has = absurd inside
  used_before l (old ∷ older) lives k (inl same) send xid has = subst (IsUsedBefore xid) (sym lives.1.numbered_on) (its_own old older lives.2 send xid (subst (λ (x : Life). HasCall x send xid) same has))
  used_before l (old ∷ older) lives k (inr inside) send xid has = subst (IsUsedBefore xid) (sym lives.1.numbered_on) (goes_on old older lives.2 xid (used_before old older lives.2 k inside send xid has))

  not_both : (l : Life) (older : List Life) → AreLives n l older → (k : Life) → IsOneOf k older → (send other : ClientSend) (xid : ℕ) → HasCall l send xid → HasCall k other xid → ⊥
  not_both l older lives k inside send other xid has also = by_number (used_before l older lives k inside other xid also)
    where
      by_number : IsUsedBefore xid l.first_xid → ⊥
      by_number (inl less) = let from = from_first l.first_xid [] (items_in l.steps) xid send (each_number l older lives) has.0 has.1 in absurd (omega (arith, less, from))
      by_number (inr none) = silent l older lives none send xid has

  -- two calls of one number are one, of one life
  pub same_call : (l : Life) (older : List Life) → AreLives n l older → (k j : Life) → (k ≡ l) ⊎ IsOneOf k older → (j ≡ l) ⊎ IsOneOf j older → (send other : ClientSend) (xid : ℕ) → HasCall k send xid → HasCall j other xid → (k ≡ j) × (Sends send ≡ Sends other)
  same_call l older lives k j (inl x) (inl y) send other xid has also =
      let first : HasCall l send xid = subst (λ (z : Life). HasCall z send xid) x has in
      let second : HasCall l other xid = subst (λ (z : Life). HasCall z other xid) y also in
      (x ∙ sym y, one_call l.first_xid [] (items_in l.steps) xid send other (each_number l older lives) first.0 first.1 second.0 second.1)
  same_call l older lives k j (inl x) (inr y) send other xid has also = absurd (not_both l older lives j y send other xid (subst (λ (z : Life). HasCall z send xid) x has) also)
  same_call l older lives k j (inr x) (inl y) send other xid has also = absurd (not_both l older lives k x other send xid (subst (λ (z : Life). HasCall z other xid) y also) has)
  same_call l [] lives k j (inr x) (inr y) send other xid has also = absurd x
  same_call l (old ∷ older) lives k j (inr x) (inr y) send other xid has also = same_call old older lives.2 k j x y send other xid has also
