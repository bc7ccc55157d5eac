-- What a client sends the metadata server: a reply, or a compound of one of its lives; and two compounds under one number are one record.
use Rattle.std.proofs.Common.{◌≡◌, ◌<◌, ◌≤◌, ℕ, ◌^◌, List, [], ◌∷◌, ◌++◌, refl, sym, ap, subst, ◌∙◌, inl, inr, ◌⊎◌, arith, append-nil, append_assoc}
use Rattle.cluster_model.specs.declared.ids.NodeId.{NodeId}
use Rattle.cluster_model.specs.declared.ids.NodeId.TheVariants.{Mds, Server, Client}
use Rattle.cluster_model.specs.declared.entry.Entry.{Entry}
use Rattle.cluster_model.specs.declared.entry.Entry.TheVariants as entry
use Rattle.rpc_record.specs.Replies.{RpcReply, reply_bytes}
use Rattle.cluster_model.specs.Members.{IsOneOf}
use Rattle.client_mds_calls.specs.MdsCalls.{MdsCallValue}
use Rattle.client_mds_calls.specs.MdsCompounds.{mds_call_bytes}
use Rattle.client_mds_calls.specs.MdsCallLaws.{HasCompoundRecord}
use Rattle.client_state.specs.ClientStates.{fresh_client}
use Rattle.client_state.specs.ClientSends.{ClientSend, CallsServer, CallsMds, RepeatsToServer, RepeatsToMds, RepliesToMds, spelled_send}
use Rattle.client_laws.specs.ClientHistory.{ClientInput, HistoryItem, Sends, HasItem, Each, client_history, client_after}
use Rattle.client_laws.proofs.Orders.{in_more}
use Rattle.client_records.specs.ClientRecords.{NumbersOn, WasAskedAs, IsNumberedOn, EachRunIsSpelled, EachRunIsNumbered}
use Rattle.node_histories.specs.Weaves.{WeaveStep, Seen, items_in, AreWoven, StandsInWeave}
use Rattle.node_histories.specs.ClientLives.{client_shown, Life, start_of, client_of, AreLives}
use Rattle.node_histories.proofs.WeaveLemmas.{items_join, IsSeenAt, seen_at}
use Rattle.world_journal.specs.Journal.{IsJournalInRange}
use Rattle.world_reads.proofs.SilentClients.{AsksNone, StaysSilent, stays_silent}
use Rattle.world_reads.proofs.Lives.{LifeFacts, first_fits}
use Rattle.world_reads.proofs.LifeRecords.{compound, life_spelled, one_compound, from_first, below_next}

-- ---- items of a history

has_middle : (a b : List HistoryItem) (item : HistoryItem) → HasItem (a ++ item ∷ b) item
has_middle [] b item = inl (refl, tt)
has_middle (x ∷ a) b item = inr (has_middle a b item)

each_at : (P : List HistoryItem → HistoryItem → Type 0) (past a b : List HistoryItem) (item : HistoryItem) → Each P past (a ++ item ∷ b) → P (past ++ a) item
each_at P past [] b item each = subst (λ (l : List HistoryItem). P l item) (sym (append-nil past)) each.0
each_at P past (x ∷ a) b item each = subst (λ (l : List HistoryItem). P l item) (append_assoc past (x ∷ []) a) (each_at P (past ++ x ∷ []) a b item each.1)

asks_none : (past h : List HistoryItem) (xid : ℕ) (name : List ℕ) (call : MdsCallValue) → Each AsksNone past h → HasItem h (compound xid name call) → ⊥
asks_none past [] xid name call each has = has
asks_none past (x ∷ h) xid name call each (inl here) = subst (λ (item : HistoryItem). AsksNone past item) (sym here.0) each.0
asks_none past (x ∷ h) xid name call each (inr has) = asks_none (past ++ x ∷ []) h xid name call each.1 has

-- ---- the record of a packet

-- a reply to a callback, or a compound that a life of the client sends
pub data ClientRecord (Lives : Life → Type 0) (bytes : List ℕ) : Type 0 where
  RepliesSo : (r : RpcReply) → bytes ≡ reply_bytes r → ClientRecord Lives bytes
  AsksSo : (k : Life) → Lives k → (xid : ℕ) (name : List ℕ) (call : MdsCallValue) → HasItem (items_in k.steps) (compound xid name call) → HasCompoundRecord (record { xid = xid; owner = name; call = call }) → bytes ≡ mds_call_bytes xid name call
      → ClientRecord Lives bytes

module _ (spelled : EachRunIsSpelled) (numbered : EachRunIsNumbered) (journal : List Entry) (range : IsJournalInRange journal) (n : ℕ) (small : n < 2 ^ 32) (Lives : Life → Type 0) (facts : (k : Life) → Lives k → LifeFacts numbered n journal k) where
  numbers_in : (k : Life) → Lives k → Each (NumbersOn k.first_xid) [] (items_in k.steps)
  numbers_in k inside = let f = facts k inside in subst (λ (l : List HistoryItem). Each (NumbersOn k.first_xid) [] l) f.is.history (numbered n k.verifier k.first_xid k.inputs f.first).0

  asks_so : (k : Life) → Lives k → (bytes : List ℕ) (xid : ℕ) (name : List ℕ) (call : MdsCallValue) → HasItem (items_in k.steps) (compound xid name call) → bytes ≡ mds_call_bytes xid name call → ClientRecord Lives bytes
  asks_so k inside bytes xid name call has is = AsksSo k inside xid name call has (life_spelled spelled journal range n small k numbered (facts k inside) (CallsMds xid name call) has) is

  no_server : (k : ℕ) → Mds ≡ Server k → ⊥
  no_server k same = absurd cc

  record_of_send : (k : Life) → Lives k → (bytes : List ℕ) (earlier later : List (WeaveStep HistoryItem)) (e : Entry) (send : ClientSend) → k.steps ≡ earlier ++ Seen (Sends send) e ∷ later → Mds ≡ (spelled_send send).0 → bytes ≡ (spelled_send send).1 → ClientRecord Lives bytes
  record_of_send k inside bytes earlier later e (CallsServer server xid name uid call) split to is = absurd (no_server server to)
  record_of_send k inside bytes earlier later e (RepeatsToServer server xid name uid call) split to is = absurd (no_server server to)
  record_of_send k inside bytes earlier later e (RepliesToMds reply) split to is = RepliesSo reply is
  record_of_send k inside bytes earlier later e (CallsMds xid name call) split to is =
      let items : items_in k.steps ≡ items_in earlier ++ compound xid name call ∷ items_in later = ap (λ (l : List (WeaveStep HistoryItem)). items_in l) split ∙ items_join earlier (Seen (compound xid name call) e ∷ later) in
      asks_so k inside bytes xid name call (subst (λ (l : List HistoryItem). HasItem l (compound xid name call)) (sym items) (has_middle (items_in earlier) (items_in later) (compound xid name call))) is
  record_of_send k inside bytes earlier later e (RepeatsToMds xid message) split to is =
      let again : HistoryItem = Sends (RepeatsToMds xid message) in
      let items : items_in k.steps ≡ items_in earlier ++ again ∷ items_in later = ap (λ (l : List (WeaveStep HistoryItem)). items_in l) split ∙ items_join earlier (Seen again e ∷ later) in
      let was : WasAskedAs (items_in earlier) xid message = each_at (NumbersOn k.first_xid) [] (items_in earlier) (items_in later) again (subst (λ (l : List HistoryItem). Each (NumbersOn k.first_xid) [] l) items (numbers_in k inside)) in
      asks_so k inside bytes xid was.name was.call
      (subst (λ (l : List HistoryItem). HasItem l (compound xid was.name was.call)) (sym items) (in_more (compound xid was.name was.call ∷ []) (items_in earlier) (again ∷ items_in later) was.sent)) (is ∙ was.same)

  pub client_record : (k : Life) → Lives k → (past : List Entry) (number : ℕ) (bytes : List ℕ) (send : ClientSend) → StandsInWeave k.begun k.steps past (Sends send) (entry.Packet number (Client n) Mds bytes) → ClientRecord Lives bytes
  client_record k inside past number bytes send s =
      let f = facts k inside in
      let packet : Entry = entry.Packet number (Client n) Mds bytes in
      let seen : IsSeenAt client_shown (Client n) k.begun s.earlier (Sends send) packet s.later =
      seen_at client_shown (Client n) k.begun s.earlier (Sends send) packet s.later (subst (λ (l : List (WeaveStep HistoryItem)). AreWoven client_shown (Client n) k.begun l) s.split f.is.woven) in
      record_of_send k inside bytes s.earlier s.later packet send s.split seen.is.1 seen.is.2

-- ---- two compounds of one number

-- a number of a life is below the first of those behind it, or these have none
abbrev IsUsedBefore : ℕ → ℕ → Type 0
IsUsedBefore xid first = (xid < first) ⊎ (first ≡ 0)

-- from the first number on
silent_from : (n verifier first : ℕ) (inputs : List ClientInput) → first ≡ 0 → Each AsksNone [] (client_history (fresh_client n verifier first) inputs) × ((client_after (fresh_client n verifier first) inputs).next_xid ≡ 0)
silent_from n verifier first inputs is =
    let s : StaysSilent n verifier inputs = stays_silent n verifier inputs in
    subst (λ (x : ℕ). Each AsksNone [] (client_history (fresh_client n verifier x) inputs) × ((client_after (fresh_client n verifier x) inputs).next_xid ≡ 0)) (sym is) (s.none, s.spent)

module _ (numbered : EachRunIsNumbered) (n : ℕ) where
  history_of : (l : Life) (older : List Life) → AreLives n l older → client_history (start_of n l) l.inputs ≡ items_in l.steps
  history_of l [] lives = lives.0.history
  history_of l (old ∷ older) lives = lives.0.history

  each_number : (l : Life) (older : List Life) → AreLives n l older → Each (NumbersOn l.first_xid) [] (items_in l.steps)
  each_number l older lives = subst (λ (h : List HistoryItem). Each (NumbersOn l.first_xid) [] h) (history_of l older lives) (numbered n l.verifier l.first_xid l.inputs (first_fits numbered n l older lives)).0

  next_of : (l : Life) (older : List Life) → AreLives n l older → IsNumberedOn l.first_xid (items_in l.steps) (client_of n l).next_xid
  next_of l older lives =
      subst (λ (h : List HistoryItem). IsNumberedOn l.first_xid h (client_of n l).next_xid) (history_of l older lives) (numbered n l.verifier l.first_xid l.inputs (first_fits numbered n l older lives)).1

  silent : (l : Life) (older : List Life) → AreLives n l older → l.first_xid ≡ 0 → (xid : ℕ) (name : List ℕ) (call : MdsCallValue) → HasItem (items_in l.steps) (compound xid name call) → ⊥
  silent l older lives none xid name call has =
      asks_none [] (items_in l.steps) xid name call (subst (λ (h : List HistoryItem). Each AsksNone [] h) (history_of l older lives) (silent_from n l.verifier l.first_xid l.inputs none).0) has

  -- what was used before the first number is so before the next
  goes_on : (l : Life) (older : List Life) → AreLives n l older → (xid : ℕ) → IsUsedBefore xid l.first_xid → IsUsedBefore xid (client_of n l).next_xid
  goes_on l older lives xid (inr none) = inr (silent_from n l.verifier l.first_xid l.inputs none).1
  goes_on l older lives xid (inl less) = by_next (next_of l older lives)
    where
      by_next : IsNumberedOn l.first_xid (items_in l.steps) (client_of n l).next_xid → IsUsedBefore xid (client_of n l).next_xid
      by_next (inl spent) = inr spent
      by_next (inr (from, fits, above)) = inl (omega (arith, less, from))

  its_own : (l : Life) (older : List Life) → AreLives n l older → (xid : ℕ) (name : List ℕ) (call : MdsCallValue) → HasItem (items_in l.steps) (compound xid name call) → IsUsedBefore xid (client_of n l).next_xid
  its_own l older lives xid name call has = by_next (next_of l older lives)
    where
      by_next : IsNumberedOn l.first_xid (items_in l.steps) (client_of n l).next_xid → IsUsedBefore xid (client_of n l).next_xid
      by_next (inl spent) = inr spent
      by_next (inr (from, fits, above)) = inl (below_next (client_of n l).next_xid (items_in l.steps) xid name call above has)

  -- a compound of an older life
  used_before : (l : Life) (older : List Life) → AreLives n l older → (k : Life) → IsOneOf k older → (xid : ℕ) (name : List ℕ) (call : MdsCallValue) → HasItem (items_in k.steps) (compound xid name call) → IsUsedBefore xid l.first_xid
  used_before l [] lives k inside xid name call has = absurd inside
  used_before l (old ∷ older) lives k (inl same) xid name call has =
      subst (IsUsedBefore xid) (sym lives.1.numbered_on) (its_own old older lives.2 xid name call (subst (λ (x : Life). HasItem (items_in x.steps) (compound xid name call)) same has))
  used_before l (old ∷ older) lives k (inr inside) xid name call has =
      subst (IsUsedBefore xid) (sym lives.1.numbered_on) (goes_on old older lives.2 xid (used_before old older lives.2 k inside xid name call has))

  not_both : (l : Life) (older : List Life) → AreLives n l older → (k : Life) → IsOneOf k older → (xid : ℕ) (name other : List ℕ) (call asked : MdsCallValue) → HasItem (items_in l.steps) (compound xid name call)
      → HasItem (items_in k.steps) (compound xid other asked) → ⊥
  not_both l older lives k inside xid name other call asked has also = by_number (used_before l older lives k inside xid other asked also)
    where
      by_number : IsUsedBefore xid l.first_xid → ⊥
      by_number (inl less) = let from = from_first l.first_xid [] (items_in l.steps) xid name call (each_number l older lives) has in absurd (omega (arith, less, from))
      by_number (inr none) = silent l older lives none xid name call has

  pub same_compound : (l : Life) (older : List Life) → AreLives n l older → (k j : Life) → (k ≡ l) ⊎ IsOneOf k older → (j ≡ l) ⊎ IsOneOf j older → (xid : ℕ) (name other : List ℕ) (call asked : MdsCallValue)
      → HasItem (items_in k.steps) (compound xid name call) → HasItem (items_in j.steps) (compound xid other asked) → compound xid name call ≡ compound xid other asked
  same_compound l older lives k j (inl x) (inl y) xid name other call asked has also =
      one_compound l.first_xid [] (items_in l.steps) xid name other call asked (each_number l older lives) (subst (λ (z : Life). HasItem (items_in z.steps) (compound xid name call)) x has)
      (subst (λ (z : Life). HasItem (items_in z.steps) (compound xid other asked)) y also)
  same_compound l older lives k j (inl x) (inr y) xid name other call asked has also =
      absurd (not_both l older lives j y xid name other call asked (subst (λ (z : Life). HasItem (items_in z.steps) (compound xid name call)) x has) also)
  same_compound l older lives k j (inr x) (inl y) xid name other call asked has also =
      absurd (not_both l older lives k x xid other name asked call (subst (λ (z : Life). HasItem (items_in z.steps) (compound xid other asked)) y also) has)
  same_compound l [] lives k j (inr x) (inr y) xid name other call asked has also = absurd x
  same_compound l (old ∷ older) lives k j (inr x) (inr y) xid name other call asked has also = same_compound old older lives.2 k j x y xid name other call asked has also
