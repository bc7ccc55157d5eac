-- What a life sends behind a reply that it heard comes to the metadata server behind the event in which the reply was sent.
use Rattle.std.proofs.Common.{◌≡◌, ◌<◌, ◌≤◌, ℕ, ◌+◌, Bool, true, false, length, List, [], ◌∷◌, ◌++◌, refl, sym, ap, subst, ◌∙◌, inl, inr, arith, append_assoc, length-append}
use Rattle.std.specs.Prelude.{nat_le, map}
use Rattle.std.proofs.lemmas.Bool.Decides.{nat_tests}
use Rattle.std.proofs.lemmas.Bool.{leb-true}
use Rattle.rpc_record.specs.Replies.{RpcReply}
use Rattle.cluster_model.specs.declared.ids.NodeId.TheVariants.{Mds, Client}
use Rattle.cluster_model.specs.declared.entry.Entry.{Entry}
use Rattle.cluster_model.specs.declared.entry.Entry.TheVariants as entry
use Rattle.world_rule.specs.ClusterWorlds.{ClusterState}
use Rattle.client_mds_calls.specs.MdsCalls.{MdsCallValue}
use Rattle.mds_rule.specs.MdsStates.{MdsValue, new_mds}
use Rattle.mds_walk.specs.MdsRuns.{MdsEvent, after_event}
use Rattle.mds_histories.specs.MdsHistory.{MdsItem, Comes, Enters, Sends, mds_history}
use Rattle.mds_replies.specs.ClientCalls.{server_after, IsEventOf}
use Rattle.client_records.specs.ClientRecords.{NumbersOn, EachRunIsNumbered}
use Rattle.client_laws.specs.ClientHistory.{HistoryItem, HasItem, Each}
use Rattle.client_laws.proofs.Orders.{in_more}
use Rattle.node_histories.specs.Weaves.{WeaveStep, Seen, entries_in, items_in}
use Rattle.node_histories.specs.ClientLives.{Life}
use Rattle.node_histories.specs.NodeHistories.{HasLife, IsToldByNodes}
use Rattle.node_histories.proofs.WeaveLemmas.{entries_join, items_join}
use Rattle.world_reads.proofs.Steps.{Splits, Longer, Shorter, splits}
use Rattle.world_reads.proofs.LifeRecords.{compound, below_next}
use Rattle.world_layouts.proofs.LifeSends.{LifeSteps, each_at, hearing_from, HeardAt, LifeIs, life_is}
use Rattle.world_layouts.proofs.RepliesHeard.{AnswersCall}
use Rattle.world_layouts.proofs.OwnCalls.{CalledOwn}

-- ---- lists

pub less_or : (a b : ℕ) → (a ≤ b → ⊥) → b < a
less_or a b not = by_test (nat_le a b) refl
  where
    by_test : (t : Bool) → nat_le a b ≡ t → b < a
    by_test true is = absurd (not (leb-true a b is))
    by_test false is = grind (arith, nat_tests, is)

-- of two beginnings of one list the shorter is a beginning of the longer
pub record Begins {A : Type 0} (a c : List A) : Type 0 where
  pub more : List A
  pub is : c ≡ a ++ more

pub begins : {A : Type 0} (a b c d : List A) → a ++ b ≡ c ++ d → length a ≤ length c → Begins a c
begins {A = A} a b c d is less = by_split (splits a b c d is)
  where
    by_split : Splits a b c d → Begins a c
    by_split (Longer middle first second) = record { more = middle; is = first }
    by_split (Shorter x middle first second) =
        let size = ap (λ (l : List A). length l) first in
        let parts = length-append c (x ∷ middle) in
        absurd (omega (arith, less, size, parts))

-- with the element behind it, where it is shorter
pub record BeginsWith {A : Type 0} (a : List A) (x : A) (c : List A) : Type 0 where
  pub more : List A
  pub is : c ≡ a ++ x ∷ more

pub begins_with : {A : Type 0} (a : List A) (x : A) (b c d : List A) → a ++ x ∷ b ≡ c ++ d → length a < length c → BeginsWith a x c
begins_with {A = A} a x b c d is less =
    let one : length (a ++ x ∷ []) ≡ length a + 1 = length-append a (x ∷ []) in
    let r : Begins (a ++ x ∷ []) c = begins (a ++ x ∷ []) b c d (append_assoc a (x ∷ []) b ∙ is) (omega (arith, one, less)) in
    record { more = r.more; is = r.is ∙ append_assoc a (x ∷ []) r.more }

-- ---- weaves

-- of two beginnings of one weave the one with fewer items has no more entries
fewer_entries : {I : Type 0} (a b c d : List (WeaveStep I)) → a ++ b ≡ c ++ d → length (items_in a) < length (items_in c) → length (entries_in a) ≤ length (entries_in c)
fewer_entries {I = I} a b c d is less = by_split (splits a b c d is)
  where
    by_split : Splits a b c d → length (entries_in a) ≤ length (entries_in c)
    by_split (Longer middle first second) =
        let size = ap (λ (l : List (WeaveStep I)). length (entries_in l)) first in
        let joined = ap (λ (l : List Entry). length l) (entries_join a middle) in
        let parts = length-append (entries_in a) (entries_in middle) in
        omega (arith, size, joined, parts)
    by_split (Shorter x middle first second) =
        let size = ap (λ (l : List (WeaveStep I)). length (items_in l)) first in
        let joined = ap (λ (l : List I). length l) (items_join c (x ∷ middle)) in
        let parts = length-append (items_in c) (items_in (x ∷ middle)) in
        absurd (omega (arith, less, size, joined, parts))

-- a history of fewer events is not longer
history_grows : (m : MdsValue) (before more : List MdsEvent) → length (mds_history m before) ≤ length (mds_history m (before ++ more))
history_grows m [] more = omega arith
history_grows m (e ∷ before) more =
    let items : List MdsItem = Comes e ∷ (map Enters (after_event e m).entries ++ map Sends (after_event e m).sends) in
    let rest = history_grows (after_event e m).mds before more in
    let first = length-append items (mds_history (after_event e m).mds before) in
    let second = length-append items (mds_history (after_event e m).mds (before ++ more)) in
    omega (arith, rest, first, second)

-- ---- a compound that a life sent

pub has_middle : (a b : List HistoryItem) (x : HistoryItem) → HasItem (a ++ x ∷ b) x
has_middle [] b x = inl (refl, tt)
has_middle (y ∷ a) b x = inr (has_middle a b x)

module _ (w : ClusterState) (t : IsToldByNodes w) (numbered : EachRunIsNumbered) (n : ℕ) (l : Life) (its : HasLife t.stories n l) where
  -- it did not go out before
  sent_once : (a b : List HistoryItem) (xid : ℕ) (name : List ℕ) (call : MdsCallValue) → items_in l.steps ≡ a ++ compound xid name call ∷ b → HasItem a (compound xid name call) → ⊥
  sent_once a b xid name call is has =
      let i : LifeIs w t n numbered l = life_is w t numbered n l its in
      let next = each_at (NumbersOn l.first_xid) [] a b (compound xid name call) (subst (λ (h : List HistoryItem). Each (NumbersOn l.first_xid) [] h) is i.numbers) in
      let less : xid < xid = below_next xid a xid name call next.above has in
      omega (arith, less)

  -- steps that have it have all that went before it, and it
  pub has_before : (a b : List HistoryItem) (xid : ℕ) (name : List ℕ) (call : MdsCallValue) → items_in l.steps ≡ a ++ compound xid name call ∷ b → (upto rest : LifeSteps) → l.steps ≡ upto ++ rest → HasItem (items_in upto) (compound xid name call)
      → length a < length (items_in upto)
  has_before a b xid name call is upto rest split has = by_split (splits (items_in upto) (items_in rest) a (compound xid name call ∷ b) (sym (ap (λ (s : LifeSteps). items_in s) split ∙ items_join upto rest) ∙ is))
    where
      by_split : Splits (items_in upto) (items_in rest) a (compound xid name call ∷ b) → length a < length (items_in upto)
      by_split (Longer middle first second) =
          absurd (sent_once a b xid name call is (subst (λ (h : List HistoryItem). HasItem h (compound xid name call)) (sym first) (in_more (compound xid name call ∷ []) (items_in upto) middle has)))
      by_split (Shorter x middle first second) =
          let size = ap (λ (h : List HistoryItem). length h) first in
          let parts = length-append a (x ∷ middle) in
          omega (arith, size, parts)

  -- where it went out behind a reply that was heard, it comes behind the event in which this was sent
  pub comes_later : (past : List HistoryItem) (bytes : List ℕ) (now : ℕ) (behind : List HistoryItem) (h : HeardAt n l past Mds bytes now behind) (reply : RpcReply) (ans : AnswersCall t h.packet.before n reply) (a b : List HistoryItem) (xid : ℕ) (name : List ℕ)
      (call : MdsCallValue) → items_in l.steps ≡ a ++ compound xid name call ∷ b → length past < length a → (early late : List MdsEvent) (f : MdsEvent) → IsEventOf t.mds.events early f late → CalledOwn t n l early late f xid name call
      → length ans.before < length early
  comes_later past bytes now behind h reply ans a b xid name call is less early late f split c = less_or (length early) (length ans.before) not
    where
      heard_step : WeaveStep HistoryItem
      heard_step = Seen (hearing_from Mds bytes now) (entry.Delivered h.number)

      more_entries : length (entries_in h.earlier) + 1 ≤ length (entries_in c.upto)
      more_entries = by_split (splits (h.earlier ++ Seen (hearing_from Mds bytes now) (entry.Delivered h.number) ∷ []) h.later c.upto c.rest
          (append_assoc h.earlier (Seen (hearing_from Mds bytes now) (entry.Delivered h.number) ∷ []) h.later ∙ (sym h.split ∙ c.split)))
        where
          by_split : Splits (h.earlier ++ Seen (hearing_from Mds bytes now) (entry.Delivered h.number) ∷ []) h.later c.upto c.rest → length (entries_in h.earlier) + 1 ≤ length (entries_in c.upto)
          by_split (Longer middle first second) =
              let size = ap (λ (s : LifeSteps). length (entries_in s)) first in
              let outer = ap (λ (x : List Entry). length x) (entries_join (h.earlier ++ Seen (hearing_from Mds bytes now) (entry.Delivered h.number) ∷ []) middle) in
              let outer_parts = length-append (entries_in (h.earlier ++ Seen (hearing_from Mds bytes now) (entry.Delivered h.number) ∷ [])) (entries_in middle) in
              let inner = ap (λ (x : List Entry). length x) (entries_join h.earlier (Seen (hearing_from Mds bytes now) (entry.Delivered h.number) ∷ [])) in
              let inner_parts = length-append (entries_in h.earlier) (entry.Delivered h.number ∷ []) in
              omega (arith, size, outer, outer_parts, inner, inner_parts)
          by_split (Shorter x middle first second) =
              let size = ap (λ (s : LifeSteps). length (items_in s)) first in
              let left = ap (λ (x : List HistoryItem). length x) (items_join h.earlier (Seen (hearing_from Mds bytes now) (entry.Delivered h.number) ∷ [])) in
              let left_parts = length-append (items_in h.earlier) (hearing_from Mds bytes now ∷ []) in
              let right = ap (λ (x : List HistoryItem). length x) (items_join c.upto (x ∷ middle)) in
              let right_parts = length-append (items_in c.upto) (items_in (x ∷ middle)) in
              let heard = ap (λ (x : List HistoryItem). length x) h.earlier_items in
              let sent = has_before a b xid name call is c.upto c.rest c.split c.has in
              absurd (omega (arith, less, size, left, left_parts, right, right_parts, heard, sent))

      not : length early ≤ length ans.before → ⊥
      not few =
          let m : MdsValue = new_mds t.mds.servers t.mds.mirrors in
          let step : List MdsItem = Comes ans.e ∷ (map Enters (after_event ans.e (server_after t.mds.servers t.mds.mirrors ans.before)).entries ++ map Sends ans.front) in
          let e : Begins early ans.before = begins early (f ∷ late) ans.before (ans.e ∷ ans.after) (sym split ∙ ans.split) few in
          let grown = history_grows m early e.more in
          let same = ap (λ (x : List MdsEvent). length (mds_history m x)) e.is in
          let first_items = ap (λ (x : List MdsItem). length x) c.arrival.earlier_items in
          let second_items = ap (λ (x : List MdsItem). length x) ans.items in
          let second_parts = length-append (mds_history m ans.before) step in
          let fewer = fewer_entries c.arrival.earlier _ ans.earlier ans.later (sym c.arrival.split ∙ ans.steps) (omega (arith, grown, same, first_items, second_items, second_parts)) in
          let place = ap (λ (x : List Entry). length x) ans.place in
          let place_parts = length-append (entries_in ans.earlier) ans.since in
          let packet = ap (λ (x : List Entry). length x) h.packet.split in
          let packet_parts = length-append h.packet.before (entry.Packet h.number Mds (Client n) bytes ∷ h.packet.behind) in
          let begun_parts = length-append l.begun (entries_in h.earlier) in
          let arrived = ap (λ (x : List Entry). length x) c.place in
          let arrived_parts = length-append (l.begun ++ entries_in c.upto) c.since in
          let upto_parts = length-append l.begun (entries_in c.upto) in
          let more = more_entries in
          omega (arith, fewer, place, place_parts, packet, packet_parts, begun_parts, arrived, arrived_parts, upto_parts, more)
