-- The request that took effect under a number of a session on which a life asks is one of this life.
use Rattle.std.proofs.Common.{◌≡◌, ◌<◌, ℕ, ◌^◌, true, length, List, [], ◌∷◌, ◌++◌, Some, None, refl, sym, ap, subst, ◌∙◌, inl, inr, append_assoc}
use Rattle.std.specs.Prelude.{◌==◌}
use Rattle.std.proofs.lemmas.Bool.{and_parts, eqb-true}
use Rattle.cluster_model.specs.declared.ids.NodeId.{NodeId}
use Rattle.cluster_model.specs.declared.ids.NodeId.TheVariants.{Client}
use Rattle.cluster_model.specs.declared.entry.Entry.{Entry}
use Rattle.world_rule.specs.ClusterWorlds.{ClusterState}
use Rattle.nfs4_types.specs.declared.ids.SessionId.{SessionId}
use Rattle.nfs4_types.specs.declared.sequence.Sequence.{Sequence}
use Rattle.nfs4_session.specs.Clients.{client_in, number_in}
use Rattle.table_slots.specs.TableSlots.{is_of_session}
use Rattle.nfs4_compound.specs.Compounds.{CompoundValue}
use Rattle.client_mds_calls.specs.MdsCalls.{MdsCallValue, ExchangeId, CreateSession, OnSlot, SlotCallValue}
use Rattle.client_mds_calls.specs.MdsCompounds.{mds_ops}
use Rattle.mds_walk.specs.MdsRuns.{MdsEvent}
use Rattle.mds_walk.specs.FirstRequests.{first_request}
use Rattle.mds_replies.specs.ClientCalls.{IsCallFrom, IsEventOf}
use Rattle.mds_replies.specs.SlotReplies.{request_of}
use Rattle.client_state.specs.ClientStates.{client_name}
use Rattle.client_laws.specs.ClientHistory.{HistoryItem, HasItem}
use Rattle.client_laws.proofs.Orders.{in_more}
use Rattle.node_histories.specs.Weaves.{entries_in, items_in}
use Rattle.node_histories.specs.ClientLives.{Life}
use Rattle.node_histories.specs.NodeHistories.{HasLife, IsToldByNodes}
use Rattle.node_histories.proofs.WeaveLemmas.{items_join}
use Rattle.world_moves.specs.WorldMoves.{IsRunOf}
use Rattle.world_journal.specs.Journal.{IsJournalInRange}
use Rattle.world_reads.proofs.LifeRecords.{compound}
use Rattle.mds_replies.specs.AnsweredRequests.{StaysRoomy, TookEffectAmong}
use Rattle.world_layouts.specs.WorldLayouts.{StartsAreFew}
use Rattle.world_layouts.proofs.LifeSends.{LifeSteps}
use Rattle.world_layouts.proofs.HeardCalls.{CameFrom, Arrival, came_at, caller_of, is_call_in}
use Rattle.world_layouts.proofs.OwnCalls.{CalledOwn, own_call}
use Rattle.world_layouts.proofs.OwnIds.{IdLaws, IsIdOf, session_is_own, one_id}

-- ---- the request that a compound makes

same_some : (x y : Sequence) → Some x ≡ Some y → x ≡ y
same_some x y is = cc

none_some : {A : Type 0} (x : Sequence) → None ≡ Some x → A
none_some x is = absurd cc

-- a compound with the operations of a request on a slot is one, on this session and of this number
pub record IsRequestOn (call : MdsCallValue) (session : SessionId) (number : ℕ) : Type 0 where
  pub asked : SlotCallValue
  pub is : call ≡ OnSlot session number asked

pub on_slot : (name other : List ℕ) (call : MdsCallValue) (session : SessionId) (number : ℕ) (c : SlotCallValue) → mds_ops name call ≡ mds_ops other (OnSlot session number c) → IsRequestOn call session number
on_slot name other (ExchangeId verifier) session number c is = none_some (request_of session number c) (ap first_request is)
on_slot name other (CreateSession clientid sequence) session number c is = none_some (request_of session number c) (ap first_request is)
on_slot name other (OnSlot s k asked) session number c is =
    let same : request_of s k asked ≡ request_of session number c = same_some (request_of s k asked) (request_of session number c) (ap first_request is) in
    let its_session : s ≡ session = ap (λ (r : Sequence). r.session) same in
    let its_number : k ≡ number = ap (λ (r : Sequence). r.sequence) same in
    record { asked = asked; is = ap (λ (x : SessionId). OnSlot x k asked) its_session ∙ ap (λ (x : ℕ). OnSlot session x asked) its_number }

-- ---- the place of an item

pub record SplitAt (h : List HistoryItem) (x : HistoryItem) : Type 0 where
  pub before : List HistoryItem
  pub behind : List HistoryItem
  pub is : h ≡ before ++ x ∷ behind

pub split_at : (h : List HistoryItem) (x : HistoryItem) → HasItem h x → SplitAt h x
split_at [] x has = absurd has
split_at (y ∷ h) x (inl here) = record { before = []; behind = h; is = ap (λ (z : HistoryItem). z ∷ h) (sym here.0) }
split_at (y ∷ h) x (inr there) = let r : SplitAt h x = split_at h x there in record { before = y ∷ r.before; behind = r.behind; is = ap (λ (l : List HistoryItem). y ∷ l) r.is }

-- ---- a request that took effect among events

-- it came from this life, which sent it
pub record OwnRequest {w : ClusterState} (t : IsToldByNodes w) (n : ℕ) (l : Life) (early late : List MdsEvent) (f : MdsEvent) (node : NodeId) (xid : ℕ) (asked : SessionId) (number : ℕ) : Type 0 where
  pub name : List ℕ
  pub call : SlotCallValue
  pub has : HasItem (items_in l.steps) (compound xid name (OnSlot asked number call))
  pub split : IsEventOf t.mds.events early f late
  pub node_is : node ≡ Client n
  pub came : IsCallFrom f node xid name (OnSlot asked number call)
  pub called : CalledOwn t n l early late f xid name (OnSlot asked number call)

module _ (laws : IdLaws) (boots : List ℕ) (w : ClusterState) (run : IsRunOf boots w) (t : IsToldByNodes w) (few : length w.machines.clients < 2 ^ 32) (range : IsJournalInRange w.journal) (roomy : StaysRoomy t.mds.servers t.mds.mirrors t.mds.events)
    (starts : StartsAreFew t) where
  pub own_request : (n : ℕ) (l : Life) → HasLife t.stories n l → (xid : ℕ) (name : List ℕ) (session : SessionId) (number : ℕ) (c : SlotCallValue) → HasItem (items_in l.steps) (compound xid name (OnSlot session number c))
      → (events late : List MdsEvent) → t.mds.events ≡ events ++ late → (other : ℕ) (k : TookEffectAmong t.mds.servers t.mds.mirrors events session other) → OwnRequest t n l k.early (k.late ++ late) k.f k.took.node k.took.xid k.asked other
  own_request n l its xid name session number c has events late whole other k =
      let at : IsEventOf t.mds.events k.early k.f (k.late ++ late) = whole ∙ (ap (λ (x : List MdsEvent). x ++ late) k.split ∙ append_assoc k.early (k.f ∷ k.late) late) in
      let came : IsCallFrom k.f k.took.node k.took.xid k.took.name (OnSlot k.asked other k.took.call) = k.took.came in
      let a : Arrival t k.early (k.late ++ late) k.f k.took.node came.bytes = came_at laws.replies.calls boots w run t few range k.early (k.late ++ late) k.f at k.took.node came.bytes came.input in
      let from : CameFrom t (entries_in a.earlier) k.took.node came.bytes k.took.xid came.v =
      caller_of laws.replies.calls boots w run t few range k.early (k.late ++ late) k.f k.took.node came.bytes a k.took.xid came.v came.compound in
      let ops : mds_ops from.name from.call ≡ mds_ops k.took.name (OnSlot k.asked other k.took.call) = ap (λ (x : CompoundValue). x.ops.values) from.same ∙ came.is.ops in
      let r : IsRequestOn from.call k.asked other = on_slot from.name k.took.name from.call k.asked other k.took.call ops in
      let own : SplitAt (items_in l.steps) (compound xid name (OnSlot session number c)) = split_at (items_in l.steps) (compound xid name (OnSlot session number c)) has in
      let first : IsIdOf t (client_name n) l.verifier (client_in session) = session_is_own laws boots w run t few range roomy n l its own.before own.behind xid name session number c own.is in
      let there : HasItem (items_in from.life.steps) (compound k.took.xid from.name from.call) =
      subst (λ (h : List HistoryItem). HasItem h (compound k.took.xid from.name from.call)) (sym (ap (λ (s : LifeSteps). items_in s) from.split ∙ items_join from.upto from.rest))
      (in_more (compound k.took.xid from.name from.call ∷ []) (items_in from.upto) (items_in from.rest) from.has) in
      let on : HasItem (items_in from.life.steps) (compound k.took.xid from.name (OnSlot k.asked other r.asked)) =
      subst (λ (x : MdsCallValue). HasItem (items_in from.life.steps) (compound k.took.xid from.name x)) r.is there in
      let others : SplitAt (items_in from.life.steps) (compound k.took.xid from.name (OnSlot k.asked other r.asked)) = split_at (items_in from.life.steps) (compound k.took.xid from.name (OnSlot k.asked other r.asked)) on in
      let second : IsIdOf t (client_name from.n) from.life.verifier (client_in k.asked) =
      session_is_own laws boots w run t few range roomy from.n from.life from.its others.before others.behind k.took.xid from.name k.asked other r.asked others.is in
      let client : client_in session ≡ client_in k.asked = sym (eqb-true (client_in k.asked) (client_in session) (and_parts (client_in k.asked == client_in session) (number_in k.asked == number_in session) k.its).0) in
      let same : (n ≡ from.n) × (l ≡ from.life) =
      one_id laws boots w run t few range roomy n from.n l from.life its from.its starts (client_in k.asked) (subst (λ (x : ℕ). IsIdOf t (client_name n) l.verifier x) client first) second in
      let mine : HasItem (items_in l.steps) (compound k.took.xid from.name (OnSlot k.asked other r.asked)) =
      subst (λ (x : Life). HasItem (items_in x.steps) (compound k.took.xid from.name (OnSlot k.asked other r.asked))) (sym same.1) on in
      let node_is : k.took.node ≡ Client n = from.node_is ∙ ap Client (sym same.0) in
      let here : IsCallFrom k.f k.took.node k.took.xid from.name from.call =
      record { bytes = came.bytes; input = came.input; v = came.v; compound = came.compound; is = is_call_in laws.replies.calls boots w run t few range k.took.node came.bytes k.took.xid came.v (entries_in a.earlier) from } in
      let call_here : IsCallFrom k.f k.took.node k.took.xid from.name (OnSlot k.asked other r.asked) = subst (λ (x : MdsCallValue). IsCallFrom k.f k.took.node k.took.xid from.name x) r.is here in
      record {
        name = from.name;
        call = r.asked;
        has = mine;
        split = at;
        node_is = node_is;
        came = call_here;
        called =
            own_call laws.replies.calls boots w run t few range n l its k.took.xid from.name (OnSlot k.asked other r.asked) mine k.early (k.late ++ late) k.f at from.name (OnSlot k.asked other r.asked)
            (subst (λ (x : NodeId). IsCallFrom k.f x k.took.xid from.name (OnSlot k.asked other r.asked)) node_is call_here);
      }
