-- The call that a reply answers, which a life of a client heard under the number of its compound, is this compound.
use Rattle.std.proofs.Common.{◌≡◌, ◌<◌, ℕ, ◌^◌, length, List, [], ◌∷◌, ◌++◌, refl, sym, ap, subst, ◌∙◌}
use Rattle.std.proofs.lemmas.Option.{same_Some}
use Rattle.std.specs.Prelude.{◌==◌}
use Rattle.ff_xdr.specs.Form.{Value, arm_of}
use Rattle.nfs4_compound.specs.Compounds.{CompoundValue}
use Rattle.cluster_model.specs.declared.ids.NodeId.{NodeId}
use Rattle.cluster_model.specs.declared.ids.NodeId.TheVariants.{Client}
use Rattle.cluster_model.specs.declared.entry.Entry.{Entry}
use Rattle.world_rule.specs.ClusterWorlds.{ClusterState}
use Rattle.nfs4_compound.specs.Args.{argop4}
use Rattle.mds_receive.specs.MdsReceive.{IsCompound, incoming_of}
use Rattle.client_mds_calls.specs.FittingCalls.{FitsAsked}
use Rattle.client_mds_calls.specs.MdsCalls.{MdsCallValue, ExchangeId, CreateSession, OnSlot, ask_of, takes_slot}
use Rattle.client_mds_calls.specs.MdsCalls as slot
use Rattle.client_mds_calls.specs.MdsCompounds.{mds_ops}
use Rattle.client_mds_calls.specs.MdsCallLaws.{HasCompoundRecord}
use Rattle.mds_walk.specs.MdsRuns.{MdsEvent}
use Rattle.mds_replies.specs.ClientCalls.{IsCallFrom, IsEventOf}
use Rattle.client_laws.specs.ClientHistory.{HistoryItem, HasItem}
use Rattle.client_laws.proofs.Orders.{in_more}
use Rattle.node_histories.specs.Weaves.{entries_in, items_in}
use Rattle.node_histories.specs.ClientLives.{Life}
use Rattle.node_histories.specs.NodeHistories.{ClientStory, HasLife, IsToldByNodes}
use Rattle.node_histories.proofs.WeaveLemmas.{items_join}
use Rattle.world_moves.specs.WorldMoves.{IsRunOf}
use Rattle.world_journal.specs.Journal.{IsJournalInRange}
use Rattle.world_reads.proofs.Lives.{LivesOf}
use Rattle.world_reads.proofs.LifeRecords.{compound}
use Rattle.world_reads.proofs.LifeCalls.{same_compound}
use Rattle.world_reads.proofs.WorldClients.{IsLifeIn, of_client}
use Rattle.world_layouts.proofs.OneLife.{one_life}
use Rattle.world_layouts.proofs.LifeSends.{LifeSteps}
use Rattle.world_layouts.proofs.HeardCalls.{CompoundLaws, CameFrom, Arrival, came_at, caller_of, is_call_in}

client_is : (n k : ℕ) → Client n ≡ Client k → n ≡ k
client_is n k is = cc

name_is : (xid : ℕ) (name other : List ℕ) (call asked : MdsCallValue) → compound xid name call ≡ compound xid other asked → name ≡ other
name_is xid name other call asked is = cc

call_is : (xid : ℕ) (name other : List ℕ) (call asked : MdsCallValue) → compound xid name call ≡ compound xid other asked → call ≡ asked
call_is xid name other call asked is = cc

-- An event of the metadata server hears this call of the life; the life sent it by then.
pub record CalledOwn {w : ClusterState} (t : IsToldByNodes w) (n : ℕ) (l : Life) (early late : List MdsEvent) (f : MdsEvent) (xid : ℕ) (name : List ℕ) (call : MdsCallValue) : Type 0 where
  pub called : IsCallFrom f (Client n) xid name call
  pub arrival : Arrival t early late f (Client n) called.bytes
  pub upto : LifeSteps
  pub rest : LifeSteps
  pub split : l.steps ≡ upto ++ rest
  pub has : HasItem (items_in upto) (compound xid name call)
  pub since : List Entry
  pub place : entries_in arrival.earlier ≡ (l.begun ++ entries_in upto) ++ since
  pub has_record : HasCompoundRecord (record { xid = xid; owner = name; call = call })
  pub fits : FitsAsked name call

-- the number of the first operation
abbrev first_arm : List (Value argop4) → ℕ
first_arm [] = 0
first_arm (op ∷ ops) = arm_of argop4 op

-- which is SEQUENCE's of a request on a slot alone
first_takes : (name : List ℕ) (call : MdsCallValue) → takes_slot (ask_of call) ≡ (first_arm (mds_ops name call) == 53)
first_takes name (ExchangeId verifier) = refl
first_takes name (CreateSession clientid sequence) = refl
first_takes name (OnSlot session sequence slot.ReclaimComplete) = refl
first_takes name (OnSlot session sequence (slot.Open file)) = refl
first_takes name (OnSlot session sequence (slot.LayoutGet file)) = refl
first_takes name (OnSlot session sequence (slot.DeviceInfo servers)) = refl
first_takes name (OnSlot session sequence (slot.Write file at bytes)) = refl
first_takes name (OnSlot session sequence (slot.Read file at count)) = refl
first_takes name (OnSlot session sequence (slot.LayoutReturn file stateid failed)) = refl
first_takes name (OnSlot session sequence slot.Renew) = refl

module _ (laws : CompoundLaws) (boots : List ℕ) (w : ClusterState) (run : IsRunOf boots w) (t : IsToldByNodes w) (few : length w.machines.clients < 2 ^ 32) (range : IsJournalInRange w.journal) where
  -- two lives of one number are of one story
  pub one_story : (n : ℕ) (l k : Life) (its : HasLife t.stories n l) (other : HasLife t.stories n k) → IsLifeIn its.story k
  one_story n l k its other = subst (λ (s : ClientStory). IsLifeIn s k) (same_Some other.story its.story (sym other.there ∙ its.there)) other.life

  pub one_of : (n : ℕ) (l k : Life) → HasLife t.stories n l → HasLife t.stories n k → (xid : ℕ) (name other : List ℕ) (call asked : MdsCallValue) → HasItem (items_in l.steps) (compound xid name call)
      → HasItem (items_in k.steps) (compound xid other asked) → (l ≡ k) × (compound xid name call ≡ compound xid other asked)
  one_of n l k its others xid name other call asked has also =
      let s : LivesOf t.stories w.machines.clients w.journal n its.story = of_client w t few range laws.spelled laws.numbered n its.story its.there in
      let inside : IsLifeIn its.story k = one_story n l k its others in (
        one_life laws.numbered n its.story.newest its.story.older s.lives l k its.life inside xid name other call asked has also,
        same_compound laws.numbered n its.story.newest its.story.older s.lives l k its.life inside xid name other call asked has also,
      )

  by_caller : (n : ℕ) (l : Life) → HasLife t.stories n l → (xid : ℕ) (name : List ℕ) (call : MdsCallValue) → HasItem (items_in l.steps) (compound xid name call) → (early late : List MdsEvent) (f : MdsEvent) → IsEventOf t.mds.events early f late
      → (other : List ℕ) (asked : MdsCallValue) (came : IsCallFrom f (Client n) xid other asked) (a : Arrival t early late f (Client n) came.bytes) (k : CameFrom t (entries_in a.earlier) (Client n) came.bytes xid came.v)
      → (k.life ≡ l) → (name ≡ k.name) → (call ≡ k.call) → CalledOwn t n l early late f xid name call
  by_caller n l its xid name call has early late f at other asked came a k same names calls =
      subst (λ (x : List ℕ). CalledOwn t n l early late f xid x call) (sym names)
      (subst (λ (x : MdsCallValue). CalledOwn t n l early late f xid k.name x) (sym calls)
      (subst (λ (x : Life). CalledOwn t n x early late f xid k.name k.call) same
      (record {
        called = record { bytes = came.bytes; input = came.input; v = came.v; compound = came.compound; is = is_call_in laws boots w run t few range (Client n) came.bytes xid came.v (entries_in a.earlier) k };
        arrival = a;
        upto = k.upto;
        rest = k.rest;
        split = k.split;
        has = k.has;
        since = k.since;
        place = k.place;
        has_record = k.has_record;
        fits = k.fits;
      })))

  -- what came under the number of a life's compound from its client is this compound
  pub own_call : (n : ℕ) (l : Life) → HasLife t.stories n l → (xid : ℕ) (name : List ℕ) (call : MdsCallValue) → HasItem (items_in l.steps) (compound xid name call) → (early late : List MdsEvent) (f : MdsEvent) → IsEventOf t.mds.events early f late
      → (other : List ℕ) (asked : MdsCallValue) → IsCallFrom f (Client n) xid other asked → CalledOwn t n l early late f xid name call
  own_call n l its xid name call has early late f at other asked came =
      let a : Arrival t early late f (Client n) came.bytes = came_at laws boots w run t few range early late f at (Client n) came.bytes came.input in
      let k : CameFrom t (entries_in a.earlier) (Client n) came.bytes xid came.v = caller_of laws boots w run t few range early late f (Client n) came.bytes a xid came.v came.compound in
      let there : HasItem (items_in k.life.steps) (compound xid k.name k.call) =
      subst (λ (h : List HistoryItem). HasItem h (compound xid k.name k.call)) (sym (ap (λ (s : LifeSteps). items_in s) k.split ∙ items_join k.upto k.rest)) (in_more (compound xid k.name k.call ∷ []) (items_in k.upto) (items_in k.rest) k.has) in
      let others : HasLife t.stories n k.life = subst (λ (x : ℕ). HasLife t.stories x k.life) (sym (client_is n k.n k.node_is)) k.its in
      let both : (l ≡ k.life) × (compound xid name call ≡ compound xid k.name k.call) = one_of n l k.life its others xid name k.name call k.call has there in
      by_caller n l its xid name call has early late f at other asked came a k (sym both.0) (name_is xid name k.name call k.call both.1) (call_is xid name k.name call k.call both.1)

  -- ---- a compound is on a slot, or not

  pub same_takes : (f : MdsEvent) (node : NodeId) (xid : ℕ) (name other : List ℕ) (call asked : MdsCallValue) → (first : IsCallFrom f node xid name call) (second : IsCallFrom f node xid other asked) → first.bytes ≡ second.bytes
      → takes_slot (ask_of call) ≡ takes_slot (ask_of asked)
  same_takes f node xid name other call asked first second bytes =
      let v : first.v ≡ second.v = same_v (sym first.compound ∙ (ap incoming_of bytes ∙ second.compound)) in
      first_takes name call ∙ (ap (λ (l : List (Value argop4)). first_arm l == 53) (sym first.is.ops ∙ (ap (λ (x : CompoundValue). x.ops.values) v ∙ second.is.ops)) ∙ sym (first_takes other asked))
    where
      same_v : IsCompound xid first.v ≡ IsCompound xid second.v → first.v ≡ second.v
      same_v is = cc
