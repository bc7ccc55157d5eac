-- What a life was granted, the journal had granted to its client before (RFC 8881, section 12.5.5; RFC 8435, section 2.2).
use Rattle.std.proofs.Common.{◌≡◌, ◌≤◌, ◌<◌, ℕ, ◌^◌, suc, length, List, [], ◌∷◌, ◌++◌, Some, refl, sym, ap, subst, ◌∙◌, arith, append_assoc}
use Rattle.std.specs.Prelude.{map}
use Rattle.std.proofs.lemmas.Option.{same_Some}
use Rattle.ff_xdr.specs.Form.{Value, arm_of}
use Rattle.cluster_model.specs.declared.ids.NodeId.TheVariants.{Client}
use Rattle.cluster_model.specs.declared.ids.FileId.{FileId}
use Rattle.cluster_model.specs.declared.ids.Mirror.{Mirror}
use Rattle.cluster_model.specs.declared.ids.MirrorId.{MirrorId}
use Rattle.cluster_model.specs.declared.entry.Entry.{Entry}
use Rattle.cluster_model.specs.declared.entry.Entry.TheVariants as entry
use Rattle.cluster_model.specs.Phases.{ids_of}
use Rattle.world_rule.specs.ClusterWorlds.{ClusterState}
use Rattle.same_layout.specs.SameLayout.{unseen}
use Rattle.nfs4_session.specs.Clients.{client_in}
use Rattle.nfs4_compound.specs.Args.{argop4}
use Rattle.nfs4_compound.specs.Compounds.{CompoundValue}
use Rattle.client_compounds.specs.MdsResults.{in_arm}
use Rattle.client_file_calls.specs.declared.grant.LayoutGrant.{LayoutGrant}
use Rattle.client_mds_calls.specs.MdsCalls.{MdsCallValue, ExchangeId, CreateSession, OnSlot, SlotCallValue}
use Rattle.client_mds_calls.specs.MdsCalls as slot
use Rattle.client_mds_calls.specs.MdsCompounds.{mds_ops}
use Rattle.mds_rule.specs.MdsStates.{ServedFile}
use Rattle.mds_walk.specs.MdsRuns.{MdsEvent, mds_run}
use Rattle.mds_replies.specs.ClientCalls.{AreCalls, server_after, IsEventOf}
use Rattle.mds_replies.specs.LayoutReplies.{HasPeriod}
use Rattle.client_state.specs.ClientStates.{client_name}
use Rattle.client_laws.specs.ClientHistory.{HistoryItem, HasItem}
use Rattle.client_laws.proofs.Orders.{in_more}
use Rattle.client_sessions.specs.ClientSessions.{WasGivenId, KeepsSlot}
use Rattle.node_histories.specs.Weaves.{entries_in, items_in}
use Rattle.node_histories.specs.ClientLives.{Life}
use Rattle.node_histories.specs.NodeHistories.{HasLife, IsToldByNodes}
use Rattle.node_histories.proofs.WeaveLemmas.{items_join}
use Rattle.world_moves.specs.WorldMoves.{IsRunOf}
use Rattle.world_journal.specs.Journal.{IsJournalInRange}
use Rattle.world_reads.proofs.LifeRecords.{compound}
use Rattle.mds_replies.specs.AnsweredRequests.{StaysRoomy, layout_read}
use Rattle.mds_replies.specs.PeriodEntries.{IsBegun, PeriodsBegin, IsConfirmed, PeriodsAreConfirmed}
use Rattle.world_layouts.specs.WorldLayouts.{IsOneRequestEach, StartsAreFew, journal_at, GrantsAreTold}
use Rattle.world_layouts.proofs.LifeSends.{LifeSteps}
use Rattle.world_layouts.proofs.HeardCalls.{CameFrom, Arrival, came_at, caller_of}
use Rattle.world_layouts.proofs.OwnIds.{IsIdOf, id_owner, at_place, each_slot, one_id}
use Rattle.world_layouts.proofs.OwnRequests.{SplitAt, split_at}
use Rattle.world_layouts.proofs.GrantedUids.{LayoutLaws, GrantTook, grant_took, IsMoment, moment_of, calls_to}
use Rattle.world_layouts.proofs.ToldEntries.{ToldThen, told_then}

-- ---- a CREATE_SESSION by its operation

abbrev first_arm : List (Value argop4) → ℕ
first_arm [] = 0
first_arm (op ∷ ops) = arm_of argop4 op

abbrev client_named : List (Value argop4) → ℕ
client_named [] = 0
client_named (op ∷ ops) = in_arm 43 argop4 (λ v. v.0) 0 op

pub record IsCreateOf (call : MdsCallValue) (client : ℕ) : Type 0 where
  pub sequence : ℕ
  pub is : call ≡ CreateSession client sequence

create_of : (name other : List ℕ) (call : MdsCallValue) (client sequence : ℕ) → mds_ops name call ≡ mds_ops other (CreateSession client sequence) → IsCreateOf call client
create_of name other (ExchangeId verifier) client sequence is = let arms : 42 ≡ 43 = ap first_arm is in absurd (omega (arith, arms))
create_of name other (OnSlot session number call) client sequence is = let arms : 53 ≡ 43 = ap first_arm is in absurd (omega (arith, arms))
create_of name other (CreateSession c s) client sequence is = record { sequence = s; is = ap (λ (x : ℕ). CreateSession x s) (ap client_named is) }

-- ---- mirrors as they are granted

ids_unseen : (live : List Mirror) → ids_of (map unseen live) ≡ ids_of live
ids_unseen [] = refl
ids_unseen (m ∷ live) = ap (λ (l : List MirrorId). m.id ∷ l) (ids_unseen live)

pub record GrantLaws : Type 0 where
  pub layouts : LayoutLaws
  pub begin : PeriodsBegin
  pub confirmed : PeriodsAreConfirmed

-- a life of the client of this number has the id
pub record HasIdOf {w : ClusterState} (t : IsToldByNodes w) (n client : ℕ) : Type 0 where
  pub life : Life
  pub its : HasLife t.stories n life
  pub owner : IsIdOf t (client_name n) life.verifier client

client_is : (n k : ℕ) → Client n ≡ Client k → n ≡ k
client_is n k is = cc

module _ (laws : GrantLaws) (boots : List ℕ) (w : ClusterState) (run : IsRunOf boots w) (t : IsToldByNodes w) (few : length w.machines.clients < 2 ^ 32) (range : IsJournalInRange w.journal) (roomy : StaysRoomy t.mds.servers t.mds.mirrors t.mds.events)
    (starts : StartsAreFew t) (one : IsOneRequestEach t) (most : t.mds.mirrors ≤ 4) where
  by_caller : (node client : ℕ) (bytes : List ℕ) (xid : ℕ) (v : CompoundValue) (past : List Entry) (k : CameFrom t past (Client node) bytes xid v) → IsCreateOf k.call client → HasIdOf t k.n client
  by_caller node client bytes xid v past k c =
      let there : HasItem (items_in k.life.steps) (compound xid k.name k.call) =
      subst (λ (h : List HistoryItem). HasItem h (compound xid k.name k.call)) (sym (ap (λ (s : LifeSteps). items_in s) k.split ∙ items_join k.upto k.rest)) (in_more (compound xid k.name k.call ∷ []) (items_in k.upto) (items_in k.rest) k.has) in
      let call : MdsCallValue = CreateSession client c.sequence in
      let p : SplitAt (items_in k.life.steps) (compound xid k.name call) = split_at (items_in k.life.steps) (compound xid k.name call) (subst (λ (x : MdsCallValue). HasItem (items_in k.life.steps) (compound xid k.name x)) c.is there) in
      let given : WasGivenId p.before client c.sequence =
      at_place laws.layouts.ids boots w run t few range roomy k.n k.life k.its KeepsSlot (each_slot laws.layouts.ids boots w run t few range roomy k.n k.life k.its) p.before p.behind (compound xid k.name call) p.is in
      record {
        life = k.life;
        its = k.its;
        owner = id_owner laws.layouts.ids boots w run t few range roomy k.n k.life k.its (suc (length p.before)) p.before (compound xid k.name call ∷ p.behind) p.is (omega arith) client c.sequence given;
      }

  -- a client from which a session was asked for has the id
  pub confirmed_id : (upto : List MdsEvent) → IsMoment laws.layouts boots w run t few range roomy starts one upto → (node client : ℕ) → IsConfirmed upto node client → HasIdOf t node client
  confirmed_id upto m node client c =
      let at : IsEventOf t.mds.events c.early c.f (c.late ++ m.behind) = m.is ∙ (ap (λ (x : List MdsEvent). x ++ m.behind) c.split ∙ append_assoc c.early (c.f ∷ c.late) m.behind) in
      let a : Arrival t c.early (c.late ++ m.behind) c.f (Client node) c.came.bytes = came_at laws.layouts.ids.replies.calls boots w run t few range c.early (c.late ++ m.behind) c.f at (Client node) c.came.bytes c.came.input in
      let k : CameFrom t (entries_in a.earlier) (Client node) c.came.bytes c.xid c.came.v =
      caller_of laws.layouts.ids.replies.calls boots w run t few range c.early (c.late ++ m.behind) c.f (Client node) c.came.bytes a c.xid c.came.v c.came.compound in
      let ops : mds_ops k.name k.call ≡ mds_ops c.name (CreateSession client c.sequence) = ap (λ (x : CompoundValue). x.ops.values) k.same ∙ c.came.is.ops in
      subst (λ (x : ℕ). HasIdOf t x client) (sym (client_is node k.n k.node_is)) (by_caller node client c.came.bytes c.xid c.came.v (entries_in a.earlier) k (create_of k.name c.name k.call client c.sequence ops))

  pub same_live : (file : FileId) (grant : LayoutGrant) (s : ServedFile) (p : ServedFile) → grant ≡ layout_read file s → p ≡ s → ids_of p.file.layout.live ≡ ids_of grant.mirrors
  same_live file grant s p is same = ap (λ (x : ServedFile). ids_of x.file.layout.live) same ∙ (sym (ids_unseen s.file.layout.live) ∙ ap (λ (g : LayoutGrant). ids_of g.mirrors) (sym is))

  pub grants_are_told : GrantsAreTold t
  grants_are_told n l earlier later grant its split granted =
      let items : items_in l.steps ≡ items_in earlier ++ items_in later = ap (λ (s : LifeSteps). items_in s) split ∙ items_join earlier later in
      let g : GrantTook laws.layouts boots w run t few range roomy starts one n l (items_in earlier) grant granted =
      grant_took laws.layouts boots w run t few range roomy starts one n l its (items_in earlier) (items_in later) items grant granted in
      let m : IsMoment laws.layouts boots w run t few range roomy starts one (g.early ++ g.f ∷ []) = moment_of laws.layouts boots w run t few range roomy starts one n l (items_in earlier) grant granted g in
      let calls : AreCalls (g.early ++ g.f ∷ []) = calls_to laws.layouts boots w run t few range roomy starts one (g.early ++ g.f ∷ []) m in
      let file : FileId = granted.file.file in
      let p : HasPeriod (server_after t.mds.servers t.mds.mirrors (g.early ++ g.f ∷ [])) file (client_in granted.session) grant.uid.0 = g.grants.has in
      let b : IsBegun (mds_run t.mds.servers t.mds.mirrors (g.early ++ g.f ∷ [])).entries file grant.uid.0 p.node (ids_of p.file_is.file.layout.live) = laws.begin t.mds.servers t.mds.mirrors (g.early ++ g.f ∷ []) file (client_in granted.session) grant.uid.0 most calls p in
      let c : IsConfirmed (g.early ++ g.f ∷ []) p.node (client_in granted.session) = laws.confirmed t.mds.servers t.mds.mirrors (g.early ++ g.f ∷ []) file (client_in granted.session) grant.uid.0 calls p in
      let id : HasIdOf t p.node (client_in granted.session) = confirmed_id (g.early ++ g.f ∷ []) m p.node (client_in granted.session) c in
      let same : (n ≡ p.node) × (l ≡ id.life) = one_id laws.layouts.ids boots w run t few range roomy n p.node l id.life its id.its starts (client_in granted.session) g.owner id.owner in
      let call : MdsCallValue = OnSlot granted.session granted.sequence (slot.LayoutGet granted.file) in
      let h = g.heard in
      let x : Entry = entry.Granted file grant.uid (Client p.node) in
      let told : ToldThen w t (journal_at l earlier) b.before x =
      told_then w t n l earlier later split (h.before ++ compound h.reply.xid granted.name call ∷ h.until) h.bytes h.now g.reply.behind (g.reply.behind ++ h.rest) h.past_is h.was.heard h.reply h.was.answered (g.early ++ g.f ∷ []) g.late
      (g.split ∙ sym (append_assoc g.early (g.f ∷ []) g.late)) b.before b.behind x b.split in
      record {
        before = told.first;
        behind = told.last;
        split = told.split ∙ ap (λ (k : ℕ). told.first ++ entry.Granted file grant.uid (Client k) ∷ told.last) (sym same.0);
        live = told.live file ∙ (b.live_then ∙ ap (λ (ids : List MirrorId). Some ids) (same_live file grant g.grants.file_is p.file_is g.grants.is (same_Some p.file_is g.grants.file_is (sym p.there ∙ g.grants.there))));
      }
