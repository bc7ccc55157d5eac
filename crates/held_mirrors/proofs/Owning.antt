-- Behind every bound run the mirrors of a file that is neither made nor fenced belong to its uid, and no call asks for a later one.
use Rattle.std.proofs.Common.{◌≡◌, ◌≢◌, ℕ, ◌+◌, ◌-◌, ◌<◌, ◌≤◌, ◌⊎◌, Bool, true, false, cond, List, [], ◌∷◌, ◌++◌, set, length, Option, Some, None, refl, sym, ap, subst, ◌∙◌, inl, inr, arith}
use Rattle.std.specs.Prelude.{slice_get, map, ◌&&◌, not}
use Rattle.std.specs.List.{AllByRecursion}
use Rattle.std.proofs.lemmas.Bool.{cond_both, cases_eq, cases_lt}
use Rattle.std.proofs.lemmas.List.{append-nil}
use Rattle.std.proofs.lemmas.Option.{same_Some}
use Rattle.cluster_model.specs.declared.tick.Tick.{Tick}
use Rattle.cluster_model.specs.declared.ids.NodeId.{NodeId}
use Rattle.cluster_model.specs.declared.ids.NodeId.TheVariants.{Mds}
use Rattle.cluster_model.specs.declared.ids.FileId.{FileId}
use Rattle.cluster_model.specs.declared.ids.Cred.{Cred}
use Rattle.cluster_model.specs.declared.ids.MirrorId.{MirrorId}
use Rattle.cluster_model.specs.declared.ids.Mirror.{Mirror}
use Rattle.cluster_model.specs.declared.piece.Piece.{Piece}
use Rattle.cluster_model.specs.declared.entry.Entry.{Entry}
use Rattle.cluster_model.specs.declared.entry.Entry.TheVariants as entry
use Rattle.cluster_model.specs.declared.fence_mirror.FenceMirror.{FenceMirror}
use Rattle.cluster_model.specs.declared.layout_state.LayoutState.{LayoutState}
use Rattle.cluster_model.specs.declared.layout_state.LayoutPhase.{LayoutPhase}
use Rattle.cluster_model.specs.declared.layout_state.LayoutPhase.TheVariants.{Making, Free, Held, Fencing, Settling, Copying}
use Rattle.cluster_model.specs.File.{StoredFile}
use Rattle.cluster_model.specs.Journal.{Copy, content_of}
use Rattle.cluster_model.specs.Phases.{ids_of}
use Rattle.cluster_model.specs.Fences.{waits, FenceState}
use Rattle.cluster_model.specs.Fences as fences
use Rattle.cluster_model.specs.Server.{ServerState, Caller, mirror_of, restart_of}
use Rattle.cluster_model.specs.DsCalls.{DsCallValue, Create, SetAttr, Write, Commit, Read, mirror_name, ds_step}
use Rattle.cluster_model.specs.GuardLaws.{IsInOrder, WasAsked, MayCome, Follows, Came, Stayed, WasGiven, WasMade, CallLaws, RestartLaws}
use Rattle.copy_rule.specs.Copies.{CopyState, CopyCall, target_call, target_call_at}
use Rattle.copy_rule.specs.Copies as copy
use Rattle.copy_rule.specs.declared.copy_target.CopyTarget.{CopyTarget}
use Rattle.file_rule.specs.declared.creation.Creation.{Creation}
use Rattle.file_rule.specs.MdsFiles.{Creations, Activity, Idle, Makes, Fences, Settles, Copies, MdsFile, FileStep}
use Rattle.file_rule.specs.FilePhases.{FileInput, CallOut, call_out, call_out_of, create_out, create_out_at, creation_waiting, fence_out, settle_out, copy_out, phase}
use Rattle.cluster_laws.specs.Machine.{PacketValue, Call, Reply, Machine, numbered_at, file_id, fresh_of, caller_by, may_use, may_number}
use Rattle.cluster_laws.proofs.Facts.{AllFollow, Bears, OwnedFrom, bears_on}
use Rattle.cluster_laws.proofs.Names.{name_is}
use Rattle.cluster_laws.proofs.Lists.{all_append, all_more, all_at, put_same, put_other, same_numbered}
use Rattle.cluster_laws.proofs.Invariant.{at_server, IsCallOf, IsPacket, IsInFence, IsMirrorOf, KeepsOwner, IsFile, net_of, Holds}
use Rattle.cluster_laws.proofs.CallsOut.{mds_call}
use Rattle.cluster_laws.proofs.KnownNow.{known_now, stands, id_by}
use Rattle.machine_walk.proofs.Stories.{Story, IsMoment}
use Rattle.machine_walk.proofs.Placed.{IfCall, its_call}
use Rattle.held_mirrors.proofs.SettledSteps.{is_settled}

-- ---- what is known

-- the mirror's data file belongs to this uid
pub record OwnsFile (servers : List ServerState) (uid : ℕ) (id : MirrorId) : Type 0 where
  pub server : ServerState
  pub there : numbered_at servers id.server ≡ Some server
  pub index : ℕ
  pub place : id.fileid ≡ index + 2
  pub file : StoredFile
  pub is : slice_get server.files index ≡ Some file
  pub owner : file.owner ≡ uid

-- a call that gives the mirror away gives it to this uid, or to an earlier one
abbrev pub GivesAtMost : ℕ → MirrorId → ℕ → DsCallValue → Type 0
GivesAtMost uid id server (Create name owner) = Unit {0}
GivesAtMost uid id server (SetAttr fileid owner guard) = server ≡ id.server → fileid ≡ id.fileid → owner ≤ uid
GivesAtMost uid id server (Write fileid at synced bytes) = Unit {0}
GivesAtMost uid id server (Commit fileid) = Unit {0}
GivesAtMost uid id server (Read fileid at count) = Unit {0}

abbrev pub AsksAtMost : ℕ → MirrorId → PacketValue → Type 0
AsksAtMost uid id (Call from server xid user gid call) = GivesAtMost uid id server call
AsksAtMost uid id (Reply place server to xid reply) = Unit {0}

pub record IsOwned (servers : List ServerState) (packets : List PacketValue) (uid : ℕ) (id : MirrorId) : Type 0 where
  pub owns : OwnsFile servers uid id
  pub asked : AllByRecursion (AsksAtMost uid id) packets

abbrev pub AreOwned : List ServerState → List PacketValue → ℕ → List MirrorId → Type 0
AreOwned servers packets uid ids = AllByRecursion (IsOwned servers packets uid) ids

abbrev pub KnowsOwned : Machine → Type 0
KnowsOwned m = (n : ℕ) (f : MdsFile) → numbered_at m.files n ≡ Some f → is_settled f.layout.phase ≡ true → AreOwned m.servers m.packets f.layout.cred.0 (ids_of f.layout.live)

-- ---- names

module _ (m : Machine) (journal : List Entry) (t : Story) (h : Holds m journal t.drawn) where
  -- what bears two names bears one
  same_name : (id : MirrorId) (a b : ℕ) → Bears m.servers id a → Bears m.servers id b → a < m.next_name → b < m.next_name → a ≡ b
  same_name id a b first second la lb =
      let server : first.server ≡ second.server = same_numbered m.servers id.server first.server second.server first.there second.there in
      let pa = first.place in
      let pb = second.place in
      let index : first.index ≡ second.index = omega (arith, pa, pb) in
      let named : Some (mirror_name a) ≡ Some (mirror_name b) = sym first.named ∙ (ap (λ (x : ServerState). slice_get x.names first.index) server ∙ (ap (slice_get second.server.names) index ∙ second.named)) in
      let few = h.few_names in
      name_is a b (omega (arith, la, few)) (omega (arith, lb, few)) (same_Some (mirror_name a) (mirror_name b) named)

  -- as the journal says
  by_content : (id : MirrorId) (name uid : ℕ) → Bears m.servers id name → name < m.next_name → (content_of journal id).owner ≡ uid → OwnsFile m.servers uid id
  by_content id name uid bears less is =
      let low = (known_now m journal t.drawn h).lowest id name bears less in
      let o = h.servers id.server low.server low.there in
      let same : id ≡ mirror_of low.server low.index = id_by id low.server.number (low.index + 2) (sym o.number) low.place in
      record {
        server = low.server;
        there = low.there;
        index = low.index;
        place = low.place;
        file = low.file;
        is = low.is;
        owner = ap (λ (c : Copy). c.owner) (o.told.each low.index low.file low.is) ∙ (ap (λ (i : MirrorId). (content_of journal i).owner) (sym same) ∙ is);
      }

  -- where the highest uid that was drawn for a file is its own, no call gives its mirrors to a later one
  module _ (n uid : ℕ) (top : t.drawn.top n ≡ uid) (id : MirrorId) (name : ℕ) (bears : Bears m.servers id name) (less : name < m.next_name) (home : t.drawn.home name ≡ n) where
    call_at_most : (server : ℕ) (call : DsCallValue) → IsCallOf t.drawn m.servers m.next_name server call → GivesAtMost uid id server call
    call_at_most server (Create a owner) k = tt
    call_at_most server (SetAttr fileid owner guard) k = λ at same.
        let one : at_server server fileid ≡ id = sym (id_by id server fileid (sym at) (sym same)) in
        let its : k.name ≡ name = same_name id k.name name (subst (λ (i : MirrorId). Bears m.servers i k.name) one k.bears) bears k.drawn less in
        let up = k.up in
        let most : t.drawn.top (t.drawn.home k.name) ≡ uid = ap (λ (x : ℕ). t.drawn.top (t.drawn.home x)) its ∙ (ap t.drawn.top home ∙ top) in
        omega (arith, up, most)
    call_at_most server (Write fileid at synced bytes) k = tt
    call_at_most server (Commit fileid) k = tt
    call_at_most server (Read fileid at count) k = tt

    packet_at_most : (p : PacketValue) → IsPacket (net_of m t.drawn) p → AsksAtMost uid id p
    packet_at_most (Call from server xid user gid call) k = call_at_most server call k.1
    packet_at_most (Reply place server to xid reply) k = tt

    pub asked_at_most : AllByRecursion (AsksAtMost uid id) m.packets
    asked_at_most = all_more (IsPacket (net_of m t.drawn)) (AsksAtMost uid id) m.packets packet_at_most h.packets

  -- no later uid than the highest that was drawn for its file
  by_drawn : (n uid : ℕ) → t.drawn.top n ≡ uid → (id : MirrorId) (name : ℕ) → Bears m.servers id name → name < m.next_name → t.drawn.home name ≡ n → OwnedFrom m.servers id uid → OwnsFile m.servers uid id
  by_drawn n uid top id name bears less home owned =
      let server : owned.server ≡ bears.server = same_numbered m.servers id.server owned.server bears.server owned.there bears.there in
      let pa = owned.place in
      let pb = bears.place in
      let index : owned.index ≡ bears.index = omega (arith, pa, pb) in
      let its : slice_get bears.server.files bears.index ≡ Some owned.file = sym (ap (λ (x : ServerState). slice_get x.files owned.index) server ∙ ap (slice_get bears.server.files) index) ∙ owned.is in
      let most = ((h.servers id.server bears.server bears.there).owners bears.index owned.file name its bears.named less).1 in
      let up = owned.up in
      let highest : t.drawn.top (t.drawn.home name) ≡ uid = ap t.drawn.top home ∙ top in
      record { server = owned.server; there = owned.there; index = owned.index; place = owned.place; file = owned.file; is = owned.is; owner = omega (arith, most, up, highest) }

  -- the mirrors of a file that was just fenced to the highest uid, or made under it
  pub by_fence : (n uid : ℕ) → t.drawn.top n ≡ uid → (live : List Mirror) → AllByRecursion (IsMirrorOf (net_of m t.drawn) n journal) live → ((x : Mirror) → IsMirrorOf (net_of m t.drawn) n journal x → OwnedFrom m.servers x.id uid)
      → AreOwned m.servers m.packets uid (ids_of live)
  by_fence n uid top [] mirrors owned = tt
  by_fence n uid top (x ∷ live) mirrors owned =
      let k = mirrors.0 in (
        record { owns = by_drawn n uid top x.id k.name k.bears k.drawn k.home (owned x k); asked = asked_at_most n uid top x.id k.name k.bears k.drawn k.home },
        by_fence n uid top live mirrors.1 owned,
      )

  pub by_making : (n uid : ℕ) → t.drawn.top n ≡ uid → (live : List Mirror) → AllByRecursion (IsMirrorOf (net_of m t.drawn) n journal) live → AllByRecursion (λ (i : MirrorId). (content_of journal i).owner ≡ uid) (ids_of live)
      → AreOwned m.servers m.packets uid (ids_of live)
  by_making n uid top [] mirrors owners = tt
  by_making n uid top (x ∷ live) mirrors owners =
      let k = mirrors.0 in (
        record { owns = by_content x.id k.name uid k.bears k.drawn owners.0; asked = asked_at_most n uid top x.id k.name k.bears k.drawn k.home },
        by_making n uid top live mirrors.1 owners.1,
      )

  -- a mirror is one file's
  pub one_home : (n k : ℕ) (id : MirrorId) (a b : ℕ) → Bears m.servers id a → Bears m.servers id b → a < m.next_name → b < m.next_name → t.drawn.home a ≡ n → t.drawn.home b ≡ k → n ≡ k
  one_home n k id a b first second la lb ha hb = sym ha ∙ (ap t.drawn.home (same_name id a b first second la lb) ∙ hb)

-- ---- at a server

-- a call and a restart leave a mirror its owner, where no call gives it to a later one
module _ (s new : ServerState) (uid : ℕ) (id : MirrorId) (n : ℕ) (follows : Follows s new) where
  pub came_so : (call : DsCallValue) (index : ℕ) (file : StoredFile) → n ≡ id.server → id.fileid ≡ index + 2 → GivesAtMost uid id n call → (before : StoredFile) → slice_get s.files index ≡ Some before → before.owner ≡ uid
      → before.owner ≤ file.owner → Came s call new index file → file.owner ≡ uid
  came_so call index file at place gives before was owner up (Stayed old old_is same names) =
      same ∙ (ap (λ (x : StoredFile). x.owner) (same_Some old before (sym old_is ∙ was)) ∙ owner)
  came_so call index file at place gives before was owner up (WasGiven old guard old_is asked names) =
      let most : file.owner ≤ uid = subst (GivesAtMost uid id n) asked gives at (sym place) in
      omega (arith, most, up, owner)
  came_so call index file at place gives before was owner up (WasMade name asked named none) = let wrong : None ≡ Some before = sym none ∙ was in absurd cc
