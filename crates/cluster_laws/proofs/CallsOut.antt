-- The next call of a file goes out under a new number.
use Rattle.std.proofs.Common.{◌≡◌, ℕ, ◌+◌, ◌<◌, ◌≤◌, true, false, List, [], ◌∷◌, ◌++◌, Option, Some, None, refl, sym, ap, subst, ◌∙◌, arith, append-nil}
use Rattle.std.specs.Prelude.{slice_get, ◌&&◌}
use Rattle.std.specs.List.{AllByRecursion}
use Rattle.std.proofs.lemmas.Bool.{cond_both, eqb-true}
use Rattle.std.proofs.lemmas.Option.{same_Some}
use Rattle.cluster_model.specs.declared.ids.NodeId.TheVariants.{Mds, Server, Client}
use Rattle.cluster_model.specs.declared.ids.MirrorId.{MirrorId}
use Rattle.cluster_model.specs.declared.ids.Mirror.{Mirror}
use Rattle.cluster_model.specs.declared.entry.Entry.{Entry}
use Rattle.cluster_model.specs.declared.call_stage.CallStage.{CallStage}
use Rattle.cluster_model.specs.declared.call_stage.CallStage.TheVariants.{Waits, Out, KeptOut, KeptBack, Done, GivenUp}
use Rattle.cluster_model.specs.declared.fence_mirror.FenceMirror.{FenceMirror}
use Rattle.cluster_model.specs.declared.layout_state.LayoutState.{LayoutState}
use Rattle.cluster_model.specs.File.{StoredFile}
use Rattle.cluster_model.specs.Server.{ServerState}
use Rattle.cluster_model.specs.DsCalls.{DsCallValue, Create, SetAttr, Read}
use Rattle.cluster_model.specs.Fences.{FenceState, waits, with_stage, with_mirror, fence_call_at, call_from, waiting_at}
use Rattle.copy_rule.specs.Copies.{CopyState, CopyCall, is_given_up, at_stage, with_target, with_read, may_read_on, target_call, target_caller, target_call_at, waiting_at as copy_waiting, call_from as copy_call_from}
use Rattle.copy_rule.specs.declared.copy_target.CopyTarget.{CopyTarget}
use Rattle.cluster_model.specs.declared.limits.TheConstants.{PIECE_SIZE}
use Rattle.file_rule.specs.MdsFiles.{Creations, Activity, Idle, Makes, Fences, Settles, Copies, MdsFile, in_stage, with_creation}
use Rattle.file_rule.specs.declared.creation.Creation.{Creation}
use Rattle.file_rule.specs.FilePhases.{CallOut, call_out, create_out, create_out_at, creation_waiting, copy_out, fence_out, settle_out}
use Rattle.cluster_laws.specs.Machine.{PacketValue, Call, Reply, numbered_at}
use Rattle.cluster_laws.proofs.Facts.{AllFollow, Bears}
use Rattle.cluster_laws.proofs.Lists.{all_append, all_more, all_at, all_set, push_old, found_at, same_numbered}
use Rattle.cluster_laws.proofs.Invariant.{Net, IsThisCall, AreThisCall, IsAskedFor, IsCallOf, IsPacket, IsCreationOf, IsTargetOf, IsFenceCall, IsInFence, IsFile, are_apart}
use Rattle.cluster_laws.proofs.Onward.{Later, creation_on, target_on, in_fence_on, file_on}
use Rattle.cluster_laws.proofs.FenceAnswers.{put_mirror}
use Rattle.cluster_laws.proofs.Makings.{servers_set}
use Rattle.cluster_laws.proofs.Recopied.{recopied, put_target}
use Rattle.cluster_laws.proofs.CopySteps.{staged_settling}

-- a data file belongs to this uid or an earlier one
pub record OwnedTo (servers : List ServerState) (id : MirrorId) (uid : ℕ) : Type 0 where
  pub server : ServerState
  pub there : numbered_at servers id.server ≡ Some server
  pub index : ℕ
  pub place : id.fileid ≡ index + 2
  pub file : StoredFile
  pub is : slice_get server.files index ≡ Some file
  pub most : file.owner ≤ uid

-- no data file belongs to a uid above the highest that was drawn for its file
abbrev pub AreBounded : Net → Type 0
AreBounded net = (id : MirrorId) (name : ℕ) → Bears net.servers id name → name < net.next_name → OwnedTo net.servers id (net.drawn.top (net.drawn.home name))

-- the network with one more packet, and the last number of a call of the metadata server
abbrev pub sent_net : Net → ℕ → PacketValue → Net
sent_net net xid packet = record { servers = net.servers; packets = net.packets ++ packet ∷ []; last_xid = xid; next_name = net.next_name; drawn = net.drawn }

abbrev pub mds_call : ℕ → CallOut → PacketValue
mds_call xid c = Call Mds c.server xid c.uid c.uid c.call

pub later_sent : (net : Net) (server xid uid gid : ℕ) (call : DsCallValue) → AllFollow net.servers net.servers → net.last_xid < xid → Later net (sent_net net xid (Call Mds server xid uid gid call))
later_sent net server xid uid gid call same new =
    let p : PacketValue = Call Mds server xid uid gid call in
    record {
      servers = same;
      sent = λ place q is. push_old net.packets (p ∷ []) place q is;
      calls = λ x k c used all. all_append (IsThisCall x k c) net.packets (p ∷ []) all ((λ e. absurd (omega (arith, used, new, e))), tt);
      used = omega (arith, new);
      names = omega arith;
      home = λ k less. refl;
      low = λ k less. refl;
      tops = λ g. omega arith;
    }

-- ---- no other call has the number

not_this : (net : Net) (xid server : ℕ) (call : DsCallValue) → net.last_xid < xid → (p : PacketValue) → IsPacket net p → IsThisCall xid server call p
not_this net xid server call new (Call Mds to number uid gid asked) h = λ e. let used = h.0 in absurd (omega (arith, used, new, e))
not_this net xid server call new (Call (Server n) to number uid gid asked) h = tt
not_this net xid server call new (Call (Client n) to number uid gid asked) h = tt
not_this net xid server call new (Reply place from to number reply) h = tt

pub only_call : (net : Net) (xid server uid : ℕ) (call : DsCallValue) → net.last_xid < xid → AllByRecursion (IsPacket net) net.packets → AreThisCall (net.packets ++ Call Mds server xid uid uid call ∷ []) xid server call
only_call net xid server uid call new packets =
    all_append (IsThisCall xid server call) net.packets (Call Mds server xid uid uid call ∷ []) (all_more (IsPacket net) (IsThisCall xid server call) net.packets (not_this net xid server call new) packets) ((λ e. (refl, refl)), tt)

-- a mirror to which a call waits is not given up
waits_up : (stage : CallStage) → waits stage ≡ true → is_given_up stage ≡ false
waits_up Waits w = refl
waits_up (Out xid timeouts) w = absurd cc
waits_up (KeptOut xid) w = absurd cc
waits_up KeptBack w = absurd cc
waits_up Done w = absurd cc
waits_up GivenUp w = absurd cc

-- ---- by what is under way

module _ (net : Net) (n xid : ℕ) (journal : List Entry) (same : AllFollow net.servers net.servers) (packets : AllByRecursion (IsPacket net) net.packets) (new : net.last_xid < xid) (bounded : AreBounded net) where
  abbrev GoesOut : CallOut → Type 0
  GoesOut c = IsCallOf net.drawn net.servers net.next_name c.server c.call × IsFile (sent_net net xid (mds_call xid c)) journal n c.file

  -- the file as it was, in the network then
  as_it_was : (server uid : ℕ) (call : DsCallValue) (f : MdsFile) → IsFile net journal n f → IsFile (sent_net net xid (Call Mds server xid uid uid call)) journal n f
  as_it_was server uid call f h =
      let after : Net = sent_net net xid (Call Mds server xid uid uid call) in
      subst (λ (j : List Entry). IsFile after j n f) (append-nil journal) (file_on net after (later_sent net server xid uid uid call same new) n journal [] tt refl f tt h)

  creation_out : (owner : ℕ) (c : Creation) → IsCreationOf net n owner c → IsCreationOf (sent_net net xid (Call Mds c.server xid 0 0 (Create c.name owner))) n owner (in_stage c (Out xid 0))
  creation_out owner c h =
      let after : Net = sent_net net xid (Call Mds c.server xid 0 0 (Create c.name owner)) in
      let k = creation_on net after (later_sent net c.server xid 0 0 (Create c.name owner) same new) n owner c h in
      record {
        drawn = k.drawn;
        home = k.home;
        low = k.low;
        out = λ x o. subst (λ (y : ℕ). (y ≤ xid) × AreThisCall after.packets y c.server (Create c.name owner)) (eqb-true xid x o) (omega arith, only_call net xid c.server 0 (Create c.name owner) new packets);
        made = k.made;
      }

  creates : (owner : ℕ) (c : Creation) → IsCreationOf net n owner c → IsCallOf net.drawn net.servers net.next_name c.server (Create c.name owner)
  creates owner c h = (h.drawn, sym h.low)

  makes : (s : LayoutState) (all : Creations) → IsFile net journal n (record { layout = s; activity = Makes all }) → (place : ℕ) (c : Creation) → slice_get all.items place ≡ Some c
      → GoesOut (record { file = record { layout = s; activity = Makes (with_creation all place (in_stage c (Out xid 0))) }; server = c.server; uid = 0; call = Create c.name all.owner })
  makes s all h place c there =
      let after : Net = sent_net net xid (Call Mds c.server xid 0 0 (Create c.name all.owner)) in
      let k = as_it_was c.server 0 (Create c.name all.owner) (record { layout = s; activity = Makes all }) h in
      let it = all_at (IsCreationOf net n all.owner) all.items place c h.busy.items there in (
        creates all.owner c it,
        record {
          live = k.live;
          apart = k.apart;
          mirrors = k.mirrors;
          cred = k.cred;
          top = k.top;
          busy = record {
            phase = k.busy.phase;
            owner = k.busy.owner;
            least = k.busy.least;
            items = all_set (IsCreationOf after n all.owner) all.items place (in_stage c (Out xid 0)) k.busy.items (creation_out all.owner c it);
            apart = ap are_apart (servers_set all.items place c (in_stage c (Out xid 0)) there refl) ∙ k.busy.apart;
            fences = k.busy.fences;
          };
        },
      )

  -- a target of a copy, and the source
  target_out : (copier at : ℕ) (piece : List ℕ) (t : CopyTarget) (uid : ℕ) → IsTargetOf net n copier at piece t
      → IsTargetOf (sent_net net xid (Call Mds t.server xid uid uid (target_call copier at piece t.name t.made))) n copier at piece (at_stage t (Out xid 0))
  target_out copier at piece t uid h =
      let call : DsCallValue = target_call copier at piece t.name t.made in
      let after : Net = sent_net net xid (Call Mds t.server xid uid uid call) in
      let k = target_on net after (later_sent net t.server xid uid uid call same new) n copier at piece t h in
      record {
        drawn = k.drawn;
        home = k.home;
        low = k.low;
        out = λ x o. subst (λ (y : ℕ). (y ≤ xid) × AreThisCall after.packets y t.server call) (eqb-true xid x o) (omega arith, only_call net xid t.server uid call new packets);
        made = k.made;
      }

  asked : (copier at : ℕ) (piece : List ℕ) (t : CopyTarget) (made : Option Mirror) → IsTargetOf net n copier at piece t → IsCallOf net.drawn net.servers net.next_name t.server (target_call copier at piece t.name made)
  asked copier at piece t None h = (h.drawn, sym h.low)
  asked copier at piece t (Some m) h = tt

  copies : (s : LayoutState) (c : CopyState) → IsFile net journal n (record { layout = s; activity = Copies c }) → (place : ℕ) (t : CopyTarget) → slice_get c.targets place ≡ Some t
      → GoesOut (record { file = record { layout = s; activity = Copies (with_target c place (at_stage t (Out xid 0))) }; server = t.server; uid = target_caller c.copier t.made; call = target_call c.copier c.at c.piece t.name t.made })
  copies s c h place t there =
      let uid : ℕ = target_caller c.copier t.made in
      let call : DsCallValue = target_call c.copier c.at c.piece t.name t.made in
      let after : Net = sent_net net xid (Call Mds t.server xid uid uid call) in
      let k = as_it_was t.server uid call (record { layout = s; activity = Copies c }) h in
      let it = all_at (IsTargetOf net n c.copier c.at c.piece) c.targets place t h.busy.targets there in
      (asked c.copier c.at c.piece t t.made it, put_target after n journal s c k place t (at_stage t (Out xid 0)) there refl refl (target_out c.copier c.at c.piece t uid it))

  reads : (s : LayoutState) (c : CopyState) → IsFile net journal n (record { layout = s; activity = Copies c })
      → GoesOut (record { file = record { layout = s; activity = Copies (with_read c (Out xid 0)) }; server = c.source.server; uid = 0; call = Read c.source.fileid c.at PIECE_SIZE })
  reads s c h =
      let k = as_it_was c.source.server 0 (Read c.source.fileid c.at PIECE_SIZE) (record { layout = s; activity = Copies c }) h in
      (tt, recopied _ n journal s c k c.at c.piece c.ended (Out xid 0) c.targets k.busy.targets k.busy.sources refl k.busy.short)

  -- the call of a fence is such as is ever made
  asks : (s : LayoutState) (fence : FenceState) → IsFile net journal n (record { layout = s; activity = Fences fence }) → (m : FenceMirror) → IsInFence net n fence.cred m
      → IsAskedFor net.drawn net.servers net.next_name m.id.server m.id.fileid fence.cred m.seen
  asks s fence h m it =
      let o = bounded m.id it.name it.bears it.drawn in
      let most = o.most in
      let top : net.drawn.top (net.drawn.home it.name) ≡ fence.cred = ap net.drawn.top it.home ∙ h.busy.top in
      let seen = it.seen in
      let server = same_numbered net.servers m.id.server seen.server o.server seen.there o.there in
      record {
        asked = record {
          server = o.server;
          there = o.there;
          asked = record { index = o.index; place = o.place; file = o.file; there = o.is; given = rw (← server) seen.seen; shut = λ less. absurd (omega (arith, less, most, top)) };
        };
        name = it.name;
        drawn = it.drawn;
        bears = it.bears;
        up = omega (arith, top);
      }

  fences : (s : LayoutState) (fence : FenceState) → IsFile net journal n (record { layout = s; activity = Fences fence }) → (place : ℕ) (m : FenceMirror) → slice_get fence.mirrors place ≡ Some m → waits m.stage ≡ true
      → GoesOut (record { file = record { layout = s; activity = Fences (with_mirror fence place (with_stage m (Out xid 0))) }; server = m.id.server; uid = 0; call = SetAttr m.id.fileid fence.cred m.seen })
  fences s fence h place m there waiting =
      let call : DsCallValue = SetAttr m.id.fileid fence.cred m.seen in
      let after : Net = sent_net net xid (Call Mds m.id.server xid 0 0 call) in
      let k = as_it_was m.id.server 0 call (record { layout = s; activity = Fences fence }) h in
      let old = all_at (IsInFence net n fence.cred) fence.mirrors place m h.busy.mirrors there in
      let it = in_fence_on net after (later_sent net m.id.server xid 0 0 call same new) n fence.cred m old in
      let goes : IsFenceCall after fence.cred xid m.id = record { used = omega arith; guard = m.seen; calls = only_call net xid m.id.server 0 call new packets } in (
        asks s fence h m old,
        put_mirror after n journal s fence k place m (with_stage m (Out xid 0)) there (refl, refl) (waits_up m.stage waiting)
            (record { name = it.name; drawn = it.drawn; bears = it.bears; home = it.home; seen = it.seen; out = λ x o. subst (λ (y : ℕ). IsFenceCall after fence.cred y m.id) (eqb-true xid x o) goes; done = λ is. absurd cc }),
      )

  -- ---- the first that waits

  by_creation : (s : LayoutState) (all : Creations) → IsFile net journal n (record { layout = s; activity = Makes all }) → (got : Option ℕ) → creation_waiting all ≡ got → (c : CallOut) → create_out (record { layout = s; activity = Makes all }) all xid got ≡ Some c → GoesOut c
  by_creation s all h None at c is = absurd cc
  by_creation s all h (Some place) at c is =
      let found = found_at (λ x. waits x.stage) all.items place at in
      let x = found.0 in
      let there = found.1 in
      subst GoesOut (same_Some _ c (sym (ap (create_out_at (record { layout = s; activity = Makes all }) all xid place) there) ∙ is)) (makes s all h place x there)

  by_target : (s : LayoutState) (c : CopyState) → IsFile net journal n (record { layout = s; activity = Copies c }) → (got : Option ℕ) → copy_waiting c ≡ got → (x : CallOut)
      → copy_out (record { layout = s; activity = Copies c }) (copy_call_from c xid got) ≡ Some x → GoesOut x
  by_target s c h None at x is =
      cond_both (waits c.read && may_read_on c) (Some (record { copy = with_read c (Out xid 0); server = c.source.server; uid = 0; call = Read c.source.fileid c.at PIECE_SIZE })) None
      (λ (o : Option CopyCall). copy_out (record { layout = s; activity = Copies c }) o ≡ Some x → GoesOut x) (λ e same_call. subst GoesOut (same_Some _ x same_call) (reads s c h)) (λ e none. absurd cc) is
  by_target s c h (Some place) at x is =
      let found = found_at (λ t. waits t.stage) c.targets place at in
      let t = found.0 in
      let there = found.1 in
      subst GoesOut (same_Some _ x (sym (ap (λ o. copy_out (record { layout = s; activity = Copies c }) (target_call_at c xid place o)) there) ∙ is)) (copies s c h place t there)

  by_mirror : (s : LayoutState) (fence : FenceState) → IsFile net journal n (record { layout = s; activity = Fences fence }) → (got : Option ℕ) → waiting_at fence ≡ got → (c : CallOut)
      → fence_out (record { layout = s; activity = Fences fence }) (call_from fence xid got) ≡ Some c → GoesOut c
  by_mirror s fence h None at c is = absurd cc
  by_mirror s fence h (Some place) at c is =
      let found = found_at (λ x. waits x.stage) fence.mirrors place at in
      let m = found.0 in
      let there = found.1 in
      subst GoesOut (same_Some _ c (sym (ap (λ o. fence_out (record { layout = s; activity = Fences fence }) (fence_call_at fence xid place o)) there) ∙ is)) (fences s fence h place m there found.2)

  by_source : (s : LayoutState) (stage : CallStage) → IsFile net journal n (record { layout = s; activity = Settles stage }) → (live : List Mirror) (c : CallOut) → settle_out (record { layout = s; activity = Settles stage }) xid live ≡ Some c → GoesOut c
  by_source s stage h [] c is = absurd cc
  by_source s stage h (m ∷ live) c is = subst GoesOut (same_Some _ c is) (tt, staged_settling _ n 0 journal s stage (as_it_was m.id.server 0 _ (record { layout = s; activity = Settles stage }) h) (Out xid 0))

  by_activity : (s : LayoutState) (activity : Activity) → IsFile net journal n (record { layout = s; activity = activity }) → (c : CallOut) → call_out (record { layout = s; activity = activity }) xid ≡ Some c → GoesOut c
  by_activity s Idle h c is = absurd cc
  by_activity s (Makes all) h c is = by_creation s all h (creation_waiting all) refl c is
  by_activity s (Fences fence) h c is = by_mirror s fence h (waiting_at fence) refl c is
  by_activity s (Settles stage) h c is =
      cond_both (waits stage) (settle_out (record { layout = s; activity = Settles stage }) xid s.live) None (λ (o : Option CallOut). o ≡ Some c → GoesOut c) (λ w. by_source s stage h s.live c) (λ w e. absurd cc) is
  by_activity s (Copies d) h c is = by_target s d h (copy_waiting d) refl c is

  pub call_out_ok : (f : MdsFile) (c : CallOut) → IsFile net journal n f → call_out f xid ≡ Some c → GoesOut c
  call_out_ok f c h is = by_activity f.layout f.activity h c is
