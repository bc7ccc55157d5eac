-- Sources at every moment of a bound run.
use Rattle.std.proofs.Common.{◌≡◌, ℕ, ◌+◌, ◌-◌, ◌<◌, ◌≤◌, ◌⊎◌, Bool, true, cond, ◌&&◌, List, [], ◌∷◌, ◌++◌, length, Option, Some, None, refl, sym, ap, subst, ◌∙◌, arith, inl, inr, append-nil}
use Rattle.std.specs.Prelude.{slice_get}
use Rattle.std.specs.List.{AllByRecursion}
use Rattle.std.proofs.lemmas.Bool.{cond_both, cases_lt, eq-eqb, eqb-true, ltb-true}
use Rattle.std.proofs.lemmas.List.{length-set}
use Rattle.cluster_model.specs.declared.ids.NodeId.{NodeId}
use Rattle.cluster_model.specs.declared.ids.NodeId.TheVariants.{Mds, Server, Client}
use Rattle.cluster_model.specs.declared.ids.MirrorId.{MirrorId}
use Rattle.cluster_model.specs.declared.ids.Mirror.{Mirror}
use Rattle.cluster_model.specs.declared.entry.Entry.{Entry}
use Rattle.cluster_model.specs.declared.call_stage.CallStage.{CallStage}
use Rattle.cluster_model.specs.declared.call_stage.CallStage.TheVariants.{Out}
use Rattle.cluster_model.specs.declared.fence_mirror.FenceMirror.{FenceMirror}
use Rattle.cluster_model.specs.declared.layout_state.LayoutState.{LayoutState}
use Rattle.cluster_model.specs.declared.limits.TheConstants.{PIECE_SIZE}
use Rattle.cluster_model.specs.Journal.{Copy, copy_after, content_of}
use Rattle.cluster_model.specs.DsCalls.{DsCallValue, Create, SetAttr, Write, Commit, Read, DsReplyValue, mirror_name}
use Rattle.cluster_model.specs.Fences.{FenceState, waits, fence_call_at, call_from, waiting_at}
use Rattle.cluster_model.specs.Phases.{ids_of}
use Rattle.copy_rule.specs.Copies.{CopyState, CopyCall, with_read, with_target, at_stage, may_read_on, target_call, target_caller, target_call_at, waiting_at as copy_waiting, call_from as copy_call_from}
use Rattle.copy_rule.specs.declared.copy_target.CopyTarget.{CopyTarget}
use Rattle.file_rule.specs.MdsFiles.{Creations, Activity, Idle, Makes, Fences, Settles, Copies, MdsFile}
use Rattle.file_rule.specs.declared.creation.Creation.{Creation}
use Rattle.file_rule.specs.FilePhases.{CallOut, call_out, call_out_of, create_out, create_out_at, creation_waiting, fence_out, settle_out, copy_out, new_mds_file}
use Rattle.cluster_laws.specs.Machine.{PacketValue, Call, Reply, Machine, numbered_at, with_number, with_packets, puts_out, fresh_of, may_use, may_number}
use Rattle.cluster_laws.proofs.Lists.{all_append, all_more, all_at, all_set, within_number}
use Rattle.cluster_laws.proofs.Journals.{content_same}
use Rattle.cluster_laws.proofs.Invariant.{IsInFence, IsFile, net_of, Holds}
use Rattle.cluster_laws.proofs.PeriodFacts.{granted_in}
use Rattle.cluster_laws.proofs.PeriodStates.{IsMine}
use Rattle.cluster_laws.proofs.Draws.{new_home, new_low}
use Rattle.cluster_laws.proofs.NewFiles.{pushed, pushed_length}
use Rattle.cluster_laws.proofs.CallsOut.{mds_call}
use Rattle.cluster_laws.proofs.Names.{name_is}
use Rattle.machine_walk.proofs.Stories.{Story, drawn_story, IsOnward, onward_drawn, IsMoment}
use Rattle.machine_walk.proofs.MoveCases.{after_call, created_machine}
use Rattle.machine_walk.proofs.Placed.{files_set, IfCall, its_call}
use Rattle.machine_walk.proofs.Writers.{IsPlainUid, HasUids, mine_on, plain_on}
use Rattle.machine_walk.proofs.WriterFacts.{KnowsWriters}
use Rattle.machine_walk.proofs.WriterCases.{not_drawn}
use Rattle.copied_bytes.proofs.CallsKept.{IsOutSo, out_again, out_call, out_new}
use Rattle.copied_bytes.proofs.Sources.{owner_of, IsCommitReply, IsReadReply, SettlesSo, CopiesSo, KeepsFile, GoesOnAt}
use Rattle.copied_bytes.proofs.SourceCarry.{IsSetCall, IsSetPacket, AreOwnersMine, KnowsSources, IsOwnedAt, file_owned, file_nows, keeps_on}
use Rattle.copied_bytes.proofs.SourceServed.{out_later, grants_nothing, same_at}

module _ (t : Story) (m : Machine) (journal : List Entry) (at : IsMoment t m journal) (w : KnowsWriters t m journal) (p : KnowsSources t m journal) where
  -- a journal that says nothing more of mirrors and grants nothing
  module _ (entries : List Entry) (none : AllByRecursion (λ e. granted_in e ≡ None) entries) (copies : AllByRecursion (λ e. (id : MirrorId) (c : Copy) → copy_after id c e ≡ c) entries) (packets : List PacketValue) (last : ℕ)
      (outs : (xid : ℕ) (server : ℕ) (call : DsCallValue) (R : DsReplyValue → Type 0) → IsOutSo m.packets (m.last_xid Mds) xid server call R → IsOutSo packets last xid server call R) where
    content_then : (id : MirrorId) → content_of (journal ++ entries) id ≡ content_of journal id
    content_then id = content_same id journal entries (all_more (λ e. (i : MirrorId) (c : Copy) → copy_after i c e ≡ c) (λ e. (c : Copy) → copy_after id c e ≡ c) entries (λ e k. k id) copies)

    pub quiet_file : (k : ℕ) (f : MdsFile) → numbered_at m.files k ≡ Some f → KeepsFile t m.next_uid packets last (journal ++ entries) k f.layout f.activity
    quiet_file k f found =
        let owned = file_owned t m journal at.holds p.owners k f found in
        let old = p.files k f found in
        keeps_on t m.next_uid t m.next_uid k journal (journal ++ entries) (grants_nothing t m journal at w p entries none k) m.packets packets (m.last_xid Mds) last
        (λ xid id on shut o. outs xid id.server (Commit id.fileid) (IsCommitReply (journal ++ entries) id) (out_later m.packets (m.last_xid Mds) xid id.server (Commit id.fileid) journal (journal ++ entries) id (λ bytes h. on.whole bytes shut h) o))
        (λ xid id bytes pos up whole o. outs xid id.server (Read id.fileid pos PIECE_SIZE) (IsReadReply bytes pos) o) (λ u bytes less copy. copy) f.layout f.activity (w.files k f found) (λ making u mine. mine)
        (all_more (IsOwnedAt t m journal k) (GoesOnAt t t journal (journal ++ entries)) (ids_of f.layout.live) (λ id o. same_at t m journal at w p (journal ++ entries) id (content_then id)) owned) (file_nows t m journal k f (at.holds.files k f found) owned old.shut) old

  -- ---- packets alone

  packed_file : (packets : List PacketValue) (last : ℕ) → ((xid : ℕ) (server : ℕ) (call : DsCallValue) (R : DsReplyValue → Type 0) → IsOutSo m.packets (m.last_xid Mds) xid server call R → IsOutSo packets last xid server call R)
      → (k : ℕ) (f : MdsFile) → numbered_at m.files k ≡ Some f → KeepsFile t m.next_uid packets last journal k f.layout f.activity
  packed_file packets last outs k f found = subst (λ (j : List Entry). KeepsFile t m.next_uid packets last j k f.layout f.activity) (append-nil journal) (quiet_file [] tt tt packets last outs k f found)

  pub again_sources : (place : ℕ) (q : PacketValue) → slice_get m.packets place ≡ Some q → KnowsSources t (with_packets m (m.packets ++ q ∷ [])) journal
  again_sources place q there = record {
    lows = p.lows;
    owners = p.owners;
    known = p.known;
    packets = all_append (IsSetPacket t m.next_uid m.next_name m.servers) m.packets (q ∷ []) p.packets (all_at (IsSetPacket t m.next_uid m.next_name m.servers) m.packets place q p.packets there, tt);
    files = packed_file (m.packets ++ q ∷ []) (m.last_xid Mds) (λ xid server call R o. out_again m.packets (m.last_xid Mds) xid server call R place q there o);
  }

  -- the last number of the metadata server behind a new call of a node
  number_up : (node : NodeId) (xid : ℕ) → may_number m node xid ≡ true → (m.last_xid Mds ≤ with_number m.last_xid node xid Mds) × (node ≡ Mds → m.last_xid Mds < xid)
  number_up Mds xid may = let less = ltb-true (m.last_xid Mds) xid may in (omega (arith, less), λ e. less)
  number_up (Server k) xid may = (omega arith, λ e. absurd cc)
  number_up (Client k) xid may = (omega arith, λ e. absurd cc)

  used_set : (n : ℕ) (call : DsCallValue) → may_use call ≡ true → IsSetCall t m.next_uid m.next_name m.servers n call
  used_set n (Create name owner) may = tt
  used_set n (SetAttr fileid owner guard) may = absurd cc
  used_set n (Write fileid pos synced bytes) may = tt
  used_set n (Commit fileid) may = tt
  used_set n (Read fileid pos count) may = tt

  pub used_sources : (node : NodeId) (n xid uid gid : ℕ) (call : DsCallValue) → may_use call ≡ true → may_number m node xid ≡ true → KnowsSources t (puts_out m node xid (Call node n xid uid gid call)) journal
  used_sources node n xid uid gid call may new =
      let up = number_up node xid new in
      record {
        lows = p.lows;
        owners = p.owners;
        known = p.known;
        packets = all_append (IsSetPacket t m.next_uid m.next_name m.servers) m.packets (Call node n xid uid gid call ∷ []) p.packets (used_set n call may, tt);
        files = packed_file (m.packets ++ Call node n xid uid gid call ∷ []) (with_number m.last_xid node xid Mds) (λ x server asked R o. out_call m.packets (m.last_xid Mds) (with_number m.last_xid node xid Mds) x server asked R node n xid uid gid call o up.0 up.1);
      }

  -- ---- a note

  pub noted_sources : (e : Entry) → granted_in e ≡ None → ((id : MirrorId) (c : Copy) → copy_after id c e ≡ c) → KnowsSources t m (journal ++ e ∷ [])
  noted_sources e none copies = record { lows = p.lows; owners = p.owners; known = p.known; packets = p.packets; files = quiet_file (e ∷ []) (none, tt) (copies, tt) m.packets (m.last_xid Mds) (λ xid server call R o. o) }

  -- ---- a call of a file

  module _ (n xid : ℕ) (new : m.last_xid Mds < xid) (s : LayoutState) where
    abbrev Put : CallOut → List PacketValue
    Put c = m.packets ++ mds_call xid c ∷ []

    -- what the call is, and what is known of the file then
    abbrev Known : CallOut → Type 0
    Known c = IsSetCall t m.next_uid m.next_name m.servers c.server c.call × KeepsFile t m.next_uid (Put c) xid journal n c.file.layout c.file.activity

    abbrev Was : Activity → Type 1
    Was a = (packets : List PacketValue) → ((x : ℕ) (server : ℕ) (call : DsCallValue) (R : DsReplyValue → Type 0) → IsOutSo m.packets (m.last_xid Mds) x server call R → IsOutSo packets xid x server call R) → KeepsFile t m.next_uid packets xid journal n s a

    goes : (c : CallOut) → (x : ℕ) (server : ℕ) (call : DsCallValue) (R : DsReplyValue → Type 0) → IsOutSo m.packets (m.last_xid Mds) x server call R → IsOutSo (Put c) xid x server call R
    goes c x server call R o = out_call m.packets (m.last_xid Mds) xid x server call R Mds c.server xid c.uid c.uid c.call o (omega (arith, new)) (λ e. new)

    making : (all : Creations) → Was (Makes all) → (found : Option ℕ) → IfCall Known (create_out (record { layout = s; activity = Makes all }) all xid found)
    making all h None = tt
    making all h (Some place) = at_place (slice_get all.items place)
      where
        at_place : (got : Option Creation) → IfCall Known (create_out_at (record { layout = s; activity = Makes all }) all xid place got)
        at_place None = tt
        at_place (Some c) =
            let k = h (m.packets ++ Call Mds c.server xid 0 0 (Create c.name all.owner) ∷ []) (goes (record { file = record { layout = s; activity = Makes all }; server = c.server; uid = 0; call = Create c.name all.owner })) in
            (tt, record { above = k.above; shut = k.shut; busy = k.busy })

    fencing : (fence : FenceState) → Was (Fences fence) → AllByRecursion (IsInFence (net_of m t.drawn) n fence.cred) fence.mirrors → IsPlainUid t m.next_uid n fence.cred → (found : Option ℕ) → IfCall Known (fence_out (record { layout = s; activity = Fences fence }) (call_from fence xid found))
    fencing fence h in_fence plain None = tt
    fencing fence h in_fence plain (Some place) = at_place (slice_get fence.mirrors place) refl
      where
        at_place : (got : Option FenceMirror) → slice_get fence.mirrors place ≡ got → IfCall Known (fence_out (record { layout = s; activity = Fences fence }) (fence_call_at fence xid place got))
        at_place None is = tt
        at_place (Some x) is =
            let it = all_at (IsInFence (net_of m t.drawn) n fence.cred) fence.mirrors place x in_fence is in
            let k = h (m.packets ++ Call Mds x.id.server xid 0 0 (SetAttr x.id.fileid fence.cred x.seen) ∷ []) (goes (record { file = record { layout = s; activity = Fences fence }; server = x.id.server; uid = 0; call = SetAttr x.id.fileid fence.cred x.seen })) in
            (record { name = it.name; drawn = it.drawn; bears = it.bears; plain = subst (λ (j : ℕ). IsPlainUid t m.next_uid j fence.cred) (sym it.home) plain }, record { above = k.above; shut = k.shut; busy = tt })

    settling : (stage : CallStage) → Was (Settles stage) → (live : List Mirror) → ids_of s.live ≡ ids_of live → IfCall Known (settle_out (record { layout = s; activity = Settles stage }) xid live)
    settling stage h [] is = tt
    settling stage h (x ∷ live) is =
        let call : DsCallValue = Commit x.id.fileid in
        let put : List PacketValue = m.packets ++ Call Mds x.id.server xid 0 0 call ∷ [] in
        let k = h put (goes (record { file = record { layout = s; activity = Settles stage }; server = x.id.server; uid = 0; call = call })) in (
          tt,
          record {
            above = k.above;
            shut = k.shut;
            busy = subst (SettlesSo put xid journal (Out xid 0)) (sym is) (λ y o. subst (λ (z : ℕ). IsOutSo put xid z x.id.server call (IsCommitReply journal x.id)) (eqb-true xid y o) (out_new (net_of m t.drawn) at.holds.packets xid new x.id.server 0 call (IsCommitReply journal x.id)));
          },
        )

    reading : (put : List PacketValue) (c : CopyState) (ids : List MirrorId) → ((bytes : List ℕ) (id : MirrorId) → c.source ≡ id → IsOutSo put xid xid id.server (Read id.fileid c.at PIECE_SIZE) (IsReadReply bytes c.at)) → CopiesSo t put xid journal c ids → CopiesSo t put xid journal (with_read c (Out xid 0)) ids
    reading put c [] out h = h
    reading put c (id ∷ ids) out h = record {
      from = h.from;
      bytes = h.bytes;
      copy = h.copy;
      whole = h.whole;
      slice = h.slice;
      over = h.over;
      reads = λ y o. subst (λ (z : ℕ). IsOutSo put xid z id.server (Read id.fileid c.at PIECE_SIZE) (IsReadReply h.bytes c.at)) (eqb-true xid y o) (out h.bytes id h.from);
      replaced = h.replaced;
    }

    writing : (put : List PacketValue) (c : CopyState) (place : ℕ) (x : CopyTarget) → slice_get c.targets place ≡ Some x → (ids : List MirrorId) → CopiesSo t put xid journal c ids → CopiesSo t put xid journal (with_target c place (at_stage x (Out xid 0))) ids
    writing put c place x is [] h = h
    writing put c place x is (id ∷ ids) h = record {
      from = h.from;
      bytes = h.bytes;
      copy = h.copy;
      whole = h.whole;
      slice = h.slice;
      over = h.over;
      reads = h.reads;
      replaced = all_set _ c.targets place (at_stage x (Out xid 0)) h.replaced (all_at _ c.targets place x h.replaced is);
    }

    copying : (c : CopyState) → Was (Copies c) → (found : Option ℕ) → IfCall Known (copy_out (record { layout = s; activity = Copies c }) (copy_call_from c xid found))
    copying c h None =
        let call : DsCallValue = Read c.source.fileid c.at PIECE_SIZE in
        let put : List PacketValue = m.packets ++ Call Mds c.source.server xid 0 0 call ∷ [] in
        cond_both (waits c.read && may_read_on c) (Some (record { copy = with_read c (Out xid 0); server = c.source.server; uid = 0; call = call })) None (λ (o : Option CopyCall). IfCall Known (copy_out (record { layout = s; activity = Copies c }) o))
        (λ e.
        let k = h put (goes (record { file = record { layout = s; activity = Copies c }; server = c.source.server; uid = 0; call = call })) in (
          tt,
          record {
            above = k.above;
            shut = k.shut;
            busy = reading put c (ids_of s.live) (λ bytes id from. subst (λ (y : MirrorId). IsOutSo put xid xid y.server (Read y.fileid c.at PIECE_SIZE) (IsReadReply bytes c.at)) from (out_new (net_of m t.drawn) at.holds.packets xid new c.source.server 0 call (IsReadReply bytes c.at))) k.busy;
          },
        )) (λ e. tt)
    copying c h (Some place) = at_place (slice_get c.targets place) refl
      where
        set_none : (by name : ℕ) (pos : ℕ) (piece : List ℕ) (made : Option Mirror) (server : ℕ) → IsSetCall t m.next_uid m.next_name m.servers server (target_call by pos piece name made)
        set_none by name pos piece None server = tt
        set_none by name pos piece (Some y) server = tt

        at_place : (got : Option CopyTarget) → slice_get c.targets place ≡ got → IfCall Known (copy_out (record { layout = s; activity = Copies c }) (target_call_at c xid place got))
        at_place None is = tt
        at_place (Some x) is =
            let put : List PacketValue = m.packets ++ Call Mds x.server xid (target_caller c.copier x.made) (target_caller c.copier x.made) (target_call c.copier c.at c.piece x.name x.made) ∷ [] in
            let k = h put (goes (record { file = record { layout = s; activity = Copies c }; server = x.server; uid = target_caller c.copier x.made; call = target_call c.copier c.at c.piece x.name x.made })) in
            (set_none c.copier x.name c.at c.piece x.made x.server, record { above = k.above; shut = k.shut; busy = writing put c place x is (ids_of s.live) k.busy })

    pub out_source : (a : Activity) → IsFile (net_of m t.drawn) journal n (record { layout = s; activity = a }) → HasUids t m.next_uid n s a → Was a → IfCall Known (call_out_of (record { layout = s; activity = a }) xid a)
    out_source Idle file uids h = tt
    out_source (Makes all) file uids h = making all h (creation_waiting all)
    out_source (Fences fence) file uids h = fencing fence h file.busy.mirrors uids.new (waiting_at fence)
    out_source (Settles stage) file uids h = cond_both (waits stage) (settle_out (record { layout = s; activity = Settles stage }) xid s.live) None (IfCall Known) (λ e. settling stage h s.live refl) (λ e. tt)
    out_source (Copies c) file uids h = copying c h (copy_waiting c)

  pub called_sources : (n xid : ℕ) (f : MdsFile) (c : CallOut) → numbered_at m.files n ≡ Some f → call_out f xid ≡ Some c → m.last_xid Mds < xid → KnowsSources t (after_call m n xid c) journal
  called_sources n xid f c there is new =
      let k = its_call (Known n xid new f.layout) (call_out f xid) c (out_source n xid new f.layout f.activity (at.holds.files n f there) (w.files n f there) (λ packets outs. packed_file packets xid outs n f there)) is in
      record {
        lows = p.lows;
        owners = p.owners;
        known = λ u less. let was = p.known u less in let count = length-set m.files (n - 1) c.file in omega (arith, was, count);
        packets = all_append (IsSetPacket t m.next_uid m.next_name m.servers) m.packets (mds_call xid c ∷ []) p.packets (k.0, tt);
        files = files_set (λ j g. KeepsFile t m.next_uid (m.packets ++ mds_call xid c ∷ []) xid journal j g.layout g.activity) m.files n f c.file there k.1 (λ j g other found. packed_file (m.packets ++ mds_call xid c ∷ []) xid (goes n xid new f.layout c) j g found);
      }

  -- ---- a new file

  module _ (servers : List ℕ) (h : Holds (created_machine m servers) journal (drawn_story t m.next_name (length m.files + 1) m.next_uid None).drawn) where
    abbrev number : ℕ
    number = length m.files + 1

    abbrev then : Story
    then = drawn_story t m.next_name number m.next_uid None

    abbrev more : ℕ
    more = m.next_uid + 1

    onward : IsOnward t m.next_uid m.next_name then
    onward = onward_drawn t m.next_uid m.next_name number None

    up : m.next_uid ≤ more
    up = omega arith

    new_whose : then.whose m.next_uid ≡ number
    new_whose = ap (λ (b : Bool). cond b number (t.whose m.next_uid)) (eq-eqb m.next_uid m.next_uid refl)

    old_mine : (k u : ℕ) → u < m.next_uid → IsMine then.whose more k u → IsMine t.whose m.next_uid k u
    old_mine k u less mine = record { mine = sym (onward.whose u less) ∙ mine.mine; drawn = less }

    is_last : (u : ℕ) → m.next_uid ≤ u → u < more → u ≡ m.next_uid
    is_last u le less = omega (arith, le, less)

    lows_then : (k : ℕ) → k < m.next_name + 1 → IsMine then.whose more (then.drawn.home k) (then.drawn.low k)
    lows_then k less =
        elim (cases_lt k m.next_name) [
          | inl old ↦ subst (λ (j : ℕ). IsMine then.whose more j (then.drawn.low k)) (sym (onward.home k old)) (subst (λ (u : ℕ). IsMine then.whose more (t.drawn.home k) u) (sym (onward.low k old))
              (mine_on t m.next_uid m.next_name then more onward up (t.drawn.home k) (t.drawn.low k) (p.lows k old)))
          | inr le ↦ subst (λ (j : ℕ). IsMine then.whose more j (then.drawn.low k)) (sym (new_home t.drawn m.next_name number m.next_uid k le)) (subst (λ (u : ℕ). IsMine then.whose more number u) (sym (new_low t.drawn m.next_name number m.next_uid k le))
              (record { mine = new_whose; drawn = omega arith }))
        ]

    owners_then : AreOwnersMine then more (m.next_name + 1) m.servers
    owners_then i s index file k there found named less =
        let its = (at.holds.servers i s there).names index (mirror_name k) named in
        let few = h.few_names in
        let small = its.2 in
        let same : k ≡ its.0 = name_is k its.0 (omega (arith, less, few)) (omega (arith, small, few)) its.1 in
        let old : k < m.next_name = omega (arith, same, small) in
        subst (λ (j : ℕ). IsMine then.whose more j file.owner) (sym (onward.home k old)) (mine_on t m.next_uid m.next_name then more onward up (t.drawn.home k) file.owner (p.owners i s index file k there found named old))

    known_then : (u : ℕ) → u < more → then.whose u ≤ length (m.files ++ new_mds_file (fresh_of m) servers ∷ [])
    known_then u less =
        let count = pushed_length m.files (new_mds_file (fresh_of m) servers) in
        elim (cases_lt u m.next_uid) [
          | inl old ↦ let same = onward.whose u old in let was = p.known u old in omega (arith, same, was, count)
          | inr le ↦ let same : then.whose u ≡ number = ap then.whose (is_last u le less) ∙ new_whose in omega (arith, same, count)
        ]

    set_then : (i : ℕ) (call : DsCallValue) → IsSetCall t m.next_uid m.next_name m.servers i call → IsSetCall then more (m.next_name + 1) m.servers i call
    set_then i (Create name owner) k = tt
    set_then i (SetAttr fileid owner guard) k =
        let less = k.drawn in
        record { name = k.name; drawn = omega (arith, less); bears = k.bears; plain = subst (λ (j : ℕ). IsPlainUid then more j owner) (sym (onward.home k.name k.drawn)) (plain_on t m.next_uid m.next_name then more onward up (t.drawn.home k.name) owner k.plain) }
    set_then i (Write fileid pos synced bytes) k = tt
    set_then i (Commit fileid) k = tt
    set_then i (Read fileid pos count) k = tt

    packet_then : (q : PacketValue) → IsSetPacket t m.next_uid m.next_name m.servers q → IsSetPacket then more (m.next_name + 1) m.servers q
    packet_then (Call from i xid user gid call) k = set_then i call k
    packet_then (Reply place i to xid reply) k = tt

    at_then : (k : ℕ) (id : MirrorId) → IsOwnedAt t m journal k id → GoesOnAt t then journal journal id
    at_then k id o = record { rises = omega arith; plain = λ none. onward.copied (owner_of journal id) o.mine.drawn ∙ none; whole = λ bytes shut whole. whole }

    old_file : (k : ℕ) (f : MdsFile) → numbered_at m.files k ≡ Some f → KeepsFile then more m.packets (m.last_xid Mds) journal k f.layout f.activity
    old_file k f found =
        let owned = file_owned t m journal at.holds p.owners k f found in
        let old = p.files k f found in
        keeps_on t m.next_uid then more k journal journal (record { mine = mine_or; unused = λ u mine was. was; fresh = λ u le. not_drawn m.next_uid u journal at.periods.below le }) m.packets m.packets (m.last_xid Mds) (m.last_xid Mds)
        (λ xid id on shut o. o) (λ xid id bytes pos up_ whole o. o) (λ u bytes less copy. onward.copied u less ∙ copy) f.layout f.activity (w.files k f found) (λ making u mine. only u mine)
        (all_more (IsOwnedAt t m journal k) (GoesOnAt t then journal journal) (ids_of f.layout.live) (at_then k) owned) (file_nows t m journal k f (at.holds.files k f found) owned old.shut) old
      where
        mine_or : (u : ℕ) → IsMine then.whose more k u → IsMine t.whose m.next_uid k u ⊎ (m.next_uid ≤ u)
        mine_or u mine =
            elim (cases_lt u m.next_uid) [
              | inl less ↦ inl (old_mine k u less mine)
              | inr le ↦ inr le
            ]

        only : (u : ℕ) → IsMine then.whose more k u → IsMine t.whose m.next_uid k u
        only u mine =
            elim (cases_lt u m.next_uid) [
              | inl less ↦ old_mine k u less mine
              | inr le ↦
                  let same : k ≡ number = sym mine.mine ∙ ap then.whose (is_last u le mine.drawn) ∙ new_whose in
                  let within = within_number m.files k f found in
                  absurd (omega (arith, same, within.1))
            ]

    its_uids : (u : ℕ) → IsMine then.whose more number u → u ≡ m.next_uid
    its_uids u mine =
        elim (cases_lt u m.next_uid) [
          | inl less ↦ let was = p.known u less in let same : t.whose u ≡ number = sym (onward.whose u less) ∙ mine.mine in absurd (omega (arith, was, same))
          | inr le ↦ is_last u le mine.drawn
        ]

    new_file : KeepsFile then more m.packets (m.last_xid Mds) journal number (new_mds_file (fresh_of m) servers).layout (new_mds_file (fresh_of m) servers).activity
    new_file = record { above = record { none = λ u mine le. let less = mine.drawn in absurd (omega (arith, less, le)) }; shut = tt; busy = its_uids }

    pub created_sources : KnowsSources then (created_machine m servers) journal
    created_sources = record {
      lows = lows_then;
      owners = owners_then;
      known = known_then;
      packets = all_more (IsSetPacket t m.next_uid m.next_name m.servers) (IsSetPacket then more (m.next_name + 1) m.servers) m.packets packet_then p.packets;
      files = λ k g is.
          elim (pushed m.files (new_mds_file (fresh_of m) servers) k g is) [
            | inl old ↦ old_file k g old
            | inr last ↦ subst (λ (j : ℕ). KeepsFile then more m.packets (m.last_xid Mds) journal j g.layout g.activity) (sym last.0) (subst (λ (y : MdsFile). KeepsFile then more m.packets (m.last_xid Mds) journal number y.layout y.activity) last.1 new_file)
          ];
    }
