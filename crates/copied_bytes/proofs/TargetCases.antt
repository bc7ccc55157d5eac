-- Targets at every moment of a bound run.
use Rattle.std.proofs.Common.{◌≡◌, ℕ, ◌+◌, ◌<◌, ◌≤◌, Bool, true, false, ◌&&◌, List, [], ◌∷◌, ◌++◌, length, Option, Some, None, refl, sym, ap, subst, ◌∙◌, arith, inl, inr, append-nil}
use Rattle.std.specs.Prelude.{slice_get}
use Rattle.std.specs.List.{AllByRecursion, list_all}
use Rattle.std.proofs.lemmas.Option.{same_Some}
use Rattle.cluster_laws.proofs.Lists.{found_at}
use Rattle.machine_walk.proofs.WriterCases.{not_drawn}
use Rattle.std.proofs.lemmas.Bool.{cond_both, cases_lt, eqb-true, and_parts, ltb-true}
use Rattle.cluster_model.specs.declared.ids.NodeId.{NodeId}
use Rattle.cluster_model.specs.declared.ids.NodeId.TheVariants.{Mds, Server, Client}
use Rattle.cluster_model.specs.declared.ids.MirrorId.{MirrorId}
use Rattle.cluster_model.specs.declared.ids.Mirror.{Mirror}
use Rattle.cluster_model.specs.declared.entry.Entry.{Entry}
use Rattle.cluster_model.specs.declared.call_stage.CallStage.{CallStage}
use Rattle.cluster_model.specs.declared.call_stage.CallStage.TheVariants.{Waits, Out, KeptOut, KeptBack, Done, GivenUp}
use Rattle.cluster_model.specs.declared.fence_mirror.FenceMirror.{FenceMirror}
use Rattle.cluster_model.specs.declared.layout_state.LayoutState.{LayoutState}
use Rattle.cluster_model.specs.declared.limits.TheConstants.{PIECE_SIZE}
use Rattle.cluster_model.specs.Journal.{Copy, copy_after, content_of}
use Rattle.cluster_model.specs.Phases.{ids_of}
use Rattle.copy_rule.specs.Copies.{CopyState, CopyCall, with_read, with_target, at_stage, have_answered, may_read_on, target_call, target_caller, target_call_at, waiting_at as copy_waiting, call_from as copy_call_from}
use Rattle.copy_rule.proofs.ReadOn.{answered_of}
use Rattle.copy_rule.specs.declared.copy_target.CopyTarget.{CopyTarget}
use Rattle.file_rule.specs.MdsFiles.{Creations, Activity, Idle, Makes, Fences, Settles, Copies, MdsFile}
use Rattle.file_rule.specs.declared.creation.Creation.{Creation}
use Rattle.file_rule.specs.FilePhases.{CallOut, call_out, call_out_of, create_out, create_out_at, creation_waiting, fence_out, settle_out, copy_out}
use Rattle.cluster_laws.specs.Machine.{PacketValue, Call, Machine, numbered_at, with_number, with_packets, puts_out, may_number}
use Rattle.cluster_laws.proofs.Journals.{content_same}
use Rattle.cluster_laws.proofs.CallsOut.{mds_call}
use Rattle.cluster_model.specs.Fences.{is_over, FenceState, waits, fence_call_at, call_from, waiting_at}
use Rattle.cluster_model.specs.DsCalls.{DsCallValue, Create, SetAttr, Write, Commit, Read, DsReplyValue}
use Rattle.copy_rule.specs.Copies.{is_given_up}
use Rattle.cluster_laws.specs.Holders.{the_write, IsBoundCall}
use Rattle.cluster_laws.specs.Periods.{was_granted}
use Rattle.cluster_laws.proofs.Lists.{all_append, all_more, all_at, all_set, all_any}
use Rattle.cluster_laws.proofs.Invariant.{IsTargetOf, IsFile, net_of}
use Rattle.machine_walk.proofs.Stories.{Story, IsMoment}
use Rattle.machine_walk.proofs.MoveCases.{after_call}
use Rattle.machine_walk.proofs.Placed.{files_set, IfCall, its_call}
use Rattle.machine_walk.proofs.Noted.{noter}
use Rattle.machine_walk.proofs.WriterFacts.{IsWriteCall, KnowsWriters}
use Rattle.copied_bytes.proofs.CallsKept.{IsOutSo, out_again, out_call, out_new}
use Rattle.copied_bytes.proofs.Slices.{IsSlice}
use Rattle.copied_bytes.proofs.Parts.{IsPart, IsPut}
use Rattle.copied_bytes.proofs.Sources.{owner_of, CopiesSo, IsBusySo}
use Rattle.copied_bytes.proofs.SourceCarry.{KnowsSources}
use Rattle.copied_bytes.proofs.TargetServes.{IsWriteReply, IsPieceCall}
use Rattle.copied_bytes.proofs.TargetTurns.{IsSiteOf, IsTargetKept, reach, all_over_of}
use Rattle.copied_bytes.proofs.TargetFacts.{IsPieceFor, IsPiecePacket, KeepsTargets, KnowsTargets, targets_on, write_later}

-- each target that stays where it is
pub own_all : (journal behind : List Entry) (c : CopyState) → ((x : CopyTarget) (y : Mirror) → x.made ≡ Some y → owner_of journal y.id ≡ c.copier → owner_of behind y.id ≡ c.copier)
    → AllByRecursion (λ (x : CopyTarget). (y : Mirror) → x.made ≡ Some y → owner_of journal y.id ≡ c.copier → owner_of behind y.id ≡ c.copier) c.targets
own_all journal behind c f = all_any (λ (x : CopyTarget). (y : Mirror) → x.made ≡ Some y → owner_of journal y.id ≡ c.copier → owner_of behind y.id ≡ c.copier) c.targets f

waits_stage : (stage : CallStage) → waits stage ≡ true → (is_over stage ≡ false) × (is_given_up stage ≡ false) × ((at : ℕ) (piece : List ℕ) → reach stage at piece ≡ at)
waits_stage Waits e = (refl, refl, λ at piece. refl)
waits_stage (Out xid timeouts) e = absurd cc
waits_stage (KeptOut xid) e = absurd cc
waits_stage KeptBack e = absurd cc
waits_stage Done e = absurd cc
waits_stage GivenUp e = absurd cc

same_copy : (a b : List ℕ) (o : Option (List ℕ)) → o ≡ Some a → o ≡ Some b → a ≡ b
same_copy a b o e f = same_Some a b (sym e ∙ f)

pub both_wrong : (b : Bool) → b ≡ true → b ≡ false → ⊥
both_wrong true e f = cc
both_wrong false e f = cc

module _ (t : Story) (m : Machine) (journal : List Entry) (at : IsMoment t m journal) (w : KnowsWriters t m journal) (p : KnowsSources t m journal) (q : KnowsTargets t m journal) where
  -- the piece that a copy has in hand is one of its bytes
  pub slice_of : (n : ℕ) (s : LayoutState) (c : CopyState) → IsBusySo t m.next_uid m.packets (m.last_xid Mds) journal n s (Copies c) → (bytes : List ℕ) → t.copied c.copier ≡ Some bytes → IsSlice bytes c.at c.piece
  slice_of n s c h bytes copy = by_ids (ids_of s.live) h
    where
      by_ids : (ids : List MirrorId) → CopiesSo t m.packets (m.last_xid Mds) journal c ids → IsSlice bytes c.at c.piece
      by_ids [] k = absurd k
      by_ids (id ∷ ids) k = subst (λ (b : List ℕ). IsSlice b c.at c.piece) (same_copy k.bytes bytes (t.copied c.copier) k.copy copy) k.slice

  -- a call of a user who was granted a file is of no copy
  pub piece_known : (user : ℕ) (call : DsCallValue) → IsWriteCall t m.next_uid journal user call → IsPieceFor t m.next_uid user call → (bytes : List ℕ) → IsPieceCall t bytes user call
  piece_known user (Create name owner) known piece bytes = tt
  piece_known user (SetAttr fileid owner guard) known piece bytes = tt
  piece_known user (Write fileid pos synced data_) (inl noted) piece bytes = λ copy.
      let granted = noter (λ u. was_granted journal u ≡ true) (the_write pos data_) user journal w.wrote noted in
      absurd (not_granted granted copy)
    where
      not_granted : was_granted journal user ≡ true → t.copied user ≡ Some bytes → ⊥
      not_granted g copy =
          elim (cases_lt user m.next_uid) [
            | inl less ↦ both_wrong (was_granted journal user) g (w.copiers user (record { drawn = less; bytes = bytes; copy = copy }))
            | inr le ↦ both_wrong (was_granted journal user) g (not_drawn m.next_uid user journal at.periods.below le)
          ]
  piece_known user (Write fileid pos synced data_) (inr by) piece bytes = λ copy. piece bytes by.by.drawn copy
  piece_known user (Commit fileid) known piece bytes = tt
  piece_known user (Read fileid pos count) known piece bytes = tt

  -- ---- where nothing is said of mirrors

  module _ (entries : List Entry) (copies : AllByRecursion (λ e. (id : MirrorId) (c : Copy) → copy_after id c e ≡ c) entries) where
    pub content_quiet : (id : MirrorId) → content_of (journal ++ entries) id ≡ content_of journal id
    content_quiet id = content_same id journal entries (all_more (λ e. (i : MirrorId) (c : Copy) → copy_after i c e ≡ c) (λ e. (c : Copy) → copy_after id c e ≡ c) entries (λ e k. k id) copies)

    pub owner_quiet : (id : MirrorId) → owner_of (journal ++ entries) id ≡ owner_of journal id
    owner_quiet id = ap (λ (c : Copy). c.owner) (content_quiet id)

    pub put_quiet : (bytes : List ℕ) (id : MirrorId) (upto : ℕ) → IsPut bytes upto (content_of journal id).content → IsPut bytes upto (content_of (journal ++ entries) id).content
    put_quiet bytes id upto h = subst (λ (c : Copy). IsPut bytes upto c.content) (sym (content_quiet id)) h

    pub parts_quiet : (id : MirrorId) (bytes : List ℕ) → owner_of (journal ++ entries) id < m.next_uid → t.copied (owner_of (journal ++ entries) id) ≡ Some bytes → IsPart bytes (content_of (journal ++ entries) id).content
    parts_quiet id bytes less copy =
        let same = owner_quiet id in
        subst (λ (c : Copy). IsPart bytes c.content) (sym (content_quiet id)) (q.parts id bytes (omega (arith, less, same)) (sym (ap t.copied (owner_quiet id)) ∙ copy))

    module _ (packets : List PacketValue) (last : ℕ) (outs : (xid : ℕ) (server : ℕ) (call : DsCallValue) (R : DsReplyValue → Type 0) → IsOutSo m.packets (m.last_xid Mds) xid server call R → IsOutSo packets last xid server call R) where
      quiet_by : (k : ℕ) (a : Activity) → KeepsTargets t m.next_uid m.next_name m.packets (m.last_xid Mds) journal k a → KeepsTargets t m.next_uid m.next_name packets last (journal ++ entries) k a
      quiet_by k Idle h = tt
      quiet_by k (Makes all) h = tt
      quiet_by k (Fences fence) h = tt
      quiet_by k (Settles stage) h = tt
      quiet_by k (Copies c) h = record {
        bytes = h.bytes;
        copy = h.copy;
        kept = targets_on t m.next_uid m.next_name t m.next_uid m.next_name k m.packets packets (m.last_xid Mds) last journal (journal ++ entries) h.bytes c (λ u mine. mine) (λ name site. site) (λ id upto owner k. put_quiet h.bytes id upto k)
            (λ xid server call o. outs xid server call (λ r. Unit {0}) o)
            (λ xid id owner put o. outs xid id.server (Write id.fileid c.at true c.piece) (IsWriteReply (journal ++ entries) h.bytes (c.at + length c.piece) id) (write_later m.packets (m.last_xid Mds) xid id.server (Write id.fileid c.at true c.piece) journal (journal ++ entries) h.bytes (c.at + length c.piece) id (put_quiet h.bytes id (c.at + length c.piece)) o))
            (own_all journal (journal ++ entries) c (λ x y made owner. owner_quiet y.id ∙ owner)) h.kept;
      }

  pub packed_by : (packets : List PacketValue) (last : ℕ) → ((xid : ℕ) (server : ℕ) (call : DsCallValue) (R : DsReplyValue → Type 0) → IsOutSo m.packets (m.last_xid Mds) xid server call R → IsOutSo packets last xid server call R)
      → (k : ℕ) (a : Activity) → KeepsTargets t m.next_uid m.next_name m.packets (m.last_xid Mds) journal k a → KeepsTargets t m.next_uid m.next_name packets last journal k a
  packed_by packets last outs k a h = subst (λ (j : List Entry). KeepsTargets t m.next_uid m.next_name packets last j k a) (append-nil journal) (quiet_by [] tt packets last outs k a h)

  pub again_targets : (place : ℕ) (x : PacketValue) → slice_get m.packets place ≡ Some x → KnowsTargets t (with_packets m (m.packets ++ x ∷ [])) journal
  again_targets place x there = record {
    bound = q.bound;
    parts = q.parts;
    pieces = all_append (IsPiecePacket t m.next_uid) m.packets (x ∷ []) q.pieces (all_at (IsPiecePacket t m.next_uid) m.packets place x q.pieces there, tt);
    files = λ k f found. packed_by (m.packets ++ x ∷ []) (m.last_xid Mds) (λ xid server call R o. out_again m.packets (m.last_xid Mds) xid server call R place x there o) k f.activity (q.files k f found);
  }

  number_rises : (node : NodeId) (xid : ℕ) → may_number m node xid ≡ true → (m.last_xid Mds ≤ with_number m.last_xid node xid Mds) × (node ≡ Mds → m.last_xid Mds < xid)
  number_rises Mds xid may = let less = ltb-true (m.last_xid Mds) xid may in (omega (arith, less), λ e. less)
  number_rises (Server k) xid may = (omega arith, λ e. absurd cc)
  number_rises (Client k) xid may = (omega arith, λ e. absurd cc)

  bound_piece : (user : ℕ) (call : DsCallValue) → IsBoundCall journal user call → IsPieceFor t m.next_uid user call
  bound_piece user (Create name owner) bound = λ bytes less. tt
  bound_piece user (SetAttr fileid owner guard) bound = λ bytes less. tt
  bound_piece user (Write fileid pos synced data_) bound = λ bytes less copy. absurd (both_wrong (was_granted journal user) (noter (λ u. was_granted journal u ≡ true) (the_write pos data_) user journal w.wrote bound) (w.copiers user (record { drawn = less; bytes = bytes; copy = copy })))
  bound_piece user (Commit fileid) bound = λ bytes less. tt
  bound_piece user (Read fileid pos count) bound = λ bytes less. tt

  pub used_targets : (node : NodeId) (n xid uid gid : ℕ) (call : DsCallValue) → may_number m node xid ≡ true → IsBoundCall journal uid call → KnowsTargets t (puts_out m node xid (Call node n xid uid gid call)) journal
  used_targets node n xid uid gid call new bound =
      let up = number_rises node xid new in
      record {
        bound = q.bound;
        parts = q.parts;
        pieces = all_append (IsPiecePacket t m.next_uid) m.packets (Call node n xid uid gid call ∷ []) q.pieces (bound_piece uid call bound, tt);
        files = λ k f found. packed_by (m.packets ++ Call node n xid uid gid call ∷ []) (with_number m.last_xid node xid Mds) (λ x server asked R o. out_call m.packets (m.last_xid Mds) (with_number m.last_xid node xid Mds) x server asked R node n xid uid gid call o up.0 up.1) k f.activity (q.files k f found);
      }

  pub noted_targets : (e : Entry) → ((id : MirrorId) (c : Copy) → copy_after id c e ≡ c) → KnowsTargets t m (journal ++ e ∷ [])
  noted_targets e copies = record { bound = λ id. (let same = owner_quiet (e ∷ []) (copies, tt) id in let less = q.bound id in omega (arith, same, less)); parts = parts_quiet (e ∷ []) (copies, tt); pieces = q.pieces; files = λ k f found. quiet_by (e ∷ []) (copies, tt) m.packets (m.last_xid Mds) (λ xid server call R o. o) k f.activity (q.files k f found) }

  -- ---- a call of a file

  module _ (n xid : ℕ) (new : m.last_xid Mds < xid) (s : LayoutState) where
    abbrev PutOut : CallOut → List PacketValue
    PutOut c = m.packets ++ mds_call xid c ∷ []

    abbrev Goes : CallOut → Type 0
    Goes c = IsPieceFor t m.next_uid c.uid c.call × KeepsTargets t m.next_uid m.next_name (PutOut c) xid journal n c.file.activity

    outs_call : (c : CallOut) (x : ℕ) (server : ℕ) (call : DsCallValue) (R : DsReplyValue → Type 0) → IsOutSo m.packets (m.last_xid Mds) x server call R → IsOutSo (PutOut c) xid x server call R
    outs_call c x server call R o = out_call m.packets (m.last_xid Mds) xid x server call R Mds c.server xid c.uid c.uid c.call o (omega (arith, new)) (λ e. new)

    making_call : (all : Creations) (found : Option ℕ) → IfCall Goes (create_out (record { layout = s; activity = Makes all }) all xid found)
    making_call all None = tt
    making_call all (Some place) = at_place (slice_get all.items place)
      where
        at_place : (got : Option Creation) → IfCall Goes (create_out_at (record { layout = s; activity = Makes all }) all xid place got)
        at_place None = tt
        at_place (Some c) = (λ bytes less. tt, tt)

    fencing_call : (fence : FenceState) (found : Option ℕ) → IfCall Goes (fence_out (record { layout = s; activity = Fences fence }) (call_from fence xid found))
    fencing_call fence None = tt
    fencing_call fence (Some place) = at_place (slice_get fence.mirrors place)
      where
        at_place : (got : Option FenceMirror) → IfCall Goes (fence_out (record { layout = s; activity = Fences fence }) (fence_call_at fence xid place got))
        at_place None = tt
        at_place (Some x) = (λ bytes less. tt, tt)

    settling_call : (stage : CallStage) (live : List Mirror) → IfCall Goes (settle_out (record { layout = s; activity = Settles stage }) xid live)
    settling_call stage [] = tt
    settling_call stage (x ∷ live) = (λ bytes less. tt, tt)

    read_then : (put : List PacketValue) (c : CopyState) → waits c.read ≡ true → have_answered c ≡ true → KeepsTargets t m.next_uid m.next_name put xid journal n (Copies c) → KeepsTargets t m.next_uid m.next_name put xid journal n (Copies (with_read c (Out xid 0)))
    read_then put c waiting answered h = record {
      bytes = h.bytes;
      copy = h.copy;
      kept = record { newest = h.kept.newest; all_over = λ x o. answered; empty = λ e. h.kept.empty (waits_stage c.read waiting).0; each = h.kept.each };
    }

    write_then : (put : List PacketValue) (c : CopyState) (place : ℕ) (x : CopyTarget) → slice_get c.targets place ≡ Some x → waits x.stage ≡ true
        → (x.made ≡ None → IsOutSo put xid xid x.server (Create x.name c.copier) (λ r. Unit {0}))
        → ((bytes : List ℕ) (y : Mirror) → x.made ≡ Some y → IsOutSo put xid xid y.id.server (Write y.id.fileid c.at true c.piece) (IsWriteReply journal bytes (c.at + length c.piece) y.id))
        → KeepsTargets t m.next_uid m.next_name put xid journal n (Copies c) → KeepsTargets t m.next_uid m.next_name put xid journal n (Copies (with_target c place (at_stage x (Out xid 0))))
    write_then put c place x there waiting asks outs h =
        let k = all_at (IsTargetKept (IsSiteOf t m.next_name n c.copier) put xid journal c.copier h.bytes c.at c.piece) c.targets place x h.kept.each there in
        let stage = waits_stage x.stage waiting in
        record {
          bytes = h.bytes;
          copy = h.copy;
          kept = record {
            newest = h.kept.newest;
            all_over = λ y o. absurd (over_wrong c.targets place x there stage.0 (h.kept.all_over y o));
            empty = h.kept.empty;
            each = all_set (IsTargetKept (IsSiteOf t m.next_name n c.copier) put xid journal c.copier h.bytes c.at c.piece) c.targets place (at_stage x (Out xid 0)) h.kept.each (record {
              site = k.site;
              asks = λ y o none. subst (λ (z : ℕ). IsOutSo put xid z x.server (Create x.name c.copier) (λ r. Unit {0})) (eqb-true xid y o) (asks none);
              unmade = λ none up. k.unmade none stage.1;
              done = λ e. absurd cc;
              lost = λ e. absurd cc;
              holds = λ y made. subst (λ (u : ℕ). IsPut h.bytes u (content_of journal y.id).content) (stage.2 c.at c.piece) (k.holds y made);
              owner = k.owner;
              outs = λ z y o made. subst (λ (u : ℕ). IsOutSo put xid u y.id.server (Write y.id.fileid c.at true c.piece) (IsWriteReply journal h.bytes (c.at + length c.piece) y.id)) (eqb-true xid z o) (outs h.bytes y made);
            });
          };
        }
      where
        over_wrong : (targets : List CopyTarget) (i : ℕ) (y : CopyTarget) → slice_get targets i ≡ Some y → is_over y.stage ≡ false → list_all (λ (z : CopyTarget). is_over z.stage) targets ≡ true → ⊥
        over_wrong targets i y is off all = both_wrong (is_over y.stage) (all_at (λ (z : CopyTarget). is_over z.stage ≡ true) targets i y (all_over_of targets all) is) off

    copying_call : (c : CopyState) → IsFile (net_of m t.drawn) journal n (record { layout = s; activity = Copies c }) → IsBusySo t m.next_uid m.packets (m.last_xid Mds) journal n s (Copies c) → KeepsTargets t m.next_uid m.next_name m.packets (m.last_xid Mds) journal n (Copies c)
        → (found : Option ℕ) → copy_waiting c ≡ found → IfCall Goes (copy_out (record { layout = s; activity = Copies c }) (copy_call_from c xid found))
    copying_call c file busy h None is =
        let call : DsCallValue = Read c.source.fileid c.at PIECE_SIZE in
        let put : List PacketValue = m.packets ++ Call Mds c.source.server xid 0 0 call ∷ [] in
        cond_both (waits c.read && may_read_on c) (Some (record { copy = with_read c (Out xid 0); server = c.source.server; uid = 0; call = call })) None (λ (o : Option CopyCall). IfCall Goes (copy_out (record { layout = s; activity = Copies c }) o))
        (λ e.
        let parts = and_parts (waits c.read) (may_read_on c) e in
        (λ bytes less. tt, read_then put c parts.0 (answered_of c parts.1) (packed_by put xid (outs_call (record { file = record { layout = s; activity = Copies c }; server = c.source.server; uid = 0; call = call })) n (Copies c) h))) (λ e. tt)
    copying_call c file busy h (Some place) is =
        let found = found_at (λ (y : CopyTarget). waits y.stage) c.targets place is in
        let x = found.0 in
        subst (λ (got : Option CopyTarget). IfCall Goes (copy_out (record { layout = s; activity = Copies c }) (target_call_at c xid place got))) (sym found.1) (at_target x found.1 found.2)
      where
        piece_by : (name : ℕ) (made : Option Mirror) → IsPieceFor t m.next_uid (target_caller c.copier made) (target_call c.copier c.at c.piece name made)
        piece_by name None = λ bytes less. tt
        piece_by name (Some y) = λ bytes less copy. (refl, slice_of n s c busy bytes copy)

        at_target : (x : CopyTarget) → slice_get c.targets place ≡ Some x → waits x.stage ≡ true → IfCall Goes (copy_out (record { layout = s; activity = Copies c }) (target_call_at c xid place (Some x)))
        at_target x there waiting =
            let user : ℕ = target_caller c.copier x.made in
            let call : DsCallValue = target_call c.copier c.at c.piece x.name x.made in
            let put : List PacketValue = m.packets ++ Call Mds x.server xid user user call ∷ [] in
            let k = all_at (IsTargetOf (net_of m t.drawn) n c.copier c.at c.piece) c.targets place x file.busy.targets there in (
              piece_by x.name x.made,
              write_then put c place x there waiting
                  (λ none. subst (λ (made : Option Mirror). IsOutSo put xid xid x.server (target_call c.copier c.at c.piece x.name made) (λ r. Unit {0})) none (out_new (net_of m t.drawn) at.holds.packets xid new x.server user call (λ r. Unit {0})))
                  (λ bytes y made. subst (λ (i : ℕ). IsOutSo put xid xid i (Write y.id.fileid c.at true c.piece) (IsWriteReply journal bytes (c.at + length c.piece) y.id)) (sym (k.made y made).0)
                  (subst (λ (o : Option Mirror). IsOutSo put xid xid x.server (target_call c.copier c.at c.piece x.name o) (IsWriteReply journal bytes (c.at + length c.piece) y.id)) made (out_new (net_of m t.drawn) at.holds.packets xid new x.server user call (IsWriteReply journal bytes (c.at + length c.piece) y.id))))
                  (packed_by put xid (outs_call (record { file = record { layout = s; activity = Copies c }; server = x.server; uid = user; call = call })) n (Copies c) h),
            )

    out_target : (a : Activity) → IsFile (net_of m t.drawn) journal n (record { layout = s; activity = a }) → IsBusySo t m.next_uid m.packets (m.last_xid Mds) journal n s a → KeepsTargets t m.next_uid m.next_name m.packets (m.last_xid Mds) journal n a → IfCall Goes (call_out_of (record { layout = s; activity = a }) xid a)
    out_target Idle file busy h = tt
    out_target (Makes all) file busy h = making_call all (creation_waiting all)
    out_target (Fences fence) file busy h = fencing_call fence (waiting_at fence)
    out_target (Settles stage) file busy h = cond_both (waits stage) (settle_out (record { layout = s; activity = Settles stage }) xid s.live) None (IfCall Goes) (λ e. settling_call stage s.live) (λ e. tt)
    out_target (Copies c) file busy h = copying_call c file busy h (copy_waiting c) refl

  pub called_targets : (n xid : ℕ) (f : MdsFile) (c : CallOut) → numbered_at m.files n ≡ Some f → call_out f xid ≡ Some c → m.last_xid Mds < xid → KnowsTargets t (after_call m n xid c) journal
  called_targets n xid f c there is new =
      let k = its_call (Goes n xid new f.layout) (call_out f xid) c (out_target n xid new f.layout f.activity (at.holds.files n f there) (p.files n f there).busy (q.files n f there)) is in
      record {
        bound = q.bound;
        parts = q.parts;
        pieces = all_append (IsPiecePacket t m.next_uid) m.packets (mds_call xid c ∷ []) q.pieces (k.0, tt);
        files = files_set (λ j g. KeepsTargets t m.next_uid m.next_name (m.packets ++ mds_call xid c ∷ []) xid journal j g.activity) m.files n f c.file there k.1 (λ j g other found. packed_by (m.packets ++ mds_call xid c ∷ []) xid (outs_call n xid new f.layout c) j g.activity (q.files j g found));
      }
