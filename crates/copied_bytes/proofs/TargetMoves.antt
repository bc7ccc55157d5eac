-- Targets behind calls and restarts of data servers, and behind new files.
use Rattle.std.proofs.Common.{◌≡◌, ℕ, ◌+◌, ◌<◌, Bool, true, false, eqb, cond, List, [], ◌∷◌, ◌++◌, length, Some, None, refl, sym, ap, subst, ◌∙◌, arith}
use Rattle.std.specs.Prelude.{slice_get}
use Rattle.cluster_model.specs.declared.piece.Piece.{Piece}
use Rattle.cluster_model.specs.declared.ids.NodeId.{NodeId}
use Rattle.cluster_model.specs.declared.ids.NodeId.TheVariants.{Mds}
use Rattle.cluster_model.specs.declared.ids.MirrorId.{MirrorId}
use Rattle.cluster_model.specs.declared.ids.Mirror.{Mirror}
use Rattle.cluster_model.specs.declared.entry.Entry.{Entry}
use Rattle.cluster_model.specs.declared.entry.Entry.TheVariants as entry
use Rattle.cluster_model.specs.declared.layout_state.LayoutState.{LayoutState}
use Rattle.cluster_model.specs.Journal.{Copy, no_copy, copy_after, content_of}
use Rattle.copy_rule.specs.declared.copy_target.CopyTarget.{CopyTarget}
use Rattle.file_rule.specs.MdsFiles.{Activity, Idle, Makes, Fences, Settles, Copies}
use Rattle.cluster_laws.specs.Machine.{Call, Reply, Machine, numbered_at, with_server, served, caller_by}
use Rattle.cluster_model.specs.Server.{ServerState, Caller}
use Rattle.cluster_model.specs.DsCalls.{DsCallValue, Create, SetAttr, Write, ds_plan, ds_step}
use Rattle.cluster_model.specs.GuardLaws.{IsInOrder, CallLaws}
use Rattle.cluster_model.specs.declared.tick.Tick.{Tick}
use Rattle.cluster_model.specs.Journal.{copy_by}
use Rattle.cluster_laws.proofs.Facts.{OwnedFrom, owned_on}
use Rattle.cluster_laws.proofs.Lists.{all_append, all_at}
use Rattle.cluster_laws.proofs.Invariant.{IsPacket, IsFile, net_of, Holds}
use Rattle.cluster_laws.proofs.RunFacts.{owner_told}
use Rattle.cluster_laws.proofs.Served.{later as served_later}
use Rattle.machine_walk.proofs.Stories.{Story, AreEach, IsMoment}
use Rattle.machine_walk.proofs.WriterFacts.{IsKnownPacket, KnowsWriters, IsWrittenSo}
use Rattle.copied_bytes.proofs.ServerPlans.{PlanKind, plan_kind}
use Rattle.copied_bytes.proofs.CallsKept.{out_answered}
use Rattle.copied_bytes.proofs.Parts.{IsPart, IsPut, put_became}
use Rattle.copied_bytes.proofs.Sources.{owner_of, IsBusySo}
use Rattle.copied_bytes.proofs.SourceCarry.{IsSetCall, IsSetPacket, KnowsSources, IsOwnedAt}
use Rattle.copied_bytes.proofs.TargetServes.{IsWriteReply, IsPieceCall, same_bytes, comes, write_reply, part_then}
use Rattle.copied_bytes.proofs.TargetFacts.{IsPiecePacket, KeepsTargets, KnowsTargets, targets_owned, written_more, targets_on, write_later}
use Rattle.cluster_model.specs.Content.{survived, pieces_of}
use Rattle.cluster_laws.proofs.Journals.{copy_append}
use Rattle.cluster_laws.proofs.Invariant.{IsCallOf}
use Rattle.copied_bytes.proofs.TargetTurns.{all_both}
use Rattle.copied_bytes.proofs.TargetCases.{piece_known, own_all, slice_of}
use Rattle.copied_bytes.proofs.TargetServes.{owner_so}

module _ (t : Story) (m : Machine) (journal : List Entry) (at : IsMoment t m journal) (w : KnowsWriters t m journal) (p : KnowsSources t m journal) (q : KnowsTargets t m journal) where
  module _ (calls : (s : ServerState) (caller : Caller) (call : DsCallValue) → IsInOrder s → CallLaws s caller call (ds_step s caller call).server (ds_step s caller call).reply (ds_step s caller call).entries)
      (place : ℕ) (from : NodeId) (n xid uid gid : ℕ) (call : DsCallValue) (s : ServerState) (sent : slice_get m.packets place ≡ Some (Call from n xid uid gid call)) (there : numbered_at m.servers n ≡ Some s)
      (each : AreEach (IsWrittenSo t m.next_uid) journal (ds_step s (caller_by uid gid) call).entries) where
    abbrev caller : Caller
    caller = caller_by uid gid

    abbrev entries : List Entry
    entries = (ds_step s caller call).entries

    abbrev after : Machine
    after = (served m place from n xid (ds_step s caller call)).machine

    module _ (h : Holds after (journal ++ entries) t.drawn) (k : KnowsSources t after (journal ++ entries)) where
      number : s.number ≡ n
      number = (at.holds.servers n s there).number

      kind : PlanKind s caller call (ds_plan s caller call)
      kind = plan_kind s caller call

      joined : (id : MirrorId) → content_of (journal ++ entries) id ≡ copy_by id (content_of journal id) entries
      joined id = copy_append id no_copy journal entries

      set_call : IsSetCall t m.next_uid m.next_name m.servers n call
      set_call = all_at (IsSetPacket t m.next_uid m.next_name m.servers) m.packets place (Call from n xid uid gid call) p.packets sent

      plain_set : (fileid owner : ℕ) (guard : Tick) → call ≡ SetAttr fileid owner guard → t.copied owner ≡ None
      plain_set fileid owner guard is = (subst (IsSetCall t m.next_uid m.next_name m.servers n) is set_call).plain.no_copy

      set_bound : (fileid owner : ℕ) (guard : Tick) → call ≡ SetAttr fileid owner guard → owner < m.next_uid
      set_bound fileid owner guard is = (subst (IsSetCall t m.next_uid m.next_name m.servers n) is set_call).plain.mine.drawn

      made_bound : (name owner : ℕ) → call ≡ Create name owner → owner < m.next_uid
      made_bound name owner is =
          let low = subst (IsCallOf t.drawn m.servers m.next_name n) is (all_at (IsPacket (net_of m t.drawn)) m.packets place (Call from n xid uid gid call) at.holds.packets sent).1 in
          let less = (p.lows name low.0).drawn in
          let same = low.1 in
          omega (arith, less, same)

      piece : (bytes : List ℕ) → IsPieceCall t bytes uid call
      piece bytes = piece_known t m journal at w p q uid call (all_at (IsKnownPacket t m.next_uid journal) m.packets place (Call from n xid uid gid call) w.packets sent) (all_at (IsPiecePacket t m.next_uid) m.packets place (Call from n xid uid gid call) q.pieces sent) bytes

      parts_then : (id : MirrorId) (bytes : List ℕ) → t.copied (owner_of (journal ++ entries) id) ≡ Some bytes → IsPart bytes (content_of (journal ++ entries) id).content
      parts_then id bytes copy =
          subst (λ (c : Copy). IsPart bytes c.content) (sym (joined id))
          (part_then t m.next_uid journal s caller id bytes kind (piece bytes) plain_set ((at.holds.servers n s there).told.none (length s.files) (omega arith)) each (λ was. q.parts id bytes (q.bound id) was) (sym (ap (λ (c : Copy). t.copied c.owner) (joined id)) ∙ copy))

      bound_then : (id : MirrorId) → owner_of (journal ++ entries) id < m.next_uid
      bound_then id = subst (λ (c : Copy). c.owner < m.next_uid) (sym (joined id)) (owner_so t m.next_uid journal s caller id [] (λ o. o < m.next_uid) kind set_bound made_bound (q.bound id))

      put_then : (bytes : List ℕ) (by : ℕ) → t.copied by ≡ Some bytes → (id : MirrorId) (upto : ℕ) → owner_of journal id ≡ by → IsPut bytes upto (content_of journal id).content → IsPut bytes upto (content_of (journal ++ entries) id).content
      put_then bytes by copy id upto owner put =
          subst (λ (c : Copy). IsPut bytes upto c.content) (sym (joined id)) (put_became bytes upto (content_of journal id).content _ (comes t m.next_uid journal s caller id bytes kind (piece bytes) (ap t.copied owner ∙ copy) each put.part) put)

      follow : (id : MirrorId) (owner : ℕ) → OwnedFrom m.servers id owner → OwnedFrom after.servers id owner
      follow id owner o = owned_on m.servers after.servers (served_later calls m journal t.drawn at.holds n s there from xid uid gid call (record { place = place; uid = uid; gid = gid; there = sent })).servers id owner o

      file_then : (j : ℕ) (l : LayoutState) (a : Activity) → IsFile (net_of m t.drawn) journal j (record { layout = l; activity = a }) → IsFile (net_of after t.drawn) (journal ++ entries) j (record { layout = l; activity = a })
          → IsBusySo t m.next_uid m.packets (m.last_xid Mds) journal j l a → KeepsTargets t m.next_uid m.next_name m.packets (m.last_xid Mds) journal j a → KeepsTargets t m.next_uid m.next_name after.packets (m.last_xid Mds) (journal ++ entries) j a
      file_then j l Idle f g busy x = tt
      file_then j l (Makes all) f g busy x = tt
      file_then j l (Fences fence) f g busy x = tt
      file_then j l (Settles stage) f g busy x = tt
      file_then j l (Copies c) f g busy x =
          let old = targets_owned t m journal at.holds p.owners j l c f in
          let new = targets_owned t after (journal ++ entries) h k.owners j l c g in
          let slice = slice_of t m journal at w p q j l c busy x.bytes x.copy in
          record {
            bytes = x.bytes;
            copy = x.copy;
            kept = targets_on t m.next_uid m.next_name t m.next_uid m.next_name j m.packets after.packets (m.last_xid Mds) (m.last_xid Mds) journal (journal ++ entries) x.bytes c (λ u mine. mine) (λ name site. site) (put_then x.bytes c.copier x.copy)
                (λ y server asked o. out_answered m.packets (m.last_xid Mds) y server asked (λ r. Unit {0}) (λ r. Unit {0}) place n from xid uid gid call (ds_step s caller call).reply sent o (λ r z. z) (λ mds same is. tt))
                (λ y id owner put o. out_answered m.packets (m.last_xid Mds) y id.server (Write id.fileid c.at true c.piece) (IsWriteReply journal x.bytes (c.at + length c.piece) id) (IsWriteReply (journal ++ entries) x.bytes (c.at + length c.piece) id) place n from xid uid gid call (ds_step s caller call).reply sent o
                (written_more journal (journal ++ entries) x.bytes (c.at + length c.piece) id (put_then x.bytes c.copier x.copy id (c.at + length c.piece) owner))
                (λ mds same is. write_reply t m.next_uid journal s caller id x.bytes kind (sym same ∙ sym number) c.at c.piece is slice put (journal ++ entries) (joined id)))
                (all_both (λ (z : CopyTarget). (y : Mirror) → z.made ≡ Some y → IsOwnedAt t m journal j y.id) (λ (z : CopyTarget). (y : Mirror) → z.made ≡ Some y → IsOwnedAt t after (journal ++ entries) j y.id)
                (λ (z : CopyTarget). (y : Mirror) → z.made ≡ Some y → owner_of journal y.id ≡ c.copier → owner_of (journal ++ entries) y.id ≡ c.copier) c.targets
                (λ z a b y made owner.
                let rises = owner_told after (journal ++ entries) t.drawn h y.id (owner_of journal y.id) (follow y.id (owner_of journal y.id) (a y made).owned) in
                let most = x.kept.newest (owner_of (journal ++ entries) y.id) (b y made).mine in
                omega (arith, rises, most, owner)) old new)
                x.kept;
          }

      pub served_targets : KnowsTargets t after (journal ++ entries)
      served_targets = record {
        bound = bound_then;
        parts = λ id bytes less copy. parts_then id bytes copy;
        pieces = all_append (IsPiecePacket t m.next_uid) m.packets (Reply place n from xid (ds_step s caller call).reply ∷ []) q.pieces (tt, tt);
        files = λ j f found. file_then j f.layout f.activity (at.holds.files j f found) (h.files j f found) (p.files j f found).busy (q.files j f found);
      }

  -- ---- a restart

  module _ (n : ℕ) (pieces : List Piece) where
    abbrev e : Entry
    e = entry.Restarted n pieces

    after_it : (id : MirrorId) → content_of (journal ++ e ∷ []) id ≡ copy_after id (content_of journal id) e
    after_it id = copy_append id no_copy journal (e ∷ [])

    pub owner_same : (id : MirrorId) → owner_of (journal ++ e ∷ []) id ≡ owner_of journal id
    owner_same id = ap (λ (c : Copy). c.owner) (after_it id) ∙ by_test (eqb n id.server)
      where
        by_test : (b : Bool) → (cond b (record { content = survived (content_of journal id).content (pieces_of id.fileid pieces); owner = owner_of journal id }) (content_of journal id)).owner ≡ owner_of journal id
        by_test true = refl
        by_test false = refl

    content_kept : (id : MirrorId) → (content_of journal id).content.pending ≡ [] → (content_of (journal ++ e ∷ []) id).content ≡ (content_of journal id).content
    content_kept id none = ap (λ (c : Copy). c.content) (after_it id) ∙ same_bytes id (e ∷ []) (content_of journal id) (refl, tt) none

    put_kept : (bytes : List ℕ) (id : MirrorId) (upto : ℕ) → IsPut bytes upto (content_of journal id).content → IsPut bytes upto (content_of (journal ++ e ∷ []) id).content
    put_kept bytes id upto put = subst (IsPut bytes upto) (sym (content_kept id put.part.none)) put

    kept_by : (k : ℕ) (a : Activity) → KeepsTargets t m.next_uid m.next_name m.packets (m.last_xid Mds) journal k a → KeepsTargets t m.next_uid m.next_name m.packets (m.last_xid Mds) (journal ++ e ∷ []) k a
    kept_by k Idle h = tt
    kept_by k (Makes all) h = tt
    kept_by k (Fences fence) h = tt
    kept_by k (Settles stage) h = tt
    kept_by k (Copies c) h = record {
      bytes = h.bytes;
      copy = h.copy;
      kept = targets_on t m.next_uid m.next_name t m.next_uid m.next_name k m.packets m.packets (m.last_xid Mds) (m.last_xid Mds) journal (journal ++ e ∷ []) h.bytes c (λ u mine. mine) (λ name site. site) (λ id upto owner put. put_kept h.bytes id upto put) (λ xid server call o. o)
          (λ xid id owner put o. write_later m.packets (m.last_xid Mds) xid id.server (Write id.fileid c.at true c.piece) journal (journal ++ e ∷ []) h.bytes (c.at + length c.piece) id (put_kept h.bytes id (c.at + length c.piece)) o)
          (own_all journal (journal ++ e ∷ []) c (λ x y made owner. owner_same y.id ∙ owner)) h.kept;
    }

    pub restarted_targets : (next : ServerState) → KnowsTargets t (with_server m n next m.packets) (journal ++ e ∷ [])
    restarted_targets next = record {
      bound = λ id. (let same = owner_same id in let less = q.bound id in omega (arith, same, less));
      parts = λ id bytes less copy.
          let part = q.parts id bytes (q.bound id) (sym (ap t.copied (owner_same id)) ∙ copy) in
          subst (IsPart bytes) (sym (content_kept id part.none)) part;
      pieces = q.pieces;
      files = λ k f found. kept_by k f.activity (q.files k f found);
    }
