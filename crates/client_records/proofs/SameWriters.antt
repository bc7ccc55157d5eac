-- What a writer keeps in each call: the uid, the writes that were taken, and which mirrors it has.
use Rattle.std.proofs.Common.{◌≡◌, ℕ, List, [], ◌∷◌, Some, Option, refl, sym, ap, subst, ◌∙◌}
use Rattle.std.specs.Prelude.{map}
use Rattle.cluster_model.specs.declared.ids.MirrorId.{MirrorId}
use Rattle.mirror_writer.specs.declared.call.NextCall.{NextCall}
use Rattle.mirror_writer.specs.declared.call.NextCall.TheVariants.{SendsWrite, SendsCommit}
use Rattle.mirror_writer.specs.Writers.{WriterMirror, WriterValue, WriterAfter, WriterSends, with_out, queued, next_sent}
use Rattle.client_file_calls.specs.declared.open.OpenFile.{OpenFile}
use Rattle.client_state.specs.declared.layout.Layout.{Layout}
use Rattle.client_state.specs.ClientStates.{ClientValue}
use Rattle.client_mds_calls.specs.FittingCalls.{reports_server}
use Rattle.client_laws.specs.ClientHistory.{ClientInput, HistoryItem}
use Rattle.client_laws.proofs.NextSent.{Sending, sending}
use Rattle.client_laws.proofs.Places.{map_set}
use Rattle.client_laws.proofs.Stands.{Stands, LayoutStands, IfThere, reported_of, writer_ids}
use Rattle.client_laws.proofs.WriterMoves.{reply_moves, timeout_moves}
use Rattle.client_records.proofs.Cases.{ComesTo, ByReply, ByTimeout}
use Rattle.client_records.proofs.EachRun.{Base}

pub record SameWriter (old new : WriterValue) : Type 0 where
  pub cred : new.cred ≡ old.cred
  pub taken : new.taken ≡ old.taken
  pub ids : writer_ids new ≡ writer_ids old

-- how its layout stands
pub layout_of : (h : List HistoryItem) (c : ClientValue) (l : Layout) → Stands h c → c.layout ≡ Some l → LayoutStands h c.name (reports_server (reported_of l)) l
layout_of h c l s at = subst (λ (o : Option Layout). IfThere o (λ l. LayoutStands h c.name (reports_server (reported_of l)) l)) at s.layout_stands

-- by an answer, and by a timeout
pub after_same : (Q : ClientInput → Type 0) (I : List HistoryItem → ClientValue → Type 0) (past : List HistoryItem) (c : ClientValue) (file : OpenFile) (l : Layout) (after : WriterAfter) → ComesTo Base Q I past c file l after → SameWriter l.writer after.writer
after_same Q I past c file l after (ByReply h server bytes now reply out s past_is is) =
    let old : LayoutStands h c.name (reports_server (reported_of l)) l = layout_of h c l s.base.0 s.layout in
    let moves = (reply_moves h c.name (reports_server (reported_of l)) l.writer old.writer c.next_xid s.base.0.numbers server bytes now reply s.reply_is out s.out_is s.number).moves in
    subst (λ (x : WriterAfter). SameWriter l.writer x.writer) (sym is) (record { cred = moves.cred; taken = moves.taken; ids = moves.ids })
after_same Q I past c file l after (ByTimeout h server out s past_is is) =
    let old : LayoutStands h c.name (reports_server (reported_of l)) l = layout_of h c l s.base.0 s.layout in
    let moves = (timeout_moves h c.name (reports_server (reported_of l)) l.writer old.writer [] out.xid).moves in
    subst (λ (x : WriterAfter). SameWriter l.writer x.writer) (sym is) (record { cred = moves.cred; taken = moves.taken; ids = moves.ids })

-- a call goes out
pub sends_same : (w : WriterValue) (xid : ℕ) (s : WriterSends) → next_sent w xid ≡ Some s → SameWriter w s.writer
sends_same w xid s is =
    let how : Sending w xid s = sending w xid s is in
    record {
      cred = ap (λ (x : WriterValue). x.cred) how.writer_is;
      taken = ap (λ (x : WriterValue). x.taken) how.writer_is;
      ids = ap writer_ids how.writer_is ∙ map_set (λ (m : WriterMirror). m.id) w.mirrors how.place how.mirror (with_out xid how.next how.mirror) how.found (same_id how.next how.mirror);
    }
  where
    same_id : (next : NextCall) (m : WriterMirror) → (with_out xid next m).id ≡ m.id
    same_id (SendsWrite n) m = refl
    same_id SendsCommit m = refl

-- a write is taken
pub queued_ids : (n : ℕ) (mirrors : List WriterMirror) → map (λ (m : WriterMirror). m.id) (map (queued n) mirrors) ≡ map (λ (m : WriterMirror). m.id) mirrors
queued_ids n [] = refl
queued_ids n (m ∷ mirrors) = ap (λ (ids : List MirrorId). m.id ∷ ids) (queued_ids n mirrors)
