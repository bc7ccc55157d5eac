-- Answers of data servers, and timeouts of the calls to them.
use Rattle.std.proofs.lemmas.Option.{none-some}
use Rattle.client_state.specs.ClientSends.{CallsMds}
use Rattle.client_state.specs.declared.asked.Asked.{Asked}
use Rattle.client_mds_calls.specs.declared.ask.MdsAsk.TheVariants as ask
use Rattle.std.proofs.Common.{◌≡◌, ℕ, Bool, true, false, List, [], ◌∷◌, ◌++◌, Option, Some, None, refl, sym, subst, ◌∙◌}
use Rattle.std.specs.Prelude.{Ok, ◌==◌, ◌||◌, if◌then◌else◌}
use Rattle.rpc_record.specs.Replies.{RpcReply, reply_at}
use Rattle.ds_calls.specs.GivenReplies.{reply_of_call}
use Rattle.cluster_model.specs.declared.ids.MirrorId.{MirrorId}
use Rattle.cluster_model.specs.declared.ids.NodeId.TheVariants.{Server}
use Rattle.cluster_model.specs.declared.answer.FailCause.{FailCause}
use Rattle.cluster_model.specs.declared.answer.UserAnswer.TheVariants as answer
use Rattle.cluster_model.specs.declared.answer.FailCause.TheVariants as failing
use Rattle.cluster_model.specs.declared.entry.Entry.TheVariants.{Answer}
use Rattle.cluster_model.specs.declared.phase.LeftCause.{LeftCause}
use Rattle.mirror_writer.specs.declared.step.WriterStep.{WriterStep}
use Rattle.mirror_writer.specs.declared.step.WriterStep.TheVariants as step
use Rattle.mirror_writer.specs.Writers.{WriterAfter, after_reply}
use Rattle.mirror_writer.specs.Outstanding.{OutCall, out_at, has_no_mirror}
use Rattle.client_file_calls.specs.declared.open.OpenFile.{OpenFile}
use Rattle.client_state.specs.declared.layout.Layout.{Layout}
use Rattle.client_state.specs.ClientStates.{ClientValue, unmoved}
use Rattle.client_state.specs.ClientQueue.{with_layout, with_writer, ending, fails_layout, revoked_layout, lost_mirrors, without_commit}
use Rattle.client_answers.specs.ClientMirrors.{is_commit, with_failed, mirror_failed, after_step, has_writer, answered_out, ds_answered_by, ds_answered, tells_covered}
use Rattle.client_mds_calls.specs.FittingCalls.{reports_server}
use Rattle.client_laws.specs.ClientHistory.{HistoryItem, Hears, Recorded, Enters, Sends}
use Rattle.client_laws.proofs.Later.{stands_later, lost_later}
use Rattle.client_laws.proofs.Places.{same_number}
use Rattle.client_laws.proofs.WriterMoves.{AfterMoves, FailedThere, also, reply_moves}
use Rattle.client_laws.proofs.LayoutMoves.{layout_after, layout_wider, has_id, failed_stands, untold_stands}
use Rattle.client_laws.proofs.Goes.{RunGoes, run_unmoved, SameReturn, KeepsReturn, KeepsLayout, with_layout_stands}
use Rattle.client_laws.proofs.QueueGoes.{answer_goes, ending_keeps, ended_stands}
use Rattle.client_laws.proofs.Tells.{tells_covered_go}
use Rattle.client_laws.proofs.Stands.{Stands, LayoutStands, IfThere, reported_of, IdleAnswer, AskOut, AskFits, GetsLayout}

pub or_false : (b : Bool) → (b || false) ≡ true → b ≡ true
or_false true is = refl
or_false false is = absurd cc

-- the layout is lost
pub fails_goes : (past : List HistoryItem) (cause : FailCause) (c : ClientValue) → Stands past c → IdleAnswer (answer.Failed cause) → RunGoes past (fails_layout cause c)
fails_goes past cause c s idle = answer_goes past (answer.Failed cause) (record c { queue = without_commit c.queue }) s idle

-- no LAYOUTGET is out
abbrev pub IsNotGetting : Option Asked → Type 0
IsNotGetting asked = IfThere asked (λ a. a.ask ≡ ask.LayoutGet → ⊥)

pub revoked_goes : (past : List HistoryItem) (c : ClientValue) → Stands past c → IsNotGetting c.asked → RunGoes past (revoked_layout c)
revoked_goes past c s others = record {
  entries = ((tt, tt, tt, tt, tt, tt), tt);
  stands = lost_later past (Enters (Answer c.number (answer.Failed failing.Revoked)) ∷ []) c.name c.next_xid c.asked c.again others (tt, tt) (tt, tt) (with_layout_stands past c None s tt tt);
}

-- where there is a layout
not_getting : (h : List HistoryItem) (name : List ℕ) (l : Layout) (asked : Option Asked) → IfThere asked (AskOut h name (Some l)) → IsNotGetting asked
not_getting h name l None out = tt
not_getting h name l (Some a) out = λ gets. none-some l (sym (fits gets))
  where
    fits : a.ask ≡ ask.LayoutGet → Some l ≡ None
    fits gets = no_layout (subst (AskFits h (Sends (CallsMds a.xid name out.call)) (Some l) out.call) gets out.fits)
      where
        no_layout : GetsLayout h (Sends (CallsMds a.xid name out.call)) (Some l) out.call → Some l ≡ None
        no_layout g = g.no_layout

module _ (past : List HistoryItem) (c : ClientValue) (l : Layout) (at : c.layout ≡ Some l) (s : Stands past c) (after : WriterAfter) (a : AfterMoves past c.name (reports_server (reported_of l)) l.writer after) where
  old : LayoutStands past c.name (reports_server (reported_of l)) l
  old = subst (λ (o : Option Layout). IfThere o (λ l. LayoutStands past c.name (reports_server (reported_of l)) l)) at s.layout_stands

  mid : LayoutStands past c.name (also (reports_server (reported_of l)) after.step) (with_writer l after.writer)
  mid = layout_after past past c.name (reports_server (reported_of l)) (also (reports_server (reported_of l)) after.step) l after.writer old a.moves

  keeps_writer : (new : Layout) → KeepsReturn (with_writer l after.writer) new → KeepsLayout c.layout (Some new)
  keeps_writer new keeps =
      subst (λ (o : Option Layout). KeepsLayout o (Some new)) (sym at)
      (λ stage. (let k : SameReturn (with_writer l after.writer) new = keeps stage in record { stateid = k.stateid; mirrors = k.mirrors; cred = k.cred ∙ a.moves.cred; taken = k.taken ∙ a.moves.taken; stage = k.stage }))

  -- no mirror failed
  pub none_failed : (came : WriterStep) → after.step ≡ came → ((server : ℕ) → also (reports_server (reported_of l)) came server ≡ true → reports_server (reported_of l) server ≡ true) → Stands past (has_writer c l after)
  none_failed came is narrow =
      with_layout_stands past c (Some (with_writer l after.writer)) s (keeps_writer (with_writer l after.writer) (λ stage. record { stateid = refl; mirrors = refl; cred = refl; taken = refl; stage = stage }))
      (layout_wider past c.name (also (reports_server (reported_of l)) after.step) (reports_server (reported_of l)) (with_writer l after.writer) (λ server so. narrow server (subst (λ (k : WriterStep). also (reports_server (reported_of l)) k server ≡ true) is so)) mid)

  told_then : (commit : Bool) (file : OpenFile) → Stands past (has_writer c l after) → RunGoes past (if commit then tells_covered file (has_writer c l after).layout (has_writer c l after) else unmoved (has_writer c l after))
  told_then true file stands = tells_covered_go past file (has_writer c l after) (has_writer c l after).layout refl stands
  told_then false file stands = run_unmoved past (has_writer c l after) stands

  failed_layout : (id : MirrorId) (cause : LeftCause) → after.step ≡ step.Failed id cause → LayoutStands past c.name (reports_server (reported_of (with_failed (with_writer l after.writer) id cause))) (with_failed (with_writer l after.writer) id cause)
  failed_layout id cause is =
      failed_stands past c.name (with_writer l after.writer) id cause (has_id l.writer l.mirrors id old.ids (subst (FailedThere l.writer) is a.failed))
      (subst (λ (k : WriterStep). LayoutStands past c.name (also (reports_server (reported_of l)) k) (with_writer l after.writer)) is mid)

  failed_goes : (id : MirrorId) (cause : LeftCause) → after.step ≡ step.Failed id cause → RunGoes past (mirror_failed id cause (Some (with_writer l after.writer)) (has_writer c l after))
  failed_goes id cause is = by_test (has_no_mirror after.writer)
    where
      new : Layout
      new = with_failed (with_writer l after.writer) id cause

      ended : LayoutStands past c.name (reports_server (reported_of (ending new))) (ending new)
      ended = ended_stands past c.name new (failed_layout id cause is)

      keeps : KeepsReturn (with_writer l after.writer) (ending new)
      keeps stage = (let k : SameReturn new (ending new) = ending_keeps new stage in record { stateid = k.stateid; mirrors = k.mirrors; cred = k.cred; taken = k.taken; stage = k.stage })

      by_test : (b : Bool) → RunGoes past (if b then lost_mirrors new (has_writer c l after) else unmoved (with_layout (has_writer c l after) (ending new)))
      by_test true =
          fails_goes past _ (with_layout (has_writer c l after) (record (ending new) { untold = [] }))
          (with_layout_stands past c (Some (record (ending new) { untold = [] })) s (keeps_writer (record (ending new) { untold = [] }) (λ stage. (let k : SameReturn (with_writer l after.writer) (ending new) = keeps stage in record { stateid = k.stateid; mirrors = k.mirrors; cred = k.cred; taken = k.taken; stage = k.stage })))
          (untold_stands past c.name (reports_server (reported_of (ending new))) (ending new) ended [])) tt
      by_test false = run_unmoved past (with_layout (has_writer c l after) (ending new)) (with_layout_stands past c (Some (ending new)) s (keeps_writer (ending new) keeps) ended)

  step_goes : (commit : Bool) (file : OpenFile) (came : WriterStep) → after.step ≡ came → RunGoes past (after_step commit file came (has_writer c l after))
  step_goes commit file step.Stranger is = run_unmoved past (has_writer c l after) (none_failed step.Stranger is (λ server. or_false (reports_server (reported_of l) server)))
  step_goes commit file step.Waiting is = told_then commit file (none_failed step.Waiting is (λ server. or_false (reports_server (reported_of l) server)))
  step_goes commit file step.Committed is = told_then commit file (none_failed step.Committed is (λ server. or_false (reports_server (reported_of l) server)))
  step_goes commit file (step.Failed id cause) is = failed_goes id cause is
  step_goes commit file (step.Fenced id status) is =
      revoked_goes past (has_writer c l after) (none_failed (step.Fenced id status) is (λ server. or_false (reports_server (reported_of l) server)))
      (not_getting past c.name l c.asked (subst (λ (o : Option Layout). IfThere c.asked (AskOut past c.name o)) at s.asked_out))

  pub after_goes : (commit : Bool) (file : OpenFile) → RunGoes past (after_step commit file after.step (has_writer c l after))
  after_goes commit file = step_goes commit file after.step refl

-- ---- an answer

module _ (h : List HistoryItem) (c : ClientValue) (s : Stands h c) (server : ℕ) (bytes : List ℕ) (now : ℕ) (reply : RpcReply) (reply_is : reply_at bytes ≡ Ok reply) where
  abbrev item : HistoryItem
  item = Hears (Recorded (Server server) bytes now)

  later : Stands (h ++ Hears (Recorded (Server server) bytes now) ∷ []) c
  later = stands_later h (item ∷ []) c (tt, tt) s

  out_goes : (file : OpenFile) (l : Layout) → c.layout ≡ Some l → (o : Option OutCall) → out_at l.writer server ≡ o
      → RunGoes (h ++ Hears (Recorded (Server server) bytes now) ∷ []) (answered_out file l reply.xid (λ call. reply_of_call call reply) o c)
  out_goes file l at None is = run_unmoved (h ++ item ∷ []) c later
  out_goes file l at (Some out) is = by_test (out.xid == reply.xid) refl
    where
      by_test : (b : Bool) → (out.xid == reply.xid) ≡ b
          → RunGoes (h ++ Hears (Recorded (Server server) bytes now) ∷ []) (if b then after_step (is_commit out.call) file (after_reply l.writer reply.xid (reply_of_call out.call reply)).step (has_writer c l (after_reply l.writer reply.xid (reply_of_call out.call reply))) else unmoved c)
      by_test true so =
          let old : LayoutStands h c.name (reports_server (reported_of l)) l = subst (λ (o : Option Layout). IfThere o (λ l. LayoutStands h c.name (reports_server (reported_of l)) l)) at s.layout_stands in
          after_goes (h ++ item ∷ []) c l at later (after_reply l.writer reply.xid (reply_of_call out.call reply))
          (reply_moves h c.name (reports_server (reported_of l)) l.writer old.writer c.next_xid s.numbers server bytes now reply reply_is out is (same_number out.xid reply.xid so)) (is_commit out.call) file
      by_test false so = run_unmoved (h ++ item ∷ []) c later

  answered_by : (file : Option OpenFile) (layout : Option Layout) → c.layout ≡ layout → RunGoes (h ++ Hears (Recorded (Server server) bytes now) ∷ []) (ds_answered_by file layout server reply.xid (λ call. reply_of_call call reply) c)
  answered_by (Some file) (Some l) at = out_goes file l at (out_at l.writer server) refl
  answered_by (Some file) None at = run_unmoved (h ++ item ∷ []) c later
  answered_by None layout at = run_unmoved (h ++ item ∷ []) c later

  pub ds_answer_goes : RunGoes (h ++ Hears (Recorded (Server server) bytes now) ∷ []) (ds_answered server reply.xid (λ call. reply_of_call call reply) c)
  ds_answer_goes = answered_by c.file c.layout refl
