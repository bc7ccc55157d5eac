-- The compounds of a client fit their forms in each run.
use Rattle.std.proofs.Common.{◌≡◌, ℕ, List, [], Option, Some, None, sym, subst, arith}
use Rattle.rpc_record.specs.Replies.{RpcReply}
use Rattle.device_addr.specs.declared.net_addr.NetAddr.{NetAddr}
use Rattle.cluster_model.specs.declared.ids.MirrorId.{MirrorId}
use Rattle.cluster_model.specs.declared.phase.LeftCause.{LeftCause}
use Rattle.cluster_model.specs.declared.entry.Entry.TheVariants.{Told}
use Rattle.ds_calls.specs.GivenReplies.{reply_of_call}
use Rattle.mirror_writer.specs.declared.step.WriterStep.TheVariants as step
use Rattle.mirror_writer.specs.Writers.{WriterAfter}
use Rattle.client_file_calls.specs.declared.open.OpenFile.{OpenFile}
use Rattle.client_file_calls.specs.declared.grant.LayoutGrant.{LayoutGrant}
use Rattle.client_mds_calls.specs.MdsReplies.{Granted}
use Rattle.client_state.specs.declared.layout.Layout.{Layout}
use Rattle.client_state.specs.declared.asked.Asked.{Asked}
use Rattle.client_state.specs.declared.tie.Tie.{Tie}
use Rattle.client_state.specs.ClientStates.{ClientValue}
use Rattle.client_state.specs.ClientQueue.{with_writer, ending}
use Rattle.client_calls.specs.ClientCalls.{layout_asked}
use Rattle.client_answers.specs.ClientMirrors.{with_failed, has_writer}
use Rattle.client_answers.specs.ClientAnswers.{new_layout, learns_devices}
use Rattle.mirror_client.specs.ClientRule.{layout_at_tick}
use Rattle.client_laws.specs.ClientHistory.{HistoryItem, Enters}
use Rattle.client_laws.proofs.Stands.{IfThere}
use Rattle.client_records.specs.ClientRecords.{IsInputInRange}
use Rattle.client_records.proofs.HeldBytes.{results_bytes}
use Rattle.client_records.proofs.AnswersFit.{IsGrantInRange, IsAnswerInRange, answer_fits}
use Rattle.client_records.proofs.Ranges.{IsTieInRange, moved_fits, behind_fits, completed_fits}
use Rattle.client_records.proofs.Cases.{Adds, IsAnswered, said, heard_mds, IsTieBehind, free, ComesTo, ByReply, ByTimeout, comes_layout, Cases}
use Rattle.client_records.proofs.Told.{any_tells, any_covers}
use Rattle.client_records.proofs.EachRun.{Base, in_each_run}
use Rattle.client_sessions.specs.FittingCalls.{AsksFit, EachRunAsksFit}
use Rattle.client_sessions.proofs.GrantedNumbers.{IsFileInRange, IsAnswerNumbered, answer_numbered}
use Rattle.client_sessions.proofs.FailureStatuses.{IsFailureShort, reply_short, reply_failure, timeout_failure}
use Rattle.client_sessions.proofs.FittingNumbers.{IsReportFit, NumbersFit, asked_fits, with_numbers, ending_report, report_behind, ticked_report, asked_report, granted_report, failed_report}

abbrev KeepsNumbers : List HistoryItem → ClientValue → Type 0
KeepsNumbers past c = NumbersFit c.tie c.file c.layout

told_so : (past : List HistoryItem) (c : ClientValue) (file : OpenFile) (cred at : ℕ) (bytes : List ℕ) → KeepsNumbers past c → Adds KeepsNumbers AsksFit past (Enters (Told file.file (record { 0 = cred }) at bytes)) c
told_so past c file cred at bytes i = (tt, i)

its_report : (past : List HistoryItem) (c : ClientValue) (l : Layout) → KeepsNumbers past c → c.layout ≡ Some l → IsReportFit l
its_report past c l i at = subst (λ (o : Option Layout). IfThere o IsReportFit) at i.layout_fits

-- ---- an answer of the metadata server

module _ (h : List HistoryItem) (c : ClientValue) (a : Asked) (bytes : List ℕ) (now : ℕ) (reply : RpcReply) (tie : Tie) (s : IsAnswered Base IsInputInRange h c a bytes now reply) (behind : IsTieBehind now (said a reply).slot c.tie tie) (i : KeepsNumbers h c) where
  in_range : IsAnswerInRange (said a reply).answer
  in_range = answer_fits a.ask reply (results_bytes bytes reply s.input s.reply_is)

  numbered : IsAnswerNumbered (said a reply).answer
  numbered = answer_numbered a.ask reply

  tie_behind : IsTieInRange tie
  tie_behind = behind_fits now (said a reply).slot c.tie tie behind i.tie_fits

  answered : (file : Option OpenFile) (layout : Option Layout) → IfThere file IsFileInRange → IfThere layout IsReportFit → NumbersFit tie file layout
  answered file layout files reports = record { tie_fits = tie_behind; file_fits = files; layout_fits = reports }

  plain : NumbersFit tie c.file c.layout
  plain = answered c.file c.layout i.file_fits i.layout_fits

  without : NumbersFit tie c.file None
  without = answered c.file None i.file_fits tt

  grants : (grant : LayoutGrant) → (said a reply).answer ≡ Granted grant → NumbersFit tie c.file (Some (new_layout grant))
  grants grant is =
      let fits : IsGrantInRange grant = subst IsAnswerInRange is in_range in
      answered c.file (Some (new_layout grant)) i.file_fits (granted_report grant fits.stateid fits.few (subst IsAnswerNumbered is numbered))

  learned : (addresses : List NetAddr) (layout : Option Layout) → KeepsNumbers (heard_mds h bytes now) (learns_devices layout addresses (free tie c))
  learned addresses None = plain
  learned addresses (Some l) = plain

-- ---- a writer, by an answer or a timeout

module _ (past : List HistoryItem) (c : ClientValue) (file : OpenFile) (l : Layout) (after : WriterAfter) (comes : ComesTo Base IsInputInRange KeepsNumbers past c file l after) (i : KeepsNumbers past c) where
  came_report : IsReportFit (with_writer l after.writer)
  came_report = its_report past c l i (comes_layout Base IsInputInRange KeepsNumbers past c file l after comes)

  came_short : IsFailureShort after.step
  came_short = by_way comes
    where
      by_way : ComesTo Base IsInputInRange KeepsNumbers past c file l after → IsFailureShort after.step
      by_way (ByReply h server bytes now reply out s past_is is) =
          subst (λ (w : WriterAfter). IsFailureShort w.step) (sym is)
          (reply_failure l.writer reply.xid (reply_of_call out.call reply) (reply_short out.call reply (results_bytes bytes reply s.input s.reply_is)))
      by_way (ByTimeout h server out s past_is is) = subst (λ (w : WriterAfter). IsFailureShort w.step) (sym is) (timeout_failure l.writer out.xid)

  failed_fits : (id : MirrorId) (cause : LeftCause) → after.step ≡ step.Failed id cause → IsReportFit (ending (with_failed (with_writer l after.writer) id cause))
  failed_fits id cause is =
      ending_report (with_failed (with_writer l after.writer) id cause) (failed_report (with_writer l after.writer) id cause (subst IsFailureShort is came_short) came_report)

-- ---- the cases

fitting_cases : Cases Base IsInputInRange KeepsNumbers AsksFit
fitting_cases = record {
  heard = λ past input. tt;
  hears = λ h c input stays q i. i;
  requests = λ h c request q i. i;
  leaves = λ h c i. i;
  ticks = λ past c i. with_numbers c.tie c.file c.layout (layout_at_tick c.layout) i (ticked_report c.layout i.layout_fits);
  answers = λ past c a answers told i. (tt, i);
  done = λ past c request rest at may i. i;
  takes = λ past c file l at bytes rest taking i. (tt, with_numbers c.tie c.file c.layout _ i (its_report past c l i taking.layout));
  ends = λ past c l at i. with_numbers c.tie c.file c.layout (Some (ending l)) i (ending_report l (its_report past c l i at));
  commits = λ past c l at i. with_numbers c.tie c.file c.layout _ i (its_report past c l i at);
  calls = λ past c l s at some is i. (tt, with_numbers c.tie c.file c.layout (Some (record l { writer = s.writer })) i (its_report past c l i at));
  asks = λ past c kind call none some due is i. (asked_fits c i kind call is, with_numbers c.tie c.file c.layout (layout_asked kind c.layout) i (asked_report kind c.layout i.layout_fits));
  client = λ h c a bytes now reply tie s behind i clientid sequence is. record { tie_fits = subst IsAnswerInRange is (in_range h c a bytes now reply tie s behind i); file_fits = i.file_fits; layout_fits = i.layout_fits };
  session = λ h c a bytes now reply tie s behind i session is. record { tie_fits = (subst IsAnswerInRange is (in_range h c a bytes now reply tie s behind i), omega arith); file_fits = i.file_fits; layout_fits = i.layout_fits };
  complete = λ h c a bytes now reply tie s behind i is. record { tie_fits = completed_fits tie (tie_behind h c a bytes now reply tie s behind i); file_fits = i.file_fits; layout_fits = i.layout_fits };
  opened = λ h c a bytes now reply tie s behind i file is. answered h c a bytes now reply tie s behind i (Some file) c.layout (subst IsAnswerNumbered is (numbered h c a bytes now reply tie s behind i)) i.layout_fits;
  granted = λ h c a bytes now reply tie s behind i grant is. grants h c a bytes now reply tie s behind i grant is;
  learns = λ h c a bytes now reply tie s behind i addresses is. learned h c a bytes now reply tie s behind i addresses c.layout;
  served = λ h c a bytes now reply tie s behind i is. plain h c a bytes now reply tie s behind i;
  idle = λ h c a bytes now reply tie s behind i is. plain h c a bytes now reply tie s behind i;
  returned = λ h c a bytes now reply tie s behind i file l is there at. any_tells KeepsNumbers AsksFit told_so (heard_mds h bytes now) file l.writer l.untold (record (free tie c) { layout = None }) (without h c a bytes now reply tie s behind i);
  refused = λ h c a bytes now reply tie s behind i status queue waits layout is shorter kept. answered h c a bytes now reply tie s behind i c.file layout i.file_fits (report_behind a.ask c.layout layout kept i.layout_fits);
  gone = λ h c a bytes now reply tie s behind i status is bad kind. without h c a bytes now reply tie s behind i;
  starts_over = λ h c a bytes now reply tie s behind i queue over shorter. record { tie_fits = tt; file_fits = tt; layout_fits = tt };
  again = λ h c a bytes now reply s at i. record { tie_fits = moved_fits now c.tie i.tie_fits; file_fits = i.file_fits; layout_fits = i.layout_fits };
  delays = λ h c a bytes now reply s at i. i;
  wakes = λ past c a at i. i;
  repeats_mds = λ past c a at i. (tt, i);
  timed = λ past c xid i. (tt, i);
  moves = λ past c file l after comes quiet i. with_numbers c.tie c.file c.layout (Some (with_writer l after.writer)) i (came_report past c file l after comes i);
  covers = λ past c file l after comes quiet i. any_covers KeepsNumbers AsksFit told_so past file (with_writer l after.writer) (has_writer c l after)
      (λ untold told. with_numbers c.tie c.file (Some (with_writer l after.writer)) (Some (record (with_writer l after.writer) { untold = untold })) i i.layout_fits);
  fails = λ past c file l after id cause comes is some i. with_numbers c.tie c.file c.layout (Some (ending (with_failed (with_writer l after.writer) id cause))) i (failed_fits past c file l after comes i id cause is);
  loses = λ past c file l after id cause comes is i.
      with_numbers c.tie c.file c.layout (Some (record (ending (with_failed (with_writer l after.writer) id cause)) { untold = [] })) i (failed_fits past c file l after comes i id cause is);
  fenced = λ past c file l after id status comes is i. with_numbers c.tie c.file c.layout None i tt;
  repeats_server = λ h c file l server out late entries d j. (tt, j);
  callbacks = λ past c s slot at i. record { tie_fits = subst IsTieInRange at i.tie_fits; file_fits = i.file_fits; layout_fits = i.layout_fits };
  replies = λ past d bytes now reply q call i. (tt, i);
  strays = λ past c file l place at bytes m q straying i. (tt, (tt, i));
}

pub asks_fit : EachRunAsksFit
asks_fit number verifier first_xid inputs starts all =
    (in_each_run IsInputInRange KeepsNumbers AsksFit fitting_cases number verifier first_xid inputs all (record { tie_fits = tt; file_fits = tt; layout_fits = tt })).each
