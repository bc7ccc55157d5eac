-- Of what is sent in an event: replies are of success, and what is answered at once came in the event.
use Rattle.std.proofs.Common.{◌≡◌, ℕ, List, [], ◌∷◌, ◌++◌, Option, Some, None, refl, inl, inr}
use Rattle.std.specs.List.{list_any}
use Rattle.std.proofs.lemmas.Bool.{cond_both}
use Rattle.compound_reply.specs.Replied.{success_reply}
use Rattle.cluster_model.specs.declared.ids.NodeId.{NodeId}
use Rattle.cluster_model.specs.declared.ids.NodeId.TheVariants.{Server}
use Rattle.cluster_model.specs.declared.ids.FileId.{FileId}
use Rattle.cluster_model.specs.declared.entry.Entry.{Entry}
use Rattle.cluster_model.specs.Members.{IsOneOf}
use Rattle.file_rule.specs.MdsFiles.{FileStep}
use Rattle.file_rule.specs.FilePhases.{FileInput, AsksLayout, Returns, Answers as IsAnswer, TimesOut, Sees, phase, OwnEnds}
use Rattle.mds_rows.specs.Draws.{drawn}
use Rattle.recall.specs.Recalls.{without_file}
use Rattle.mds_receive.specs.MdsReceive.{IsAnswered, incoming_of}
use Rattle.layout_report.specs.Reports.{report_of}
use Rattle.mds_rule.specs.Answers.{own_answer, failures_by_place}
use Rattle.mds_rule.specs.MdsStates.{ServedFile, MdsSend, CallsServer, CallsBack, Replies, Answers, AwaitedCall, MdsValue, MdsStep, sends_none, with_call, served, with_served}
use Rattle.mds_rule.specs.declared.waiter.Waiter.TheVariants.{ForFile, ForRead, ForWrite, ForRecall}
use Rattle.mds_rule.specs.ServedFiles.{has_fresh, is_period_end, file_behind, file_stepped, input_at}
use Rattle.mds_walk.specs.MdsRuns.{MdsInput, MdsEvent, Hears, IsTimedOut, Ticks, RecallsFile, Resilvers, after_event}
use Rattle.mds_walk.proofs.Lists.{AllOf, all_push, all_in}
use Rattle.mds_walk.proofs.Parts.{HeardAny, Keeps, AnyCompound, Parts, RunParts}
use Rattle.mds_walk.proofs.Keeping.{becomes_keeps, hears_any}
use Rattle.mds_laws.proofs.Numbers.{WereSent, sent_more, sent_with, sent_kept}
use Rattle.mds_walk.proofs.Requested.{behind_begin}
use Rattle.mds_replies.specs.ClientCalls.{server_after}
use Rattle.mds_replies.specs.GivenAnswers.{EachReplyIsWhole, IsAnsweredNow, EachAnswerIsNow}
use Rattle.mds_replies.proofs.HolderCases.{Cases, RunCases}
use Rattle.mds_walk.proofs.CompoundWalk.{compound_walk, resumed}
use Rattle.mds_replies.proofs.HolderParts.{case_parts, case_runs, case_calls, case_outs}
use Rattle.mds_replies.proofs.GoesWalk.{begin_kept}
use Rattle.mds_walk.proofs.EventWalk.{RunsSo, input_walk}
use Rattle.mds_replies.proofs.HeldFiles.{in_behind}
use Rattle.mds_replies.proofs.PeriodKept.{sent_with_calls, in_sent}
use Rattle.mds_replies.proofs.OutCalls.{IsCall, AreCalled, are_called}

record Stands (P : MdsSend → Type 0) (calls : List AwaitedCall) (ss : List MdsSend) : Type 0 where
  all : AllOf P ss
  were : WereSent calls ss

calls_so : (P : MdsSend → Type 0) → ((s : MdsSend) → IsCall s → P s) → (calls : List AwaitedCall) → AreCalled calls → AllOf P (sent_with_calls calls)
calls_so P called [] are = tt
calls_so P called (call ∷ calls) are = (called call.sent (are call (inl refl)), calls_so P called calls (λ c inside. are c (inr inside)))

-- calls and replies of success are so
module _ (P : MdsSend → Type 0) (called : (s : MdsSend) → IsCall s → P s) (said : (node : NodeId) (xid : ℕ) (results : List ℕ) → P (Replies node (success_reply xid results))) where
  abbrev IsSo : MdsValue → List Entry → List MdsSend → Type 0
  IsSo m es ss = Stands P m.calls ss

  sends : (calls : List AwaitedCall) (ss : List MdsSend) (s : MdsSend) → P s → Stands P calls ss → Stands P calls (ss ++ s ∷ [])
  sends calls ss s its i = record { all = all_push P ss s i.all its; were = sent_more calls ss s i.were }

  calls_one : (calls : List AwaitedCall) (call : AwaitedCall) (ss : List MdsSend) → IsCall call.sent → Stands P calls ss → Stands P (with_call call calls) (ss ++ call.sent ∷ [])
  calls_one calls call ss is i = record { all = all_push P ss call.sent i.all (called call.sent is); were = sent_with calls ss call i.were }

  behind : (m : MdsValue) (file : FileId) (s : ServedFile) (step : FileStep) (es : List Entry) (ss : List MdsSend) → IsSo m es ss → IsSo (file_stepped m file s step).mds (es ++ step.entries) ss
  behind m file s step es ss i =
      let n : MdsValue = with_served (record m { fresh = drawn m.fresh step }) file (file_behind s step) in
      cond_both (list_any is_period_end step.entries) (record n { recalls = without_file file n.recalls }) n (λ (x : MdsValue). Stands P x.calls ss) (λ end. i) (λ off. i)

  asked : (m : MdsValue) (file : FileId) (input : FileInput) (o : Option ServedFile) (ss : List MdsSend) → Stands P m.calls ss → Stands P (input_at m file input o).mds.calls ss
  asked m file input None ss i = i
  asked m file input (Some s) ss i =
      cond_both (has_fresh m.fresh) (file_stepped m file s (phase file s.file input m.fresh)) (sends_none m) (λ (x : MdsStep). Stands P x.mds.calls ss) (λ fresh. behind m file s (phase file s.file input m.fresh) [] ss i) (λ off. i)

  cases : Cases IsSo HeardAny AnyCompound
  cases = record {
    wait = λ m es ss i file s at. record { reads_so = λ r inside. tt; write_so = λ w is. tt };
    quiet = λ m confirmed opens reclaimed recalls old es ss i. i;
    tables = λ m move is es ss i. i;
    notes = λ m e note es ss i. i;
    puts = λ m other s t at same holder seqid write waits es ss i. i;
    again_to = λ m file s client at its es ss i. i;
    grants = λ m file n client t from free was at es ss i. asked m file (AsksLayout n) (served m file) ss i;
    inputs = λ m other s input itself at fresh es ss i. behind m other s (phase other s.file input m.fresh) es ss i;
    own_ends = λ m other s failures place bytes at fresh es ss i. behind m other s (phase other s.file (OwnEnds (failures_by_place failures s.file.layout.live) place bytes) m.fresh) es ss i;
    timeouts = λ m other s xid at fresh es ss i. behind m other s (phase other s.file (TimesOut xid) m.fresh) es ss i;
    hears = λ m other s call server own uid c replies heard caller sent out at fresh es ss i. behind m other s (phase other s.file (IsAnswer call.xid (own_answer c (replies c))) m.fresh) es ss i;
    learns = λ m other s call server own uid c replies fileid shown heard caller sent named shows at fresh es ss i. behind m other s (phase other s.file (Sees (record { server = server; fileid = fileid }) shown.seen) m.fresh) es ss i;
    makes = λ m name may es ss i. i;
    calls_file = λ m other s c at has its es ss i. calls_one m.calls (record { node = Server c.server; xid = m.next_xid; caller = ForFile other; sent = CallsServer c.server m.next_xid c.uid c.call }) ss tt i;
    calls_write = λ m other s w c at has waits its is_write es ss i.
        calls_one m.calls (record { node = Server c.id.server; xid = m.next_xid; caller = ForWrite other; sent = CallsServer c.id.server m.next_xid w.writer.cred c.call }) ss tt i;
    calls_read = λ m other s t server call at has same holder seqid write waits kept uid is_read es ss i.
        calls_one m.calls (record { node = Server server; xid = m.next_xid; caller = ForRead other; sent = CallsServer server m.next_xid 0 call }) ss tt i;
    calls_back = λ m node back other stateid has es ss i. calls_one m.calls (record { node = node; xid = m.next_xid; caller = ForRecall; sent = CallsBack m.next_xid back other stateid }) ss tt i;
    skips = λ m has es ss i. i;
    forgets = λ m test es ss i. record { all = i.all; were = sent_kept test m.calls ss i.were };
    was = λ m es ss i. i.were;
    again = λ m s es ss i inside. sends m.calls ss s (all_in P ss s i.all inside) i;
  }

  runs : RunCases IsSo AnyCompound
  runs = record {
    replies = λ m node xid results es ss i. sends m.calls ss (Replies node (success_reply xid results)) (said node xid results) i;
    finishes = λ m pass bytes es ss i. i;
    returns = λ m file s n cred errors at fresh es ss i. behind m file s (phase file s.file (Returns n cred (report_of errors s.file.layout.live)) m.fresh) es ss i;
    confirms = λ m client node es ss i. i;
    destroys = λ m session es ss i. i;
    any = λ c. tt;
  }

  parts : Parts IsSo HeardAny AnyCompound
  parts = case_parts IsSo HeardAny AnyCompound cases

  run_parts : RunParts IsSo
  run_parts = case_runs IsSo AnyCompound runs

  -- what is answered at once is so where the event brought it
  module _ (e : MdsEvent) (given : (node : NodeId) (bytes asked : List ℕ) → e.input ≡ Hears node asked → incoming_of asked ≡ IsAnswered bytes → P (Answers node bytes)) where
    runs_at : (input : MdsInput) → e.input ≡ input → (m : MdsValue) → RunsSo IsSo e.now input m
    runs_at (Hears from asked) at m =
        (λ xid c is. compound_walk IsSo HeardAny AnyCompound parts run_parts runs.any e.now m from xid c, λ bytes is es ss i. sends m.calls ss (Answers from bytes) (given from bytes asked at is) i)
    runs_at (IsTimedOut to which) at m = tt
    runs_at Ticks at m = tt
    runs_at (RecallsFile file) at m = tt
    runs_at (Resilvers file) at m = tt

    keeps : (m : MdsValue) → Keeps IsSo m (after_event e m)
    keeps m =
        becomes_keeps IsSo m (behind_begin e.now e.input m) (after_event e m) (begin_kept IsSo HeardAny AnyCompound cases (λ n request now es ss i. i) e.now e.input m)
        (input_walk IsSo HeardAny AnyCompound parts (resumed IsSo HeardAny AnyCompound parts run_parts runs.any) (case_calls IsSo HeardAny AnyCompound cases) (case_outs IsSo HeardAny AnyCompound cases) e.now e.input m (hears_any IsSo e.input) (runs_at e.input refl m))

    sent_so : (m : MdsValue) → AreCalled m.calls → (s : MdsSend) → IsOneOf s (after_event e m).sends → P s
    sent_so m are s inside =
        let old : List MdsSend = sent_with_calls m.calls in
        let k : Stands P (after_event e m).mds.calls (old ++ (after_event e m).sends) = keeps m [] old (record { all = calls_so P called m.calls are; were = λ call its. in_sent call m.calls its }) in
        all_in P (old ++ (after_event e m).sends) s k.all (in_behind s old (after_event e m).sends inside)

-- ---- replies

abbrev IsWhole : MdsSend → Type 0
IsWhole (CallsServer server xid uid call) = Unit {0}
IsWhole (CallsBack xid back file stateid) = Unit {0}
IsWhole (Replies node reply) = reply ≡ success_reply reply.xid reply.results
IsWhole (Answers node bytes) = Unit {0}

call_whole : (s : MdsSend) → IsCall s → IsWhole s
call_whole (CallsServer server xid uid call) is = tt
call_whole (CallsBack xid back file stateid) is = tt
call_whole (Replies node reply) is = absurd is
call_whole (Answers node bytes) is = tt

pub each_reply_is_whole : EachReplyIsWhole
each_reply_is_whole servers mirrors before e node reply inside =
    sent_so IsWhole call_whole (λ other xid results. refl) e (λ other bytes asked input reads. tt) (server_after servers mirrors before) (are_called servers mirrors before) (Replies node reply) inside

-- ---- what is answered at once

abbrev IsNow : MdsEvent → MdsSend → Type 0
IsNow e (CallsServer server xid uid call) = Unit {0}
IsNow e (CallsBack xid back file stateid) = Unit {0}
IsNow e (Replies node reply) = Unit {0}
IsNow e (Answers node bytes) = IsAnsweredNow e node bytes

call_now : (e : MdsEvent) (s : MdsSend) → IsCall s → IsNow e s
call_now e (CallsServer server xid uid call) is = tt
call_now e (CallsBack xid back file stateid) is = tt
call_now e (Replies node reply) is = tt
call_now e (Answers node bytes) is = absurd is

pub each_answer_is_now : EachAnswerIsNow
each_answer_is_now servers mirrors before e node bytes inside =
    sent_so (IsNow e) (call_now e) (λ other xid results. tt) e (λ other given asked input reads. record { asked = asked; input = input; reads = reads }) (server_after servers mirrors before) (are_called servers mirrors before) (Answers node bytes) inside
