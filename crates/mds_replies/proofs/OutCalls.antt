-- The calls that go out are no replies.
use Rattle.std.proofs.Common.{◌≡◌, ℕ, List, [], ◌∷◌, ◌++◌, subst, inl, inr, ◌⊎◌, sym, Option, Some, None}
use Rattle.compound_reply.specs.Replied.{success_reply}
use Rattle.cluster_model.specs.declared.ids.NodeId.TheVariants.{Server}
use Rattle.cluster_model.specs.declared.entry.Entry.{Entry}
use Rattle.device_addr.specs.Universal.{AddressValue}
use Rattle.mds_rule.specs.MdsStates.{MdsSend, CallsServer, CallsBack, Replies, Answers, AwaitedCall, MdsValue, MdsStep, with_call, new_mds, ServedFile, sends_none, served, with_served}
use Rattle.mds_rule.specs.declared.waiter.Waiter.TheVariants.{ForFile, ForRead, ForWrite, ForRecall}
use Rattle.std.specs.List.{list_any}
use Rattle.std.proofs.lemmas.Bool.{cond_both}
use Rattle.cluster_model.specs.declared.ids.FileId.{FileId}
use Rattle.file_rule.specs.MdsFiles.{FileStep}
use Rattle.file_rule.specs.FilePhases.{FileInput, AsksLayout, Returns, Answers as IsAnswer, OwnEnds, TimesOut, Sees, phase}
use Rattle.layout_report.specs.Reports.{report_of}
use Rattle.mds_rule.specs.Answers.{own_answer, failures_by_place}
use Rattle.mds_rows.specs.Draws.{drawn}
use Rattle.recall.specs.Recalls.{without_file}
use Rattle.mds_rule.specs.ServedFiles.{has_fresh, is_period_end, file_behind, file_stepped, input_at}
use Rattle.mds_walk.specs.MdsRuns.{MdsEvent, mds_run}
use Rattle.mds_walk.proofs.Lists.{in_with_call, in_filtered}
use Rattle.mds_laws.proofs.Numbers.{WereSent, sent_more, sent_with, sent_kept}
use Rattle.mds_walk.proofs.Parts.{HeardAny, AnyCompound}
use Rattle.mds_replies.proofs.HolderCases.{Cases, RunCases, OutCases}
use Rattle.cluster_model.specs.declared.phase.EndCause.TheVariants.{ClientGone}
use Rattle.cluster_model.specs.Members.{IsOneOf}
use Rattle.mds_rule.specs.SessionOps.{gone_with}
use Rattle.mds_walk.proofs.ServedWalk.{client_ends}
use Rattle.mds_replies.proofs.HolderParts.{case_parts}
use Rattle.mds_replies.proofs.PeriodKept.{sent_with_calls, in_sent}
use Rattle.mds_replies.proofs.GoesWalk.{in_each_run}

abbrev pub IsCall : MdsSend → Type 0
IsCall (CallsServer server xid uid call) = Unit {0}
IsCall (CallsBack xid back file stateid) = Unit {0}
IsCall (Replies node reply) = ⊥
IsCall (Answers node bytes) = ⊥

abbrev pub AreCalled : List AwaitedCall → Type 0
AreCalled calls = (call : AwaitedCall) → IsOneOf call calls → IsCall call.sent

with_one : (call : AwaitedCall) (calls : List AwaitedCall) → IsCall call.sent → AreCalled calls → AreCalled (with_call call calls)
with_one call calls is all x inside = by_place (in_with_call x call calls inside)
  where
    by_place : IsOneOf x calls ⊎ (x ≡ call) → IsCall x.sent
    by_place (inl old) = all x old
    by_place (inr new) = subst (λ (y : AwaitedCall). IsCall y.sent) (sym new) is

-- ---- what is awaited behind each run

record Stands (calls : List AwaitedCall) (ss : List MdsSend) : Type 0 where
  pub called : AreCalled calls
  pub were : WereSent calls ss

abbrev IsSo : MdsValue → List Entry → List MdsSend → Type 0
IsSo m es ss = Stands m.calls ss

one_more : (calls : List AwaitedCall) (call : AwaitedCall) (ss : List MdsSend) → IsCall call.sent → Stands calls ss → Stands (with_call call calls) (ss ++ call.sent ∷ [])
one_more calls call ss is i = record { called = with_one call calls is i.called; were = sent_with calls ss call i.were }

sends : (calls : List AwaitedCall) (ss : List MdsSend) (s : MdsSend) → Stands calls ss → Stands calls (ss ++ s ∷ [])
sends calls ss s i = record { called = i.called; were = sent_more calls ss s i.were }

behind : (m : MdsValue) (file : FileId) (s : ServedFile) (step : FileStep) (es : List Entry) (ss : List MdsSend) → IsSo m es ss → IsSo (file_stepped m file s step).mds (es ++ step.entries) ss
behind m file s step es ss i =
    let n : MdsValue = with_served (record m { fresh = drawn m.fresh step }) file (file_behind s step) in
    cond_both (list_any is_period_end step.entries) (record n { recalls = without_file file n.recalls }) n (λ (x : MdsValue). Stands x.calls ss) (λ end. i) (λ off. i)

-- a grant awaits no call
asked : (m : MdsValue) (file : FileId) (input : FileInput) (o : Option ServedFile) (ss : List MdsSend) → Stands m.calls ss → Stands (input_at m file input o).mds.calls ss
asked m file input None ss i = i
asked m file input (Some s) ss i =
    cond_both (has_fresh m.fresh) (file_stepped m file s (phase file s.file input m.fresh)) (sends_none m) (λ (x : MdsStep). Stands x.mds.calls ss) (λ fresh. behind m file s (phase file s.file input m.fresh) [] ss i) (λ off. i)

cases : Cases IsSo HeardAny AnyCompound
cases = record {
  wait = λ m es ss i file s at. record { reads_so = λ r inside. tt; write_so = λ w is. tt };
  quiet = λ m confirmed opens reclaimed recalls old es ss i. i;
  tables = λ m move is es ss i. i;
  notes = λ m e note es ss i. i;
  puts = λ m other s t at same holder seqid write waits es ss i. i;
  again_to = λ m file s client at its es ss i. i;
  grants = λ m file n client t from free was at es ss i. asked m file (AsksLayout n) (served m file) ss i;
  inputs = λ m other s input itself at fresh es ss i. behind m other s (phase other s.file input m.fresh) es ss i;
  own_ends = λ m other s failures place bytes at fresh es ss i. behind m other s (phase other s.file (OwnEnds (failures_by_place failures s.file.layout.live) place bytes) m.fresh) es ss i;
  timeouts = λ m other s xid at fresh es ss i. behind m other s (phase other s.file (TimesOut xid) m.fresh) es ss i;
  hears = λ m other s call server own uid c replies heard caller sent out at fresh es ss i. behind m other s (phase other s.file (IsAnswer call.xid (own_answer c (replies c))) m.fresh) es ss i;
  learns = λ m other s call server own uid c replies fileid shown heard caller sent named shows at fresh es ss i. behind m other s (phase other s.file (Sees (record { server = server; fileid = fileid }) shown.seen) m.fresh) es ss i;
  makes = λ m name may es ss i. i;
  calls_file = λ m other s c at has its es ss i. one_more m.calls (record { node = Server c.server; xid = m.next_xid; caller = ForFile other; sent = CallsServer c.server m.next_xid c.uid c.call }) ss tt i;
  calls_write = λ m other s w c at has waits its is_write es ss i.
      one_more m.calls (record { node = Server c.id.server; xid = m.next_xid; caller = ForWrite other; sent = CallsServer c.id.server m.next_xid w.writer.cred c.call }) ss tt i;
  calls_read = λ m other s t server call at has same holder seqid write waits kept uid is_read es ss i.
      one_more m.calls (record { node = Server server; xid = m.next_xid; caller = ForRead other; sent = CallsServer server m.next_xid 0 call }) ss tt i;
  calls_back = λ m node back other stateid has es ss i. one_more m.calls (record { node = node; xid = m.next_xid; caller = ForRecall; sent = CallsBack m.next_xid back other stateid }) ss tt i;
  skips = λ m has es ss i. i;
  forgets = λ m test es ss i. record { called = λ call inside. i.called call (in_filtered _ call m.calls inside); were = sent_kept test m.calls ss i.were };
  was = λ m es ss i. i.were;
  again = λ m s es ss i inside. sends m.calls ss s i;
}

runs : RunCases IsSo AnyCompound
runs = record {
  replies = λ m node xid results es ss i. sends m.calls ss (Replies node (success_reply xid results)) i;
  finishes = λ m pass bytes es ss i. i;
  returns = λ m file s n cred errors at fresh es ss i. behind m file s (phase file s.file (Returns n cred (report_of errors s.file.layout.live)) m.fresh) es ss i;
  confirms = λ m client node es ss i. i;
  destroys = λ m session es ss i. i;
  any = λ c. tt;
}

pub are_called : (servers : List AddressValue) (mirrors : ℕ) (events : List MdsEvent) → AreCalled (mds_run servers mirrors events).mds.calls
are_called servers mirrors events = (in_each_run IsSo AnyCompound cases runs (λ m node bytes reply is es ss i. sends m.calls ss (Answers node bytes) i) (λ m request now es ss i. i) (new_mds servers mirrors) events (record { called = λ call inside. absurd inside; were = λ call inside. absurd inside })).called

-- the end of a client awaits no call
pub gone_called : (client : Option ℕ) (m : MdsValue) → AreCalled m.calls → AreCalled (gone_with client m).mds.calls
gone_called None m all = all
gone_called (Some client) m all =
    ((client_ends IsSo HeardAny AnyCompound (case_parts IsSo HeardAny AnyCompound cases) m client ClientGone).enters [] (sent_with_calls m.calls) (record { called = all; were = λ call inside. in_sent call m.calls inside })).called

-- ---- what goes out

-- those before, and calls
pub record GoesOut (old : List MdsSend) (calls : List AwaitedCall) (ss : List MdsSend) : Type 0 where
  pub called : AreCalled calls
  pub were : (s : MdsSend) → IsOneOf s ss → IsOneOf s old ⊎ IsCall s
  pub kept : WereSent calls ss

module _ (old : List MdsSend) where
  abbrev pub IsOut : MdsValue → List Entry → List MdsSend → Type 0
  IsOut m es ss = GoesOut old m.calls ss

  pushed : (ss : List MdsSend) (call : MdsSend) → IsCall call → ((s : MdsSend) → IsOneOf s ss → IsOneOf s old ⊎ IsCall s) → (s : MdsSend) → IsOneOf s (ss ++ call ∷ []) → IsOneOf s old ⊎ IsCall s
  pushed [] call is all s (inl same) = inr (subst IsCall (sym same) is)
  pushed [] call is all s (inr inside) = absurd inside
  pushed (x ∷ ss) call is all s (inl same) = all s (inl same)
  pushed (x ∷ ss) call is all s (inr inside) = pushed ss call is (λ y its. all y (inr its)) s inside

  goes_out : (calls : List AwaitedCall) (call : AwaitedCall) (ss : List MdsSend) → IsCall call.sent → GoesOut old calls ss → GoesOut old (with_call call calls) (ss ++ call.sent ∷ [])
  goes_out calls call ss is i = record { called = with_one call calls is i.called; were = pushed ss call.sent is i.were; kept = sent_with calls ss call i.kept }

  out_again : (calls : List AwaitedCall) (ss : List MdsSend) (s : MdsSend) → IsOneOf s ss → GoesOut old calls ss → GoesOut old calls (ss ++ s ∷ [])
  out_again calls ss s inside i = record { called = i.called; were = behind_all ss i.were (i.were s inside); kept = sent_more calls ss s i.kept }
    where
      behind_all : (xs : List MdsSend) → ((x : MdsSend) → IsOneOf x xs → IsOneOf x old ⊎ IsCall x) → IsOneOf s old ⊎ IsCall s → (x : MdsSend) → IsOneOf x (xs ++ s ∷ []) → IsOneOf x old ⊎ IsCall x
      behind_all [] all its x (inl same) = subst (λ (y : MdsSend). IsOneOf y old ⊎ IsCall y) (sym same) its
      behind_all [] all its x (inr none) = absurd none
      behind_all (y ∷ xs) all its x (inl same) = all x (inl same)
      behind_all (y ∷ xs) all its x (inr more) = behind_all xs (λ z zs. all z (inr zs)) its x more

  pub outs : OutCases IsOut
  outs = record {
    recalled = λ m recalls es ss i. i;
    back = λ m client es ss i. i;
    calls_file = λ m other s c at has its es ss i. goes_out m.calls (record { node = Server c.server; xid = m.next_xid; caller = ForFile other; sent = CallsServer c.server m.next_xid c.uid c.call }) ss tt i;
    calls_write = λ m other s w c at has waits its is_write es ss i.
        goes_out m.calls (record { node = Server c.id.server; xid = m.next_xid; caller = ForWrite other; sent = CallsServer c.id.server m.next_xid w.writer.cred c.call }) ss tt i;
    calls_read = λ m other s t server call at has same holder seqid write waits kept uid is_read es ss i.
        goes_out m.calls (record { node = Server server; xid = m.next_xid; caller = ForRead other; sent = CallsServer server m.next_xid 0 call }) ss tt i;
    calls_back = λ m node back other stateid has es ss i. goes_out m.calls (record { node = node; xid = m.next_xid; caller = ForRecall; sent = CallsBack m.next_xid back other stateid }) ss tt i;
    skips = λ m has es ss i. i;
    was = λ m es ss i. i.kept;
    again = λ m s es ss i inside. out_again m.calls ss s inside i;
  }
