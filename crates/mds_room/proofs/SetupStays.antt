-- The data servers that a metadata server knows, and how many mirrors it wants for a file, stay as they were set up.
use Rattle.std.proofs.Common.{◌≡◌, ℕ, List, [], ◌∷◌, ◌++◌, Option, Some, None, refl}
use Rattle.std.specs.List.{list_any}
use Rattle.std.proofs.lemmas.Bool.{cond_both}
use Rattle.compound_reply.specs.Replied.{success_reply}
use Rattle.cluster_model.specs.declared.ids.NodeId.TheVariants.{Server}
use Rattle.cluster_model.specs.declared.ids.FileId.{FileId}
use Rattle.cluster_model.specs.declared.entry.Entry.{Entry}
use Rattle.device_addr.specs.Universal.{AddressValue}
use Rattle.file_rule.specs.MdsFiles.{FileStep}
use Rattle.file_rule.specs.FilePhases.{FileInput, AsksLayout, Returns, Answers as IsAnswer, OwnEnds, TimesOut, Sees, phase}
use Rattle.mds_rows.specs.Draws.{drawn}
use Rattle.recall.specs.Recalls.{without_file}
use Rattle.layout_report.specs.Reports.{report_of}
use Rattle.mds_rule.specs.Answers.{own_answer, failures_by_place}
use Rattle.mds_rule.specs.MdsStates.{ServedFile, MdsSend, CallsServer, CallsBack, Replies, Answers, AwaitedCall, MdsValue, MdsStep, sends_none, served, with_served, with_call, new_mds}
use Rattle.mds_rule.specs.declared.waiter.Waiter.TheVariants.{ForFile, ForRead, ForWrite, ForRecall}
use Rattle.mds_rule.specs.ServedFiles.{has_fresh, is_period_end, file_behind, file_stepped, input_at}
use Rattle.mds_walk.specs.MdsRuns.{MdsEvent, mds_run}
use Rattle.mds_walk.proofs.Parts.{HeardAny, AnyCompound}
use Rattle.mds_laws.proofs.Numbers.{WereSent, sent_more, sent_with, sent_kept}
use Rattle.mds_replies.proofs.HolderCases.{Cases, RunCases}
use Rattle.mds_replies.proofs.GoesWalk.{run_walk}

module _ (servers : List AddressValue) (mirrors : ℕ) where
  record Stands (addresses : List AddressValue) (count : ℕ) (calls : List AwaitedCall) (ss : List MdsSend) : Type 0 where
    pub servers_are : addresses ≡ servers
    pub mirrors_are : count ≡ mirrors
    pub were : WereSent calls ss

  abbrev IsSo : MdsValue → List Entry → List MdsSend → Type 0
  IsSo m es ss = Stands m.servers m.mirrors m.calls ss

  sends : (m : MdsValue) (ss : List MdsSend) (x : MdsSend) → Stands m.servers m.mirrors m.calls ss → Stands m.servers m.mirrors m.calls (ss ++ x ∷ [])
  sends m ss x i = record { servers_are = i.servers_are; mirrors_are = i.mirrors_are; were = sent_more m.calls ss x i.were }

  called : (m : MdsValue) (call : AwaitedCall) (ss : List MdsSend) → Stands m.servers m.mirrors m.calls ss → Stands m.servers m.mirrors (with_call call m.calls) (ss ++ call.sent ∷ [])
  called m call ss i = record { servers_are = i.servers_are; mirrors_are = i.mirrors_are; were = sent_with m.calls ss call i.were }

  behind : (m : MdsValue) (file : FileId) (s : ServedFile) (step : FileStep) (ss : List MdsSend) → Stands m.servers m.mirrors m.calls ss → Stands (file_stepped m file s step).mds.servers (file_stepped m file s step).mds.mirrors (file_stepped m file s step).mds.calls ss
  behind m file s step ss i =
      let n : MdsValue = with_served (record m { fresh = drawn m.fresh step }) file (file_behind s step) in
      cond_both (list_any is_period_end step.entries) (record n { recalls = without_file file n.recalls }) n (λ (x : MdsValue). Stands x.servers x.mirrors x.calls ss) (λ end. i) (λ off. i)

  asked : (m : MdsValue) (file : FileId) (input : FileInput) (o : Option ServedFile) (ss : List MdsSend) → Stands m.servers m.mirrors m.calls ss → Stands (input_at m file input o).mds.servers (input_at m file input o).mds.mirrors (input_at m file input o).mds.calls ss
  asked m file input None ss i = i
  asked m file input (Some s) ss i =
      cond_both (has_fresh m.fresh) (file_stepped m file s (phase file s.file input m.fresh)) (sends_none m) (λ (x : MdsStep). Stands x.mds.servers x.mds.mirrors x.mds.calls ss) (λ fresh. behind m file s (phase file s.file input m.fresh) ss i) (λ off. i)

  cases : Cases IsSo HeardAny AnyCompound
  cases = record {
    wait = λ m es ss i file s at. record { reads_so = λ r inside. tt; write_so = λ w is. tt };
    quiet = λ m confirmed opens reclaimed recalls old es ss i. i;
    tables = λ m move is es ss i. i;
    notes = λ m e note es ss i. i;
    puts = λ m other s t at same holder seqid write waits es ss i. i;
    again_to = λ m file s client at its es ss i. i;
    grants = λ m file n client t from free was at es ss i. asked m file (AsksLayout n) (served m file) ss i;
    inputs = λ m other s input itself at fresh es ss i. behind m other s (phase other s.file input m.fresh) ss i;
    own_ends = λ m other s failures place bytes at fresh es ss i. behind m other s (phase other s.file (OwnEnds (failures_by_place failures s.file.layout.live) place bytes) m.fresh) ss i;
    timeouts = λ m other s xid at fresh es ss i. behind m other s (phase other s.file (TimesOut xid) m.fresh) ss i;
    hears = λ m other s call server own uid c replies heard caller sent out at fresh es ss i. behind m other s (phase other s.file (IsAnswer call.xid (own_answer c (replies c))) m.fresh) ss i;
    learns = λ m other s call server own uid c replies fileid shown heard caller sent named shows at fresh es ss i. behind m other s (phase other s.file (Sees (record { server = server; fileid = fileid }) shown.seen) m.fresh) ss i;
    makes = λ m name may es ss i. i;
    calls_file = λ m other s c at has its es ss i. called m (record { node = Server c.server; xid = m.next_xid; caller = ForFile other; sent = CallsServer c.server m.next_xid c.uid c.call }) ss i;
    calls_write = λ m other s w c at has waits its is_write es ss i.
        called m (record { node = Server c.id.server; xid = m.next_xid; caller = ForWrite other; sent = CallsServer c.id.server m.next_xid w.writer.cred c.call }) ss i;
    calls_read = λ m other s t server call at has same holder seqid write waits kept uid is_read es ss i.
        called m (record { node = Server server; xid = m.next_xid; caller = ForRead other; sent = CallsServer server m.next_xid 0 call }) ss i;
    calls_back = λ m node back other stateid has es ss i. called m (record { node = node; xid = m.next_xid; caller = ForRecall; sent = CallsBack m.next_xid back other stateid }) ss i;
    skips = λ m has es ss i. i;
    forgets = λ m test es ss i. record { servers_are = i.servers_are; mirrors_are = i.mirrors_are; were = sent_kept test m.calls ss i.were };
    was = λ m es ss i. i.were;
    again = λ m s es ss i inside. sends m ss s i;
  }

  runs : RunCases IsSo AnyCompound
  runs = record {
    replies = λ m node xid results es ss i. sends m ss (Replies node (success_reply xid results)) i;
    returns = λ m file s n cred errors at fresh es ss i. behind m file s (phase file s.file (Returns n cred (report_of errors s.file.layout.live)) m.fresh) ss i;
    confirms = λ m client node es ss i. i;
    destroys = λ m session es ss i. i;
    finishes = λ m pass bytes es ss i. i;
    any = λ c. tt;
  }

-- behind each run of a new server
pub setup_stays : (servers : List AddressValue) (mirrors : ℕ) (events : List MdsEvent) → ((mds_run servers mirrors events).mds.servers ≡ servers) × ((mds_run servers mirrors events).mds.mirrors ≡ mirrors)
setup_stays servers mirrors events =
    let so : Stands servers mirrors (mds_run servers mirrors events).mds.servers (mds_run servers mirrors events).mds.mirrors (mds_run servers mirrors events).mds.calls (mds_run servers mirrors events).sends =
    run_walk (IsSo servers mirrors) AnyCompound (cases servers mirrors) (runs servers mirrors) (λ m node bytes reply is es ss i. sends servers mirrors m ss (Answers node bytes) i) (λ n request now es ss i. i) events (new_mds servers mirrors) [] []
    (record { servers_are = refl; mirrors_are = refl; were = λ call inside. absurd inside }) in
    (so.servers_are, so.mirrors_are)
