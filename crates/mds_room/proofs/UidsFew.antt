-- In each run the uids that were drawn are no more than its entries and its files, and names are drawn with uids, four at most with each.
use Rattle.std.proofs.Common.{◌≡◌, ◌≤◌, ◌<◌, ℕ, zero, suc, ◌+◌, ◌-◌, ◌*◌, Bool, true, false, List, [], ◌∷◌, ◌++◌, length, Option, Some, None, refl, sym, ap, subst, arith, append-nil, length-append}
use Rattle.std.specs.Prelude.{◌^◌, ◌&&◌, map, nat_lt, slice_get, slice_set}
use Rattle.std.specs.List.{list_any, range_with_len}
use Rattle.std.proofs.lemmas.Bool.{cond_both, lt-ltb}
use Rattle.std.proofs.lemmas.List.{length-map}
use Rattle.std.proofs.lemmas.Option.{same_Some, none-some}
use Rattle.compound_reply.specs.Replied.{success_reply}
use Rattle.cluster_model.specs.declared.ids.NodeId.TheVariants.{Server}
use Rattle.cluster_model.specs.declared.ids.FileId.{FileId}
use Rattle.cluster_model.specs.declared.entry.Entry.{Entry}
use Rattle.device_addr.specs.Universal.{AddressValue}
use Rattle.cluster_model.specs.declared.call_stage.CallStage.TheVariants.{Waits}
use Rattle.file_rule.specs.declared.creation.Creation.{Creation}
use Rattle.file_rule.specs.declared.fresh.Fresh.{Fresh}
use Rattle.file_rule.specs.MdsFiles.{FileStep}
use Rattle.file_rule.specs.FilePhases.{FileInput, AsksLayout, Returns, OwnEnds, Answers as IsAnswer, TimesOut, Sees, creations_at, new_mds_file, end_of_uids, phase}
use Rattle.cluster_laws.proofs.FewMirrors.{FileHasFew}
use Rattle.cluster_laws.proofs.FewSteps.{StepIsFew, phase_few, OutFew, out_few}
use Rattle.mds_rows.specs.Draws.{drawn}
use Rattle.recall.specs.Recalls.{without_file}
use Rattle.layout_report.specs.Reports.{report_of}
use Rattle.mds_rule.specs.Answers.{own_answer, failures_by_place}
use Rattle.mds_rule.specs.MdsStates.{ServedFile, MdsSend, CallsServer, CallsBack, Replies, Answers, AwaitedCall, MdsValue, MdsStep, sends_none, with_call, served, with_served, new_mds}
use Rattle.mds_rule.specs.declared.waiter.Waiter.TheVariants.{ForFile, ForRead, ForWrite, ForRecall}
use Rattle.mds_rule.specs.ServedFiles.{has_fresh, is_period_end, file_behind, file_stepped, input_at, takes_input}
use Rattle.mds_rule.specs.FileOps.{nth_server, servers_of, new_served, with_new_file, may_make}
use Rattle.mds_rule.specs.LayoutOps.{with_holder}
use Rattle.mds_walk.specs.MdsRuns.{MdsEvent, mds_run}
use Rattle.mds_walk.proofs.Lists.{AllOf, all_push, all_set}
use Rattle.mds_walk.proofs.Parts.{HeardAny, AnyCompound}
use Rattle.mds_laws.proofs.Numbers.{WereSent, sent_more, sent_with, sent_kept}
use Rattle.mds_replies.proofs.HoldersHold.{at_file}
use Rattle.mds_replies.proofs.HolderCases.{Cases, RunCases}
use Rattle.mds_replies.proofs.GoesWalk.{run_walk}
use Rattle.mds_replies.proofs.PeriodKept.{at_place}
use Rattle.mds_room.specs.Room.{RunsHaveRoom, ShortRunsHaveRoom}
use Rattle.mds_room.proofs.DrawsPaid.{weight, Paid, phase_paid, out_weighs}
use Rattle.mds_room.proofs.RoomRuns.{few_files}

-- ---- what the files may draw yet

abbrev heavy : List ServedFile → ℕ
heavy [] = 0
heavy (s ∷ files) = weight s.file + heavy files

heavy_push : (files : List ServedFile) (s : ServedFile) → heavy (files ++ s ∷ []) ≡ heavy files + weight s.file
heavy_push [] s = omega arith
heavy_push (x ∷ files) s = let rest = heavy_push files s in omega (arith, rest)

heavy_set : (files : List ServedFile) (place : ℕ) (s t : ServedFile) → slice_get files place ≡ Some s → heavy (slice_set files place t) + weight s.file ≡ heavy files + weight t.file
heavy_set [] place s t at = absurd (none-some s at)
heavy_set (x ∷ files) zero s t at = let same = ap (λ (y : ServedFile). weight y.file) (same_Some x s at) in omega (arith, same)
heavy_set (x ∷ files) (suc place) s t at = let rest = heavy_set files place s t at in omega (arith, rest)

set_count : (files : List ServedFile) (place : ℕ) (t : ServedFile) → length (slice_set files place t) ≡ length files
set_count [] place t = refl
set_count (x ∷ files) zero t = refl
set_count (x ∷ files) (suc place) t = ap suc (set_count files place t)

abbrev Few : ServedFile → Type 0
Few s = FileHasFew s.file

-- a step of a file draws names only with a uid
names_by : (uids names : ℕ) → (uids ≡ 0 → names ≡ 0) → names ≤ 4 → names ≤ 4 * uids
names_by zero names none few = let is : names ≡ 0 = none refl in omega (arith, is)
names_by (suc n) names none few = omega (arith, few)

so_many : (f : ℕ → ℕ) (start k : ℕ) → length (map f (range_with_len start k)) ≡ k
so_many f start zero = refl
so_many f start (suc k) = let more = so_many f (start + 1) k in omega (arith, more)

new_few : (fresh : Fresh) (servers mirrors place : ℕ) → mirrors ≤ 4 → FileHasFew (new_mds_file fresh (servers_of servers mirrors place))
new_few fresh servers mirrors place limit =
    let chosen : List ℕ = servers_of servers mirrors place in
    let all : length chosen ≡ mirrors = so_many (nth_server servers place) 0 mirrors in
    let same : length (creations_at fresh.name chosen) ≡ length chosen = length-map {B = Creation} chosen (λ n. record { server = n; name = fresh.name; stage = Waits; made = None }) in
    record { mirrors = record { few_wanted = omega (arith, limit, all); few_live = omega arith }; room = omega (arith, limit, all, same) }

pub record Stands (mirrors uid name : ℕ) (files : List ServedFile) (calls : List AwaitedCall) (entries : ℕ) (ss : List MdsSend) : Type 0 where
  pub limit : mirrors ≤ 4
  pub uids : uid + heavy files ≤ 65536 + entries + length files
  pub names : name ≤ 4 * uid
  pub count : length files ≤ 4096
  pub few : AllOf Few files
  pub were : WereSent calls ss

abbrev pub IsSo : MdsValue → List Entry → List MdsSend → Type 0
IsSo m es ss = Stands m.mirrors m.fresh.uid m.fresh.name m.files m.calls (length es) ss

sends : (m : MdsValue) (entries : ℕ) (ss : List MdsSend) (s : MdsSend) → Stands m.mirrors m.fresh.uid m.fresh.name m.files m.calls entries ss → Stands m.mirrors m.fresh.uid m.fresh.name m.files m.calls entries (ss ++ s ∷ [])
sends m entries ss s i = record { limit = i.limit; uids = i.uids; names = i.names; count = i.count; few = i.few; were = sent_more m.calls ss s i.were }

-- a file is put back that weighs the same
put : (m : MdsValue) (file : FileId) (s t : ServedFile) (calls : List AwaitedCall) (entries : ℕ) (ss ts : List MdsSend) → served m file ≡ Some s → weight t.file ≡ weight s.file → Few t → WereSent calls ts
    → Stands m.mirrors m.fresh.uid m.fresh.name m.files m.calls entries ss → Stands m.mirrors m.fresh.uid m.fresh.name (slice_set m.files (file.0 - 1) t) calls entries ts
put m file s t calls entries ss ts at same few were i =
    let sum : heavy (slice_set m.files (file.0 - 1) t) + weight s.file ≡ heavy m.files + weight t.file = heavy_set m.files (file.0 - 1) s t (at_place m.files file s at).1 in
    let many : length (slice_set m.files (file.0 - 1) t) ≡ length m.files = set_count m.files (file.0 - 1) t in
    let was : m.fresh.uid + heavy m.files ≤ 65536 + entries + length m.files = i.uids in
    let held : length m.files ≤ 4096 = i.count in
    record { limit = i.limit; uids = omega (arith, sum, many, was, same); names = i.names; count = omega (arith, many, held); few = all_set Few m.files (file.0 - 1) t i.few few; were = were }

puts : (m : MdsValue) (file : FileId) (s t : ServedFile) (calls : List AwaitedCall) (entries : ℕ) (ss ts : List MdsSend) → served m file ≡ Some s → t.file ≡ s.file → WereSent calls ts → Stands m.mirrors m.fresh.uid m.fresh.name m.files m.calls entries ss
    → Stands m.mirrors m.fresh.uid m.fresh.name (slice_set m.files (file.0 - 1) t) calls entries ts
puts m file s t calls entries ss ts at same were i = put m file s t calls entries ss ts at (ap weight same) (subst FileHasFew (sym same) (at_file Few m file s at i.few)) were i

inputs : (m : MdsValue) (file : FileId) (s : ServedFile) (input : FileInput) → served m file ≡ Some s → (es : List Entry) (ss : List MdsSend) → IsSo m es ss
    → IsSo (file_stepped m file s (phase file s.file input m.fresh)).mds (es ++ (phase file s.file input m.fresh).entries) ss
inputs m file s input at es ss i =
    let step : FileStep = phase file s.file input m.fresh in
    let t : ServedFile = file_behind s step in
    let x : MdsValue = with_served (record m { fresh = drawn m.fresh step }) file t in
    let paid : Paid (weight s.file) step = phase_paid file m.fresh s.file input in
    let few : StepIsFew step.file step.uids step.names = phase_few file m.fresh s.file input (at_file Few m file s at i.few) in
    let pays : step.uids + weight step.file ≤ weight s.file + length step.entries = paid.pays in
    let names : step.names ≤ 4 * step.uids = names_by step.uids step.names paid.names few.few_names in
    let sum : heavy (slice_set m.files (file.0 - 1) t) + weight s.file ≡ heavy m.files + weight t.file = heavy_set m.files (file.0 - 1) s t (at_place m.files file s at).1 in
    let many : length (slice_set m.files (file.0 - 1) t) ≡ length m.files = set_count m.files (file.0 - 1) t in
    let more : length (es ++ step.entries) ≡ length es + length step.entries = length-append es step.entries in
    let was : m.fresh.uid + heavy m.files ≤ 65536 + length es + length m.files = i.uids in
    let named : m.fresh.name ≤ 4 * m.fresh.uid = i.names in
    let held : length m.files ≤ 4096 = i.count in
    let new : Stands x.mirrors x.fresh.uid x.fresh.name x.files x.calls (length (es ++ step.entries)) ss = record {
      limit = i.limit;
      uids = omega (arith, pays, sum, many, more, was);
      names = omega (arith, names, named);
      count = omega (arith, many, held);
      few = all_set Few m.files (file.0 - 1) t i.few few.file;
      were = i.were;
    } in
    cond_both (list_any is_period_end step.entries) (record x { recalls = without_file file x.recalls }) x (λ (y : MdsValue). Stands y.mirrors y.fresh.uid y.fresh.name y.files y.calls (length (es ++ step.entries)) ss) (λ end. new) (λ off. new)

asked : (m : MdsValue) (file : FileId) (client : ℕ) (o : Option ServedFile) → served m file ≡ o → (es : List Entry) (ss : List MdsSend) → IsSo m es ss
    → IsSo (input_at m file (AsksLayout client) o).mds (es ++ (input_at m file (AsksLayout client) o).entries) ss
asked m file client None at es ss i = none_more m es ss i
  where
    none_more : (n : MdsValue) (fs : List Entry) (ts : List MdsSend) → IsSo n fs ts → IsSo n (fs ++ []) ts
    none_more n fs ts j = subst (λ (l : List Entry). IsSo n l ts) (sym (append-nil fs)) j
asked m file client (Some s) at es ss i =
    cond_both (has_fresh m.fresh) (file_stepped m file s (phase file s.file (AsksLayout client) m.fresh)) (sends_none m) (λ (x : MdsStep). IsSo x.mds (es ++ x.entries) ss) (λ fresh. inputs m file s (AsksLayout client) at es ss i)
    (λ off. subst (λ (l : List Entry). IsSo m l ss) (sym (append-nil es)) i)

grants : (m : MdsValue) (file : FileId) (client holder : ℕ) (t : ServedFile) → served (takes_input m file (AsksLayout client)).mds file ≡ Some t → (es : List Entry) (ss : List MdsSend) → IsSo m es ss
    → IsSo (with_served (takes_input m file (AsksLayout client)).mds file (with_holder holder false t)) (es ++ (takes_input m file (AsksLayout client)).entries) ss
grants m file client holder t at es ss i =
    let x : MdsValue = (takes_input m file (AsksLayout client)).mds in
    let b : IsSo x (es ++ (takes_input m file (AsksLayout client)).entries) ss = asked m file client (served m file) refl es ss i in
    puts x file t (with_holder holder false t) x.calls (length (es ++ (takes_input m file (AsksLayout client)).entries)) ss ss at refl b.were b

makes : (m : MdsValue) (name : List ℕ) → may_make m ≡ true → (es : List Entry) (ss : List MdsSend) → IsSo m es ss → IsSo (with_new_file m name) es ss
makes m name may es ss i =
    let was : m.fresh.uid + heavy m.files ≤ 65536 + length es + length m.files = i.uids in
    let named : m.fresh.name ≤ 4 * m.fresh.uid = i.names in
    let less : length m.files < 4096 = few_files m may in
    let sum : heavy (m.files ++ new ∷ []) ≡ heavy m.files + 0 = heavy_push m.files new in
    let many : length (m.files ++ new ∷ []) ≡ length m.files + 1 = length-append m.files (new ∷ []) in
    record { limit = i.limit; uids = omega (arith, was, sum, many); names = omega (arith, named); count = omega (arith, less, many); few = all_push Few m.files new i.few few_so; were = i.were }
  where
    new : ServedFile
    new = new_served name (new_mds_file m.fresh (servers_of (length m.servers) m.mirrors (length m.files + 1)))

    few_so : FileHasFew (new_mds_file m.fresh (servers_of (length m.servers) m.mirrors (length m.files + 1)))
    few_so = new_few m.fresh (length m.servers) m.mirrors (length m.files + 1) i.limit

-- where no entry is made
quiet_so : (mirrors uid name : ℕ) (files : List ServedFile) (calls : List AwaitedCall) (es : List Entry) (ss : List MdsSend) → Stands mirrors uid name files calls (length es) ss → Stands mirrors uid name files calls (length (es ++ [])) ss
quiet_so mirrors uid name files calls es ss i = subst (λ (l : List Entry). Stands mirrors uid name files calls (length l) ss) (sym (append-nil es)) i

noted : (m : MdsValue) (e : Entry) (es : List Entry) (ss : List MdsSend) → IsSo m es ss → IsSo m (es ++ e ∷ []) ss
noted m e es ss i =
    let more : length (es ++ e ∷ []) ≡ length es + 1 = length-append es (e ∷ []) in
    let was : m.fresh.uid + heavy m.files ≤ 65536 + length es + length m.files = i.uids in
    record { limit = i.limit; uids = omega (arith, more, was); names = i.names; count = i.count; few = i.few; were = i.were }

cases : Cases IsSo HeardAny AnyCompound
cases = record {
  wait = λ m es ss i file s at. record { reads_so = λ r inside. tt; write_so = λ w is. tt };
  quiet = λ m confirmed opens reclaimed recalls old es ss i. i;
  tables = λ m move is es ss i. i;
  notes = λ m e note es ss i. noted m e es ss i;
  puts = λ m file s t at same holder seqid write waits es ss i. puts m file s t m.calls (length es) ss ss at same i.were i;
  again_to = λ m file s client at its es ss i. puts m file s (with_holder client true s) m.calls (length es) ss ss at refl i.were i;
  grants = λ m file client holder t from free was at es ss i. grants m file client holder t at es ss i;
  inputs = λ m file s input itself at fresh es ss i. inputs m file s input at es ss i;
  own_ends = λ m file s failures place bytes at fresh es ss i. inputs m file s (OwnEnds (failures_by_place failures s.file.layout.live) place bytes) at es ss i;
  timeouts = λ m file s xid at fresh es ss i. inputs m file s (TimesOut xid) at es ss i;
  hears = λ m file s call server own uid c replies heard caller sent out at fresh es ss i. inputs m file s (IsAnswer call.xid (own_answer c (replies c))) at es ss i;
  learns = λ m file s call server own uid c replies fileid shown heard caller sent named shows at fresh es ss i. inputs m file s (Sees (record { server = server; fileid = fileid }) shown.seen) at es ss i;
  makes = λ m name may. makes m name may;
  calls_file = λ m file s c at has its es ss i.
      let call : AwaitedCall = record { node = Server c.server; xid = m.next_xid; caller = ForFile file; sent = CallsServer c.server m.next_xid c.uid c.call } in
      let few : FileHasFew s.file = at_file Few m file s at i.few in
      quiet_so m.mirrors m.fresh.uid m.fresh.name (slice_set m.files (file.0 - 1) (record s { file = c.file })) (with_call call m.calls) es (ss ++ call.sent ∷ [])
      (put m file s (record s { file = c.file }) (with_call call m.calls) (length es) ss (ss ++ call.sent ∷ []) at (out_weighs s.file m.next_xid c its) (subst (OutFew s.file few) its (out_few s.file few m.next_xid s.file.activity few.room))
      (sent_with m.calls ss call i.were) i);
  calls_write = λ m file s w c at has waits its is_write es ss i.
      let call : AwaitedCall = record { node = Server c.id.server; xid = m.next_xid; caller = ForWrite file; sent = CallsServer c.id.server m.next_xid w.writer.cred c.call } in
      quiet_so m.mirrors m.fresh.uid m.fresh.name (slice_set m.files (file.0 - 1) (record s { write = Some (record w { writer = c.writer }) })) (with_call call m.calls) es (ss ++ call.sent ∷ [])
      (puts m file s (record s { write = Some (record w { writer = c.writer }) }) (with_call call m.calls) (length es) ss (ss ++ call.sent ∷ []) at refl (sent_with m.calls ss call i.were) i);
  calls_read = λ m file s t server call at has same holder seqid write waits kept uid is_read es ss i.
      let out : AwaitedCall = record { node = Server server; xid = m.next_xid; caller = ForRead file; sent = CallsServer server m.next_xid 0 call } in
      quiet_so m.mirrors m.fresh.uid m.fresh.name (slice_set m.files (file.0 - 1) t) (with_call out m.calls) es (ss ++ out.sent ∷ [])
      (puts m file s t (with_call out m.calls) (length es) ss (ss ++ out.sent ∷ []) at same (sent_with m.calls ss out i.were) i);
  calls_back = λ m node back file stateid has es ss i.
      let call : AwaitedCall = record { node = node; xid = m.next_xid; caller = ForRecall; sent = CallsBack m.next_xid back file stateid } in
      quiet_so m.mirrors m.fresh.uid m.fresh.name m.files (with_call call m.calls) es (ss ++ call.sent ∷ [])
      (record { limit = i.limit; uids = i.uids; names = i.names; count = i.count; few = i.few; were = sent_with m.calls ss call i.were });
  skips = λ m has es ss i. i;
  forgets = λ m test es ss i. record { limit = i.limit; uids = i.uids; names = i.names; count = i.count; few = i.few; were = sent_kept test m.calls ss i.were };
  was = λ m es ss i. i.were;
  again = λ m s es ss i inside. sends m (length es) ss s i;
}

runs : RunCases IsSo AnyCompound
runs = record {
  replies = λ m node xid results es ss i. sends m (length es) ss (Replies node (success_reply xid results)) i;
  returns = λ m file s client cred errors at fresh es ss i. inputs m file s (Returns client cred (report_of errors s.file.layout.live)) at es ss i;
  confirms = λ m client node es ss i. i;
  destroys = λ m session es ss i. i;
  finishes = λ m pass bytes es ss i. i;
  any = λ c. tt;
}

-- behind each run of a new server
pub uids_few : (servers : List AddressValue) (mirrors : ℕ) (events : List MdsEvent) → mirrors ≤ 4 → IsSo (mds_run servers mirrors events).mds (mds_run servers mirrors events).entries (mds_run servers mirrors events).sends
uids_few servers mirrors events few =
    run_walk IsSo AnyCompound cases runs (λ x node bytes reply is fs ts j. sends x (length fs) ts (Answers node bytes) j) (λ x request now fs ts j. j) events (new_mds servers mirrors) [] []
    (record { limit = few; uids = omega arith; names = omega arith; count = omega arith; few = tt; were = λ call inside. absurd inside })

-- ---- what is left then

has_left : (fresh : Fresh) → fresh.uid < end_of_uids → fresh.name + 4 < 2 ^ 64 → has_fresh fresh ≡ true
has_left fresh uids names = both (nat_lt fresh.uid end_of_uids) (nat_lt (fresh.name + 4) (2 ^ 64)) (lt-ltb fresh.uid end_of_uids uids) (lt-ltb (fresh.name + 4) (2 ^ 64) names)
  where
    both : (a b : Bool) → a ≡ true → b ≡ true → (a && b) ≡ true
    both true b first second = second
    both false b first second = absurd cc

pub short_runs : RunsHaveRoom → ShortRunsHaveRoom
short_runs room servers mirrors events few many heard short told =
    let m : MdsValue = (mds_run servers mirrors events).mds in
    let so : IsSo m (mds_run servers mirrors events).entries (mds_run servers mirrors events).sends = uids_few servers mirrors events few in
    let uids : m.fresh.uid + heavy m.files ≤ 65536 + length (mds_run servers mirrors events).entries + length m.files = so.uids in
    let names : m.fresh.name ≤ 4 * m.fresh.uid = so.names in
    let count : length m.files ≤ 4096 = so.count in
    let less : length (mds_run servers mirrors events).entries ≤ 4000000000 = short in
    room servers mirrors events few many heard told (has_left m.fresh (omega (arith, uids, count, less)) (omega (arith, uids, names, count, less)))
