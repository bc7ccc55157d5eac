-- The calls that were sent and are not answered are in the order of their numbers, in every run.
use Rattle.std.proofs.Common.{arith, ◌≡◌, ◌≢◌, ◌<◌, ◌≤◌, ℕ, Bool, true, false, cond, List, [], ◌∷◌, sym, subst, inl, inr, ◌⊎◌, filter}
use Rattle.std.specs.Prelude.{◌==◌, not, nat_lt, if◌then◌else◌}
use Rattle.std.specs.List.{list_any}
use Rattle.std.proofs.lemmas.Bool.{cond_both, eqb-true, eqb-false, ltb-true, ltb-false}
use Rattle.cluster_model.specs.Members.{IsOneOf}
use Rattle.cluster_model.specs.declared.entry.Entry.{Entry}
use Rattle.cluster_model.specs.declared.ids.FileId.{FileId}
use Rattle.cluster_model.specs.declared.ids.NodeId.{NodeId}
use Rattle.cluster_model.specs.Phases.{holder_of}
use Rattle.layout_report.specs.Reports.{report_of}
use Rattle.file_rule.specs.MdsFiles.{FileStep}
use Rattle.file_rule.specs.FilePhases.{OwnWrite, TimesOut, Answers, AsksLayout, Returns, phase}
use Rattle.mds_rows.specs.Draws.{drawn}
use Rattle.recall.specs.Recalls.{without_file}
use Rattle.mds_rule.specs.MdsStates.{ServedFile, MdsSend, AwaitedCall, MdsValue, with_call, is_call_to, with_served}
use Rattle.mds_rule.specs.ServedFiles.{is_period_end, file_behind, file_stepped}
use Rattle.mds_rule.specs.LayoutOps.{client_number}
use Rattle.mds_rule.specs.Answers.{is_awaited, own_answer}
use Rattle.mds_walk.proofs.Parts.{HeardAny, heard_by, end_input, without_write, Parts, Calls, KeepsBegin, AnyCompound, any_wait, RunParts, GivesAnswers, OutParts, EventParts}
use Rattle.mds_walk.proofs.Lists.{in_with_call, in_filtered}
use Rattle.mds_walk.proofs.TableKept.{Table, table_parts, table_calls, table_runs, table_answers, table_outs}

abbrev pub CallsRise : List AwaitedCall → Type 0
CallsRise [] = Unit {0}
CallsRise (c ∷ calls) = ((x : AwaitedCall) → IsOneOf x calls → c.xid < x.xid) × CallsRise calls

-- those that pass a test
pub filter_rises : (test : AwaitedCall → Bool) (calls : List AwaitedCall) → CallsRise calls → CallsRise (filter test calls)
filter_rises test [] rise = tt
filter_rises test (c ∷ calls) rise = by_test (test c) (filter_rises test calls rise.1)
  where
    by_test : (b : Bool) → CallsRise (filter test calls) → CallsRise (cond b (c ∷ filter test calls) (filter test calls))
    by_test true rest = ((λ x inside. rise.0 x (in_filtered test x calls inside)), rest)
    by_test false rest = rest

-- with a new one
called_rises : (call : AwaitedCall) (calls : List AwaitedCall) → CallsRise calls → CallsRise (with_call call calls)
called_rises call [] rise = ((λ x inside. absurd inside), tt)
called_rises call (c ∷ calls) rise =
    cond_both (nat_lt call.xid c.xid) (call ∷ c ∷ calls) (if call.xid == c.xid then call ∷ calls else c ∷ with_call call calls) CallsRise
    (λ below. ((λ x inside. first (ltb-true call.xid c.xid below) x inside), rise))
    (λ off.
    cond_both (call.xid == c.xid) (call ∷ calls) (c ∷ with_call call calls) CallsRise
    (λ same. ((λ x inside. subst (λ (n : ℕ). n < x.xid) (sym (eqb-true call.xid c.xid same)) (rise.0 x inside)), rise.1))
    (λ other. ((λ x inside. behind (ltb-false call.xid c.xid off) (eqb-false call.xid c.xid other) x (in_with_call x call calls inside)), called_rises call calls rise.1)))
  where
    first : call.xid < c.xid → (x : AwaitedCall) → IsOneOf x (c ∷ calls) → call.xid < x.xid
    first below x (inl same) = subst (λ (y : AwaitedCall). call.xid < y.xid) (sym same) below
    first below x (inr inside) = let up : c.xid < x.xid = rise.0 x inside in omega (arith, below, up)

    behind : c.xid ≤ call.xid → call.xid ≢ c.xid → (x : AwaitedCall) → IsOneOf x calls ⊎ (x ≡ call) → c.xid < x.xid
    behind up other x (inl was) = rise.0 x was
    behind up other x (inr new) = subst (λ (y : AwaitedCall). c.xid < y.xid) (sym new) (omega (arith, up, other))

-- ---- through the walk

abbrev pub Rising : MdsValue → List Entry → List MdsSend → Type 0
Rising m es ss = Table m es ss × CallsRise m.calls

stepped_rises : (m : MdsValue) (file : FileId) (s : ServedFile) (step : FileStep) → CallsRise m.calls → CallsRise (file_stepped m file s step).mds.calls
stepped_rises m file s step rise =
    let n : MdsValue = with_served (record m { fresh = drawn m.fresh step }) file (file_behind s step) in
    cond_both (list_any is_period_end step.entries) (record n { recalls = without_file file n.recalls }) n (λ (x : MdsValue). CallsRise x.calls) (λ end. rise) (λ other. rise)

pub rising_parts : Parts Rising HeardAny AnyCompound
rising_parts = record {
  wait = λ m es ss j file s there. any_wait s.reads s.write;
  opens = λ m client file es ss j. j;
  closes = λ m client file es ss j. j;
  reclaims = λ m client es ss j. j;
  gone = λ m client es ss j. j;
  tables = λ m move no es ss j. j;
  asks_recall = λ m file s n recalled client now there held off es ss j. j;
  times_recall = λ m xid out es ss j. j;
  ticks_recalls = λ m now es ss j. j;
  later = λ m file p es ss j. j;
  sizes = λ m file s server fileid size there es ss j. j;
  gives_again = λ m file s client there its es ss j. j;
  grants = λ m file s client n from there free left fresh es ss j. (table_parts.grants m file s client n from there free left fresh es ss j.0, stepped_rises m file s (phase file s.file (AsksLayout n) m.fresh) j.1);
  grants_alone = λ m file s client n from there free left spent es ss j. j;
  inputs = λ m file s input unasked there fresh es ss j. (table_parts.inputs m file s input unasked there fresh es ss j.0, stepped_rises m file s (phase file s.file input m.fresh) j.1);
  timeouts = λ m file s node xid out there fresh es ss j. (table_parts.timeouts m file s node xid out there fresh es ss j.0, stepped_rises m file s (phase file s.file (TimesOut xid) m.fresh) j.1);
  learns = λ m file s call server own uid c replies fileid shown heard caller sent named shows there fresh es ss j. j;
  begins_read = λ m file s c at count any there es ss j. j;
  times_read = λ m file s xid place r at on es ss j. j;
  loses_read = λ m file s xid place r e at over es ss j. j;
  begins_write = λ m file s c at bytes any there can fresh es ss j. (table_parts.begins_write m file s c at bytes any there can fresh es ss j.0, stepped_rises m file s (phase file s.file (OwnWrite at bytes) m.fresh) j.1);
  begins_alone = λ m file s c at bytes any there can spent es ss j. j;
  times_write = λ m file s w xid there waits out es ss j. j;
  ends_write = λ m file s w places there waits over fresh es ss j. (table_parts.ends_write m file s w places there waits over fresh es ss j.0, stepped_rises (with_served m file (without_write s)) file (without_write s) (phase file s.file (end_input s w) m.fresh) j.1);
  drops_write = λ m file s w places there waits over spent es ss j. j;
  makes = λ m name may es ss j. j;
}

pub rising_runs : RunParts Rising
rising_runs = record {
  confirmed = λ m client node es ss j. j;
  destroys = λ m session es ss j. j;
  returns = λ m file s errors there fresh es ss j. (table_runs.returns m file s errors there fresh es ss j.0, stepped_rises m file s (phase file s.file (Returns (client_number (holder_of s.file.layout.phase)) s.file.layout.cred (report_of errors s.file.layout.live)) m.fresh) j.1);
  replies = λ m node xid bytes es ss j. (table_runs.replies m node xid bytes es ss j.0, j.1);
  finishes = λ m pass bytes es ss j. j;
}

pub rising_answers : GivesAnswers Rising
rising_answers m node bytes reply is es ss j = (table_answers m node bytes reply is es ss j.0, j.1)

without_rises : (node : NodeId) (xid : ℕ) (m : MdsValue) → CallsRise m.calls → CallsRise (heard_by node xid m).calls
without_rises node xid m rise = filter_rises (λ (call : AwaitedCall). not (is_call_to node xid call)) m.calls rise

pub rising_calls : Calls Rising HeardAny
rising_calls = record {
  fits = λ m es ss j call inside. inl (j.0.waiters call inside);
  hears = λ m node xid file s call c replies heard its there out fresh es ss j. (table_calls.hears m node xid file s call c replies heard its there out fresh es ss j.0, stepped_rises (heard_by node xid m) file s (phase file s.file (Answers xid (own_answer c (replies c))) m.fresh) (without_rises node xid m j.1));
  unheard = λ m node xid file s call c its there spent es ss j. (table_calls.unheard m node xid file s call c its there spent es ss j.0, without_rises node xid m j.1);
  hears_read = λ m node xid file s call c replies place r heard its at on es ss j. (table_calls.hears_read m node xid file s call c replies place r heard its at on es ss j.0, without_rises node xid m j.1);
  ends_read = λ m node xid file s call c replies place r e heard its at over es ss j. (table_calls.ends_read m node xid file s call c replies place r e heard its at over es ss j.0, without_rises node xid m j.1);
  hears_write = λ m node xid file s w call c replies heard its there waits out es ss j. (table_calls.hears_write m node xid file s w call c replies heard its there waits out es ss j.0, without_rises node xid m j.1);
  hears_recall = λ m node xid status call found its out es ss j. (table_calls.hears_recall m node xid status call found its out es ss j.0, without_rises node xid m j.1);
  leaves = λ m node xid call inside its off es ss j. (table_calls.leaves m node xid call inside its off es ss j.0, without_rises node xid m j.1);
  forgets = λ m es ss j. (table_calls.forgets m es ss j.0, filter_rises (is_awaited m) m.calls j.1);
  late = λ m call inside is es ss j. j;
  again = λ m call inside is es ss j. (table_calls.again m call inside is es ss j.0, j.1);
}

pub rising_outs : OutParts Rising
rising_outs = record {
  calls_file = λ m file s out there has idle its es ss j. (table_outs.calls_file m file s out there has idle its es ss j.0, called_rises _ m.calls j.1);
  calls_write = λ m file s w out there has waits its es ss j. (table_outs.calls_write m file s w out there has waits its es ss j.0, called_rises _ m.calls j.1);
  calls_read = λ m file s place r out there has at its es ss j. (table_outs.calls_read m file s place r out there has at its es ss j.0, called_rises _ m.calls j.1);
  calls_back = λ m sent session has its es ss j. (table_outs.calls_back m sent session has its es ss j.0, called_rises _ m.calls j.1);
  skips = λ m sent has its es ss j. (table_outs.skips m sent has its es ss j.0, j.1);
  back = λ m client es ss j. j;
  repeats = λ m server xid call found es ss j. (table_outs.repeats m server xid call found es ss j.0, j.1);
}

pub rising_begins : KeepsBegin Rising
rising_begins m request now es ss j = j

pub rising_whole : EventParts Rising HeardAny AnyCompound
rising_whole = record { parts = rising_parts; runs = rising_runs; any = λ c. tt; answers = rising_answers; calls = rising_calls; outs = rising_outs; begins = rising_begins }
