-- The table of the calls that were sent, through every part of every event.
use Rattle.std.proofs.Common.{arith, ◌≡◌, ◌<◌, ℕ, ◌+◌, Bool, true, List, [], ◌∷◌, ◌++◌, refl, sym, ap, subst, ◌∙◌, inl, inr, ◌⊎◌, filter}
use Rattle.std.specs.Prelude.{not, ◌==◌}
use Rattle.std.specs.List.{list_any}
use Rattle.std.proofs.lemmas.Bool.{cond_both}
use Rattle.device_addr.specs.Universal.{AddressValue}
use Rattle.cluster_model.specs.Members.{IsOneOf}
use Rattle.cluster_model.specs.declared.ids.NodeId.{NodeId}
use Rattle.cluster_model.specs.declared.ids.FileId.{FileId}
use Rattle.cluster_model.specs.declared.entry.Entry.{Entry}
use Rattle.file_rule.specs.MdsFiles.{FileStep}
use Rattle.file_rule.specs.FilePhases.{OwnWrite, TimesOut, Answers, phase, AsksLayout, Returns}
use Rattle.mds_rows.specs.Draws.{drawn}
use Rattle.recall.specs.Recalls.{without_file}
use Rattle.mds_rule.specs.MdsStates.{ServedFile, MdsSend, AwaitedCall, MdsValue, with_call, is_call_to, with_served, new_mds}
use Rattle.mds_rule.specs.declared.waiter.Waiter.{Waiter}
use Rattle.mds_rule.specs.ServedFiles.{is_period_end, file_behind, file_stepped}
use Rattle.mds_rule.specs.Answers.{is_awaited, own_answer}
use Rattle.mds_rule.specs.Goes.{xid_after, calls_as, has_xids}
use Rattle.mds_walk.specs.MdsRuns.{MdsEvent, mds_run}
use Rattle.mds_walk.specs.CallTables.{IsSentFor, TableStands}
use Rattle.mds_walk.proofs.Parts.{HeardAny, heard_by, end_input, without_write, Parts, Calls, KeepsBegin, AnyCompound, any_wait, RunParts, GivesAnswers, OutParts, EventParts}
use Rattle.mds_walk.proofs.Lists.{in_more, in_last, in_with_call, in_filtered}
use Rattle.mds_walk.proofs.EventWalk.{in_each_run}
use Rattle.mds_rule.specs.LayoutOps.{client_number}
use Rattle.cluster_model.specs.Phases.{holder_of}
use Rattle.layout_report.specs.Reports.{report_of}

-- the calls, the next number and what was sent
pub record IsTable (calls : List AwaitedCall) (next : ℕ) (ss : List MdsSend) : Type 0 where
  pub sent : (call : AwaitedCall) → IsOneOf call calls → IsOneOf call.sent ss
  pub waiters : (call : AwaitedCall) → IsOneOf call calls → IsSentFor call.sent call.caller
  pub apart : (a b : AwaitedCall) → IsOneOf a calls → IsOneOf b calls → a.xid ≡ b.xid → a ≡ b
  pub below : not (next == 0) ≡ true → (call : AwaitedCall) → IsOneOf call calls → call.xid < next

abbrev pub Table : MdsValue → List Entry → List MdsSend → Type 0
Table m es ss = IsTable m.calls m.next_xid ss

-- ---- more is sent; calls leave; a call goes out

pub sends_more : (calls : List AwaitedCall) (next : ℕ) (ss more : List MdsSend) → IsTable calls next ss → IsTable calls next (ss ++ more)
sends_more calls next ss more t = record { sent = λ call inside. in_more call.sent ss more (t.sent call inside); waiters = t.waiters; apart = t.apart; below = t.below }

pub filtered : (test : AwaitedCall → Bool) (calls : List AwaitedCall) (next : ℕ) (ss : List MdsSend) → IsTable calls next ss → IsTable (filter test calls) next ss
filtered test calls next ss t = record {
  sent = λ call inside. t.sent call (in_filtered test call calls inside);
  waiters = λ call inside. t.waiters call (in_filtered test call calls inside);
  apart = λ a b one other same. t.apart a b (in_filtered test a calls one) (in_filtered test b calls other) same;
  below = λ some call inside. t.below some call (in_filtered test call calls inside);
}

-- the number behind this one, where there is one
pub next_is : (next : ℕ) → not (xid_after next == 0) ≡ true → xid_after next ≡ next + 1
next_is next = cond_both (next == 4294967295) 0 (next + 1) (λ (n : ℕ). not (n == 0) ≡ true → n ≡ next + 1) (λ last some. absurd cc) (λ off some. refl)

pub skipped : (calls : List AwaitedCall) (next : ℕ) (ss : List MdsSend) → not (next == 0) ≡ true → IsTable calls next ss → IsTable calls (xid_after next) ss
skipped calls next ss has t = record {
  sent = t.sent;
  waiters = t.waiters;
  apart = t.apart;
  below = λ some call inside. let less : call.xid < next = t.below has call inside in let is : xid_after next ≡ next + 1 = next_is next some in omega (arith, less, is);
}

by_call : (P : AwaitedCall → Type 0) (call : AwaitedCall) (calls : List AwaitedCall) → ((x : AwaitedCall) → IsOneOf x calls → P x) → P call → (x : AwaitedCall) → IsOneOf x (with_call call calls) → P x
by_call P call calls old new x inside = by_case (in_with_call x call calls inside)
  where
    by_case : IsOneOf x calls ⊎ (x ≡ call) → P x
    by_case (inl was) = old x was
    by_case (inr is) = subst P (sym is) new

pub called : (call : AwaitedCall) (calls : List AwaitedCall) (next : ℕ) (ss : List MdsSend) → call.xid ≡ next → IsSentFor call.sent call.caller → not (next == 0) ≡ true → IsTable calls next ss
    → IsTable (with_call call calls) (xid_after next) (ss ++ call.sent ∷ [])
called call calls next ss number fits has t = record {
  sent = by_call (λ (x : AwaitedCall). IsOneOf x.sent (ss ++ call.sent ∷ [])) call calls (λ x was. in_more x.sent ss (call.sent ∷ []) (t.sent x was)) (in_last call.sent ss);
  waiters = by_call (λ (x : AwaitedCall). IsSentFor x.sent x.caller) call calls t.waiters fits;
  apart = λ a b one other same. by_both a b (in_with_call a call calls one) (in_with_call b call calls other) same;
  below = λ some. let is : xid_after next ≡ next + 1 = next_is next some in
      by_call (λ (x : AwaitedCall). x.xid < xid_after next) call calls (λ x was. let less : x.xid < next = t.below has x was in omega (arith, less, is)) (omega (arith, number, is));
}
  where
    by_both : (a b : AwaitedCall) → IsOneOf a calls ⊎ (a ≡ call) → IsOneOf b calls ⊎ (b ≡ call) → a.xid ≡ b.xid → a ≡ b
    by_both a b (inl one) (inl other) same = t.apart a b one other same
    by_both a b (inl one) (inr new) same = let less : a.xid < next = t.below has a one in let its : b.xid ≡ call.xid = ap (λ (x : AwaitedCall). x.xid) new in absurd (omega (arith, less, its, same, number))
    by_both a b (inr new) (inl other) same = let less : b.xid < next = t.below has b other in let its : a.xid ≡ call.xid = ap (λ (x : AwaitedCall). x.xid) new in absurd (omega (arith, less, its, same, number))
    by_both a b (inr is) (inr its) same = is ∙ sym its

-- ---- an input of a file changes nothing of it

pub stepped_table : (m : MdsValue) (file : FileId) (s : ServedFile) (step : FileStep) (es : List Entry) (ss : List MdsSend) → Table m es ss → Table (file_stepped m file s step).mds (es ++ step.entries) ss
stepped_table m file s step es ss t =
    let n : MdsValue = with_served (record m { fresh = drawn m.fresh step }) file (file_behind s step) in
    cond_both (list_any is_period_end step.entries) (record n { recalls = without_file file n.recalls }) n (λ (x : MdsValue). Table x (es ++ step.entries) ss) (λ end. t) (λ other. t)

pub table_parts : Parts Table HeardAny AnyCompound
table_parts = record {
  wait = λ m es ss t file s there. any_wait s.reads s.write;
  opens = λ m client file es ss t. t;
  closes = λ m client file es ss t. t;
  reclaims = λ m client es ss t. t;
  gone = λ m client es ss t. t;
  tables = λ m move no es ss t. t;
  asks_recall = λ m file s n recalled client now there held off es ss t. t;
  times_recall = λ m xid out es ss t. t;
  ticks_recalls = λ m now es ss t. t;
  later = λ m file p es ss t. t;
  sizes = λ m file s server fileid size there es ss t. t;
  gives_again = λ m file s client there its es ss t. t;
  grants = λ m file s client n from there free left fresh es ss t. stepped_table m file s (phase file s.file (AsksLayout n) m.fresh) es ss t;
  grants_alone = λ m file s client n from there free left spent es ss t. t;
  inputs = λ m file s input unasked there fresh es ss t. stepped_table m file s (phase file s.file input m.fresh) es ss t;
  timeouts = λ m file s node xid out there fresh es ss t. stepped_table m file s (phase file s.file (TimesOut xid) m.fresh) es ss t;
  learns = λ m file s call server own uid c replies fileid shown heard caller sent named shows there fresh es ss t. t;
  begins_read = λ m file s c at count any there es ss t. t;
  times_read = λ m file s xid place r at on es ss t. t;
  loses_read = λ m file s xid place r e at over es ss t. t;
  begins_write = λ m file s c at bytes any there can fresh es ss t. stepped_table m file s (phase file s.file (OwnWrite at bytes) m.fresh) es ss t;
  begins_alone = λ m file s c at bytes any there can spent es ss t. t;
  times_write = λ m file s w xid there waits out es ss t. t;
  ends_write = λ m file s w places there waits over fresh es ss t. stepped_table (with_served m file (without_write s)) file (without_write s) (phase file s.file (end_input s w) m.fresh) es ss t;
  drops_write = λ m file s w places there waits over spent es ss t. t;
  makes = λ m name may es ss t. t;
}

pub table_runs : RunParts Table
table_runs = record {
  confirmed = λ m client node es ss t. t;
  destroys = λ m session es ss t. t;
  returns = λ m file s errors there fresh es ss t. stepped_table m file s (phase file s.file (Returns (client_number (holder_of s.file.layout.phase)) s.file.layout.cred (report_of errors s.file.layout.live)) m.fresh) es ss t;
  replies = λ m node xid bytes es ss t. sends_more m.calls m.next_xid ss _ t;
  finishes = λ m pass bytes es ss t. t;
}

pub table_answers : GivesAnswers Table
table_answers m node bytes reply is es ss t = sends_more m.calls m.next_xid ss _ t

left : (node : NodeId) (xid : ℕ) (m : MdsValue) (es : List Entry) (ss : List MdsSend) → Table m es ss → Table (heard_by node xid m) es ss
left node xid m es ss t = filtered (λ (call : AwaitedCall). not (is_call_to node xid call)) m.calls m.next_xid ss t

goes : (m : MdsValue) (node : NodeId) (caller : Waiter) (sent : MdsSend) → has_xids m ≡ true → IsSentFor sent caller → (es : List Entry) (ss : List MdsSend) → Table m es ss → IsTable (calls_as m node caller sent).mds.calls (xid_after m.next_xid) (ss ++ sent ∷ [])
goes m node caller sent has fits es ss t = called (record { node = node; xid = m.next_xid; caller = caller; sent = sent }) m.calls m.next_xid ss refl fits has t

pub table_calls : Calls Table HeardAny
table_calls = record {
  fits = λ m es ss t call inside. inl (t.waiters call inside);
  hears = λ m node xid file s call c replies heard its there out fresh es ss t. stepped_table (heard_by node xid m) file s (phase file s.file (Answers xid (own_answer c (replies c))) m.fresh) es ss (left node xid m es ss t);
  unheard = λ m node xid file s call c its there spent es ss t. left node xid m es ss t;
  hears_read = λ m node xid file s call c replies place r heard its at on es ss t. left node xid m es ss t;
  ends_read = λ m node xid file s call c replies place r e heard its at over es ss t. left node xid m es ss t;
  hears_write = λ m node xid file s w call c replies heard its there waits out es ss t. left node xid m es ss t;
  hears_recall = λ m node xid status call found its out es ss t. left node xid m es ss t;
  leaves = λ m node xid call inside its off es ss t. left node xid m es ss t;
  forgets = λ m es ss t. filtered (is_awaited m) m.calls m.next_xid ss t;
  late = λ m call inside is es ss t. t;
  again = λ m call inside is es ss t. sends_more m.calls m.next_xid ss (call.sent ∷ []) t;
}

pub table_outs : OutParts Table
table_outs = record {
  calls_file = λ m file s out there has idle its es ss t. goes m _ _ _ has tt es ss t;
  calls_write = λ m file s w out there has waits its es ss t. goes m _ _ _ has tt es ss t;
  calls_read = λ m file s place r out there has at its es ss t. goes m _ _ _ has tt es ss t;
  calls_back = λ m sent session has its es ss t. goes m _ _ _ has tt es ss t;
  skips = λ m sent has its es ss t. skipped m.calls m.next_xid ss has t;
  back = λ m client es ss t. t;
  repeats = λ m server xid call found es ss t. sends_more m.calls m.next_xid ss (call.sent ∷ []) t;
}

pub table_begins : KeepsBegin Table
table_begins m request now es ss t = t

pub table_whole : EventParts Table HeardAny AnyCompound
table_whole = record { parts = table_parts; runs = table_runs; any = λ c. tt; answers = table_answers; calls = table_calls; outs = table_outs; begins = table_begins }

pub new_table : IsTable [] 1 []
new_table = record { sent = λ call inside. absurd inside; waiters = λ call inside. absurd inside; apart = λ a b one other same. absurd one; below = λ some call inside. absurd inside }

pub tables_stand : (servers : List AddressValue) (mirrors : ℕ) (events : List MdsEvent) → TableStands (mds_run servers mirrors events)
tables_stand servers mirrors events =
    let t : IsTable (mds_run servers mirrors events).mds.calls (mds_run servers mirrors events).mds.next_xid (mds_run servers mirrors events).sends =
    in_each_run Table AnyCompound table_whole (new_mds servers mirrors) events new_table in
    record { sent = t.sent; waiters = t.waiters; apart = t.apart; below = t.below }
