-- A compound sends its reply alone, and takes no number of a call.
use Rattle.std.proofs.Common.{◌≡◌, ℕ, Bool, true, false, List, [], ◌∷◌, ◌++◌, Option, Some, None, refl, sym, ap, subst, inl, inr}
use Rattle.std.specs.Prelude.{not, ◌==◌, map}
use Rattle.std.specs.List.{filter, list_any}
use Rattle.std.proofs.lemmas.Bool.{cond_both}
use Rattle.ff_xdr.specs.Form.{Value, arm_of}
use Rattle.cluster_model.specs.Members.{IsOneOf}
use Rattle.cluster_model.specs.declared.ids.NodeId.{NodeId}
use Rattle.cluster_model.specs.declared.ids.FileId.{FileId}
use Rattle.cluster_model.specs.declared.entry.Entry.{Entry}
use Rattle.file_rule.specs.MdsFiles.{FileStep}
use Rattle.file_rule.specs.FilePhases.{Answers as IsAnswer, TimesOut, Sees, phase}
use Rattle.mds_rows.specs.Draws.{drawn}
use Rattle.nfs4_types.specs.declared.sequence.Sequence.{Sequence}
use Rattle.nfs4_types.specs.declared.status.Stat4.TheVariants as stat
use Rattle.nfs4_types.specs.Sequences.{sequence4_args}
use Rattle.nfs4_compound.specs.declared.stop.Stop.{Stop}
use Rattle.nfs4_compound.specs.declared.stop.Stop.TheVariants as stop
use Rattle.nfs4_compound.specs.Args.{argop4}
use Rattle.nfs4_compound.specs.Compounds.{CompoundValue}
use Rattle.nfs4_session.specs.Bindings.{after_binding}
use Rattle.nfs4_session.specs.Slots.{SlotAnswer, TakesEffect, Repeats, Refuses}
use Rattle.nfs4_session.specs.Requests.{request_answer, after_request}
use Rattle.recall.specs.Recalls.{without_file}
use Rattle.mds_rule.specs.MdsStates as mds
use Rattle.mds_rule.specs.MdsStates.{CompoundRun, ServedFile, MdsSend, Replies, AwaitedCall, MdsValue, MdsStep, sends_none, and_then, with_served}
use Rattle.mds_rule.specs.declared.waiter.Waiter.{Waiter}
use Rattle.mds_rule.specs.OpSteps.{OpStep, Goes, Ends, Waits, refuses, unread, stopped, is_operation_number}
use Rattle.mds_rule.specs.ServedFiles.{is_period_end, file_behind, file_stepped}
use Rattle.mds_rule.specs.Compounds.{operate, has_session, operates, op_then, with_ops, runs, sequence_in, in_slot, sequenced, sequence_of, may_stand_alone, first_alone, first_by, first_operation, new_run, runs_compound}
use Rattle.mds_rule.specs.Answers.{own_answer}
use Rattle.mds_rule.specs.Goes.{xid_after, calls_as, has_xids}
use Rattle.mds_walk.proofs.Keeping.{KeepsOp}
use Rattle.mds_laws.proofs.Keeping.{Cases}
use Rattle.mds_walk.proofs.Parts.{HeardAny, AnyCompound, Parts}
use Rattle.mds_laws.proofs.EachParts.{each_parts, each_runs}
use Rattle.mds_laws.proofs.CasesOfEach.{each_case}
use Rattle.mds_laws.proofs.Numbers.{WereSent, sent_more, sent_with, sent_kept}
use Rattle.mds_walk.proofs.CompoundWalk.{operate_walk, needs}
use Rattle.mds_pace.specs.MdsPace.{went_before}
use Rattle.mds_pace.proofs.Taken.{IsFrom, from_after, both_again, some_number}
use Rattle.mds_pace.proofs.Still.{Still}

sent_of : (call : AwaitedCall) (calls : List AwaitedCall) → IsOneOf call calls → IsOneOf call.sent (map (λ (c : AwaitedCall). c.sent) calls)
sent_of call [] inside = absurd inside
sent_of call (c ∷ calls) (inl is) = inl (ap (λ (x : AwaitedCall). x.sent) is)
sent_of call (c ∷ calls) (inr inside) = inr (sent_of call calls inside)

module _ (x : ℕ) where
  -- ---- the operations leave the next number among those that were not taken

  record IsBehind (next : ℕ) (calls : List AwaitedCall) (ss : List MdsSend) : Type 0 where
    from : IsFrom x next
    were : WereSent calls ss

  abbrev IsSo : MdsValue → List Entry → List MdsSend → Type 0
  IsSo m es ss = IsBehind m.next_xid m.calls ss

  more_sent : (next : ℕ) (calls : List AwaitedCall) (ss : List MdsSend) (s : MdsSend) → IsBehind next calls ss → IsBehind next calls (ss ++ s ∷ [])
  more_sent next calls ss s t = record { from = t.from; were = sent_more calls ss s t.were }

  called : (m : MdsValue) (node : NodeId) (caller : Waiter) (sent : MdsSend) → has_xids m ≡ true → (ss : List MdsSend) → IsBehind m.next_xid m.calls ss → IsBehind (xid_after m.next_xid) (calls_as m node caller sent).mds.calls (ss ++ sent ∷ [])
  called m node caller sent has ss t =
      record { from = from_after x m.next_xid (some_number m has) t.from; were = sent_with m.calls ss (record { node = node; xid = m.next_xid; caller = caller; sent = sent }) t.were }

  inputs : (m : MdsValue) (file : FileId) (s : ServedFile) (step : FileStep) (es : List Entry) (ss : List MdsSend) → IsSo m es ss → IsSo (file_stepped m file s step).mds (es ++ step.entries) ss
  inputs m file s step es ss t =
      let n : MdsValue = with_served (record m { fresh = drawn m.fresh step }) file (file_behind s step) in
      cond_both (list_any is_period_end step.entries) (record n { recalls = without_file file n.recalls }) n (λ (y : MdsValue). IsBehind y.next_xid y.calls ss) (λ end. t) (λ other. t)

  cases : Cases IsSo HeardAny
  cases = record {
    quiet = λ m confirmed opens reclaimed recalls es ss t. t;
    tables = λ m move is es ss t. t;
    replies = λ m node reply es ss t. more_sent m.next_xid m.calls ss (Replies node reply) t;
    answers = λ m node bytes reply is es ss t. more_sent m.next_xid m.calls ss (mds.Answers node bytes) t;
    notes = λ m e is es ss t. t;
    puts = λ m file s f at same write es ss t. t;
    inputs = λ m file s input itself at fresh es ss t. inputs m file s (phase file s.file input m.fresh) es ss t;
    timeouts = λ m file s xid at fresh es ss t. inputs m file s (phase file s.file (TimesOut xid) m.fresh) es ss t;
    hears = λ m file s call server own uid c replies heard caller sent out at fresh es ss t. inputs m file s (phase file s.file (IsAnswer call.xid (own_answer c (replies c))) m.fresh) es ss t;
    learns = λ m file s call server own uid c replies fileid shown heard caller sent named shows at fresh es ss t. inputs m file s (phase file s.file (Sees (record { server = server; fileid = fileid }) shown.seen) m.fresh) es ss t;
    makes = λ m name may es ss t. t;
    calls_file = λ m file s c at has its es ss t. called m _ _ _ has ss t;
    calls_write = λ m file s w c at has waits its is_write es ss t. called m _ _ _ has ss t;
    calls_read = λ m file s f server call at has same write uid is_read es ss t. called m _ _ _ has ss t;
    calls_back = λ m node back file stateid has es ss t. called m _ _ _ has ss t;
    skips = λ m has es ss t. record { from = from_after x m.next_xid (some_number m has) t.from; were = t.were };
    forgets = λ m test es ss t. record { from = t.from; were = sent_kept test m.calls ss t.were };
    was = λ m es ss t. t.were;
    again = λ m s es ss t inside. more_sent m.next_xid m.calls ss s t;
  }

  k : Parts IsSo HeardAny AnyCompound
  k = each_parts IsSo HeardAny (each_case IsSo HeardAny cases)

  abbrev pub OpFrom : MdsValue → OpStep → Type 0
  OpFrom m (Goes n entries c) = IsFrom x m.next_xid → IsFrom x n.next_xid
  OpFrom m (Ends n entries c status) = IsFrom x m.next_xid → IsFrom x n.next_xid
  OpFrom m (Waits n entries) = IsFrom x m.next_xid → IsFrom x n.next_xid

  all_sent : (m : MdsValue) → IsFrom x m.next_xid → IsSo m [] (map (λ (c : AwaitedCall). c.sent) m.calls)
  all_sent m f = record { from = f; were = λ call inside. sent_of call m.calls inside }

  by_walk : (m : MdsValue) (q : OpStep) → KeepsOp IsSo m q → OpFrom m q
  by_walk m (Goes n entries c) all = λ f. (all [] (map (λ (c : AwaitedCall). c.sent) m.calls) (all_sent m f)).from
  by_walk m (Ends n entries c status) all = λ f. (all [] (map (λ (c : AwaitedCall). c.sent) m.calls) (all_sent m f)).from
  by_walk m (Waits n entries) all = λ f. (all [] (map (λ (c : AwaitedCall). c.sent) m.calls) (all_sent m f)).from

  from_still : (m : MdsValue) (s : MdsStep) → Still m s → IsFrom x m.next_xid → IsFrom x s.mds.next_xid
  from_still m s t f = subst (λ (n : ℕ). IsFrom x n) (sym t.number) f

  -- ---- steps

  -- nothing goes out again, and the next number stays among those that were not taken
  abbrev pub Quiet : MdsValue → MdsStep → Type 0
  Quiet m s = IsFrom x m.next_xid → IsFrom x s.mds.next_xid × (filter (went_before x) s.sends ≡ [])

  pub quiet_same : (m : MdsValue) → Quiet m (sends_none m)
  quiet_same m f = (f, refl)

  pub quiet_then : (m : MdsValue) (s : MdsStep) (next : MdsValue → MdsStep) → Quiet m s → ((n : MdsValue) → Quiet n (next n)) → Quiet m (and_then s next)
  quiet_then m s next first second f =
      let a : IsFrom x s.mds.next_xid × (filter (went_before x) s.sends ≡ []) = first f in
      let b : IsFrom x (next s.mds).mds.next_xid × (filter (went_before x) (next s.mds).sends ≡ []) = second s.mds a.0 in
      (b.0, both_again x s.sends (next s.mds).sends [] [] a.1 b.1)

  pub quiet_still : (m : MdsValue) (s : MdsStep) → Still m s → Quiet m s
  quiet_still m s t f = (from_still m s t f, ap (λ (l : List MdsSend). filter (went_before x) l) t.none)

  op_quiet : (m : MdsValue) (q : OpStep) (next : MdsValue → CompoundRun → MdsStep) → OpFrom m q → ((n : MdsValue) (d : CompoundRun) → Quiet n (next n d)) → Quiet m (op_then q next)
  op_quiet m (Goes n entries c) next q all f = all n c (q f)
  op_quiet m (Ends n entries c status) next q all f = (q f, refl)
  op_quiet m (Waits n entries) next q all f = (q f, refl)

  stop_from : (m : MdsValue) (c : CompoundRun) (s : Stop) → OpFrom m (stopped m c s)
  stop_from m c (stop.End rest) = λ f. f
  stop_from m c (stop.Unread number) = by_number (is_operation_number number)
    where
      by_number : (b : Bool) → OpFrom m (unread m c number b)
      by_number true = λ f. f
      by_number false = λ f. f
  stop_from m c (stop.Bad e) = λ f. f

  operate_from : (now : ℕ) (m : MdsValue) (c : CompoundRun) (op : Value argop4) → OpFrom m (operate now m c op)
  operate_from now m c op = by_walk m (operate now m c op) (operate_walk IsSo HeardAny AnyCompound k now m c op (needs IsSo HeardAny AnyCompound k (each_runs IsSo HeardAny (each_case IsSo HeardAny cases)) (λ d. tt) c op))

  operates_from : (now : ℕ) (m : MdsValue) (c : CompoundRun) (op : Value argop4) → OpFrom m (operates now m c op)
  operates_from now m c op = cond_both (has_session m c.slot) (operate now m c op) (refuses m c (arm_of argop4 op) stat.BadSession) (λ (s : OpStep). OpFrom m s) (λ is. operate_from now m c op) (λ off. λ f. f)

  pub run_quiet : (now : ℕ) (ops : List (Value argop4)) (m : MdsValue) (c : CompoundRun) → Quiet m (runs now ops m c)
  run_quiet now [] m c = op_quiet m (stopped m (with_ops c []) c.stop) (λ n d. sends_none n) (stop_from m (with_ops c []) c.stop) (λ n d. quiet_same n)
  run_quiet now (op ∷ ops) m c = op_quiet m (operates now m (with_ops c ops) op) (λ n d. runs now ops n d) (operates_from now m (with_ops c ops) op) (λ n d. run_quiet now ops n d)

  -- ---- the first one

  sequence_quiet : (now : ℕ) (m : MdsValue) (c : CompoundRun) (ops : List (Value argop4)) (s : Sequence) (a : SlotAnswer) → Quiet m (sequenced now m c ops s a)
  sequence_quiet now m c ops s TakesEffect = run_quiet now ops (record m { sessions = after_request m.sessions s now }) (in_slot c s)
  sequence_quiet now m c ops s (Repeats reply) = λ f. (f, refl)
  sequence_quiet now m c ops s (Refuses status) = λ f. (f, refl)

  first_quiet : (now : ℕ) (m : MdsValue) (c : CompoundRun) (count : ℕ) (op : Value argop4) (ops : List (Value argop4)) (o : Option (Value sequence4_args)) → Quiet m (first_by now m c count op ops o)
  first_quiet now m c count op ops (Some args) =
      let s : Sequence = sequence_in args in
      let n : MdsValue = record m { sessions = after_binding m.sessions s.session c.node } in
      sequence_quiet now n c ops s (request_answer n.sessions s)
  first_quiet now m c count op ops None =
      cond_both (may_stand_alone (arm_of argop4 op)) (first_alone now m c count op ops) (op_then (refuses m c (arm_of argop4 op) stat.OpNotInSession) (λ n d. sends_none n)) (λ (s : MdsStep). Quiet m s)
      (λ is.
      cond_both (not (count == 1)) (op_then (refuses m c (arm_of argop4 op) stat.NotOnlyOp) (λ n d. sends_none n)) (op_then (operate now m (with_ops c ops) op) (λ n d. runs now ops n d)) (λ (s : MdsStep). Quiet m s)
      (λ more. λ f. (f, refl)) (λ one. op_quiet m (operate now m (with_ops c ops) op) (λ n d. runs now ops n d) (operate_from now m (with_ops c ops) op) (λ n d. run_quiet now ops n d)))
      (λ off. λ f. (f, refl))

  ops_quiet : (now : ℕ) (m : MdsValue) (c : CompoundRun) (count : ℕ) (ops : List (Value argop4)) → Quiet m (first_operation now m c count ops)
  ops_quiet now m c count [] = run_quiet now [] m c
  ops_quiet now m c count (op ∷ ops) = first_quiet now m c count op ops (sequence_of op)

  pub compound_quiet : (now : ℕ) (m : MdsValue) (node : NodeId) (xid : ℕ) (v : CompoundValue) → Quiet m (runs_compound now m node xid v)
  compound_quiet now m node xid v = ops_quiet now m (new_run node xid v) v.count v.ops.values
