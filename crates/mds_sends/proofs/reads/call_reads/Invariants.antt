use Rattle.std.proofs.Common.{◌-◌}
use Rattle.std.specs.List.{range_with_len}
use Rattle.cluster_model.specs.declared.outbox.Outbox.{Outbox}
use Rattle.mds_rule.specs.MdsStates.{MdsValue, served}
use Rattle.mds_rule.specs.Goes.{each, read_call_in, read_calls}
use Rattle.compound_run.specs.CompoundRuns.{HasMadeStep}
use Rattle.mds_sends.proofs.reads.call_reads.Given as goal

abbrev pub invariant-loop-n : goal.invariant-loop-n
invariant-loop-n l =
    (m : MdsValue) (new : Outbox) → HasMadeStep (each (λ n k. read_call_in l.fn.file l.fn.place n k (served k l.fn.file)) (range_with_len l.n (l.n-end - l.n)) l.state) l.out m new
    → HasMadeStep (read_calls l.fn.file l.fn.place l.fn.state) l.fn.out m new
