use Rattle.std.proofs.Common.{◌≡◌, drop}
use Rattle.cluster_model.specs.declared.outbox.Outbox.{Outbox}
use Rattle.file_rule.specs.FilePhases.{Revokes}
use Rattle.mds_rule.specs.MdsStates.{MdsValue}
use Rattle.mds_rule.specs.ServedFiles.{takes_input, one_by_one}
use Rattle.compound_run.specs.CompoundRuns.{HasMadeStep}
use Rattle.mds_state.proofs.clients.revoke_all.Given as goal

abbrev pub invariant-loop-file : goal.invariant-loop-file
invariant-loop-file l =
    ((n : MdsValue) (new : Outbox) → HasMadeStep (one_by_one (λ m file. takes_input m file (Revokes l.cause)) (drop l.file-index l.files) l.state) l.out n new
    → HasMadeStep (one_by_one (λ m file. takes_input m file (Revokes l.cause)) l.files l.fn.state) l.fn.out n new)
    × (l.out.sends.items ≡ l.fn.out.sends.items)
