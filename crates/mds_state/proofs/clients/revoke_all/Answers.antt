use Rattle.std.proofs.Common.{◌∙◌, arith}
use Rattle.file_rule.specs.FilePhases.{Revokes}
use Rattle.mds_rule.specs.ServedFiles.{takes_input}
use Rattle.mds_state.proofs.Turns.{turn, no_turn}
use Rattle.mds_state.proofs.clients.revoke_all.Goals as goal

pub loop-file-preserved : goal.loop-file-preserved
loop-file-preserved c = (
  λ n new rest.
      c.loop-file.invariant.0 n new
      (turn (λ m file. takes_input m file (Revokes c.args.cause)) c.args.files.now c.loop-file.file-index (record { 0 = 0 }) c.loop-file.out c.take_input.new.out new c.loop-file.state c.take_input.new.state n
      c.loop-file-test.true c.in_ok-take_input.ensures.steps rest),
  c.in_ok-take_input.ensures.silent ∙ c.loop-file.invariant.1,
)

pub returns-clause-steps : goal.returns-clause-steps
returns-clause-steps c =
    c.loop-file.invariant.0 c.loop-file.state c.loop-file.out
    (no_turn (λ m file. takes_input m file (Revokes c.args.cause)) c.args.files.now c.loop-file.file-index c.loop-file.state c.loop-file.out (omega (arith, c.loop-file-test.false)))
