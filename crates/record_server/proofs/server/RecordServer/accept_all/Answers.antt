use Rattle.std.proofs.Common.{arith}
use Rattle.std.proofs.lemmas.Result.{err_from_is_err_and}
use Rattle.record_server.specs.Server.{IsOfRound}
use Rattle.record_server.proofs.RunLemmas.{stays, goes_on}
use Rattle.record_server.proofs.RoundLemmas.{accepted, accepted_first, accept_ends}
use Rattle.record_server.proofs.server.RecordServer.accept_all.Goals as goal

pub loop-place-init : goal.loop-place-init
loop-place-init g c = (stays IsOfRound c.args.self.now, c.requires)

pub accept_one-requires : goal.accept_one-requires
accept_one-requires g c = c.loop-place.invariant.1

pub returns-in_err-accept_one : goal.returns-in_err-accept_one
returns-in_err-accept_one g c =
    let p = err_from_is_err_and c.from_residual.result c.from_residual.ensures.1 in
    rw (p.1, p.2) (c.loop-place.self, c.loop-place.invariant.0, accept_ends c.in_err-accept_one.field-0.0 c.loop-place.self c.accept_one.new.self c.in_err-accept_one.ensures)

pub returns-then-not-branch : goal.returns-then-not-branch
returns-then-not-branch g c =
    goes_on IsOfRound 0 0 0 c.args.self.now c.loop-place.self c.accept_one.new.self (omega arith) c.loop-place.invariant.0 (accepted c.loop-place.self c.accept_one.new.self c.in_ok-accept_one.field-0 c.in_ok-accept_one.ensures)

pub loop-place-preserved : goal.loop-place-preserved
loop-place-preserved g c = (
  goes_on IsOfRound 0 0 0 c.args.self.now c.loop-place.self c.accept_one.new.self (omega arith) c.loop-place.invariant.0 (accepted c.loop-place.self c.accept_one.new.self c.in_ok-accept_one.field-0 c.in_ok-accept_one.ensures),
  accepted_first c.loop-place.self c.accept_one.new.self c.in_ok-accept_one.field-0 c.in_ok-accept_one.ensures c.loop-place.invariant.1,
)

pub returns : goal.returns
returns g c = c.loop-place.invariant.0
