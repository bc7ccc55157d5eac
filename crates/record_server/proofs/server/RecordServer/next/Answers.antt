use Rattle.std.proofs.Common.{◌≡◌, ◌+◌, ◌-◌, ◌^◌, ◌≤◌, ℕ, inl, inr, arith, ap, subst, Some, None}
use Rattle.std.proofs.lemmas.Result.{err_from_is_err_and}
use Rattle.rpc_record.specs.declared.stream.Failed.TheVariants as failed
use Rattle.record_server.specs.Server.{ServingState, GoesBy, GoesRound, IsOfRound}
use Rattle.record_server.proofs.RunLemmas.{stays, goes_on}
use Rattle.record_server.proofs.RoundLemmas.{ended_as, gave, failed_behind}
use Rattle.record_server.proofs.server.RecordServer.next.Goals as goal

pub loop-round-init : goal.loop-round-init
loop-round-init g c = stays IsOfRound c.args.self.now

pub returns-in-Ok-Some : goal.returns-in-Ok-Some
returns-in-Ok-Some g c =
    let ends = ended_as c.loop-round.self c.end_round.new.self c.in-Ok-Some.field-0 (Some c.in-Ok-Some.handed) c.in-Ok-Some.field-0-is c.in-Ok-Some.ensures in
    gave c.loop-round._round c.args.self.now c.loop-round.self c.end_round.new.self c.in-Ok-Some.handed c.loop-round.invariant ends

pub returns-in-Err : goal.returns-in-Err
returns-in-Err g c = failed_behind c.loop-round._round c.args.self.now c.loop-round.self c.end_round.new.self failed.NoMemory c.loop-round.invariant c.in-Err.ensures

pub returns-then-self-until : goal.returns-then-self-until
returns-then-self-until g c =
    let ends = ended_as c.loop-round.self c.end_round.new.self c.in-Ok-None.field-0 None c.in-Ok-None.field-0-is c.in-Ok-None.ensures in
    let late = subst (λ (n : ℕ). c.args.until ≤ n) (ap (λ (s : ServingState). s.time) c.self.view_is) c.if-self-until.true in
    inl (goes_on IsOfRound c.loop-round._round 0 0 c.args.self.now c.loop-round.self c.end_round.new.self (omega arith) c.loop-round.invariant ends.0, inl (late, ends.1))

pub returns-then-is_spent : goal.returns-then-is_spent
returns-then-is_spent g c =
    let ends = ended_as c.loop-round.self c.end_round.new.self c.in-Ok-None.field-0 None c.in-Ok-None.field-0-is c.in-Ok-None.ensures in
    inl (goes_on IsOfRound c.loop-round._round 0 0 c.args.self.now c.loop-round.self c.end_round.new.self (omega arith) c.loop-round.invariant ends.0, inr c.if-is_spent.ensures)

pub returns-in_err-begin_round : goal.returns-in_err-begin_round
returns-in_err-begin_round g c =
    let ends = ended_as c.loop-round.self c.end_round.new.self c.in-Ok-None.field-0 None c.in-Ok-None.field-0-is c.in-Ok-None.ensures in
    let came : GoesRound c.args.self.now c.end_round.new.self = goes_on IsOfRound c.loop-round._round 0 0 c.args.self.now c.loop-round.self c.end_round.new.self (omega arith) c.loop-round.invariant ends.0 in
    let p = err_from_is_err_and c.from_residual.result c.from_residual.ensures.1 in
    rw (p.1, p.2) (failed_behind 0 c.args.self.now c.end_round.new.self c.begin_round.new.self c.in_err-begin_round.field-0.0 came c.in_err-begin_round.ensures)

pub loop-round-preserved : goal.loop-round-preserved
loop-round-preserved g c =
    let ends = ended_as c.loop-round.self c.end_round.new.self c.in-Ok-None.field-0 None c.in-Ok-None.field-0-is c.in-Ok-None.ensures in
    let came : GoesBy IsOfRound c.loop-round._round c.args.self.now c.end_round.new.self = goes_on IsOfRound c.loop-round._round 0 c.loop-round._round c.args.self.now c.loop-round.self c.end_round.new.self (omega arith) c.loop-round.invariant ends.0 in
    goes_on IsOfRound c.loop-round._round 1 (c.loop-round._round + 1) c.args.self.now c.end_round.new.self c.begin_round.new.self (omega arith) came c.in_ok-begin_round.ensures

pub returns : goal.returns
returns g c =
    let all : c.loop-round._round ≡ 2 ^ 64 - 1 = omega (arith, c.loop-round.auto._round-end, c.loop-round-test.false) in
    inr (subst (λ (n : ℕ). GoesBy IsOfRound n c.args.self.now c.loop-round.self) all c.loop-round.invariant)
