use Rattle.std.proofs.Common.{Some, sym, ◌∙◌}
use Rattle.std.proofs.lemmas.Result.{err_from_is_err_and}
use Rattle.record_server.specs.Server.{IsOfRound, ToHand, ToRead}
use Rattle.record_server.proofs.RunLemmas.{stays}
use Rattle.record_server.proofs.RoundLemmas.{not_handed, handed_as, went, turned, shorter, rested, wanted}
use Rattle.record_server.proofs.server.RecordServer.end_rest.Goals as goal

pub loop-self-init : goal.loop-self-init
loop-self-init g c = stays IsOfRound c.args.self.now

pub returns-in_err-handed : goal.returns-in_err-handed
returns-in_err-handed g c =
    let p = err_from_is_err_and c.from_residual.result c.from_residual.ensures.1 in
    wanted c.args.self.now c.loop-self.self c.hand_out.new.self c.from_residual.result p.0 p.1 c.loop-self.invariant ToHand c.in_err-handed.ensures

pub returns-in-Some : goal.returns-in-Some
returns-in-Some g c =
    let hands = handed_as c.loop-self.self c.hand_out.new.self c.in_ok-handed.field-0 (Some c.in-Some.handed) c.in-Some.is c.in_ok-handed.ensures in
    (c.loop-self.self, c.loop-self.invariant, hands)

pub loop-self-smaller : goal.loop-self-smaller
loop-self-smaller g c =
    let same = not_handed c.loop-self.self c.hand_out.new.self c.in_ok-handed.field-0 c.in_default.is c.in_ok-handed.ensures in
    shorter c.loop-self.self c.hand_out.new.self c.leave.new.self c.visit.new.self c.in_ok-visit.field-0 (sym c.is_behind.ensures ∙ c.loop-self-test.true) same c.leave.ensures c.in_ok-visit.ensures

pub loop-self-preserved : goal.loop-self-preserved
loop-self-preserved g c =
    let same = not_handed c.loop-self.self c.hand_out.new.self c.in_ok-handed.field-0 c.in_default.is c.in_ok-handed.ensures in
    turned c.args.self.now c.loop-self.self c.hand_out.new.self c.leave.new.self c.visit.new.self c.in_ok-visit.field-0 c.loop-self.invariant same c.leave.ensures c.in_ok-visit.ensures

pub returns-in_err-visit : goal.returns-in_err-visit
returns-in_err-visit g c =
    let same = not_handed c.loop-self.self c.hand_out.new.self c.in_ok-handed.field-0 c.in_default.is c.in_ok-handed.ensures in
    let p = err_from_is_err_and c.from_residual-in_err-visit.result c.from_residual-in_err-visit.ensures.1 in
    wanted c.args.self.now c.leave.new.self c.visit.new.self c.from_residual-in_err-visit.result p.0 p.1 (went c.args.self.now c.loop-self.self c.hand_out.new.self c.leave.new.self c.loop-self.invariant same c.leave.ensures) ToRead c.in_err-visit.ensures

pub returns-in_err-handed-2 : goal.returns-in_err-handed-2
returns-in_err-handed-2 g c =
    let p = err_from_is_err_and c.from_residual-in_err-handed-2.result c.from_residual-in_err-handed-2.ensures.1 in
    wanted c.args.self.now c.loop-self.self c.hand_out-2.new.self c.from_residual-in_err-handed-2.result p.0 p.1 c.loop-self.invariant ToHand c.in_err-handed-2.ensures

pub returns-in-Some-2 : goal.returns-in-Some-2
returns-in-Some-2 g c =
    let hands = handed_as c.loop-self.self c.hand_out-2.new.self c.in_ok-handed-2.field-0 (Some c.in-Some-2.handed) c.in-Some-2.is c.in_ok-handed-2.ensures in
    (c.loop-self.self, c.loop-self.invariant, hands)

pub returns : goal.returns
returns g c =
    let same = not_handed c.loop-self.self c.hand_out-2.new.self c.in_ok-handed-2.field-0 c.in_default-2.is c.in_ok-handed-2.ensures in (
      went c.args.self.now c.loop-self.self c.hand_out-2.new.self c.leave-2.new.self c.loop-self.invariant same c.leave-2.ensures,
      rested c.loop-self.self c.hand_out-2.new.self c.leave-2.new.self (sym c.is_behind.ensures ∙ c.loop-self-test.false) same c.leave-2.ensures,
    )
