use Rattle.std.proofs.Common.{◌++◌, ◌∙◌, ℕ, Result, IfOk, take, sym, subst}
use Rattle.rpc_record.specs.declared.frames.RecordFault.{RecordFault}
use Rattle.rpc_record.specs.Frames.{Front, HasGiven, Feeds}
use Rattle.rpc_record.specs.FramesView.{front_at}
use Rattle.rpc_record.proofs.FrameCalls.{feeds_is, goes_on_is, too_long_is, too_many_is}
use Rattle.rpc_record.proofs.frames.Frames.feed.Goals as goal

pub returns-clause-told : goal.returns-clause-told
returns-clause-told c fed e =
    subst (λ (r : Result ℕ RecordFault). Feeds fed c.args.piece.now r (front_at c.gather.new.gathered.items c.in_ok-taken.stage)) (sym c.answer.ensures)
    (feeds_is c.self.inside.gathered.items c.self.inside.stage c.args.piece.now c.in_ok-taken.taken c.gather.new.gathered.items c.in_ok-taken.stage fed (c.self.view_is ∙ e) c.in_ok-taken.ensures.ok)

pub returns-clause-goes_on : goal.returns-clause-goes_on
returns-clause-goes_on c stream messages given =
    let before : HasGiven stream messages (front_at c.self.inside.gathered.items c.self.inside.stage) = subst (λ (f : Front). HasGiven stream messages f) (sym c.self.view_is) given in
    subst (λ (r : Result ℕ RecordFault). IfOk r (λ n. HasGiven (stream ++ take n c.args.piece.now) messages (front_at c.gather.new.gathered.items c.in_ok-taken.stage))) (sym c.answer.ensures)
    (goes_on_is c.self.inside.gathered.items c.self.inside.stage c.args.piece.now c.in_ok-taken.taken c.gather.new.gathered.items c.in_ok-taken.stage stream messages c.in_ok-taken.ensures.ok before)

pub returns-clause-too_long : goal.returns-clause-too_long
returns-clause-too_long c e =
    c.answer.ensures
    ∙ too_long_is c.self.inside.gathered.items c.self.inside.stage c.args.piece.now c.in_ok-taken.taken c.gather.new.gathered.items c.in_ok-taken.stage c.in_ok-taken.ensures.ok (c.self.view_is ∙ e)

pub returns-clause-too_many : goal.returns-clause-too_many
returns-clause-too_many c e =
    c.answer.ensures
    ∙ too_many_is c.self.inside.gathered.items c.self.inside.stage c.args.piece.now c.in_ok-taken.taken c.gather.new.gathered.items c.in_ok-taken.stage c.in_ok-taken.ensures.ok (c.self.view_is ∙ e)
