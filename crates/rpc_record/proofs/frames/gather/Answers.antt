use Rattle.std.proofs.Common.{◌≡◌, ◌∙◌, true, List, ℕ, length, take, arith, subst, ap}
use Rattle.std.proofs.lemmas.List.{take_at, take_rest}
use Rattle.rpc_record.specs.FramesView.{is_more, TakesSome}
use Rattle.rpc_record.proofs.FrameTakes.{underway_first, underway_more, gathers_from}
use Rattle.rpc_record.proofs.frames.gather.Goals as goal

pub loop-taken-init : goal.loop-taken-init
loop-taken-init c = underway_first c.args.gathered.now.items c.args.start c.args.piece.now c.requires

pub step-requires-clause-stage : goal.step-requires-clause-stage
step-requires-clause-stage c = c.loop-taken.invariant.stage

pub loop-taken-preserved : goal.loop-taken-preserved
loop-taken-preserved c =
    let step = subst (λ (t : List ℕ). TakesSome c.loop-taken.gathered.items c.loop-taken.stage t c.in-Ok.count c.step.new.gathered.items c.in-Ok.next) (take_rest c.args.piece.now c.loop-taken.taken) c.in-Ok.ensures.ok in
    let more : is_more c.loop-taken.stage ≡ true = cc (c.if-is_more.true, c.is_more.ensures) in
    underway_more c.args.gathered.now.items c.args.start c.args.piece.now c.loop-taken.taken c.loop-taken.gathered.items c.loop-taken.stage c.in-Ok.count c.step.new.gathered.items c.in-Ok.next c.loop-taken.invariant more step

pub returns-in-Err-clause-err : goal.returns-in-Err-clause-err
returns-in-Err-clause-err c =
    let mark : length c.args.gathered.now.items ≡ c.len-mark.result = cc (c.args.gathered.now.ok.0, c.len-mark.ensures) in
    c.truncate.ensures.items
    ∙ ap (λ (t : List ℕ). take c.len-mark.result t) (c.in-Err.ensures.err ∙ c.loop-taken.invariant.grows)
    ∙ take_at c.args.gathered.now.items c.loop-taken.invariant.added c.len-mark.result mark

pub returns-else-is_more-clause-ok : goal.returns-else-is_more-clause-ok
returns-else-is_more-clause-ok c = gathers_from c.args.gathered.now.items c.args.start c.args.piece.now c.loop-taken.taken c.loop-taken.gathered.items c.loop-taken.stage c.loop-taken.invariant
    (λ more. absurd (cc (more, c.if-is_more.false, c.is_more.ensures)))

pub returns-after-loop-taken-clause-ok : goal.returns-after-loop-taken-clause-ok
returns-after-loop-taken-clause-ok c = gathers_from c.args.gathered.now.items c.args.start c.args.piece.now c.loop-taken.taken c.loop-taken.gathered.items c.loop-taken.stage c.loop-taken.invariant
    (λ more. omega (arith, c.loop-taken-test.false))

pub returns-in-Err-clause-more : goal.returns-in-Err-clause-more
returns-in-Err-clause-more c =
    let more : is_more c.loop-taken.stage ≡ true = cc (c.if-is_more.true, c.is_more.ensures) in
    c.loop-taken.invariant.more more
