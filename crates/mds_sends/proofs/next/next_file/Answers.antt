use Rattle.std.proofs.Common.{◌≤◌, ◌<◌, arith}
use Rattle.std.proofs.lemmas.Option.{none-some, same_Some}
use Rattle.mds_sends.proofs.GoesQuiet.{lesser, silent}
use Rattle.mds_sends.proofs.next.next_file.Goals as goal

pub returns-then-next-end-clause-next : goal.returns-then-next-end-clause-next
returns-then-next-end-clause-next c = λ list first.
    let a = c.min-others.ensures in
    let b = c.min-next.ensures in
    silent list c.args.state.now c.args.from c.next_due-due.result c.next_recalled-recalled.result c.next_kept.result c.args.end c.requires (omega (arith, a, b, c.if-next-end.true)) (omega (arith, a, b, c.if-next-end.true))
    (omega (arith, b, c.if-next-end.true)) c.next_due-due.ensures.quiet c.next_recalled-recalled.ensures.none (c.next_kept.ensures.none list first)

pub returns-then-next-end-clause-kept : goal.returns-then-next-end-clause-kept
returns-then-next-end-clause-kept c = λ n k is at after. absurd (none-some n is)

pub returns-clause-within : goal.returns-clause-within
returns-clause-within c =
    let others : c.min-others.result < c.args.end → c.args.from ≤ c.min-others.result = λ below. lesser c.args.from c.next_due-due.result c.next_recalled-recalled.result c.min-others.result c.args.end c.min-others.ensures below c.next_due-due.ensures.behind c.next_recalled-recalled.ensures.behind in
    (lesser c.args.from c.min-others.result c.next_kept.result c.min-next.result c.args.end c.min-next.ensures c.if-next-end.false others c.next_kept.ensures.behind, c.if-next-end.false)

pub returns-clause-next : goal.returns-clause-next
returns-clause-next c = λ list first.
    let a = c.min-others.ensures in
    let b = c.min-next.ensures in
    silent list c.args.state.now c.args.from c.next_due-due.result c.next_recalled-recalled.result c.next_kept.result c.min-next.result c.requires (omega (arith, a, b)) (omega (arith, a, b)) (omega (arith, b)) c.next_due-due.ensures.quiet
    c.next_recalled-recalled.ensures.none (c.next_kept.ensures.none list first)

pub returns-clause-kept : goal.returns-clause-kept
returns-clause-kept c = λ n k is at after.
    let same = same_Some c.min-next.result n is in
    let least = c.next_kept.ensures.least k at after in
    omega (arith, same, c.min-next.ensures, least)
