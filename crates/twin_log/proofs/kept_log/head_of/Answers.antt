use Rattle.std.proofs.Common.{◌<◌, Ok, sym, ap, subst, ◌∙◌, arith}
use Rattle.twin_log.specs.declared.kept_log.FileHead.{FileHead}
use Rattle.twin_log.specs.Opening.{HeadOf, head_with}
use Rattle.twin_log.proofs.Heads.{closed_head, broken_head, opens_head}
use Rattle.twin_log.proofs.kept_log.head_of.Goals as goal

pub returns-in-Closed-clause-head : goal.returns-in-Closed-clause-head
returns-in-Closed-clause-head g c =
    let many : 1 < c.in_ok-size.size = omega (arith, c.if-size-le1.false) in
    let found = rw (c.in-Closed.is, c.in_ok-size.ensures.same) at c.in_ok-find_gate.ensures.found in
    closed_head c.in_ok-size.size c.find_gate.new.body.items many (g.D.Disk.told c.args.disk.now) c.in_ok-size.ensures.told found

pub returns-in-Broken-clause-head : goal.returns-in-Broken-clause-head
returns-in-Broken-clause-head g c =
    let many : 1 < c.in_ok-size.size = omega (arith, c.if-size-le1.false) in
    let found = rw (c.in-Broken.is, c.in_ok-size.ensures.same) at c.in_ok-find_gate.ensures.found in
    broken_head c.in_ok-size.size c.find_gate.new.body.items many (g.D.Disk.told c.args.disk.now) c.in_ok-size.ensures.told found

pub returns-clause-head : goal.returns-clause-head
returns-clause-head g c =
    let many : 1 < c.in_ok-size.size = omega (arith, c.if-size-le1.false) in
    let found = rw (c.in-Opens.is, c.in_ok-size.ensures.same) at c.in_ok-find_gate.ensures.found in
    subst (λ (h : FileHead). HeadOf (g.D.Disk.told c.args.disk.now) (Ok h)) (sym (c.head_with.ensures ∙ ap (head_with c.in_ok-size.size) c.deref.ensures.value))
    (opens_head c.in_ok-size.size c.find_gate.new.body.items many (g.D.Disk.told c.args.disk.now) c.in_ok-size.ensures.told found)
