use Rattle.std.proofs.Common.{◌≡◌, ℕ, List, length, true, Ok, ◌+◌, ◌≤◌, ◌<◌, sym, subst, arith}
use Rattle.gate_log.specs.declared.reading.Found.TheVariants as found
use Rattle.twin_log.specs.Twins.{at_side}
use Rattle.twin_log.specs.KeptLogs.{KeptLogState}
use Rattle.twin_log.specs.LogCalls.{ReadsOn, WhereTold}
use Rattle.twin_log.proofs.ReadOn.{none_left, one_read, none_else}
use Rattle.twin_log.proofs.kept_log.KeptLog.read.Goals as goal

pub returns-then-self-clause-reads : goal.returns-then-self-clause-reads
returns-then-self-clause-reads g c =
    let over : c.self.inside.end ≤ c.self.inside.next = omega (arith, c.if-self.true) in
    rw (← c.self.view_is) (λ generation start done rest stands at.
    none_left _ generation start done rest at (at_side c.self.inside.side (g.D.Disk.told c.args.disk.now) (g.D.Disk.told c.args.spare.now)) c.args.into.now.items stands.own over)

pub returns-in-Opens-clause-reads : goal.returns-in-Opens-clause-reads
returns-in-Opens-clause-reads g c =
    let less : c.self.inside.next < c.self.inside.end = omega (arith, c.if-self.false) in
    let here = rw (c.in-Opens.is) at c.in_ok-find_on.ensures.found in
    let told = at_side c.self.inside.side (g.D.Disk.told c.args.disk.now) (g.D.Disk.told c.args.spare.now) in
    let body : List ℕ = c.find_on.new.body.items in
    let size : c.len.result ≡ length body = omega (arith, c.len.ensures, c.find_on.new.body.ok) in
    let log : KeptLogState = record { side = c.self.inside.side; generation = c.self.inside.generation; size = c.self.inside.size; end = c.self.inside.end; at = c.self.inside.at; next = c.self.inside.next; place = c.self.inside.place; renewed = c.self.inside.renewed } in
    rw (← c.self.view_is) (λ generation start done rest stands at.
    subst (λ (n : ℕ). WhereTold told (ReadsOn start done rest log (Ok true) body (record log { next = c.self.inside.next + (5 + n); place = c.self.inside.next }))) (sym size)
    (one_read log generation start done rest at told body stands.own less here))

pub returns-in-Absent-clause-reads : goal.returns-in-Absent-clause-reads
returns-in-Absent-clause-reads g c =
    let less : c.self.inside.next < c.self.inside.end = omega (arith, c.if-self.false) in
    let here = rw (c.in-Absent.is) at c.in_ok-find_on.ensures.found in
    let log : KeptLogState = record { side = c.self.inside.side; generation = c.self.inside.generation; size = c.self.inside.size; end = c.self.inside.end; at = c.self.inside.at; next = c.self.inside.next; place = c.self.inside.place; renewed = c.self.inside.renewed } in
    rw (← c.self.view_is) (λ generation start done rest stands at.
    none_else log generation start done rest at (at_side c.self.inside.side (g.D.Disk.told c.args.disk.now) (g.D.Disk.told c.args.spare.now)) found.Absent c.find_on.new.body.items c.self.inside.next stands.own less here (λ e. absurd (cc (e))))

pub returns-in-Closed-clause-reads : goal.returns-in-Closed-clause-reads
returns-in-Closed-clause-reads g c =
    let less : c.self.inside.next < c.self.inside.end = omega (arith, c.if-self.false) in
    let here = rw (c.in-Closed.is) at c.in_ok-find_on.ensures.found in
    let log : KeptLogState = record { side = c.self.inside.side; generation = c.self.inside.generation; size = c.self.inside.size; end = c.self.inside.end; at = c.self.inside.at; next = c.self.inside.next; place = c.self.inside.place; renewed = c.self.inside.renewed } in
    rw (← c.self.view_is) (λ generation start done rest stands at.
    none_else log generation start done rest at (at_side c.self.inside.side (g.D.Disk.told c.args.disk.now) (g.D.Disk.told c.args.spare.now)) found.Closed c.find_on.new.body.items c.self.inside.next stands.own less here (λ e. absurd (cc (e))))

pub returns-in-Broken-clause-reads : goal.returns-in-Broken-clause-reads
returns-in-Broken-clause-reads g c =
    let less : c.self.inside.next < c.self.inside.end = omega (arith, c.if-self.false) in
    let here = rw (c.in-Broken.is) at c.in_ok-find_on.ensures.found in
    let log : KeptLogState = record { side = c.self.inside.side; generation = c.self.inside.generation; size = c.self.inside.size; end = c.self.inside.end; at = c.self.inside.at; next = c.self.inside.next; place = c.self.inside.place; renewed = c.self.inside.renewed } in
    rw (← c.self.view_is) (λ generation start done rest stands at.
    none_else log generation start done rest at (at_side c.self.inside.side (g.D.Disk.told c.args.disk.now) (g.D.Disk.told c.args.spare.now)) found.Broken c.find_on.new.body.items c.self.inside.next stands.own less here (λ e. absurd (cc (e))))
