use Rattle.std.proofs.Common.{rules, ◌≡◌, true, subst, sym, arith}
use Rattle.mds_creations.specs.Makings.{are_different}
use Rattle.mds_rule.specs.FileOps.{servers_of}
use Rattle.mds_state.proofs.ServerLists.{three_apart, four_apart}
use Rattle.mds_state.proofs.servers.servers_of.Goals as goal

pub returns-then-mirrors-eq3-clause-apart : goal.returns-then-mirrors-eq3-clause-apart
returns-then-mirrors-eq3-clause-apart c =
    let listed : c.push-3.new.self.items ≡ servers_of c.args.servers 3 c.args.file = search rules in
    subst (λ xs. are_different xs ≡ true) (sym listed) (three_apart c.args.servers c.args.file (omega (arith, c.requires.within, c.if-mirrors-eq3.true)))

pub returns-clause-apart : goal.returns-clause-apart
returns-clause-apart c =
    let listed : c.push-4.new.self.items ≡ servers_of c.args.servers 4 c.args.file = search rules in
    subst (λ xs. are_different xs ≡ true) (sym listed)
    (four_apart c.args.servers c.args.file (omega (arith, c.requires.some, c.requires.few, c.requires.within, c.if-mirrors-eq1.false, c.if-mirrors-eq2.false, c.if-mirrors-eq3.false)))
