use Rattle.std.proofs.Common.{sym, ◌∙◌, arith, ◌≤◌, ◌<◌, length}
use Rattle.open_state.specs.Opens.{opens_in, Refuses}
use Rattle.open_state.specs.declared.open.OpenFault.TheVariants.{TooMany, Spent}
use Rattle.open_state.proofs.Values.{opened_again, opened_new, too_many, spent, wanted}
use Rattle.open_state.proofs.opens.Opens.open.Goals as goal

pub returns-in-Some : goal.returns-in-Some
returns-in-Some c =
    rw (← c.self.view_is) (opened_again _ c.args.client c.args.file c.in-Some.was c.again-again.result _ (sym c.sought.ensures ∙ c.in-Some.is) c.again-again.ensures c.replace.ensures)

pub returns-then-count-ge-MAX_OPENS : goal.returns-then-count-ge-MAX_OPENS
returns-then-count-ge-MAX_OPENS c =
    let full : 64 ≤ length (opens_in c.self.inside.clients.entries c.args.client) = omega (arith, c.count.ensures, c.if-count-ge-MAX_OPENS.true) in
    rw (← c.self.view_is) (Refuses TooMany (too_many _ c.args.client c.args.file (sym c.sought.ensures ∙ c.in_default.is) full))

pub returns-then-self : goal.returns-then-self
returns-then-self c =
    let few : length (opens_in c.self.inside.clients.entries c.args.client) < 64 = omega (arith, c.count.ensures, c.if-count-ge-MAX_OPENS.false) in
    rw (← c.self.view_is) (Refuses Spent (spent _ c.args.client c.args.file (sym c.sought.ensures ∙ c.in_default.is) few c.if-self.true))

pub returns-in-Err : goal.returns-in-Err
returns-in-Err c = rw (← c.self.view_is) (wanted _ c.args.client c.args.file c.in-Err.e c.add.new.clients.entries c.in-Err.ensures.err)

pub returns : goal.returns
returns c =
    let few : length (opens_in c.self.inside.clients.entries c.args.client) < 64 = omega (arith, c.count.ensures, c.if-count-ge-MAX_OPENS.false) in
    rw (← c.self.view_is) (opened_new _ c.args.client c.args.file _ (sym c.sought.ensures ∙ c.in_default.is) few c.if-self.false c.in_default-add.ensures.ok)
