use Rattle.std.proofs.Common.{◌≡◌, Some, ap, sym, subst, ◌∙◌}
use Rattle.record_link.specs.Kept.{front_with, HoldsFront}
use Rattle.record_link.proofs.ConnectionLemmas.{handed_kept, handed_on}
use Rattle.record_link.proofs.connection.Connection.next_record.Goals as goal

pub invariant_of-self-2 : goal.invariant_of-self-2
invariant_of-self-2 c = handed_kept c.self.inside.frames c.self.inside.whole c.take.new.self c.in_ok-message.message c.self.inside.refused (sym c.take.ensures.value ∙ c.in_ok-message.was) c.self.invariant c.take.ensures.after

pub returns-clause-goes_on : goal.returns-clause-goes_on
returns-clause-goes_on c came messages come =
    let is : c.self.inside.whole ≡ Some c.in_ok-message.message = sym c.take.ensures.value ∙ c.in_ok-message.was in
    let whole = ap (λ s. s.front) (sym c.self.view_is) ∙ ap (λ w. front_with c.self.inside.frames w) is in
    let behind = subst (λ w. HoldsFront c.self.inside.frames w) is c.self.invariant.behind in
    handed_on came messages c.args.self.now _ c.in_ok-message.message whole (ap (λ w. front_with c.self.inside.frames w) c.take.ensures.after ∙ behind) (ap (λ s. s.ahead) c.self.view_is) come
