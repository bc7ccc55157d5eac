use Rattle.std.proofs.Common.{◌≡◌, ◌<◌, ℕ, List, Some, sym, ap, subst, ◌∙◌}
use Rattle.std.specs.Prelude.{slice_get}
use Rattle.cluster_model.proofs.Elements.{slice_get-push}
use Rattle.served_files.specs.Tickets.{TicketsValue, AreRisingNumbers, ticket_of}
use Rattle.served_files.proofs.TicketLemmas.{rise_pushed}
use Rattle.served_files.proofs.tickets.Tickets.push.Goals as goal

pub invariant_of-self-2 : goal.invariant_of-self-2
invariant_of-self-2 c =
    let above = subst (λ (v : TicketsValue). (place t : ℕ) → slice_get v.tickets place ≡ Some t → t < c.in-Some.ticket) (sym c.self.view_is) c.in-Some.ensures in
    subst AreRisingNumbers (sym c.in_ok-push.ensures.items) (rise_pushed c.self.inside.tickets.items c.in-Some.ticket c.self.invariant above)

pub returns-clause-kept : goal.returns-clause-kept
returns-clause-kept c = λ xid place (ticket, at, there). (
  ticket,
  ap (λ (v : TicketsValue). ticket_of xid v.out) c.self.view_is ∙ at,
  ap (λ (l : List ℕ). slice_get l place) c.in_ok-push.ensures.items
      ∙ slice_get-push c.self.inside.tickets.items place ticket c.in-Some.ticket (ap (λ (v : TicketsValue). slice_get v.tickets place) c.self.view_is ∙ there),
)
