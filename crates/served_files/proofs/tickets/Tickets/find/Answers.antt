use Rattle.std.proofs.Common.{◌≡◌, ℕ, Some, List, sym, ap, subst, ◌∙◌}
use Rattle.std.specs.Prelude.{slice_get}
use Rattle.std.proofs.lemmas.Option.{same_Some}
use Rattle.served_files.specs.Tickets.{TicketsValue, AreRisingNumbers, ticket_of}
use Rattle.served_files.proofs.TicketLemmas.{found_at}
use Rattle.served_files.proofs.tickets.Tickets.find.Goals as goal

pub returns-clause-found : goal.returns-clause-found
returns-clause-found c = λ place (ticket, at, there).
    let t = c.self.inside in
    let looked = c.in_ok-ticket.field-0.now in
    let same : ticket ≡ looked = same_Some _ _ (sym at ∙ ap (λ (v : TicketsValue). ticket_of c.args.xid v.out) (sym c.self.view_is) ∙ sym c.in_ok-ticket.ensures.value) in
    let here : slice_get c.deref.result.now place ≡ Some looked =
    ap (λ (l : List ℕ). slice_get l place) c.deref.ensures.value ∙ ap (λ (v : TicketsValue). slice_get v.tickets place) c.self.view_is ∙ there ∙ ap Some same in
    c.ok.ensures.value ∙ found_at c.deref.result.now looked place c.binary_search.result (subst AreRisingNumbers (sym c.deref.ensures.value) c.self.invariant) c.binary_search.ensures.position here
