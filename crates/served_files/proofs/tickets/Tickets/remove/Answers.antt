use Rattle.std.proofs.Common.{◌≡◌, ◌+◌, ◌<◌, ℕ, true, List, length, sym, subst}
use Rattle.std.proofs.lemmas.List.Quantifiers.{all_pairs_remove}
use Rattle.served_files.specs.Tickets.{TicketsValue, FindsTicket, AreRisingNumbers}
use Rattle.served_files.proofs.TicketLemmas.{finds_before, finds_behind}
use Rattle.served_files.proofs.tickets.Tickets.remove.Goals as goal

pub invariant_of-self : goal.invariant_of-self
invariant_of-self c =
    let within = subst (λ (t : TicketsValue). t.is_whole ≡ true → c.args.place < length t.tickets) (sym c.self.view_is) c.requires c.if-self.true in
    subst AreRisingNumbers (sym c.remove.ensures.items) (all_pairs_remove (λ (a b : ℕ). a < b) c.self.inside.tickets.items c.args.place within c.self.invariant)

pub returns-then-self-clause-before : goal.returns-then-self-clause-before
returns-then-self-clause-before c = λ whole xid p low found.
    let t = c.self.inside in
    let within = subst (λ (t : TicketsValue). t.is_whole ≡ true → c.args.place < length t.tickets) (sym c.self.view_is) c.requires c.if-self.true in
    let old = subst (λ (t : TicketsValue). FindsTicket t xid p) (sym c.self.view_is) found in
    subst (λ (l : List ℕ). FindsTicket (record { is_whole = t.is_whole; tickets = l; out = t.out.entries }) xid p) (sym c.remove.ensures.items)
    (finds_before t.is_whole t.tickets.items t.out.entries c.args.place within xid p low old)

pub returns-then-self-clause-behind : goal.returns-then-self-clause-behind
returns-then-self-clause-behind c = λ whole xid p high found.
    let t = c.self.inside in
    let within = subst (λ (t : TicketsValue). t.is_whole ≡ true → c.args.place < length t.tickets) (sym c.self.view_is) c.requires c.if-self.true in
    let old = subst (λ (t : TicketsValue). FindsTicket t xid (p + 1)) (sym c.self.view_is) found in
    subst (λ (l : List ℕ). FindsTicket (record { is_whole = t.is_whole; tickets = l; out = t.out.entries }) xid p) (sym c.remove.ensures.items)
    (finds_behind t.is_whole t.tickets.items t.out.entries c.args.place within xid p high old)
