use Rattle.std.proofs.Common.{arith, refl}
use Rattle.node_link.specs.NodeLinks.{LinkState}
use Rattle.node_link.proofs.LinkLemmas.{one_ready}
use Rattle.node_link.proofs.network_link.NodeLinkLink.ready.Goals as goal

pub returns-clause-gives : goal.returns-clause-gives
returns-clause-gives g c =
    let i = c.self.inside in
    let l : LinkState = record { opened = i.opened; mds = i.mds; servers = i.servers.items; server = i.server; callees = i.callees; calls = i.calls; silence = i.silence; faults = i.faults } in
    rw (← c.self.view_is) (one_ready l c.in-Some.server c.next.new.self _ c.in-Ok-Some.field-0 c.in-Ok-Some.number c.from-from.result c.in-Ok-Some.bytes c.bytes.result.now c.time-came.result c.replied_number.result c.come_in.new.self c.behind_arrival-self-inside.result c.in-Some.is
    c.time-now.result (λ early. absurd (omega (arith, early, c.earliest.ensures, c.if-earliest-now.false))) c.in-Ok-Some.field-0-is c.in-Ok-Some.ensures c.from-from.ensures c.time-came.ensures c.bytes.ensures c.replied_number.ensures c.come_in.ensures c.behind_arrival-self-inside.ensures)
