use Rattle.std.proofs.Common.{◌≡◌, ap, subst, ◌∙◌, List, Option}
use Rattle.cluster_model.specs.declared.ids.NodeId.TheVariants.{Server}
use Rattle.device_addr.specs.declared.net_addr.NetAddr.{NetAddr}
use Rattle.node_link.specs.Link.{address_numbered}
use Rattle.node_link.specs.NodeLinks.{LinkState, SendsMadeOr}
use Rattle.node_link.proofs.LinkLemmas.{to_mds, to_server}
use Rattle.node_link.proofs.network_link.NodeLinkLink.send.Goals as goal

pub returns-in-Mds-clause-sends : goal.returns-in-Mds-clause-sends
returns-in-Mds-clause-sends g c =
    let i = c.self.inside in
    let l : LinkState = record { opened = i.opened; mds = i.mds; servers = i.servers.items; server = i.server; callees = i.callees; calls = i.calls; silence = i.silence; faults = i.faults } in
    rw (← c.self.view_is) (to_mds l c.args.to c.bytes.result.now c.args.message c.time.result c.in-Some.server c.send_made.new.server c.send_made.new.callees c.go_out.new.calls c.send_made.result c.in-Some.is c.bytes.ensures c.time.ensures
    c.in_ok-go_out.ensures.goes c.in-Mds.is c.send_made.ensures)

pub returns-in-Server-clause-sends : goal.returns-in-Server-clause-sends
returns-in-Server-clause-sends g c =
    let i = c.self.inside in
    let l : LinkState = record { opened = i.opened; mds = i.mds; servers = i.servers.items; server = i.server; callees = i.callees; calls = i.calls; silence = i.silence; faults = i.faults } in
    let address : c.address_numbered-address.result ≡ address_numbered i.servers.items c.in-Server.number = c.address_numbered-address.ensures ∙ ap (λ (xs : List NetAddr). address_numbered xs c.in-Server.number) c.deref.ensures.value in
    let sends : SendsMadeOr (Server c.in-Server.number) (address_numbered i.servers.items c.in-Server.number) c.args.message c.in-Some.server i.callees c.send_made-in-Server.result c.send_made-in-Server.new.server c.send_made-in-Server.new.callees =
    subst (λ (a : Option NetAddr). SendsMadeOr (Server c.in-Server.number) a c.args.message c.in-Some.server i.callees c.send_made-in-Server.result c.send_made-in-Server.new.server c.send_made-in-Server.new.callees) address c.send_made-in-Server.ensures in
    rw (← c.self.view_is) (to_server l c.args.to c.bytes.result.now c.args.message c.time.result c.in-Some.server c.send_made-in-Server.new.server c.send_made-in-Server.new.callees c.go_out.new.calls c.send_made-in-Server.result c.in-Some.is c.bytes.ensures c.time.ensures
    c.in_ok-go_out.ensures.goes c.in-Server.number c.in-Server.is sends)
