-- No data file belongs to a uid above the highest that was drawn for its file.
use Rattle.std.proofs.Common.{List, arith}
use Rattle.std.proofs.lemmas.Option.{slice_get_within}
use Rattle.cluster_model.specs.declared.entry.Entry.{Entry}
use Rattle.cluster_model.specs.Server.{ServerState}
use Rattle.cluster_model.specs.DsCalls.{mirror_name}
use Rattle.cluster_laws.specs.Machine.{Machine}
use Rattle.cluster_laws.proofs.Lists.{at_place}
use Rattle.cluster_laws.proofs.Invariant.{Drawn, net_of, Holds}
use Rattle.cluster_laws.proofs.CallsOut.{AreBounded}

pub bounded_now : (m : Machine) (journal : List Entry) (d : Drawn) → Holds m journal d → AreBounded (net_of m d)
bounded_now m journal d h = λ id name bears less.
    let s : ServerState = bears.server in
    let o = h.servers id.server s bears.there in
    let within = slice_get_within s.names bears.index (mirror_name name) bears.named in
    let size = o.in_order.names in
    let file = at_place s.files bears.index (omega (arith, within, size)) in
    let bound = o.owners bears.index file.0 name file.1 bears.named less in
    record { server = s; there = bears.there; index = bears.index; place = bears.place; file = file.0; is = file.1; most = bound.1 }
