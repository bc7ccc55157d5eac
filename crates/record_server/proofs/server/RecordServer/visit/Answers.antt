use Rattle.std.proofs.Common.{◌≡◌, ◌<◌, length, refl, Some}
use Rattle.std.specs.Prelude.{slice_get}
use Rattle.std.proofs.lemmas.Option.{slice_get_read}
use Rattle.std.proofs.lemmas.Result.{err_from_is_err_and}
use Rattle.record_server.proofs.NumberLemmas.{visits_number}
use Rattle.record_server.proofs.OrderLemmas.{orderly_set, orderly_visit}
use Rattle.record_server.proofs.server.RecordServer.visit.Goals as goal

pub invariant_of-self : goal.invariant_of-self
invariant_of-self g c =
    let peers = c.self.inside.peers.items in
    let peer = c.index_mut-peer.result.now in
    let within : c.self.inside.place < length c.self.inside.peers.items = rw (← c.self.view_is) at c.requires in
    let there : slice_get peers c.self.inside.place ≡ Some peer = slice_get_read peers (length peers) c.self.inside.place peer refl within c.index_mut-peer.ensures.value in
    orderly_set peers c.self.inside.given c.self.inside.place c.self.inside.place peer c.visit.new.self there (visits_number c.self.inside.time peer c.visit.result c.visit.new.self c.visit.ensures) c.self.invariant

pub returns-in_err-came : goal.returns-in_err-came
returns-in_err-came g c =
    let peers = c.self.inside.peers.items in
    let peer = c.index_mut-peer.result.now in
    let within : c.self.inside.place < length c.self.inside.peers.items = rw (← c.self.view_is) at c.requires in
    let there : slice_get peers c.self.inside.place ≡ Some peer = slice_get_read peers (length peers) c.self.inside.place peer refl within c.index_mut-peer.ensures.value in
    let p = err_from_is_err_and c.from_residual.result c.from_residual.ensures.1 in
    rw (p.1, ← c.self.view_is) (c.in_err-came.field-0.0, peer, c.visit.new.self, there, c.in_err-came.ensures, refl)

pub invariant_of-self-2 : goal.invariant_of-self-2
invariant_of-self-2 g c =
    let peers = c.self.inside.peers.items in
    let peer = c.index_mut-peer.result.now in
    let within : c.self.inside.place < length c.self.inside.peers.items = rw (← c.self.view_is) at c.requires in
    let there : slice_get peers c.self.inside.place ≡ Some peer = slice_get_read peers (length peers) c.self.inside.place peer refl within c.index_mut-peer.ensures.value in
    orderly_visit peers c.self.inside.given c.self.inside.place peer c.visit.new.self there (visits_number c.self.inside.time peer c.visit.result c.visit.new.self c.visit.ensures) c.self.invariant

pub returns : goal.returns
returns g c =
    let peers = c.self.inside.peers.items in
    let peer = c.index_mut-peer.result.now in
    let within : c.self.inside.place < length c.self.inside.peers.items = rw (← c.self.view_is) at c.requires in
    let there : slice_get peers c.self.inside.place ≡ Some peer = slice_get_read peers (length peers) c.self.inside.place peer refl within c.index_mut-peer.ensures.value in
    rw (← c.self.view_is) (c.in_ok-came.came, (peer, c.visit.new.self, there, c.in_ok-came.ensures, refl))
