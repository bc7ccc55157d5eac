use Rattle.std.proofs.Common.{◌≡◌, ◌<◌, ◌-◌, ◌+◌, length, refl, inr, arith, Some}
use Rattle.std.specs.Prelude.{slice_get}
use Rattle.std.proofs.lemmas.Option.{slice_get_read}
use Rattle.record_link.specs.Peers.{is_to_write}
use Rattle.record_server.proofs.NumberLemmas.{writes_number}
use Rattle.record_server.proofs.OrderLemmas.{orderly_set}
use Rattle.record_server.proofs.server.RecordServer.leave.Goals as goal

pub invariant_of-self : goal.invariant_of-self
invariant_of-self g c =
    let peers = c.self.inside.peers.items in
    let place = c.self.inside.place - 1 in
    let peer = c.index_mut-peer.result.now in
    let within : c.self.inside.place - 1 < length c.self.inside.peers.items = omega (arith, c.if-self-eq0.false, c.self.invariant.within) in
    let there : slice_get peers place ≡ Some peer = slice_get_read peers (length peers) place peer refl within c.index_mut-peer.ensures.value in
    orderly_set peers c.self.inside.given c.self.inside.place place peer c.write.new.self there (writes_number (is_to_write c.self.inside.time peer) c.self.inside.time peer c.write.new.self c.write.ensures) c.self.invariant

pub returns : goal.returns
returns g c =
    let peers = c.self.inside.peers.items in
    let place = c.self.inside.place - 1 in
    let peer = c.index_mut-peer.result.now in
    let within : c.self.inside.place - 1 < length c.self.inside.peers.items = omega (arith, c.if-self-eq0.false, c.self.invariant.within) in
    let there : slice_get peers place ≡ Some peer = slice_get_read peers (length peers) place peer refl within c.index_mut-peer.ensures.value in
    let last : c.self.inside.place ≡ c.self.inside.place - 1 + 1 = omega (arith, c.if-self-eq0.false) in
    rw (← c.self.view_is) (inr (place, peer, c.write.new.self, last, there, c.write.ensures, refl))
