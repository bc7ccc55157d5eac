use Rattle.std.proofs.Common.{◌≡◌, ap, subst, ◌∙◌, List, Some, inl, inr, refl}
use Rattle.std.specs.Prelude.{slice_get}
use Rattle.record_link.specs.Peers.{PeerState}
use Rattle.record_server.specs.Server.{ServingState, with_peer, HasNoNumber}
use Rattle.record_server.proofs.NumberLemmas.{puts_number}
use Rattle.record_server.proofs.OrderLemmas.{orderly_set}
use Rattle.record_server.proofs.PlaceLemmas.{found_is, found_at, puts_done}
use Rattle.record_server.proofs.server.put_on.Goals as goal

pub invariant_of-server : goal.invariant_of-server
invariant_of-server g c =
    let s = c.server.inside in
    let e : PeerState = c.index_mut-peer.result.now in
    let there : slice_get s.peers.items c.in-Some.place ≡ Some e = found_is c.args.number c.deref.result.now s.peers.items c.in-Some.place e c.deref.ensures.value c.in-Some.ensures.told c.index_mut-peer.ensures.value in
    orderly_set s.peers.items s.given s.place c.in-Some.place e c.put.new.self there (puts_number e c.args.message c.put.result c.put.new.self c.put.ensures) c.server.invariant

pub returns-in-Some : goal.returns-in-Some
returns-in-Some g c =
    let s = c.server.inside in
    let e : PeerState = c.index_mut-peer.result.now in
    let listed : s.peers.items ≡ c.args.server.now.peers = ap (λ (x : ServingState). x.peers) c.server.view_is in
    let there : slice_get s.peers.items c.in-Some.place ≡ Some e = found_is c.args.number c.deref.result.now s.peers.items c.in-Some.place e c.deref.ensures.value c.in-Some.ensures.told c.index_mut-peer.ensures.value in
    puts_done c.args.number c.args.message c.args.server.now _ c.in-Some.place e c.put.new.self c.put.result
    (subst (λ (es : List PeerState). slice_get es c.in-Some.place ≡ Some e) listed there)
    (found_at c.args.number c.deref.result.now s.peers.items c.in-Some.place e c.deref.ensures.value c.in-Some.ensures.told c.index_mut-peer.ensures.value)
    c.put.ensures
    (ap (λ (x : ServingState). with_peer x c.in-Some.place c.put.new.self) c.server.view_is)

pub returns-in-None : goal.returns-in-None
returns-in-None g c =
    let same = c.deref.ensures.value ∙ ap (λ (x : ServingState). x.peers) c.server.view_is in
    inr (inl (subst (HasNoNumber c.args.number) same c.in-None.ensures.told), refl)
