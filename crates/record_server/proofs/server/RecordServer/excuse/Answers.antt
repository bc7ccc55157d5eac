use Rattle.std.proofs.Common.{◌≡◌, ap, subst, ◌∙◌, List, Some, inr, refl}
use Rattle.std.specs.Prelude.{slice_get}
use Rattle.record_link.specs.Peers.{PeerState}
use Rattle.record_server.specs.Server.{ServingState, with_peer, HasNoNumber}
use Rattle.record_server.proofs.OrderLemmas.{orderly_set}
use Rattle.record_server.proofs.PlaceLemmas.{found_is, found_at, not_found, excused_done}
use Rattle.record_server.proofs.server.RecordServer.excuse.Goals as goal

pub invariant_of-self : goal.invariant_of-self
invariant_of-self g c =
    let s = c.self.inside in
    let e : PeerState = c.index_mut.result.now in
    let there : slice_get s.peers.items c.in-Some.place ≡ Some e = found_is c.args.number c.deref.result.now s.peers.items c.in-Some.place e c.deref.ensures.value c.in-Some.ensures.told c.index_mut.ensures.value in
    orderly_set s.peers.items s.given s.place c.in-Some.place e c.excuse.new.self there (ap (λ (y : PeerState). y.number) c.excuse.ensures) c.self.invariant

pub returns-in-Some : goal.returns-in-Some
returns-in-Some g c =
    let s = c.self.inside in
    let e : PeerState = c.index_mut.result.now in
    let listed : s.peers.items ≡ c.args.self.now.peers = ap (λ (x : ServingState). x.peers) c.self.view_is in
    let there : slice_get s.peers.items c.in-Some.place ≡ Some e = found_is c.args.number c.deref.result.now s.peers.items c.in-Some.place e c.deref.ensures.value c.in-Some.ensures.told c.index_mut.ensures.value in
    excused_done c.args.number c.args.self.now _ c.in-Some.place e
    (subst (λ (es : List PeerState). slice_get es c.in-Some.place ≡ Some e) listed there)
    (found_at c.args.number c.deref.result.now s.peers.items c.in-Some.place e c.deref.ensures.value c.in-Some.ensures.told c.index_mut.ensures.value)
    (λ i. with_peer (c.self.view_is i) c.in-Some.place (c.excuse.ensures i))

pub returns-in_default : goal.returns-in_default
returns-in_default g c =
    let same = c.deref.ensures.value ∙ ap (λ (x : ServingState). x.peers) c.self.view_is in
    inr (subst (HasNoNumber c.args.number) same (not_found c.args.number c.deref.result.now c.find.result c.in_default.not-Some c.find.ensures.told), refl)
