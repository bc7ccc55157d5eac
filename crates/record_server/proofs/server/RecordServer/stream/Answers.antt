use Rattle.std.proofs.Common.{◌≡◌, ap, subst, List, Some}
use Rattle.std.specs.Prelude.{slice_get}
use Rattle.record_link.specs.Peers.{PeerState}
use Rattle.record_server.specs.Server.{ServingState}
use Rattle.record_server.proofs.PlaceLemmas.{found_is, found_at}
use Rattle.record_server.proofs.server.RecordServer.stream.Goals as goal

pub returns-in-Some : goal.returns-in-Some
returns-in-Some g c =
    let items = c.self.inside.peers.items in
    let e : PeerState = c.index.result.now in
    let listed : items ≡ c.args.self.now.peers = ap (λ (x : ServingState). x.peers) c.self.view_is in
    let there : slice_get items c.in-Some.place ≡ Some e = found_is c.args.number c.deref.result.now items c.in-Some.place e c.deref.ensures.value c.in-Some.ensures.told c.index.ensures in (
      c.in-Some.place,
      record {
        peer = e;
        at = subst (λ (es : List PeerState). slice_get es c.in-Some.place ≡ Some e) listed there;
        numbered = found_at c.args.number c.deref.result.now items c.in-Some.place e c.deref.ensures.value c.in-Some.ensures.told c.index.ensures;
      },
      c.stream.ensures.coming,
      c.stream.ensures.gone,
    )
