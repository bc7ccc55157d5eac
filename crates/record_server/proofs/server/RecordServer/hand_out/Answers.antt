use Rattle.std.proofs.Common.{◌≡◌, ◌<◌, ◌-◌, ◌+◌, ℕ, true, List, length, refl, sym, ap, subst, ◌∙◌, arith, Option, Some, Ok}
use Rattle.std.specs.Prelude.{slice_get}
use Rattle.std.proofs.lemmas.Option.{slice_get_read}
use Rattle.std.proofs.lemmas.Result.{err_from_is_err_and}
use Rattle.record_link.specs.Peers.{is_ready, HandsPeer}
use Rattle.record_server.proofs.NumberLemmas.{hands_number}
use Rattle.record_server.proofs.OrderLemmas.{orderly_set}
use Rattle.record_server.proofs.RoundLemmas.{same_element}
use Rattle.record_server.proofs.server.RecordServer.hand_out.Goals as goal

pub invariant_of-self : goal.invariant_of-self
invariant_of-self g c =
    let peers = c.self.inside.peers.items in
    let place = c.self.inside.place - 1 in
    let peer = c.index_mut-peer.result.now in
    let within : c.self.inside.place - 1 < length c.self.inside.peers.items = omega (arith, c.if-self-eq0.false, c.self.invariant.within) in
    let there : slice_get peers place ≡ Some peer = slice_get_read peers (length peers) place peer refl within c.index_mut-peer.ensures.value in
    orderly_set peers c.self.inside.given c.self.inside.place place peer c.hand_out.new.self there (hands_number peer c.hand_out.result c.hand_out.new.self c.hand_out.ensures) c.self.invariant

pub returns-in_err-message : goal.returns-in_err-message
returns-in_err-message g c =
    let peers = c.self.inside.peers.items in
    let place = c.self.inside.place - 1 in
    let peer = c.index_mut-peer.result.now in
    let within : c.self.inside.place - 1 < length c.self.inside.peers.items = omega (arith, c.if-self-eq0.false, c.self.invariant.within) in
    let there : slice_get peers place ≡ Some peer = slice_get_read peers (length peers) place peer refl within c.index_mut-peer.ensures.value in
    let last : c.self.inside.place ≡ c.self.inside.place - 1 + 1 = omega (arith, c.if-self-eq0.false) in
    let p = err_from_is_err_and c.from_residual.result c.from_residual.ensures.1 in
    rw (p.1, ← c.self.view_is) (c.in_err-message.field-0.0, place, peer, c.hand_out.new.self, last, there, c.in_err-message.ensures, refl)

pub invariant_of-self-2 : goal.invariant_of-self-2
invariant_of-self-2 g c =
    let peers = c.self.inside.peers.items in
    let place = c.self.inside.place - 1 in
    let peer = c.index_mut-peer.result.now in
    let within : c.self.inside.place - 1 < length c.self.inside.peers.items = omega (arith, c.if-self-eq0.false, c.self.invariant.within) in
    let there : slice_get peers place ≡ Some peer = slice_get_read peers (length peers) place peer refl within c.index_mut-peer.ensures.value in
    orderly_set peers c.self.inside.given c.self.inside.place place peer c.hand_out.new.self there (hands_number peer c.hand_out.result c.hand_out.new.self c.hand_out.ensures) c.self.invariant

pub returns : goal.returns
returns g c =
    let peers = c.self.inside.peers.items in
    let place = c.self.inside.place - 1 in
    let peer = c.index_mut-peer.result.now in
    let seen = c.index.result.now in
    let within : c.self.inside.place - 1 < length c.self.inside.peers.items = omega (arith, c.if-self-eq0.false, c.self.invariant.within) in
    let there : slice_get peers place ≡ Some peer = slice_get_read peers (length peers) place peer refl within c.index_mut-peer.ensures.value in
    let first : slice_get peers place ≡ Some seen = slice_get_read peers (length peers) place seen refl within c.index.ensures in
    let same : seen ≡ peer = same_element peers place seen peer first there in
    let ready : is_ready peer ≡ true = ap is_ready (sym same) ∙ sym c.is_ready.ensures ∙ c.if-not-is_ready.false in
    rw (← c.self.view_is) (record {
      place = place;
      peer = peer;
      after = c.hand_out.new.self;
      last = omega (arith, c.if-self-eq0.false);
      at = there;
      numbered = sym c.number-number.ensures;
      ready = ready;
      few = c.if-self-ge-MOST_HANDED.false;
      hands = subst (λ (r : Option (List ℕ)). HandsPeer peer (Ok r) c.hand_out.new.self) c.in-Some.is c.in_ok-message.ensures;
      rest = refl;
    })
