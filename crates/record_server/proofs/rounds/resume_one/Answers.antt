use Rattle.std.proofs.Common.{◌≡◌, ◌∙◌, set, ap, sym, refl, Some}
use Rattle.std.specs.Prelude.{slice_get}
use Rattle.record_link.specs.Peers.{PeerState, resumed}
use Rattle.record_server.proofs.PlaceLemmas.{found_is, found_at, not_found}
use Rattle.record_server.proofs.RoundLemmas.{one_resumed, none_resumed}
use Rattle.record_server.proofs.rounds.resume_one.Goals as goal

pub returns-in-Some : goal.returns-in-Some
returns-in-Some g c =
    let es = c.args.peers.now in
    let number = c.args.number in
    let e : PeerState = c.index-peers-place.result in
    let there : slice_get es c.in-Some.place ≡ Some e = found_is number es es c.in-Some.place e refl c.in-Some.ensures.told c.index-peers-place.is in
    let numbered : e.number ≡ number = found_at number es es c.in-Some.place e refl c.in-Some.ensures.told c.index-peers-place.is in
    ap (λ (y : PeerState). set es c.in-Some.place y) (c.resume.ensures ∙ ap resumed (sym c.index-peers-place.is))
    ∙ one_resumed number 0 es c.in-Some.place e c.requires there numbered

pub returns-in_default : goal.returns-in_default
returns-in_default g c =
    let es = c.args.peers.now in
    sym (none_resumed c.args.number es (not_found c.args.number es c.find.result c.in_default.not-Some c.find.ensures.told))
