use Rattle.std.proofs.Common.{rules, ℕ, subst, sym, MatchOption, Option}
use Rattle.std.proofs.lemmas.List.Sorted.{answers_always}
use Rattle.record_link.specs.Peers.{PeerState}
use Rattle.record_server.proofs.FindLemmas.{searched}
use Rattle.record_server.specs.Server.{HasNoNumber, IsPlaceOf}
use Rattle.record_server.proofs.peers.find.Goals as goal

pub returns-clause-told : goal.returns-clause-told
returns-clause-told g c =
    let peers = c.args.peers.now in
    let facts = c.binary_search_by_key.ensures in
    let by_key = facts.position (λ (e : PeerState). e.number) (answers_always _ _ _ (λ f a r g called. search rules)) in
    subst (λ (r : Option ℕ). MatchOption r (HasNoNumber c.args.number peers) (λ place. IsPlaceOf c.args.number peers place)) (sym c.ok.ensures.value) (searched peers c.requires c.args.number c.binary_search_by_key.result facts.bound by_key)
