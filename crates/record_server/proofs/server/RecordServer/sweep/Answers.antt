use Rattle.std.proofs.Common.{rules, ◌≡◌, ◌∙◌, ap, Bool, not, subst, sym, List}
use Rattle.std.specs.List.{filter}
use Rattle.std.proofs.lemmas.Fn.{filter_same}
use Rattle.record_link.specs.Peers.{PeerState, is_to_close}
use Rattle.record_server.specs.Server.{ServingState, IsOrderly}
use Rattle.record_server.proofs.OrderLemmas.{orderly_filter}
use Rattle.record_server.proofs.server.RecordServer.sweep.Goals as goal

abbrev is_kept : PeerState → Bool
is_kept e = not (is_to_close e)

pub invariant_of-self : goal.invariant_of-self
invariant_of-self g c =
    let s = c.self.inside in
    let kept : c.retain.new.self.items ≡ filter is_kept s.peers.items = filter_same _ is_kept _ (λ x b f' k. search rules) _ _ c.retain.ensures.filtered in
    subst (λ (es : List PeerState). IsOrderly es s.given 0) (sym kept) (orderly_filter is_kept s.peers.items s.given s.place c.self.invariant)

pub returns : goal.returns
returns g c =
    let s = c.self.inside in
    let kept : c.retain.new.self.items ≡ filter is_kept s.peers.items = filter_same _ is_kept _ (λ x b f' k. search rules) _ _ c.retain.ensures.filtered in
    let all : c.retain.new.self.items ≡ filter is_kept c.args.self.now.peers = kept ∙ ap (λ (x : ServingState). filter is_kept x.peers) c.self.view_is in
    λ i. record (c.self.view_is i) { peers = all i; place = 0; handed = 0 }
