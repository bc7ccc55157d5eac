use Rattle.std.proofs.Common.{rules, ◌≡◌, ◌==◌, ap, subst, sym, ◌∙◌, Bool, List, length, Some}
use Rattle.std.specs.Prelude.{slice_get}
use Rattle.std.specs.List.{filter}
use Rattle.std.proofs.lemmas.Fn.{filter_same}
use Rattle.std.proofs.lemmas.Bool.{eqb-true}
use Rattle.record_link.specs.Peers.{PeerState}
use Rattle.record_server.specs.Server.{ServingState, IsOrderly}
use Rattle.record_server.proofs.FilterLemmas.{filter_passes}
use Rattle.record_server.proofs.OrderLemmas.{orderly_filter}
use Rattle.record_server.proofs.server.RecordServer.close_owing.Goals as goal

abbrev owes_none : PeerState → Bool
owes_none e = length e.connection.to_go == 0

pub invariant_of-self : goal.invariant_of-self
invariant_of-self g c =
    let s = c.self.inside in
    let kept : c.retain.new.self.items ≡ filter owes_none s.peers.items = filter_same _ owes_none _ (λ x b f' k. search rules) _ _ c.retain.ensures.filtered in
    subst (λ (es : List PeerState). IsOrderly es s.given 0) (sym kept) (orderly_filter owes_none s.peers.items s.given s.place c.self.invariant)

pub returns-clause-ends : goal.returns-clause-ends
returns-clause-ends g c =
    let s = c.self.inside in
    let kept : c.retain.new.self.items ≡ filter owes_none s.peers.items = filter_same _ owes_none _ (λ x b f' k. search rules) _ _ c.retain.ensures.filtered in
    let all : c.retain.new.self.items ≡ filter owes_none c.args.self.now.peers = kept ∙ ap (λ (x : ServingState). filter owes_none x.peers) c.self.view_is in
    λ i. record (c.self.view_is i) { peers = all i; place = 0; handed = 0 }

pub returns-clause-given : goal.returns-clause-given
returns-clause-given g c =
    let s = c.self.inside in
    let kept : c.retain.new.self.items ≡ filter owes_none s.peers.items = filter_same _ owes_none _ (λ x b f' k. search rules) _ _ c.retain.ensures.filtered in
    λ i e there. eqb-true _ _ (filter_passes owes_none s.peers.items i e (subst (λ (es : List PeerState). slice_get es i ≡ Some e) kept there))
