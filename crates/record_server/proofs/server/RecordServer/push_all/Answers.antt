use Rattle.std.proofs.Common.{◌≡◌, ◌+◌, subst, sym, ap, ◌∙◌, List, [], length, drop, refl, arith}
use Rattle.std.specs.Vec.{with_items}
use Rattle.std.proofs.lemmas.List.{with_items_is, drop_all}
use Rattle.record_link.specs.Peers.{PeerState}
use Rattle.record_server.specs.Server.{ServingState, PushesAt, RunsSteps, pushes_from}
use Rattle.record_server.proofs.EndLemmas.{IsPushing, pushes, pushed_length}
use Rattle.record_server.proofs.server.RecordServer.push_all.Goals as goal

pub loop-place-init : goal.loop-place-init
loop-place-init g c = record {
  orderly = c.self.invariant;
  goes = λ last runs. subst (λ (s : ServingState). RunsSteps (pushes_from 0 c.args.self.now.peers) s last) c.self.view_is runs;
  long = ap (λ (s : ServingState). length s.peers) c.self.view_is;
  timed = refl;
}

pub invariant_of-self : goal.invariant_of-self
invariant_of-self g c = c.loop-place.invariant.orderly

pub loop-place-preserved : goal.loop-place-preserved
loop-place-preserved g c =
    let s = c.loop-place.self-inside in
    let now : ServingState = record { peers = s.peers.items; given = s.given; time = s.time; place = s.place; handed = s.handed; waiting = g.N.Network.waiting s.network; made = g.N.Network.made s.network; reported = g.N.Network.reported s.network; moment = g.N.Network.moment s.network; faults = g.N.Network.faults s.network } in
    let pushed : PushesAt c.loop-place.place c.self.inside.time s.peers.items c.push_at.new.peers =
    subst (λ (es : List PeerState). PushesAt c.loop-place.place c.self.inside.time es c.push_at.new.peers) c.deref_mut.ensures.value c.push_at.ensures in
    let long : length c.push_at.new.peers ≡ s.peers.len = pushed_length c.loop-place.place c.self.inside.time s.peers.items c.push_at.new.peers pushed ∙ sym s.peers.ok.0 in
    let is : (with_items s.peers c.push_at.new.peers).items ≡ c.push_at.new.peers = with_items_is s.peers c.push_at.new.peers long in
    subst (λ (es : List PeerState). IsPushing c.args.self.now (record now { peers = es }) c.self.inside.time (c.loop-place.place + 1)) (sym is)
    (pushes c.args.self.now now (record now { peers = c.push_at.new.peers }) c.self.inside.time c.loop-place.place pushed refl c.loop-place.invariant)

pub returns : goal.returns
returns g c =
    let s = c.loop-place.self-inside in
    let now : ServingState = record { peers = s.peers.items; given = s.given; time = s.time; place = s.place; handed = s.handed; waiting = g.N.Network.waiting s.network; made = g.N.Network.made s.network; reported = g.N.Network.reported s.network; moment = g.N.Network.moment s.network; faults = g.N.Network.faults s.network } in
    let all : drop c.loop-place.place c.args.self.now.peers ≡ [] = drop_all c.loop-place.place c.args.self.now.peers
    (omega (arith, ap (λ (x : ServingState). length x.peers) c.self.view_is, c.self.inside.peers.ok.0, c.len-place-end.ensures, c.loop-place-test.false)) in
    c.loop-place.invariant.goes now (subst (λ (es : List PeerState). RunsSteps (pushes_from c.loop-place.place es) now now) (sym all) refl)
