use Rattle.std.proofs.Common.{◌≡◌, refl, sym, subst}
use Rattle.mds_rule.specs.MdsStates.{CompoundRun}
use Rattle.nfs4_session.specs.declared.begin.Begin.{Begin}
use Rattle.nfs4_session.specs.Bindings.{after_binding}
use Rattle.nfs4_session.specs.Requests.{BeginsRequest}
use Rattle.mds_state.specs.contracts.state.State as state
use Rattle.mds_compounds.proofs.BeginLemmas.{bound_so}
use Rattle.mds_compounds.proofs.WalkLemmas.{on_ok}
use Rattle.mds_compounds.proofs.SequenceLemmas.{slot_room, new_so, refused_so, replayed_so, sends_kept}
use Rattle.mds_compounds.proofs.sequence.begin_sequence.Goals as goal

pub go_on-requires : goal.go_on-requires
go_on-requires c is = slot_room c.args.run.now c.take_slot.new.run c.args.sequence.now c.in_ok-end-in-New.end c.in_ok-end-in-New.ensures c.requires.room

pub returns-in_ok-end-in-New : goal.returns-in_ok-end-in-New
returns-in_ok-end-in-New c =
    let m = state.the_view c.state.inside in
    let s = c.args.sequence.now in
    let bound : c.bind.new.self ≡ after_binding m.sessions s.session c.args.run.now.node = subst (λ (r : CompoundRun). c.bind.new.self ≡ after_binding m.sessions s.session r.node) c.run.view_is (bound_so m.sessions c.bind.new.self s.session _ c.bind.result c.bind.ensures) in
    rw (← c.state.view_is)
    (on_ok c.go_on.result c.go_on.ensures
    (new_so c.args.now m c.args.run.now s c.bind.new.self _ bound c.args.out.now c.go_on.new.out c.go_on.new.state c.in-New.client c.in-New.slot c.in_ok-end-in-New.end c.take_slot.new.run (subst (λ (b : Begin). BeginsRequest c.bind.new.self s c.args.now b c.begin.follows.lender-at-none) c.in-New.is c.begin.follows.holds-at-none) c.in_ok-end-in-New.ensures))

pub returns-in_ok-end-in-Refused : goal.returns-in_ok-end-in-Refused
returns-in_ok-end-in-Refused c =
    let m = state.the_view c.state.inside in
    let s = c.args.sequence.now in
    let bound : c.bind.new.self ≡ after_binding m.sessions s.session c.args.run.now.node = subst (λ (r : CompoundRun). c.bind.new.self ≡ after_binding m.sessions s.session r.node) c.run.view_is (bound_so m.sessions c.bind.new.self s.session _ c.bind.result c.bind.ensures) in
    rw (← c.state.view_is)
    (on_ok c.go_on-in-Refused.result c.go_on-in-Refused.ensures
    (refused_so c.args.now m c.args.run.now s c.bind.new.self _ bound c.args.out.now c.go_on-in-Refused.new.out c.go_on-in-Refused.new.state c.in-Refused.status c.in_ok-end-in-Refused.end c.refuse.new.self (subst (λ (b : Begin). BeginsRequest c.bind.new.self s c.args.now b c.begin.follows.lender-at-none) c.in-Refused.is c.begin.follows.holds-at-none)
    c.in_ok-end-in-Refused.ensures.ends c.in_ok-end-in-Refused.ensures.run))

pub returns-in-Replay : goal.returns-in-Replay
returns-in-Replay c =
    let m = state.the_view c.state.inside in
    let s = c.args.sequence.now in
    let bound : c.bind.new.self ≡ after_binding m.sessions s.session c.args.run.now.node = subst (λ (r : CompoundRun). c.bind.new.self ≡ after_binding m.sessions s.session r.node) c.run.view_is (bound_so m.sessions c.bind.new.self s.session _ c.bind.result c.bind.ensures) in
    rw (← c.state.view_is)
    (on_ok c.repeat.result c.repeat.ensures.sends
    (λ sends.
    replayed_so c.args.now m c.args.run.now s c.bind.new.self c.begin.follows.lender-at-none bound c.args.out.now c.repeat.new.out _ _ c.in-Replay.reply.now (λ client slot is. absurd cc) (λ status is. absurd cc) (λ r is. sym is) (subst (λ (b : Begin). BeginsRequest c.bind.new.self s c.args.now b c.begin.follows.lender-at-none) c.in-Replay.is c.begin.follows.holds-at-none) c.repeat.ensures.entries
    (sends_kept c.args.out.now c.repeat.new.out c.run.inside.so_far.node c.run.inside.so_far.xid c.args.run.now c.run.view_is c.in-Replay.reply.now sends) refl))
