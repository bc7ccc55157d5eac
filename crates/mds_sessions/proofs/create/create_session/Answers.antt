use Rattle.std.proofs.Common.{OnOk, ◌≡◌, ap, subst, ◌∙◌}
use Rattle.nfs4_types.specs.Channels.{channel_attrs4_value}
use Rattle.nfs4_session.specs.CreateSessions.{create_session_case, after_creating}
use Rattle.mds_rule.specs.MdsStates.{CompoundRun}
use Rattle.mds_rule.specs.OpSteps.{with_result}
use Rattle.mds_sessions.proofs.SessionEnds.{created_so}
use Rattle.mds_sessions.proofs.create.create_session.Goals as goal

pub returns-in_ok-end_gone-in-Ok-clause-op : goal.returns-in_ok-end_gone-in-Ok-clause-op
returns-in_ok-end_gone-in-Ok-clause-op c =
    let s = c.state.inside.sessions in
    let a = c.args.args.now in
    let case = create_session_case s a.clientid a.sequence in
    rw (← c.state.view_is)
    (created_so _ c.end_gone.new.state c.confirm.new.state c.run.inside.so_far.node c.args.run.now c.give.new.self a.clientid a.sequence (channel_attrs4_value a.fore) (channel_attrs4_value a.back) a.cb_program c.args.now case c.in-Ok.created
    c.create_session.new.self c.give.result c.args.out.now c.end_gone.new.out c.in-Ok.ensures.0
    (c.in-Ok.ensures.1 ∙ ap (λ (r : CompoundRun). after_creating s a.cb_program r.node c.args.now case) c.run.view_is)
    (ap (λ (r : CompoundRun). r.node) c.run.view_is) c.in_ok-confirm-in-Ok.ensures
    c.in_ok-end_gone-in-Ok.ensures.steps c.in_ok-end_gone-in-Ok.ensures.silent c.give.ensures.goes
    (subst (λ v. OnOk c.give.result (c.give.new.self ≡ with_result c.args.run.now v)) c.create_result.ensures.value c.give.ensures.run))
