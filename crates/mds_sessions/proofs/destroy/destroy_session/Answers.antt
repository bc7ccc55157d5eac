use Rattle.std.proofs.Common.{cond, subst, sym, ◌∙◌}
use Rattle.std.specs.Prelude.{is_some}
use Rattle.nfs4_session.specs.Clients.{session_of}
use Rattle.nfs4_session.specs.Ends.{without_session}
use Rattle.nfs4_types.specs.declared.status.Stat4.TheVariants as stat
use Rattle.mds_rule.specs.OpSteps.{refuses}
use Rattle.compound_run.specs.CompoundRuns.{HasOperated}
use Rattle.mds_sessions.proofs.SessionEnds.{no_session}
use Rattle.mds_state.proofs.OpLemmas.{refusal_unless, same_sessions}
use Rattle.mds_sessions.proofs.destroy.destroy_session.Goals as goal

pub returns-then-is_err-clause-op : goal.returns-then-is_err-clause-op
returns-then-is_err-clause-op c out =
    let s = c.state.inside.sessions in
    let none = no_session s (without_session s c.args.session) c.destroy_session.new.self (session_of s.clients c.args.session) c.destroy_session.result (sym c.is_err.ensures.value ∙ c.if-is_err.true) c.destroy_session.ensures in
    rw (← c.state.view_is) (refusal_unless _ _ c.args.run.now c.refuse.new.self 44 stat.BadSession (is_some (session_of s.clients c.args.session)) _ c.refuse.result out none.none (same_sessions _ _ none.same) c.refuse.ensures.ends c.refuse.ensures.run)
