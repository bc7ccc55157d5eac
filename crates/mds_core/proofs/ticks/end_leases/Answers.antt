use Rattle.mds_core.proofs.LeaseLemmas.{lease_turn, lease_fewer, lease_none}
use Rattle.mds_core.proofs.ticks.end_leases.Goals as goal

pub loop-client-smaller : goal.loop-client-smaller
loop-client-smaller c =
    lease_fewer c.args.now c.in-Some.client _ c.loop-client.state c.end_client.new.state c.expire.new.self c.loop-client.out c.end_client.new.out c.state.view_is c.in-Some.ensures
    c.in_ok-end_client.ensures.steps

pub loop-client-preserved : goal.loop-client-preserved
loop-client-preserved c =
    λ n new rest.
    c.loop-client.invariant n new
    (lease_turn c.args.now c.in-Some.client _ c.loop-client.state c.end_client.new.state n c.expire.new.self c.loop-client.out c.end_client.new.out new c.state.view_is c.in-Some.ensures
    c.in_ok-end_client.ensures.steps rest)

pub returns : goal.returns
returns c = c.loop-client.invariant _ c.loop-client.out (lease_none c.args.now _ c.loop-client.state c.expire.new.self c.loop-client.out c.state.view_is c.in_default.ensures)
