use Rattle.ff_replay.proofs.TaskLemmas.{does_flow, rests_flow, leads_flow}
use Rattle.ff_replay.proofs.player.PlayerLineTask.go_on.Goals as goal

pub returns-clause-does : goal.returns-clause-does
returns-clause-does c =
    λ within number. does_flow c.args.self.now c.flow_on-done.new.self c.args.text.now c.flow_on-done.new.text c.flow_on-done.result number within.1 within.2 c.flow_on-done.ensures.mode c.flow_on-done.ensures.flows (c.flow_on-done.ensures.does within.0)

pub returns-clause-rests : goal.returns-clause-rests
returns-clause-rests c =
    λ within. rests_flow c.args.self.now c.flow_on-done.new.self c.args.text.now c.flow_on-done.new.text c.flow_on-done.result within.3 (c.flow_on-done.ensures.does within.0) c.flow_on-done.ensures.flows

pub returns-clause-led : goal.returns-clause-led
returns-clause-led c =
    λ within start. leads_flow start c.args.self.now c.flow_on-done.new.self c.args.text.now c.flow_on-done.new.text c.flow_on-done.result within.3 c.flow_on-done.ensures.mode c.is_in_range.ensures (c.flow_on-done.ensures.does within.0)
