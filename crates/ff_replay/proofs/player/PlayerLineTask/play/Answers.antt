use Rattle.ff_replay.proofs.TaskLemmas.{does_line, rests_line, leads_line}
use Rattle.ff_replay.proofs.player.PlayerLineTask.play.Goals as goal

pub returns-clause-does : goal.returns-clause-does
returns-clause-does c =
    λ fresh number. does_line c.args.self.now c.play_line-done.new.self c.args.text.now c.play_line-done.new.text c.args.line.now c.play_line-done.result number fresh.1 c.play_line-done.ensures.mode (c.play_line-done.ensures.flows fresh.1) (c.play_line-done.ensures.does fresh.0)

pub returns-clause-rests : goal.returns-clause-rests
returns-clause-rests c =
    λ fresh. rests_line c.args.self.now c.play_line-done.new.self c.args.text.now c.play_line-done.new.text c.args.line.now c.play_line-done.result fresh.2 (c.play_line-done.ensures.does fresh.0) (c.play_line-done.ensures.flows fresh.1)

pub returns-clause-led : goal.returns-clause-led
returns-clause-led c =
    λ fresh start. leads_line start c.args.self.now c.play_line-done.new.self c.args.text.now c.play_line-done.new.text c.args.line.now c.play_line-done.result fresh.2 c.play_line-done.ensures.mode c.is_in_range.ensures (c.play_line-done.ensures.does fresh.0)
