use Rattle.std.proofs.Common.{refl, sym, subst}
use Rattle.line_runs.specs.Runs.{HasBecome}
use Rattle.ff_replay.specs.Script.{journal_so_far, journal_behind, script_budget}
use Rattle.ff_replay.specs.Player.{PlayerValue, IsBetween, AtStart}
use Rattle.ff_replay.proofs.PlayLemmas.{ends_in_range}
use Rattle.ff_replay.proofs.TaskLemmas.{new_player, leads_new, prints_journal, has_printed}
use Rattle.ff_replay.proofs.script.replay.Goals as goal

pub returns-clause-told : goal.returns-clause-told
returns-clause-told g c = rw c.new-player.ensures at c.run_lines-end.ensures.told

pub returns-clause-range : goal.returns-clause-range
returns-clause-range g c =
    ends_in_range (g.S.Source.left c.args.source.now) c.run_lines-end.result (journal_so_far c.run_lines-end.new.task.stage)
    (subst (λ (p : PlayerValue). HasBecome script_budget (journal_behind p.flows p.stage) (g.S.Source.left c.args.source.now) c.run_lines-end.result (journal_so_far c.run_lines-end.new.task.stage)) c.new-player.ensures c.run_lines-end.ensures.became) c.journal.ensures.range

pub returns-clause-printed : goal.returns-clause-printed
returns-clause-printed g c =
    let held = g.K.Sink.held in
    let got = rw c.new-player.ensures at c.run_lines-end.ensures.got in
    has_printed c.args.mode (held c.args.sink.now) (held c.run_lines-end.new.sink) (λ base is. prints_journal (new_player c.args.mode) base (held c.run_lines-end.new.sink) (got base is (leads_new c.args.mode)))

pub run_lines-end-requires : goal.run_lines-end-requires
run_lines-end-requires g c = subst IsBetween (sym c.new-player.ensures) (refl, refl, AtStart)
