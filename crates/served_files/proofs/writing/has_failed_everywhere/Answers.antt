use Rattle.std.proofs.Common.{ap, sym, ◌∙◌}
use Rattle.std.specs.Prelude.{is_some}
use Rattle.mds_rule.specs.Answers.{cause_at}
use Rattle.served_files.proofs.ReadLists.{one_fails}
use Rattle.served_files.proofs.writing.has_failed_everywhere.Goals as goal

pub returns-then-is_none : goal.returns-then-is_none
returns-then-is_none c =
    one_fails (λ m. is_some (cause_at c.args.failures.now m)) c.args.live c.loop-place.place c.in-Some.mirror (sym c.get.ensures ∙ c.in-Some.is) (ap is_some (sym c.cause_at.ensures) ∙ c.if-is_none.ensures)
