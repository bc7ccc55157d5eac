use Rattle.std.proofs.Common.{sym, ◌∙◌}
use Rattle.mds_io.proofs.Ended.{by_rest, by_none}
use Rattle.mds_io.proofs.own_write.MdsWrite.is_over.Goals as goal

pub returns-then-rest_committed : goal.returns-then-rest_committed
returns-then-rest_committed c = rw (← c.self.view_is) (by_rest c.self.inside.writer (sym c.rest_committed.ensures ∙ c.if-rest_committed.true))

pub returns : goal.returns
returns c = rw (← c.self.view_is) (c.has_no_mirror.ensures ∙ by_none c.self.inside.writer (sym c.rest_committed.ensures ∙ c.if-rest_committed.false))
