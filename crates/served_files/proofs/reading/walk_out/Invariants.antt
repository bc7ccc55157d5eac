use Rattle.std.proofs.Common.{◌≡◌, drop}
use Rattle.std.specs.List.{position, position_from}
use Rattle.mds_rule.specs.Answers.{is_read_out}
use Rattle.served_files.proofs.reading.walk_out.Given as goal

abbrev pub invariant-loop-place : goal.invariant-loop-place
invariant-loop-place l = position (is_read_out l.xid) l.reads ≡ position_from (is_read_out l.xid) l.place (drop l.place l.reads)
