use Rattle.std.proofs.Common.{◌+◌}
use Rattle.ds_snapshot.proofs.Left.{no_file_left, no_name_left}
use Rattle.ds_snapshot.proofs.Sizing.{counts_file}
use Rattle.ds_snapshot.proofs.size.size_at.Goals as goal

pub returns-in_default-clause-counts : goal.returns-in_default-clause-counts
returns-in_default-clause-counts c = no_file_left c.args.server.now c.args.index c.in_default.ensures.exact

pub returns-in_default-name-clause-counts : goal.returns-in_default-name-clause-counts
returns-in_default-name-clause-counts c = no_name_left c.args.server.now c.args.index c.in_default-name.ensures

pub returns-clause-counts : goal.returns-clause-counts
returns-clause-counts c =
    counts_file c.args.server.now c.args.index c.file_size.result c.in-Some-name.name.now c.in-Some.file.now c.in-Some-name.ensures c.in-Some.ensures.exact (c.file_size.ensures (c.args.index + 2))
