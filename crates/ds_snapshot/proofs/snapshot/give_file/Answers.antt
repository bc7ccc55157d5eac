use Rattle.std.proofs.Common.{◌+◌}
use Rattle.ds_snapshot.specs.Snapshots.{file_body}
use Rattle.ds_snapshot.proofs.Left.{left, no_file_left, no_name_left, file_left}
use Rattle.ds_snapshot.proofs.Written.{name_short}
use Rattle.ds_snapshot.proofs.snapshot.give_file.Goals as goal

pub returns-in_default : goal.returns-in_default
returns-in_default c = no_file_left c.args.server.now c.args.index c.in_default.ensures.exact

pub returns-in_default-name : goal.returns-in_default-name
returns-in_default-name c = no_name_left c.args.server.now c.args.index c.in_default-name.ensures

pub file_held-requires : goal.file_held-requires
file_held-requires c = name_short c.args.server.now c.args.index c.in-Some-name.name.now c.requires c.in-Some-name.ensures

pub returns : goal.returns
returns c =
    let f = c.in-Some.file.now in
    let name = c.in-Some-name.name.now in
    (file_body (c.args.index + 2) name (left f), file_left c.args.server.now c.args.index name f c.in-Some-name.ensures c.in-Some.ensures.exact, record { text = c.in_ok-gated.ensures.text; read = c.in_ok-gated.ensures.read })
