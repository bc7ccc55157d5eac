use Rattle.std.proofs.Common.{◌<◌, length, sym, ◌∙◌}
use Rattle.ds_procedures.proofs.AttributesAfter.{attributes_some, some_bytes}
use Rattle.ds_procedures.proofs.write.attributes_after.Goals as goal

pub returns : goal.returns
returns c =
    let some : 0 < length c.args.bytes.now = some_bytes _ (sym c.is_empty.ensures ∙ c.if-is_empty.false) in
    rw (c.time_of-time.ensures, c.max-size.ensures, c.size.ensures.exact, c.requires.before) (sym (attributes_some c.args.fileid c.args.file.now c.args.tick c.args.at c.args.synced c.args.bytes.now some))
