use Rattle.std.proofs.Common.{refl, arith}
use Rattle.std.proofs.lemmas.List.{length-map}
use Rattle.std.proofs.lemmas.Str.{is_utf8-from_IsUtf8}
use Rattle.nfs4_compound.specs.CbArgs.{cb_op_value}
use Rattle.nfs4_compound.proofs.results.put_cb_compound.Goals as goal

pub write-requires : goal.write-requires
write-requires c κs = rw c.made.ensures ((refl, tt), ((c.requires.tag, is_utf8-from_IsUtf8 c.args.tag.now c.utf8.tag), (c.ranges.minorversion.fits, (c.ranges.callback_ident.fits, (omega (arith, length-map c.args.ops.now cb_op_value, c.requires.count), c.requires.fits)))))
