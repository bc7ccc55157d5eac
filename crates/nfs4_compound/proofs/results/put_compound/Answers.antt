use Rattle.std.proofs.Common.{refl, arith}
use Rattle.std.proofs.lemmas.List.{length-map}
use Rattle.std.proofs.lemmas.Str.{is_utf8-from_IsUtf8}
use Rattle.nfs4_compound.specs.Args.{op_value}
use Rattle.nfs4_compound.proofs.results.put_compound.Goals as goal

pub write-requires : goal.write-requires
write-requires c κs = rw c.made.ensures ((refl, tt), ((c.requires.tag, is_utf8-from_IsUtf8 c.args.tag.now c.utf8.tag), (c.ranges.minorversion.fits, (omega (arith, length-map c.args.ops.now op_value, c.requires.count), c.requires.fits))))
