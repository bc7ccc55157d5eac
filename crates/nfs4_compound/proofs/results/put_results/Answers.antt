use Rattle.std.proofs.Common.{refl, arith}
use Rattle.std.proofs.lemmas.List.{length-map}
use Rattle.std.proofs.lemmas.Str.{is_utf8-from_IsUtf8}
use Rattle.nfs4_compound.specs.Results.{op_res_value}
use Rattle.nfs4_compound.proofs.Statuses.{stat_fits}
use Rattle.nfs4_compound.proofs.results.put_results.Goals as goal

pub write-requires : goal.write-requires
write-requires c κs = rw c.made.ensures ((refl, tt), (stat_fits c.args.status, ((c.requires.tag, is_utf8-from_IsUtf8 c.args.tag.now c.utf8.tag), (omega (arith, length-map c.args.results.now op_res_value, c.requires.count), c.requires.fits))))
