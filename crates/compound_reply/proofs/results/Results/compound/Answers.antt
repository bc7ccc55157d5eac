use Rattle.std.proofs.Common.{refl}
use Rattle.std.proofs.lemmas.Str.{is_utf8-from_IsUtf8}
use Rattle.nfs4_compound.proofs.Statuses.{stat_fits}
use Rattle.compound_reply.proofs.results.Results.compound.Goals as goal

pub put-requires : goal.put-requires
put-requires c κs = ((refl, tt), (stat_fits c.args.status, ((c.requires, is_utf8-from_IsUtf8 c.args.tag.now c.utf8.tag), search)))
