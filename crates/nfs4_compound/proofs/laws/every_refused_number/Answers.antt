use Rattle.std.proofs.Common.{[], ◌∷◌, refl}
use Rattle.nfs4_compound.specs.AllOps.{nfs_argop4}
use Rattle.nfs4_compound.specs.CbArgs.{cb_argop4}
use Rattle.nfs4_compound.proofs.Unbuilt.{tells_unbuilt}
use Rattle.nfs4_compound.proofs.laws.every_refused_number.Goals as goal

pub returns-clause-ops : goal.returns-clause-ops
returns-clause-ops c = tells_unbuilt nfs_argop4 (38 ∷ 41 ∷ 52 ∷ []) refl refl (refl, (refl, (refl, tt)))

pub returns-clause-callbacks : goal.returns-clause-callbacks
returns-clause-callbacks c = tells_unbuilt cb_argop4 [] refl refl tt
