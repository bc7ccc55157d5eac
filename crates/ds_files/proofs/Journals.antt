-- Of no entries none are made.
use Rattle.std.proofs.Common.{◌≡◌, [], refl}
use Rattle.ds_files.specs.declared.logging.Logging.{Logging}
use Rattle.ds_files.specs.declared.logging.Logging.TheVariants.{On, Off}
use Rattle.ds_files.specs.Posts.{entries_made}

pub none_made : (j : Logging) → entries_made j [] ≡ []
none_made On = refl
none_made Off = refl
