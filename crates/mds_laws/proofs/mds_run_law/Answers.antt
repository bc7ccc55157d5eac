use Rattle.mds_laws.proofs.Numbers.{numbers_calls, numbers_fit}
use Rattle.mds_laws.proofs.Uids.{calls_by_uids}
use Rattle.mds_laws.proofs.Grants.{grants_free_files}
use Rattle.mds_laws.proofs.GrantsOnce.{grants_uids_once}
use Rattle.mds_laws.proofs.mds_run_law.Goals as goal

-- src/lib.rt:18:1
pub returns : goal.returns
returns c = record { numbers = numbers_calls; words = numbers_fit; uids = calls_by_uids; grants = grants_free_files; fresh = grants_uids_once }
