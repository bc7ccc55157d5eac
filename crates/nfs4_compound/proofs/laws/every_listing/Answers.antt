use Rattle.std.proofs.Common.{refl}
use Rattle.nfs4_compound.specs.AllOps.{nfs_argop4}
use Rattle.nfs4_compound.specs.CbArgs.{cb_argop4}
use Rattle.nfs4_compound.proofs.Listings.{spelled_so, read_again, given_whole}
use Rattle.nfs4_compound.proofs.JoinedUnions.{served_whole}
use Rattle.nfs4_compound.proofs.laws.every_listing.Goals as goal

pub returns-clause-spelled : goal.returns-clause-spelled
returns-clause-spelled c = spelled_so nfs_argop4 (c.every_form.ensures nfs_argop4 refl).spelled

pub returns-clause-again : goal.returns-clause-again
returns-clause-again c = read_again nfs_argop4 (c.every_form.ensures nfs_argop4 refl).again

pub returns-clause-all : goal.returns-clause-all
returns-clause-all c = given_whole nfs_argop4

pub returns-clause-whole : goal.returns-clause-whole
returns-clause-whole c = served_whole

pub returns-clause-cb_spelled : goal.returns-clause-cb_spelled
returns-clause-cb_spelled c = spelled_so cb_argop4 (c.every_form.ensures cb_argop4 refl).spelled

pub returns-clause-cb_again : goal.returns-clause-cb_again
returns-clause-cb_again c = read_again cb_argop4 (c.every_form.ensures cb_argop4 refl).again

pub returns-clause-cb_whole : goal.returns-clause-cb_whole
returns-clause-cb_whole c = given_whole cb_argop4
