use Rattle.std.proofs.Common.{refl}
use Rattle.nfs4_compound.specs.Args.{argop4}
use Rattle.nfs4_compound.specs.AllOps.{nfs_argop4}
use Rattle.nfs4_compound.specs.CbArgs.{cb_argop4}
use Rattle.nfs4_compound.specs.Results.{resop4}
use Rattle.nfs4_compound.specs.CbResults.{cb_resop4}
use Rattle.nfs4_compound.specs.Compounds.{compound4_args, compound4_res, cb_compound4_args, cb_compound4_res}
use Rattle.nfs4_compound.proofs.laws.every_operation.Goals as goal

pub returns-clause-args : goal.returns-clause-args
returns-clause-args c = c.every_form.ensures nfs_argop4 refl

pub returns-clause-served_args : goal.returns-clause-served_args
returns-clause-served_args c = c.every_form.ensures argop4 refl

pub returns-clause-results : goal.returns-clause-results
returns-clause-results c = c.every_form.ensures resop4 refl

pub returns-clause-cb_args : goal.returns-clause-cb_args
returns-clause-cb_args c = c.every_form.ensures cb_argop4 refl

pub returns-clause-cb_results : goal.returns-clause-cb_results
returns-clause-cb_results c = c.every_form.ensures cb_resop4 refl

pub returns-clause-compound_args : goal.returns-clause-compound_args
returns-clause-compound_args c = c.every_form.ensures compound4_args refl

pub returns-clause-compound_results : goal.returns-clause-compound_results
returns-clause-compound_results c = c.every_form.ensures compound4_res refl

pub returns-clause-cb_compound_args : goal.returns-clause-cb_compound_args
returns-clause-cb_compound_args c = c.every_form.ensures cb_compound4_args refl

pub returns-clause-cb_compound_results : goal.returns-clause-cb_compound_results
returns-clause-cb_compound_results c = c.every_form.ensures cb_compound4_res refl
