use Rattle.std.proofs.Common.{◌++◌, false, [], ◌∷◌, ◌∙◌}
use Rattle.ff_xdr.specs.Arms.{arm}
use Rattle.nfs4_compound.specs.Args.{argop4}
use Rattle.client_compounds.specs.MdsArguments.{compound_args}
use Rattle.client_session_calls.proofs.reclaim_complete.put_reclaim_complete.Goals as goal

pub returns : goal.returns
returns c = c.in_ok-put_ops.ensures ∙ (λ i. c.args.out.now ++ compound_args (c.sequence_op-s.ensures.value i ∷ arm 58 argop4 false ∷ []))
