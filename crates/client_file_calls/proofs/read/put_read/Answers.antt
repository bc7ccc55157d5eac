use Rattle.std.proofs.Common.{◌++◌, [], ◌∷◌, ◌∙◌}
use Rattle.ff_xdr.specs.Arms.{arm}
use Rattle.nfs4_compound.specs.Args.{argop4}
use Rattle.client_compounds.specs.MdsArguments.{compound_args}
use Rattle.client_file_calls.proofs.read.put_read.Goals as goal

pub returns : goal.returns
returns c = c.in_ok-put_ops.ensures ∙ (λ i. c.args.out.now ++ compound_args (c.sequence_op-s.ensures.value i ∷ arm 22 argop4 (c.handle_of-handle.ensures i) ∷ c.read_op-r.ensures.value i ∷ []))
