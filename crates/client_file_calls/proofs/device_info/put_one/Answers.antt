use Rattle.std.proofs.Common.{◌++◌, [], ◌∷◌, ◌∙◌}
use Rattle.client_compounds.specs.MdsArguments.{compound_args}
use Rattle.client_file_calls.proofs.device_info.put_one.Goals as goal

pub returns : goal.returns
returns c = c.in_ok-put_ops.ensures ∙ (λ i. c.args.out.now ++ compound_args (c.sequence_op-s.ensures.value i ∷ c.device_info_op-a.ensures.value i ∷ []))
