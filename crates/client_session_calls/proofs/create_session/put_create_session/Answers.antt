use Rattle.std.proofs.Common.{◌++◌, [], ◌∷◌, ◌∙◌}
use Rattle.ff_xdr.specs.Arms.{arm}
use Rattle.nfs4_compound.specs.Args.{argop4}
use Rattle.client_compounds.specs.MdsArguments.{compound_args}
use Rattle.client_session_calls.specs.SessionOps.{fore_channel, back_channel, callback_program}
use Rattle.client_session_calls.proofs.create_session.put_create_session.Goals as goal

pub returns : goal.returns
returns c =
    c.in_ok-put_ops.ensures
    ∙ (λ i. c.args.out.now ++ compound_args (arm 43 argop4 (c.args.clientid, (c.args.sequence, (2, (fore_channel, (back_channel, (callback_program, c.made-security.ensures i)))))) ∷ []))
