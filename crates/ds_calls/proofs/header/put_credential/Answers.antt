use Rattle.std.proofs.Common.{ap, ◌∙◌, ◌++◌}
use Rattle.ff_xdr.specs.Form.{spelling}
use Rattle.rpc_record.specs.Rpc.{Credential, authsys_parms, credential_value}
use Rattle.ds_calls.specs.MadeCalls.{credential_body}
use Rattle.ds_calls.proofs.CallHeaders.{body_padded, in_place}
use Rattle.ds_calls.proofs.header.put_credential.Goals as goal

pub returns : goal.returns
returns c =
    let body = credential_body c.args.machine.now c.args.user.0 in
    let spelled = ap (λ (k : Credential). c.number32-2.new.self ++ spelling authsys_parms (credential_value k)) c.credential.ensures in
    in_place c.args.out.now c.number32.new.self c.number32-2.new.self c.put.new.out body c.body_len.result (body_padded c.args.machine.now c.args.user.0) c.body_len.ensures c.in_ok-number32.ensures c.in_ok-number32-2.ensures
    (c.in_ok-put.ensures ∙ spelled)
