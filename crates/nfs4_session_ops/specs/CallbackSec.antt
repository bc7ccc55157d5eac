-- How the server is to name itself in callbacks (RFC 8881, section 18.33).
use Rattle.ff_xdr.specs.Form.{Form, Arm, NoArm, Void, Value}
use Rattle.ff_xdr.specs.Arms.{arm}
use Rattle.rpc_record.specs.Rpc.{authsys_parms, credential_value, plain_credential}
use Rattle.nfs4_session_ops.specs.declared.callback_sec.CallbackSec.{CallbackSec}
use Rattle.nfs4_session_ops.specs.declared.callback_sec.CallbackSec.TheVariants as callback

-- callback_sec_parms4: AUTH_NONE 0 with nothing, AUTH_SYS 1 with its body
abbrev pub callback_sec4 : Form
callback_sec4 = Arm 0 Void (Arm 1 authsys_parms NoArm)

abbrev pub callback_sec4_value : CallbackSec → Value callback_sec4
callback_sec4_value callback.None = arm 0 callback_sec4 tt
callback_sec4_value (callback.Sys a) = arm 1 callback_sec4 (credential_value (plain_credential a))
