-- RPC messages (RFC 5531, sections 8 and 9).
use Rattle.std.specs.Prelude.{ℕ, List}
use Rattle.rpc_record.specs.declared.auth_wire.TheConstants.{MAX_GIDS, MAX_MACHINE}
use Rattle.rpc_record.specs.declared.auth.TheConstants.{MAX_BODY}
use Rattle.ff_xdr.specs.Form.{Form, Number32, Opaque, Array, Pair, Value}
use Rattle.ff_xdr.specs.Items.{contents}
use Rattle.rpc_record.specs.declared.auth.Auth.{Auth}
use Rattle.rpc_record.specs.declared.auth.AuthSys.{AuthSys}

-- opaque_auth: a flavor and a body (section 8.2)
abbrev pub opaque_auth : Form
opaque_auth = Pair Number32 (Opaque MAX_BODY)

-- an opaque_auth, without where its bytes lie
pub record OpaqueAuth : Type 0 where
  pub flavor : ℕ
  pub body : List ℕ

abbrev pub plain_auth : Auth → OpaqueAuth
plain_auth a = record { flavor = a.flavor; body = a.body.now }

abbrev pub opaque_auth_value : OpaqueAuth → Value opaque_auth
opaque_auth_value p = (p.flavor, p.body)

abbrev pub opaque_auth_of : Value opaque_auth → OpaqueAuth
opaque_auth_of (flavor, body) = record { flavor = flavor; body = body }

-- authsys_parms: stamp, machine name, uid, gid, gids (appendix A)
abbrev pub authsys_parms : Form
authsys_parms = Pair Number32 (Pair (Opaque MAX_MACHINE) (Pair Number32 (Pair Number32 (Array MAX_GIDS Number32))))

-- who calls
pub record Credential : Type 0 where
  pub stamp : ℕ
  pub machine : List ℕ
  pub uid : ℕ
  pub gid : ℕ
  pub gids : List ℕ

abbrev pub plain_credential : AuthSys → Credential
plain_credential a = record { stamp = a.stamp; machine = a.machine.now; uid = a.uid; gid = a.gid; gids = contents Number32 (λ n. n) a.gids.place }

abbrev pub credential_value : Credential → Value authsys_parms
credential_value c = (c.stamp, (c.machine, (c.uid, (c.gid, c.gids))))

abbrev pub credential_of : Value authsys_parms → Credential
credential_of (stamp, (machine, (uid, (gid, gids)))) = record { stamp = stamp; machine = machine; uid = uid; gid = gid; gids = gids }
