-- What the code makes of a record.
use Rattle.std.specs.Prelude.{◌≡◌, ℕ, List, [], ◌∷◌, Option, Some, None, Result, Ok, Err}
use Rattle.ff_xdr.specs.declared.error.XdrError.{XdrError}
use Rattle.ff_xdr.specs.Form.{Value}
use Rattle.rpc_record.specs.declared.auth.AuthSys.{AuthSys}
use Rattle.rpc_record.specs.Rpc.{authsys_parms, credential_value, plain_credential}
use Rattle.rpc_record.specs.Replies.{rpc_reply, ReplyFits}
use Rattle.nfs3_wire.specs.Calls.{plain_call}
use Rattle.cluster_model.specs.declared.ids.NodeId.{NodeId}
use Rattle.ds_files.specs.declared.received.Received.{Received as DeclaredReceived}
use Rattle.ds_files.specs.declared.received.Received.TheVariants as declared
use Rattle.ds_files.specs.Receive.{Received, Silent, Refused, Asked}

abbrev pub plain_received : DeclaredReceived → Received
plain_received declared.Silent = Silent
plain_received (declared.Refused reply) = Refused (rpc_reply reply)
plain_received (declared.Asked xid call cred) = Asked xid (plain_call call) (plain_credential cred)

-- a refusal has a spelling
abbrev pub ReceivedFits : DeclaredReceived → Type 0
ReceivedFits declared.Silent = Unit {0}
ReceivedFits (declared.Refused reply) = ReplyFits (rpc_reply reply)
ReceivedFits (declared.Asked xid call cred) = Unit {0}

-- the credential was read, from all of the bytes
abbrev pub FindsCredential : Result AuthSys XdrError → Result (Value authsys_parms) XdrError → Type 0
FindsCredential (Ok a) read = read ≡ Ok (credential_value (plain_credential a))
FindsCredential (Err e) read = read ≡ Err e

-- the records for other nodes: one to this node, where there is one
abbrev pub sent_to : NodeId → Option (List ℕ) → List (NodeId × List ℕ)
sent_to node None = []
sent_to node (Some bytes) = (node, bytes) ∷ []
