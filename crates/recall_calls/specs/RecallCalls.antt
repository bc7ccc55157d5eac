-- The recall of a layout as a callback (RFC 8881, sections 20.2, 20.3 and 20.9), in a record of RPC (RFC 5531, section 9). What has no
-- other value is zero, false or empty.
use Rattle.std.specs.Prelude.{ℕ, false, List, [], ◌∷◌}
use Rattle.ff_xdr.specs.Form.{Value, spelling}
use Rattle.ff_xdr.specs.Arms.{arm}
use Rattle.rpc_record.specs.Calls.{RpcCall, call_bytes}
use Rattle.rpc_record.specs.Replies.{auth_none}
use Rattle.cluster_model.specs.declared.ids.FileId.{FileId}
use Rattle.nfs4_types.specs.declared.ids.SessionId.{SessionId}
use Rattle.nfs4_types.specs.declared.stateid.Stateid.{Stateid}
use Rattle.nfs4_types.specs.Handles.{file_handle_of}
use Rattle.nfs4_types.specs.Stateids.{stateid4_value}
use Rattle.nfs4_file_ops.specs.CbLayoutRecall.{layoutrecall4}
use Rattle.nfs4_session.specs.declared.back.BackCall.{BackCall}
use Rattle.nfs4_compound.specs.CbArgs.{cb_argop4}
use Rattle.nfs4_compound.specs.Compounds.{cb_compound4_args}

-- CB_SEQUENCE (section 20.9): on slot 0, the highest; the reply is not kept, and no calls are referred to
abbrev pub cb_sequence_op : SessionId → ℕ → Value cb_argop4
cb_sequence_op session sequence = arm 11 cb_argop4 (session.0, (sequence, (0, (0, (false, [])))))

-- CB_LAYOUTRECALL (section 20.3): flexible files 4 (RFC 8435), LAYOUTIOMODE4_RW 2, not changed; FILE 1: its handle, all its bytes, which
-- are 2^64 - 1 from 0 on, and the layout's stateid
abbrev pub layout_recall_op : List ℕ → Stateid → Value cb_argop4
layout_recall_op handle stateid = arm 5 cb_argop4 (4, (2, (false, arm 1 layoutrecall4 (handle, (0, (18446744073709551615, stateid4_value stateid))))))

abbrev pub recall_ops : BackCall → FileId → Stateid → List (Value cb_argop4)
recall_ops call file stateid = cb_sequence_op call.session call.sequence ∷ layout_recall_op (file_handle_of file.0) stateid ∷ []

-- CB_COMPOUND4args: an empty tag, minor version 1, callback_ident 0 (section 20.2)
unfoldable pub recall_args : List (Value cb_argop4) → List ℕ
recall_args ops = spelling cb_compound4_args ([], (1, (0, ops)))

-- CB_COMPOUND 1 of a client's program, version 1, by AUTH_NONE
abbrev pub callback_call : (xid program : ℕ) → List ℕ → RpcCall
callback_call xid program args = record { xid = xid; program = program; version = 1; procedure = 1; cred = auth_none; verf = auth_none; args = args }

abbrev pub recall_rpc_call : ℕ → BackCall → FileId → Stateid → RpcCall
recall_rpc_call xid call file stateid = callback_call xid call.program (recall_args (recall_ops call file stateid))

abbrev pub recall_bytes : ℕ → BackCall → FileId → Stateid → List ℕ
recall_bytes xid call file stateid = call_bytes (recall_rpc_call xid call file stateid)
