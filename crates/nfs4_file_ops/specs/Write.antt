-- WRITE: bytes are written to a file (RFC 8881, section 18.32).
use Rattle.ff_xdr.specs.Form.{Form, Number32, Number64, Pair, Value}
use Rattle.nfs4_types.specs.Stateids.{stateid4, stateid4_value}
use Rattle.nfs4_file_ops.specs.declared.write.Write4Args.{Write4Args}
use Rattle.nfs4_file_ops.specs.declared.write.Write4Ok.{Write4Ok}
use Rattle.nfs4_file_ops.specs.Stability.{stable_how4, stable_how4_number}
use Rattle.nfs4_types.specs.Objects.{opaque_body}

-- WRITE4args: stateid, offset, stable, data
abbrev pub write4_args : Form
write4_args = Pair stateid4 (Pair Number64 (Pair stable_how4 opaque_body))

abbrev pub write4_args_value : Write4Args → Value write4_args
write4_args_value a = (stateid4_value a.stateid, (a.offset, (stable_how4_number a.stable, a.bytes.bytes.now)))

-- WRITE4resok: count, committed, the eight bytes of a verifier4 as one number
abbrev pub write4_ok : Form
write4_ok = Pair Number32 (Pair stable_how4 Number64)

abbrev pub write4_ok_value : Write4Ok → Value write4_ok
write4_ok_value a = (a.count, (stable_how4_number a.committed, a.verifier))
