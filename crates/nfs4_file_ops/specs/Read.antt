-- READ: bytes of a file (RFC 8881, section 18.22).
use Rattle.ff_xdr.specs.Form.{Form, Boolean, Number32, Number64, Pair, Value}
use Rattle.nfs4_types.specs.Stateids.{stateid4, stateid4_value}
use Rattle.nfs4_file_ops.specs.declared.read.Read4Args.{Read4Args}
use Rattle.nfs4_file_ops.specs.declared.read.Read4Ok.{Read4Ok}
use Rattle.nfs4_types.specs.Objects.{opaque_body}

-- READ4args: stateid, offset, count
abbrev pub read4_args : Form
read4_args = Pair stateid4 (Pair Number64 Number32)

abbrev pub read4_args_value : Read4Args → Value read4_args
read4_args_value a = (stateid4_value a.stateid, (a.offset, a.count))

-- READ4resok: eof, data
abbrev pub read4_ok : Form
read4_ok = Pair Boolean opaque_body

abbrev pub read4_ok_value : Read4Ok → Value read4_ok
read4_ok_value a = (a.eof, a.bytes.bytes.now)
