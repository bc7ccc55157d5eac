-- READ: bytes of a file (RFC 1813, section 3.3.6).
use Rattle.ff_xdr.specs.Form.{Form, Number32, Number64, Boolean, Pair, Arm, Value}
use Rattle.nfs3_wire.specs.declared.read.ReadArgs.{ReadArgs}
use Rattle.nfs3_wire.specs.declared.read.ReadOk.{ReadOk}
use Rattle.nfs3_wire.specs.Objects.{nfs_fh3, io_data}
use Rattle.nfs3_wire.specs.Status.{refusal}
use Rattle.nfs3_wire.specs.Wcc.{post_op_attr, post_op_value}

-- READ3args: file, offset, count
abbrev pub read_args : Form
read_args = Pair nfs_fh3 (Pair Number64 Number32)

abbrev pub read_args_value : ReadArgs → Value read_args
read_args_value a = (a.file.now, (a.offset, a.count))

-- READ3resok: attributes, count, eof, data
abbrev pub read_ok : Form
read_ok = Pair post_op_attr (Pair Number32 (Pair Boolean io_data))

abbrev pub read_ok_value : ReadOk → Value read_ok
read_ok_value r = (post_op_value r.attributes, (r.count, (r.eof, r.bytes.now)))

-- READ3resfail: attributes
abbrev pub read_result : Form
read_result = Arm 0 read_ok (Pair refusal post_op_attr)
