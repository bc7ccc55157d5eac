-- A layout (RFC 8881, section 3.3.17).
use Rattle.ff_xdr.specs.Form.{Form, Number32, Number64, Pair, Value}
use Rattle.nfs4_file_ops.specs.declared.layout4.Layout4.{Layout4}
use Rattle.nfs4_types.specs.Objects.{opaque_body}

-- layout4: offset, length, iomode, and content: the layout type and its body
abbrev pub layout4 : Form
layout4 = Pair Number64 (Pair Number64 (Pair Number32 (Pair Number32 opaque_body)))

abbrev pub layout4_value : Layout4 → Value layout4
layout4_value a = (a.offset, (a.length, (a.iomode, (a.layout_type, a.body.bytes.now))))
