-- What an object was before an operation, and what it is after it (RFC 1813, section 2.5).
use Rattle.std.specs.Option.{option_map}
use Rattle.std.specs.Prelude.{Option}
use Rattle.ff_xdr.specs.Form.{Form, Number64, Optional, Pair, Value}
use Rattle.nfs3_wire.specs.declared.attributes.Fattr3.{Fattr3}
use Rattle.nfs3_wire.specs.declared.wcc.WccAttr.{WccAttr}
use Rattle.nfs3_wire.specs.declared.wcc.WccData.{WccData}
use Rattle.nfs3_wire.specs.Attributes.{nfstime3, time3_value, fattr3, fattr3_value}

-- post_op_attr: attributes, where they are known
abbrev pub post_op_attr : Form
post_op_attr = Optional fattr3

abbrev pub post_op_value : Option Fattr3 → Value post_op_attr
post_op_value a = option_map fattr3_value a

-- wcc_attr: size, mtime, ctime
abbrev pub wcc_attr : Form
wcc_attr = Pair Number64 (Pair nfstime3 nfstime3)

abbrev pub wcc_attr_value : WccAttr → Value wcc_attr
wcc_attr_value w = (w.size, (time3_value w.mtime, time3_value w.ctime))

-- wcc_data: the attributes before an operation, in part, and those after it
abbrev pub wcc_data : Form
wcc_data = Pair (Optional wcc_attr) post_op_attr

abbrev pub wcc_data_value : WccData → Value wcc_data
wcc_data_value w = (option_map wcc_attr_value w.before, post_op_value w.after)
