-- LAYOUTRETURN: layouts are given back (RFC 8881, section 18.44).
use Rattle.ff_xdr.specs.Form.{Form, Number32, Boolean, Arm, NoArm, Number64, Pair, Void, Value}
use Rattle.nfs4_types.specs.Stateids.{stateid4, stateid4_value}
use Rattle.ff_xdr.specs.Arms.{arm}
use Rattle.nfs4_file_ops.specs.declared.layout_return.LayoutReturnArgs.{LayoutReturnArgs}
use Rattle.nfs4_file_ops.specs.declared.layout_return.LayoutReturn.{LayoutReturn}
use Rattle.nfs4_file_ops.specs.declared.layout_return.LayoutReturn.TheVariants.{File, Fsid, All}
use Rattle.nfs4_file_ops.specs.declared.layout_return.LayoutReturnFile.{LayoutReturnFile}
use Rattle.nfs4_types.specs.Objects.{opaque_body}

-- layoutreturn_file4: offset, length, stateid, body
abbrev pub layoutreturn_file4 : Form
layoutreturn_file4 = Pair Number64 (Pair Number64 (Pair stateid4 opaque_body))

abbrev pub layoutreturn_file4_value : LayoutReturnFile → Value layoutreturn_file4
layoutreturn_file4_value a = (a.offset, (a.length, (stateid4_value a.stateid, a.body.bytes.now)))

-- layoutreturn4: FILE 1 with a layout, FSID 2 and ALL 3 with nothing
abbrev pub layoutreturn4 : Form
layoutreturn4 = Arm 1 layoutreturn_file4 (Arm 2 Void (Arm 3 Void NoArm))

abbrev pub layoutreturn4_value : LayoutReturn → Value layoutreturn4
layoutreturn4_value (File a) = arm 1 layoutreturn4 (layoutreturn_file4_value a)
layoutreturn4_value Fsid = arm 2 layoutreturn4 tt
layoutreturn4_value All = arm 3 layoutreturn4 tt

-- LAYOUTRETURN4args: reclaim, layout_type, iomode, layoutreturn
abbrev pub layoutreturn4_args : Form
layoutreturn4_args = Pair Boolean (Pair Number32 (Pair Number32 layoutreturn4))

abbrev pub layoutreturn4_args_value : LayoutReturnArgs → Value layoutreturn4_args
layoutreturn4_args_value a = (a.reclaim, (a.layout_type, (a.iomode, layoutreturn4_value a.kind)))
