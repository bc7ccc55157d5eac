-- CB_LAYOUTRECALL: layouts are asked back (RFC 8881, section 20.3).
use Rattle.ff_xdr.specs.Form.{Form, Number32, Boolean, Arm, NoArm, Number64, Pair, Void, Value}
use Rattle.nfs4_types.specs.Handles.{nfs_fh4}
use Rattle.nfs4_types.specs.Stateids.{stateid4, stateid4_value}
use Rattle.ff_xdr.specs.Arms.{arm}
use Rattle.nfs4_file_ops.specs.declared.cb_layout_recall.CbLayoutRecallArgs.{CbLayoutRecallArgs}
use Rattle.nfs4_file_ops.specs.declared.cb_layout_recall.LayoutRecall.{LayoutRecall}
use Rattle.nfs4_file_ops.specs.declared.cb_layout_recall.LayoutRecall.TheVariants.{File, Fsid, All}
use Rattle.nfs4_file_ops.specs.declared.cb_layout_recall.LayoutRecallFile.{LayoutRecallFile}
use Rattle.nfs4_file_ops.specs.declared.cb_layout_recall.Fsid4.{Fsid4}

-- layoutrecall_file4: fh, offset, length, stateid
abbrev pub layoutrecall_file4 : Form
layoutrecall_file4 = Pair nfs_fh4 (Pair Number64 (Pair Number64 stateid4))

abbrev pub layoutrecall_file4_value : LayoutRecallFile → Value layoutrecall_file4
layoutrecall_file4_value a = (a.file.bytes.now, (a.offset, (a.length, stateid4_value a.stateid)))

-- fsid4: major, minor (section 3.3.5)
abbrev pub fsid4 : Form
fsid4 = Pair Number64 Number64

abbrev pub fsid4_value : Fsid4 → Value fsid4
fsid4_value a = (a.major, a.minor)

-- layoutrecall4: FILE 1 with a layout, FSID 2 with a file system, ALL 3 with nothing
abbrev pub layoutrecall4 : Form
layoutrecall4 = Arm 1 layoutrecall_file4 (Arm 2 fsid4 (Arm 3 Void NoArm))

abbrev pub layoutrecall4_value : LayoutRecall → Value layoutrecall4
layoutrecall4_value (File a) = arm 1 layoutrecall4 (layoutrecall_file4_value a)
layoutrecall4_value (Fsid a) = arm 2 layoutrecall4 (fsid4_value a)
layoutrecall4_value All = arm 3 layoutrecall4 tt

-- CB_LAYOUTRECALL4args: type, iomode, changed, recall
abbrev pub cb_layoutrecall4_args : Form
cb_layoutrecall4_args = Pair Number32 (Pair Number32 (Pair Boolean layoutrecall4))

abbrev pub cb_layoutrecall4_args_value : CbLayoutRecallArgs → Value cb_layoutrecall4_args
cb_layoutrecall4_args_value a = (a.layout_type, (a.iomode, (a.changed, layoutrecall4_value a.kind)))
