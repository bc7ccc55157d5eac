-- FSINFO: what a file system can do (RFC 1813, section 3.3.19).
use Rattle.ff_xdr.specs.Form.{Form, Number32, Number64, Pair, Arm, Value}
use Rattle.nfs3_wire.specs.declared.fsinfo.FsInfoArgs.{FsInfoArgs}
use Rattle.nfs3_wire.specs.declared.fsinfo.FsInfoOk.{FsInfoOk}
use Rattle.nfs3_wire.specs.Objects.{nfs_fh3}
use Rattle.nfs3_wire.specs.Status.{refusal}
use Rattle.nfs3_wire.specs.Attributes.{nfstime3, time3_value}
use Rattle.nfs3_wire.specs.Wcc.{post_op_attr, post_op_value}

-- FSINFO3args: the root
abbrev pub fsinfo_args : Form
fsinfo_args = nfs_fh3

abbrev pub fsinfo_args_value : FsInfoArgs → Value fsinfo_args
fsinfo_args_value a = a.root.now

-- rtmax, rtpref, rtmult; wtmax, wtpref, wtmult
abbrev pub fsinfo_sizes : Form
fsinfo_sizes = Pair (Pair Number32 (Pair Number32 Number32)) (Pair Number32 (Pair Number32 Number32))

-- FSINFO3resok: attributes, the sizes, dtpref, maxfilesize, time_delta, properties
abbrev pub fsinfo_ok : Form
fsinfo_ok = Pair post_op_attr (Pair fsinfo_sizes (Pair Number32 (Pair Number64 (Pair nfstime3 Number32))))

abbrev pub fsinfo_ok_value : FsInfoOk → Value fsinfo_ok
fsinfo_ok_value r = (
  post_op_value r.attributes,
  (
    ((r.rtmax, (r.rtpref, r.rtmult)), (r.wtmax, (r.wtpref, r.wtmult))),
    (r.dtpref, (r.maxfilesize, (time3_value r.time_delta, r.properties))),
  ),
)

-- FSINFO3resfail: attributes
abbrev pub fsinfo_result : Form
fsinfo_result = Arm 0 fsinfo_ok (Pair refusal post_op_attr)
