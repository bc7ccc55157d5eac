-- LAYOUTCOMMIT: what was written through a layout is told (RFC 8881, section 18.42).
use Rattle.std.specs.Option.{option_map}
use Rattle.ff_xdr.specs.Form.{Form, Boolean, Number32, Number64, Optional, Pair, Value}
use Rattle.nfs4_types.specs.Stateids.{stateid4, stateid4_value}
use Rattle.nfs4_types.specs.Times.{nfstime4, nfstime4_value}
use Rattle.nfs4_file_ops.specs.declared.layout_commit.LayoutCommitArgs.{LayoutCommitArgs}
use Rattle.nfs4_types.specs.Objects.{opaque_body}

-- LAYOUTCOMMIT4args: offset, length, reclaim, stateid, last_write_offset, time_modify, layoutupdate (type, body)
abbrev pub layoutcommit4_args : Form
layoutcommit4_args = Pair Number64 (Pair Number64 (Pair Boolean (Pair stateid4 (Pair (Optional Number64) (Pair (Optional nfstime4) (Pair Number32 opaque_body))))))

abbrev pub layoutcommit4_args_value : LayoutCommitArgs → Value layoutcommit4_args
layoutcommit4_args_value a = (a.offset, (a.length, (a.reclaim, (stateid4_value a.stateid, (a.last_write_offset, (option_map nfstime4_value a.time_modify, (a.layout_type, a.body.bytes.now)))))))
