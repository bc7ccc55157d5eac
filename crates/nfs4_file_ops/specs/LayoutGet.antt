-- LAYOUTGET: a layout is asked for (RFC 8881, section 18.43).
use Rattle.std.proofs.Common.{inl, inr}
use Rattle.ff_xdr.specs.Items.{contents}
use Rattle.ff_xdr.specs.Form.{Form, Arm, Array, Boolean, Enum, Number32, Number64, Pair, Value}
use Rattle.nfs4_types.specs.Stateids.{stateid4, stateid4_value}
use Rattle.nfs4_types.specs.Status.{refusals4, stat4_number}
use Rattle.nfs4_types.specs.OpResults.{but}
use Rattle.nfs4_file_ops.specs.declared.layout_get.LayoutGetRes.{LayoutGetRes}
use Rattle.nfs4_file_ops.specs.declared.layout_get.LayoutGetRes.TheVariants.{Done, TryLater, Refused}
use Rattle.nfs4_file_ops.specs.declared.layout_get.LayoutGetArgs.{LayoutGetArgs}
use Rattle.nfs4_file_ops.specs.declared.layout_get.LayoutGetOk.{LayoutGetOk}
use Rattle.nfs4_file_ops.specs.Layout4.{layout4, layout4_value}

-- LAYOUTGET4args: signal_layout_avail, layout_type, iomode, offset, length, minlength, stateid, maxcount
abbrev pub layoutget4_args : Form
layoutget4_args = Pair Boolean (Pair Number32 (Pair Number32 (Pair Number64 (Pair Number64 (Pair Number64 (Pair stateid4 Number32))))))

abbrev pub layoutget4_args_value : LayoutGetArgs → Value layoutget4_args
layoutget4_args_value a = (a.signal, (a.layout_type, (a.iomode, (a.offset, (a.length, (a.minlength, (stateid4_value a.stateid, a.maxcount)))))))

-- LAYOUTGET4resok: return_on_close, stateid, layout<>
abbrev pub layoutget4_ok : Form
layoutget4_ok = Pair Boolean (Pair stateid4 (Array 4294967295 layout4))

abbrev pub layoutget4_ok_value : LayoutGetOk → Value layoutget4_ok
layoutget4_ok_value a = (a.return_on_close, (stateid4_value a.stateid, contents layout4 layout4_value a.layouts.items.place))

-- LAYOUTGET4res: OK with its fields, LAYOUTTRYLATER with will_signal_layout_avail, any other status alone
abbrev pub layoutget4_res : Form
layoutget4_res = Arm 0 layoutget4_ok (Arm 10058 Boolean (Enum (but 10058 refusals4)))

abbrev pub layoutget4_res_value : LayoutGetRes → Value layoutget4_res
layoutget4_res_value (Done r) = inl (layoutget4_ok_value r)
layoutget4_res_value (TryLater signal) = inr (inl signal)
layoutget4_res_value (Refused status) = inr (inr (stat4_number status))
