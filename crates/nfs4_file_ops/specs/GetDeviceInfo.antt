-- GETDEVICEINFO: the address of a device (RFC 8881, section 18.40).
use Rattle.std.proofs.Common.{inl, inr}
use Rattle.ff_xdr.specs.Form.{Form, Arm, Enum, Number32, Pair, Value}
use Rattle.nfs4_types.specs.Ids.{deviceid4}
use Rattle.nfs4_types.specs.Bitmaps.{bitmap4, bitmap4_value}
use Rattle.nfs4_types.specs.Status.{refusals4, stat4_number}
use Rattle.nfs4_types.specs.OpResults.{but}
use Rattle.nfs4_file_ops.specs.declared.get_device_info.GetDeviceInfoRes.{GetDeviceInfoRes}
use Rattle.nfs4_file_ops.specs.declared.get_device_info.GetDeviceInfoRes.TheVariants.{Done, TooSmall, Refused}
use Rattle.nfs4_file_ops.specs.declared.get_device_info.GetDeviceInfoArgs.{GetDeviceInfoArgs}
use Rattle.nfs4_file_ops.specs.declared.get_device_info.GetDeviceInfoOk.{GetDeviceInfoOk}
use Rattle.nfs4_types.specs.Objects.{opaque_body}

-- GETDEVICEINFO4args: device_id, layout_type, maxcount, notify_types
abbrev pub getdeviceinfo4_args : Form
getdeviceinfo4_args = Pair deviceid4 (Pair Number32 (Pair Number32 bitmap4))

abbrev pub getdeviceinfo4_args_value : GetDeviceInfoArgs → Value getdeviceinfo4_args
getdeviceinfo4_args_value a = (a.device.0, (a.layout_type, (a.maxcount, bitmap4_value a.notify_types)))

-- GETDEVICEINFO4resok: device_addr (layout_type, addr_body), notification
abbrev pub getdeviceinfo4_ok : Form
getdeviceinfo4_ok = Pair Number32 (Pair opaque_body bitmap4)

abbrev pub getdeviceinfo4_ok_value : GetDeviceInfoOk → Value getdeviceinfo4_ok
getdeviceinfo4_ok_value a = (a.layout_type, (a.body.bytes.now, bitmap4_value a.notification))

-- GETDEVICEINFO4res: OK with its fields, TOOSMALL with mincount, any other status alone
abbrev pub getdeviceinfo4_res : Form
getdeviceinfo4_res = Arm 0 getdeviceinfo4_ok (Arm 10005 Number32 (Enum (but 10005 refusals4)))

abbrev pub getdeviceinfo4_res_value : GetDeviceInfoRes → Value getdeviceinfo4_res
getdeviceinfo4_res_value (Done r) = inl (getdeviceinfo4_ok_value r)
getdeviceinfo4_res_value (TooSmall mincount) = inr (inl mincount)
getdeviceinfo4_res_value (Refused status) = inr (inr (stat4_number status))
