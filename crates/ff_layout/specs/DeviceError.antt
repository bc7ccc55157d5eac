-- What went wrong at a device (RFC 7862, section 15.6). The numbers of the status and of the operation are any: a client may know
-- others than this project does.
use Rattle.ff_xdr.specs.Form.{Form, Number32, Pair, Value}
use Rattle.nfs4_types.specs.Ids.{deviceid4}
use Rattle.ff_layout.specs.declared.device_error.DeviceError.{DeviceError}

-- device_error4: deviceid, status, opnum
abbrev pub device_error4 : Form
device_error4 = Pair deviceid4 (Pair Number32 Number32)

abbrev pub device_error4_value : DeviceError → Value device_error4
device_error4_value e = (e.device.0, (e.status, e.opnum))
