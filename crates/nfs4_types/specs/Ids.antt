-- The identifiers of sessions and of devices (RFC 8881, sections 3.2 and 3.3.14).
use Rattle.std.specs.Prelude.{ℕ, ◌++◌, replicate}
use Rattle.ff_xdr.specs.Form.{Form, Fixed, long}
use Rattle.nfs4_types.specs.declared.ids.DeviceId.{DeviceId}

-- sessionid4 and deviceid4: sixteen bytes
abbrev pub sessionid4 : Form
sessionid4 = Fixed 16

abbrev pub deviceid4 : Form
deviceid4 = Fixed 16

-- the device of a data server: eight zeros, and its number; the layout is the project's own
abbrev pub device_id_of : ℕ → DeviceId
device_id_of server = record { 0 = replicate 8 0 ++ long server }
