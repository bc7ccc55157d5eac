-- A version of NFS that a device speaks (RFC 8435, section 4.1).
use Rattle.ff_xdr.specs.Form.{Form, Boolean, Number32, Pair, Value}
use Rattle.device_addr.specs.declared.version.FfVersion.{FfVersion}

-- ff_device_versions4: version, minorversion, rsize, wsize, tightly_coupled
abbrev pub ff_device_versions4 : Form
ff_device_versions4 = Pair Number32 (Pair Number32 (Pair Number32 (Pair Number32 Boolean)))

abbrev pub ff_device_versions4_value : FfVersion → Value ff_device_versions4
ff_device_versions4_value v = (v.version, (v.minorversion, (v.rsize, (v.wsize, v.tightly_coupled))))
