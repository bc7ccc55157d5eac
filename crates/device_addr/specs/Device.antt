-- The address of a device (RFC 8435, section 4.1).
use Rattle.ff_xdr.specs.Items.{contents}
use Rattle.ff_xdr.specs.Form.{Form, Array, Pair, Value}
use Rattle.nfs4_types.specs.Texts.{netaddr4}
use Rattle.device_addr.specs.NetText.{netaddr4_value}
use Rattle.device_addr.specs.Version.{ff_device_versions4, ff_device_versions4_value}
use Rattle.device_addr.specs.declared.device.FfDeviceAddr.{FfDeviceAddr}

-- multipath_list4: netaddr4<>
abbrev pub multipath_list4 : Form
multipath_list4 = Array 4294967295 netaddr4

-- ff_device_addr4: netaddrs, versions<>
abbrev pub ff_device_addr4 : Form
ff_device_addr4 = Pair multipath_list4 (Array 4294967295 ff_device_versions4)

abbrev pub ff_device_addr4_value : FfDeviceAddr → Value ff_device_addr4
ff_device_addr4_value d = (contents netaddr4 netaddr4_value d.addresses.place, contents ff_device_versions4 ff_device_versions4_value d.versions.place)
