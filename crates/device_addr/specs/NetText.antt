-- An address on a network, as messages have it: its form is `netaddr4` of nfs4_types (RFC 8881, section 3.3.9).
use Rattle.ff_xdr.specs.Form.{Value}
use Rattle.nfs4_types.specs.Texts.{netaddr4}
use Rattle.device_addr.specs.declared.net_text.NetText.{NetText}

abbrev pub netaddr4_value : NetText → Value netaddr4
netaddr4_value a = (a.netid.now, a.address.now)
