-- Names, owners and bodies (RFC 8881, sections 3.1 and 3.2). A definition says its limit as a number again, so that an edit of the
-- code's constant is refused.
use Rattle.nfs4_types.specs.declared.objects.TheConstants.{MAX_OPAQUE4}
use Rattle.ff_xdr.specs.Form.{Form, Opaque}

-- component4, the name of a file: bytes with no maximum but that of a length's word. XDR looks at no more than their length
-- (utf8str_cs is opaque<> there), so that a name is no UTF-8 is the operation's to say (section 14.5).
abbrev pub component4 : Form
component4 = Opaque 4294967295

-- an owner, a server's scope or major id: opaque<NFS4_OPAQUE_LIMIT>
abbrev pub owner4 : Form
owner4 = Opaque MAX_OPAQUE4

-- data, values of attributes, and bodies that are a layout type's own: opaque<>
abbrev pub opaque_body : Form
opaque_body = Opaque 4294967295
