-- Attributes (RFC 8881, section 3.3.7).
use Rattle.ff_xdr.specs.Form.{Form, Pair, Value}
use Rattle.nfs4_types.specs.Bitmaps.{bitmap4, bitmap4_value}
use Rattle.nfs4_file_ops.specs.declared.fattr4.Fattr4.{Fattr4}
use Rattle.nfs4_types.specs.Objects.{opaque_body}

-- fattr4: attrmask, attr_vals
abbrev pub fattr4 : Form
fattr4 = Pair bitmap4 opaque_body

abbrev pub fattr4_value : Fattr4 → Value fattr4
fattr4_value a = (bitmap4_value a.mask, a.values.bytes.now)
