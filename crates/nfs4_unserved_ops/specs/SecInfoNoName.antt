-- SECINFO_NO_NAME: how a file may be reached safely (RFC 8881, section 18.45).
use Rattle.std.specs.Prelude.{ℕ, [], ◌∷◌}
use Rattle.ff_xdr.specs.Form.{Form, Enum, Default, Array}
use Rattle.nfs4_unserved_ops.specs.declared.sec_info_no_name.SecInfoStyle.{SecInfoStyle}
use Rattle.nfs4_unserved_ops.specs.declared.sec_info_no_name.SecInfoStyle.TheVariants.{CurrentFh, Parent}

-- secinfo_style4: CURRENT_FH, PARENT
abbrev pub secinfo_style4 : Form
secinfo_style4 = Enum (0 ∷ 1 ∷ [])

abbrev pub secinfo_style4_number : SecInfoStyle → ℕ
secinfo_style4_number CurrentFh = 0
secinfo_style4_number Parent = 1

-- secinfo4: a flavor, of which none but RPCSEC_GSS 6 has more; that one is not built
abbrev pub flavor4 : Form
flavor4 = Default (6 ∷ [])

-- SECINFO4resok: secinfo4<>
abbrev pub flavors4 : Form
flavors4 = Array 4294967295 flavor4
