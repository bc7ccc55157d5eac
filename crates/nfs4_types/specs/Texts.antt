-- Texts. The definition says its limit as a number again, so that an edit of the code's is refused.
use Rattle.ff_xdr.specs.Form.{Form, Pair, Text}

-- fattr4_owner, fattr4_owner_group (RFC 8881, section 5.8), the texts of netaddr4 (section 3.3.9) and those of nfs_impl_id4
-- (section 3.3.21) have no maximum but that of a length's word
abbrev pub free_text : Form
free_text = Text 4294967295

-- netaddr4 (RFC 8881, section 3.3.9): na_r_netid, na_r_addr
abbrev pub netaddr4 : Form
netaddr4 = Pair free_text free_text
