-- ACCESS: what may be done with a file (RFC 8881, section 18.1). Its arguments are a number, of a bit for each right.
use Rattle.ff_xdr.specs.Form.{Form, Number32, Pair, Value}
use Rattle.nfs4_unserved_ops.specs.declared.access.AccessOk.{AccessOk}

-- ACCESS4resok: supported, access
abbrev pub access4_ok : Form
access4_ok = Pair Number32 Number32

abbrev pub access4_ok_value : AccessOk → Value access4_ok
access4_ok_value a = (a.supported, a.access)
