-- A call that a callback refers to (RFC 8881, section 20.9).
use Rattle.ff_xdr.specs.Form.{Form, Number32, Pair, Value}
use Rattle.nfs4_session_ops.specs.declared.referring_call.ReferringCall.{ReferringCall}

-- referring_call4: sequenceid, slotid
abbrev pub referring_call4 : Form
referring_call4 = Pair Number32 Number32

abbrev pub referring_call4_value : ReferringCall → Value referring_call4
referring_call4_value a = (a.sequence, a.slot)
