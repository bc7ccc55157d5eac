-- Times (RFC 8881, section 3.3.1).
use Rattle.ff_xdr.specs.Form.{Form, Number32, Hyper, Pair, Value}
use Rattle.nfs4_types.specs.declared.time.Time4.{Time4}

-- nfstime4: seconds, which are signed, so between -2^63 and 2^63 - 1; nanoseconds
abbrev pub nfstime4 : Form
nfstime4 = Pair Hyper Number32

abbrev pub nfstime4_value : Time4 → Value nfstime4
nfstime4_value t = (t.seconds, t.nanos)
