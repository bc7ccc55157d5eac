-- The calls of one session that a callback refers to (RFC 8881, section 20.9).
use Rattle.ff_xdr.specs.Items.{contents}
use Rattle.ff_xdr.specs.Form.{Form, Array, Pair, Value}
use Rattle.nfs4_types.specs.Ids.{sessionid4}
use Rattle.nfs4_session_ops.specs.declared.referring_calls.ReferringCalls.{ReferringCalls}
use Rattle.nfs4_session_ops.specs.ReferringCall.{referring_call4, referring_call4_value}

-- referring_call_list4: sessionid, referring_calls<>
abbrev pub referring_call_list4 : Form
referring_call_list4 = Pair sessionid4 (Array 4294967295 referring_call4)

abbrev pub referring_call_list4_value : ReferringCalls → Value referring_call_list4
referring_call_list4_value a = (a.session.0, contents referring_call4 referring_call4_value a.calls.items.place)
