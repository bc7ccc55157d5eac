-- BIND_CONN_TO_SESSION: a connection for a session's channels (RFC 8881, section 18.34).
use Rattle.std.specs.Prelude.{IsTrue, refl}
use Rattle.ff_xdr.specs.Form.{Form, Boolean, Pair, Value}
use Rattle.ff_xdr.specs.Proper.{is_proper, pair_is_proper}
use Rattle.nfs4_types.specs.Ids.{sessionid4}
use Rattle.nfs4_session_ops.specs.declared.bind_conn.BindConn.{BindConn}
use Rattle.nfs4_session_ops.specs.Directions.{from_client4, from_server4}

-- BIND_CONN_TO_SESSION4args and BIND_CONN_TO_SESSION4resok: sessid, dir, use_conn_in_rdma_mode. They differ in the directions that there are.
abbrev pub bind_conn4 : Form → Form
bind_conn4 direction = Pair sessionid4 (Pair direction Boolean)

abbrev pub bind_conn4_value : {D : Type 0} (direction : Form) → (D → Value direction) → BindConn D → Value (bind_conn4 direction)
bind_conn4_value direction direction_value b = (b.session.0, (direction_value b.direction, b.rdma))

pub bind_conn4_is_proper : (direction : Form) → IsTrue (is_proper direction) → IsTrue (is_proper (bind_conn4 direction))
bind_conn4_is_proper direction p = pair_is_proper sessionid4 (Pair direction Boolean) refl (pair_is_proper direction Boolean p refl)

abbrev pub bind_conn4_args : Form
bind_conn4_args = bind_conn4 from_client4

abbrev pub bind_conn4_ok : Form
bind_conn4_ok = bind_conn4 from_server4
