-- CREATE_SESSION: a session is made (RFC 8881, section 18.36).
use Rattle.ff_xdr.specs.Items.{contents}
use Rattle.ff_xdr.specs.Form.{Form, Array, Number32, Number64, Pair, Value}
use Rattle.nfs4_types.specs.Channels.{channel_attrs4, channel_attrs4_value}
use Rattle.nfs4_types.specs.Ids.{sessionid4}
use Rattle.nfs4_session_ops.specs.declared.create_session.CreateSessionArgs.{CreateSessionArgs}
use Rattle.nfs4_session_ops.specs.declared.create_session.CreateSessionOk.{CreateSessionOk}
use Rattle.nfs4_session_ops.specs.CallbackSec.{callback_sec4, callback_sec4_value}

-- CREATE_SESSION4args: clientid, sequence, flags, fore_chan_attrs, back_chan_attrs, cb_program, sec_parms<>
abbrev pub create_session4_args : Form
create_session4_args = Pair Number64 (Pair Number32 (Pair Number32 (Pair channel_attrs4 (Pair channel_attrs4 (Pair Number32 (Array 4294967295 callback_sec4))))))

abbrev pub create_session4_args_value : CreateSessionArgs → Value create_session4_args
create_session4_args_value a = (a.clientid, (a.sequence, (a.flags, (channel_attrs4_value a.fore, (channel_attrs4_value a.back, (a.cb_program, contents callback_sec4 callback_sec4_value a.security.items.place))))))

-- CREATE_SESSION4resok: sessionid, sequence, flags, fore_chan_attrs, back_chan_attrs
abbrev pub create_session4_ok : Form
create_session4_ok = Pair sessionid4 (Pair Number32 (Pair Number32 (Pair channel_attrs4 channel_attrs4)))

abbrev pub create_session4_ok_value : CreateSessionOk → Value create_session4_ok
create_session4_ok_value a = (a.session.0, (a.sequence, (a.flags, (channel_attrs4_value a.fore, channel_attrs4_value a.back))))
