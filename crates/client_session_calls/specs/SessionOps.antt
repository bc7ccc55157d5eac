-- The operations by which a client says who it is and makes its session (RFC 8881, section 18). What has no other value is zero, false,
-- absent or empty.
use Rattle.std.specs.Prelude.{ℕ, false, List, [], ◌∷◌}
use Rattle.std.proofs.Common.{inl}
use Rattle.client_session_calls.specs.declared.create_session.TheConstants.{CALLBACK_PROGRAM, WITH_BACK_CHANNEL}
use Rattle.ff_xdr.specs.Form.{Value}
use Rattle.ff_xdr.specs.Arms.{arm}
use Rattle.nfs4_types.specs.Channels.{channel_attrs4}
use Rattle.nfs4_session_ops.specs.CallbackSec.{callback_sec4}
use Rattle.nfs4_compound.specs.Args.{argop4}

-- (section 18.35): who the client is, and no more
abbrev pub exchange_id_op : List ℕ → ℕ → Value argop4
exchange_id_op owner verifier = arm 42 argop4 (verifier, (owner, (0, (inl tt, []))))

-- the channels that a client asks for (section 18.36): headerpadsize, maxrequestsize, maxresponsesize, maxresponsesize_cached,
-- maxoperations, maxrequests
abbrev pub fore_channel : Value channel_attrs4
fore_channel = (0, (1179648, (1179648, (32768, (16, (8, []))))))

abbrev pub back_channel : Value channel_attrs4
back_channel = (0, (4096, (4096, (0, (2, (1, []))))))

-- the program of its callbacks, in the transient range (RFC 5531, section 8.3)
abbrev pub callback_program : ℕ
callback_program = CALLBACK_PROGRAM

-- (section 18.36): with a back channel, whose calls have no credential
abbrev pub create_session_op : ℕ → ℕ → Value argop4
create_session_op clientid sequence = arm 43 argop4 (clientid, (sequence, (WITH_BACK_CHANNEL, (fore_channel, (back_channel, (callback_program, arm 0 callback_sec4 tt ∷ []))))))

-- (section 18.51), behind a SEQUENCE
abbrev pub reclaim_complete_ops : List (Value argop4)
reclaim_complete_ops = arm 58 argop4 false ∷ []
