-- EXCHANGE_ID: a client makes itself known (RFC 8881, section 18.35).
use Rattle.std.proofs.Common.{inl}
use Rattle.std.specs.Option.{option_map}
use Rattle.ff_xdr.specs.Form.{Form, Array, Number32, Number64, Pair, Void, Value}
use Rattle.nfs4_types.specs.AtMostOne.{listed_one}
use Rattle.nfs4_session_ops.specs.declared.exchange_id.ExchangeIdArgs.{ExchangeIdArgs}
use Rattle.nfs4_session_ops.specs.declared.exchange_id.ExchangeIdOk.{ExchangeIdOk}
use Rattle.nfs4_types.specs.Objects.{owner4}
use Rattle.nfs4_types.specs.ArmZero.{arm_zero}
use Rattle.nfs4_session_ops.specs.ImplId.{impl_id4, impl_id4_value}

-- EXCHANGE_ID4args: clientowner (verifier, ownerid), flags, state_protect, of which SP4_NONE 0 is built, client_impl_id<1>
abbrev pub exchange_id4_args : Form
exchange_id4_args = Pair Number64 (Pair owner4 (Pair Number32 (Pair (arm_zero Void) (Array 1 impl_id4))))

abbrev pub exchange_id4_args_value : ExchangeIdArgs → Value exchange_id4_args
exchange_id4_args_value a = (a.verifier, (a.owner.bytes.now, (a.flags, (inl tt, listed_one (option_map impl_id4_value a.impl_id.value)))))

-- EXCHANGE_ID4resok: clientid, sequenceid, flags, state_protect, server_owner (minor_id, major_id), server_scope, server_impl_id<1>
abbrev pub exchange_id4_ok : Form
exchange_id4_ok = Pair Number64 (Pair Number32 (Pair Number32 (Pair (arm_zero Void) (Pair Number64 (Pair owner4 (Pair owner4 (Array 1 impl_id4)))))))

abbrev pub exchange_id4_ok_value : ExchangeIdOk → Value exchange_id4_ok
exchange_id4_ok_value a = (a.clientid, (a.sequence, (a.flags, (inl tt, (a.minor_id, (a.major_id.bytes.now, (a.scope.bytes.now, listed_one (option_map impl_id4_value a.impl_id.value))))))))
