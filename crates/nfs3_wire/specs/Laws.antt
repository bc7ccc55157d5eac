-- The laws of calls and of results, beside those of their forms: each is known by its value, and each value is one's.
use Rattle.std.specs.Prelude.{◌≡◌}
use Rattle.ff_xdr.specs.Form.{Value, Fits}
use Rattle.nfs3_wire.specs.Calls.{calls, Nfs3Call, call_value, call_of}
use Rattle.nfs3_wire.specs.Replies.{nfs3_results, Nfs3Reply, reply_value}

-- different calls have different values
abbrev pub IsCallOfItsValue : Nfs3Call → Type 0
IsCallOfItsValue c = call_of (call_value c) ≡ c

-- what is read is one call's value
abbrev pub IsCallsValue : Value calls → Type 0
IsCallsValue v = Fits calls v → v ≡ call_value (call_of v)

-- different results have different values
abbrev pub IsReplyOfItsValue : Nfs3Reply → Nfs3Reply → Type 0
IsReplyOfItsValue r s = reply_value r ≡ reply_value s → r ≡ s

-- what is read is one result's value
abbrev pub IsReplysValue : Value nfs3_results → Type 0
IsReplysValue v = Fits nfs3_results v → (r : Nfs3Reply) × (v ≡ reply_value r)
