-- What a record is: a call, a reply, or neither (RFC 5531, section 9).
use Rattle.std.specs.Prelude.{ℕ, ◌-◌, ◌==◌, nat_le, Bool, ◌&&◌, if◌then◌else◌, List, length}
use Rattle.rpc_record.specs.Calls.{word_of}
use Rattle.rpc_record.specs.Stream.{one_more}
use Rattle.record_link.specs.declared.message.TheConstants.{CALL, REPLY}

-- the message's type stands behind its number
abbrev pub has_type : ℕ → List ℕ → Bool
has_type kind bytes = nat_le 8 (length bytes) && (word_of bytes 4 == kind)

abbrev pub is_call_record : List ℕ → Bool
is_call_record bytes = has_type CALL bytes

abbrev pub is_reply_record : List ℕ → Bool
is_reply_record bytes = has_type REPLY bytes

-- how many calls are unanswered behind a record that came, and behind one that goes
abbrev pub unanswered_behind : List ℕ → ℕ → ℕ
unanswered_behind came n = if is_call_record came then one_more n else n

abbrev pub unanswered_after : List ℕ → ℕ → ℕ
unanswered_after goes n = if is_reply_record goes then n - 1 else n
