-- The laws of calls and of replies: what was written is read back, what is read is spelled so, which
-- records are no calls, and which headers are refused.
use Rattle.std.specs.Prelude.{◌≡◌, ◌≢◌, ◌↔◌, ℕ, ◌^◌, ◌<◌, ◌≤◌, List, length, take, Ok, Err, ◌⊎◌}
use Rattle.ff_xdr.specs.declared.error.XdrError.{XdrError}
use Rattle.ff_xdr.specs.declared.error.XdrWhy.TheVariants.{Short}
use Rattle.ff_xdr.specs.Form.{Fits}
use Rattle.ff_xdr.specs.Reading.{reading}
use Rattle.ff_xdr.specs.Laws.{IsBytes, Stands, behind, EndsShort, StopsThere}
use Rattle.rpc_record.specs.declared.call.CallFault.TheVariants.{NotACall, RpcVersion, Bad}
use Rattle.rpc_record.specs.Calls.{RpcCall, call_body, body_value, call_bytes, call_at, word_of}
use Rattle.rpc_record.specs.Replies.{RpcReply, ReplyFits, reply_bytes, reply_at}

abbrev pub IsCallReadAgain : RpcCall → Type 0
IsCallReadAgain c = c.xid < 2 ^ 32 → Fits call_body (body_value c) → call_at (call_bytes c) ≡ Ok c

abbrev pub IsCallSpelledSo : List ℕ → RpcCall → Type 0
IsCallSpelledSo bytes c = IsBytes bytes → call_at bytes ≡ Ok c → (bytes ≡ call_bytes c) × (c.xid < 2 ^ 32) × Fits call_body (body_value c)

-- no call at all: two words do not stand, or the second is not 0
abbrev pub IsNoCallJustWhere : List ℕ → Type 0
IsNoCallJustWhere bytes = call_at bytes ≡ Err NotACall ↔ ((length bytes < 8) ⊎ (word_of bytes 4 ≢ 0))

-- a call of another RPC version: three words stand, the second is 0 and the third is not 2
abbrev pub IsOfAnotherVersionJustWhere : List ℕ → ℕ → Type 0
IsOfAnotherVersionJustWhere bytes xid = call_at bytes ≡ Err (RpcVersion xid) ↔ ((12 ≤ length bytes) × (word_of bytes 0 ≡ xid) × (word_of bytes 4 ≡ 0) × (word_of bytes 8 ≢ 2))

abbrev pub IsReplyReadAgain : RpcReply → Type 0
IsReplyReadAgain r = ReplyFits r → reply_at (reply_bytes r) ≡ Ok r

abbrev pub IsReplySpelledSo : List ℕ → RpcReply → Type 0
IsReplySpelledSo bytes r = IsBytes bytes → reply_at bytes ≡ Ok r → (bytes ≡ reply_bytes r) × ReplyFits r

-- A header is refused behind its second word: the third does not stand, or it is 2, the RPC version, and
-- what follows is not in its form (RFC 5531, section 9).
abbrev pub HasBadHeader : List ℕ → XdrError → Type 0
HasBadHeader bytes e =
    ((length bytes < 12) × (e ≡ record { place = length bytes; why = Short }))
    ⊎ ((12 ≤ length bytes) × (word_of bytes 8 ≡ 2) × (reading call_body bytes 12 ≡ Err e))

-- a call whose header is refused: two words stand, the second is 0, and the rest of the header is refused
abbrev pub IsBadJustWhere : List ℕ → ℕ → XdrError → Type 0
IsBadJustWhere bytes xid e = call_at bytes ≡ Err (Bad xid e) ↔ ((8 ≤ length bytes) × (word_of bytes 0 ≡ xid) × (word_of bytes 4 ≡ 0) × HasBadHeader bytes e)

-- a call that is refused as short is refused at the record's end
abbrev pub IsCallShortAtEnd : List ℕ → ℕ → XdrError → Type 0
IsCallShortAtEnd bytes xid e = call_at bytes ≡ Err (Bad xid e) → e.why ≡ Short → e.place ≡ length bytes

-- Any other refusal of a call stands whatever follows the refused item.
abbrev pub IsCallRefusedThere : List ℕ → ℕ → XdrError → Type 0
IsCallRefusedThere bytes xid e = (other : List ℕ) → call_at bytes ≡ Err (Bad xid e) → ¬ (e.why ≡ Short)
    → take (behind e) bytes ≡ take (behind e) other → call_at other ≡ Err (Bad xid e)

-- The same of replies, where bytes are left over too.
abbrev pub IsReplyShortAtEnd : Type 0
IsReplyShortAtEnd = EndsShort reply_at

abbrev pub IsReplyRefusedThere : Type 0
IsReplyRefusedThere = StopsThere reply_at

-- a call with this number begins with the bytes up to a place
pub record BeginsCall (bytes : List ℕ) (xid place : ℕ) : Type 0 where
  pub call : RpcCall
  pub fits : Fits call_body (body_value call)
  pub own : call.xid ≡ xid
  pub small : xid < 2 ^ 32
  pub begins : Stands bytes 0 (take place (call_bytes call)) place

-- Up to the refused place some call has these bytes: no earlier byte is at fault.
abbrev pub IsCallFirstFault : List ℕ → ℕ → XdrError → Type 0
IsCallFirstFault bytes xid e = IsBytes bytes → call_at bytes ≡ Err (Bad xid e) → ¬ (e.why ≡ Short) → BeginsCall bytes xid e.place

-- The same of replies.
pub record BeginsReply (bytes : List ℕ) (place : ℕ) : Type 0 where
  pub reply : RpcReply
  pub fits : ReplyFits reply
  pub begins : Stands bytes 0 (take place (reply_bytes reply)) place

abbrev pub IsReplyFirstFault : List ℕ → XdrError → Type 0
IsReplyFirstFault bytes e = IsBytes bytes → reply_at bytes ≡ Err e → ¬ (e.why ≡ Short) → BeginsReply bytes e.place
