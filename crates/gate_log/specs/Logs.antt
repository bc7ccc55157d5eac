-- A log of records, each behind a gate byte.
--
-- A record is the gate byte 1, the length of its body in four bytes, and the body. The log ends at the first gate byte other than 1, whatever
-- stands behind it.
use Rattle.std.specs.Prelude.{ℕ, zero, suc, ◌+◌, ◌==◌, nat_lt, nat_le, if◌then◌else◌, Bool, true, false, List, [], ◌∷◌, ◌++◌, length, take, drop}
use Rattle.std.specs.List.{flat_map}
use Rattle.ff_xdr.specs.Form.{word}
use Rattle.rpc_record.specs.Calls.{word_of}

-- the bytes of a record with this body
abbrev pub gated : List ℕ → List ℕ
gated body = 1 ∷ word (length body) ++ body

abbrev pub gated_all : List (List ℕ) → List ℕ
gated_all bodies = flat_map (λ body. gated body) bodies

-- how many bytes records with these bodies have
abbrev pub log_size : List (List ℕ) → ℕ
log_size [] = 0
log_size (body ∷ bodies) = 5 + length body + log_size bodies

-- What stands where a gate byte is due: no byte; a gate byte other than 1; a gate byte 1 with no whole record; or a record, with what stands
-- behind it.
pub data Gate : Type 0 where
  Absent : Gate
  Closed : Gate
  Broken : Gate
  Opens : (body rest : List ℕ) → Gate

-- the record behind a gate byte 1
abbrev pub record_behind : List ℕ → Gate
record_behind bytes =
    if nat_lt (length bytes) 4 then Broken
    else (if nat_lt (length (drop 4 bytes)) (word_of bytes 0) then Broken
    else Opens (take (word_of bytes 0) (drop 4 bytes)) (drop (word_of bytes 0) (drop 4 bytes)))

abbrev pub gate_of : List ℕ → Gate
gate_of [] = Absent
gate_of (byte ∷ bytes) = if byte == 1 then record_behind bytes else Closed

-- A log: the bodies of its records, and whether it ends in a gate byte. It does not where the bytes end in a gate byte's place, or within a
-- record.
pub record Log : Type 0 where
  pub bodies : List (List ℕ)
  pub is_whole : Bool

abbrev pub with_body : List ℕ → Log → Log
with_body body log = record { bodies = body ∷ log.bodies; is_whole = log.is_whole }

abbrev pub ended_log : Bool → Log
ended_log is_whole = record { bodies = []; is_whole = is_whole }

-- what a gate leads to, where the log behind a record is known
abbrev pub log_at : Gate → (List ℕ → Log) → Log
log_at Absent behind = ended_log false
log_at Closed behind = ended_log true
log_at Broken behind = ended_log false
log_at (Opens body rest) behind = with_body body (behind rest)

-- The log from a gate byte's place on, of at most so many records. Bytes have no more records than bytes.
unfoldable pub log_within : ℕ → List ℕ → Log
log_within zero bytes = ended_log false
log_within (suc n) bytes = log_at (gate_of bytes) (log_within n)

abbrev pub log_from : List ℕ → Log
log_from bytes = log_within (length bytes + 1) bytes

-- the log of a disk with these bytes; one of at most one byte is new, and has none
abbrev pub log_of : List ℕ → Log
log_of bytes = if nat_le (length bytes) 1 then ended_log true else log_from bytes
