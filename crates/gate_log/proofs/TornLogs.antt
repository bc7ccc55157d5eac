-- What a crash makes of a log whose bytes stay the same up to its last gate byte.
use Rattle.std.proofs.Common.{◌≡◌, ℕ, ◌+◌, ◌^◌, ◌<◌, List, length, take, drop, sym, ap, subst, ◌∙◌, arith}
use Rattle.std.proofs.lemmas.List.{length-take, take-take, drop-take}
use Rattle.std.proofs.lemmas.Nat.{from_be_bytes-to_be_bytes_4}
use Rattle.ff_xdr.specs.Form.{word}
use Rattle.rpc_record.specs.Calls.{word_of}
use Rattle.store_disk.specs.Disks.{DiskLife, DiskState, synced_state}
use Rattle.gate_log.specs.Logs.{Closed, gate_of, log_from, log_of, log_size}
use Rattle.gate_log.specs.Appends.{whole_log, KeepsLog}
use Rattle.gate_log.proofs.GateLemmas.{closed_again}
use Rattle.gate_log.proofs.LogLemmas.{same_log, disk_log}

-- bytes have a whole log with these bodies, whose last gate byte stands at this place
pub record HasLog (bytes : List ℕ) (bodies : List (List ℕ)) (end : ℕ) : Type 0 where
  pub log : log_from bytes ≡ whole_log bodies
  pub end_is : end ≡ log_size bodies
  pub within : end < length bytes
  pub closed : gate_of (drop end bytes) ≡ Closed

pub keeps_log : (life : DiskLife) (bytes : List ℕ) (bodies : List (List ℕ)) (end : ℕ) → life.now ≡ synced_state bytes → HasLog bytes bodies end → KeepsLog life bodies end
keeps_log life bytes bodies end is has =
    let seen : life.now.seen ≡ bytes = ap (λ (s : DiskState). s.seen) is in
    record {
      synced = is ∙ ap synced_state (sym seen);
      log = subst (λ (xs : List ℕ). log_of xs ≡ whole_log bodies) (sym seen) (disk_log bodies bytes has.log);
      end_is = has.end_is;
      within = subst (λ (xs : List ℕ). end < length xs) (sym seen) has.within;
      closed = subst (λ (xs : List ℕ). gate_of (drop end xs) ≡ Closed) (sym seen) has.closed;
    }

-- the four bytes of a length count it
pub word_again : (n : ℕ) → n < 2 ^ 32 → word_of (word n) 0 ≡ n
unfolding word word_of
word_again n lt = from_be_bytes-to_be_bytes_4 n lt

-- the log of other bytes that are the same before the last gate byte
module _ (bytes : List ℕ) (bodies : List (List ℕ)) (end : ℕ) (has : HasLog bytes bodies end) where
  pub old_log : (others : List ℕ) → take end others ≡ take end bytes → gate_of (drop end others) ≡ Closed → log_from others ≡ whole_log bodies
  old_log others same closed =
      same_log bodies bytes others has.log (subst (λ (n : ℕ). take n others ≡ take n bytes) has.end_is same) (subst (λ (n : ℕ). gate_of (drop n others) ≡ Closed) has.end_is closed)

  -- that are the same with it
  module _ (others : List ℕ) (same : take (end + 1) others ≡ take (end + 1) bytes) where
    before_same : take end others ≡ take end bytes
    before_same = sym (take-take end (end + 1) others (omega arith)) ∙ ap (take end) same ∙ take-take end (end + 1) bytes (omega arith)

    closed_too : gate_of (drop end others) ≡ Closed
    closed_too = closed_again (drop end bytes) (drop end others) has.closed (sym (drop-take end 1 others) ∙ ap (drop end) same ∙ drop-take end 1 bytes)

    pub up_to_gate : HasLog others bodies end
    up_to_gate = record {
      log = old_log others before_same closed_too;
      end_is = has.end_is;
      within = omega (arith, has.within, ap length same, length-take (end + 1) others, length-take (end + 1) bytes);
      closed = closed_too;
    }
