-- A log is read record by record.
use Rattle.std.proofs.Common.{◌≡◌, ℕ, ◌+◌, List, [], ◌∷◌, ◌++◌, false, length, drop, Option, Some, None, refl, sym, ap, ◌∙◌, arith}
use Rattle.std.proofs.lemmas.List.{length-drop, drop-drop}
use Rattle.store_disk.specs.Disks.{DiskLife}
use Rattle.store_disk.proofs.Leaving.{Told}
use Rattle.gate_log.specs.Logs.{Log, Absent, Closed, Broken, Opens, gate_of, with_body, ended_log, log_from, log_size}
use Rattle.gate_log.specs.Appends.{whole_log, IsSynced, KeepsLog, HoldsLog}
use Rattle.gate_log.proofs.GateLemmas.{closed_some}
use Rattle.gate_log.proofs.LogLemmas.{log_by_gate, with_bodies, with_bodies_push, with_bodies_whole, log_size_push, disk_log}

-- These bodies were read, and a gate byte is due at this place.
pub record HasRead (bytes : List ℕ) (bodies : List (List ℕ)) (at : ℕ) : Type 0 where
  pub log : log_from bytes ≡ with_bodies bodies (log_from (drop at bytes))
  pub at_is : at ≡ log_size bodies

pub read_none : (bytes : List ℕ) → HasRead bytes [] 0
read_none bytes = record { log = refl; at_is = refl }

-- one record more
pub read_more : (bytes : List ℕ) (bodies : List (List ℕ)) (at : ℕ) (body : List ℕ) → HasRead bytes bodies at → gate_of (drop at bytes) ≡ Opens body (drop (5 + length body) (drop at bytes))
    → HasRead bytes (bodies ++ body ∷ []) (at + (5 + length body))
read_more bytes bodies at body read opens = record {
  log =
      read.log ∙ ap (with_bodies bodies) (log_by_gate (drop at bytes) (Opens body (drop (5 + length body) (drop at bytes))) opens)
      ∙ sym (with_bodies_push bodies body (log_from (drop (5 + length body) (drop at bytes))))
      ∙ ap (λ (xs : List ℕ). with_bodies (bodies ++ body ∷ []) (log_from xs)) (drop-drop (5 + length body) at bytes);
  at_is = omega (arith, read.at_is, log_size_push bodies body);
}

-- the log ends at a closed gate
pub read_closed : (bytes : List ℕ) (bodies : List (List ℕ)) (at : ℕ) → HasRead bytes bodies at → gate_of (drop at bytes) ≡ Closed → log_from bytes ≡ whole_log bodies
read_closed bytes bodies at read closed = read.log ∙ ap (with_bodies bodies) (log_by_gate (drop at bytes) Closed closed) ∙ with_bodies_whole bodies

abbrev pub cut_log : List (List ℕ) → Log
cut_log bodies = record { bodies = bodies; is_whole = false }

with_bodies_cut : (bodies : List (List ℕ)) → with_bodies bodies (ended_log false) ≡ cut_log bodies
with_bodies_cut [] = refl
with_bodies_cut (body ∷ bodies) = ap (with_body body) (with_bodies_cut bodies)

-- The bytes end where a gate byte is due, or within a record.
pub read_absent : (bytes : List ℕ) (bodies : List (List ℕ)) (at : ℕ) → HasRead bytes bodies at → gate_of (drop at bytes) ≡ Absent → log_from bytes ≡ cut_log bodies
read_absent bytes bodies at read is = read.log ∙ ap (with_bodies bodies) (log_by_gate (drop at bytes) Absent is) ∙ with_bodies_cut bodies

pub read_broken : (bytes : List ℕ) (bodies : List (List ℕ)) (at : ℕ) → HasRead bytes bodies at → gate_of (drop at bytes) ≡ Broken → log_from bytes ≡ cut_log bodies
read_broken bytes bodies at read is = read.log ∙ ap (with_bodies bodies) (log_by_gate (drop at bytes) Broken is) ∙ with_bodies_cut bodies

-- a disk whose whole log was read keeps it
pub keeps_read : (life : DiskLife) (bodies : List (List ℕ)) (at : ℕ) → IsSynced life → HasRead life.now.seen bodies at → gate_of (drop at life.now.seen) ≡ Closed → KeepsLog life bodies at
keeps_read life bodies at synced read closed = record {
  synced = synced;
  log = disk_log bodies life.now.seen (read_closed life.now.seen bodies at read closed);
  end_is = read.at_is;
  within = omega (arith, closed_some (drop at life.now.seen) closed, length-drop at life.now.seen);
  closed = closed;
}

-- the same of a disk that may tell nothing
pub holds_read : (told : Option DiskLife) (bodies : List (List ℕ)) (at : ℕ) → Told told (λ life. IsSynced life × HasRead life.now.seen bodies at × (gate_of (drop at life.now.seen) ≡ Closed)) → HoldsLog told bodies at
holds_read None bodies at h = tt
holds_read (Some life) bodies at h = keeps_read life bodies at h.0 h.1 h.2
