-- What a file begins with.
use Rattle.std.proofs.Common.{◌≡◌, ℕ, ◌+◌, ◌<◌, true, false, List, length, drop, Option, Some, None, Ok, refl, sym, ap, ◌∙◌, arith}
use Rattle.store_disk.specs.Disks.{DiskLife, Measures}
use Rattle.gate_log.specs.Logs.{Log, Gate, Closed, Broken, Opens, gate_of, log_of, log_from, log_at, ended_log, with_body}
use Rattle.gate_log.specs.Appends.{FindsGate}
use Rattle.gate_log.specs.declared.reading.Found.TheVariants as found
use Rattle.gate_log.proofs.LogLemmas.{many_log, log_by_gate}
use Rattle.twin_log.specs.declared.kept_log.FileHead.{FileHead}
use Rattle.twin_log.specs.Twins.{first_place, generation_of}
use Rattle.twin_log.specs.Opening.{BeginsAs, HeadOf, head_with}

log_by : (bytes : List ℕ) (g : Gate) → 1 < length bytes → gate_of bytes ≡ g → log_of bytes ≡ log_at g (λ rest. log_from rest)
log_by bytes g many is = many_log bytes many ∙ log_by_gate bytes g is

abbrev head_none : ℕ → FileHead
head_none size = record { size = size; generation = None; start = 0 }

abbrev head_zero : ℕ → FileHead
head_zero size = record { size = size; generation = Some 0; start = 0 }

begins : (bytes : List ℕ) (log : Log) (head : FileHead) → log_of bytes ≡ log → head.size ≡ length bytes → head.generation ≡ generation_of log → head.start ≡ first_place log.bodies → BeginsAs bytes head
begins bytes log head is size generation start = record { size = size; generation = generation ∙ ap generation_of (sym is); start = start ∙ ap (λ (l : Log). first_place l.bodies) (sym is) }

module _ (size : ℕ) (body : List ℕ) (many : 1 < size) where
  pub closed_head : (told : Option DiskLife) → Measures told (Ok size) → FindsGate told size 0 (Ok found.Closed) body → HeadOf told (Ok (head_none size))
  closed_head None m g = tt
  closed_head (Some life) m g = begins life.now.seen (ended_log true) (head_none size) (log_by life.now.seen Closed (omega (arith, many, m)) (g m)) m refl refl

  pub broken_head : (told : Option DiskLife) → Measures told (Ok size) → FindsGate told size 0 (Ok found.Broken) body → HeadOf told (Ok (head_zero size))
  broken_head None m g = tt
  broken_head (Some life) m g = begins life.now.seen (ended_log false) (head_zero size) (log_by life.now.seen Broken (omega (arith, many, m)) (g m)) m refl refl

  pub opens_head : (told : Option DiskLife) → Measures told (Ok size) → FindsGate told size 0 (Ok found.Opens) body → HeadOf told (Ok (head_with size body))
  opens_head None m g = tt
  opens_head (Some life) m g =
      let rest : List ℕ = drop (5 + length body) life.now.seen in
      begins life.now.seen (with_body body (log_from rest)) (head_with size body) (log_by life.now.seen (Opens body rest) (omega (arith, many, m)) (g m)) m refl refl
