-- Where a log ends.
use Rattle.std.proofs.Common.{◌≡◌, ℕ, ◌+◌, ◌-◌, ◌<◌, ◌≤◌, Bool, true, false, List, [], ◌∷◌, ◌++◌, length, take, drop, Option, Some, None, Ok, sym, ap, subst, ◌∙◌, arith}
use Rattle.std.proofs.lemmas.List.{length-drop, length-take-le}
use Rattle.store_disk.specs.Disks.{DiskLife}
use Rattle.store_disk.proofs.Leaving.{Told}
use Rattle.gate_log.specs.Logs.{Log, Closed, Opens, gate_of, log_from, log_of, log_size}
use Rattle.gate_log.specs.Heads.{FindsHead, OpensBody}
use Rattle.gate_log.specs.Staging.{FindsEnd, IsEndOf}
use Rattle.gate_log.specs.declared.reading.Head.TheVariants as head
use Rattle.gate_log.specs.declared.staging.LogEnd.TheVariants as log_end
use Rattle.gate_log.proofs.LogLemmas.{few_log, many_log}
use Rattle.gate_log.proofs.ReadLemmas.{HasRead, cut_log, read_none, read_more, read_closed, read_absent, read_broken}

-- so far the log of a disk with so many bytes has records, and a gate byte is due at this place
abbrev pub ReadsTo : Option DiskLife → ℕ → ℕ → Type 0
ReadsTo told size at = Told told (λ life. size ≡ length life.now.seen → (bodies : List (List ℕ)) × HasRead life.now.seen bodies at)

pub reads_none : (told : Option DiskLife) (size : ℕ) → ReadsTo told size 0
reads_none None size = tt
reads_none (Some life) size = λ is. ([], read_none life.now.seen)

more_bytes : (bytes : List ℕ) (at n : ℕ) (bodies : List (List ℕ)) → HasRead bytes bodies at → OpensBody (drop at bytes) n → (bodies : List (List ℕ)) × HasRead bytes bodies (at + (5 + n))
more_bytes bytes at n bodies read opens =
    let body : List ℕ = take n (drop 5 (drop at bytes)) in
    let long : length body ≡ n = length-take-le n (drop 5 (drop at bytes)) (omega (arith, opens.within, length-drop 5 (drop at bytes))) in
    let gate : gate_of (drop at bytes) ≡ Opens body (drop (5 + length body) (drop at bytes)) = opens.gate ∙ ap (λ (k : ℕ). Opens body (drop (5 + k) (drop at bytes))) (sym long) in
    let all : List (List ℕ) = bodies ++ body ∷ [] in
    (all, subst (λ (k : ℕ). HasRead bytes all (at + (5 + k))) long (read_more bytes bodies at body read gate))

left_of : (bytes : List ℕ) (size at : ℕ) → size ≡ length bytes → size - at ≡ length (drop at bytes)
left_of bytes size at is = omega (arith, is, length-drop at bytes)

pub reads_more : (told : Option DiskLife) (size at n : ℕ) → ReadsTo told size at → FindsHead told at (size - at) (Ok (head.Opens n)) → ReadsTo told size (at + (5 + n))
reads_more None size at n reads finds = tt
reads_more (Some life) size at n reads finds = λ is. let before = reads is in more_bytes life.now.seen at n before.0 before.1 (finds (left_of life.now.seen size at is))

-- a disk of at most one byte
pub ends_few : (told : Option DiskLife) (size : ℕ) → size ≤ 1 → FindsEnd told size (Ok (log_end.Whole 0))
ends_few None size few = tt
ends_few (Some life) size few = λ is.
    let log = few_log life.now.seen (omega (arith, is, few)) in
    (ap (λ (l : Log). l.is_whole) log, ap (λ (l : Log). log_size l.bodies) (sym log), λ many. absurd (omega (arith, is, few, many)))

ends_by : (bytes : List ℕ) (bodies : List (List ℕ)) (at : ℕ) (is_whole : Bool) → at ≡ log_size bodies → log_of bytes ≡ record { bodies = bodies; is_whole = is_whole }
    → ((log_of bytes).is_whole ≡ is_whole) × (at ≡ log_size (log_of bytes).bodies)
ends_by bytes bodies at is_whole at_is log = (ap (λ (l : Log). l.is_whole) log, at_is ∙ ap (λ (l : Log). log_size l.bodies) (sym log))

pub ends_whole : (told : Option DiskLife) (size at : ℕ) → 1 < size → ReadsTo told size at → FindsHead told at (size - at) (Ok head.Closed) → FindsEnd told size (Ok (log_end.Whole at))
ends_whole None size at many reads finds = tt
ends_whole (Some life) size at many reads finds = λ is.
    let bytes : List ℕ = life.now.seen in
    let before = reads is in
    let closed : gate_of (drop at bytes) ≡ Closed = finds (left_of bytes size at is) in
    let both = ends_by bytes before.0 at true before.1.at_is (many_log bytes (omega (arith, is, many)) ∙ read_closed bytes before.0 at before.1 closed) in
    (both.0, both.1, λ long. closed)

cut_bytes : (bytes : List ℕ) (bodies : List (List ℕ)) (at : ℕ) → 1 < length bytes → HasRead bytes bodies at → log_from bytes ≡ cut_log bodies → IsEndOf bytes (log_end.Cut at)
cut_bytes bytes bodies at many read log = ends_by bytes bodies at false read.at_is (many_log bytes many ∙ log)

pub ends_absent : (told : Option DiskLife) (size at : ℕ) → 1 < size → ReadsTo told size at → FindsHead told at (size - at) (Ok head.Absent) → FindsEnd told size (Ok (log_end.Cut at))
ends_absent None size at many reads finds = tt
ends_absent (Some life) size at many reads finds = λ is.
    let before = reads is in
    cut_bytes life.now.seen before.0 at (omega (arith, is, many)) before.1 (read_absent life.now.seen before.0 at before.1 (finds (left_of life.now.seen size at is)))

pub ends_broken : (told : Option DiskLife) (size at : ℕ) → 1 < size → ReadsTo told size at → FindsHead told at (size - at) (Ok head.Broken) → FindsEnd told size (Ok (log_end.Cut at))
ends_broken None size at many reads finds = tt
ends_broken (Some life) size at many reads finds = λ is.
    let before = reads is in
    cut_bytes life.now.seen before.0 at (omega (arith, is, many)) before.1 (read_broken life.now.seen before.0 at before.1 (finds (left_of life.now.seen size at is)))
