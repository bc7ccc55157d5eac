-- Logs, record by record.
use Rattle.std.proofs.Common.{◌≡◌, ℕ, zero, suc, ◌+◌, ◌<◌, ◌≤◌, Bool, true, List, [], ◌∷◌, ◌++◌, length, take, drop, refl, sym, ap, subst, ◌∙◌, arith, add-one, inl, inr}
use Rattle.std.proofs.lemmas.Bool.{cases_lt, le-leb, lt-leb}
use Rattle.std.proofs.lemmas.List.{take-take, drop-take, drop-drop}
use Rattle.gate_log.specs.Logs.{Gate, Absent, Closed, Broken, Opens, Log, gate_of, with_body, ended_log, log_at, log_within, log_from, log_of, log_size}
use Rattle.gate_log.specs.Appends.{whole_log}
use Rattle.gate_log.proofs.GateLemmas.{IsRecord, gate_record, record_gate, record_length, record_rest, record_again}

-- ---- more records than there are change nothing

log_at_same : (g : Gate) (F G : List ℕ → Log) → ((body rest : List ℕ) → g ≡ Opens body rest → F rest ≡ G rest) → log_at g F ≡ log_at g G
log_at_same Absent F G h = refl
log_at_same Closed F G h = refl
log_at_same Broken F G h = refl
log_at_same (Opens body rest) F G h = ap (with_body body) (h body rest refl)

rest_shorter : (bytes body rest : List ℕ) → gate_of bytes ≡ Opens body rest → length rest < length bytes
rest_shorter bytes body rest is = omega (arith, record_length bytes body rest (gate_record bytes body rest is))

within_same : (n m : ℕ) (bytes : List ℕ) → length bytes < n → length bytes < m → log_within n bytes ≡ log_within m bytes
unfolding log_within
within_same zero m bytes h g = absurd (omega arith)
within_same (suc n) zero bytes h g = absurd (omega arith)
within_same (suc n) (suc m) bytes h g =
    log_at_same (gate_of bytes) (log_within n) (log_within m) (λ body rest is. within_same n m rest (omega (arith, rest_shorter bytes body rest is)) (omega (arith, rest_shorter bytes body rest is)))

within_step : (n : ℕ) (bytes : List ℕ) → log_within (suc n) bytes ≡ log_at (gate_of bytes) (log_within n)
unfolding log_within
within_step n bytes = refl

-- a log is what its first gate leads to
pub log_step : (bytes : List ℕ) → log_from bytes ≡ log_at (gate_of bytes) (λ rest. log_from rest)
log_step bytes =
    ap (λ (n : ℕ). log_within n bytes) (add-one (length bytes)) ∙ within_step (length bytes) bytes
    ∙ log_at_same (gate_of bytes) (log_within (length bytes)) (λ rest. log_from rest)
    (λ body rest is. within_same (length bytes) (length rest + 1) rest (rest_shorter bytes body rest is) (omega arith))

pub log_by_gate : (bytes : List ℕ) (g : Gate) → gate_of bytes ≡ g → log_from bytes ≡ log_at g (λ rest. log_from rest)
log_by_gate bytes g is = log_step bytes ∙ ap (λ (h : Gate). log_at h (λ rest. log_from rest)) is

-- ---- the first records of a log

-- a log with these bodies before its own
abbrev pub with_bodies : List (List ℕ) → Log → Log
with_bodies [] log = log
with_bodies (body ∷ bodies) log = with_body body (with_bodies bodies log)

pub with_bodies_push : (bodies : List (List ℕ)) (body : List ℕ) (log : Log) → with_bodies (bodies ++ body ∷ []) log ≡ with_bodies bodies (with_body body log)
with_bodies_push [] body log = refl
with_bodies_push (first ∷ bodies) body log = ap (with_body first) (with_bodies_push bodies body log)

pub with_bodies_whole : (bodies : List (List ℕ)) → with_bodies bodies (ended_log true) ≡ whole_log bodies
with_bodies_whole [] = refl
with_bodies_whole (body ∷ bodies) = ap (with_body body) (with_bodies_whole bodies)

pub log_size_push : (bodies : List (List ℕ)) (body : List ℕ) → log_size (bodies ++ body ∷ []) ≡ log_size bodies + (5 + length body)
log_size_push [] body = omega arith
log_size_push (first ∷ bodies) body = omega (arith, log_size_push bodies body)

abbrev log_with : List (List ℕ) → Bool → Log
log_with bodies is_whole = record { bodies = bodies; is_whole = is_whole }

whole_by : (log : Log) (bodies : List (List ℕ)) → log.bodies ≡ bodies → log.is_whole ≡ true → log ≡ whole_log bodies
whole_by log bodies p q = ap (λ (bs : List (List ℕ)). log_with bs log.is_whole) p ∙ ap (log_with bodies) q

-- the first record of a whole log, and the log behind it
pub record First (bytes body : List ℕ) (bodies : List (List ℕ)) : Type 0 where
  pub rest : List ℕ
  pub here : IsRecord bytes body rest
  pub behind : log_from rest ≡ whole_log bodies

first_at : (bytes : List ℕ) (g : Gate) (body : List ℕ) (bodies : List (List ℕ)) → gate_of bytes ≡ g → log_at g (λ rest. log_from rest) ≡ whole_log (body ∷ bodies) → First bytes body bodies
first_at bytes Absent body bodies is log = let e : [] ≡ body ∷ bodies = ap (λ (l : Log). l.bodies) log in absurd (cc (e))
first_at bytes Closed body bodies is log = let e : [] ≡ body ∷ bodies = ap (λ (l : Log). l.bodies) log in absurd (cc (e))
first_at bytes Broken body bodies is log = let e : [] ≡ body ∷ bodies = ap (λ (l : Log). l.bodies) log in absurd (cc (e))
first_at bytes (Opens found rest) body bodies is log =
    let e : found ∷ (log_from rest).bodies ≡ body ∷ bodies = ap (λ (l : Log). l.bodies) log in
    let same : found ≡ body = cc (e) in
    let others : (log_from rest).bodies ≡ bodies = cc (e) in
    record {
      rest = rest;
      here = subst (λ (xs : List ℕ). IsRecord bytes xs rest) same (gate_record bytes found rest is);
      behind = whole_by (log_from rest) bodies others (ap (λ (l : Log). l.is_whole) log);
    }

pub first_of : (bytes body : List ℕ) (bodies : List (List ℕ)) → log_from bytes ≡ whole_log (body ∷ bodies) → First bytes body bodies
first_of bytes body bodies log = first_at bytes (gate_of bytes) body bodies refl (sym (log_step bytes) ∙ log)

-- Other bytes that are the same before the last gate byte of a whole log have its records first.
pub front_log : (bodies : List (List ℕ)) (bytes others : List ℕ) → log_from bytes ≡ whole_log bodies → take (log_size bodies) others ≡ take (log_size bodies) bytes
    → log_from others ≡ with_bodies bodies (log_from (drop (log_size bodies) others))
front_log [] bytes others log same = refl
front_log (body ∷ bodies) bytes others log same =
    let f = first_of bytes body bodies log in
    let n : ℕ = 5 + length body in
    let size : ℕ = log_size bodies in
    let front : take n others ≡ take n bytes = sym (take-take n (n + size) others (omega arith)) ∙ ap (take n) same ∙ take-take n (n + size) bytes (omega arith) in
    let behind : take size (drop n others) ≡ take size f.rest =
    sym (drop-take n size others) ∙ ap (drop n) same ∙ drop-take n size bytes ∙ ap (take size) (record_rest bytes body f.rest f.here) in
    let gate = record_gate others body (drop n others) (record_again bytes body f.rest others f.here front) in
    log_by_gate others (Opens body (drop n others)) gate
    ∙ ap (with_body body) (front_log bodies f.rest (drop n others) f.behind behind
    ∙ ap (λ (xs : List ℕ). with_bodies bodies (log_from xs)) (drop-drop size n others))

-- ---- the same log

closed_log : (bytes : List ℕ) → gate_of bytes ≡ Closed → log_from bytes ≡ ended_log true
closed_log bytes is = log_by_gate bytes Closed is

pub same_log : (bodies : List (List ℕ)) (bytes others : List ℕ) → log_from bytes ≡ whole_log bodies → take (log_size bodies) others ≡ take (log_size bodies) bytes → gate_of (drop (log_size bodies) others) ≡ Closed
    → log_from others ≡ whole_log bodies
same_log bodies bytes others log same closed =
    front_log bodies bytes others log same ∙ ap (with_bodies bodies) (closed_log (drop (log_size bodies) others) closed) ∙ with_bodies_whole bodies

-- ---- the log of a disk

pub many_log : (bytes : List ℕ) → 1 < length bytes → log_of bytes ≡ log_from bytes
many_log bytes h = let many = lt-leb (length bytes) 1 h in rw many refl

pub few_log : (bytes : List ℕ) → length bytes ≤ 1 → log_of bytes ≡ ended_log true
few_log bytes h = let few = le-leb (length bytes) 1 h in rw few refl

-- a whole log from the first byte on is the disk's
pub disk_log : (bodies : List (List ℕ)) (bytes : List ℕ) → log_from bytes ≡ whole_log bodies → log_of bytes ≡ whole_log bodies
disk_log bodies bytes log = elim (cases_lt 1 (length bytes)) [ inl many ↦ many_log bytes many ∙ log | inr few ↦ few_log bytes few ∙ none bodies log few ]
  where
    none : (all : List (List ℕ)) → log_from bytes ≡ whole_log all → length bytes ≤ 1 → ended_log true ≡ whole_log all
    none [] is few = refl
    none (body ∷ all) is few = let f = first_of bytes body all is in absurd (omega (arith, record_length bytes body f.rest f.here))

-- a disk's whole log is one from the first byte on, where its gate byte is there
pub log_by_disk : (bodies : List (List ℕ)) (bytes : List ℕ) → log_of bytes ≡ whole_log bodies → gate_of (drop (log_size bodies) bytes) ≡ Closed → log_from bytes ≡ whole_log bodies
log_by_disk bodies bytes log closed = elim (cases_lt 1 (length bytes)) [ inl many ↦ sym (many_log bytes many) ∙ log | inr few ↦ none bodies (sym (few_log bytes few) ∙ log) closed ]
  where
    none : (all : List (List ℕ)) → ended_log true ≡ whole_log all → gate_of (drop (log_size all) bytes) ≡ Closed → log_from bytes ≡ whole_log all
    none [] is shut = closed_log bytes shut
    none (body ∷ all) is shut = let e : [] ≡ body ∷ all = ap (λ (l : Log). l.bodies) is in absurd (cc (e))
