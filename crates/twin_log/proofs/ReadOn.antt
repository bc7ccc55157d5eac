-- The bodies of a log in two files are read one by one.
use Rattle.std.proofs.Common.{◌≡◌, ℕ, ◌+◌, ◌<◌, ◌≤◌, true, false, eqb, List, [], ◌∷◌, ◌++◌, length, drop, Option, Some, None, Ok, Err, refl, sym, ap, subst, ◌∙◌, arith, inl, inr}
use Rattle.std.proofs.lemmas.Bool.{cases_Bool}
use Rattle.std.proofs.lemmas.List.{drop-drop}
use Rattle.store_disk.specs.Disks.{DiskLife}
use Rattle.gate_log.specs.Logs.{Closed, Opens, gate_of, log_from, log_size}
use Rattle.gate_log.specs.Appends.{FindsGate, whole_log}
use Rattle.gate_log.specs.declared.reading.Found.{Found}
use Rattle.gate_log.specs.declared.reading.Found.TheVariants as found
use Rattle.gate_log.proofs.GateLemmas.{record_gate, record_rest}
use Rattle.gate_log.proofs.LogLemmas.{first_of, log_by_disk}
use Rattle.twin_log.specs.declared.fault.LogCause.TheVariants as cause
use Rattle.twin_log.specs.Twins.{generation_in}
use Rattle.twin_log.specs.KeptLogs.{HoldsFile, KeptLogState, SaysLog}
use Rattle.twin_log.specs.LogCalls.{ReadsOn, WhereTold}

-- the bodies of a file up to some of those of the log
record Split (all : List (List ℕ)) (start : ℕ) (done rest : List (List ℕ)) : Type 0 where
  front : List (List ℕ)
  all_is : all ≡ front ++ rest
  size : log_size front ≡ start + log_size done

split_all : (all : List (List ℕ)) (generation start : ℕ) (done rest : List (List ℕ)) → SaysLog all generation start (done ++ rest) → Split all start done rest
split_all [] generation start done rest says = absurd (cc (says.generation_is))
split_all (body ∷ all) generation start done rest says = elim (cases_Bool (eqb (generation_in body) 0)) [
  | inl zero ↦
      let bodies : body ∷ all ≡ done ++ rest = rw zero at says.bodies_are in
      let first : 0 ≡ start = rw zero at says.start_is in
      record { front = done; all_is = bodies; size = omega (arith, first) }
  | inr other ↦
      let bodies : all ≡ done ++ rest = rw other at says.bodies_are in
      let first : 5 + length body ≡ start = rw other at says.start_is in
      record { front = body ∷ done; all_is = ap (λ (xs : List (List ℕ)). body ∷ xs) bodies; size = omega (arith, first) }
]

size_both : (front rest : List (List ℕ)) → log_size (front ++ rest) ≡ log_size front + log_size rest
size_both [] rest = omega arith
size_both (body ∷ front) rest = omega (arith, size_both front rest)

rest_none : (rest : List (List ℕ)) → log_size rest ≤ 0 → rest ≡ []
rest_none [] none = refl
rest_none (body ∷ rest) none = absurd (omega (arith, none))

-- what stands behind the first records of a log
front_rest : (front rest : List (List ℕ)) (bytes : List ℕ) → log_from bytes ≡ whole_log (front ++ rest) → log_from (drop (log_size front) bytes) ≡ whole_log rest
front_rest [] rest bytes log = log
front_rest (body ∷ front) rest bytes log =
    let f = first_of bytes body (front ++ rest) log in
    let behind : drop (log_size front) f.rest ≡ drop (5 + length body + log_size front) bytes =
    ap (drop (log_size front)) (sym (record_rest bytes body f.rest f.here)) ∙ drop-drop (log_size front) (5 + length body) bytes in
    subst (λ (xs : List ℕ). log_from xs ≡ whole_log rest) behind (front_rest front rest f.rest f.behind)

-- there is one more, and its record stands there
record HasNext (bytes : List ℕ) (at : ℕ) (rest : List (List ℕ)) : Type 0 where
  body : List ℕ
  behind : List (List ℕ)
  is : rest ≡ body ∷ behind
  left : List ℕ
  opens : gate_of (drop at bytes) ≡ Opens body left

has_next : (rest : List (List ℕ)) (bytes : List ℕ) (at : ℕ) → log_from (drop at bytes) ≡ whole_log rest → 0 < log_size rest → HasNext bytes at rest
has_next [] bytes at log some = absurd (omega (arith, some))
has_next (body ∷ rest) bytes at log some =
    let f = first_of (drop at bytes) body rest log in
    record { body = body; behind = rest; is = refl; left = f.rest; opens = record_gate (drop at bytes) body f.rest f.here }

module _ (log : KeptLogState) (generation start : ℕ) (done rest : List (List ℕ)) (at : log.next ≡ start + log_size done) where
  -- how many bytes the records have that are left
  left_size : (life : DiskLife) → HoldsFile (Some life) generation start (done ++ rest) log.end log.size → log.end ≡ log.next + log_size rest
  left_size life h =
      let s = split_all h.all generation start done rest h.says in
      omega (arith, h.log.end_is, ap log_size s.all_is, size_both s.front rest, s.size, at)

  next_of : (life : DiskLife) → HoldsFile (Some life) generation start (done ++ rest) log.end log.size → log.next < log.end → HasNext life.now.seen log.next rest
  next_of life h less =
      let s = split_all h.all generation start done rest h.says in
      let shut : gate_of (drop (log_size h.all) life.now.seen) ≡ Closed = subst (λ (n : ℕ). gate_of (drop n life.now.seen) ≡ Closed) h.log.end_is h.log.closed in
      let whole : log_from life.now.seen ≡ whole_log (s.front ++ rest) = log_by_disk h.all life.now.seen h.log.log shut ∙ ap whole_log s.all_is in
      let place : log_size s.front ≡ log.next = s.size ∙ sym at in
      has_next rest life.now.seen log.next (subst (λ (n : ℕ). log_from (drop n life.now.seen) ≡ whole_log rest) place (front_rest s.front rest life.now.seen whole)) (omega (arith, left_size life h, less))

  pub none_left : (told : Option DiskLife) (into : List ℕ) → HoldsFile told generation start (done ++ rest) log.end log.size → log.end ≤ log.next → WhereTold told (ReadsOn start done rest log (Ok false) into log)
  none_left None into h over = tt
  none_left (Some life) into h over = (rest_none rest (omega (arith, left_size life h, over)), refl)

  pub one_read : (told : Option DiskLife) (into : List ℕ) → HoldsFile told generation start (done ++ rest) log.end log.size → log.next < log.end → FindsGate told log.size log.next (Ok found.Opens) into
      → WhereTold told (ReadsOn start done rest log (Ok true) into (record log { next = log.next + (5 + length into); place = log.next }))
  one_read None into h less finds = tt
  one_read (Some life) into h less finds =
      let n = next_of life h less in
      let here = finds (sym h.size_is) in
      let same : n.body ≡ into = cc (n.opens, here) in
      (n.behind, n.is ∙ ap (λ (b : List ℕ). b ∷ n.behind) same, refl)

  -- something else stands there: of a disk that tells this cannot be
  pub none_else : (told : Option DiskLife) (it : Found) (into : List ℕ) (place : ℕ) → HoldsFile told generation start (done ++ rest) log.end log.size → log.next < log.end → FindsGate told log.size log.next (Ok it) into → (it ≡ found.Opens → ⊥)
      → WhereTold told (ReadsOn start done rest log (Err (cause.BadLog place)) into log)
  none_else None it into place h less finds other = tt
  none_else (Some life) found.Absent into place h less finds other = let n = next_of life h less in let here = finds (sym h.size_is) in absurd (cc (n.opens, here))
  none_else (Some life) found.Closed into place h less finds other = let n = next_of life h less in let here = finds (sym h.size_is) in absurd (cc (n.opens, here))
  none_else (Some life) found.Broken into place h less finds other = let n = next_of life h less in let here = finds (sym h.size_is) in absurd (cc (n.opens, here))
  none_else (Some life) found.Opens into place h less finds other = absurd (other refl)
