-- A record is written behind those that wait.
use Rattle.std.proofs.Common.{◌≡◌, ◌≢◌, ℕ, ◌+◌, ◌-◌, ◌^◌, ◌<◌, ◌≤◌, List, [], ◌∷◌, ◌++◌, length, take, drop, max, Option, Some, None, Result, Ok, Err, ◌⊎◌, inl, inr, refl, sym, ap, subst, ◌∙◌, arith}
use Rattle.std.proofs.lemmas.Bool.{cases_lt}
use Rattle.std.proofs.lemmas.List.{length-drop}
use Rattle.std.proofs.Math.Seq.{take-length}
use Rattle.cluster_model.specs.Content.{overlay}
use Rattle.cluster_model.proofs.Placing.{length-overlay, length-overlay-end}
use Rattle.rpc_record.specs.declared.stream.Failed.{Failed}
use Rattle.store_disk.specs.Disks.{DiskLife, AllImages, LeavesSince, goes_on, with_write, WritesAt}
use Rattle.store_disk.proofs.Leaving.{since_weaker, since_new}
use Rattle.store_disk.proofs.Placed.{torn_whole}
use Rattle.gate_log.specs.Logs.{Closed, gate_of, log_size}
use Rattle.gate_log.specs.Bodies.{with_gates}
use Rattle.gate_log.specs.Staging.{AreShort, HasBodies, HasSize, IsSameToGate, StagesLog, Stages, StagesMore, waiting_bytes}
use Rattle.gate_log.proofs.BodyLemmas.{length-with_gates}
use Rattle.gate_log.proofs.LogLemmas.{disk_log, log_by_disk, log_size_push}
use Rattle.gate_log.proofs.TornLogs.{HasLog, up_to_gate}
use Rattle.gate_log.proofs.WaitingLemmas.{short_push, waits_more}
use Rattle.gate_log.proofs.WriteLemmas.{CanWrite, write_more, torn_to_gate}

-- bytes that have a whole log, and behind its last gate byte records that wait
pub record Waits (bytes : List ℕ) (bodies staged : List (List ℕ)) (end at : ℕ) : Type 0 where
  pub has : HasLog bytes bodies end
  pub waiting : take (length (waiting_bytes staged)) (drop (end + 1) bytes) ≡ waiting_bytes staged
  pub at_is : at ≡ end + log_size staged
  pub within : at < length bytes
  pub short : AreShort staged

pub waits_in : (life : DiskLife) (bodies staged : List (List ℕ)) (end at : ℕ) → StagesLog life bodies staged end at → Waits life.now.seen bodies staged end at
waits_in life bodies staged end at s = record {
  has = record {
    log = log_by_disk bodies life.now.seen s.log (subst (λ (n : ℕ). gate_of (drop n life.now.seen) ≡ Closed) s.end_is s.closed);
    end_is = s.end_is;
    within = omega (arith, s.at_is, s.within);
    closed = s.closed;
  };
  waiting = s.waiting;
  at_is = s.at_is;
  within = s.within;
  short = s.short;
}

stages_in : (life : DiskLife) (bodies staged : List (List ℕ)) (end at : ℕ) → Waits life.now.seen bodies staged end at → AllImages (IsSameToGate life.now.seen end) life.now → StagesLog life bodies staged end at
stages_in life bodies staged end at w left = record {
  log = disk_log bodies life.now.seen w.has.log;
  end_is = w.has.end_is;
  closed = w.has.closed;
  waiting = w.waiting;
  at_is = w.at_is;
  within = w.within;
  short = w.short;
  left = left;
}

-- what is left of a log is the same log
pub same_bodies : (bytes : List ℕ) (bodies : List (List ℕ)) (end : ℕ) → HasLog bytes bodies end → (left : List ℕ) → IsSameToGate bytes end left → HasBodies bodies left
same_bodies bytes bodies end has left same = disk_log bodies left (up_to_gate bytes bodies end has left same).log

-- a record's bytes from a place on, as a slice gives them
pub sliced : (from : ℕ) (bytes whole : List ℕ) → bytes ≡ whole → take (length bytes - from) (drop from bytes) ≡ drop from whole
sliced from bytes whole is = ap (λ (n : ℕ). take n (drop from bytes)) (sym (length-drop from bytes)) ∙ take-length (drop from bytes) ∙ ap (drop from) is

none_of : (staged : List (List ℕ)) → log_size staged ≡ 0 → staged ≡ []
none_of [] is = refl
none_of (body ∷ staged) is = absurd (omega (arith, is))

module _ (bodies staged : List (List ℕ)) (body : List ℕ) (end at from : ℕ) (first : at ≡ end → from ≡ 1) (later : at ≢ end → from ≡ 0) (range : from ≤ 1) (order : end ≤ at) (short : length body < 2 ^ 32) (piece : List ℕ) (piece_is : piece ≡ drop from (with_gates body)) where
  behind : end + 1 ≤ at + from
  behind = elim (cases_lt end at) [
    | inl some ↦ omega (arith, some)
    | inr none ↦ let is : at ≡ end = omega (arith, none, order) in omega (arith, is, first is)
  ]

  piece_length : from + length piece ≡ 6 + length body
  piece_length = omega (arith, range, ap length piece_is, length-drop from (with_gates body), length-with_gates body)

  module _ (bytes : List ℕ) (w : Waits bytes bodies staged end at) where
    abbrev whole : List ℕ
    whole = overlay bytes (at + from) piece

    kind : ((staged ≡ []) × (from ≡ 1)) ⊎ ((0 < log_size staged) × (from ≡ 0))
    kind = elim (cases_lt 0 (log_size staged)) [
      | inl some ↦ inr (some, later (λ is. omega (arith, some, is, w.at_is)))
      | inr none ↦ inl (none_of staged (omega (arith, none)), first (omega (arith, none, w.at_is)))
    ]

    end_within : end < length bytes
    end_within = omega (arith, w.within, order)

    whole_same : IsSameToGate bytes end whole
    whole_same = torn_to_gate bytes end (at + from) (length piece) end_within behind bytes whole refl (torn_whole bytes (at + from) piece)

    whole_end : at + 6 + length body ≤ length whole
    whole_end = omega (arith, piece_length, range, length-overlay-end bytes (at + from) piece (omega (arith, piece_length, range)))

    whole_waits : (next : ℕ) → next ≡ at + 5 + length body → Waits whole bodies (staged ++ body ∷ []) end next
    whole_waits next next_is = record {
      has = up_to_gate bytes bodies end w.has whole whole_same;
      waiting = subst (λ (xs : List ℕ). take (length (waiting_bytes (staged ++ body ∷ []))) (drop (end + 1) (overlay bytes (at + from) xs)) ≡ waiting_bytes (staged ++ body ∷ [])) (sym piece_is)
          (waits_more bytes staged end at from w.at_is w.within kind w.waiting body);
      at_is = omega (arith, next_is, w.at_is, log_size_push staged body);
      within = omega (arith, next_is, whole_end);
      short = short_push staged body w.short short;
    }

  abbrev Same : DiskLife → List ℕ → Type 0
  Same life = IsSameToGate life.now.seen end

  can_write : (life : DiskLife) → StagesLog life bodies staged end at → CanWrite (Same life) (at + from) (length piece) life
  can_write life s = record { images = s.left; torn = torn_to_gate life.now.seen end (at + from) (length piece) (omega (arith, s.within, order)) behind }

  pub staged_crash : (old : Option DiskLife) (result : Result (Unit {0}) Failed) (new : Option DiskLife) → Stages old bodies staged end at → WritesAt old (at + from) piece result new → LeavesSince old new (HasBodies bodies)
  staged_crash None result new s is = is
  staged_crash (Some life) result new s is =
      since_weaker (Same life) (HasBodies bodies) (Some life) new (same_bodies life.now.seen bodies end (waits_in life bodies staged end at s).has)
      (write_more (Same life) (at + from) piece (Some life) result new (can_write life s) is)

  -- how a disk stands then
  abbrev after : DiskLife → DiskLife
  after life = goes_on life (with_write life.now (at + from) (length piece) (overlay life.now.seen (at + from) piece))

  staged_images : (life : DiskLife) (x : Unit {0}) → StagesLog life bodies staged end at → AllImages (IsSameToGate (after life).now.seen end) (after life).now
  staged_images life x s =
      let w = waits_in life bodies staged end at s in
      let since = write_more (Same life) (at + from) piece (Some life) (Ok x) (Some (after life)) (can_write life s) refl in
      λ left image. since_new (Same life) (Some life) (Some (after life)) since left image ∙ sym (whole_same life.now.seen w)

  staged_kept : (old : Option DiskLife) (x : Unit {0}) (new : Option DiskLife) → Stages old bodies staged end at → WritesAt old (at + from) piece (Ok x) new → (next : ℕ) → next ≡ at + 5 + length body
      → Stages new bodies (staged ++ body ∷ []) end next
  staged_kept None x new s is next next_is = subst (λ (o : Option DiskLife). Stages o bodies (staged ++ body ∷ []) end next) (sym is) tt
  staged_kept (Some life) x new s is next next_is =
      subst (λ (o : Option DiskLife). Stages o bodies (staged ++ body ∷ []) end next) (sym is)
      (stages_in (after life) bodies (staged ++ body ∷ []) end next (whole_waits life.now.seen (waits_in life bodies staged end at s) next next_is) (staged_images life x s))

  longer : (bytes : List ℕ) → length (overlay bytes (at + from) piece) ≡ max (length bytes) (at + 6 + length body)
  longer bytes = by piece piece_length
    where
      by : (xs : List ℕ) → from + length xs ≡ 6 + length body → length (overlay bytes (at + from) xs) ≡ max (length bytes) (at + 6 + length body)
      by [] is = absurd (omega (arith, is, range))
      by (x ∷ xs) is = omega (arith, is, length-overlay bytes (at + from) x xs)

  staged_size : (old : Option DiskLife) (x : Unit {0}) (new : Option DiskLife) → WritesAt old (at + from) piece (Ok x) new → (n next : ℕ) → HasSize old n → next ≡ at + 5 + length body → HasSize new (max n (next + 1))
  staged_size None x new is n next size next_is = subst (λ (o : Option DiskLife). HasSize o (max n (next + 1))) (sym is) tt
  staged_size (Some life) x new is n next size next_is =
      subst (λ (o : Option DiskLife). HasSize o (max n (next + 1))) (sym is) (omega (arith, size, next_is, longer life.now.seen))

  pub staged_more : (old : Option DiskLife) (x : Unit {0}) (new : Option DiskLife) → Stages old bodies staged end at → WritesAt old (at + from) piece (Ok x) new → (next : ℕ) → next ≡ at + 5 + length body
      → StagesMore old bodies staged body end (Ok next) new
  staged_more old x new s is next next_is = record {
    crash = staged_crash old (Ok x) new s is;
    kept = λ at' ok. staged_kept old x new s is at' (sym (same_ok next at' ok) ∙ next_is);
    size = λ n at' size ok. staged_size old x new is n at' size (sym (same_ok next at' ok) ∙ next_is);
  }
    where
      same_ok : (n m : ℕ) → ◌≡◌ {A = Result ℕ Failed} (Ok n) (Ok m) → n ≡ m
      same_ok n m e = cc (e)

  pub staged_none : (old : Option DiskLife) (result : Result ℕ Failed) (e f : Failed) (new : Option DiskLife) → result ≡ Err e → Stages old bodies staged end at → WritesAt old (at + from) piece (Err f) new
      → StagesMore old bodies staged body end result new
  staged_none old result e f new is s writes = record {
    crash = staged_crash old (Err f) new s writes;
    kept = λ at' ok. absurd (cc (is, ok));
    size = λ n at' size ok. absurd (cc (is, ok));
  }
