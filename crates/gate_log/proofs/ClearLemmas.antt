-- A disk is cleared.
use Rattle.std.proofs.Common.{◌≡◌, ◌≤◌, ℕ, Bool, true, false, List, [], ◌∷◌, length, take, min, Option, Some, None, Result, Ok, Err, inl, inr, refl, sym, ap, subst, ◌∙◌, arith}
use Rattle.std.proofs.lemmas.Bool.{cases_eq}
use Rattle.std.proofs.lemmas.List.{length-take, length-append, length-replicate}
use Rattle.cluster_model.specs.Content.{overlay}
use Rattle.cluster_model.proofs.Placing.{take-drop-overlay}
use Rattle.rpc_record.specs.declared.stream.Failed.{Failed}
use Rattle.store_disk.specs.Disks.{DiskLife, DiskState, LeavesSince, Torn, TornLength, Measures, synced_state, with_write, with_length, resized, CutsTo, Syncs, WritesAt}
use Rattle.store_disk.proofs.Images.{CanCut, images_of, sync_now, write_leaves, write_now, cut_now, since_sync, since_cut}
use Rattle.store_disk.proofs.Leaving.{Told, told_weaker, since_none}
use Rattle.store_disk.proofs.Placed.{cut_whole}
use Rattle.gate_log.specs.Logs.{Closed, gate_of}
use Rattle.gate_log.specs.Appends.{IsSynced, KeepsLog}
use Rattle.gate_log.specs.Heads.{FindsHead, HeadSays}
use Rattle.gate_log.specs.Staging.{Clears, ClearsDisk, ClosesFirst, HasBodies, IsOpenFirst, IsSameOrEmpty, KeepsClosedGate, LooksAtFirst}
use Rattle.gate_log.specs.declared.reading.Head.{Head}
use Rattle.gate_log.specs.declared.reading.Head.TheVariants as head
use Rattle.gate_log.proofs.GateLemmas.{closed_again, closed_some, gate_other}
use Rattle.gate_log.proofs.LogLemmas.{disk_log, few_log, log_by_gate}
use Rattle.gate_log.proofs.ReadyLemmas.{seen_in}
use Rattle.gate_log.proofs.SealLemmas.{holds_by, size_by}
use Rattle.gate_log.proofs.TornLogs.{HasLog, keeps_log}

closed_empty : (left : List ℕ) → gate_of left ≡ Closed → HasBodies [] left
closed_empty left closed = disk_log [] left (log_by_gate left Closed closed)

-- ---- the first gate is closed

open_first : (bytes : List ℕ) → (gate_of bytes ≡ Closed → ⊥) → IsOpenFirst bytes
open_first [] not_closed = inl (omega arith)
open_first (byte ∷ bytes) not_closed = elim (cases_eq byte 1) [
  | inl one ↦ inr (bytes, ap (λ (b : ℕ). b ∷ bytes) one)
  | inr other ↦ absurd (not_closed (gate_other byte bytes other))
]

not_closed : (bytes : List ℕ) (h : Head) → (h ≡ head.Closed → ⊥) → HeadSays bytes h → gate_of bytes ≡ Closed → ⊥
not_closed bytes head.Absent other says closed = cc (says, closed)
not_closed bytes head.Closed other says closed = other refl
not_closed bytes head.Broken other says closed = cc (says, closed)
not_closed bytes (head.Opens n) other says closed = let opens = says.gate in cc (opens, closed)

-- the write of a closed gate there, however a crash tears it
close_torn : (bytes left : List ℕ) → IsOpenFirst bytes → Torn 0 1 bytes left → IsSameOrEmpty bytes left
close_torn bytes left (inl few) torn = inr (few_log left (omega (arith, few, torn.no_longer)))
close_torn bytes left (inr some) torn = by left (subst (λ (xs : List ℕ). Torn 0 1 xs left) some.1 torn)
  where
    by : (xs : List ℕ) → Torn 0 1 (1 ∷ some.0) xs → IsSameOrEmpty bytes xs
    by [] t = absurd (omega (arith, t.no_shorter))
    by (byte ∷ xs) t = elim (cases_eq byte 1) [
      | inl one ↦ inl (ap (λ (b : ℕ). b ∷ xs) one ∙ ap (λ (ys : List ℕ). 1 ∷ ys) t.behind ∙ sym some.1)
      | inr other ↦ inr (closed_empty (byte ∷ xs) (gate_other byte xs other))
    ]

shut_first : (bytes : List ℕ) → gate_of (overlay bytes 0 (0 ∷ [])) ≡ Closed
shut_first bytes = closed_again (0 ∷ []) (overlay bytes 0 (0 ∷ [])) refl (take-drop-overlay bytes 0 (0 ∷ []))

-- a disk that was looked at alone
pub closes_same : (old new : Option DiskLife) (result : Result (Unit {0}) Failed) → new ≡ old → ((x : Unit {0}) → result ≡ Ok x → Told old (λ life. gate_of life.now.seen ≡ Closed)) → ClosesFirst old result new
closes_same None new result same closed = same
closes_same (Some life) new result same closed = λ synced. record {
  crash = subst (λ (o : Option DiskLife). LeavesSince (Some life) o (IsSameOrEmpty life.now.seen)) (sym same)
      (since_none (IsSameOrEmpty life.now.seen) (Some life) (images_of (IsSameOrEmpty life.now.seen) life.now life.now.seen synced (inl refl)));
  kept = λ x ok. subst KeepsClosedGate (sym same) (synced, closed x ok);
}

-- what was found at the first gate
pub looks_few : (told : Option DiskLife) (size : ℕ) → Measures told (Ok size) → size ≤ 1 → LooksAtFirst told (Ok true)
looks_few None size is few = tt
looks_few (Some life) size is few = inl (omega (arith, is, few))

pub looks_closed : (told : Option DiskLife) (size : ℕ) (h : Head) → Measures told (Ok size) → FindsHead told 0 size (Ok h) → h ≡ head.Closed → LooksAtFirst told (Ok false)
looks_closed None size h is finds closed = tt
looks_closed (Some life) size h is finds closed = subst (λ (h : Head). HeadSays life.now.seen h) closed (finds is)

pub looks_open : (told : Option DiskLife) (size : ℕ) (h : Head) → Measures told (Ok size) → FindsHead told 0 size (Ok h) → (h ≡ head.Closed → ⊥) → LooksAtFirst told (Ok true)
looks_open None size h is finds other = tt
looks_open (Some life) size h is finds other = open_first life.now.seen (not_closed life.now.seen h other (finds is))

pub is_closed : (told : Option DiskLife) (b : Bool) → LooksAtFirst told (Ok b) → b ≡ false → Told told (λ life. gate_of life.now.seen ≡ Closed)
is_closed None b looks is = tt
is_closed (Some life) true looks is = absurd (cc (is))
is_closed (Some life) false looks is = looks

pub is_open : (told : Option DiskLife) (b : Bool) → LooksAtFirst told (Ok b) → b ≡ true → Told told (λ life. IsOpenFirst life.now.seen)
is_open None b looks is = tt
is_open (Some life) true looks is = looks
is_open (Some life) false looks is = absurd (cc (is))

module _ (life : DiskLife) (opens : IsOpenFirst life.now.seen) (synced : IsSynced life) where
  abbrev bytes : List ℕ
  bytes = life.now.seen

  abbrev Left : List ℕ → Type 0
  Left = IsSameOrEmpty bytes

  closing : (result : Result (Unit {0}) Failed) (new : Option DiskLife) → WritesAt (Some life) 0 (0 ∷ []) result new → LeavesSince (Some life) new Left
  closing result new is = write_leaves Left 0 (0 ∷ []) bytes (Some life) result new (record { synced = synced; torn = λ left torn. close_torn bytes left opens torn }) is

  closed_then : (x : Unit {0}) (written : Option DiskLife) → WritesAt (Some life) 0 (0 ∷ []) (Ok x) written → (y : Unit {0}) (new : Option DiskLife) → Syncs written (Ok y) new → KeepsClosedGate new
  closed_then x written writes y new is =
      let whole : List ℕ = overlay bytes 0 (0 ∷ []) in
      let seen = told_weaker written (λ life. life.now ≡ with_write (synced_state bytes) 0 1 whole) (λ life. life.now.seen ≡ whole) (λ life h. ap (λ (s : DiskState). s.seen) h) (write_now 0 (0 ∷ []) bytes (Some life) x written synced writes) in
      by new (sync_now whole written y new seen is)
    where
      by : (told : Option DiskLife) → Told told (λ later. later.now ≡ synced_state (overlay bytes 0 (0 ∷ []))) → KeepsClosedGate told
      by None h = tt
      by (Some later) h = (
        h ∙ ap (λ (s : DiskState). synced_state s.seen) (sym h),
        ap (λ (s : DiskState). gate_of s.seen) h ∙ shut_first bytes,
      )

pub closes_write : (old : Option DiskLife) (result : Result (Unit {0}) Failed) (e f : Failed) (new : Option DiskLife) → Told old (λ life. IsOpenFirst life.now.seen) → result ≡ Err f → WritesAt old 0 (0 ∷ []) (Err e) new
    → ClosesFirst old result new
closes_write None result e f new opens is writes = writes
closes_write (Some life) result e f new opens is writes = λ synced. record { crash = closing life opens synced (Err e) new writes; kept = λ x ok. absurd (cc (is, ok)) }

pub closes_sync : (old : Option DiskLife) (x : Unit {0}) (written : Option DiskLife) (result : Result (Unit {0}) Failed) (new : Option DiskLife) → Told old (λ life. IsOpenFirst life.now.seen)
    → WritesAt old 0 (0 ∷ []) (Ok x) written → Syncs written result new → ClosesFirst old result new
closes_sync None x written result new opens writes is = since_sync (λ _. Unit {0}) None written result new writes is
closes_sync (Some life) x written result new opens writes is = λ synced. record {
  crash = since_sync (IsSameOrEmpty life.now.seen) (Some life) written result new (closing life opens synced (Ok x) written writes) is;
  kept = λ y ok. closed_then life opens synced x written writes y new (subst (λ (r : Result (Unit {0}) Failed). Syncs written r new) ok is);
}

-- ---- the disk is cut to its first gate

first_kept : (there left : List ℕ) → gate_of there ≡ Closed → TornLength 1 there left → gate_of left ≡ Closed
first_kept there left closed torn =
    let one : min (length there) 1 ≡ 1 = omega (arith, closed_some there closed) in
    closed_again there left closed (ap (λ (n : ℕ). take n left) (sym one) ∙ torn.below)

resized_one : (there : List ℕ) → length (resized there 1) ≡ 1
resized_one there = simp (length-take, length-append, length-replicate) (omega arith)

module _ (first : DiskLife) (closed : Option DiskLife) (since : LeavesSince (Some first) closed (IsSameOrEmpty first.now.seen)) (keeps : KeepsClosedGate closed) where
  abbrev Empties : List ℕ → Type 0
  Empties = IsSameOrEmpty first.now.seen

  abbrev there : List ℕ
  there = seen_in closed

  stands : Told closed (λ life. life.now ≡ synced_state there)
  stands = by closed keeps
    where
      by : (told : Option DiskLife) → KeepsClosedGate told → Told told (λ life. life.now ≡ synced_state (seen_in told))
      by None k = tt
      by (Some life) k = k.0

  shut : gate_of there ≡ Closed
  shut = by closed since.1 keeps
    where
      by : (told : Option DiskLife) → told ≡ Some since.0 → KeepsClosedGate told → gate_of (seen_in told) ≡ Closed
      by None is k = absurd (cc (is))
      by (Some life) is k = k.1

  cutting : (result : Result (Unit {0}) Failed) (new : Option DiskLife) → CutsTo closed 1 result new → LeavesSince (Some first) new Empties
  cutting result new is =
      since_cut Empties 1 there (Some first) closed result new since
      (told_weaker closed (λ life. life.now ≡ synced_state there) (CanCut Empties 1 there) (λ life h. record { synced = h; cut = λ left torn. inr (closed_empty left (first_kept there left shut torn)) }) stands) is

  module _ (x : Unit {0}) (cut : Option DiskLife) (cuts : CutsTo closed 1 (Ok x) cut) (result : Result (Unit {0}) Failed) (new : Option DiskLife) (last : Syncs cut result new) where
    abbrev one : List ℕ
    one = resized there 1

    one_shut : gate_of one ≡ Closed
    one_shut = first_kept there one shut (cut_whole there 1)

    is_one : (y : Unit {0}) → result ≡ Ok y → Told new (λ life. life.now ≡ synced_state one)
    is_one y ok =
        let seen = told_weaker cut (λ life. life.now ≡ with_length (synced_state there) 1 one) (λ life. life.now.seen ≡ one) (λ life h. ap (λ (s : DiskState). s.seen) h) (cut_now 1 there closed x cut stands cuts) in
        sync_now one cut y new seen (subst (λ (r : Result (Unit {0}) Failed). Syncs cut r new) ok last)

    empty_has : HasLog one [] 0
    empty_has = record { log = log_by_gate one Closed one_shut; end_is = refl; within = omega (arith, resized_one there); closed = one_shut }

    cleared : Clears first result new
    cleared = record {
      crash = since_sync Empties (Some first) cut result new (cutting (Ok x) cut cuts) last;
      kept = λ y ok. holds_by new [] 0 (told_weaker new (λ life. life.now ≡ synced_state one) (λ life. KeepsLog life [] 0) (λ life h. keeps_log life one [] 0 h empty_has) (is_one y ok));
      size = λ y ok.
          size_by new 1
          (told_weaker new (λ life. life.now ≡ synced_state one) (λ life. length life.now.seen ≡ 1) (λ life h. ap (λ (s : DiskState). length s.seen) h ∙ resized_one there) (is_one y ok));
    }

pub clears_in_part : (old : Option DiskLife) (x : Unit {0}) (closed : Option DiskLife) (result : Result (Unit {0}) Failed) (e f : Failed) (new : Option DiskLife) → ClosesFirst old (Ok x) closed → CutsTo closed 1 (Err f) new
    → result ≡ Err e → ClearsDisk old result new
clears_in_part None x closed result e f new closes cuts is = subst (λ (o : Option DiskLife). CutsTo o 1 (Err f) new) closes cuts
clears_in_part (Some life) x closed result e f new closes cuts is = λ synced.
    let h = closes synced in
    record { crash = cutting life closed h.crash (h.kept x refl) (Err f) new cuts; kept = λ y ok. absurd (cc (is, ok)); size = λ y ok. absurd (cc (is, ok)) }

pub clears : (old : Option DiskLife) (x : Unit {0}) (closed : Option DiskLife) (y : Unit {0}) (cut : Option DiskLife) (result : Result (Unit {0}) Failed) (new : Option DiskLife) → ClosesFirst old (Ok x) closed → CutsTo closed 1 (Ok y) cut
    → Syncs cut result new → ClearsDisk old result new
clears None x closed y cut result new closes cuts last =
    let none : cut ≡ None = subst (λ (o : Option DiskLife). CutsTo o 1 (Ok y) cut) closes cuts in subst (λ (o : Option DiskLife). Syncs o result new) none last
clears (Some life) x closed y cut result new closes cuts last = λ synced. let h = closes synced in cleared life closed h.crash (h.kept x refl) y cut cuts result new last
