-- Records that wait become part of a log.
use Rattle.std.proofs.Common.{◌≡◌, ℕ, ◌+◌, ◌<◌, List, [], ◌∷◌, ◌++◌, length, take, drop, get_or, min, Option, Some, None, Result, Ok, Err, inl, inr, refl, sym, ap, subst, ◌∙◌, arith, add-zero}
use Rattle.std.proofs.lemmas.Bool.{cases_eq}
use Rattle.std.proofs.lemmas.List.{append_assoc, take-append-drop, drop-drop, drop_at, drop_more}
use Rattle.cluster_model.specs.Content.{overlay}
use Rattle.cluster_model.proofs.Placing.{length-overlay, get_or-overlay_inside}
use Rattle.rpc_record.specs.declared.stream.Failed.{Failed}
use Rattle.store_disk.specs.Disks.{DiskLife, DiskState, LeavesSince, Torn, synced_state, with_write, Syncs, WritesAt}
use Rattle.store_disk.proofs.Images.{CanTear, sync_leaves, sync_now, write_now, since_sync, since_write}
use Rattle.store_disk.proofs.Leaving.{Told, told_weaker, told_both, since_told}
use Rattle.store_disk.proofs.Placed.{torn_whole}
use Rattle.gate_log.specs.Logs.{gate_of, gated_all, log_from, log_size}
use Rattle.gate_log.specs.Appends.{HasEither, HoldsLog, KeepsLog, whole_log}
use Rattle.gate_log.specs.Staging.{HasSize, Stages, SealsLog, waiting_bytes}
use Rattle.gate_log.proofs.GateLemmas.{gate_other}
use Rattle.gate_log.proofs.LogLemmas.{disk_log, front_log, with_bodies}
use Rattle.gate_log.proofs.ReadyLemmas.{seen_in, told_seen}
use Rattle.gate_log.proofs.StageLemmas.{Waits, waits_in, same_bodies}
use Rattle.gate_log.proofs.TornLogs.{HasLog, keeps_log, old_log}
use Rattle.gate_log.proofs.WaitingLemmas.{length-gated_all, log_size_both, with_bodies_both, opened_log, opened_bytes}

pub holds_by : (told : Option DiskLife) (bodies : List (List ℕ)) (end : ℕ) → Told told (λ life. KeepsLog life bodies end) → HoldsLog told bodies end
holds_by None bodies end h = tt
holds_by (Some life) bodies end h = h

-- ---- the gate before records that wait, however a crash tears its write

module _ (bytes : List ℕ) (bodies staged : List (List ℕ)) (end at : ℕ) (w : Waits bytes bodies staged end at) (some : end < at) where
  -- what stands behind the closed gate
  abbrev tail : List ℕ
  tail = drop (length (waiting_bytes staged)) (drop (end + 1) bytes)

  behind_gate : drop (end + 1) bytes ≡ waiting_bytes staged ++ tail
  behind_gate =
      sym (take-append-drop (length (waiting_bytes staged)) (drop (end + 1) bytes)) ∙ ap (λ (xs : List ℕ). xs ++ tail) w.waiting

  open_gate : 1 ∷ drop (end + 1) bytes ≡ gated_all staged ++ 0 ∷ tail
  open_gate =
      ap (λ (xs : List ℕ). 1 ∷ xs) behind_gate ∙ ap (λ (xs : List ℕ). xs ++ tail) (opened_bytes staged (omega (arith, some, w.at_is)))
      ∙ append_assoc (gated_all staged) (0 ∷ []) tail

  module _ (left : List ℕ) (torn : Torn end 1 bytes left) where
    left_same : take end left ≡ take end bytes
    left_same = let all : min end (length bytes) ≡ end = omega (arith, w.has.within) in ap (λ (n : ℕ). take n left) (sym all) ∙ torn.before

    left_is : drop end left ≡ get_or left end 0 ∷ drop (end + 1) bytes
    left_is = drop_more left end 0 (omega (arith, w.has.within, torn.no_shorter)) ∙ ap (λ (xs : List ℕ). get_or left end 0 ∷ xs) torn.behind

    opened : get_or left end 0 ≡ 1 → drop end left ≡ gated_all staged ++ 0 ∷ tail
    opened one = left_is ∙ ap (λ (byte : ℕ). byte ∷ drop (end + 1) bytes) one ∙ open_gate

    longer_log : get_or left end 0 ≡ 1 → log_from left ≡ whole_log (bodies ++ staged)
    longer_log one =
        front_log bodies bytes left w.has.log (subst (λ (n : ℕ). take n left ≡ take n bytes) w.has.end_is left_same)
        ∙ ap (λ (n : ℕ). with_bodies bodies (log_from (drop n left))) (sym w.has.end_is)
        ∙ ap (λ (xs : List ℕ). with_bodies bodies (log_from xs)) (opened one)
        ∙ ap (with_bodies bodies) (opened_log staged (0 ∷ tail) w.short refl)
        ∙ with_bodies_both bodies staged

    shut_log : (get_or left end 0 ≡ 1 → ⊥) → log_from left ≡ whole_log bodies
    shut_log other = old_log bytes bodies end w.has left left_same (ap gate_of left_is ∙ gate_other (get_or left end 0) (drop (end + 1) bytes) other)

    torn_gate : HasEither bodies (bodies ++ staged) left
    torn_gate = elim (cases_eq (get_or left end 0) 1) [
      | inl one ↦ inr (disk_log (bodies ++ staged) left (longer_log one))
      | inr other ↦ inl (disk_log bodies left (shut_log other))
    ]

  abbrev opens : List ℕ
  opens = overlay bytes end (1 ∷ [])

  opens_length : length opens ≡ length bytes
  opens_length = omega (arith, w.has.within, length-overlay bytes end 1 [])

  opens_one : get_or opens end 0 ≡ 1
  opens_one = ap (λ (n : ℕ). get_or opens n 0) (sym (add-zero end)) ∙ get_or-overlay_inside bytes end (1 ∷ []) 0 (omega arith)

  last_gate : drop at opens ≡ 0 ∷ tail
  last_gate =
      ap (λ (n : ℕ). drop n opens) w.at_is ∙ sym (drop-drop (log_size staged) end opens)
      ∙ ap (drop (log_size staged)) (opened opens (torn_whole bytes end (1 ∷ [])) opens_one)
      ∙ drop_at (gated_all staged) (0 ∷ tail) (log_size staged) (length-gated_all staged)

  sealed_has : HasLog opens (bodies ++ staged) at
  sealed_has = record {
    log = longer_log opens (torn_whole bytes end (1 ∷ [])) opens_one;
    end_is = omega (arith, w.at_is, w.has.end_is, log_size_both bodies staged);
    within = omega (arith, w.within, opens_length);
    closed = ap gate_of last_gate;
  }

-- ---- the calls

-- what a disk holds, where it tells
waits_told : (told : Option DiskLife) (bodies staged : List (List ℕ)) (end at : ℕ) → Stages told bodies staged end at → Told told (λ life. Waits (seen_in told) bodies staged end at)
waits_told None bodies staged end at h = tt
waits_told (Some life) bodies staged end at h = waits_in life bodies staged end at h

pub size_by : (told : Option DiskLife) (n : ℕ) → Told told (λ life. length life.now.seen ≡ n) → HasSize told n
size_by None n h = tt
size_by (Some life) n h = h

size_seen : (told : Option DiskLife) (n : ℕ) → HasSize told n → Told told (λ _. length (seen_in told) ≡ n)
size_seen None n h = tt
size_seen (Some life) n h = h

module _ (old : Option DiskLife) (bodies staged : List (List ℕ)) (end at : ℕ) (some : end < at) (stages : Stages old bodies staged end at) where
  abbrev Left : List ℕ → Type 0
  Left = HasEither bodies (bodies ++ staged)

  abbrev bytes : List ℕ
  bytes = seen_in old

  abbrev Held : Type 0
  Held = Waits bytes bodies staged end at

  pub first_synced : (result : Result (Unit {0}) Failed) (new : Option DiskLife) → Syncs old result new → LeavesSince old new Left
  first_synced result new is = by old stages is
    where
      by : (told : Option DiskLife) → Stages told bodies staged end at → Syncs told result new → LeavesSince told new Left
      by None s is = is
      by (Some life) s is = sync_leaves Left (Some life) result new (λ left image. inl (same_bodies life.now.seen bodies end (waits_in life bodies staged end at s).has left (s.left left image))) is

  stays : (told : Option DiskLife) → LeavesSince old told Left → Told told (λ _. Held)
  stays told since = since_told Left Held old told since (waits_told old bodies staged end at stages)

  module _ (x : Unit {0}) (synced : Option DiskLife) (syncs : Syncs old (Ok x) synced) where
    abbrev Stands : DiskLife → Type 0
    Stands life = (life.now ≡ synced_state bytes) × Held

    stands : Told synced Stands
    stands =
        told_both synced (λ life. life.now ≡ synced_state bytes) (λ _. Held) (sync_now bytes old x synced (told_seen old) syncs) (stays synced (first_synced (Ok x) synced syncs))

    pub gate_written : (result : Result (Unit {0}) Failed) (new : Option DiskLife) → WritesAt synced end (1 ∷ []) result new → LeavesSince old new Left
    gate_written result new is =
        since_write Left end (1 ∷ []) bytes old synced result new (first_synced (Ok x) synced syncs)
        (told_weaker synced Stands (CanTear Left end 1 bytes) (λ life h. record { synced = h.0; torn = λ left torn. torn_gate bytes bodies staged end at h.1 some left torn }) stands) is

    module _ (y : Unit {0}) (opened_disk : Option DiskLife) (writes : WritesAt synced end (1 ∷ []) (Ok y) opened_disk) where
      abbrev whole : List ℕ
      whole = overlay bytes end (1 ∷ [])

      seen_whole : Told opened_disk (λ life. life.now.seen ≡ whole)
      seen_whole =
          told_weaker opened_disk (λ life. life.now ≡ with_write (synced_state bytes) end 1 whole) (λ life. life.now.seen ≡ whole) (λ life h. ap (λ (s : DiskState). s.seen) h)
          (write_now end (1 ∷ []) bytes synced y opened_disk (told_weaker synced Stands (λ life. life.now ≡ synced_state bytes) (λ life h. h.0) stands) writes)

      since_last : (result : Result (Unit {0}) Failed) (new : Option DiskLife) → Syncs opened_disk result new → LeavesSince old new Left
      since_last result new is = since_sync Left old opened_disk result new (gate_written (Ok y) opened_disk writes) is

      module _ (result : Result (Unit {0}) Failed) (new : Option DiskLife) (last : Syncs opened_disk result new) (z : Unit {0}) (ok : result ≡ Ok z) where
        done : Told new (λ life. (life.now ≡ synced_state whole) × Held)
        done =
            told_both new (λ life. life.now ≡ synced_state whole) (λ _. Held)
            (sync_now whole opened_disk z new seen_whole (subst (λ (r : Result (Unit {0}) Failed). Syncs opened_disk r new) ok last))
            (stays new (since_last result new last))

        sealed_kept : HoldsLog new (bodies ++ staged) at
        sealed_kept =
            holds_by new (bodies ++ staged) at
            (told_weaker new (λ life. (life.now ≡ synced_state whole) × Held) (λ life. KeepsLog life (bodies ++ staged) at)
            (λ life h. keeps_log life whole (bodies ++ staged) at h.0 (sealed_has bytes bodies staged end at h.1 some)) done)

        sealed_size : (n : ℕ) → HasSize old n → HasSize new n
        sealed_size n size =
            let known = since_told Left (length bytes ≡ n) old new (since_last result new last) (size_seen old n size) in
            size_by new n
            (told_weaker new (λ life. ((life.now ≡ synced_state whole) × Held) × (length bytes ≡ n)) (λ life. length life.now.seen ≡ n)
            (λ life h. ap (λ (s : DiskState). length s.seen) h.0.0 ∙ opens_length bytes bodies staged end at h.0.1 some ∙ h.1)
            (told_both new (λ life. (life.now ≡ synced_state whole) × Held) (λ _. length bytes ≡ n) done known))

      pub sealed : (result : Result (Unit {0}) Failed) (new : Option DiskLife) → Syncs opened_disk result new → SealsLog old bodies staged at result new
      sealed result new last = record {
        crash = since_last result new last;
        kept = λ z ok. sealed_kept result new last z ok;
        size = λ n z size ok. sealed_size result new last z ok n size;
      }

-- a call that did not end
pub seals_in_part : (old : Option DiskLife) (bodies staged : List (List ℕ)) (at : ℕ) (result : Result (Unit {0}) Failed) (e : Failed) (new : Option DiskLife) → result ≡ Err e
    → LeavesSince old new (HasEither bodies (bodies ++ staged)) → SealsLog old bodies staged at result new
seals_in_part old bodies staged at result e new is h = record {
  crash = h;
  kept = λ z ok. absurd (cc (is, ok));
  size = λ n z size ok. absurd (cc (is, ok));
}
