-- A disk is made ready.
use Rattle.std.proofs.Common.{◌≡◌, ℕ, ◌≤◌, List, [], ◌∷◌, length, Option, Some, None, Result, Ok, inl, inr, refl, sym, ap, subst, ◌∙◌, arith}
use Rattle.rpc_record.specs.declared.stream.Failed.{Failed}
use Rattle.store_disk.specs.Disks.{DiskLife, DiskState, AllImages, LeavesSince, synced_state, Measures, Syncs, WritesAt}
use Rattle.store_disk.proofs.Leaving.{Told, told_weaker, told_both}
use Rattle.store_disk.proofs.Images.{CanTear, sync_leaves, sync_now, since_sync, since_write}
use Rattle.gate_log.specs.Appends.{LeavesReady, LeavesAsReady}
use Rattle.gate_log.proofs.LogLemmas.{few_log}

-- what a read gives, where a disk tells
abbrev pub seen_in : Option DiskLife → List ℕ
seen_in None = []
seen_in (Some life) = life.now.seen

pub told_seen : (told : Option DiskLife) → Told told (λ life. life.now.seen ≡ seen_in told)
told_seen None = tt
told_seen (Some life) = refl

abbrev Ready : Option DiskLife → List ℕ → Type 0
Ready None left = Unit {0}
Ready (Some old) left = LeavesReady old left

pub as_ready : (old new : Option DiskLife) → LeavesSince old new (Ready old) → LeavesAsReady old new
as_ready None new h = h
as_ready (Some old) new h = h

-- what a crash leaves of a disk as it was
ready_old : (old : Option DiskLife) → Told old (λ life. AllImages (Ready old) life.now)
ready_old None = tt
ready_old (Some old) = λ left image. inl image

-- at most one byte is left of at most one
ready_few : (old : Option DiskLife) (left : List ℕ) → length (seen_in old) ≤ 1 → length left ≤ 1 → Ready old left
ready_few None left few short = tt
ready_few (Some old) left few short = inr (few_log left short ∙ sym (few_log old.now.seen few))

pub ready_sync : (old : Option DiskLife) (result : Result (Unit {0}) Failed) (new : Option DiskLife) → Syncs old result new → LeavesSince old new (Ready old)
ready_sync old result new is = sync_leaves (Ready old) old result new (ready_old old) is

measured : (told : Option DiskLife) (n : ℕ) → Measures told (Ok n) → Told told (λ life. n ≡ length life.now.seen)
measured None n h = tt
measured (Some life) n h = h

-- the closed gate of a new disk is written
written_first : (old synced : Option DiskLife) (x : Unit {0}) (n : ℕ) (result : Result (Unit {0}) Failed) (new : Option DiskLife)
    → Syncs old (Ok x) synced → Measures synced (Ok n) → n ≤ 1 → WritesAt synced 0 (0 ∷ []) result new → LeavesSince old new (Ready old)
written_first old synced x n result new is size few writes =
    let now = sync_now (seen_in old) old x synced (told_seen old) is in
    let both = told_both synced (λ life. life.now ≡ synced_state (seen_in old)) (λ life. n ≡ length life.now.seen) now (measured synced n size) in
    since_write (Ready old) 0 (0 ∷ []) (seen_in old) old synced result new (ready_sync old (Ok x) synced is)
    (told_weaker synced _ (CanTear (Ready old) 0 1 (seen_in old)) (λ life h. record {
      synced = h.0;
      torn = λ left torn.
          let none : length (seen_in old) ≤ 1 = omega (arith, few, h.1, ap (λ (s : DiskState). length s.seen) h.0) in
          ready_few old left none (omega (arith, none, torn.no_longer));
    }) both) writes

-- the same where the length was asked in between
pub ready_write : (old synced asked : Option DiskLife) (x : Unit {0}) (n : ℕ) (result : Result (Unit {0}) Failed) (new : Option DiskLife)
    → Syncs old (Ok x) synced → Measures synced (Ok n) → asked ≡ synced → n ≤ 1 → WritesAt asked 0 (0 ∷ []) result new → LeavesSince old new (Ready old)
ready_write old synced asked x n result new is size same few writes =
    written_first old synced x n result new is size few (subst (λ (o : Option DiskLife). WritesAt o 0 (0 ∷ []) result new) same writes)

pub same_ready : (old synced asked : Option DiskLife) → asked ≡ synced → LeavesSince old synced (Ready old) → LeavesAsReady old asked
same_ready old synced asked same h = as_ready old asked (subst (λ (o : Option DiskLife). LeavesSince old o (Ready old)) (sym same) h)

pub then_sync : (old written : Option DiskLife) (result : Result (Unit {0}) Failed) (new : Option DiskLife) → LeavesSince old written (Ready old) → Syncs written result new → LeavesAsReady old new
then_sync old written result new h is = as_ready old new (since_sync (Ready old) old written result new h is)
