-- Writes to a disk of which not all is synced.
use Rattle.std.proofs.Common.{ℕ, ◌+◌, ◌<◌, ◌≤◌, List, length, take, min, Option, Some, None, Result, Ok, Err, inl, inr, sym, ap, subst, ◌∙◌, arith}
use Rattle.std.proofs.lemmas.List.{length-take, take-take}
use Rattle.cluster_model.specs.Content.{overlay}
use Rattle.rpc_record.specs.declared.stream.Failed.{Failed}
use Rattle.rpc_record.specs.declared.stream.Failed.TheVariants.{Fault, NoMemory}
use Rattle.store_disk.specs.Disks.{DiskLife, AllImages, LeavesSince, Torn, goes_on, with_write, WritesAt}
use Rattle.store_disk.proofs.Images.{seen_image}
use Rattle.store_disk.proofs.Leaving.{Told, leaves_none, leaves_step}
use Rattle.store_disk.proofs.Placed.{torn_whole}
use Rattle.gate_log.specs.Staging.{IsSameToGate}

-- whatever a crash leaves has P, and so has whatever it makes of a write there
pub record CanWrite (P : List ℕ → Type 0) (at count : ℕ) (life : DiskLife) : Type 0 where
  pub images : AllImages P life.now
  pub torn : (before left : List ℕ) → P before → Torn at count before left → P left

wrote_images : (P : List ℕ → Type 0) (at count : ℕ) (seen : List ℕ) (life : DiskLife) → CanWrite P at count life → Torn at count life.now.seen seen → AllImages P (with_write life.now at count seen)
wrote_images P at count seen life can torn left (inl is) = subst P (sym is) (can.torn life.now.seen seen (seen_image P life.now can.images) torn)
wrote_images P at count seen life can torn left (inr was) = can.torn was.0 left (can.images was.0 (inr was.1)) was.2

pub write_more : (P : List ℕ → Type 0) (at : ℕ) (piece : List ℕ) (old : Option DiskLife) (result : Result (Unit {0}) Failed) (new : Option DiskLife)
    → Told old (CanWrite P at (length piece)) → WritesAt old at piece result new → LeavesSince old new P
write_more P at piece None result new can is = is
write_more P at piece (Some life) (Ok x) new can is =
    let seen : List ℕ = overlay life.now.seen at piece in
    (goes_on life (with_write life.now at (length piece) seen), is, leaves_step P life _ can.images (wrote_images P at (length piece) seen life can (torn_whole life.now.seen at piece)))
write_more P at piece (Some life) (Err Fault) new can is =
    (goes_on life (with_write life.now at (length piece) is.0), is.2, leaves_step P life _ can.images (wrote_images P at (length piece) is.0 life can is.1))
write_more P at piece (Some life) (Err NoMemory) new can is = (life, is, leaves_none P life can.images)

-- a write behind a gate byte leaves all up to it, however a crash tears it
pub torn_to_gate : (bytes : List ℕ) (end at count : ℕ) → end < length bytes → end + 1 ≤ at → (before left : List ℕ) → IsSameToGate bytes end before → Torn at count before left → IsSameToGate bytes end left
torn_to_gate bytes end at count within behind before left same torn =
    let long : end + 1 ≤ length before = omega (arith, within, ap length same, length-take (end + 1) before, length-take (end + 1) bytes) in
    let first : ℕ = min at (length before) in
    let room : end + 1 ≤ first = omega (arith, long, behind) in
    sym (take-take (end + 1) first left room) ∙ ap (take (end + 1)) torn.before ∙ take-take (end + 1) at before behind ∙ same
