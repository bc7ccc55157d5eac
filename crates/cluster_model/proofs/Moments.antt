-- The order of moments, and the times of a file.
use Rattle.std.proofs.Common.{true, false, [], ◌∷◌, refl, arith, inl, inr}
use Rattle.cluster_model.specs.declared.tick.Tick.{Tick}
use Rattle.cluster_model.specs.declared.change.Changes.{Changes}
use Rattle.cluster_model.specs.Ticks.{IsBefore, IsUpTo, next_tick, rebooted}
use Rattle.cluster_model.specs.File.{StoredFile, FileOp, Writes, Commits, Sets, Restarts}
use Rattle.cluster_model.specs.Laws.{IsClocked, KeepsTimes, PassesGuards}

pub up_to_same : (a : Tick) → IsUpTo a a
up_to_same a = inr (refl, omega arith)

pub before_up_to : (a b : Tick) → IsBefore a b → IsUpTo a b
before_up_to a b (inl h) = inl h
before_up_to a b (inr h) = inr (h.0, omega (arith, h.1))

pub up_to_up_to : (a b c : Tick) → IsUpTo a b → IsUpTo b c → IsUpTo a c
up_to_up_to a b c (inl h) (inl k) = inl (omega (arith, h, k))
up_to_up_to a b c (inl h) (inr k) = inl (omega (arith, h, k.0))
up_to_up_to a b c (inr h) (inl k) = inl (omega (arith, h.0, k))
up_to_up_to a b c (inr h) (inr k) = inr (omega (arith, h.0, k.0), omega (arith, h.1, k.1))

pub up_to_before : (a b c : Tick) → IsUpTo a b → IsBefore b c → IsBefore a c
up_to_before a b c (inl h) (inl k) = inl (omega (arith, h, k))
up_to_before a b c (inl h) (inr k) = inl (omega (arith, h, k.0))
up_to_before a b c (inr h) (inl k) = inl (omega (arith, h.0, k))
up_to_before a b c (inr h) (inr k) = inr (omega (arith, h.0, k.0), omega (arith, h.1, k.1))

pub next_before : (t : Tick) → IsBefore t (next_tick t)
next_before t = inr (refl, omega arith)

pub reboot_before : (t : Tick) → IsBefore t (rebooted t)
reboot_before t = inl (omega arith)

pub passes : (f : StoredFile) (clock : Tick) (c : Changes) → PassesGuards f clock c
passes f clock c guard h = up_to_before guard clock (next_tick clock) h (next_before clock)

-- the stable ctime is not above the last tick
stable_up_to : (f : StoredFile) (clock : Tick) → IsClocked f clock → IsUpTo f.stable_times.ctime clock
stable_up_to f clock k = up_to_up_to f.stable_times.ctime f.times.ctime clock k.stable k.shown

pub keeps_times : (f : StoredFile) (clock : Tick) (op : FileOp) → IsClocked f clock → KeepsTimes f clock op
keeps_times f clock (Writes at false []) k = record { clocked = k; rises = up_to_same f.stable_times.ctime; ticks = up_to_same clock }
keeps_times f clock (Writes at true []) k = record { clocked = record { stable = up_to_same f.times.ctime; shown = k.shown }; rises = k.stable; ticks = up_to_same clock }
keeps_times f clock (Writes at false (b ∷ bytes)) k =
    let next : IsUpTo clock (next_tick clock) = before_up_to clock (next_tick clock) (next_before clock) in
    record { clocked = record { stable = up_to_up_to f.stable_times.ctime clock (next_tick clock) (stable_up_to f clock k) next; shown = up_to_same (next_tick clock) }; rises = up_to_same f.stable_times.ctime; ticks = next }
keeps_times f clock (Writes at true (b ∷ bytes)) k =
    let next : IsUpTo clock (next_tick clock) = before_up_to clock (next_tick clock) (next_before clock) in
    record { clocked = record { stable = up_to_same (next_tick clock); shown = up_to_same (next_tick clock) }; rises = up_to_up_to f.stable_times.ctime clock (next_tick clock) (stable_up_to f clock k) next; ticks = next }
keeps_times f clock Commits k = record { clocked = record { stable = up_to_same f.times.ctime; shown = k.shown }; rises = k.stable; ticks = up_to_same clock }
keeps_times f clock (Sets c) k =
    let next : IsUpTo clock (next_tick clock) = before_up_to clock (next_tick clock) (next_before clock) in
    record { clocked = record { stable = up_to_same (next_tick clock); shown = up_to_same (next_tick clock) }; rises = up_to_up_to f.stable_times.ctime clock (next_tick clock) (stable_up_to f clock k) next; ticks = next }
keeps_times f clock (Restarts pieces) k =
    let next : IsUpTo clock (rebooted clock) = before_up_to clock (rebooted clock) (reboot_before clock) in
    record { clocked = record { stable = up_to_same f.stable_times.ctime; shown = up_to_up_to f.stable_times.ctime clock (rebooted clock) (stable_up_to f clock k) next }; rises = up_to_same f.stable_times.ctime; ticks = next }
