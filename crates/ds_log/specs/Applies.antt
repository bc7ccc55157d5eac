-- What a step of the code made of what a log said so far.
use Rattle.std.specs.Prelude.{⊤, ◌≡◌, ℕ, ◌+◌, ◌-◌, ◌≤◌, ◌<◌, ◌==◌, nat_le, Bool, true, false, ◌&&◌, if◌then◌else◌, List, [], ◌∷◌, ◌++◌, length, max, Option, Some, None, Result, Ok, Err}
use Rattle.std.specs.List.{list_all}
use Rattle.ff_xdr.specs.declared.error.NoMemory.{NoMemory}
use Rattle.cluster_model.specs.declared.tick.Tick.{Tick}
use Rattle.cluster_model.specs.Content.{Pending, overlay_all}
use Rattle.cluster_model.specs.File.{StoredFile, shown, written}
use Rattle.cluster_model.specs.Server.{ServerState, max_total}
use Rattle.ds_procedures.specs.declared.server_base.ServerBase.{ServerBase}
use Rattle.ds_log.specs.Bodies.{Logged, Creates, HoldsBytes, HoldsFile}
use Rattle.ds_log.specs.Durable.{applied_bytes, ends_in_file}

-- A body that fits made the server that is wanted, and one that does not fit changed nothing.
abbrev pub CameTo : Option ServerState → ServerState → Bool → ServerState → Type 0
CameTo wanted old true new = wanted ≡ Some new
CameTo wanted old false new = (wanted ≡ None) × (new ≡ old)

-- the same of the bytes of a body
abbrev pub Applies : ServerState → List ℕ → Bool → ServerState → Type 0
Applies old bytes fits new = CameTo (applied_bytes old bytes) old fits new

-- memory is wanted for a new file and for bytes, and for no other body
abbrev pub NeedsMemory : Option Logged → Type 0
NeedsMemory (Some (Creates name fileid owner group mode tick)) = ⊤
NeedsMemory (Some (HoldsBytes fileid mtime ctime ranges)) = ⊤
NeedsMemory (Some (HoldsFile name fileid owner group mode times)) = ⊤
NeedsMemory _ = ⊥

-- the index of the file with a fileid, where there is one
abbrev pub IsIndexOf : ℕ → ℕ → Option ℕ → Type 0
IsIndexOf count fileid None = 2 ≤ fileid → count ≤ fileid - 2
IsIndexOf count fileid (Some index) = (2 ≤ fileid) × (index ≡ fileid - 2) × (index < count)

-- ---- ranges of bytes

-- where a file of so many bytes ends with a range over it, where the range ends within what a file may have
abbrev pub end_with : ℕ → Pending → Option ℕ
end_with end w = if ends_in_file w then Some (if length w.bytes == 0 then end else max end (w.at + length w.bytes)) else None

abbrev pub then_end : Option ℕ → (ℕ → Option ℕ) → Option ℕ
then_end None next = None
then_end (Some end) next = next end

-- the same of ranges, each behind the one before
abbrev pub end_by : ℕ → List Pending → Option ℕ
end_by end [] = Some end
end_by end (w ∷ ws) = then_end (end_with end w) (λ more. end_by more ws)

-- a file with these ranges written at a tick, each synced
abbrev pub held : StoredFile → Tick → List Pending → StoredFile
held f tick [] = f
held f tick (w ∷ ws) = held (written f tick w.at true w.bytes) tick ws

-- All of them are written; or, for want of memory, the first of them.
abbrev pub Holds : StoredFile → Tick → List Pending → Result (Unit {0}) NoMemory → StoredFile → Type 0
Holds old tick ranges (Ok x) new = new ≡ held old tick ranges
Holds old tick ranges (Err e) new = (done rest : List Pending) × (done ++ rest ≡ ranges) × (new ≡ held old tick done)

-- there is room for the ranges in a file of the server, and their tick is of a boot that has begun
abbrev pub has_room : ServerBase → StoredFile → Tick → List Pending → Bool
has_room h f ctime ranges =
    list_all ends_in_file ranges && nat_le (h.total - length (shown f) + length (overlay_all f.content.stable ranges)) max_total && nat_le ctime.boot h.clock.boot
