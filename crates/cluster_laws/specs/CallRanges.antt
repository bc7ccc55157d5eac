-- The numbers of the metadata server's calls fit their fields, where those of its data servers do (RFC 1813, sections 2.5, 3.3.2 and 3.3.6
-- to 3.3.8).
use Rattle.std.specs.Prelude.{◌≡◌, ℕ, ◌+◌, ◌^◌, ◌<◌, ◌≤◌, List, length, Some}
use Rattle.std.specs.List.{AllByRecursion}
use Rattle.cluster_model.specs.Server.{ServerState}
use Rattle.cluster_model.specs.DsCalls.{DsCallValue, Create, SetAttr, Write, Commit, Read}
use Rattle.file_rule.specs.MdsFiles.{MdsFile}
use Rattle.file_rule.specs.FilePhases.{CallOut, call_out}
use Rattle.cluster_laws.specs.Machine.{Machine, Move, numbered_at}
use Rattle.cluster_laws.specs.RunBounds.{machine_of_run}

-- each number of a call fits its field, and a WRITE has at most 65,536 bytes
abbrev pub AreFieldsInRange : DsCallValue → Type 0
AreFieldsInRange (Create name owner) = (name < 2 ^ 64) × (owner < 2 ^ 32)
AreFieldsInRange (SetAttr fileid owner guard) = (fileid < 2 ^ 64) × (owner < 2 ^ 32) × (guard.boot < 2 ^ 32) × (guard.count < 2 ^ 32)
AreFieldsInRange (Write fileid at synced bytes) = (fileid < 2 ^ 64) × (at < 2 ^ 64) × (length bytes ≤ 65536)
AreFieldsInRange (Commit fileid) = fileid < 2 ^ 64
AreFieldsInRange (Read fileid at count) = (fileid < 2 ^ 64) × (at < 2 ^ 64) × (count < 2 ^ 32)

-- a READ asks for one byte at least
abbrev pub ReadsSome : DsCallValue → Type 0
ReadsSome (Create name owner) = Unit {0}
ReadsSome (SetAttr fileid owner guard) = Unit {0}
ReadsSome (Write fileid at synced bytes) = Unit {0}
ReadsSome (Commit fileid) = Unit {0}
ReadsSome (Read fileid at count) = 0 < count

-- the ticks of a data server fit their fields, and it has fewer files than there are fileids
pub record IsServerInRange (s : ServerState) : Type 0 where
  pub boot : s.clock.boot < 2 ^ 32
  pub count : s.clock.count < 2 ^ 32
  pub files : length s.files + 2 < 2 ^ 64

abbrev pub AreServersInRange : Machine → Type 0
AreServersInRange m = (n : ℕ) (s : ServerState) → numbered_at m.servers n ≡ Some s → IsServerInRange s

-- a call that goes out, with the uid that it goes out under
pub record IsCallInRange (c : CallOut) : Type 0 where
  pub call : AreFieldsInRange c.call
  pub uid : c.uid < 2 ^ 32
  pub some : ReadsSome c.call

-- each call that can go out behind a run
abbrev pub CallsInRange : List ℕ → List Move → Type 0
CallsInRange boots moves =
    AreServersInRange (machine_of_run boots moves) → (n xid : ℕ) (f : MdsFile) (c : CallOut) → numbered_at (machine_of_run boots moves).files n ≡ Some f → call_out f xid ≡ Some c → IsCallInRange c

-- a file's uid, and the fileids of its live mirrors
pub record IsFileInRange (f : MdsFile) : Type 0 where
  pub cred : f.layout.cred.0 < 2 ^ 32
  pub live : AllByRecursion (λ m. m.id.fileid < 2 ^ 64) f.layout.live

-- each file behind a run
abbrev pub MirrorsInRange : List ℕ → List Move → Type 0
MirrorsInRange boots moves = AreServersInRange (machine_of_run boots moves) → (n : ℕ) (f : MdsFile) → numbered_at (machine_of_run boots moves).files n ≡ Some f → IsFileInRange f
