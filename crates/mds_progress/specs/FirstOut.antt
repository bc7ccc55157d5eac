-- Of each file to which calls of its own wait, the first goes out at the end of the event.
use Rattle.std.specs.Prelude.{◌≡◌, ◌≢◌, ℕ, suc, ◌≤◌, ◌==◌, ◌&&◌, Bool, true, List, length, Option, Some, None, slice_get}
use Rattle.std.specs.Option.{option_map}
use Rattle.std.specs.List.{list_any}
use Rattle.cluster_model.specs.declared.ids.FileId.{FileId}
use Rattle.file_rule.specs.MdsFiles.{MdsFile}
use Rattle.file_rule.specs.FilePhases.{is_outstanding}
use Rattle.mirror_writer.specs.Writers.{WriterMirror, is_call}
use Rattle.mds_rule.specs.MdsStates.{WaitingWrite, ServedFile, MdsValue, numbered}
use Rattle.mds_rule.specs.Goes.{OwnCall, own_by, calls_out}

-- the call of this number is out to a mirror on this server
abbrev pub is_called_at : ℕ → ℕ → WriterMirror → Bool
is_called_at server xid m = m.id.server == server && is_call xid m.call

-- the same of a file's own calls: those that it has under way, or those of the metadata server's own write
abbrev pub is_called_by : Option WaitingWrite → MdsFile → ℕ → ℕ → Bool
is_called_by None f server xid = is_outstanding f server xid
is_called_by (Some w) f server xid = list_any (is_called_at server xid) w.writer.mirrors

-- the first call that waits is one to this server, under whichever number it goes out
abbrev pub FirstWaitsFor : FileId → ServedFile → ℕ → Type 0
FirstWaitsFor file s server = (xid : ℕ) → option_map (λ (c : OwnCall). c.server) (own_by file s xid s.write) ≡ Some server

-- a call of the file at this place is out to this server
abbrev pub HasCallTo : ℕ → ℕ → MdsValue → Type 0
HasCallTo place server m = (s : ServedFile) × (xid : ℕ) × (slice_get m.files place ≡ Some s) × (is_called_by s.write s.file server xid ≡ true)

-- While numbers are left, behind the calls that go out at the end of an event each file with at most four live mirrors to which a call waits has it
-- out, to the server that it waits for.
abbrev pub FirstGoesOut : List (Option (ℕ × ℕ)) → MdsValue → Type 0
FirstGoesOut kept m =
    (place : ℕ) (s : ServedFile) (server : ℕ) → slice_get m.files place ≡ Some s → length s.file.layout.live ≤ 4 → FirstWaitsFor (numbered (suc place)) s server
    → (calls_out kept m).mds.next_xid ≢ 0 → HasCallTo place server (calls_out kept m).mds
