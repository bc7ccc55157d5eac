-- What is left behind the calls that go out at the end of an event, whatever the metadata server has then.
use Rattle.std.specs.Prelude.{◌≡◌, ◌≢◌, ℕ, ◌≤◌, List, length, Option, Some, slice_get}
use Rattle.mds_rule.specs.MdsStates.{ServedFile, MdsValue}
use Rattle.mds_rule.specs.Goes.{calls_out}
use Rattle.mds_quiet.specs.Resting.{RestsFile, RestReads, RestRecalls, WaitsInOrder, AreRecallsInOrder}

-- While numbers are left, each file whose own calls wait in order rests.
abbrev pub FilesGoOut : List (Option (ℕ × ℕ)) → MdsValue → Type 0
FilesGoOut kept m =
    (place : ℕ) (s t : ServedFile) → slice_get m.files place ≡ Some s → WaitsInOrder s → slice_get (calls_out kept m).mds.files place ≡ Some t → (calls_out kept m).mds.next_xid ≢ 0 → RestsFile t

-- While numbers are left, the READs of each file with at most four live mirrors rest.
abbrev pub ReadsGoOut : List (Option (ℕ × ℕ)) → MdsValue → Type 0
ReadsGoOut kept m =
    (place : ℕ) (s : ServedFile) → slice_get (calls_out kept m).mds.files place ≡ Some s → length s.file.layout.live ≤ 4 → (calls_out kept m).mds.next_xid ≢ 0 → RestReads s

-- While numbers are left, recalls in order rest.
abbrev pub RecallsGoOut : List (Option (ℕ × ℕ)) → MdsValue → Type 0
RecallsGoOut kept m = AreRecallsInOrder m → (calls_out kept m).mds.next_xid ≢ 0 → RestRecalls (calls_out kept m).mds
