-- What is left behind each event of every run of a metadata server.
use Rattle.std.specs.Prelude.{◌≡◌, ◌≢◌, ℕ, ◌≤◌, List, length, Some, slice_get}
use Rattle.device_addr.specs.Universal.{AddressValue}
use Rattle.mds_rule.specs.MdsStates.{ServedFile, MdsValue}
use Rattle.mds_walk.specs.MdsRuns.{MdsEvent, mds_run}
use Rattle.mds_quiet.specs.Resting.{RestsFile, RestReads, RestRecalls}

-- while numbers are left, each file rests, and its READs
abbrev pub FilesRest : MdsValue → Type 0
FilesRest m = m.next_xid ≢ 0 → (place : ℕ) (s : ServedFile) → slice_get m.files place ≡ Some s → RestsFile s × RestReads s

-- Behind each event of every run of a metadata server, with at most four mirrors to a file and as many servers, files rest.
abbrev pub RunsRestFiles : List AddressValue → ℕ → List MdsEvent → Type 0
RunsRestFiles servers mirrors events = mirrors ≤ 4 → mirrors ≤ length servers → FilesRest (mds_run servers mirrors events).mds

-- while numbers are left, recalls rest
abbrev pub RecallsRest : MdsValue → Type 0
RecallsRest m = m.next_xid ≢ 0 → RestRecalls m

-- Behind each event of every run of a metadata server, with any number of mirrors to a file, recalls rest.
abbrev pub RunsRestRecalls : List AddressValue → ℕ → List MdsEvent → Type 0
RunsRestRecalls servers mirrors events = RecallsRest (mds_run servers mirrors events).mds
