-- Of what a file, its READs and recalls wait for, nothing is left to be sent; and to which servers a file's own calls wait.
use Rattle.std.specs.Prelude.{◌≡◌, ℕ, ◌<◌, ◌≤◌, List, [], ◌∷◌, length, map, filter, Option, Some, None, if◌then◌else◌, slice_get}
use Rattle.cluster_model.specs.declared.ids.FileId.{FileId}
use Rattle.file_rule.specs.MdsFiles.{MdsFile}
use Rattle.mds_activity.specs.FileCalls.{servers_waiting}
use Rattle.mds_io.specs.Reads as read
use Rattle.mirror_writer.specs.Writers.{WriterMirror, WriterValue, is_some_call, next_at}
use Rattle.recall.specs.declared.recall.Recall.{Recall}
use Rattle.recall.specs.Recalls as recall
use Rattle.mds_rule.specs.MdsStates.{WaitingRead, WaitingWrite, ServedFile, MdsValue}
use Rattle.mds_rule.specs.Goes.{own_by, place_of}

-- ---- nothing waits

-- no own call of the file waits: neither one that it has under way nor one of the metadata server's own write
abbrev pub RestsFile : ServedFile → Type 0
RestsFile s = (file : FileId) (xid : ℕ) → own_by file s xid s.write ≡ None

-- of none of its READs a call waits
abbrev pub RestReads : ServedFile → Type 0
RestReads s = (n xid : ℕ) (r : WaitingRead) → slice_get s.reads n ≡ Some r → read.next_sent r.read xid ≡ None

-- no recall may go: each that waits stands behind one of the same client whose callback is out
abbrev pub RestRecalls : MdsValue → Type 0
RestRecalls m = (xid : ℕ) → recall.next_sent m.recalls xid ≡ None

-- ---- what waits, in order

-- the servers of the mirrors to which a call of an own write waits
abbrev pub writer_servers : WriterValue → List ℕ
writer_servers w = if w.is_fenced then [] else map (λ (m : WriterMirror). m.id.server) (filter (λ (m : WriterMirror). is_some_call (next_at w.wants_commit m)) w.mirrors)

-- the servers to which own calls of a file wait, in the order in which they go out
abbrev pub own_servers : Option WaitingWrite → MdsFile → List ℕ
own_servers None f = servers_waiting f
own_servers (Some w) f = writer_servers w.writer

-- places of the live list, or 4, that do not fall
abbrev pub PlacesRise : ℕ → List ℕ → Type 0
PlacesRise low [] = Unit {0}
PlacesRise low (place ∷ places) = (low ≤ place) × (place ≤ 4) × PlacesRise place places

-- own calls of the file wait to at most four servers, in the order of the places that these have in the live list
pub record WaitsInOrder (s : ServedFile) : Type 0 where
  pub rise : PlacesRise 0 (map (place_of s) (own_servers s.write s.file))
  pub few : length (own_servers s.write s.file) ≤ 4

-- recalls in the order of their files, of at most one for each, behind a number and up to a last one
abbrev pub RecallsRise : ℕ → ℕ → List Recall → Type 0
RecallsRise low last [] = Unit {0}
RecallsRise low last (r ∷ recalls) = (low < r.file.0) × (r.file.0 ≤ last) × RecallsRise r.file.0 last recalls

-- each of a file that is there
abbrev pub AreRecallsInOrder : MdsValue → Type 0
AreRecallsInOrder m = RecallsRise 0 (length m.files) m.recalls
