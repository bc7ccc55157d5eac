-- The calls of a file that go out, and those that are outstanding.
use Rattle.std.specs.Prelude.{◌≡◌, ℕ, true, List, [], ◌∷◌, Option, Some, None, if◌then◌else◌}
use Rattle.cluster_model.specs.declared.ids.Mirror.{Mirror}
use Rattle.cluster_model.specs.declared.call_stage.CallStage.{CallStage}
use Rattle.cluster_model.specs.DsCalls.{DsCallValue, Create, SetAttr, Write, Commit, Read}
use Rattle.cluster_model.specs.Fences.{waits}
use Rattle.cluster_model.specs.declared.limits.TheConstants.{PIECE_SIZE}
use Rattle.cluster_model.specs.declared.layout_state.LayoutState.{LayoutState}
use Rattle.resilver.specs.declared.call.NextCall.{NextCall}
use Rattle.resilver.specs.declared.call.NextCall.TheVariants.{MakesFile, WritesPiece, ReadsSource}
use Rattle.mds_activity.specs.declared.activity.Activity.{Activity as CodeActivity}
use Rattle.mds_activity.specs.Activities.{plain_activity}
use Rattle.call_stage.specs.KeptCalls.{kept_out_to}
use Rattle.file_rule.specs.MdsFiles.{Activity, Idle, Makes, Fences, Settles, Copies, MdsFile}
use Rattle.file_rule.specs.FilePhases.{CallOut, call_out}
use Rattle.fence.specs.Calls as fence
use Rattle.resilver.specs.Calls as copy
use Rattle.mds_creations.specs.Makings as making
use Rattle.mds_activity.specs.declared.sending.FileCall.{FileCall}
use Rattle.mds_activity.specs.declared.sending.FileCallKind.{FileCallKind}
use Rattle.mds_activity.specs.declared.sending.FileCallKind.TheVariants as sent

-- ---- which call it is

-- the piece in hand and its place; without a copy none
abbrev pub piece_in_hand : Activity → List ℕ
piece_in_hand Idle = []
piece_in_hand (Makes all) = []
piece_in_hand (Fences fence) = []
piece_in_hand (Settles stage) = []
piece_in_hand (Copies c) = c.piece

abbrev pub piece_place : Activity → ℕ
piece_place Idle = 0
piece_place (Makes all) = 0
piece_place (Fences fence) = 0
piece_place (Settles stage) = 0
piece_place (Copies c) = c.at

abbrev pub call_by : Activity → FileCallKind → DsCallValue
call_by a (sent.Create name owner) = Create name owner.0
call_by a (sent.SetAttr fileid owner guard) = SetAttr fileid owner.0 guard
call_by a (sent.Commit fileid) = Commit fileid
call_by a (sent.Read fileid at count) = Read fileid at count
call_by a (sent.WritePiece fileid) = Write fileid (piece_place a) true (piece_in_hand a)

-- the call of a file that a value stands for, as the file is then
abbrev pub call_of : MdsFile → FileCall → DsCallValue
call_of f c = call_by f.activity c.call

-- the next call goes out under a number, and the file then; or none does, and nothing changes
abbrev pub SendsFileCall : MdsFile → ℕ → Option FileCall → MdsFile → Type 0
SendsFileCall old xid None new = (call_out old xid ≡ None) × (new ≡ old)
SendsFileCall old xid (Some c) new = call_out old xid ≡ Some (record { file = new; server = c.server; uid = c.uid; call = call_of new c })

-- the file with what it has under way
abbrev pub file_with : LayoutState → CodeActivity → MdsFile
file_with layout activity = record { layout = layout; activity = plain_activity activity }

-- a call of a copy as one of its file's
abbrev pub as_file_call : NextCall → FileCallKind
as_file_call (MakesFile name owner) = sent.Create name owner
as_file_call (WritesPiece fileid) = sent.WritePiece fileid
as_file_call (ReadsSource fileid at) = sent.Read fileid at PIECE_SIZE

-- ---- to which servers calls wait

-- the COMMIT of the first live mirror
abbrev pub first_server : List Mirror → List ℕ
first_server [] = []
first_server (m ∷ live) = m.id.server ∷ []

abbrev pub servers_by : List Mirror → Activity → List ℕ
servers_by live Idle = []
servers_by live (Makes all) = making.servers_waiting all
servers_by live (Fences f) = fence.servers_waiting f
servers_by live (Settles stage) = if waits stage then first_server live else []
servers_by live (Copies c) = copy.servers_waiting c

-- in the order in which they go out, one after the other
abbrev pub servers_waiting : MdsFile → List ℕ
servers_waiting f = servers_by f.layout.live f.activity

-- the first of them is that of the next call, and there is none where no call waits
abbrev pub GoesFirst : Option CallOut → List ℕ → Type 0
GoesFirst None [] = Unit {0}
GoesFirst None (n ∷ servers) = ⊥
GoesFirst (Some c) [] = ⊥
GoesFirst (Some c) (n ∷ servers) = c.server ≡ n

-- ---- which call is kept outstanding until the next tick, by its server and number

abbrev pub kept_commit : List Mirror → CallStage → Option (ℕ × ℕ)
kept_commit [] stage = None
kept_commit (m ∷ live) stage = kept_out_to m.id.server stage

abbrev pub kept_by : List Mirror → Activity → Option (ℕ × ℕ)
kept_by live Idle = None
kept_by live (Makes all) = making.kept_out all
kept_by live (Fences f) = fence.kept_out f
kept_by live (Settles stage) = kept_commit live stage
kept_by live (Copies c) = copy.kept_out c

abbrev pub kept_out : MdsFile → Option (ℕ × ℕ)
kept_out f = kept_by f.layout.live f.activity
