-- What the answers of data servers come to for a client, and timeouts of its calls to them (RFC 8435, sections 5 and 8).
use Rattle.std.specs.Prelude.{ℕ, ◌+◌, Bool, true, false, not, ◌==◌, nat_lt, List, [], ◌∷◌, ◌++◌, length, position, Option, Some, None, slice_get, slice_set, if◌then◌else◌}
use Rattle.std.specs.List.{filter}
use Rattle.client_answers.specs.declared.answers.TheConstants.{DELAY}
use Rattle.cluster_model.specs.declared.ids.NodeId.TheVariants.{Client}
use Rattle.cluster_model.specs.declared.ids.Mirror.{Mirror}
use Rattle.cluster_model.specs.declared.ids.MirrorId.{MirrorId}
use Rattle.cluster_model.specs.declared.phase.LeftCause.{LeftCause}
use Rattle.cluster_model.specs.declared.phase.LeftCause.TheVariants as left
use Rattle.cluster_model.specs.declared.entry.Entry.{Entry}
use Rattle.cluster_model.specs.declared.entry.Entry.TheVariants.{Told, TimedOut}
use Rattle.cluster_model.specs.DsCalls.{DsCallValue, Commit, DsReplyValue}
use Rattle.cluster_model.specs.Journal.{is_mirror}
use Rattle.mirror_writer.specs.declared.call.TakenWrite.{TakenWrite}
use Rattle.mirror_writer.specs.declared.step.WriterStep.{WriterStep}
use Rattle.mirror_writer.specs.declared.step.WriterStep.TheVariants as step
use Rattle.mirror_writer.specs.Writers.{WriterValue, WriterAfter, after_reply, after_timeout}
use Rattle.mirror_writer.specs.Outstanding.{OutCall, out_at, is_covered_everywhere, has_no_mirror}
use Rattle.client_file_calls.specs.declared.open.OpenFile.{OpenFile}
use Rattle.client_state.specs.declared.layout.Layout.{Layout}
use Rattle.client_state.specs.ClientStates.{ClientValue, ClientRun, unmoved}
use Rattle.client_state.specs.ClientQueue.{with_layout, with_writer, ending, revoked_layout, lost_mirrors}
use Rattle.client_state.specs.ClientSends.{ClientSend, RepeatsToServer, ClientStep, sends_none}

-- ---- writes that are told

abbrev pub told_entry : OpenFile → ℕ → Option TakenWrite → List Entry
told_entry file cred None = []
told_entry file cred (Some t) = Told file.file (record { 0 = cred }) t.at t.bytes ∷ []

abbrev pub told_entries : OpenFile → WriterValue → List ℕ → List Entry
told_entries file w [] = []
told_entries file w (n ∷ ns) = told_entry file w.cred (slice_get w.taken n) ++ told_entries file w ns

-- a count that stands still at the end of its range
abbrev pub counted_on : ℕ → ℕ → ℕ
counted_on told more = if nat_lt 4294967295 (told + more) then 4294967295 else told + more

-- these writes are told, in this order
abbrev pub tells : OpenFile → WriterValue → List ℕ → ClientValue → ClientRun
tells file w ns c = record { client = record c { told = counted_on c.told (length ns) }; entries = told_entries file w ns }

-- those that are covered by now
abbrev pub tells_covered : OpenFile → Option Layout → ClientValue → ClientRun
tells_covered file None c = unmoved c
tells_covered file (Some l) c =
    tells file l.writer (filter (is_covered_everywhere l.writer) l.untold)
    (with_layout c (record l { untold = filter (λ n. not (is_covered_everywhere l.writer n)) l.untold }))

-- only a COMMIT covers
abbrev pub is_commit : DsCallValue → Bool
is_commit (Commit fileid) = true
is_commit call = false

-- ---- a mirror failed

-- the status that is reported of it: DELAY for timeouts
abbrev pub reported_status : LeftCause → ℕ
reported_status (left.Error status) = status
reported_status left.Timeouts = DELAY
reported_status left.Reported = DELAY
reported_status left.Unsynced = DELAY

abbrev pub with_status_at : List (Option ℕ) → Option ℕ → ℕ → List (Option ℕ)
with_status_at statuses None status = statuses
with_status_at statuses (Some place) status = slice_set statuses place (Some status)

abbrev pub with_failed : Layout → MirrorId → LeftCause → Layout
with_failed l id cause = record l { statuses = with_status_at l.statuses (position (λ (m : Mirror). is_mirror id m.id) l.mirrors) (reported_status cause) }

-- the others commit, and the layout is given back with a report
abbrev pub mirror_failed : MirrorId → LeftCause → Option Layout → ClientValue → ClientRun
mirror_failed id cause None c = unmoved c
mirror_failed id cause (Some l) c =
    if has_no_mirror l.writer then lost_mirrors (with_failed l id cause) c else unmoved (with_layout c (ending (with_failed l id cause)))

-- ---- what an answer and a timeout come to

-- behind what the writer came to
abbrev pub after_step : Bool → OpenFile → WriterStep → ClientValue → ClientRun
after_step commit file step.Stranger c = unmoved c
after_step commit file step.Waiting c = if commit then tells_covered file c.layout c else unmoved c
after_step commit file step.Committed c = if commit then tells_covered file c.layout c else unmoved c
after_step commit file (step.Failed id cause) c = mirror_failed id cause c.layout c
after_step commit file (step.Fenced id status) c = revoked_layout c

abbrev pub has_writer : ClientValue → Layout → WriterAfter → ClientValue
has_writer c l after = with_layout c (with_writer l after.writer)

abbrev pub answered_out : OpenFile → Layout → ℕ → (DsCallValue → DsReplyValue) → Option OutCall → ClientValue → ClientRun
answered_out file l xid reply None c = unmoved c
answered_out file l xid reply (Some out) c =
    if out.xid == xid then (let after = after_reply l.writer xid (reply out.call) in after_step (is_commit out.call) file after.step (has_writer c l after))
    else unmoved c

-- the answer of a data server to the call of this number, if it is outstanding there; what it says goes by the call
abbrev pub ds_answered_by : Option OpenFile → Option Layout → ℕ → ℕ → (DsCallValue → DsReplyValue) → ClientValue → ClientRun
ds_answered_by (Some file) (Some l) server xid reply c = answered_out file l xid reply (out_at l.writer server) c
ds_answered_by file layout server xid reply c = unmoved c

abbrev pub ds_answered : ℕ → ℕ → (DsCallValue → DsReplyValue) → ClientValue → ClientRun
ds_answered server xid reply c = ds_answered_by c.file c.layout server xid reply c

-- the same record goes out again where the mirror has not failed by the timeout
abbrev pub goes_again : ClientSend → WriterStep → List ClientSend
goes_again send step.Waiting = send ∷ []
goes_again send came = []

-- a timeout of a call that is outstanding is entered
abbrev pub late_out : OpenFile → Layout → ℕ → Option OutCall → ClientValue → ClientStep
late_out file l server None c = sends_none c
late_out file l server (Some out) c =
    let after = after_timeout l.writer out.xid in
    let r = after_step (is_commit out.call) file after.step (has_writer c l after) in record {
      client = r.client;
      entries = TimedOut (Client c.number) out.xid ∷ r.entries;
      sends = goes_again (RepeatsToServer server out.xid c.name l.writer.cred out.call) after.step;
    }

abbrev pub ds_timed_out_by : Option OpenFile → Option Layout → ℕ → ClientValue → ClientStep
ds_timed_out_by (Some file) (Some l) server c = late_out file l server (out_at l.writer server) c
ds_timed_out_by file layout server c = sends_none c

-- the call that is outstanding at this data server timed out
abbrev pub ds_timed_out : ℕ → ClientValue → ClientStep
ds_timed_out server c = ds_timed_out_by c.file c.layout server c
