-- What a client does for its user's requests, in order, as far as it can by itself.
use Rattle.std.specs.Prelude.{ℕ, ◌+◌, Bool, true, false, ◌==◌, nat_lt, List, [], ◌∷◌, ◌++◌, length, Option, Some, None, is_some, if◌then◌else◌}
use Rattle.client_state.specs.declared.head.TheConstants.{FBIG, INVAL, NOFILEHANDLE}
use Rattle.cluster_model.specs.declared.limits.TheConstants.{MAX_FILE}
use Rattle.nfs4_types.specs.declared.ids.DeviceId.{DeviceId}
use Rattle.nfs4_types.specs.Ids.{device_id_of}
use Rattle.device_addr.specs.declared.net_addr.NetAddr.{NetAddr}
use Rattle.device_addr.specs.Table.{device_at}
use Rattle.cluster_model.specs.declared.ids.Mirror.{Mirror}
use Rattle.cluster_model.specs.declared.answer.UserAnswer.{UserAnswer}
use Rattle.cluster_model.specs.declared.answer.UserAnswer.TheVariants as answer
use Rattle.cluster_model.specs.declared.answer.FailCause.{FailCause}
use Rattle.cluster_model.specs.declared.answer.FailCause.TheVariants as failing
use Rattle.cluster_model.specs.declared.entry.Entry.TheVariants.{Sent, Answer}
use Rattle.mirror_writer.specs.Writers.{WriterValue, overlaps_taken, with_write, commit_wanted}
use Rattle.client_file_calls.specs.declared.open.OpenFile.{OpenFile}
use Rattle.client_mds_calls.specs.declared.ask.MdsAsk.{MdsAsk}
use Rattle.client_mds_calls.specs.declared.ask.MdsAsk.TheVariants as ask
use Rattle.client_state.specs.declared.stage.LayoutStage.{LayoutStage}
use Rattle.client_state.specs.declared.stage.LayoutStage.TheVariants.{Writing, Ending, Deferred, Returning}
use Rattle.client_state.specs.declared.request.UserRequest.{UserRequest}
use Rattle.client_state.specs.declared.layout.Layout.{Layout}
use Rattle.client_state.specs.declared.tie.Tie.{Tie}
use Rattle.client_state.specs.declared.tie.Tie.TheVariants.{NoClient, HasClient, HasSession}
use Rattle.client_state.specs.declared.request.UserRequest.TheVariants.{Open, Write, Through, Commit, Read, Return}
use Rattle.client_state.specs.ClientStates.{ClientValue, ClientRun, unmoved, followed_by}

-- ---- answers to the user

-- an answer, which is an entry of the journal too
abbrev pub answers_user : UserAnswer → ClientValue → ClientRun
answers_user a c = record { client = record c { answers = c.answers ++ a ∷ [] }; entries = Answer c.number a ∷ [] }

abbrev pub refuses_request : ℕ → ClientValue → ClientRun
refuses_request status = answers_user (answer.Failed (failing.Refused status))

-- so many writes were told since the last answer that says so
abbrev pub answers_committed : ClientValue → ClientRun
answers_committed c = answers_user (answer.Committed c.told) (record c { told = 0 })

-- ---- the layout

abbrev pub with_layout : ClientValue → Layout → ClientValue
with_layout c l = record c { layout = Some l }

abbrev pub with_writer : Layout → WriterValue → Layout
with_writer l w = record l { writer = w }

-- It is to be given back: from now on no write is taken, and what was taken is committed.
abbrev pub ends_layout : Layout → LayoutStage → Layout
ends_layout l Writing = record l { writer = commit_wanted l.writer; stage = Ending }
ends_layout l Ending = l
ends_layout l Deferred = l
ends_layout l Returning = l

abbrev pub ending : Layout → Layout
ending l = ends_layout l l.stage

abbrev pub is_writing : LayoutStage → Bool
is_writing Writing = true
is_writing Ending = false
is_writing Deferred = false
is_writing Returning = false

-- the address of the device of this data server is known
abbrev pub knows : List (DeviceId × NetAddr) → ℕ → Bool
knows devices server = is_some (device_at devices (device_id_of server))

-- the data servers of a layout whose addresses are not known, in its order
abbrev pub unknown_in : List (DeviceId × NetAddr) → List Mirror → List ℕ
unknown_in devices [] = []
unknown_in devices (m ∷ mirrors) = if knows devices m.id.server then unknown_in devices mirrors else m.id.server ∷ unknown_in devices mirrors

abbrev pub unknown_servers : ClientValue → Layout → List ℕ
unknown_servers c l = unknown_in c.devices l.mirrors

-- the layout is to be given back, if there is one
abbrev pub layout_ending : ClientValue → Option Layout → ClientValue
layout_ending c None = c
layout_ending c (Some l) = with_layout c (ending l)

-- ---- the request at the head

-- It is done; it waits for what is under way, and the client is this; or it waits for what is asked of the metadata server.
pub data HeadStep : Type 0 where
  IsDone : (r : ClientRun) → HeadStep
  IsWaiting : (c : ClientValue) → HeadStep
  Asks : (kind : MdsAsk) → HeadStep

-- the end of a file, at most (RFC 1813, section 3.3.7, NFS3ERR_FBIG)
abbrev pub is_past : ℕ → List ℕ → Bool
is_past at bytes = nat_lt MAX_FILE (at + length bytes)

-- the write is taken: it will be sent to each mirror
abbrev pub taken_write : ClientValue → OpenFile → Layout → ℕ → List ℕ → ClientRun
taken_write c file l at bytes = record {
  client = with_layout c (record l { writer = with_write l.writer at bytes; untold = l.untold ++ length l.writer.taken ∷ [] });
  entries = Sent file.file (record { 0 = l.writer.cred }) at bytes ∷ [];
}

-- where a taken write has one of its places, the layout is given back first
abbrev pub write_under : ClientValue → OpenFile → Layout → ℕ → List ℕ → HeadStep
write_under c file l at bytes = if overlaps_taken l.writer at (length bytes) then IsWaiting (with_layout c (ending l)) else IsDone (taken_write c file l at bytes)

-- the addresses of the devices that are not known are asked for first; so many are not
abbrev pub write_to : ClientValue → OpenFile → Layout → ℕ → List ℕ → ℕ → HeadStep
write_to c file l at bytes unknown = if unknown == 0 then write_under c file l at bytes else Asks (ask.DeviceInfo unknown)

-- a write wants a layout; where one is given back it waits for that
abbrev pub write_by : ClientValue → OpenFile → Option Layout → ℕ → List ℕ → HeadStep
write_by c file None at bytes = Asks ask.LayoutGet
write_by c file (Some l) at bytes = if is_writing l.stage then write_to c file l at bytes (length (unknown_servers c l)) else IsWaiting c

-- what comes once the layout is given back
abbrev pub behind_return : HeadStep → ClientValue → Option Layout → HeadStep
behind_return step c None = step
behind_return step c (Some l) = IsWaiting (with_layout c (ending l))

-- each taken write is told
abbrev pub is_all_told : Option Layout → Bool
is_all_told None = true
is_all_told (Some l) = length l.untold == 0

abbrev pub layout_committing : ClientValue → Option Layout → ClientValue
layout_committing c None = c
layout_committing c (Some l) = with_layout c (with_writer l (commit_wanted l.writer))

-- a commit is done where each taken write is told
abbrev pub commit_by : ClientValue → HeadStep
commit_by c = if is_all_told c.layout then IsDone (answers_committed c) else IsWaiting (layout_committing c c.layout)

-- a request for an open file; what goes to the metadata server waits until the layout is given back
abbrev pub on_open_file : ClientValue → OpenFile → UserRequest → HeadStep
on_open_file c file (Open name) = IsDone (refuses_request INVAL c)
on_open_file c file (Write at bytes) = if is_past at bytes then IsDone (refuses_request FBIG c) else write_by c file c.layout at bytes
on_open_file c file (Through at bytes) = if is_past at bytes then IsDone (refuses_request FBIG c) else behind_return (Asks ask.Write) c c.layout
on_open_file c file Commit = commit_by c
on_open_file c file (Read at count) = Asks (ask.Read at count)
on_open_file c file Return = behind_return (IsDone (answers_user answer.Returned c)) c c.layout

-- what brings the client on to an open file, by how far it is with its metadata server
abbrev pub opens_by : Tie → MdsAsk
opens_by NoClient = ask.ExchangeId
opens_by (HasClient clientid sequence) = ask.CreateSession
opens_by (HasSession s) = if s.is_complete then ask.Open else ask.ReclaimComplete

-- before a file is open: INVAL 22, FBIG 27 and NOFILEHANDLE 10020 are the statuses of RFC 8881, section 15.1
abbrev pub head_step : ClientValue → Option OpenFile → UserRequest → HeadStep
head_step c None (Open name) = Asks (opens_by c.tie)
head_step c None request = IsDone (refuses_request NOFILEHANDLE c)
head_step c (Some file) request = on_open_file c file request

-- ---- the queue

-- what the queue came to, and what its head wants asked of the metadata server
pub record QueueRun : Type 0 where
  pub run : ClientRun
  pub wants : Option MdsAsk

-- the request stays at the head
abbrev pub keeps_head : UserRequest → ClientValue → ClientValue
keeps_head request c = record c { queue = request ∷ c.queue }

-- the next one does not wait for a tick
abbrev pub awake : ClientRun → ClientRun
awake r = record r { client = record r.client { waits = false } }

abbrev pub after_head : UserRequest → ClientValue → HeadStep → (ClientValue → QueueRun) → QueueRun
after_head request c (IsDone r) next = record { run = followed_by (awake r) (λ d. (next d).run); wants = (next (awake r).client).wants }
after_head request c (IsWaiting d) next = record { run = unmoved (keeps_head request d); wants = None }
after_head request c (Asks kind) next = record { run = unmoved (keeps_head request c); wants = Some kind }

abbrev pub with_rest : ClientValue → List UserRequest → ClientValue
with_rest c rest = record c { queue = rest }

-- The requests are done in order, up to the first that waits.
abbrev pub run_requests : List UserRequest → ClientValue → QueueRun
run_requests [] c = record { run = unmoved c; wants = None }
run_requests (request ∷ rest) c = after_head request (with_rest c rest) (head_step (with_rest c rest) c.file request) (run_requests rest)

abbrev pub run_queue : ClientValue → QueueRun
run_queue c = run_requests c.queue c

-- ---- the layout is lost

-- the answer takes a commit that waits at the head off the queue, and no other request
abbrev pub without_commit : List UserRequest → List UserRequest
without_commit (Commit ∷ rest) = rest
without_commit queue = queue

abbrev pub fails_layout : FailCause → ClientValue → ClientRun
fails_layout cause c = answers_user (answer.Failed cause) (record c { queue = without_commit c.queue })

-- it was taken away: the writes that are not told are dropped with it
abbrev pub revoked_layout : ClientValue → ClientRun
revoked_layout c = fails_layout failing.Revoked (record c { layout = None })

-- every mirror failed: the writes that are not told are dropped, and the layout is given back
abbrev pub lost_mirrors : Layout → ClientValue → ClientRun
lost_mirrors l c = fails_layout failing.AllMirrors (with_layout c (record (ending l) { untold = [] }))
