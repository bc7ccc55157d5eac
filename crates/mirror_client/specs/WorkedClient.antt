-- Runs of a client that are worked out by hand: a file's whole conversation, and each way in which a layout is lost.
use Rattle.std.specs.Prelude.{ℕ, ◌+◌, true, false, List, [], ◌∷◌, ◌++◌, replicate, Some, None}
use Rattle.nfs4_types.specs.declared.ids.SessionId.{SessionId}
use Rattle.nfs4_types.specs.Stateids.{layout_stateid_of, open_stateid_of}
use Rattle.device_addr.specs.declared.net_addr.NetAddr.{NetAddr}
use Rattle.cluster_model.specs.declared.ids.NodeId.TheVariants.{Server, Client}
use Rattle.cluster_model.specs.declared.ids.FileId.{FileId}
use Rattle.cluster_model.specs.declared.ids.Mirror.{Mirror}
use Rattle.cluster_model.specs.declared.answer.UserAnswer.{UserAnswer}
use Rattle.cluster_model.specs.declared.answer.UserAnswer.TheVariants as answer
use Rattle.cluster_model.specs.declared.answer.FailCause.TheVariants as failing
use Rattle.cluster_model.specs.declared.entry.Entry.{Entry}
use Rattle.cluster_model.specs.declared.entry.Entry.TheVariants.{Sent, Told, TimedOut, Answer}
use Rattle.cluster_model.specs.DsCalls as ds
use Rattle.client_file_calls.specs.declared.open.OpenFile.{OpenFile}
use Rattle.client_file_calls.specs.declared.layout_return.FailedMirror.{FailedMirror}
use Rattle.client_mds_calls.specs.declared.ask.MdsAsk.TheVariants as ask
use Rattle.client_file_calls.specs.declared.grant.LayoutGrant.{LayoutGrant}
use Rattle.client_mds_calls.specs.declared.reply.SlotReport.TheVariants.{Taken, Uncached, Delayed, Unknown}
use Rattle.client_mds_calls.specs.MdsCalls.{SlotCallValue, MdsCallValue, ExchangeId, CreateSession, OnSlot}
use Rattle.client_mds_calls.specs.MdsCalls as slot
use Rattle.client_mds_calls.specs.MdsCompounds.{mds_call_bytes}
use Rattle.client_mds_calls.specs.MdsReplies as says
use Rattle.client_state.specs.declared.request.UserRequest.TheVariants.{Open, Write, Commit, Read}
use Rattle.client_state.specs.ClientStates.{ClientValue, fresh_client}
use Rattle.client_state.specs.ClientSends.{ClientSend, CallsServer, CallsMds, RepeatsToServer, RepeatsToMds}
use Rattle.mirror_client.specs.ClientRuns.{ClientEvent, UserAsks, MdsSays, DsSays, TimesOut, Ticks, ClientSeen}

-- ---- who takes part

abbrev pub client : ClientValue
client = fresh_client 1 1 1

abbrev pub session : SessionId
session = record { 0 = replicate 15 0 ++ 1 ∷ [] }

abbrev pub the_file : FileId
the_file = record { 0 = 1 }

abbrev pub opened : OpenFile
opened = record { file = the_file; stateid = open_stateid_of 1 1 }

abbrev pub mirror_on : ℕ → Mirror
mirror_on server = record { id = record { server = server; fileid = 2 }; seen = record { boot = 0; count = 0 } }

-- a layout under this uid, with a mirror on each of two data servers
abbrev pub grant : ℕ → LayoutGrant
grant uid = record { stateid = layout_stateid_of 1 uid 1; uid = record { 0 = uid }; mirrors = mirror_on 1 ∷ mirror_on 2 ∷ [] }

abbrev pub address : ℕ → NetAddr
address server = record { host = 127 ∷ 0 ∷ 0 ∷ 1 ∷ []; port = 2048 + server }

abbrev pub says_ok : ℕ → says.MdsAnswerValue → ClientEvent
says_ok xid a = MdsSays xid (record { slot = Taken; answer = a }) 0

abbrev pub says_at : ℕ → says.MdsAnswerValue → ℕ → ClientEvent
says_at xid a now = MdsSays xid (record { slot = Taken; answer = a }) now

abbrev pub says_plain : ℕ → says.MdsAnswerValue → ClientEvent
says_plain xid a = MdsSays xid (record { slot = Unknown; answer = a }) 0

abbrev pub answer_entry : UserAnswer → Entry
answer_entry a = Answer 1 a

abbrev pub sent_write : ℕ → ℕ → List ℕ → Entry
sent_write uid at bytes = Sent the_file (record { 0 = uid }) at bytes

abbrev pub told_write : ℕ → ℕ → List ℕ → Entry
told_write uid at bytes = Told the_file (record { 0 = uid }) at bytes

-- what this client sends: a compound; a request on slot 0 of its session, with its number there; the same again
abbrev pub to_mds : ℕ → MdsCallValue → ClientSend
to_mds xid call = CallsMds xid client.name call

abbrev pub on_session : ℕ → ℕ → SlotCallValue → ClientSend
on_session xid sequence call = to_mds xid (OnSlot session sequence call)

abbrev pub again_on_session : ℕ → ℕ → SlotCallValue → ClientSend
again_on_session xid sequence call = RepeatsToMds xid (mds_call_bytes xid client.name (OnSlot session sequence call))

-- a call to a data server under a uid; the same again
abbrev pub calls_server : ℕ → ℕ → ℕ → ds.DsCallValue → ClientSend
calls_server server xid uid call = CallsServer server xid client.name uid call

abbrev pub again_to_server : ℕ → ℕ → ℕ → ds.DsCallValue → ClientSend
again_to_server server xid uid call = RepeatsToServer server xid client.name uid call

-- a WRITE to a mirror is UNSTABLE
abbrev pub write_call : ℕ → List ℕ → ds.DsCallValue
write_call at bytes = ds.Write 2 at false bytes

abbrev pub commit_call : ds.DsCallValue
commit_call = ds.Commit 2

-- the layout under a uid is given back, with a report of these mirrors
abbrev pub gives_back : ℕ → List FailedMirror → SlotCallValue
gives_back uid failed = slot.LayoutReturn the_file (layout_stateid_of 1 uid 1) failed

abbrev pub failed_on : ℕ → ℕ → FailedMirror
failed_on server status = record { server = server; status = status }

-- ---- before a file is open

abbrev pub unopened : List ClientEvent
unopened = UserAsks (Write 0 (65 ∷ [])) ∷ []

abbrev pub unopened_seen : ClientSeen
unopened_seen = record { entries = answer_entry (answer.Failed (failing.Refused 10020)) ∷ []; sends = []; asked = None }

-- ---- a file is opened: EXCHANGE_ID 1, CREATE_SESSION 2, RECLAIM_COMPLETE 3, OPEN 4

abbrev pub opening : List ClientEvent
opening =
    UserAsks (Open (97 ∷ [])) ∷ says_plain 1 (says.Client 4294967297 1) ∷ says_plain 2 (says.Session session) ∷ says_ok 3 says.Complete
    ∷ says_ok 4 (says.Opened opened) ∷ []

abbrev pub opening_seen : ClientSeen
opening_seen = record {
  entries = answer_entry (answer.Opened the_file) ∷ [];
  sends =
      to_mds 1 (ExchangeId 1) ∷ to_mds 2 (CreateSession 4294967297 1) ∷ on_session 3 1 slot.ReclaimComplete
      ∷ on_session 4 2 (slot.Open (97 ∷ [])) ∷ [];
  asked = None;
}

-- ---- a write goes to both mirrors: LAYOUTGET 5, GETDEVICEINFO 6, WRITE 7 and 8

abbrev pub writing : List ClientEvent
writing = opening ++ UserAsks (Write 0 (65 ∷ 66 ∷ [])) ∷ says_ok 5 (says.Granted (grant 65536)) ∷ says_ok 6 (says.Devices (address 1 ∷ address 2 ∷ [])) ∷ []

abbrev pub writing_seen : ClientSeen
writing_seen = record {
  entries = answer_entry (answer.Opened the_file) ∷ sent_write 65536 0 (65 ∷ 66 ∷ []) ∷ [];
  sends =
      opening_seen.sends ++ on_session 5 3 (slot.LayoutGet opened) ∷ on_session 6 4 (slot.DeviceInfo (1 ∷ 2 ∷ []))
      ∷ calls_server 1 7 65536 (write_call 0 (65 ∷ 66 ∷ [])) ∷ calls_server 2 8 65536 (write_call 0 (65 ∷ 66 ∷ [])) ∷ [];
  asked = None;
}

-- ---- it is committed at both, COMMIT 9 and 10, and then told

abbrev pub committing : List ClientEvent
committing =
    writing ++ DsSays 1 7 (ds.Written None 1) ∷ DsSays 2 8 (ds.Written None 1) ∷ UserAsks Commit ∷ DsSays 1 9 (ds.Committed None 1)
    ∷ DsSays 2 10 (ds.Committed None 1) ∷ []

abbrev pub committing_seen : ClientSeen
committing_seen = record {
  entries = answer_entry (answer.Opened the_file) ∷ sent_write 65536 0 (65 ∷ 66 ∷ []) ∷ told_write 65536 0 (65 ∷ 66 ∷ []) ∷ answer_entry (answer.Committed 1) ∷ [];
  sends = writing_seen.sends ++ calls_server 1 9 65536 commit_call ∷ calls_server 2 10 65536 commit_call ∷ [];
  asked = None;
}

-- ---- a write over it goes under another layout: LAYOUTRETURN 11, LAYOUTGET 12, and 13 at the next tick; WRITE 14 and 15

abbrev pub overlapping : List ClientEvent
overlapping =
    committing ++ UserAsks (Write 0 (67 ∷ [])) ∷ says_ok 11 says.Returned ∷ says_ok 12 (says.Refused 10058) ∷ Ticks 1
    ∷ says_ok 13 (says.Granted (grant 65537)) ∷ []

abbrev pub overlapping_seen : ClientSeen
overlapping_seen = record {
  entries = committing_seen.entries ++ sent_write 65537 0 (67 ∷ []) ∷ [];
  sends =
      committing_seen.sends ++ on_session 11 5 (gives_back 65536 []) ∷ on_session 12 6 (slot.LayoutGet opened) ∷ on_session 13 7 (slot.LayoutGet opened)
      ∷ calls_server 1 14 65537 (write_call 0 (67 ∷ [])) ∷ calls_server 2 15 65537 (write_call 0 (67 ∷ [])) ∷ [];
  asked = None;
}

-- ---- a mirror times out three times: the other commits, 9, and LAYOUTRETURN 10 reports it; then the write is told

abbrev pub reporting : List ClientEvent
reporting =
    writing ++ DsSays 1 7 (ds.Written None 1) ∷ TimesOut (Server 2) ∷ TimesOut (Server 2) ∷ TimesOut (Server 2)
    ∷ DsSays 1 9 (ds.Committed None 1) ∷ []

abbrev pub late_entry : Entry
late_entry = TimedOut (Client 1) 8

abbrev pub reporting_seen : ClientSeen
reporting_seen = record {
  entries = writing_seen.entries ++ replicate 3 late_entry;
  sends =
      writing_seen.sends ++ again_to_server 2 8 65536 (write_call 0 (65 ∷ 66 ∷ [])) ∷ again_to_server 2 8 65536 (write_call 0 (65 ∷ 66 ∷ []))
      ∷ calls_server 1 9 65536 commit_call ∷ on_session 10 5 (gives_back 65536 (failed_on 2 10008 ∷ [])) ∷ [];
  asked = Some ask.LayoutReturn;
}

abbrev pub reported : List ClientEvent
reported = reporting ++ says_ok 10 says.Returned ∷ UserAsks Commit ∷ []

abbrev pub reported_seen : ClientSeen
reported_seen = record {
  entries = reporting_seen.entries ++ told_write 65536 0 (65 ∷ 66 ∷ []) ∷ answer_entry (answer.Committed 1) ∷ [];
  sends = reporting_seen.sends;
  asked = None;
}

-- ---- ACCES 13 from a mirror: the layout is lost, with a commit that waits; the other mirror's answer is passed over

abbrev pub taken_away : List ClientEvent
taken_away = writing ++ UserAsks Commit ∷ DsSays 2 8 (ds.Failed 13 None) ∷ DsSays 1 7 (ds.Written None 1) ∷ []

abbrev pub taken_away_seen : ClientSeen
taken_away_seen = record { entries = writing_seen.entries ++ answer_entry (answer.Failed failing.Revoked) ∷ []; sends = writing_seen.sends; asked = None }

-- ---- each mirror fails, IO 5: the user is told at once, and LAYOUTRETURN 9 reports both; refused as BAD_STATEID 10025 it is told again

abbrev pub all_failed : List ClientEvent
all_failed = writing ++ DsSays 1 7 (ds.Failed 5 None) ∷ DsSays 2 8 (ds.Failed 5 None) ∷ says_ok 9 (says.Refused 10025) ∷ []

abbrev pub all_failed_seen : ClientSeen
all_failed_seen = record {
  entries = writing_seen.entries ++ answer_entry (answer.Failed failing.AllMirrors) ∷ answer_entry (answer.Failed failing.Revoked) ∷ [];
  sends = writing_seen.sends ++ on_session 9 5 (gives_back 65536 (failed_on 1 5 ∷ failed_on 2 5 ∷ [])) ∷ [];
  asked = None;
}

-- ---- BADSESSION 10052 at READ 9 under a layout, with a commit and an open waiting: the first two run without a file, EXCHANGE_ID 10 goes out

abbrev pub session_gone : List ClientEvent
session_gone = writing ++ UserAsks (Read 0 1) ∷ UserAsks Commit ∷ UserAsks (Open (98 ∷ [])) ∷ says_plain 9 (says.Refused 10052) ∷ []

abbrev pub session_gone_seen : ClientSeen
session_gone_seen = record {
  entries =
      writing_seen.entries ++ answer_entry (answer.Failed failing.Revoked) ∷ answer_entry (answer.Failed (failing.Refused 10020))
      ∷ answer_entry (answer.Failed (failing.Refused 10020)) ∷ [];
  sends = writing_seen.sends ++ on_session 9 5 (slot.Read opened 0 1) ∷ to_mds 10 (ExchangeId 1) ∷ [];
  asked = Some ask.ExchangeId;
}

-- ---- the slot: DELAY at SEQUENCE, so the same record goes out at the next tick; then RETRY_UNCACHED_REP, so the read goes out anew, as 6

abbrev pub retried : List ClientEvent
retried =
    opening ++ UserAsks (Read 0 2) ∷ MdsSays 5 (record { slot = Delayed; answer = says.Refused 10008 }) 0 ∷ Ticks 1
    ∷ MdsSays 5 (record { slot = Uncached; answer = says.Refused 10068 }) 1 ∷ says_at 6 (says.Bytes true (65 ∷ [])) 2 ∷ []

abbrev pub retried_seen : ClientSeen
retried_seen = record {
  entries = answer_entry (answer.Opened the_file) ∷ answer_entry (answer.Bytes true (65 ∷ [])) ∷ [];
  sends =
      opening_seen.sends ++ on_session 5 3 (slot.Read opened 0 2) ∷ again_on_session 5 3 (slot.Read opened 0 2) ∷ on_session 6 4 (slot.Read opened 0 2) ∷ [];
  asked = None;
}

-- ---- the lease: a SEQUENCE alone, 7, goes out 30 s after the last that was answered, at 2

abbrev pub renewing : List ClientEvent
renewing = retried ++ Ticks 31 ∷ Ticks 32 ∷ []

abbrev pub renewing_seen : ClientSeen
renewing_seen = record { entries = retried_seen.entries; sends = retried_seen.sends ++ on_session 7 5 slot.Renew ∷ []; asked = Some ask.Renew }
