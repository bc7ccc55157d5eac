-- More runs of a client that are worked out by hand: recalls, returns, requests that are refused, and a client that leaves.
use Rattle.std.specs.Prelude.{ℕ, false, List, [], ◌∷◌, ◌++◌, Some, None}
use Rattle.ff_xdr.specs.Form.{Value, spelling}
use Rattle.ff_xdr.specs.Arms.{arm}
use Rattle.rpc_record.specs.Replies.{RpcReply, auth_none, success}
use Rattle.nfs4_types.specs.declared.status.Stat4.{Stat4}
use Rattle.nfs4_types.specs.declared.status.Stat4.TheVariants as stat
use Rattle.nfs4_types.specs.Status.{stat4_number}
use Rattle.nfs4_types.specs.Stateids.{stateid4_value, layout_stateid_of}
use Rattle.nfs4_types.specs.Handles.{file_handle_of}
use Rattle.nfs4_compound.specs.declared.stop.Stop.TheVariants.{End}
use Rattle.nfs4_compound.specs.CbArgs.{cb_argop4}
use Rattle.nfs4_compound.specs.Compounds.{cb_compound4_res}
use Rattle.nfs4_file_ops.specs.CbLayoutRecall.{layoutrecall4}
use Rattle.cluster_model.specs.declared.answer.UserAnswer.TheVariants as answer
use Rattle.cluster_model.specs.declared.answer.FailCause.TheVariants as failing
use Rattle.cluster_model.specs.declared.entry.Entry.TheVariants.{Rogue}
use Rattle.cluster_model.specs.DsCalls as ds
use Rattle.client_mds_calls.specs.declared.ask.MdsAsk.TheVariants as ask
use Rattle.client_mds_calls.specs.MdsCalls.{ExchangeId, CreateSession}
use Rattle.client_mds_calls.specs.MdsCalls as slot
use Rattle.client_mds_calls.specs.MdsReplies as says
use Rattle.client_state.specs.declared.request.UserRequest.TheVariants.{Open, Write, Through, Commit, Read, Return}
use Rattle.client_state.specs.ClientStates.{ClientValue, fresh_client}
use Rattle.client_state.specs.ClientSends.{RepliesToMds}
use Rattle.client_callbacks.specs.Callbacks.{cb_first, cb_recall_result, cb_sequence_result}
use Rattle.mirror_client.specs.ClientRuns.{ClientEvent, UserAsks, DsSays, CallsBack, Ticks, Leaves, Strays, client_run, ClientSeen}
use Rattle.mirror_client.specs.WorkedClient.{client, session, the_file, opened, says_ok, says_plain, answer_entry, told_write, to_mds, on_session, calls_server, write_call, commit_call, gives_back, opening, opening_seen, writing, writing_seen, committing, committing_seen}

-- ---- recalls

-- a callback of this number: the layout of the file under this uid is asked back
abbrev pub recall_call : ℕ → ℕ → List (Value cb_argop4)
recall_call number uid =
    arm 11 cb_argop4 (session.0, (number, (0, (0, (false, [])))))
    ∷ arm 5 cb_argop4 (4, (2, (false, arm 1 layoutrecall4 (file_handle_of 1, (0, (18446744073709551615, stateid4_value (layout_stateid_of 1 uid 1)))))))
    ∷ []

-- how a callback is answered behind a run
abbrev pub recall_status : List ClientEvent → ℕ → ℕ → Stat4
recall_status events number uid = (cb_first (recall_call number uid) (End None) (client_run client events).client).status

-- how one of number 1 is answered: the session and the number again, and the status of the recall, which is that of the whole
abbrev pub recall_reply : Stat4 → RpcReply
recall_reply status = record {
  xid = 1;
  verf = auth_none;
  stat = success;
  results = spelling cb_compound4_res (stat4_number status, ([], cb_sequence_result session 1 ∷ cb_recall_result status ∷ []));
}

-- The recall is answered. The writes are committed, COMMIT 9 and 10, and told; then LAYOUTRETURN 11 goes out.
abbrev pub own_recall : List ClientEvent
own_recall =
    writing ++ CallsBack 1 (recall_call 1 65536) ∷ DsSays 1 7 (ds.Written None 1) ∷ DsSays 2 8 (ds.Written None 1)
    ∷ DsSays 1 9 (ds.Committed None 1) ∷ DsSays 2 10 (ds.Committed None 1) ∷ []

abbrev pub own_recall_seen : ClientSeen
own_recall_seen = record {
  entries = writing_seen.entries ++ told_write 65536 0 (65 ∷ 66 ∷ []) ∷ [];
  sends =
      writing_seen.sends ++ RepliesToMds (recall_reply stat.Ok) ∷ calls_server 1 9 65536 commit_call ∷ calls_server 2 10 65536 commit_call
      ∷ on_session 11 5 (gives_back 65536 []) ∷ [];
  asked = Some ask.LayoutReturn;
}

-- a recall of another layout does nothing
abbrev pub other_recall : List ClientEvent
other_recall = writing ++ CallsBack 1 (recall_call 1 65537) ∷ []

abbrev pub other_recall_seen : ClientSeen
other_recall_seen = record { entries = writing_seen.entries; sends = writing_seen.sends ++ RepliesToMds (recall_reply stat.NoMatchingLayout) ∷ []; asked = None }

-- ---- returns

-- a write through the metadata server, WRITE 12, goes behind the layout's return, LAYOUTRETURN 11
abbrev pub through : List ClientEvent
through = committing ++ UserAsks (Through 5 (67 ∷ [])) ∷ says_ok 11 says.Returned ∷ says_ok 12 says.Written ∷ []

abbrev pub through_seen : ClientSeen
through_seen = record {
  entries = committing_seen.entries ++ answer_entry answer.Written ∷ [];
  sends = committing_seen.sends ++ on_session 11 5 (gives_back 65536 []) ∷ on_session 12 6 (slot.Write opened 5 (67 ∷ [])) ∷ [];
  asked = None;
}

-- a return without a layout is done at once; one that is refused for now, DELAY 10008, goes out again at the next tick, 12
abbrev pub giving_back : List ClientEvent
giving_back = opening ++ UserAsks Return ∷ []

abbrev pub giving_back_seen : ClientSeen
giving_back_seen = record { entries = opening_seen.entries ++ answer_entry answer.Returned ∷ []; sends = opening_seen.sends; asked = None }

abbrev pub deferring : List ClientEvent
deferring = committing ++ UserAsks Return ∷ says_ok 11 (says.Refused 10008) ∷ Ticks 1 ∷ says_ok 12 says.Returned ∷ []

abbrev pub deferring_seen : ClientSeen
deferring_seen = record {
  entries = committing_seen.entries ++ answer_entry answer.Returned ∷ [];
  sends = committing_seen.sends ++ on_session 11 5 (gives_back 65536 []) ∷ on_session 12 6 (gives_back 65536 []) ∷ [];
  asked = None;
}

-- ---- requests that are refused

-- a second open, INVAL 22, and a write past the end, FBIG 27; and a read, READ 5, that the metadata server refuses, IO 5
abbrev pub refusing : List ClientEvent
refusing = opening ++ UserAsks (Open (98 ∷ [])) ∷ UserAsks (Write 67108863 (65 ∷ 66 ∷ [])) ∷ UserAsks (Read 0 1) ∷ says_ok 5 (says.Refused 5) ∷ []

abbrev pub refusing_seen : ClientSeen
refusing_seen = record {
  entries =
      opening_seen.entries ++ answer_entry (answer.Failed (failing.Refused 22)) ∷ answer_entry (answer.Failed (failing.Refused 27))
      ∷ answer_entry (answer.Failed (failing.Refused 5)) ∷ [];
  sends = opening_seen.sends ++ on_session 5 3 (slot.Read opened 0 1) ∷ [];
  asked = None;
}

-- before there is a session a refusal leaves the client as new
abbrev pub unknown : List ClientEvent
unknown = UserAsks (Open (97 ∷ [])) ∷ says_plain 1 (says.Client 4294967297 1) ∷ says_plain 2 (says.Refused 10022) ∷ UserAsks (Open (97 ∷ [])) ∷ []

abbrev pub unknown_seen : ClientSeen
unknown_seen = record {
  entries = answer_entry (answer.Failed (failing.Refused 10022)) ∷ [];
  sends = to_mds 1 (ExchangeId 1) ∷ to_mds 2 (CreateSession 4294967297 1) ∷ to_mds 3 (ExchangeId 1) ∷ [];
  asked = Some ask.ExchangeId;
}

-- ---- a data server that lost a write: COMMIT 9 shows another verifier, so the WRITE goes out again, 11, and COMMIT 12 behind it

abbrev pub written_again : List ClientEvent
written_again =
    writing ++ DsSays 1 7 (ds.Written None 1) ∷ DsSays 2 8 (ds.Written None 1) ∷ UserAsks Commit ∷ DsSays 1 9 (ds.Committed None 2)
    ∷ DsSays 2 10 (ds.Committed None 1) ∷ DsSays 1 11 (ds.Written None 2) ∷ DsSays 1 12 (ds.Committed None 2) ∷ []

abbrev pub written_again_seen : ClientSeen
written_again_seen = record {
  entries = committing_seen.entries;
  sends =
      writing_seen.sends ++ calls_server 1 9 65536 commit_call ∷ calls_server 2 10 65536 commit_call ∷ calls_server 1 11 65536 (write_call 0 (65 ∷ 66 ∷ []))
      ∷ calls_server 1 12 65536 commit_call ∷ [];
  asked = None;
}

-- ---- no numbers are left: the last goes to EXCHANGE_ID

abbrev pub last_number : ClientValue
last_number = fresh_client 1 1 4294967295

abbrev pub numberless : List ClientEvent
numberless = UserAsks (Open (97 ∷ [])) ∷ says_plain 4294967295 (says.Client 4294967297 1) ∷ []

abbrev pub numberless_seen : ClientSeen
numberless_seen = record { entries = []; sends = to_mds 4294967295 (ExchangeId 1) ∷ []; asked = None }

-- ---- a client that leaves the protocol does nothing but write to a mirror of its layout, WRITE 9

abbrev pub leaving : List ClientEvent
leaving = writing ++ Leaves ∷ DsSays 1 7 (ds.Written None 1) ∷ UserAsks Commit ∷ Ticks 99 ∷ Strays 2 9 (90 ∷ []) ∷ Strays 3 0 (90 ∷ []) ∷ []

abbrev pub leaving_seen : ClientSeen
leaving_seen = record {
  entries = writing_seen.entries ++ Rogue the_file (record { 0 = 65536 }) 9 (90 ∷ []) ∷ [];
  sends = writing_seen.sends ++ calls_server 2 9 65536 (write_call 9 (90 ∷ [])) ∷ [];
  asked = None;
}
