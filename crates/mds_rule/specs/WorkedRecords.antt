-- Records that are worked out by hand, byte by byte: what comes to a new metadata server, and what goes back (RFC 5531, section 9; RFC 8881,
-- sections 16.1, 16.2 and 18.46). Each word of four bytes is a number here.
use Rattle.std.specs.Prelude.{ℕ, true, List, [], ◌∷◌, ◌++◌}
use Rattle.std.specs.List.{flat_map}
use Rattle.ff_xdr.specs.Form.{word}
use Rattle.cluster_model.specs.declared.ids.NodeId.{NodeId}
use Rattle.cluster_model.specs.declared.ids.NodeId.TheVariants.{Server, Client}
use Rattle.cluster_model.specs.DsCalls.{Write}
use Rattle.mds_rule.specs.MdsStates.{CallsServer}
use Rattle.mds_rule.specs.Events.{takes_record}
use Rattle.mds_rule.specs.Spelled.{spelled_send, records_sent}
use Rattle.mds_rule.specs.Conversations.{fresh_mds}

abbrev pub bytes_of_words : List ℕ → List ℕ
bytes_of_words words = flat_map word words

-- what goes back to the client
abbrev pub heard : List ℕ → List (NodeId × List ℕ)
heard words = records_sent (takes_record 0 fresh_mds (Client 1) (bytes_of_words words))

abbrev pub back_to : List ℕ → List (NodeId × List ℕ)
back_to words = (Client 1, bytes_of_words words) ∷ []

-- a call of NFS version 4: its number, its procedure, AUTH_NONE twice
abbrev pub call_words : ℕ → ℕ → List ℕ
call_words xid procedure = xid ∷ 0 ∷ 2 ∷ 100003 ∷ 4 ∷ procedure ∷ 0 ∷ 0 ∷ 0 ∷ 0 ∷ []

-- an accepted reply, with its accept_stat
abbrev pub reply_words : ℕ → ℕ → List ℕ
reply_words xid stat = xid ∷ 1 ∷ 0 ∷ 0 ∷ 0 ∷ stat ∷ []

-- NULL; a procedure that there is not; a compound without operations
abbrev pub null_call : List ℕ
null_call = call_words 1 0

abbrev pub null_reply : List ℕ
null_reply = reply_words 1 0

abbrev pub third_procedure : List ℕ
third_procedure = call_words 2 2

abbrev pub no_procedure : List ℕ
no_procedure = reply_words 2 3

abbrev pub empty_compound : List ℕ
empty_compound = call_words 3 1 ++ 0 ∷ 1 ∷ 0 ∷ []

abbrev pub empty_result : List ℕ
empty_result = reply_words 3 0 ++ 0 ∷ 0 ∷ 0 ∷ []

-- a SEQUENCE of no session there is, and a GETFH behind it, which is not run: BADSESSION 10052
abbrev pub lost_session : List ℕ
lost_session = call_words 4 1 ++ 0 ∷ 1 ∷ 2 ∷ 53 ∷ 1 ∷ 2 ∷ 3 ∷ 4 ∷ 1 ∷ 0 ∷ 0 ∷ 1 ∷ 10 ∷ []

abbrev pub bad_session : List ℕ
bad_session = reply_words 4 0 ++ 10052 ∷ 0 ∷ 1 ∷ 53 ∷ 10052 ∷ []

-- a WRITE of "AB" to file 2 of a data server, FILE_SYNC, by uid 65536 on the machine "mds" (RFC 1813, section 3.3.7; RFC 5531, appendix A)
abbrev pub write_sent : NodeId × List ℕ
write_sent = spelled_send (CallsServer 1 7 65536 (Write 2 0 true (65 ∷ 66 ∷ [])))

abbrev pub write_record : NodeId × List ℕ
write_record =
    (Server 1, bytes_of_words (7 ∷ 0 ∷ 2 ∷ 100003 ∷ 3 ∷ 7 ∷ 1 ∷ 24 ∷ 0 ∷ 3 ∷ 1835299584 ∷ 65536 ∷ 65536 ∷ 0 ∷ 0 ∷ 0 ∷ 8 ∷ 0 ∷ 2 ∷ 0 ∷ 0 ∷ 2 ∷ 2 ∷ 2 ∷ 1094844416 ∷ []))
