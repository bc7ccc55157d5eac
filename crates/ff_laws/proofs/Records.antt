-- What the records of the worked journals are.
use Rattle.std.proofs.Common.{◌≡◌, ℕ, List, [], ◌++◌, Some, None, refl}
use Rattle.std.specs.Str.{is_utf8, chars}
use Rattle.ff_xdr.specs.Form.{word, long, pad_len}
use Rattle.ff_xdr.specs.Reading.{number_at, fixed_at, length_at, opaque_at, flag_at, may_begin_text, text_at, hyper_at}
use Rattle.rpc_record.specs.Calls.{word_of, body_at, call_at}
use Rattle.rpc_record.specs.Replies.{auth_none, success, reply_at}
use Rattle.ff_laws.specs.ReadCalls.{client_read_of, server_read_of}
use Rattle.ff_laws.specs.ReadLaw.{IsCallOf, IsReplyOf}
use Rattle.ff_laws.specs.WorkedRecords.{nfs_call, session_words, sequence_words, put_fh_words, read_words, client_record, server_record, bytes_behind, operation_behind, no_put_fh, commit_record, short_handle, nfs_reply, letter_words, compound_words, answer_words, failure_words}
use Rattle.ff_laws.specs.WorkedReads.{the_read, of_server}

-- ---- the client's request

pub request_reads : client_read_of (client_record 7 1 0 1) ≡ Some the_read
unfolding is_utf8 chars word long pad_len number_at fixed_at length_at opaque_at flag_at hyper_at may_begin_text text_at word_of body_at call_at nfs_call session_words sequence_words put_fh_words read_words client_record
request_reads = refl

pub bytes_are_left : client_read_of bytes_behind ≡ None
unfolding is_utf8 chars word long pad_len number_at fixed_at length_at opaque_at flag_at hyper_at may_begin_text text_at word_of body_at call_at nfs_call session_words sequence_words put_fh_words read_words client_record bytes_behind
bytes_are_left = refl

pub operation_is_left : client_read_of operation_behind ≡ None
unfolding is_utf8 chars word long pad_len number_at fixed_at length_at opaque_at flag_at hyper_at may_begin_text text_at word_of body_at call_at nfs_call session_words sequence_words put_fh_words read_words operation_behind
operation_is_left = refl

pub put_fh_is_missed : client_read_of no_put_fh ≡ None
unfolding is_utf8 chars word long pad_len number_at fixed_at length_at opaque_at flag_at hyper_at may_begin_text text_at word_of body_at call_at nfs_call session_words sequence_words read_words no_put_fh
put_fh_is_missed = refl

-- ---- the READs to data servers

abbrev pub IsRead : ℕ → Type 0
IsRead xid = server_read_of (server_record xid 2 0 1) ≡ Some (of_server xid)

pub server_reads : IsRead 10 × IsRead 13 × IsRead 14 × IsRead 15
unfolding word long pad_len number_at fixed_at length_at opaque_at word_of body_at call_at nfs_call server_record
server_reads = (refl, refl, refl, refl)

pub commit_is_none : server_read_of commit_record ≡ None
unfolding word long pad_len number_at fixed_at length_at opaque_at word_of body_at call_at nfs_call commit_record
commit_is_none = refl

pub handle_is_short : server_read_of short_handle ≡ None
unfolding word long pad_len number_at fixed_at length_at opaque_at word_of body_at call_at nfs_call short_handle
handle_is_short = refl

server_args : List ℕ
unfolding word long
server_args = word 8 ++ (long 2 ++ (long 0 ++ word 1))

pub is_call_10 : IsCallOf (server_record 10 2 0 1) 10
unfolding word long pad_len number_at fixed_at length_at opaque_at word_of body_at call_at nfs_call server_record server_args
is_call_10 = record { call = record { xid = 10; program = 100003; version = 3; procedure = 6; cred = record { flavor = 0; body = [] }; verf = record { flavor = 0; body = [] }; args = server_args }; reads = refl; number = refl }

-- ---- the answers

pub is_answer : IsReplyOf (nfs_reply 7 answer_words) 7
unfolding word pad_len number_at fixed_at length_at opaque_at reply_at nfs_reply session_words letter_words compound_words answer_words
is_answer = record { reply = record { xid = 7; verf = auth_none; stat = success; results = answer_words }; reads = refl; number = refl }

pub is_failure : IsReplyOf (nfs_reply 7 failure_words) 7
unfolding word pad_len number_at fixed_at length_at opaque_at reply_at nfs_reply session_words compound_words failure_words
is_failure = record { reply = record { xid = 7; verf = auth_none; stat = success; results = failure_words }; reads = refl; number = refl }
