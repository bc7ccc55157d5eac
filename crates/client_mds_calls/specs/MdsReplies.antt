-- What the reply of a metadata server to a client's compound comes to (RFC 8881, sections 16.2 and 18).
use Rattle.std.specs.Prelude.{ℕ, Bool, true, false, ◌==◌, List, [], ◌∷◌, Option, Some, None, Result, Ok, Err, if◌then◌else◌, ◌⊎◌}
use Rattle.std.specs.Option.{option_to_list}
use Rattle.std.specs.List.{flat_map}
use Rattle.std.proofs.Common.{inl, inr}
use Rattle.ff_xdr.specs.declared.error.XdrError.{XdrError}
use Rattle.ff_xdr.specs.Form.{Value}
use Rattle.ff_xdr.specs.Reading.{reading, whole}
use Rattle.rpc_record.specs.Replies.{RpcReply, is_success}
use Rattle.nfs4_types.specs.declared.ids.SessionId.{SessionId}
use Rattle.nfs4_types.specs.Status.{stat4_number}
use Rattle.nfs4_compound.specs.Results.{resop4}
use Rattle.nfs4_compound.specs.Compounds.{compound4_res}
use Rattle.device_addr.specs.declared.net_addr.NetAddr.{NetAddr}
use Rattle.client_compounds.specs.MdsResults.{in_arm}
use Rattle.client_session_calls.specs.SessionResults.{exchange_id_results, create_session_results, reclaim_complete_results, renew_results}
use Rattle.client_file_calls.specs.declared.open.OpenFile.{OpenFile}
use Rattle.client_file_calls.specs.declared.grant.LayoutGrant.{LayoutGrant}
use Rattle.client_file_calls.specs.FileResults.{open_results, layout_get_results, device_info_results, write_results, read_results, layout_return_results}
use Rattle.client_mds_calls.specs.declared.reply.SlotReport.{SlotReport}
use Rattle.client_mds_calls.specs.declared.reply.SlotReport.TheVariants.{Taken, Uncached, Delayed, Unknown}
use Rattle.client_mds_calls.specs.declared.reply.MdsAnswer.{MdsAnswer}
use Rattle.client_mds_calls.specs.declared.reply.MdsAnswer.TheVariants as declared
use Rattle.client_mds_calls.specs.declared.reply.MdsReply.{MdsReply}
use Rattle.client_mds_calls.specs.declared.ask.MdsAsk.{MdsAsk}
use Rattle.client_mds_calls.specs.declared.ask.MdsAsk.TheVariants as ask
use Rattle.client_mds_calls.specs.MdsCalls.{takes_slot}

-- ---- answers as plain values

pub data MdsAnswerValue : Type 0 where
  Client : (clientid sequence : ℕ) → MdsAnswerValue
  Session : (session : SessionId) → MdsAnswerValue
  Complete : MdsAnswerValue
  Opened : (file : OpenFile) → MdsAnswerValue
  Granted : (grant : LayoutGrant) → MdsAnswerValue
  Devices : (addresses : List NetAddr) → MdsAnswerValue
  Written : MdsAnswerValue
  Bytes : (eof : Bool) (bytes : List ℕ) → MdsAnswerValue
  Returned : MdsAnswerValue
  Renewed : MdsAnswerValue
  Refused : (status : ℕ) → MdsAnswerValue

abbrev pub plain_mds_answer : MdsAnswer → MdsAnswerValue
plain_mds_answer (declared.Client clientid sequence) = Client clientid sequence
plain_mds_answer (declared.Session session) = Session session
plain_mds_answer declared.Complete = Complete
plain_mds_answer (declared.Opened file) = Opened file
plain_mds_answer (declared.Granted grant) = Granted grant
plain_mds_answer (declared.Devices addresses) = Devices (flat_map option_to_list addresses)
plain_mds_answer declared.Written = Written
plain_mds_answer (declared.Bytes eof bytes) = Bytes eof bytes.now
plain_mds_answer declared.Returned = Returned
plain_mds_answer declared.Renewed = Renewed
plain_mds_answer (declared.Refused status) = Refused (stat4_number status)

-- what a reply comes to: for the slot, and for what was asked
pub record MdsReplyValue : Type 0 where
  pub slot : SlotReport
  pub answer : MdsAnswerValue

abbrev pub plain_mds_reply : MdsReply → MdsReplyValue
plain_mds_reply r = record { slot = r.slot; answer = plain_mds_answer r.answer }

-- ---- the results of each compound: those of its operations, in order, each OK

-- a reply that no server gives by the standard counts as SERVERFAULT (section 15.1.1.9)
abbrev pub odd_results : MdsAnswerValue
odd_results = Refused 10006

abbrev pub answer_if : Bool → MdsAnswerValue → MdsAnswerValue
answer_if true answer = answer
answer_if false answer = odd_results

abbrev pub answer_where : {A : Type 0} → (A → MdsAnswerValue) → Option A → MdsAnswerValue
answer_where answer None = odd_results
answer_where answer (Some a) = answer a

-- what the results say of what was asked
abbrev pub results_of_ask : MdsAsk → List (Value resop4) → MdsAnswerValue
results_of_ask ask.ExchangeId results = answer_where (λ c. Client c.clientid c.sequence) (exchange_id_results results)
results_of_ask ask.CreateSession results = answer_where Session (create_session_results results)
results_of_ask ask.ReclaimComplete results = answer_if (reclaim_complete_results results) Complete
results_of_ask ask.Open results = answer_where Opened (open_results results)
results_of_ask ask.LayoutGet results = answer_where Granted (layout_get_results results)
results_of_ask (ask.DeviceInfo count) results = answer_where Devices (device_info_results count results)
results_of_ask ask.Write results = answer_if (write_results results) Written
results_of_ask (ask.Read at count) results = answer_where (λ b. Bytes b.eof b.bytes) (read_results at count results)
results_of_ask ask.LayoutReturn results = answer_if (layout_return_results results) Returned
results_of_ask ask.Renew results = answer_if (renew_results results) Renewed

-- ---- what the slot is told (section 18.46)

abbrev pub slot_status : ℕ → SlotReport
slot_status status = if status == 10068 then Uncached else if status == 10008 then Delayed else Unknown

abbrev pub slot_result : {A : Type 0} → A ⊎ ℕ → SlotReport
slot_result (inl ok) = Taken
slot_result (inr status) = slot_status status

-- what the first result says of the slot
abbrev pub slot_answer_of : List (Value resop4) → SlotReport
slot_answer_of [] = Unknown
slot_answer_of (first ∷ rest) = in_arm 53 resop4 slot_result Unknown first

-- ---- a reply

-- what the slot is told: nothing by a call that takes none
abbrev pub slot_told : MdsAsk → List (Value resop4) → SlotReport
slot_told kind results = if takes_slot kind then slot_answer_of results else Unknown

-- Of a compound that is not OK its status counts alone, and its first result, where that is a SEQUENCE's.
abbrev pub compound_answer : MdsAsk → ℕ → List (Value resop4) → MdsAnswerValue
compound_answer kind status results = if status == 0 then results_of_ask kind results else Refused status

abbrev pub odd_mds_reply : MdsReplyValue
odd_mds_reply = record { slot = Unknown; answer = odd_results }

abbrev pub compound_reply : MdsAsk → Result (Value compound4_res) XdrError → MdsReplyValue
compound_reply kind (Ok (status, (tag, results))) = record { slot = slot_told kind results; answer = compound_answer kind status results }
compound_reply kind (Err e) = odd_mds_reply

-- results stand behind SUCCESS alone
abbrev pub reply_of_ask : MdsAsk → RpcReply → MdsReplyValue
reply_of_ask kind reply =
    if is_success reply.stat then compound_reply kind (whole reply.results (reading compound4_res reply.results 0)) else odd_mds_reply
