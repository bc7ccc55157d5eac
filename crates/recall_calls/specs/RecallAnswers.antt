-- The status that the reply to a recall says (RFC 8881, sections 20.2 and 20.3; RFC 5531, section 9).
use Rattle.std.specs.Prelude.{ℕ, Bool, false, ◌&&◌, ◌||◌, ◌==◌, List, [], ◌∷◌, Result, Ok, Err, if◌then◌else◌, ◌⊎◌}
use Rattle.std.proofs.Common.{inl, inr}
use Rattle.ff_xdr.specs.declared.error.XdrError.{XdrError}
use Rattle.ff_xdr.specs.Form.{Value}
use Rattle.ff_xdr.specs.Reading.{reading, whole}
use Rattle.rpc_record.specs.Replies.{ReplyStat, is_success}
use Rattle.nfs4_compound.specs.CbResults.{cb_resop4}
use Rattle.nfs4_compound.specs.Compounds.{cb_compound4_res}
use Rattle.client_compounds.specs.MdsResults.{in_arm, is_done_result}

-- a reply that no client gives by the standard counts as SERVERFAULT (section 15.1.1.9), which settles no recall
abbrev pub odd_recall : ℕ
odd_recall = 10006

-- NFS4_OK 0, or the status of what was not done
abbrev pub result_status : {A : Type 0} → A ⊎ ℕ → ℕ
result_status (inl done) = 0
result_status (inr status) = status

-- CB_SEQUENCE, and it is OK
abbrev pub is_begun : Value cb_resop4 → Bool
is_begun = in_arm 11 cb_resop4 is_done_result false

-- CB_LAYOUTRECALL, and it came to this status
abbrev pub recall_came_to : ℕ → Value cb_resop4 → Bool
recall_came_to status = in_arm 5 cb_resop4 (λ r. status == result_status r) false

-- the results of both operations in their order, of the second this status, and no others
abbrev pub bears_out : ℕ → List (Value cb_resop4) → Bool
bears_out status (sequence ∷ recall ∷ []) = is_begun sequence && recall_came_to status recall
bears_out status results = false

-- OK 0: the layout will be returned; NOMATCHING_LAYOUT 10060: the client has none (section 20.3)
abbrev pub settles : ℕ → Bool
settles status = status == 0 || status == 10060

-- the compound's status; one that settles a recall counts only where the results bear it out
abbrev pub compound_status : ℕ → List (Value cb_resop4) → ℕ
compound_status status results = if settles status then (if bears_out status results then status else odd_recall) else status

abbrev pub read_status : Result (Value cb_compound4_res) XdrError → ℕ
read_status (Ok (status, (tag, results))) = compound_status status results
read_status (Err e) = odd_recall

-- results stand behind SUCCESS alone
abbrev pub recall_status : ReplyStat → List ℕ → ℕ
recall_status stat results = if is_success stat then read_status (whole results (reading cb_compound4_res results 0)) else odd_recall
