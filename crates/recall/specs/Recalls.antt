-- Recalls of layouts that are under way, in order of file and grant (RFC 8881, sections 12.5.5.1 and 20.3).
use Rattle.std.specs.Prelude.{ℕ, ◌+◌, Bool, true, false, not, ◌==◌, ◌&&◌, ◌||◌, List, [], ◌∷◌, filter, find, map, Option, Some, None, position, nat_lt, if◌then◌else◌, slice_get, slice_set}
use Rattle.std.specs.List.{list_any}
use Rattle.cluster_model.specs.declared.limits.TheConstants.{MAX_TIMEOUTS}
use Rattle.cluster_model.specs.declared.ids.FileId.{FileId}
use Rattle.cluster_model.specs.declared.ids.Cred.{Cred}
use Rattle.nfs4_types.specs.declared.status.Stat4.{Stat4}
use Rattle.nfs4_types.specs.declared.status.Stat4.TheVariants as stat
use Rattle.recall.specs.declared.recall.TheConstants.{RECALL_TIME}
use Rattle.recall.specs.declared.recall.Recall.{Recall}
use Rattle.recall.specs.declared.recall.RecallStage.{RecallStage}
use Rattle.recall.specs.declared.recall.RecallStage.TheVariants.{Waits, Out, Later, Agreed}
use Rattle.recall.specs.declared.recall.RecallCall.{RecallCall}
use Rattle.recall.specs.declared.recall.Outcome.{Outcome}
use Rattle.recall.specs.declared.recall.Outcome.TheVariants as outcome

-- ---- one recall

abbrev pub is_of_file : FileId → Recall → Bool
is_of_file file r = r.file.0 == file.0

-- a grant is a file and the uid of its period
abbrev pub is_of : FileId → Cred → Recall → Bool
is_of file cred r = is_of_file file r && (r.cred.0 == cred.0)

abbrev pub is_before : Recall → Recall → Bool
is_before a b = nat_lt a.file.0 b.file.0 || ((a.file.0 == b.file.0) && nat_lt a.cred.0 b.cred.0)

abbrev pub at_stage : RecallStage → Recall → Recall
at_stage stage r = record { file = r.file; cred = r.cred; client = r.client; asked = r.asked; stage = stage }

abbrev pub waits : RecallStage → Bool
waits Waits = true
waits (Out xid timeouts) = false
waits Later = false
waits Agreed = false

abbrev pub is_out : RecallStage → Bool
is_out Waits = false
is_out (Out xid timeouts) = true
is_out Later = false
is_out Agreed = false

abbrev pub is_out_as : ℕ → RecallStage → Bool
is_out_as xid Waits = false
is_out_as xid (Out own timeouts) = own == xid
is_out_as xid Later = false
is_out_as xid Agreed = false

-- ---- asked

abbrev pub is_under_way : FileId → Cred → List Recall → Bool
is_under_way file cred recalls = list_any (is_of file cred) recalls

-- in front of the first that it comes before
abbrev pub with_recall : Recall → List Recall → List Recall
with_recall r [] = r ∷ []
with_recall r (x ∷ recalls) = if is_before r x then r ∷ (x ∷ recalls) else x ∷ with_recall r recalls

abbrev pub new_recall : FileId → Cred → ℕ → ℕ → Recall
new_recall file cred client now = record { file = file; cred = cred; client = client; asked = now; stage = Waits }

-- ---- the next callback

-- at most one is outstanding to a client
abbrev pub has_one_out : List Recall → ℕ → Bool
has_one_out recalls client = list_any (λ (r : Recall). (r.client == client) && is_out r.stage) recalls

abbrev pub may_go : List Recall → Recall → Bool
may_go recalls r = waits r.stage && not (has_one_out recalls r.client)

-- a callback that goes out, and the recalls then
pub record RecallSends : Type 0 where
  pub recalls : List Recall
  pub call : RecallCall

abbrev pub sent_at : List Recall → ℕ → ℕ → Option Recall → Option RecallSends
sent_at recalls xid place None = None
sent_at recalls xid place (Some r) = Some (record {
  recalls = slice_set recalls place (at_stage (Out xid 0) r);
  call = record { file = r.file; cred = r.cred; client = r.client; xid = xid };
})

abbrev pub sent_from : List Recall → ℕ → Option ℕ → Option RecallSends
sent_from recalls xid None = None
sent_from recalls xid (Some place) = sent_at recalls xid place (slice_get recalls place)

abbrev pub next_sent : List Recall → ℕ → Option RecallSends
next_sent recalls xid = sent_from recalls xid (position (may_go recalls) recalls)

-- ---- answers and timeouts

pub record RecallsAfter : Type 0 where
  pub recalls : List Recall
  pub outcome : Outcome

abbrev pub without : FileId → Cred → List Recall → List Recall
without file cred recalls = filter (λ r. not (is_of file cred r)) recalls

abbrev pub is_stranger : List Recall → RecallsAfter
is_stranger recalls = record { recalls = recalls; outcome = outcome.Stranger }

-- OK: the return is awaited. NOMATCHING_LAYOUT: it is over. Any other status: asked again at the next tick (section 20.3.3).
abbrev pub answered : List Recall → ℕ → Recall → Stat4 → RecallsAfter
answered recalls place r stat.Ok = record { recalls = slice_set recalls place (at_stage Agreed r); outcome = outcome.Agreed }
answered recalls place r stat.NoMatchingLayout = record { recalls = without r.file r.cred recalls; outcome = outcome.NoLayout r.file r.cred }
answered recalls place r status = record { recalls = slice_set recalls place (at_stage Later r); outcome = outcome.Waiting }

-- the third timeout of one callback ends the recall
abbrev pub late : List Recall → ℕ → Recall → RecallStage → RecallsAfter
late recalls place r (Out xid timeouts) =
    if nat_lt (timeouts + 1) MAX_TIMEOUTS
    then record { recalls = slice_set recalls place (at_stage (Out xid (timeouts + 1)) r); outcome = outcome.Waiting }
    else record { recalls = without r.file r.cred recalls; outcome = outcome.Expired r.file r.cred }
late recalls place r Waits = is_stranger recalls
late recalls place r Later = is_stranger recalls
late recalls place r Agreed = is_stranger recalls

abbrev pub out_at : List Recall → ℕ → Option ℕ
out_at recalls xid = position (λ (r : Recall). is_out_as xid r.stage) recalls

abbrev pub step_at : List Recall → (ℕ → Recall → RecallsAfter) → ℕ → Option Recall → RecallsAfter
step_at recalls step place None = is_stranger recalls
step_at recalls step place (Some r) = step place r

abbrev pub step_from : List Recall → (ℕ → Recall → RecallsAfter) → Option ℕ → RecallsAfter
step_from recalls step None = is_stranger recalls
step_from recalls step (Some place) = step_at recalls step place (slice_get recalls place)

abbrev pub after_reply : List Recall → ℕ → Stat4 → RecallsAfter
after_reply recalls xid status = step_from recalls (λ place r. answered recalls place r status) (out_at recalls xid)

abbrev pub after_timeout : List Recall → ℕ → RecallsAfter
after_timeout recalls xid = step_from recalls (λ place r. late recalls place r r.stage) (out_at recalls xid)

-- ---- time

-- it was asked more than 90 s ago
abbrev pub has_expired : ℕ → Recall → Bool
has_expired now r = nat_lt (r.asked + RECALL_TIME) now

-- what waited for the tick is to be sent
abbrev pub stage_at_tick : RecallStage → RecallStage
stage_at_tick Waits = Waits
stage_at_tick (Out xid timeouts) = Out xid timeouts
stage_at_tick Later = Waits
stage_at_tick Agreed = Agreed

abbrev pub at_tick : Recall → Recall
at_tick r = at_stage (stage_at_tick r.stage) r

abbrev pub grant_of : Recall → FileId × Cred
grant_of r = (r.file, r.cred)

-- a tick ends the first that has expired, and tells which
abbrev pub without_found : Option Recall → List Recall → List Recall
without_found None recalls = recalls
without_found (Some r) recalls = without r.file r.cred recalls

abbrev pub told_found : Option Recall → Option (FileId × Cred)
told_found None = None
told_found (Some r) = Some (grant_of r)

pub record RecallsTick : Type 0 where
  pub recalls : List Recall
  pub expired : Option (FileId × Cred)

abbrev pub after_tick : List Recall → ℕ → RecallsTick
after_tick recalls now = record {
  recalls = map at_tick (without_found (find (has_expired now) recalls) recalls);
  expired = told_found (find (has_expired now) recalls);
}

-- ---- a file's periods have ended

abbrev pub without_file : FileId → List Recall → List Recall
without_file file recalls = filter (λ r. not (is_of_file file r)) recalls
