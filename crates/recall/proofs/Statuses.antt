-- The statuses that an answer has: the two that end a callback, and all others.
use Rattle.std.proofs.Common.{◌≡◌, ℕ, false, List, Option, Some, refl}
use Rattle.std.specs.Prelude.{slice_set}
use Rattle.cluster_model.specs.declared.ids.FileId.{FileId}
use Rattle.cluster_model.specs.declared.ids.Cred.{Cred}
use Rattle.nfs4_types.specs.declared.status.Stat4.{Stat4}
use Rattle.nfs4_types.specs.declared.status.Stat4.TheVariants as stat
use Rattle.recall.specs.declared.recall.Recall.{Recall}
use Rattle.recall.specs.declared.recall.RecallStage.TheVariants.{Later}
use Rattle.recall.specs.declared.recall.Outcome.TheVariants as outcome
use Rattle.recall.specs.Recalls.{at_stage, answered}
use Rattle.recall.specs.RecallLaws.{OutRecall, answers_none, reply_outcome}

pub record IsElse (status : Stat4) : Type 0 where
  pub answers : (recalls : List Recall) (place : ℕ) (r : Recall) → answered recalls place r status ≡ record { recalls = slice_set recalls place (at_stage Later r); outcome = outcome.Waiting }
  pub outcome_is : (o : OutRecall) → reply_outcome status (Some o) ≡ outcome.Waiting
  pub not_none : (file : FileId) (cred : Cred) (o : Option OutRecall) → answers_none file cred status o ≡ false

pub data StatusKind (status : Stat4) : Type 0 where
  Agrees : status ≡ stat.Ok → StatusKind status
  HasNone : status ≡ stat.NoMatchingLayout → StatusKind status
  Else : IsElse status → StatusKind status

pub kind_of : (status : Stat4) → StatusKind status
kind_of stat.Ok = Agrees refl
kind_of stat.NoMatchingLayout = HasNone refl
kind_of status = Else (record { answers = λ recalls place r. refl; outcome_is = λ o. refl; not_none = λ file cred o. refl })
