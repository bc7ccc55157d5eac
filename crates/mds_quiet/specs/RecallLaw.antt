-- What a tick leaves of recalls, whatever the metadata server has then.
use Rattle.std.specs.Prelude.{◌≡◌, ◌≢◌, ℕ, false}
use Rattle.cluster_model.specs.Members.{IsOneOf}
use Rattle.recall.specs.declared.recall.Recall.{Recall}
use Rattle.recall.specs.declared.recall.RecallStage.TheVariants.{Later}
use Rattle.recall.specs.Recalls.{has_expired}
use Rattle.mds_rule.specs.MdsStates.{MdsValue}
use Rattle.mds_rule.specs.Events.{takes_tick}

-- Behind a tick no recall is left that was asked more than 90 s before, and none waits for the next tick to be asked again.
abbrev pub TickEndsRecalls : ℕ → MdsValue → Type 0
TickEndsRecalls now m = (r : Recall) → IsOneOf r (takes_tick now m).mds.recalls → (has_expired now r ≡ false) × (r.stage ≢ Later)
