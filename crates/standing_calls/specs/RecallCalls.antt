-- The callback of each recall that is out stands among the calls that were sent and are not answered.
use Rattle.std.specs.Prelude.{◌≡◌, ◌≢◌, ◌⊎◌, ℕ, true, List, Some, slice_get}
use Rattle.cluster_model.specs.Members.{IsOneOf}
use Rattle.recall.specs.declared.recall.Recall.{Recall}
use Rattle.recall.specs.Recalls.{is_out_as}
use Rattle.mds_rule.specs.MdsStates.{MdsSend, AwaitedCall, MdsStep}
use Rattle.mds_rule.specs.declared.waiter.Waiter.TheVariants.{ForRecall}
use Rattle.mds_laws.specs.MdsRunLaws.{number_sent}

-- a call of this number is among those that were sent and are not answered, and a recall sent it
abbrev pub CallbackStands : List AwaitedCall → ℕ → Type 0
CallbackStands calls xid = (call : AwaitedCall) × IsOneOf call calls × (call.xid ≡ xid) × (call.caller ≡ ForRecall)

-- nothing was ever sent under this number: its client had no session, and the number was passed over
abbrev pub WasPassedOver : List MdsSend → ℕ → Type 0
WasPassedOver sends xid = (s : MdsSend) → IsOneOf s sends → number_sent s ≢ Some xid

abbrev pub RecallCallsStand : MdsStep → Type 0
RecallCallsStand s = (place xid : ℕ) (r : Recall) → slice_get s.mds.recalls place ≡ Some r → is_out_as xid r.stage ≡ true → CallbackStands s.mds.calls xid ⊎ WasPassedOver s.sends xid
