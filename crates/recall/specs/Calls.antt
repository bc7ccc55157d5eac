-- What the calls of a table of recalls do.
use Rattle.std.specs.Prelude.{◌≡◌, ℕ, true, false, List, Option, Some, None, Result, Ok, Err}
use Rattle.cluster_model.specs.declared.ids.FileId.{FileId}
use Rattle.cluster_model.specs.declared.ids.Cred.{Cred}
use Rattle.recall.specs.declared.recall.Recall.{Recall}
use Rattle.recall.specs.declared.recall.RecallCall.{RecallCall}
use Rattle.recall.specs.declared.recall.AskFault.{AskFault}
use Rattle.recall.specs.declared.recall.AskFault.TheVariants.{Asked, NoMemory}
use Rattle.recall.specs.Recalls.{is_under_way, with_recall, new_recall, RecallSends, next_sent}

-- a recall begins, unless one of this grant is under way
abbrev pub AsksFor : List Recall → FileId → Cred → ℕ → ℕ → Result (Unit {0}) AskFault → List Recall → Type 0
AsksFor old file cred client now (Ok done) new = (is_under_way file cred old ≡ false) × (new ≡ with_recall (new_recall file cred client now) old)
AsksFor old file cred client now (Err Asked) new = (is_under_way file cred old ≡ true) × (new ≡ old)
AsksFor old file cred client now (Err (NoMemory e)) new = new ≡ old

-- the callback that goes out under a number, and the recalls then
abbrev pub SendsRecall : List Recall → ℕ → Option RecallCall → List Recall → Type 0
SendsRecall old xid None new = (next_sent old xid ≡ None) × (new ≡ old)
SendsRecall old xid (Some call) new = next_sent old xid ≡ Some (record { recalls = new; call = call })

-- the file of the callback that would go out
abbrev pub WaitsFor : List Recall → ℕ → Option FileId → Type 0
WaitsFor recalls xid None = next_sent recalls xid ≡ None
WaitsFor recalls xid (Some file) = (sent : RecallSends) × (next_sent recalls xid ≡ Some sent) × (sent.call.file ≡ file)
