-- Periods of layouts, in every run of a metadata server to which clients of this cluster call (RFC 8881, section 12.5.5; RFC 8435,
-- section 2.2).
use Rattle.std.specs.Prelude.{◌≡◌, ℕ, ◌⊎◌, Bool, List, ◌++◌, Some}
use Rattle.cluster_model.specs.declared.ids.NodeId.TheVariants.{Client}
use Rattle.cluster_model.specs.declared.ids.FileId.{FileId}
use Rattle.cluster_model.specs.declared.layout_state.LayoutPhase.TheVariants.{Held}
use Rattle.cluster_model.specs.declared.phase.EndCause.{EndCause}
use Rattle.cluster_model.specs.declared.entry.Entry.{Entry}
use Rattle.cluster_model.specs.declared.entry.Entry.TheVariants.{Ended}
use Rattle.cluster_model.specs.Members.{IsOneOf}
use Rattle.device_addr.specs.Universal.{AddressValue}
use Rattle.mds_rule.specs.MdsStates.{ServedFile, MdsValue, served, new_mds}
use Rattle.mds_walk.specs.MdsRuns.{MdsEvent, run_from}
use Rattle.mds_replies.specs.ClientCalls.{AreCalls, server_after}

-- ---- a period

-- a client, by its id, has the file's layout under this uid
pub record HasPeriod (m : MdsValue) (file : FileId) (client uid : ℕ) : Type 0 where
  pub file_is : ServedFile
  pub there : served m file ≡ Some file_is
  pub holder : file_is.holder ≡ Some client
  pub node : ℕ
  pub is_recalled : Bool
  pub phase : file_is.file.layout.phase ≡ Held (Client node) is_recalled
  pub its_uid : file_is.file.layout.cred.0 ≡ uid

-- the event enters that a period ended
pub record EntersEnd (entries : List Entry) (file : FileId) (uid : ℕ) : Type 0 where
  pub cause : EndCause
  pub there : IsOneOf (Ended file (record { 0 = uid }) cause) entries

-- ---- periods go on until they are entered as ended, and who has one is known

abbrev pub PeriodsGoOn : Type 0
PeriodsGoOn =
    (servers : List AddressValue) (mirrors : ℕ) (before more : List MdsEvent) (file : FileId) (client uid : ℕ) → AreCalls (before ++ more) → HasPeriod (server_after servers mirrors before) file client uid
    → HasPeriod (server_after servers mirrors (before ++ more)) file client uid ⊎ EntersEnd (run_from (server_after servers mirrors before) more).entries file uid

-- and behind that it is not had again, by whomever
abbrev pub PeriodsEnd : Type 0
PeriodsEnd =
    (servers : List AddressValue) (mirrors : ℕ) (before more : List MdsEvent) (file : FileId) (uid : ℕ) → AreCalls (before ++ more) → EntersEnd (run_from (new_mds servers mirrors) before).entries file uid
    → (other : FileId) (client : ℕ) → HasPeriod (server_after servers mirrors (before ++ more)) other client uid → ⊥

-- one file and one client have it
abbrev pub PeriodsAreOwn : Type 0
PeriodsAreOwn =
    (servers : List AddressValue) (mirrors : ℕ) (before more : List MdsEvent) (file other : FileId) (client stranger uid : ℕ) → AreCalls (before ++ more) → HasPeriod (server_after servers mirrors before) file client uid
    → HasPeriod (server_after servers mirrors (before ++ more)) other stranger uid → (file ≡ other) × (client ≡ stranger)
