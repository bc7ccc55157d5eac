-- The periods of the metadata server's own, told by the entries of its runs alone (RFC 8881, section 18.32): each begins with its write, and
-- ends as it is told.
use Rattle.std.specs.Prelude.{◌≡◌, ℕ, ◌<◌, List, [], ◌∷◌, ◌++◌, length}
use Rattle.cluster_model.specs.declared.ids.NodeId.TheVariants.{Mds}
use Rattle.cluster_model.specs.declared.ids.FileId.{FileId}
use Rattle.cluster_model.specs.declared.ids.Cred.{Cred}
use Rattle.cluster_model.specs.declared.phase.EndCause.TheVariants.{Own}
use Rattle.cluster_model.specs.declared.entry.Entry.{Entry}
use Rattle.cluster_model.specs.declared.entry.Entry.TheVariants.{Granted, Sent, Told, Ended}
use Rattle.device_addr.specs.Universal.{AddressValue}
use Rattle.mds_walk.specs.MdsRuns.{MdsEvent, mds_run}

-- the first of these entries is of a write with bytes
pub record BeginsWithWrite (f : FileId) (cred : Cred) (entries : List Entry) : Type 0 where
  pub at : ℕ
  pub bytes : List ℕ
  pub behind : List Entry
  pub is : entries ≡ Sent f cred at bytes ∷ behind
  pub some : 0 < length bytes

-- the last of these is its grant
pub record FollowsGrant (f : FileId) (cred : Cred) (bytes : List ℕ) (entries : List Entry) : Type 0 where
  pub before : List Entry
  pub is : entries ≡ before ++ Granted f cred Mds ∷ []
  pub some : 0 < length bytes

-- the write is among these
pub record WasSentBefore (f : FileId) (cred : Cred) (at : ℕ) (bytes : List ℕ) (entries : List Entry) : Type 0 where
  pub before : List Entry
  pub behind : List Entry
  pub is : entries ≡ before ++ Sent f cred at bytes ∷ behind

-- the first of these is the period's end
pub record BeginsWithEnd (f : FileId) (cred : Cred) (entries : List Entry) : Type 0 where
  pub behind : List Entry
  pub is : entries ≡ Ended f cred Own ∷ behind

-- the last of these tells a write of it
pub record FollowsTold (f : FileId) (cred : Cred) (entries : List Entry) : Type 0 where
  pub at : ℕ
  pub bytes : List ℕ
  pub before : List Entry
  pub is : entries ≡ before ++ Told f cred at bytes ∷ []

-- Each grant to the metadata server is directly followed by its write, which has bytes, and there is no other; each write that is told was
-- sent before, and the period ends directly behind it, and so never else.
pub record OwnPeriods (entries : List Entry) : Type 0 where
  pub granted : (before after : List Entry) (f : FileId) (cred : Cred) → entries ≡ before ++ Granted f cred Mds ∷ after → BeginsWithWrite f cred after
  pub sent : (before after : List Entry) (f : FileId) (cred : Cred) (at : ℕ) (bytes : List ℕ) → entries ≡ before ++ Sent f cred at bytes ∷ after → FollowsGrant f cred bytes before
  pub told : (before after : List Entry) (f : FileId) (cred : Cred) (at : ℕ) (bytes : List ℕ) → entries ≡ before ++ Told f cred at bytes ∷ after → WasSentBefore f cred at bytes before × BeginsWithEnd f cred after
  pub ended : (before after : List Entry) (f : FileId) (cred : Cred) → entries ≡ before ++ Ended f cred Own ∷ after → FollowsTold f cred before

abbrev pub RunsOwnPeriods : List AddressValue → ℕ → List MdsEvent → Type 0
RunsOwnPeriods servers mirrors events = OwnPeriods (mds_run servers mirrors events).entries
