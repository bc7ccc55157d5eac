-- The mirrors that were live when a period began, in every bound run of the cluster's machine: they are those of its holding, and belong to its
-- uid until it ends (RFC 8435, section 2.2).
use Rattle.std.specs.Prelude.{◌≡◌, ℕ, List, ◌∷◌, ◌++◌, Some, slice_get}
use Rattle.cluster_model.specs.declared.ids.NodeId.{NodeId}
use Rattle.cluster_model.specs.declared.ids.FileId.{FileId}
use Rattle.cluster_model.specs.declared.ids.MirrorId.{MirrorId}
use Rattle.cluster_model.specs.declared.entry.Entry.{Entry}
use Rattle.cluster_model.specs.declared.entry.Entry.TheVariants.{Granted}
use Rattle.cluster_laws.specs.Machine.{Holding, Machine, Move, new_machine, machine_after, journal_of}
use Rattle.cluster_laws.specs.FenceLaw.{live_in, new_servers}
use Rattle.cluster_laws.specs.Holders.{AreBound}
use Rattle.holder_parts.specs.HeldOwners.{DoHoldersOwn}

-- a holding of the file under this uid has these mirrors
pub record HasHolding (m : Machine) (file : FileId) (uid : ℕ) (mirrors : List MirrorId) : Type 0 where
  pub place : ℕ
  pub held : Holding
  pub there : slice_get m.holdings place ≡ Some held
  pub its_file : held.file ≡ file
  pub its_uid : held.uid ≡ uid
  pub its_mirrors : held.mirrors ≡ mirrors

-- each grant is held, with the mirrors that were live
abbrev pub AreGrantsHeld : Machine → List Entry → Type 0
AreGrantsHeld m journal =
    (before behind : List Entry) (file : FileId) (uid : ℕ) (holder : NodeId) (mirrors : List MirrorId) → journal ≡ before ++ Granted file (record { 0 = uid }) holder ∷ behind → live_in before file ≡ Some mirrors
    → HasHolding m file uid mirrors

abbrev pub EachGrantIsHeld : List ℕ → List Move → Type 0
EachGrantIsHeld boots moves = AreBound boots moves → AreGrantsHeld (machine_after (new_machine (new_servers 1 boots)) moves) (journal_of (new_machine (new_servers 1 boots)) moves)

-- the mirrors of a period belong to its uid until it ends
abbrev pub EachHolderOwns : List ℕ → List Move → Type 0
EachHolderOwns boots moves = AreBound boots moves → DoHoldersOwn (journal_of (new_machine (new_servers 1 boots)) moves)
