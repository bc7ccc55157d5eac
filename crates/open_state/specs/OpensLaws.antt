-- What holds of opens in every run of them, told by what was asked and answered (RFC 8881, sections 8.2, 18.2 and 18.16).
use Rattle.std.specs.Prelude.{◌≡◌, ℕ, ◌≤◌, ◌<◌, ◌^◌, Bool, true, false, ◌==◌, ◌&&◌, ◌||◌, List, [], ◌∷◌, length, Option, Some, None, Ok, Err, if◌then◌else◌}
use Rattle.cluster_model.specs.declared.ids.FileId.{FileId}
use Rattle.open_state.specs.declared.open.TheConstants.{MAX_OPENS}
use Rattle.open_state.specs.declared.open.Open.{Open}
use Rattle.open_state.specs.declared.open.OpenFault.{OpenFault}
use Rattle.open_state.specs.Opens.{OpensValue, opens_of, open_of, is_of, Opens, ClosesOpen, ended}

-- what came to pass, as it is seen outside
pub data OpenNote : Type 0 where
  WasOpened : (client : ℕ) (o : Open) → OpenNote
  WasClosed : (client : ℕ) (o : Open) → OpenNote
  HasEnded : (client : ℕ) → OpenNote

-- a run, with its notes, the latest first
pub data IsRun : OpensValue → List OpenNote → Type 0 where
  Begins : IsRun (record { clients = []; last = 0 }) []
  HasOpened : (old new : OpensValue) (notes : List OpenNote) (client : ℕ) (file : FileId) (o : Open) → IsRun old notes → Opens old client file (Ok o) new → IsRun new (WasOpened client o ∷ notes)
  WasRefused : (old new : OpensValue) (notes : List OpenNote) (client : ℕ) (file : FileId) (fault : OpenFault) → IsRun old notes → Opens old client file (Err fault) new → IsRun new notes
  HasClosed : (old new : OpensValue) (notes : List OpenNote) (client : ℕ) (file : FileId) (o : Open) → IsRun old notes → ClosesOpen old client file (Some o) new → IsRun new (WasClosed client o ∷ notes)
  HadNone : (old new : OpensValue) (notes : List OpenNote) (client : ℕ) (file : FileId) → IsRun old notes → ClosesOpen old client file None new → IsRun new notes
  Ended : (old new : OpensValue) (notes : List OpenNote) (client : ℕ) → IsRun old notes → new ≡ ended old client → IsRun new (HasEnded client ∷ notes)

-- what the latest note of a client and a file leaves open
abbrev pub standing : ℕ → FileId → List OpenNote → Option Open
standing client file [] = None
standing client file (WasOpened c o ∷ notes) = if (c == client) && is_of file o then Some o else standing client file notes
standing client file (WasClosed c o ∷ notes) = if (c == client) && is_of file o then None else standing client file notes
standing client file (HasEnded c ∷ notes) = if c == client then None else standing client file notes

-- a stateid of this number was given to this client for this file
abbrev pub was_given : ℕ → FileId → ℕ → List OpenNote → Bool
was_given client file number [] = false
was_given client file number (WasOpened c o ∷ notes) = ((c == client) && (is_of file o && (o.number == number))) || was_given client file number notes
was_given client file number (WasClosed c o ∷ notes) = was_given client file number notes
was_given client file number (HasEnded c ∷ notes) = was_given client file number notes

-- the open that stands has this number
abbrev pub stands_as : ℕ → Option Open → Bool
stands_as number None = false
stands_as number (Some o) = o.number == number

pub record OpensLaw : Type 0 where
  -- a file is open for a client just where it was opened, and neither closed since nor ended with its client
  pub stands : (s : OpensValue) (notes : List OpenNote) (client : ℕ) (file : FileId) → IsRun s notes → open_of s client file ≡ standing client file notes
  pub few : (s : OpensValue) (notes : List OpenNote) (client : ℕ) → IsRun s notes → length (opens_of s client) ≤ MAX_OPENS
  -- a number is given for one client and one file alone
  pub apart : (s : OpensValue) (notes : List OpenNote) (client other : ℕ) (file another : FileId) (number : ℕ) → IsRun s notes
      → was_given client file number notes ≡ true → was_given other another number notes ≡ true → (client ≡ other) × (file ≡ another)
  -- and what was closed, or ended with its client, is not given again
  pub once : (s : OpensValue) (notes : List OpenNote) (client : ℕ) (o : Open) → IsRun s (WasOpened client o ∷ notes)
      → was_given client o.file o.number notes ≡ true → stands_as o.number (standing client o.file notes) ≡ true
  -- numbers and seqids have four bytes and are not 0, so that no open's stateid is a layout's or a special one (section 8.2.3)
  pub proper : (s : OpensValue) (notes : List OpenNote) (client : ℕ) (o : Open) → IsRun s (WasOpened client o ∷ notes)
      → (1 ≤ o.number) × (o.number < 2 ^ 32) × (1 ≤ o.seqid) × (o.seqid < 2 ^ 32)
