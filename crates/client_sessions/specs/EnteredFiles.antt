-- The file of what a client enters: the one for which its layout was granted (RFC 8435, section 2.2).
use Rattle.std.specs.Prelude.{◌≡◌, ℕ, List}
use Rattle.cluster_model.specs.declared.ids.FileId.{FileId}
use Rattle.cluster_model.specs.declared.entry.Entry.{Entry}
use Rattle.cluster_model.specs.declared.entry.Entry.TheVariants.{Sent, Rogue, Told}
use Rattle.client_file_calls.specs.declared.grant.LayoutGrant.{LayoutGrant}
use Rattle.client_laws.specs.ClientHistory.{HistoryItem}
use Rattle.client_laws.specs.ClientHistory as client
use Rattle.client_laws.specs.ClientRunLaws.{WasGranted}

-- a layout was granted for this file under this uid
pub record HasGrantFor (past : List HistoryItem) (file : FileId) (uid : ℕ) : Type 0 where
  pub grant : LayoutGrant
  pub granted : WasGranted past grant
  pub its_uid : grant.uid.0 ≡ uid
  pub its_file : granted.file.file ≡ file

abbrev pub EntersFor : List HistoryItem → Entry → Type 0
EntersFor past (Sent file uid at bytes) = HasGrantFor past file uid.0
EntersFor past (Rogue file uid at bytes) = HasGrantFor past file uid.0
EntersFor past (Told file uid at bytes) = HasGrantFor past file uid.0
EntersFor past entry = Unit {0}

-- a write is taken, strays and is told for the file of its layout (RFC 8435, section 2.2)
abbrev pub EntersForFile : List HistoryItem → HistoryItem → Type 0
EntersForFile past (client.Enters entry) = EntersFor past entry
EntersForFile past item = Unit {0}
