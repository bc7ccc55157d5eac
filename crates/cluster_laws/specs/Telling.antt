-- What a journal tells of files and mirrors, without what was sent and noted beside it.
use Rattle.std.specs.Prelude.{◌≡◌, ℕ, Bool, true, false, List, filter}
use Rattle.cluster_model.specs.declared.ids.FileId.{FileId}
use Rattle.cluster_model.specs.declared.ids.MirrorId.{MirrorId}
use Rattle.cluster_model.specs.declared.entry.Entry.{Entry}
use Rattle.cluster_model.specs.declared.entry.Entry.TheVariants.{Granted, Sent, Rogue, Told, Ended, Left, Swapped, Fenced, Free, Applied, Committed, Owner, Restarted}
use Rattle.cluster_model.specs.Journal.{content_of}
use Rattle.cluster_laws.specs.Machine.{Move, new_machine, journal_of}
use Rattle.cluster_laws.specs.FenceLaw.{live_in, new_servers, ObeysFences}
use Rattle.cluster_laws.specs.Agreement.{AgreesAlways}
use Rattle.cluster_laws.specs.Periods.{ArePeriodsFenced, DoOwnersStay}

-- an entry of a kind that a run of the machine makes: of periods, of live mirrors, of fences, or of the bytes and the owner of a mirror
abbrev pub is_telling : Entry → Bool
is_telling (Granted file cred holder) = true
is_telling (Sent file cred at bytes) = true
is_telling (Rogue file cred at bytes) = true
is_telling (Told file cred at bytes) = true
is_telling (Ended file cred cause) = true
is_telling (Left file mirror cause) = true
is_telling (Swapped file old new) = true
is_telling (Fenced file old new live) = true
is_telling (Free file live) = true
is_telling (Applied mirror cred at bytes) = true
is_telling (Committed mirror) = true
is_telling (Owner mirror cred) = true
is_telling (Restarted server pieces) = true
is_telling _ = false

-- a journal without packets, deliveries and notes
abbrev pub telling : List Entry → List Entry
telling journal = filter is_telling journal

-- a law holds of both or of neither
abbrev pub OfBoth : (List Entry → Type 0) → List Entry → List Entry → Type 0
OfBoth Law a b = (Law a → Law b) × (Law b → Law a)

-- It says the same of live mirrors, of bytes and of owners, and each law holds of it just where it holds of the whole journal.
pub record SaysTheSame (journal : List Entry) : Type 0 where
  pub live : (f : FileId) → live_in (telling journal) f ≡ live_in journal f
  pub content : (m : MirrorId) → content_of (telling journal) m ≡ content_of journal m
  pub fences : OfBoth ObeysFences (telling journal) journal
  pub periods : OfBoth ArePeriodsFenced (telling journal) journal
  pub owners : OfBoth DoOwnersStay (telling journal) journal
  pub agreement : (f : FileId) → OfBoth (λ j. AgreesAlways j f) (telling journal) journal

-- a run makes no entry of another kind
abbrev pub MakesTelling : List ℕ → List Move → Type 0
MakesTelling boots moves = telling (journal_of (new_machine (new_servers 1 boots)) moves) ≡ journal_of (new_machine (new_servers 1 boots)) moves
