-- Whose the writes are that data servers apply, by the journal of a run (RFC 8435, section 2.2; RFC 1813, section 3.3.7).
use Rattle.std.specs.Prelude.{◌≡◌, ℕ, ◌⊎◌, true, false, List, ◌∷◌, ◌++◌}
use Rattle.cluster_model.specs.declared.ids.Cred.{Cred}
use Rattle.cluster_model.specs.declared.ids.MirrorId.{MirrorId}
use Rattle.cluster_model.specs.declared.entry.Entry.{Entry}
use Rattle.cluster_model.specs.declared.entry.Entry.TheVariants.{Applied}
use Rattle.cluster_model.specs.Content.{Pending}
use Rattle.cluster_model.specs.Journal.{content_of}
use Rattle.cluster_laws.specs.Machine.{Move, new_machine, journal_of}
use Rattle.cluster_laws.specs.FenceLaw.{new_servers}
use Rattle.cluster_laws.specs.Periods.{was_granted}
use Rattle.cluster_laws.specs.Agreement.{sent_of, rogue_of}
use Rattle.cluster_laws.specs.Holders.{IsIn, the_write, AreBound}

-- a write of a user that was granted a file: one that was taken, or that strayed
pub record IsUsersWrite (before : List Entry) (uid : ℕ) (w : Pending) : Type 0 where
  pub noted : IsIn w (sent_of uid before) ⊎ IsIn w (rogue_of uid before)
  pub granted : was_granted before uid ≡ true

-- A write is applied under the uid that its mirror belongs to: a user's write, or one under a uid that nobody is ever granted.
pub record IsAppliedByOwner (journal before : List Entry) (m : MirrorId) (cred : Cred) (w : Pending) : Type 0 where
  pub owner : cred.0 ≡ (content_of before m).owner
  pub whose : IsUsersWrite before cred.0 w ⊎ (was_granted journal cred.0 ≡ false)

abbrev pub AppliesByOwners : List Entry → Type 0
AppliesByOwners journal =
    (before behind : List Entry) (m : MirrorId) (cred : Cred) (at : ℕ) (bytes : List ℕ) → journal ≡ before ++ Applied m cred at bytes ∷ behind
    → IsAppliedByOwner journal before m cred (the_write at bytes)

-- of each run in which all holders are bound
abbrev pub OfBoundRuns : (List Entry → Type 0) → List ℕ → List Move → Type 0
OfBoundRuns Law boots moves = AreBound boots moves → Law (journal_of (new_machine (new_servers 1 boots)) moves)
