-- What is known of each file of a run of the machine: its live list is what the journal tells, and one that is free or held has no calls
-- under way.
use Rattle.std.proofs.Common.{◌≡◌, ℕ, true, false, List, Some, refl, sym, ap, ◌∙◌}
use Rattle.cluster_model.specs.declared.entry.Entry.{Entry}
use Rattle.cluster_model.specs.declared.layout_state.LayoutState.{LayoutState}
use Rattle.cluster_model.specs.Mirrors.{are_on_different_servers}
use Rattle.cluster_model.specs.Phases.{ids_of}
use Rattle.file_rule.specs.MdsFiles.{Activity, Idle, Makes, Fences, Settles, Copies, MdsFile}
use Rattle.cluster_laws.specs.Machine.{Move, new_machine, numbered_at, file_id, machine_after, journal_of}
use Rattle.cluster_laws.specs.FenceLaw.{live_in, new_servers}
use Rattle.cluster_laws.specs.Telling.{MakesTelling}
use Rattle.cluster_laws.proofs.Invariant.{Drawn, Net, is_idle, IsBusyWith, live_of, Holds}

pub record FileStands (journal : List Entry) (n : ℕ) (f : MdsFile) : Type 0 where
  pub live : live_in journal (file_id n) ≡ live_of f.layout.phase (ids_of f.layout.live)
  pub apart : are_on_different_servers f.layout.live ≡ true
  pub idle : is_idle f.layout.phase ≡ true → f.activity ≡ Idle

-- the laws of each run
abbrev pub RunsStand : Type 0
RunsStand =
    (boots : List ℕ) (moves : List Move) (n : ℕ) (f : MdsFile) → numbered_at (machine_after (new_machine (new_servers 1 boots)) moves).files n ≡ Some f → FileStands (journal_of (new_machine (new_servers 1 boots)) moves) n f

abbrev pub TellsAll : Type 0
TellsAll = (boots : List ℕ) (moves : List Move) → MakesTelling boots moves

apart : false ≡ true → ⊥
apart is = absurd cc

idle_where : (net : Net) (journal : List Entry) (n : ℕ) (s : LayoutState) (a : Activity) → IsBusyWith net journal n s a → is_idle s.phase ≡ true → a ≡ Idle
idle_where net journal n s Idle busy is = refl
idle_where net journal n s (Makes all) busy is = absurd (apart (sym (ap is_idle busy.phase) ∙ is))
idle_where net journal n s (Fences fence) busy is = absurd (apart (sym (ap is_idle busy.phase) ∙ is))
idle_where net journal n s (Settles stage) busy is = absurd (apart (sym (ap is_idle busy.phase) ∙ is))
idle_where net journal n s (Copies c) busy is = absurd (apart (sym (ap is_idle busy.phase) ∙ is))

pub runs_stand : ((boots : List ℕ) (moves : List Move) → (d : Drawn) × Holds (machine_after (new_machine (new_servers 1 boots)) moves) (journal_of (new_machine (new_servers 1 boots)) moves) d) → RunsStand
runs_stand whole boots moves n f there =
    let w = whole boots moves in
    let i = w.1.files n f there in
    record { live = i.live; apart = i.apart; idle = idle_where _ (journal_of (new_machine (new_servers 1 boots)) moves) n f.layout f.activity i.busy }
