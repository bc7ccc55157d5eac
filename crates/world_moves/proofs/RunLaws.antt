-- What holds of a run's journal holds of a journal that tells the same.
use Rattle.std.proofs.Common.{◌≡◌, ℕ, List, Some, sym, ap, subst, ◌∙◌}
use Rattle.cluster_model.specs.declared.entry.Entry.{Entry}
use Rattle.cluster_model.specs.declared.ids.MirrorId.{MirrorId}
use Rattle.cluster_model.specs.Journal.{content_of}
use Rattle.cluster_model.specs.Server.{ServerState, mirror_of}
use Rattle.cluster_model.specs.GuardLaws.{IsTold}
use Rattle.cluster_laws.specs.Machine.{Move, new_machine, numbered_at, machine_after, journal_of}
use Rattle.cluster_laws.specs.FenceLaw.{new_servers, FenceLaw, ObeysFences}
use Rattle.cluster_laws.specs.Periods.{ArePeriodsFenced, DoOwnersStay, EachPeriodIsFenced, OwnersStay, TellsTheTruth}
use Rattle.cluster_laws.specs.Telling.{telling, SaysTheSame, MakesTelling}

module _ (same : (journal : List Entry) → SaysTheSame journal) (runs : (boots : List ℕ) (moves : List Move) → MakesTelling boots moves) (boots : List ℕ) (moves : List Move) (journal : List Entry)
    (tells : telling journal ≡ telling (journal_of (new_machine (new_servers 1 boots)) moves)) where
  -- what it tells is the run's journal
  is_run : telling journal ≡ journal_of (new_machine (new_servers 1 boots)) moves
  is_run = tells ∙ runs boots moves

  pub fences_of : FenceLaw boots moves → ObeysFences journal
  fences_of law = (same journal).fences.0 (subst ObeysFences (sym is_run) law)

  pub periods_of : EachPeriodIsFenced boots moves → ArePeriodsFenced journal
  periods_of law = (same journal).periods.0 (subst ArePeriodsFenced (sym is_run) law)

  pub owners_of : OwnersStay boots moves → DoOwnersStay journal
  owners_of law = (same journal).owners.0 (subst DoOwnersStay (sym is_run) law)

  said : (m : MirrorId) → content_of (journal_of (new_machine (new_servers 1 boots)) moves) m ≡ content_of journal m
  said m = ap (λ (l : List Entry). content_of l m) (sym is_run) ∙ (same journal).content m

  pub truth_of : TellsTheTruth boots moves → (n : ℕ) (s : ServerState) → numbered_at (machine_after (new_machine (new_servers 1 boots)) moves).servers n ≡ Some s → (s.number ≡ n) × IsTold s journal
  truth_of law n s at =
      let told : IsTold s (journal_of (new_machine (new_servers 1 boots)) moves) = (law n s at).1 in
      ((law n s at).0, record { each = λ index file there. told.each index file there ∙ said (mirror_of s index); none = λ index past. sym (said (mirror_of s index)) ∙ told.none index past })
