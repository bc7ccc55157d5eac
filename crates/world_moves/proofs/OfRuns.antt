-- What holds of a run's journal holds of its world's.
use Rattle.std.proofs.Common.{◌≡◌, ℕ, List, Some, sym, ap, subst, ◌∙◌}
use Rattle.cluster_model.specs.declared.entry.Entry.{Entry}
use Rattle.cluster_model.specs.Server.{ServerState}
use Rattle.cluster_laws.specs.Machine.{Machine, Move, numbered_at}
use Rattle.cluster_laws.specs.FenceLaw.{FenceLaw, ObeysFences}
use Rattle.cluster_laws.specs.Periods.{ArePeriodsFenced, DoOwnersStay, EachPeriodIsFenced, OwnersStay, TellsTheTruth}
use Rattle.cluster_laws.specs.Telling.{SaysTheSame, MakesTelling}
use Rattle.world_rule.specs.ClusterWorlds.{ClusterState}
use Rattle.world_moves.specs.WorldMoves.{IsRunOf, TellsTruth}
use Rattle.world_moves.proofs.RunLaws.{fences_of, periods_of, owners_of, truth_of}

module _ (same : (journal : List Entry) → SaysTheSame journal) (runs : (boots : List ℕ) (moves : List Move) → MakesTelling boots moves) (boots : List ℕ) (w : ClusterState) (i : IsRunOf boots w) where
  pub fences : ((boots : List ℕ) (moves : List Move) → FenceLaw boots moves) → ObeysFences w.journal
  fences law = fences_of same runs boots i.moves w.journal i.told (law boots i.moves)

  pub periods : ((boots : List ℕ) (moves : List Move) → EachPeriodIsFenced boots moves) → ArePeriodsFenced w.journal
  periods law = periods_of same runs boots i.moves w.journal i.told (law boots i.moves)

  pub owners : ((boots : List ℕ) (moves : List Move) → OwnersStay boots moves) → DoOwnersStay w.journal
  owners law = owners_of same runs boots i.moves w.journal i.told (law boots i.moves)

  pub truth : ((boots : List ℕ) (moves : List Move) → TellsTheTruth boots moves) → TellsTruth w
  truth law n s at =
      truth_of same runs boots i.moves w.journal i.told (law boots i.moves) n s
      (subst (λ (l : List ServerState). numbered_at l n ≡ Some s) (i.servers ∙ ap (λ (m : Machine). m.servers) (sym i.reached)) at)
