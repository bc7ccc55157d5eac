-- Each grant of a world's journal is of a uid above 0, and the mirrors that are live then have numbers above the root's.
use Rattle.std.proofs.Common.{◌≡◌, ◌<◌, ℕ, List, [], ◌∷◌, ◌++◌, Some, refl, sym, ap, subst, ◌∙◌}
use Rattle.std.proofs.lemmas.List.Elements.{filter-append}
use Rattle.cluster_model.specs.declared.piece.Piece.{Piece}
use Rattle.cluster_model.specs.declared.ids.NodeId.{NodeId}
use Rattle.cluster_model.specs.declared.ids.FileId.{FileId}
use Rattle.cluster_model.specs.declared.ids.Cred.{Cred}
use Rattle.cluster_model.specs.declared.ids.MirrorId.{MirrorId}
use Rattle.cluster_model.specs.declared.entry.Entry.{Entry}
use Rattle.cluster_model.specs.declared.entry.Entry.TheVariants as entry
use Rattle.cluster_model.specs.Server.{ServerState, Caller, new_server, restart_of}
use Rattle.cluster_model.specs.DsCalls.{DsCallValue, ds_step}
use Rattle.cluster_model.specs.GuardLaws.{IsInOrder, IsTold, CallLaws, RestartLaws}
use Rattle.cluster_laws.specs.Machine.{Move, new_machine, journal_of}
use Rattle.cluster_laws.specs.FenceLaw.{live_in, new_servers}
use Rattle.cluster_laws.specs.Telling.{is_telling, telling, SaysTheSame, MakesTelling}
use Rattle.cluster_laws.proofs.Runs.{none_drawn, start_holds}
use Rattle.machine_walk.proofs.Stories.{AreEach, each_at}
use Rattle.world_rule.specs.ClusterWorlds.{ClusterState}
use Rattle.world_moves.specs.WorldMoves.{IsRunOf}
use Rattle.world_fences.proofs.GrantsOfRuns.{AreAboveRoot, IsPlacedGrant, run_placed}

-- each grant of a journal is of a uid above 0, and its mirrors have numbers above the root's
abbrev pub AreGrantsPlaced : List Entry → Type 0
AreGrantsPlaced journal =
    (before behind : List Entry) (file : FileId) (cred : Cred) (holder : NodeId) → journal ≡ before ++ entry.Granted file cred holder ∷ behind
    → (0 < cred.0) × ((live : List MirrorId) → live_in before file ≡ Some live → AreAboveRoot live)

-- the laws of data servers, and of what a journal tells
pub record LawsOfRuns : Type 0 where
  pub calls : (s : ServerState) (caller : Caller) (call : DsCallValue) → IsInOrder s → CallLaws s caller call (ds_step s caller call).server (ds_step s caller call).reply (ds_step s caller call).entries
  pub restarts : (s : ServerState) (pieces : List Piece) (new : ServerState) → restart_of s pieces ≡ Some new → IsInOrder s → RestartLaws s pieces new
  pub new : (number boot : ℕ) → IsInOrder (new_server number boot) × IsTold (new_server number boot) []
  pub same : (journal : List Entry) → SaysTheSame journal
  pub runs : (boots : List ℕ) (moves : List Move) → MakesTelling boots moves

pub grants_placed : LawsOfRuns → (boots : List ℕ) (w : ClusterState) → IsRunOf boots w → AreGrantsPlaced w.journal
grants_placed facts boots w run before behind file cred holder is = (here.0, λ live now. here.1 live ((facts.same before).live file ∙ now))
  where
    grant : Entry
    grant = entry.Granted file cred holder

    story : List Entry
    story = journal_of (new_machine (new_servers 1 boots)) run.moves

    split : story ≡ telling before ++ grant ∷ telling behind
    split = sym (facts.runs boots run.moves) ∙ (sym run.told ∙ (ap telling is ∙ filter-append is_telling before (grant ∷ behind)))

    all : AreEach IsPlacedGrant [] story
    all = run_placed facts.calls facts.restarts run.moves (new_machine (new_servers 1 boots)) [] none_drawn (start_holds facts.new boots)

    here : (0 < cred.0) × ((live : List MirrorId) → live_in (telling before) file ≡ Some live → AreAboveRoot live)
    here = each_at IsPlacedGrant [] (telling before) grant (telling behind) (subst (λ (l : List Entry). AreEach IsPlacedGrant [] l) split all) file cred holder refl
