-- Layouts of a life under one stateid are under one uid, which the stateid names (RFC 8881, section 12.5.2).
use Rattle.std.proofs.Common.{◌≡◌, ◌<◌, ℕ, ◌^◌, length, List, [], ◌∷◌, ◌++◌, sym, ap, subst, ◌∙◌}
use Rattle.nfs4_types.specs.Stateids.{three_words}
use Rattle.nfs4_types.specs.declared.stateid.Stateid.{Stateid}
use Rattle.world_rule.specs.ClusterWorlds.{ClusterState}
use Rattle.client_file_calls.specs.declared.grant.LayoutGrant.{LayoutGrant}
use Rattle.client_laws.specs.ClientHistory.{HistoryItem, client_history}
use Rattle.client_laws.specs.ClientRunLaws.{WasGranted}
use Rattle.node_histories.specs.ClientLives.{Life, start_of}
use Rattle.node_histories.specs.NodeHistories.{HasLife, IsToldByNodes}
use Rattle.world_moves.specs.WorldMoves.{IsRunOf}
use Rattle.world_journal.specs.Journal.{IsJournalInRange}
use Rattle.mds_replies.specs.AnsweredRequests.{StaysRoomy}
use Rattle.world_layouts.specs.WorldLayouts.{IsOneRequestEach, StartsAreFew, StateidsAreOnce}
use Rattle.world_layouts.proofs.GrantedUids.{LayoutLaws, GrantTook, grant_took, IsMoment, moment_of, items_of_life}
use Rattle.world_layouts.proofs.EndedReturns.{one_uid}

module _ (laws : LayoutLaws) (boots : List ℕ) (w : ClusterState) (run : IsRunOf boots w) (t : IsToldByNodes w) (few : length w.machines.clients < 2 ^ 32) (range : IsJournalInRange w.journal) (roomy : StaysRoomy t.mds.servers t.mds.mirrors t.mds.events)
    (starts : StartsAreFew t) (one : IsOneRequestEach t) where
  -- the stateid names the uid, which has four bytes
  record NamesUid (grant : LayoutGrant) : Type 0 where
    file : ℕ
    names : grant.stateid.other ≡ three_words file grant.uid.0 0
    small : grant.uid.0 < 2 ^ 32

  names_uid : (n : ℕ) (l : Life) → HasLife t.stories n l → (grant : LayoutGrant) (granted : WasGranted (client_history (start_of n l) l.inputs) grant) → NamesUid grant
  names_uid n l its grant granted =
      let past : List HistoryItem = client_history (start_of n l) l.inputs in
      let g : GrantTook laws boots w run t few range roomy starts one n l (client_history (start_of n l) l.inputs) grant granted =
      grant_took laws boots w run t few range roomy starts one n l its (client_history (start_of n l) l.inputs) [] (items_of_life laws boots w run t few range roomy starts one n l its) grant granted in
      let m : IsMoment laws boots w run t few range roomy starts one (g.early ++ g.f ∷ []) = moment_of laws boots w run t few range roomy starts one n l (client_history (start_of n l) l.inputs) grant granted g in
      record {
        file = granted.file.file.0;
        names = ap (λ (x : LayoutGrant). x.stateid.other) g.grants.is ∙ ap (λ (x : LayoutGrant). three_words granted.file.file.0 x.uid.0 0) (sym g.grants.is);
        small = subst (λ (x : ℕ). x < 2 ^ 32) g.grants.has.its_uid ((roomy.room (g.early ++ g.f ∷ []) m.behind m.is).creds granted.file.file g.grants.has.file_is g.grants.has.there);
      }

  pub stateids_are_once : StateidsAreOnce t
  stateids_are_once n l grant other its granted also same =
      let g : NamesUid grant = names_uid n l its grant granted in
      let h : NamesUid other = names_uid n l its other also in
      one_uid g.file h.file grant.uid.0 other.uid.0 g.small h.small (sym g.names ∙ (ap (λ (s : Stateid). s.other) same ∙ h.names))
