-- A period whose end the journal has entered when its client asks again is not had behind the event of that request (RFC 8435, section 2.2).
use Rattle.std.proofs.Common.{◌≡◌, ◌<◌, ℕ, ◌^◌, Bool, true, false, length, List, [], ◌∷◌, ◌++◌, refl, sym, ap, subst, ◌∙◌, inl, inr, arith, append_assoc, append-nil, length-append}
use Rattle.std.specs.Prelude.{◌==◌, cond}
use Rattle.std.specs.List.{AllByRecursion}
use Rattle.std.proofs.lemmas.Bool.{eqb-true}
use Rattle.std.proofs.lemmas.Grind.{flat_map-append}
use Rattle.cluster_model.specs.declared.ids.FileId.{FileId}
use Rattle.cluster_model.specs.declared.phase.EndCause.{EndCause}
use Rattle.cluster_model.specs.declared.entry.Entry.{Entry}
use Rattle.cluster_model.specs.declared.entry.Entry.TheVariants as entry
use Rattle.cluster_laws.specs.Agreement.{cause_in, causes_of}
use Rattle.world_rule.specs.ClusterWorlds.{ClusterState}
use Rattle.nfs4_types.specs.declared.ids.SessionId.{SessionId}
use Rattle.client_file_calls.specs.declared.grant.LayoutGrant.{LayoutGrant}
use Rattle.client_mds_calls.specs.MdsCalls.{OnSlot}
use Rattle.mds_rule.specs.MdsStates.{MdsValue, new_mds}
use Rattle.mds_walk.specs.MdsRuns.{MdsEvent, run_from}
use Rattle.mds_histories.specs.MdsHistory as of_mds
use Rattle.mds_histories.specs.MdsHistory.{MdsItem}
use Rattle.mds_histories.proofs.Histories.{entries_of_run}
use Rattle.mds_replies.specs.ClientCalls.{server_after, IsEventOf}
use Rattle.mds_replies.specs.LayoutReplies.{HasPeriod, EntersEnd}
use Rattle.mds_replies.specs.AnsweredRequests.{StaysRoomy}
use Rattle.client_laws.specs.ClientHistory.{HistoryItem}
use Rattle.client_laws.specs.ClientRunLaws.{WasGranted}
use Rattle.client_sessions.specs.LayoutEnds.{WasFenced}
use Rattle.node_histories.specs.Weaves.{entries_in, items_in}
use Rattle.node_histories.specs.ClientLives.{Life}
use Rattle.node_histories.specs.NodeHistories.{HasLife, IsToldByNodes}
use Rattle.node_histories.proofs.WeaveLemmas.{entries_join, items_join}
use Rattle.world_moves.specs.WorldMoves.{IsRunOf}
use Rattle.world_journal.specs.Journal.{IsJournalInRange}
use Rattle.world_reads.proofs.Steps.{Splits, Longer, Shorter, splits, all_first, ItemStep, item_step}
use Rattle.world_reads.proofs.OwnEntries.{IsToldStep, all_told}
use Rattle.world_reads.proofs.MdsPlaces.{Steps}
use Rattle.world_reads.proofs.LifeRecords.{compound}
use Rattle.world_layouts.specs.WorldLayouts.{StartsAreFew, RefusalsAreEnds, HasPeriodEnded, journal_at}
use Rattle.world_layouts.proofs.LifeSends.{LifeSteps}
use Rattle.world_layouts.proofs.MomentOrder.{has_before}
use Rattle.world_layouts.proofs.ToldEnds.{IsEndTold, ends_told, causes_told}
use Rattle.world_grants.proofs.OneEffect.{OnceLaws}
use Rattle.world_grants.proofs.RepliesBehind.{EffectAt}
use Rattle.world_grants.proofs.EndedPeriods.{ended_not}

-- ---- causes

front_none : {A : Type 0} (a b : List A) → a ++ b ≡ [] → a ≡ []
front_none [] b is = refl
front_none (x ∷ a) b is = absurd cc

-- some end of the uid was entered
pub record IsEndIn (entries : List Entry) (uid : ℕ) : Type 0 where
  pub file : FileId
  pub end : EntersEnd entries file uid

further : (e : Entry) (entries : List Entry) (uid : ℕ) → IsEndIn entries uid → IsEndIn (e ∷ entries) uid
further e entries uid r = record { file = r.file; end = record { cause = r.end.cause; there = inr r.end.there } }

end_in : (uid : ℕ) (entries : List Entry) → (causes_of uid entries ≡ [] → ⊥) → IsEndIn entries uid
end_in uid [] some = absurd (some refl)
end_in uid (entry.Ended file cred cause ∷ entries) some = by_test (λ none. end_in uid entries none) (cred.0 == uid) refl
  where
    by_test : ((causes_of uid entries ≡ [] → ⊥) → IsEndIn entries uid) → (b : Bool) → (cred.0 == uid) ≡ b → IsEndIn (entry.Ended file cred cause ∷ entries) uid
    by_test again true is =
        subst (λ (k : ℕ). IsEndIn (entry.Ended file cred cause ∷ entries) k) (eqb-true cred.0 uid is) (record { file = file; end = record { cause = cause; there = inl refl } })
    by_test again false is =
        let none : cause_in uid (entry.Ended file cred cause) ≡ [] = ap (λ (b : Bool). cond {A = List EndCause} b (cause ∷ []) []) is in
        further (entry.Ended file cred cause) entries uid (again (λ rest. some (ap (λ (l : List EndCause). l ++ causes_of uid entries) none ∙ rest)))
end_in uid (e ∷ entries) some = further e entries uid (end_in uid entries (λ rest. some rest))

module _ (laws : OnceLaws) (boots : List ℕ) (w : ClusterState) (run : IsRunOf boots w) (t : IsToldByNodes w) (few : length w.machines.clients < 2 ^ 32) (range : IsJournalInRange w.journal) (roomy : StaysRoomy t.mds.servers t.mds.mirrors t.mds.events)
    (starts : StartsAreFew t) (n : ℕ) (l : Life) (its : HasLife t.stories n l) where
  -- the journal before a request went out stands before the place where it came
  record StandsBefore (journal : List Entry) (steps : Steps) : Type 0 where
    more : List Entry
    is : entries_in steps ≡ journal ++ more

  stands_before : (past rest : List HistoryItem) (asked : SessionId) (number : ℕ) (early late : List MdsEvent) (f : MdsEvent) (e : EffectAt t n l past rest asked number early late f) → (earlier later : LifeSteps) → l.steps ≡ earlier ++ later → items_in earlier ≡ past
      → StandsBefore (journal_at l earlier) e.called.arrival.earlier
  stands_before past rest asked number early late f e earlier later split items = by_split (splits earlier later e.called.upto e.called.rest (sym split ∙ e.called.split))
    where
      sent : length past < length (items_in e.called.upto)
      sent = has_before w t laws.sessions.ids.replies.calls.numbered n l its past rest e.xid e.name (OnSlot asked number e.call) e.is e.called.upto e.called.rest e.called.split e.called.has

      by_split : Splits earlier later e.called.upto e.called.rest → StandsBefore (journal_at l earlier) e.called.arrival.earlier
      by_split (Longer middle first second) =
          let until : List Entry = entries_in middle in
          let upto : entries_in e.called.upto ≡ entries_in earlier ++ until = ap (λ (s : LifeSteps). entries_in s) first ∙ entries_join earlier middle in
          let joined : l.begun ++ entries_in e.called.upto ≡ journal_at l earlier ++ until =
          ap (λ (x : List Entry). l.begun ++ x) upto ∙ sym (append_assoc l.begun (entries_in earlier) until) in
          record {
            more = until ++ e.called.since;
            is = e.called.place ∙ (ap (λ (x : List Entry). x ++ e.called.since) joined ∙ append_assoc (journal_at l earlier) until e.called.since);
          }
      by_split (Shorter x middle first second) =
          let size = ap (λ (s : LifeSteps). length (items_in s)) first in
          let joined = ap (λ (h : List HistoryItem). length h) (items_join e.called.upto (x ∷ middle)) in
          let parts = length-append (items_in e.called.upto) (items_in (x ∷ middle)) in
          let here = ap (λ (h : List HistoryItem). length h) items in
          let less = sent in
          absurd (omega (arith, size, joined, parts, here, less))

  pub fenced_not : RefusalsAreEnds t → (past rest : List HistoryItem) (asked : SessionId) (number : ℕ) (early late : List MdsEvent) (f : MdsEvent) (e : EffectAt t n l past rest asked number early late f) → IsEventOf t.mds.events early f late
      → (grant : LayoutGrant) → WasGranted past grant → WasFenced past grant → (other : FileId) (client : ℕ) → HasPeriod (server_after t.mds.servers t.mds.mirrors (early ++ f ∷ [])) other client grant.uid.0 → ⊥
  fenced_not ends past rest asked number early late f e split grant granted fenced other client period =
      let s : ItemStep l.steps past (compound e.xid e.name (OnSlot asked number e.call)) rest = item_step l.steps past (compound e.xid e.name (OnSlot asked number e.call)) rest e.is in
      let ended : HasPeriodEnded (journal_at l s.earlier) grant.uid.0 =
      ends n l s.earlier (s.step ∷ s.later) grant its s.split (subst (λ (h : List HistoryItem). WasGranted h grant) (sym s.earlier_items) granted) (subst (λ (h : List HistoryItem). WasFenced h grant) (sym s.earlier_items) fenced) in
      let b : StandsBefore (journal_at l s.earlier) e.called.arrival.earlier = stands_before past rest asked number early late f e s.earlier (s.step ∷ s.later) s.split s.earlier_items in
      let steps : Steps = e.called.arrival.earlier in
      let first_told : AllByRecursion IsToldStep steps = all_first IsToldStep steps _ (subst (λ (k : Steps). AllByRecursion IsToldStep k) e.called.arrival.split (all_told w t)) in
      let first_ends : AllByRecursion IsEndTold steps = all_first IsEndTold steps _ (subst (λ (k : Steps). AllByRecursion IsEndTold k) e.called.arrival.split (ends_told w t)) in
      let new : MdsValue = new_mds t.mds.servers t.mds.mirrors in
      let entries : of_mds.entries_in (items_in steps) ≡ (run_from new early).entries = ap (λ (i : List MdsItem). of_mds.entries_in i) e.called.arrival.earlier_items ∙ entries_of_run new early in
      let told : causes_of grant.uid.0 (entries_in steps) ≡ causes_of grant.uid.0 (run_from new early).entries =
      causes_told grant.uid.0 steps first_told first_ends ∙ ap (λ (x : List Entry). causes_of grant.uid.0 x) entries in
      let parts : causes_of grant.uid.0 (entries_in steps) ≡ causes_of grant.uid.0 (journal_at l s.earlier) ++ causes_of grant.uid.0 b.more =
      ap (λ (x : List Entry). causes_of grant.uid.0 x) b.is ∙ flat_map-append (cause_in grant.uid.0) (journal_at l s.earlier) b.more in
      let some : causes_of grant.uid.0 (run_from new early).entries ≡ [] → ⊥ =
      (λ none. ended (front_none (causes_of grant.uid.0 (journal_at l s.earlier)) (causes_of grant.uid.0 b.more) (sym parts ∙ (told ∙ none)))) in
      let r : IsEndIn (run_from new early).entries grant.uid.0 = end_in grant.uid.0 (run_from new early).entries some in
      ended_not laws boots w run t few range roomy starts early r.file grant.uid.0 r.end early late f split (record { more = []; is = sym (append-nil early) }) other client period
