-- A period that ended, by a LAYOUTRETURN or otherwise, is not had behind that.
use Rattle.std.proofs.Common.{◌≡◌, ◌<◌, ℕ, ◌^◌, length, List, [], ◌∷◌, ◌++◌, refl, sym, ap, subst, ◌∙◌, inl, inr, ◌⊎◌, append_assoc}
use Rattle.cluster_model.specs.declared.ids.FileId.{FileId}
use Rattle.cluster_model.specs.declared.entry.Entry.{Entry}
use Rattle.cluster_model.specs.declared.entry.Entry.TheVariants.{Ended}
use Rattle.cluster_model.specs.Members.{IsOneOf}
use Rattle.world_rule.specs.ClusterWorlds.{ClusterState}
use Rattle.nfs4_types.specs.declared.ids.SessionId.{SessionId}
use Rattle.nfs4_types.specs.declared.stateid.Stateid.{Stateid}
use Rattle.nfs4_types.specs.Stateids.{three_words}
use Rattle.nfs4_session.specs.Clients.{client_in}
use Rattle.client_file_calls.specs.declared.layout_return.FailedMirror.{FailedMirror}
use Rattle.client_mds_calls.specs.MdsCalls as slot
use Rattle.client_mds_calls.specs.MdsReplies.{MdsAnswerValue, Returned, Refused}
use Rattle.mds_rule.specs.MdsStates.{MdsValue, new_mds}
use Rattle.mds_walk.specs.MdsRuns.{MdsEvent, after_event, run_from}
use Rattle.mds_walk.proofs.Lists.{in_more}
use Rattle.mds_replies.specs.ClientCalls.{HearsCall, AreCalls, server_after, IsEventOf}
use Rattle.mds_replies.specs.LayoutReplies.{HasPeriod, EntersEnd}
use Rattle.mds_replies.specs.AnsweredRequests.{StaysRoomy, MeansSo, ReturnsSo, NamesNone, bad_stateid}
use Rattle.mds_replies.proofs.HeldFiles.{in_behind}
use Rattle.mds_replies.proofs.Periods.{entries_behind}
use Rattle.node_histories.specs.NodeHistories.{IsToldByNodes}
use Rattle.world_moves.specs.WorldMoves.{IsRunOf}
use Rattle.world_journal.specs.Journal.{IsJournalInRange}
use Rattle.world_reads.proofs.Steps.{all_first}
use Rattle.world_layouts.specs.WorldLayouts.{StartsAreFew}
use Rattle.world_layouts.proofs.MomentOrder.{Begins}
use Rattle.world_layouts.proofs.EndedReturns.{one_uid}
use Rattle.world_layouts.proofs.OneRequest.{calls_all}
use Rattle.world_grants.proofs.OneEffect.{OnceLaws}

module _ (laws : OnceLaws) (boots : List ℕ) (w : ClusterState) (run : IsRunOf boots w) (t : IsToldByNodes w) (few : length w.machines.clients < 2 ^ 32) (range : IsJournalInRange w.journal) (roomy : StaysRoomy t.mds.servers t.mds.mirrors t.mds.events)
    (starts : StartsAreFew t) where
  pub calls_first : (upto behind : List MdsEvent) → t.mds.events ≡ upto ++ behind → AreCalls upto
  calls_first upto behind is = all_first (λ (e : MdsEvent). HearsCall e.input) upto behind (subst AreCalls is (calls_all laws.sessions boots w run t few range roomy starts))

  -- a uid whose end was entered is not had behind a later event
  pub ended_not : (upto : List MdsEvent) (file : FileId) (uid : ℕ) → EntersEnd (run_from (new_mds t.mds.servers t.mds.mirrors) upto).entries file uid → (early late : List MdsEvent) (f : MdsEvent) → IsEventOf t.mds.events early f late → Begins upto early
      → (other : FileId) (client : ℕ) → HasPeriod (server_after t.mds.servers t.mds.mirrors (early ++ f ∷ [])) other client uid → ⊥
  ended_not upto file uid end early late f split b other client period =
      let all : early ++ f ∷ [] ≡ upto ++ (b.more ++ f ∷ []) = ap (λ (x : List MdsEvent). x ++ f ∷ []) b.is ∙ append_assoc upto b.more (f ∷ []) in
      let calls : AreCalls (early ++ f ∷ []) = calls_first (early ++ f ∷ []) late (split ∙ sym (append_assoc early (f ∷ []) late)) in
      laws.over t.mds.servers t.mds.mirrors upto (b.more ++ f ∷ []) file uid (subst AreCalls all calls) end other client
      (subst (λ (x : List MdsEvent). HasPeriod (server_after t.mds.servers t.mds.mirrors x) other client uid) all period)

  -- ---- a LAYOUTRETURN that was answered

  -- Behind a moment at which its client had the period of this uid a LAYOUTRETURN of it took effect, and was accepted, or answered that its stateid
  -- is unknown. Then the end was entered.
  module _ (moment : List MdsEvent) (file : FileId) (session : SessionId) (uid : ℕ) (had : HasPeriod (server_after t.mds.servers t.mds.mirrors moment) file (client_in session) uid) (stateid : Stateid)
      (names : stateid.other ≡ three_words file.0 uid 0) (small : uid < 2 ^ 32) (failed : List FailedMirror) (early late : List MdsEvent) (f : MdsEvent) (at : IsEventOf t.mds.events early f late) (since : Begins moment early) where
    end_now : ReturnsSo t.mds.servers t.mds.mirrors early f (client_in session) file stateid failed → EntersEnd (run_from (new_mds t.mds.servers t.mds.mirrors) (early ++ f ∷ [])).entries file uid
    end_now so =
        let few_uid : so.uid < 2 ^ 32 = subst (λ (x : ℕ). x < 2 ^ 32) so.had.its_uid ((roomy.room early (f ∷ late) at).creds file so.had.file_is so.had.there) in
        let same : so.uid ≡ uid = one_uid file.0 file.0 so.uid uid few_uid small (sym so.names ∙ names) in
        let new : MdsValue = new_mds t.mds.servers t.mds.mirrors in
        let now : IsOneOf (Ended file (record { 0 = uid }) so.cause) (after_event f (server_after t.mds.servers t.mds.mirrors early)).entries =
        subst (λ (x : ℕ). IsOneOf (Ended file (record { 0 = x }) so.cause) (after_event f (server_after t.mds.servers t.mds.mirrors early)).entries) same so.ended in
        record {
          cause = so.cause;
          there =
              subst (λ (l : List Entry). IsOneOf (Ended file (record { 0 = uid }) so.cause) l) (sym (entries_behind new early (f ∷ [])))
              (in_behind (Ended file (record { 0 = uid }) so.cause) (run_from new early).entries (run_from (run_from new early).mds (f ∷ [])).entries
              (in_more (Ended file (record { 0 = uid }) so.cause) (after_event f (server_after t.mds.servers t.mds.mirrors early)).entries [] now));
        }

    end_then : NamesNone (server_after t.mds.servers t.mds.mirrors early) (client_in session) file stateid → EntersEnd (run_from (new_mds t.mds.servers t.mds.mirrors) early).entries file uid
    end_then none = by_going (laws.goes_on t.mds.servers t.mds.mirrors moment since.more file (client_in session) uid (subst AreCalls since.is (calls_first early (f ∷ late) at)) had)
      where
        by_going : HasPeriod (server_after t.mds.servers t.mds.mirrors (moment ++ since.more)) file (client_in session) uid ⊎ EntersEnd (run_from (server_after t.mds.servers t.mds.mirrors moment) since.more).entries file uid
            → EntersEnd (run_from (new_mds t.mds.servers t.mds.mirrors) early).entries file uid
        by_going (inl still) =
            absurd (none uid names (subst (λ (x : List MdsEvent). HasPeriod (server_after t.mds.servers t.mds.mirrors x) file (client_in session) uid) (sym since.is) still))
        by_going (inr end) =
            let new : MdsValue = new_mds t.mds.servers t.mds.mirrors in
            record {
              cause = end.cause;
              there =
                  subst (λ (l : List MdsEvent). IsOneOf (Ended file (record { 0 = uid }) end.cause) (run_from new l).entries) (sym since.is)
                  (subst (λ (l : List Entry). IsOneOf (Ended file (record { 0 = uid }) end.cause) l) (sym (entries_behind new moment since.more))
                  (in_behind (Ended file (record { 0 = uid }) end.cause) (run_from new moment).entries (run_from (run_from new moment).mds since.more).entries end.there));
            }

    pub returned_not : (answer : MdsAnswerValue) → MeansSo t.mds.servers t.mds.mirrors early f session (slot.LayoutReturn file stateid failed) answer → (answer ≡ Returned) ⊎ (answer ≡ Refused bad_stateid)
        → (before after : List MdsEvent) (e : MdsEvent) → IsEventOf t.mds.events before e after → Begins (early ++ f ∷ []) before → (other : FileId) (client : ℕ) → HasPeriod (server_after t.mds.servers t.mds.mirrors (before ++ e ∷ [])) other client uid → ⊥
    returned_not answer means (inl is) before after e split b other client period =
        ended_not (early ++ f ∷ []) file uid (end_now (subst (λ (a : MdsAnswerValue). MeansSo t.mds.servers t.mds.mirrors early f session (slot.LayoutReturn file stateid failed) a) is means)) before after e split b other client period
    returned_not answer means (inr is) before after e split b other client period =
        let none : bad_stateid ≡ bad_stateid → NamesNone (server_after t.mds.servers t.mds.mirrors early) (client_in session) file stateid =
        subst (λ (a : MdsAnswerValue). MeansSo t.mds.servers t.mds.mirrors early f session (slot.LayoutReturn file stateid failed) a) is means in
        ended_not early file uid (end_then (none refl)) before after e split (record { more = f ∷ b.more; is = b.is ∙ append_assoc early (f ∷ []) b.more }) other client period
