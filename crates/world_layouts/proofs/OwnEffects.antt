-- The request that took effect under a number of a life's session is the life's; and what an accepted request came to.
use Rattle.std.proofs.Common.{◌≡◌, ◌<◌, ℕ, ◌^◌, length, List, [], ◌∷◌, ◌++◌, sym, subst, ◌∙◌, append_assoc}
use Rattle.cluster_model.specs.declared.ids.NodeId.{NodeId}
use Rattle.world_rule.specs.ClusterWorlds.{ClusterState}
use Rattle.nfs4_types.specs.declared.ids.SessionId.{SessionId}
use Rattle.client_mds_calls.specs.declared.reply.SlotReport.{SlotReport}
use Rattle.client_mds_calls.specs.declared.reply.SlotReport.TheVariants.{Taken}
use Rattle.client_mds_calls.specs.MdsCalls.{OnSlot, SlotCallValue}
use Rattle.client_mds_calls.specs.MdsReplies.{MdsAnswerValue, MdsReplyValue}
use Rattle.mds_walk.specs.MdsRuns.{MdsEvent}
use Rattle.mds_replies.specs.ClientCalls.{IsCallFrom, IsEventOf}
use Rattle.mds_replies.specs.SlotReplies.{TookEffect}
use Rattle.client_laws.specs.ClientHistory.{HistoryItem, HasItem}
use Rattle.node_histories.specs.Weaves.{items_in}
use Rattle.node_histories.specs.ClientLives.{Life}
use Rattle.node_histories.specs.NodeHistories.{HasLife, IsToldByNodes}
use Rattle.world_moves.specs.WorldMoves.{IsRunOf}
use Rattle.world_journal.specs.Journal.{IsJournalInRange}
use Rattle.world_reads.proofs.LifeRecords.{compound}
use Rattle.mds_replies.specs.AnsweredRequests.{StaysRoomy, MeansSo, StandsByReport, StandsFor, TookEffectAmong}
use Rattle.world_layouts.specs.WorldLayouts.{IsOneRequestEach, StartsAreFew}
use Rattle.world_layouts.proofs.HeardItems.{HeardReply, stands_so}
use Rattle.world_layouts.proofs.OwnIds.{IdLaws}
use Rattle.world_layouts.proofs.OwnRequests.{OwnRequest, own_request}

-- the request that took effect is on this session, and is this one
pub record IsOwnEffect (session asked : SessionId) (number : ℕ) (c : SlotCallValue) (f : MdsEvent) (node : NodeId) (xid : ℕ) : Type 0 where
  pub same : session ≡ asked
  pub name : List ℕ
  pub came : IsCallFrom f node xid name (OnSlot session number c)

-- a request that took effect, in an event of the metadata server, and what its answer means
pub record TookSo {w : ClusterState} (t : IsToldByNodes w) (events : List MdsEvent) (session : SessionId) (number : ℕ) (c : SlotCallValue) (answer : MdsAnswerValue) : Type 0 where
  pub early : List MdsEvent
  pub f : MdsEvent
  pub late : List MdsEvent
  pub split : IsEventOf events early f late
  pub took : TookEffect t.mds.servers t.mds.mirrors early f session number
  pub means : MeansSo t.mds.servers t.mds.mirrors early f session c answer

module _ (laws : IdLaws) (boots : List ℕ) (w : ClusterState) (run : IsRunOf boots w) (t : IsToldByNodes w) (few : length w.machines.clients < 2 ^ 32) (range : IsJournalInRange w.journal) (roomy : StaysRoomy t.mds.servers t.mds.mirrors t.mds.events)
    (starts : StartsAreFew t) (one : IsOneRequestEach t) where
  -- the request that took effect under its number is this one
  pub effect_is_own : (n : ℕ) (l : Life) → HasLife t.stories n l → (xid : ℕ) (name : List ℕ) (session : SessionId) (number : ℕ) (c : SlotCallValue) → HasItem (items_in l.steps) (compound xid name (OnSlot session number c))
      → (before after : List MdsEvent) (e : MdsEvent) → IsEventOf t.mds.events before e after → (k : TookEffectAmong t.mds.servers t.mds.mirrors (before ++ e ∷ []) session number)
      → IsOwnEffect session k.asked number c k.f k.took.node k.took.xid
  effect_is_own n l its xid name session number c has before after e split k =
      let o : OwnRequest t n l k.early (k.late ++ after) k.f k.took.node k.took.xid k.asked number =
      own_request laws boots w run t few range roomy starts n l its xid name session number c has (before ++ e ∷ []) after (split ∙ sym (append_assoc before (e ∷ []) after)) number k in
      let both : (session ≡ k.asked) × (c ≡ o.call) = one n l its xid k.took.xid name o.name session k.asked number c o.call has o.has k.its in
      record {
        same = both.0;
        name = o.name;
        came =
            subst (λ (x : SessionId). IsCallFrom k.f k.took.node k.took.xid o.name (OnSlot x number c)) (sym both.0)
            (subst (λ (x : SlotCallValue). IsCallFrom k.f k.took.node k.took.xid o.name (OnSlot k.asked number x)) (sym both.1) o.came);
      }

  -- what a request that was heard as taken means
  pub took_so : (n : ℕ) (l : Life) → HasLife t.stories n l → (past : List HistoryItem) (name : List ℕ) (session : SessionId) (number : ℕ) (c : SlotCallValue) (says : MdsReplyValue) (behind : List HistoryItem)
      → (h : HeardReply laws.replies boots w run t few range roomy n l past name (OnSlot session number c) says behind) → says.slot ≡ Taken
      → TookSo t (h.was.answered.before ++ h.was.answered.e ∷ []) session number c says.answer
  took_so n l its past name session number c says behind h taken = by_stands (subst (λ (s : SlotReport). StandsByReport t.mds.servers t.mds.mirrors (h.was.answered.before ++ h.was.answered.e ∷ []) h.was.answered.answers.early session number c says.answer s) taken
      (subst (λ (r : MdsReplyValue). StandsFor t.mds.servers t.mds.mirrors (h.was.answered.before ++ h.was.answered.e ∷ []) h.was.answered.answers.early session number c r) h.says_so
      (stands_so laws.replies boots w run t few range roomy n l (h.before ++ compound h.reply.xid name (OnSlot session number c) ∷ h.until) h.bytes h.now (behind ++ h.rest) h.reply name session number c h.was)))
    where
      by_stands : StandsByReport t.mds.servers t.mds.mirrors (h.was.answered.before ++ h.was.answered.e ∷ []) h.was.answered.answers.early session number c says.answer Taken → TookSo t (h.was.answered.before ++ h.was.answered.e ∷ []) session number c says.answer
      by_stands (k, means, free) =
          let own : IsOwnEffect session k.asked number c k.f k.took.node k.took.xid =
          effect_is_own n l its h.reply.xid name session number c h.has h.was.answered.before h.was.answered.after h.was.answered.e h.was.answered.split k in
          record {
            early = k.early;
            f = k.f;
            late = k.late;
            split = k.split;
            took = subst (λ (x : SessionId). TookEffect t.mds.servers t.mds.mirrors k.early k.f x number) (sym own.same) k.took;
            means = means own.name own.came;
          }
