-- Behind a request that was answered that its session is gone, no request on a session of its client takes effect.
use Rattle.std.proofs.Common.{◌≡◌, ◌<◌, ◌≤◌, ℕ, ◌^◌, length, List, ◌∷◌, ◌++◌, sym, subst, ◌∙◌, arith}
use Rattle.world_rule.specs.ClusterWorlds.{ClusterState}
use Rattle.nfs4_types.specs.declared.ids.SessionId.{SessionId}
use Rattle.nfs4_types.specs.declared.status.Stat4.TheVariants as stat
use Rattle.nfs4_session.specs.Clients.{client_in}
use Rattle.client_mds_calls.specs.MdsCalls.{OnSlot, SlotCallValue, CreateSession}
use Rattle.client_mds_calls.specs.MdsReplies.{MdsReplyValue}
use Rattle.mds_walk.specs.MdsRuns.{MdsEvent}
use Rattle.mds_replies.specs.ClientCalls.{HearsCall, AreCalls, IsEventOf}
use Rattle.mds_replies.specs.ClientIds.{GivesSession}
use Rattle.mds_replies.specs.SlotReplies.{TookEffect}
use Rattle.mds_replies.specs.AnsweredRequests.{StaysRoomy, IsRefusedWith}
use Rattle.client_laws.specs.ClientHistory.{HistoryItem}
use Rattle.client_sessions.specs.HeardReplies.{IsHeard}
use Rattle.client_sessions.specs.SessionRounds.{IsInSession}
use Rattle.node_histories.specs.Weaves.{items_in}
use Rattle.node_histories.specs.ClientLives.{Life}
use Rattle.node_histories.specs.NodeHistories.{HasLife, IsToldByNodes}
use Rattle.world_moves.specs.WorldMoves.{IsRunOf}
use Rattle.world_journal.specs.Journal.{IsJournalInRange}
use Rattle.world_reads.proofs.Steps.{all_first}
use Rattle.world_reads.proofs.LifeRecords.{compound}
use Rattle.world_layouts.specs.WorldLayouts.{StartsAreFew}
use Rattle.world_layouts.proofs.MomentOrder.{Begins, begins, BeginsWith, begins_with}
use Rattle.world_layouts.proofs.OneRequest.{calls_all, heard_in, behind_reply, gives_session, asked_behind, asked_at, asked_round, under, early, late, whole, early_less}
use Rattle.world_grants.proofs.OneEffect.{OnceLaws}
use Rattle.world_grants.proofs.RepliesBehind.{EffectAt, comes_behind}

module _ (laws : OnceLaws) (boots : List ℕ) (w : ClusterState) (run : IsRunOf boots w) (t : IsToldByNodes w) (few : length w.machines.clients < 2 ^ 32) (range : IsJournalInRange w.journal) (roomy : StaysRoomy t.mds.servers t.mds.mirrors t.mds.events)
    (starts : StartsAreFew t) (n : ℕ) (l : Life) (its : HasLife t.stories n l) (upto tail : List HistoryItem) (is : items_in l.steps ≡ upto ++ tail) (session : SessionId) (number xid : ℕ) (name : List ℕ) (c : SlotCallValue) (says : MdsReplyValue)
    (behind : List HistoryItem) (told : IsHeard upto xid name (OnSlot session number c) says behind) where
  -- the events before the request came, and those from then on
  abbrev pub came : List MdsEvent
  came = early laws.sessions boots w run t few range roomy starts n l its upto tail is session number xid name c says behind told

  abbrev pub since : List MdsEvent
  since = late laws.sessions boots w run t few range roomy starts n l its upto tail is session number xid name c says behind told

  pub split_there : t.mds.events ≡ came ++ since
  split_there = whole laws.sessions boots w run t few range roomy starts n l its upto tail is session number xid name c says behind told

  -- a request that goes out behind the reply comes behind both
  pub came_before : (past rest : List HistoryItem) (asked : SessionId) (k : ℕ) (before after : List MdsEvent) (f : MdsEvent) → EffectAt t n l past rest asked k before after f → IsEventOf t.mds.events before f after → length upto ≤ length past → Begins came before
  came_before past rest asked k before after f e split less =
      let u = under laws.sessions boots w run t few range roomy starts n l its upto tail is session number xid name c says behind told in
      let second = comes_behind laws boots w run t few range roomy starts n l its upto name (OnSlot session number c) says behind u.heard past rest asked k before after f e split less in
      let first = early_less laws.sessions boots w run t few range roomy starts n l its upto tail is session number xid name c says behind told in
      begins came since before (f ∷ after) (sym split_there ∙ split) (omega (arith, first, second))

  -- the session was given before the request came
  record GivenBefore : Type 0 where
    early_given : List MdsEvent
    late_given : List MdsEvent
    d : MdsEvent
    split : IsEventOf came early_given d late_given
    client : ℕ
    gives : GivesSession t.mds.servers t.mds.mirrors early_given d client session

  given_before : GivenBefore
  given_before =
      let r : IsInSession told.before session number = asked_round laws.sessions boots w run t few range roomy starts n l its upto tail is session number xid name c says behind told in
      let g = r.given in
      let q : List HistoryItem = asked_behind laws.sessions boots w run t few range roomy starts n l its upto tail is session number xid name c says behind told in
      let at : items_in l.steps ≡ told.before ++ compound xid name (OnSlot session number c) ∷ q = asked_at laws.sessions boots w run t few range roomy starts n l its upto tail is session number xid name c says behind told in
      let u = heard_in laws.sessions boots w run t few range roomy starts n l its told.before (compound xid name (OnSlot session number c) ∷ q) at g.xid g.name (CreateSession g.clientid g.sequence) g.says r.behind g.heard in
      let a = u.heard.was.answered in
      let k = under laws.sessions boots w run t few range roomy starts n l its upto tail is session number xid name c says behind told in
      let ans = k.heard.was.answered in
      let first = behind_reply laws.sessions boots w run t few range roomy starts n l its told.before g.name (CreateSession g.clientid g.sequence) g.says r.behind u.heard told.before q k.heard.reply.xid name (OnSlot session number c)
      (subst (λ (x : ℕ). items_in l.steps ≡ told.before ++ compound x name (OnSlot session number c) ∷ q) (sym k.number) at) (omega arith) came (ans.answers.late ++ ans.after) ans.answers.f split_there k.heard.was.own in
      let place : BeginsWith a.before a.e came = begins_with a.before a.e a.after came since (sym a.split ∙ split_there) first in
      record {
        early_given = a.before;
        late_given = place.more;
        d = a.e;
        split = place.is;
        client = g.clientid;
        gives = gives_session laws.sessions boots w run t few range roomy starts n l its told.before g.name g.clientid g.sequence g.says r.behind u.heard session g.is;
      }

  pub not_lost : IsRefusedWith t.mds.servers t.mds.mirrors came session number stat.BadSession → (past rest : List HistoryItem) (asked : SessionId) (k : ℕ) (before after : List MdsEvent) (f : MdsEvent) → EffectAt t n l past rest asked k before after f
      → IsEventOf t.mds.events before f after → TookEffect t.mds.servers t.mds.mirrors before f asked k → length upto ≤ length past → client_in asked ≡ client_in session → ⊥
  not_lost refused past rest asked k before after f e split took less same =
      let g : GivenBefore = given_before in
      let b : Begins came before = came_before past rest asked k before after f e split less in
      let calls : AreCalls came = all_first (λ (e : MdsEvent). HearsCall e.input) came since (subst AreCalls split_there (calls_all laws.sessions boots w run t few range roomy starts)) in
      laws.gone t.mds.servers t.mds.mirrors came b.more f calls g.early_given g.late_given g.d g.split g.client session g.gives number refused asked k
      (subst (λ (x : List MdsEvent). TookEffect t.mds.servers t.mds.mirrors x f asked k) b.is took) same
