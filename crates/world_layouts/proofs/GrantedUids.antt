-- What a life was granted is a period of its client, and so a uid is of one life (RFC 8435, section 2.2).
use Rattle.std.proofs.Common.{◌≡◌, ◌<◌, ℕ, ◌^◌, length, List, [], ◌∷◌, ◌++◌, refl, sym, ap, subst, ◌∙◌, append_assoc, append-nil}
use Rattle.cluster_model.specs.declared.ids.NodeId.TheVariants.{Mds}
use Rattle.cluster_model.specs.declared.ids.FileId.{FileId}
use Rattle.world_rule.specs.ClusterWorlds.{ClusterState}
use Rattle.nfs4_session.specs.Clients.{client_in}
use Rattle.client_file_calls.specs.declared.grant.LayoutGrant.{LayoutGrant}
use Rattle.client_mds_calls.specs.declared.reply.SlotReport.TheVariants.{Taken}
use Rattle.client_mds_calls.specs.declared.ask.MdsAsk.TheVariants as ask
use Rattle.client_mds_calls.specs.MdsCalls.{MdsCallValue, OnSlot}
use Rattle.client_mds_calls.specs.MdsCalls as slot
use Rattle.client_mds_calls.specs.MdsReplies.{MdsAnswerValue, MdsReplyValue, Granted, reply_of_ask}
use Rattle.mds_walk.specs.MdsRuns.{MdsEvent}
use Rattle.mds_replies.specs.ClientCalls.{HearsCall, AreCalls, server_after, IsEventOf}
use Rattle.mds_replies.specs.SlotReplies.{TookEffect}
use Rattle.mds_replies.specs.LayoutReplies.{HasPeriod, PeriodsAreOwn}
use Rattle.client_state.specs.ClientStates.{client_name}
use Rattle.client_laws.specs.ClientHistory.{HistoryItem, client_history}
use Rattle.client_laws.specs.ClientRunLaws.{WasGranted}
use Rattle.client_sessions.specs.HeardReplies.{IsHeard}
use Rattle.client_sessions.proofs.AnswerKinds.{granted_taken}
use Rattle.node_histories.specs.Weaves.{items_in}
use Rattle.node_histories.specs.ClientLives.{Life, start_of}
use Rattle.node_histories.specs.NodeHistories.{HasLife, IsToldByNodes}
use Rattle.world_moves.specs.WorldMoves.{IsRunOf}
use Rattle.world_journal.specs.Journal.{IsJournalInRange}
use Rattle.world_reads.proofs.Steps.{Splits, Longer, Shorter, splits, all_first}
use Rattle.world_reads.proofs.LifeRecords.{compound}
use Rattle.mds_replies.specs.AnsweredRequests.{StaysRoomy, KeepsAnswer, GrantsSo}
use Rattle.world_layouts.specs.WorldLayouts.{IsOneRequestEach, StartsAreFew, UidsAreOwn}
use Rattle.world_layouts.proofs.LifeSends.{hearing_from, life_is}
use Rattle.world_layouts.proofs.HeardCalls.{are_calls}
use Rattle.world_layouts.proofs.HeardItems.{HeardReply, heard_reply}
use Rattle.world_layouts.proofs.OwnIds.{IdLaws, IsIdOf, session_is_own, one_id}
use Rattle.world_layouts.proofs.OwnRequests.{SplitAt, split_at}
use Rattle.world_layouts.proofs.OwnEffects.{TookSo, took_so}

-- ---- a grant as a reply that was heard

-- the reply that granted, at its place
pub record GrantHeard (past : List HistoryItem) (grant : LayoutGrant) (granted : WasGranted past grant) : Type 0 where
  pub says : MdsReplyValue
  pub behind : List HistoryItem
  pub heard : IsHeard past granted.xid granted.name (OnSlot granted.session granted.sequence (slot.LayoutGet granted.file)) says behind
  pub answer : says.answer ≡ Granted grant
  pub taken : says.slot ≡ Taken
  pub before_is : heard.before ≡ granted.before

pub grant_heard : (past : List HistoryItem) (grant : LayoutGrant) (granted : WasGranted past grant) → GrantHeard past grant granted
grant_heard past grant granted =
    let s : SplitAt granted.since (hearing_from Mds granted.bytes granted.now) = split_at granted.since (hearing_from Mds granted.bytes granted.now) granted.heard in
    let sends : HistoryItem = compound granted.xid granted.name (OnSlot granted.session granted.sequence (slot.LayoutGet granted.file)) in
    record {
      says = reply_of_ask ask.LayoutGet granted.says.reply;
      behind = s.behind;
      heard = record {
        before = granted.before;
        until = s.before;
        bytes = granted.bytes;
        now = granted.now;
        split = granted.split ∙ ap (λ (l : List HistoryItem). granted.before ++ sends ∷ l) s.is;
        reply = granted.says.reply;
        reply_is = granted.says.reply_is;
        number = granted.says.number;
        says_so = refl;
      };
      answer = granted.says.says_so;
      taken = granted_taken ask.LayoutGet granted.says.reply grant granted.says.says_so;
      before_is = refl;
    }

pub record LayoutLaws : Type 0 where
  pub ids : IdLaws
  pub own : PeriodsAreOwn

module _ (laws : LayoutLaws) (boots : List ℕ) (w : ClusterState) (run : IsRunOf boots w) (t : IsToldByNodes w) (few : length w.machines.clients < 2 ^ 32) (range : IsJournalInRange w.journal) (roomy : StaysRoomy t.mds.servers t.mds.mirrors t.mds.events)
    (starts : StartsAreFew t) (one : IsOneRequestEach t) where
  -- What a life was granted: the reply, and the request that took effect.
  pub record GrantTook (n : ℕ) (l : Life) (past : List HistoryItem) (grant : LayoutGrant) (granted : WasGranted past grant) : Type 0 where
    pub reply : GrantHeard past grant granted
    pub heard : HeardReply laws.ids.replies boots w run t few range roomy n l past granted.name (OnSlot granted.session granted.sequence (slot.LayoutGet granted.file)) reply.says reply.behind
    pub early : List MdsEvent
    pub f : MdsEvent
    pub late : List MdsEvent
    pub split : IsEventOf (heard.was.answered.before ++ heard.was.answered.e ∷ []) early f late
    pub took : TookEffect t.mds.servers t.mds.mirrors early f granted.session granted.sequence
    pub keeps : KeepsAnswer (server_after t.mds.servers t.mds.mirrors (early ++ f ∷ [])) granted.session (slot.LayoutGet granted.file) (Granted grant)
    pub grants : GrantsSo t.mds.servers t.mds.mirrors early f (client_in granted.session) granted.file.file grant
    pub owner : IsIdOf t (client_name n) l.verifier (client_in granted.session)

  pub grant_took : (n : ℕ) (l : Life) → HasLife t.stories n l → (past rest : List HistoryItem) → items_in l.steps ≡ past ++ rest → (grant : LayoutGrant) (granted : WasGranted past grant) → GrantTook n l past grant granted
  grant_took n l its past rest is grant granted =
      let g : GrantHeard past grant granted = grant_heard past grant granted in
      let call : MdsCallValue = OnSlot granted.session granted.sequence (slot.LayoutGet granted.file) in
      let h : HeardReply laws.ids.replies boots w run t few range roomy n l past granted.name call g.says g.behind =
      heard_reply laws.ids.replies boots w run t few range roomy n l its past rest is granted.xid granted.name call g.says g.behind g.heard in
      let k : TookSo t (h.was.answered.before ++ h.was.answered.e ∷ []) granted.session granted.sequence (slot.LayoutGet granted.file) (Granted grant) =
      subst (λ (a : MdsAnswerValue). TookSo t (h.was.answered.before ++ h.was.answered.e ∷ []) granted.session granted.sequence (slot.LayoutGet granted.file) a) g.answer
      (took_so laws.ids boots w run t few range roomy starts one n l its past granted.name granted.session granted.sequence (slot.LayoutGet granted.file) g.says g.behind h g.taken) in
      let sends : HistoryItem = compound granted.xid granted.name call in
      record {
        reply = g;
        heard = h;
        early = k.early;
        f = k.f;
        late = k.late;
        split = k.split;
        took = k.took;
        keeps = k.means.0;
        grants = k.means.1;
        owner =
            session_is_own laws.ids boots w run t few range roomy n l its granted.before (granted.since ++ rest) granted.xid granted.name granted.session granted.sequence (slot.LayoutGet granted.file)
            (is ∙ (ap (λ (x : List HistoryItem). x ++ rest) granted.split ∙ append_assoc granted.before (sends ∷ granted.since) rest));
      }

  -- ---- two moments of the metadata server

  -- events up to one, and what follows
  pub record IsMoment (upto : List MdsEvent) : Type 0 where
    pub behind : List MdsEvent
    pub is : t.mds.events ≡ upto ++ behind

  pub moment_of : (n : ℕ) (l : Life) (past : List HistoryItem) (grant : LayoutGrant) (granted : WasGranted past grant) (k : GrantTook n l past grant granted) → IsMoment (k.early ++ k.f ∷ [])
  moment_of n l past grant granted k =
      let a = k.heard.was.answered in
      record {
        behind = k.late ++ a.after;
        is =
            a.split
            ∙ (sym (append_assoc a.before (a.e ∷ []) a.after) ∙ (ap (λ (x : List MdsEvent). x ++ a.after) k.split
            ∙ (append_assoc k.early (k.f ∷ k.late) a.after ∙ sym (append_assoc k.early (k.f ∷ []) (k.late ++ a.after)))));
      }

  pub calls_to : (upto : List MdsEvent) → IsMoment upto → AreCalls upto
  calls_to upto m = all_first (λ (e : MdsEvent). HearsCall e.input) upto m.behind (subst AreCalls m.is (are_calls laws.ids.replies.calls boots w run t few range))

  -- two periods of one uid are of one client and one file
  pub one_period : (upto others : List MdsEvent) → IsMoment upto → IsMoment others → (file other : FileId) (client stranger uid : ℕ) → HasPeriod (server_after t.mds.servers t.mds.mirrors upto) file client uid
      → HasPeriod (server_after t.mds.servers t.mds.mirrors others) other stranger uid → (file ≡ other) × (client ≡ stranger)
  one_period upto others m k file other client stranger uid has also = by_place (splits upto m.behind others k.behind (sym m.is ∙ k.is))
    where
      by_place : Splits upto m.behind others k.behind → (file ≡ other) × (client ≡ stranger)
      by_place (Longer middle first second) =
          laws.own t.mds.servers t.mds.mirrors upto middle file other client stranger uid (subst AreCalls first (calls_to others k)) has (subst (λ (x : List MdsEvent). HasPeriod (server_after t.mds.servers t.mds.mirrors x) other stranger uid) first also)
      by_place (Shorter x middle first second) =
          let r : (other ≡ file) × (stranger ≡ client) =
          laws.own t.mds.servers t.mds.mirrors others (x ∷ middle) other file stranger client uid (subst AreCalls first (calls_to upto m)) also (subst (λ (y : List MdsEvent). HasPeriod (server_after t.mds.servers t.mds.mirrors y) file client uid) first has) in
          (sym r.0, sym r.1)

  -- ---- a uid is of one life

  pub items_of_life : (n : ℕ) (l : Life) → HasLife t.stories n l → items_in l.steps ≡ client_history (start_of n l) l.inputs ++ []
  items_of_life n l its = sym (life_is w t laws.ids.replies.calls.numbered n l its).facts.is.history ∙ sym (append-nil (client_history (start_of n l) l.inputs))

  pub uids_are_own : UidsAreOwn t
  uids_are_own n k l o grant other its others granted also uid =
      let g : GrantTook n l (client_history (start_of n l) l.inputs) grant granted = grant_took n l its (client_history (start_of n l) l.inputs) [] (items_of_life n l its) grant granted in
      let h : GrantTook k o (client_history (start_of k o) o.inputs) other also = grant_took k o others (client_history (start_of k o) o.inputs) [] (items_of_life k o others) other also in
      let both : (granted.file.file ≡ also.file.file) × (client_in granted.session ≡ client_in also.session) =
      one_period (g.early ++ g.f ∷ []) (h.early ++ h.f ∷ []) (moment_of n l (client_history (start_of n l) l.inputs) grant granted g) (moment_of k o (client_history (start_of k o) o.inputs) other also h) granted.file.file also.file.file (client_in granted.session) (client_in also.session) grant.uid.0
      g.grants.has
      (subst (λ (u : ℕ). HasPeriod (server_after t.mds.servers t.mds.mirrors (h.early ++ h.f ∷ [])) also.file.file (client_in also.session) u) (sym uid) h.grants.has) in
      one_id laws.ids boots w run t few range roomy n k l o its others starts (client_in also.session) (subst (λ (c : ℕ). IsIdOf t (client_name n) l.verifier c) both.1 g.owner) h.owner
