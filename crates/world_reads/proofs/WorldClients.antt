-- What comes to the metadata server as a compound is a client's, and reads in form.
use Rattle.std.proofs.Common.{◌≡◌, ◌<◌, ℕ, ◌^◌, true, List, [], ◌∷◌, ◌++◌, length, Some, Result, Ok, Err, refl, sym, ap, subst, ◌∙◌, inl, inr, ◌⊎◌, arith, append-nil, append_assoc}
use Rattle.std.specs.List.{AllByRecursion}
use Rattle.std.specs.Prelude.{map}
use Rattle.ff_xdr.specs.declared.error.XdrError.{XdrError}
use Rattle.rpc_record.specs.Replies.{RpcReply, reply_bytes, reply_at}
use Rattle.cluster_model.specs.declared.ids.NodeId.{NodeId}
use Rattle.cluster_model.specs.declared.ids.NodeId.TheVariants.{Mds, Server, Client}
use Rattle.cluster_model.specs.declared.entry.Entry.{Entry}
use Rattle.cluster_model.specs.declared.entry.Entry.TheVariants as entry
use Rattle.cluster_model.specs.Members.{IsOneOf}
use Rattle.cluster_laws.proofs.Lists.{all_split}
use Rattle.cluster_laws.specs.Machine.{Machine}
use Rattle.world_rule.specs.Machines.{nth}
use Rattle.world_rule.specs.ClusterWorlds.{ClusterState}
use Rattle.nfs4_compound.specs.Args.{argop4}
use Rattle.nfs4_compound.specs.Compounds.{CompoundValue}
use Rattle.nfs4_compound.specs.Laws.{AreServedWhole}
use Rattle.mds_receive.specs.MdsReceive.{IncomingValue, PassedOver, IsReply, IsCompound, of_reply, incoming_of}
use Rattle.client_mds_calls.specs.MdsCalls.{MdsCallValue}
use Rattle.client_mds_calls.specs.MdsCompounds.{mds_call_bytes}
use Rattle.client_mds_calls.specs.MdsCallLaws.{MdsMessage, HasCompoundRecord, IsCompoundUnderstood}
use Rattle.mds_rule.specs.MdsStates.{MdsSend, MdsValue, new_mds}
use Rattle.mds_walk.specs.MdsRuns.{MdsInput, MdsEvent, Hears, IsTimedOut, Ticks, RecallsFile, Resilvers, after_event}
use Rattle.mds_moves.specs.MdsMoves.{MayComeFrom, AnswersSend}
use Rattle.mds_histories.specs.MdsHistory.{MdsItem, Comes, Enters, Sends, mds_history}
use Rattle.client_state.specs.ClientSends.{ClientSend}
use Rattle.client_laws.specs.ClientHistory.{HasItem}
use Rattle.client_laws.specs.ClientHistory as client
use Rattle.client_records.specs.ClientRecords.{EachRunIsSpelled, EachRunIsNumbered}
use Rattle.node_histories.specs.Weaves.{IsUnseen, IsArrival, WeaveStep, Passes, Unseen, Seen, entries_in, items_in, HasPacket, IsShownAs, AreWoven, StandsInWeave}
use Rattle.node_histories.specs.ClientLives.{Life, journal_of}
use Rattle.node_histories.specs.NodeHistories.{ClientStory, HasLife, input_shown, mds_shown, is_client_entry, is_mds_entry, is_server_entry, is_world_entry, Origin, EnteredByClient, EnteredByMds, EnteredByServer, EnteredByWorld, SentByClient, SentByMds, SentByServer, IsToldByNodes}
use Rattle.node_histories.proofs.WeaveLemmas.{IsSeenAt, seen_at}
use Rattle.world_moves.specs.WorldMoves.{IsRunOf, IsEntryCarried}
use Rattle.world_moves.proofs.ReplyRecords.{incoming_reply}
use Rattle.read_runs.specs.ReadRuns.{ReadsInForm, HearsInForm, AreInForm}
use Rattle.world_journal.specs.Journal.{IsJournalInRange}
use Rattle.world_reads.proofs.Steps.{all_by_places, all_second}
use Rattle.world_reads.proofs.OwnEntries.{is_own, no_true, unseen_at, journal_at}
use Rattle.world_reads.proofs.Lives.{LifeFacts, life_facts, LivesOf, lives_of}
use Rattle.world_reads.proofs.LifeRecords.{compound}
use Rattle.world_reads.proofs.LifeCalls.{ClientRecord, RepliesSo, AsksSo, client_record, same_compound}
use Rattle.world_reads.proofs.ClientForms.{reads_in_form}

-- a life of a story
abbrev pub IsLifeIn : ClientStory → Life → Type 0
IsLifeIn story k = (k ≡ story.newest) ⊎ IsOneOf k story.older

-- what a client sent the metadata server
pub record HasClientRecord (stories : List ClientStory) (n : ℕ) (bytes : List ℕ) : Type 0 where
  pub story : ClientStory
  pub there : nth stories n ≡ Some story
  pub said : ClientRecord (IsLifeIn story) bytes

-- a compound of a client
pub record IsAskedBy (stories : List ClientStory) (node : NodeId) (bytes : List ℕ) : Type 0 where
  pub n : ℕ
  pub node_is : node ≡ Client n
  pub story : ClientStory
  pub there : nth stories n ≡ Some story
  pub life : Life
  pub inside : IsLifeIn story life
  pub xid : ℕ
  pub name : List ℕ
  pub call : MdsCallValue
  pub has : HasItem (items_in life.steps) (compound xid name call)
  pub speaks : HasCompoundRecord (record { xid = xid; owner = name; call = call })
  pub spelled : bytes ≡ mds_call_bytes xid name call

reply_no_compound : (r : RpcReply) (xid : ℕ) (v : CompoundValue) → incoming_of (reply_bytes r) ≡ IsCompound xid v → ⊥
reply_no_compound r xid v is = by_reading (reply_at (reply_bytes r)) (sym (incoming_reply r) ∙ is)
  where
    by_reading : (q : Result RpcReply XdrError) → of_reply q ≡ IsCompound xid v → ⊥
    by_reading (Ok reply) same = absurd cc
    by_reading (Err e) same = absurd cc

server_no_compound : (mc : Machine) (ss : List MdsSend) (k : ℕ) (bytes : List ℕ) (xid : ℕ) (v : CompoundValue) → MayComeFrom mc ss k bytes → incoming_of bytes ≡ IsCompound xid v → ⊥
server_no_compound mc ss k bytes xid v (inl passed) is = two_kinds (sym passed ∙ is)
  where
    two_kinds : PassedOver ≡ IsCompound xid v → ⊥
    two_kinds same = absurd cc
server_no_compound mc ss k bytes xid v (inr answers) is = two_kinds (sym answers.reads ∙ is)
  where
    two_kinds : IsReply answers.reply ≡ IsCompound xid v → ⊥
    two_kinds same = absurd cc

module _ (w : ClusterState) (t : IsToldByNodes w) (few : length w.machines.clients < 2 ^ 32) (range : IsJournalInRange w.journal) (spelled : EachRunIsSpelled) (numbered : EachRunIsNumbered) where
  -- the lives of a client
  pub of_client : (n : ℕ) (story : ClientStory) → nth t.stories n ≡ Some story → LivesOf t.stories w.machines.clients w.journal n story
  of_client n story there = lives_of t.stories w.machines.clients w.verifiers w.journal n story t.clients t.asked there

  life_so : (n : ℕ) (story : ClientStory) → nth t.stories n ≡ Some story → (k : Life) → IsLifeIn story k → LifeFacts numbered n w.journal k
  life_so n story there k inside =
      let l : LivesOf t.stories w.machines.clients w.journal n story = of_client n story there in
      life_facts numbered n w.journal story.newest story.older l.lives l.asked [] (sym l.told ∙ sym (append-nil (journal_of story.newest))) k inside

  record_so : (n : ℕ) (story : ClientStory) → nth t.stories n ≡ Some story → (k : Life) → IsLifeIn story k → (past : List Entry) (number : ℕ) (bytes : List ℕ) (send : ClientSend)
      → StandsInWeave k.begun k.steps past (client.Sends send) (entry.Packet number (Client n) Mds bytes) → HasClientRecord t.stories n bytes
  record_so n story there k inside past number bytes send stands =
      let l : LivesOf t.stories w.machines.clients w.journal n story = of_client n story there in
      let within = l.within in
      record { story = story; there = there; said = client_record spelled numbered w.journal range n (omega (arith, few, within)) (IsLifeIn story) (life_so n story there) k inside past number bytes send stands }

  by_origin : (past : List Entry) (number n : ℕ) (bytes : List ℕ) (e : Entry) → e ≡ entry.Packet number (Client n) Mds bytes → Origin t.stories t.mds past e → HasClientRecord t.stories n bytes
  by_origin past number n bytes e is (EnteredByClient m l life kind stands) = no_true (subst (λ (x : Entry). is_client_entry x ≡ true) is kind)
  by_origin past number n bytes e is (EnteredByMds kind stands) = no_true (subst (λ (x : Entry). is_mds_entry x ≡ true) is kind)
  by_origin past number n bytes e is (EnteredByServer kind) = no_true (subst (λ (x : Entry). is_server_entry x ≡ true) is kind)
  by_origin past number n bytes e is (EnteredByWorld kind) = no_true (subst (λ (x : Entry). is_world_entry x ≡ true) is kind)
  by_origin past number n bytes e is (SentByClient m other to sent l send same life stands) =
      let node : m ≡ n = who other m to sent (sym is ∙ same) in
      let its : HasLife t.stories n l = subst (λ (x : ℕ). HasLife t.stories x l) node life in
      record_so n its.story its.there l its.life past number bytes send (subst (λ (x : Entry). StandsInWeave l.begun l.steps past (client.Sends send) x) is stands)
    where
      who : (other m : ℕ) (to : NodeId) (sent : List ℕ) → entry.Packet number (Client n) Mds bytes ≡ entry.Packet other (Client m) to sent → m ≡ n
      who other m to sent two = cc
  by_origin past number n bytes e is (SentByMds other to sent send same stands) = no_true (subst (λ (x : Entry). is_own x ≡ true) (sym same ∙ is) refl)
  by_origin past number n bytes e is (SentByServer m other to sent same answers) = not_server other m to sent (sym is ∙ same)
    where
      not_server : (other m : ℕ) (to : NodeId) (sent : List ℕ) → entry.Packet number (Client n) Mds bytes ≡ entry.Packet other (Server m) to sent → HasClientRecord t.stories n bytes
      not_server other m to sent two = absurd cc

  pub client_packet : (past behind : List Entry) (number n : ℕ) (bytes : List ℕ) → w.journal ≡ past ++ entry.Packet number (Client n) Mds bytes ∷ behind → HasClientRecord t.stories n bytes
  client_packet past behind number n bytes is = by_origin past number n bytes (entry.Packet number (Client n) Mds bytes) refl (t.origins past behind (entry.Packet number (Client n) Mds bytes) is)

  -- ---- a compound that came

  asked_so : (n xid : ℕ) (bytes : List ℕ) (v : CompoundValue) → HasClientRecord t.stories n bytes → incoming_of bytes ≡ IsCompound xid v → IsAskedBy t.stories (Client n) bytes
  asked_so n xid bytes v h is = by_said h.said
    where
      by_said : ClientRecord (IsLifeIn h.story) bytes → IsAskedBy t.stories (Client n) bytes
      by_said (RepliesSo r same) = absurd (reply_no_compound r xid v (subst (λ (x : List ℕ). incoming_of x ≡ IsCompound xid v) same is))
      by_said (AsksSo k inside number name call has speaks same) =
          record { n = n; node_is = refl; story = h.story; there = h.there; life = k; inside = inside; xid = number; name = name; call = call; has = has; speaks = speaks; spelled = same }

  pub asked_by : (boots : List ℕ) → IsRunOf boots w → (past behind : List Entry) → w.journal ≡ past ++ behind → (number : ℕ) (from : NodeId) (bytes : List ℕ) (xid : ℕ) (v : CompoundValue) → HasPacket past number from Mds bytes
      → incoming_of bytes ≡ IsCompound xid v → IsAskedBy t.stories from bytes
  asked_by boots run past behind whole number from bytes xid v p is =
      by_node from (whole ∙ (ap (λ (l : List Entry). l ++ behind) p.split ∙ append_assoc p.before (entry.Packet number from Mds bytes ∷ p.behind) behind))
    where
      by_node : (node : NodeId) → w.journal ≡ p.before ++ entry.Packet number node Mds bytes ∷ (p.behind ++ behind) → IsAskedBy t.stories node bytes
      by_node Mds at = absurd (t.apart p.before (p.behind ++ behind) number bytes at)
      by_node (Server k) at =
          absurd
          (server_no_compound run.machine run.sends k bytes xid v
          (all_split (IsEntryCarried run.machine run.sends) p.before (entry.Packet number (Server k) Mds bytes) (p.behind ++ behind) (subst (λ (l : List Entry). AllByRecursion (IsEntryCarried run.machine run.sends) l) at run.packets)) is)
      by_node (Client n) at = asked_so n xid bytes v (client_packet p.before (p.behind ++ behind) number n bytes at) is

  -- ---- all that comes reads in form

  module _ (given : AreServedWhole) (understood : (m : MdsMessage) → IsCompoundUnderstood m) (boots : List ℕ) (run : IsRunOf boots w) where
    form_of : (from : NodeId) (bytes : List ℕ) (xid : ℕ) (v : CompoundValue) → IsAskedBy t.stories from bytes → incoming_of bytes ≡ IsCompound xid v → ReadsInForm v
    form_of from bytes xid v a is =
        let m : MdsMessage = record { xid = a.xid; owner = a.name; call = a.call } in
        reads_in_form given m (understood m a.speaks) xid v (subst (λ (x : List ℕ). incoming_of x ≡ IsCompound xid v) a.spelled is)

    pub seen_form : (past behind : List Entry) → w.journal ≡ past ++ behind → (input : MdsInput) (e : Entry) → IsShownAs Mds past (input_shown input) e → HearsInForm input
    seen_form past behind whole (Hears from bytes) (entry.Delivered number) shown = λ xid v is. form_of from bytes xid v (asked_by boots run past behind whole number from bytes xid v shown is) is
    seen_form past behind whole (Hears from bytes) e shown = absurd shown
    seen_form past behind whole (IsTimedOut to which) e shown = tt
    seen_form past behind whole Ticks e shown = tt
    seen_form past behind whole (RecallsFile file) e shown = tt
    seen_form past behind whole (Resilvers file) e shown = tt

-- ---- of each event

unseen_form : (input : MdsInput) → input_shown input ≡ IsUnseen → HearsInForm input
unseen_form (Hears from bytes) is = absurd cc
unseen_form (IsTimedOut to which) is = tt
unseen_form Ticks is = tt
unseen_form (RecallsFile file) is = tt
unseen_form (Resilvers file) is = tt

abbrev pub IsComingInForm : MdsItem → Type 0
IsComingInForm (Comes event) = HearsInForm event.input
IsComingInForm (Enters e) = Unit {0}
IsComingInForm (Sends send) = Unit {0}

abbrev pub IsStepInForm : WeaveStep MdsItem → Type 0
IsStepInForm (Passes e) = Unit {0}
IsStepInForm (Unseen item) = IsComingInForm item
IsStepInForm (Seen item e) = IsComingInForm item

items_in_form : (steps : List (WeaveStep MdsItem)) → AllByRecursion IsStepInForm steps → AllByRecursion IsComingInForm (items_in steps)
items_in_form [] all = tt
items_in_form (Passes e ∷ steps) all = items_in_form steps all.1
items_in_form (Unseen item ∷ steps) all = (all.0, items_in_form steps all.1)
items_in_form (Seen item e ∷ steps) all = (all.0, items_in_form steps all.1)

events_in_form : (m : MdsValue) (events : List MdsEvent) → AllByRecursion IsComingInForm (mds_history m events) → AreInForm events
events_in_form m [] all = tt
events_in_form m (e ∷ events) all =
    let s = after_event e m in
    (all.0, events_in_form s.mds events (all_second IsComingInForm (map Enters s.entries ++ map Sends s.sends) (mds_history s.mds events) all.1))

module _ (w : ClusterState) (t : IsToldByNodes w) (seen : (past behind : List Entry) → w.journal ≡ past ++ behind → (input : MdsInput) (e : Entry) → IsShownAs Mds past (input_shown input) e → HearsInForm input) where
  step_in_form : (a b : List (WeaveStep MdsItem)) (s : WeaveStep MdsItem) → t.mds.steps ≡ a ++ s ∷ b → IsStepInForm s
  step_in_form a b (Passes e) is = tt
  step_in_form a b (Unseen (Comes event)) is = unseen_form event.input (unseen_at mds_shown [] a b (Comes event) (subst (λ (l : List (WeaveStep MdsItem)). AreWoven mds_shown Mds [] l) is t.mds_is.woven))
  step_in_form a b (Unseen (Enters e)) is = tt
  step_in_form a b (Unseen (Sends send)) is = tt
  step_in_form a b (Seen (Comes event) e) is =
      let s : IsSeenAt mds_shown Mds [] a (Comes event) e b = seen_at mds_shown Mds [] a (Comes event) e b (subst (λ (l : List (WeaveStep MdsItem)). AreWoven mds_shown Mds [] l) is t.mds_is.woven) in
      seen (entries_in a) (e ∷ entries_in b) (journal_at w t a (Seen (Comes event) e ∷ b) is) event.input e s.is
  step_in_form a b (Seen (Enters x) e) is = tt
  step_in_form a b (Seen (Sends send) e) is = tt

  pub all_in_form : AreInForm t.mds.events
  all_in_form =
      events_in_form (new_mds t.mds.servers t.mds.mirrors) t.mds.events
      (subst (λ (l : List MdsItem). AllByRecursion IsComingInForm l) (sym t.mds_is.history) (items_in_form t.mds.steps (all_by_places IsStepInForm t.mds.steps (λ before s behind is. step_in_form before behind s is))))
