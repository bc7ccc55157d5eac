-- A reply that a life of a client heard from the metadata server under the number of its compound answers this compound, which came to the
-- metadata server before (RFC 5531, section 9).
use Rattle.std.proofs.Common.{◌≡◌, ◌<◌, ◌≤◌, ℕ, ◌^◌, length, List, [], ◌∷◌, ◌++◌, Result, Ok, Err, refl, sym, ap, subst, ◌∙◌, arith, append-nil, append_assoc}
use Rattle.std.specs.Prelude.{map}
use Rattle.ff_xdr.specs.declared.error.XdrError.{XdrError}
use Rattle.ff_xdr.specs.Form.{Value}
use Rattle.rpc_record.specs.Calls.{RpcCall}
use Rattle.rpc_record.specs.Replies.{RpcReply, reply_bytes, reply_at}
use Rattle.rpc_record.specs.Laws.{IsReplyReadAgain, IsReplySpelledSo}
use Rattle.cluster_model.specs.declared.ids.NodeId.{NodeId}
use Rattle.cluster_model.specs.declared.ids.NodeId.TheVariants.{Mds, Client}
use Rattle.cluster_model.specs.declared.entry.Entry.{Entry}
use Rattle.cluster_model.specs.declared.entry.Entry.TheVariants as entry
use Rattle.world_rule.specs.ClusterWorlds.{ClusterState}
use Rattle.nfs4_compound.specs.Args.{argop4}
use Rattle.nfs4_compound.specs.Compounds.{CompoundValue}
use Rattle.nfs4_compound.specs.Laws.{AreServedWhole}
use Rattle.mds_receive.specs.MdsReceive.{IsAnswered, IsCompound, of_reply, incoming_of}
use Rattle.mds_receive.specs.MdsReceiveLaws.{HasCallRecord, compound_with, IsTakenWhole}
use Rattle.client_mds_calls.specs.FittingCalls.{FitsAsked}
use Rattle.client_mds_calls.specs.MdsCalls.{MdsCallValue}
use Rattle.client_mds_calls.specs.MdsCompounds.{mds_ops, mds_call_bytes}
use Rattle.client_mds_calls.specs.MdsCallLaws.{MdsMessage, HasCompoundRecord, IsCompoundUnderstood, compound_message_call}
use Rattle.mds_rule.specs.MdsStates.{MdsStep, new_mds}
use Rattle.mds_walk.specs.MdsRuns.{MdsInput, MdsEvent, Hears, IsTimedOut, Ticks, RecallsFile, Resilvers, after_event}
use Rattle.mds_histories.specs.MdsHistory.{MdsItem, Comes, Enters, Sends, mds_history}
use Rattle.mds_histories.proofs.Histories.{history_on}
use Rattle.mds_replies.specs.ClientCalls.{IsCallIn, HearsCall, AreCalls, server_after, IsEventOf}
use Rattle.client_laws.specs.ClientHistory.{HistoryItem, HasItem}
use Rattle.client_laws.specs.ClientHistory as client
use Rattle.client_laws.proofs.Orders.{in_more}
use Rattle.client_records.specs.ClientRecords.{EachRunIsSpelled, EachRunIsNumbered}
use Rattle.node_histories.specs.Weaves.{WeaveStep, Seen, entries_in, items_in, HasPacket}
use Rattle.node_histories.specs.ClientLives.{Life}
use Rattle.node_histories.specs.NodeHistories.{HasLife, IsToldByNodes}
use Rattle.node_histories.proofs.WeaveLemmas.{entries_join, items_join}
use Rattle.world_moves.specs.WorldMoves.{IsRunOf}
use Rattle.world_moves.proofs.ReplyRecords.{incoming_reply}
use Rattle.world_journal.specs.Journal.{IsJournalInRange}
use Rattle.world_reads.proofs.Steps.{all_by_places}
use Rattle.world_reads.proofs.OwnEntries.{all_told, journal_at}
use Rattle.world_reads.proofs.MdsPlaces.{hearing, ArrivedAt, arrived_at}
use Rattle.world_reads.proofs.LifeRecords.{compound}
use Rattle.world_reads.proofs.ClientForms.{IsTakenAs, taken_as}
use Rattle.world_reads.proofs.WorldClients.{IsAskedBy, asked_by}
use Rattle.mds_replies.specs.AnsweredRequests.{HearsFitCall, AreFitCalls}
use Rattle.client_sessions.specs.FittingCalls.{EachRunAsksFit}
use Rattle.world_layouts.proofs.LifeRanges.{life_asks}
use Rattle.world_layouts.proofs.LifeSends.{LifeSteps, SaysThen, SaysReply, SaysCall, ClientSent, client_sent, LifeIs, life_is, has_record, packet_says}

-- ---- laws of lower crates

pub record CompoundLaws : Type 0 where
  pub spelled : EachRunIsSpelled
  pub numbered : EachRunIsNumbered
  pub given : AreServedWhole
  pub asks : (m : MdsMessage) → IsCompoundUnderstood m
  pub replies : (r : RpcReply) → IsReplyReadAgain r
  pub spells : (bytes : List ℕ) (r : RpcReply) → IsReplySpelledSo bytes r
  pub taken : (call : RpcCall) (tag : List ℕ) (ops : List (Value argop4)) → IsTakenWhole call tag ops
  pub fit : EachRunAsksFit

reply_no_compound : {A : Type 0} (r : RpcReply) (xid : ℕ) (v : CompoundValue) → incoming_of (reply_bytes r) ≡ IsCompound xid v → A
reply_no_compound {A = A} r xid v is = by_reading (reply_at (reply_bytes r)) (sym (incoming_reply r) ∙ is)
  where
    by_reading : (q : Result RpcReply XdrError) → of_reply q ≡ IsCompound xid v → A
    by_reading (Ok reply) same = absurd cc
    by_reading (Err e) same = absurd cc

pub event_is : (e : MdsEvent) (node : NodeId) (bytes : List ℕ) → e.input ≡ Hears node bytes → e ≡ hearing e.now node bytes
event_is e node bytes is = ap (λ (i : MdsInput). record { now = e.now; input = i }) is

-- ---- a compound that came

-- It is of a life of a client that sent it by then, and what the metadata server read as it.
pub record CameFrom {w : ClusterState} (t : IsToldByNodes w) (past : List Entry) (node : NodeId) (bytes : List ℕ) (xid : ℕ) (v : CompoundValue) : Type 0 where
  pub n : ℕ
  pub node_is : node ≡ Client n
  pub life : Life
  pub its : HasLife t.stories n life
  pub upto : LifeSteps
  pub rest : LifeSteps
  pub split : life.steps ≡ upto ++ rest
  pub since : List Entry
  pub place : past ≡ (life.begun ++ entries_in upto) ++ since
  pub name : List ℕ
  pub call : MdsCallValue
  pub has : HasItem (items_in upto) (compound xid name call)
  pub has_record : HasCompoundRecord (record { xid = xid; owner = name; call = call })
  pub fits : FitsAsked name call
  pub same : compound_with [] (mds_ops name call) ≡ v

-- an event of the metadata server with the place of what came in it
abbrev pub Arrival : {w : ClusterState} → IsToldByNodes w → List MdsEvent → List MdsEvent → MdsEvent → NodeId → List ℕ → Type 0
Arrival t before after e node bytes =
    ArrivedAt t.mds.steps (mds_history (new_mds t.mds.servers t.mds.mirrors) before) e.now node bytes
    ((map Enters (after_event e (server_after t.mds.servers t.mds.mirrors before)).entries ++ map Sends (after_event e (server_after t.mds.servers t.mds.mirrors before)).sends)
    ++ mds_history (after_event e (server_after t.mds.servers t.mds.mirrors before)).mds after)

module _ (laws : CompoundLaws) (boots : List ℕ) (w : ClusterState) (run : IsRunOf boots w) (t : IsToldByNodes w) (few : length w.machines.clients < 2 ^ 32) (range : IsJournalInRange w.journal) where
  pub came_at : (before after : List MdsEvent) (e : MdsEvent) → IsEventOf t.mds.events before e after → (node : NodeId) (bytes : List ℕ) → e.input ≡ Hears node bytes → Arrival t before after e node bytes
  came_at before after e split node bytes input =
      let step : MdsStep = after_event e (server_after t.mds.servers t.mds.mirrors before) in
      let behind : List MdsItem = (map Enters step.entries ++ map Sends step.sends) ++ mds_history step.mds after in
      let history : items_in t.mds.steps ≡ mds_history (new_mds t.mds.servers t.mds.mirrors) before ++ Comes e ∷ behind =
      sym t.mds_is.history ∙ (ap (λ (l : List MdsEvent). mds_history (new_mds t.mds.servers t.mds.mirrors) l) split ∙ history_on (new_mds t.mds.servers t.mds.mirrors) before (e ∷ after)) in
      arrived_at w t t.mds.steps [] (sym (append-nil t.mds.steps)) (mds_history (new_mds t.mds.servers t.mds.mirrors) before) e.now node bytes behind (all_told w t)
      (history ∙ ap (λ (x : MdsEvent). mds_history (new_mds t.mds.servers t.mds.mirrors) before ++ Comes x ∷ behind) (event_is e node bytes input))

  -- what a life asks fits its form
  pub life_fits : (n : ℕ) (l : Life) → HasLife t.stories n l → (xid : ℕ) (name : List ℕ) (call : MdsCallValue) → HasItem (items_in l.steps) (compound xid name call) → FitsAsked name call
  life_fits n l its xid name call has =
      let i : LifeIs w t n laws.numbered l = life_is w t laws.numbered n l its in
      let within = i.few in
      life_asks laws.fit w.journal range n (omega (arith, few, within)) l laws.numbered i.facts xid name call has

  by_says : (n : ℕ) (number : ℕ) (bytes : List ℕ) (xid : ℕ) (v : CompoundValue) (past behind : List Entry) (s : ClientSent t.stories past number n Mds bytes) → incoming_of bytes ≡ IsCompound xid v
      → SaysThen (s.stands.earlier ++ Seen (client.Sends s.send) (entry.Packet number (Client n) Mds bytes) ∷ []) bytes → CameFrom t (past ++ entry.Packet number (Client n) Mds bytes ∷ behind) (Client n) bytes xid v
  by_says n number bytes xid v past behind s is (SaysReply r same) = reply_no_compound r xid v (ap incoming_of (sym same) ∙ is)
  by_says n number bytes xid v past behind s is (SaysCall other name call has same) =
      let packet : Entry = entry.Packet number (Client n) Mds bytes in
      let step : WeaveStep HistoryItem = Seen (client.Sends s.send) packet in
      let upto : LifeSteps = s.stands.earlier ++ step ∷ [] in
      let split : s.life.steps ≡ upto ++ s.stands.later = s.stands.split ∙ sym (append_assoc s.stands.earlier (step ∷ []) s.stands.later) in
      let there : HasItem (items_in s.life.steps) (compound other name call) =
      subst (λ (l : List HistoryItem). HasItem l (compound other name call)) (sym (ap (λ (l : LifeSteps). items_in l) split ∙ items_join upto s.stands.later)) (in_more (compound other name call ∷ []) (items_in upto) (items_in s.stands.later) has) in
      let record_is : HasCompoundRecord (record { xid = other; owner = name; call = call }) = has_record w t laws.spelled laws.numbered few range n s.life s.its other name call there in
      let m : MdsMessage = record { xid = other; owner = name; call = call } in
      let taken : IsTakenAs m xid v = taken_as laws.given m (laws.asks m record_is) xid v (ap incoming_of (sym same) ∙ is) in
      let entries : s.life.begun ++ entries_in upto ≡ past ++ packet ∷ [] =
      ap (λ (l : List Entry). s.life.begun ++ l) (entries_join s.stands.earlier (step ∷ [])) ∙ (sym (append_assoc s.life.begun (entries_in s.stands.earlier) (packet ∷ [])) ∙ ap (λ (l : List Entry). l ++ packet ∷ []) (sym s.stands.place)) in
      record {
        n = n;
        node_is = refl;
        life = s.life;
        its = s.its;
        upto = upto;
        rest = s.stands.later;
        split = split;
        since = behind;
        place = sym (append_assoc past (packet ∷ []) behind) ∙ ap (λ (l : List Entry). l ++ behind) (sym entries);
        name = name;
        call = call;
        has = subst (λ (x : ℕ). HasItem (items_in upto) (compound x name call)) taken.number has;
        has_record = subst (λ (x : ℕ). HasCompoundRecord (record { xid = x; owner = name; call = call })) taken.number record_is;
        fits = life_fits n s.life s.its other name call there;
        same = taken.compound;
      }

  -- by its packet
  pub came_from : (past behind : List Entry) → w.journal ≡ past ++ behind → (number : ℕ) (node : NodeId) (bytes : List ℕ) (xid : ℕ) (v : CompoundValue) → HasPacket past number node Mds bytes → incoming_of bytes ≡ IsCompound xid v
      → CameFrom t past node bytes xid v
  came_from past behind whole number node bytes xid v p is =
      let k : IsAskedBy t.stories node bytes = asked_by w t few range laws.spelled laws.numbered boots run past behind whole number node bytes xid v p is in
      by_node node k.n k.node_is p
    where
      by_node : (at : NodeId) (n : ℕ) → at ≡ Client n → HasPacket past number at Mds bytes → CameFrom t past at bytes xid v
      by_node at n same q =
          subst (λ (x : NodeId). CameFrom t past x bytes xid v) (sym same) (by_client n (subst (λ (x : NodeId). HasPacket past number x Mds bytes) same q))
        where
          by_client : (m : ℕ) → HasPacket past number (Client m) Mds bytes → CameFrom t past (Client m) bytes xid v
          by_client m r =
              let packet : Entry = entry.Packet number (Client m) Mds bytes in
              let there : w.journal ≡ r.before ++ packet ∷ (r.behind ++ behind) = whole ∙ (ap (λ (l : List Entry). l ++ behind) r.split ∙ append_assoc r.before (packet ∷ r.behind) behind) in
              let s : ClientSent t.stories r.before number m Mds bytes = client_sent w t r.before (r.behind ++ behind) number m Mds bytes there in
              subst (λ (l : List Entry). CameFrom t l (Client m) bytes xid v) (sym r.split) (by_says m number bytes xid v r.before r.behind s is (packet_says w t laws.numbered r.before number m bytes s))

  -- the journal up to what came in an event
  abbrev pub past_of : (before after : List MdsEvent) (e : MdsEvent) (node : NodeId) (bytes : List ℕ) → Arrival t before after e node bytes → List Entry
  past_of before after e node bytes a = entries_in a.earlier

  pub caller_of : (before after : List MdsEvent) (e : MdsEvent) (node : NodeId) (bytes : List ℕ) (a : Arrival t before after e node bytes) (xid : ℕ) (v : CompoundValue) → incoming_of bytes ≡ IsCompound xid v
      → CameFrom t (entries_in a.earlier) node bytes xid v
  caller_of before after e node bytes a xid v is =
      came_from (entries_in a.earlier) (entries_in (Seen (Comes (hearing e.now node bytes)) (entry.Delivered a.number) ∷ a.later)) (journal_at w t a.earlier (Seen (Comes (hearing e.now node bytes)) (entry.Delivered a.number) ∷ a.later) a.split) a.number node bytes xid v a.packet is

  pub is_call_in : (node : NodeId) (bytes : List ℕ) (xid : ℕ) (v : CompoundValue) (past : List Entry) (k : CameFrom t past node bytes xid v) → IsCallIn v k.name k.call
  is_call_in node bytes xid v past k = subst (λ (x : CompoundValue). IsCallIn x k.name k.call) k.same (record { tag = refl; ops = refl; stop = refl; count = refl })

  -- each compound that comes is a client's call
  pub are_calls : AreCalls t.mds.events
  are_calls = all_by_places (λ (e : MdsEvent). HearsCall e.input) t.mds.events (λ before e after is. by_input before after e is e.input refl)
    where
      by_input : (before after : List MdsEvent) (e : MdsEvent) → t.mds.events ≡ before ++ e ∷ after → (input : MdsInput) → e.input ≡ input → HearsCall input
      by_input before after e is (Hears node bytes) its = λ xid v reads.
          (let a : Arrival t before after e node bytes = came_at before after e is node bytes its in
          let k : CameFrom t (entries_in a.earlier) node bytes xid v = caller_of before after e node bytes a xid v reads in
          (k.name, k.call, is_call_in node bytes xid v (entries_in a.earlier) k))
      by_input before after e is (IsTimedOut to which) its = tt
      by_input before after e is Ticks its = tt
      by_input before after e is (RecallsFile file) its = tt
      by_input before after e is (Resilvers file) its = tt

  pub are_fit_calls : AreFitCalls t.mds.events
  are_fit_calls = all_by_places (λ (e : MdsEvent). HearsFitCall e.input) t.mds.events (λ before e after is. by_input before after e is e.input refl)
    where
      by_input : (before after : List MdsEvent) (e : MdsEvent) → t.mds.events ≡ before ++ e ∷ after → (input : MdsInput) → e.input ≡ input → HearsFitCall input
      by_input before after e is (Hears node bytes) its = λ xid v reads.
          (let a : Arrival t before after e node bytes = came_at before after e is node bytes its in
          let k : CameFrom t (entries_in a.earlier) node bytes xid v = caller_of before after e node bytes a xid v reads in
          (k.name, k.call, is_call_in node bytes xid v (entries_in a.earlier) k, k.fits.0))
      by_input before after e is (IsTimedOut to which) its = tt
      by_input before after e is Ticks its = tt
      by_input before after e is (RecallsFile file) its = tt
      by_input before after e is (Resilvers file) its = tt

  -- ---- nothing of a client is answered at once

  call_has_record : (m : MdsMessage) → HasCompoundRecord m → HasCallRecord (compound_message_call m)
  call_has_record m has = (has.xid_fits, (omega arith, (omega arith, (omega arith, ((omega arith, omega arith), (omega arith, omega arith))))))

  taken_so : (m : MdsMessage) → HasCompoundRecord m → length (mds_ops m.owner m.call) ≤ 16 → incoming_of (mds_call_bytes m.xid m.owner m.call) ≡ IsCompound m.xid (compound_with [] (mds_ops m.owner m.call))
  taken_so m has short = laws.taken (compound_message_call m) [] (mds_ops m.owner m.call) (call_has_record m has)
      (record { program = refl; version = refl; procedure = refl; args = (laws.asks m has).operations; few = short })

  two_ways : {A : Type 0} (bytes : List ℕ) (xid : ℕ) (v : CompoundValue) → IsAnswered bytes ≡ IsCompound xid v → A
  two_ways bytes xid v is = absurd cc

  reply_not_answered : {A : Type 0} (r : RpcReply) (answer : List ℕ) → incoming_of (reply_bytes r) ≡ IsAnswered answer → A
  reply_not_answered {A = A} r answer is = by_reading (reply_at (reply_bytes r)) (sym (incoming_reply r) ∙ is)
    where
      by_reading : (q : Result RpcReply XdrError) → of_reply q ≡ IsAnswered answer → A
      by_reading (Ok reply) same = absurd cc
      by_reading (Err e) same = absurd cc

  pub none_answered : (before after : List MdsEvent) (e : MdsEvent) → IsEventOf t.mds.events before e after → (n : ℕ) (asked answer : List ℕ) → e.input ≡ Hears (Client n) asked → incoming_of asked ≡ IsAnswered answer → ⊥
  none_answered before after e split n asked answer input is =
      let a : Arrival t before after e (Client n) asked = came_at before after e split (Client n) asked input in
      let packet : Entry = entry.Packet a.number (Client n) Mds asked in
      let there : w.journal ≡ a.packet.before ++ packet ∷ (a.packet.behind ++ entries_in (Seen (Comes (hearing e.now (Client n) asked)) (entry.Delivered a.number) ∷ a.later)) =
      journal_at w t a.earlier (Seen (Comes (hearing e.now (Client n) asked)) (entry.Delivered a.number) ∷ a.later) a.split
      ∙ (ap (λ (l : List Entry). l ++ entries_in (Seen (Comes (hearing e.now (Client n) asked)) (entry.Delivered a.number) ∷ a.later)) a.packet.split
      ∙ append_assoc a.packet.before (packet ∷ a.packet.behind) (entries_in (Seen (Comes (hearing e.now (Client n) asked)) (entry.Delivered a.number) ∷ a.later))) in
      let s : ClientSent t.stories a.packet.before a.number n Mds asked =
      client_sent w t a.packet.before (a.packet.behind ++ entries_in (Seen (Comes (hearing e.now (Client n) asked)) (entry.Delivered a.number) ∷ a.later)) a.number n Mds asked there in
      by_saying s (packet_says w t laws.numbered a.packet.before a.number n asked s)
    where
      by_saying : {number : ℕ} {past : List Entry} (s : ClientSent t.stories past number n Mds asked) → SaysThen (s.stands.earlier ++ Seen (client.Sends s.send) (entry.Packet number (Client n) Mds asked) ∷ []) asked → ⊥
      by_saying s (SaysReply r same) = reply_not_answered r answer (ap incoming_of (sym same) ∙ is)
      by_saying {number = number} s (SaysCall other name call has same) =
          let step : WeaveStep HistoryItem = Seen (client.Sends s.send) (entry.Packet number (Client n) Mds asked) in
          let upto : LifeSteps = s.stands.earlier ++ step ∷ [] in
          let split : s.life.steps ≡ upto ++ s.stands.later = s.stands.split ∙ sym (append_assoc s.stands.earlier (step ∷ []) s.stands.later) in
          let there : HasItem (items_in s.life.steps) (compound other name call) =
          subst (λ (l : List HistoryItem). HasItem l (compound other name call)) (sym (ap (λ (l : LifeSteps). items_in l) split ∙ items_join upto s.stands.later)) (in_more (compound other name call ∷ []) (items_in upto) (items_in s.stands.later) has) in
          let m : MdsMessage = record { xid = other; owner = name; call = call } in
          let taken : incoming_of (mds_call_bytes other name call) ≡ IsCompound other (compound_with [] (mds_ops name call)) =
          taken_so m (has_record w t laws.spelled laws.numbered few range n s.life s.its other name call there) (life_fits n s.life s.its other name call there).1 in
          two_ways answer other (compound_with [] (mds_ops name call)) (sym is ∙ (ap incoming_of same ∙ taken))
