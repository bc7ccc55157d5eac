-- What a life of a client heard of its compounds: the events of the metadata server in which they came and were answered.
use Rattle.std.proofs.Common.{◌≡◌, ◌<◌, ℕ, ◌^◌, false, length, List, [], ◌∷◌, ◌++◌, Ok, sym, ap, subst, ◌∙◌, append_assoc}
use Rattle.rpc_record.specs.Replies.{RpcReply, reply_at}
use Rattle.cluster_model.specs.declared.ids.NodeId.TheVariants.{Mds, Client}
use Rattle.cluster_model.specs.declared.entry.Entry.{Entry}
use Rattle.cluster_model.specs.declared.entry.Entry.TheVariants as entry
use Rattle.world_rule.specs.ClusterWorlds.{ClusterState}
use Rattle.nfs4_types.specs.declared.ids.SessionId.{SessionId}
use Rattle.client_mds_calls.specs.MdsCalls.{MdsCallValue, OnSlot, SlotCallValue, ask_of, ask_on_slot, takes_slot}
use Rattle.client_mds_calls.specs.MdsReplies.{MdsReplyValue, reply_of_ask}
use Rattle.mds_walk.specs.MdsRuns.{MdsEvent, Hears}
use Rattle.mds_replies.specs.ClientCalls.{IsCallFrom, IsEventOf}
use Rattle.client_laws.specs.ClientHistory.{HistoryItem, HasItem}
use Rattle.client_laws.proofs.Orders.{in_more}
use Rattle.client_sessions.specs.HeardReplies.{IsHeard}
use Rattle.client_sessions.proofs.HeardLater.{heard_sent}
use Rattle.node_histories.specs.Weaves.{Seen, entries_in, items_in}
use Rattle.node_histories.specs.ClientLives.{Life, journal_of}
use Rattle.node_histories.specs.NodeHistories.{HasLife, IsToldByNodes}
use Rattle.node_histories.proofs.WeaveLemmas.{entries_join}
use Rattle.world_moves.specs.WorldMoves.{IsRunOf}
use Rattle.world_journal.specs.Journal.{IsJournalInRange}
use Rattle.world_reads.proofs.LifeRecords.{compound}
use Rattle.mds_replies.specs.AnsweredRequests.{StaysRoomy, StandsFor}
use Rattle.mds_replies.specs.GivenAnswers.{AnswersAsked}
use Rattle.world_layouts.proofs.LifeSends.{LifeSteps, hearing_from, HeardAt, heard_at, LifeIs, life_is}
use Rattle.world_layouts.proofs.HeardCalls.{are_fit_calls}
use Rattle.world_layouts.proofs.RepliesHeard.{AnswersCall, ReplyLaws, answers_call, asked_place}
use Rattle.world_layouts.proofs.OwnCalls.{CalledOwn, own_call, same_takes}

-- The reply that a life heard, at its place, and the call that it answers.
pub record WasReplied {w : ClusterState} (t : IsToldByNodes w) (n : ℕ) (l : Life) (past : List HistoryItem) (bytes : List ℕ) (now : ℕ) (behind : List HistoryItem) (reply : RpcReply) (name : List ℕ) (call : MdsCallValue) : Type 0 where
  pub heard : HeardAt n l past Mds bytes now behind
  pub answered : AnswersCall t heard.packet.before n reply
  pub own : CalledOwn t n l answered.answers.early (answered.answers.late ++ answered.after) answered.answers.f reply.xid name call

module _ (laws : ReplyLaws) (boots : List ℕ) (w : ClusterState) (run : IsRunOf boots w) (t : IsToldByNodes w) (few : length w.machines.clients < 2 ^ 32) (range : IsJournalInRange w.journal) (roomy : StaysRoomy t.mds.servers t.mds.mirrors t.mds.events) where
  -- the journal at a packet that a life heard
  packet_split : (n : ℕ) (l : Life) → HasLife t.stories n l → (past : List HistoryItem) (bytes : List ℕ) (now : ℕ) (behind : List HistoryItem) (h : HeardAt n l past Mds bytes now behind)
      → (rest : List Entry) × (w.journal ≡ h.packet.before ++ entry.Packet h.number Mds (Client n) bytes ∷ rest)
  packet_split n l its past bytes now behind h =
      let i : LifeIs w t n laws.calls.numbered l = life_is w t laws.calls.numbered n l its in
      let delivered : List Entry = entry.Delivered h.number ∷ entries_in h.later in
      let packet : Entry = entry.Packet h.number Mds (Client n) bytes in
      let steps : entries_in l.steps ≡ entries_in h.earlier ++ delivered =
      ap (λ (s : LifeSteps). entries_in s) h.split ∙ entries_join h.earlier (Seen (hearing_from Mds bytes now) (entry.Delivered h.number) ∷ h.later) in
      let lived : journal_of l ≡ (l.begun ++ entries_in h.earlier) ++ delivered = ap (λ (x : List Entry). l.begun ++ x) steps ∙ sym (append_assoc l.begun (entries_in h.earlier) delivered) in
      let whole : w.journal ≡ (l.begun ++ entries_in h.earlier) ++ (delivered ++ i.facts.rest) =
      i.facts.whole ∙ (ap (λ (x : List Entry). x ++ i.facts.rest) lived ∙ append_assoc (l.begun ++ entries_in h.earlier) delivered i.facts.rest) in (
        h.packet.behind ++ (delivered ++ i.facts.rest),
        whole ∙ (ap (λ (x : List Entry). x ++ (delivered ++ i.facts.rest)) h.packet.split ∙ append_assoc h.packet.before (packet ∷ h.packet.behind) (delivered ++ i.facts.rest)),
      )

  pub was_answered : (n : ℕ) (l : Life) → HasLife t.stories n l → (past : List HistoryItem) (bytes : List ℕ) (now : ℕ) (behind : List HistoryItem) → items_in l.steps ≡ past ++ hearing_from Mds bytes now ∷ behind
      → (reply : RpcReply) → reply_at bytes ≡ Ok reply → (name : List ℕ) (call : MdsCallValue) → HasItem (items_in l.steps) (compound reply.xid name call) → WasReplied t n l past bytes now behind reply name call
  was_answered n l its past bytes now behind is reply reads name call has =
      let i : LifeIs w t n laws.calls.numbered l = life_is w t laws.calls.numbered n l its in
      let h : HeardAt n l past Mds bytes now behind = heard_at n l i.facts.is past Mds bytes now behind is in
      let p : (rest : List Entry) × (w.journal ≡ h.packet.before ++ entry.Packet h.number Mds (Client n) bytes ∷ rest) = packet_split n l its past bytes now behind h in
      let a : AnswersCall t h.packet.before n reply = answers_call laws boots w run t few range roomy h.packet.before p.0 h.number n bytes p.1 reply reads in
      record {
        heard = h;
        answered = a;
        own =
            own_call laws.calls boots w run t few range n l its reply.xid name call has a.answers.early (a.answers.late ++ a.after) a.answers.f a.asked_split a.answers.name a.answers.call a.answers.came;
      }

  -- ---- by what was heard

  -- a reply was heard to a compound, in the items of a life
  pub record HeardReply (n : ℕ) (l : Life) (past : List HistoryItem) (name : List ℕ) (call : MdsCallValue) (says : MdsReplyValue) (behind : List HistoryItem) : Type 0 where
    pub before : List HistoryItem
    pub until : List HistoryItem
    pub bytes : List ℕ
    pub now : ℕ
    pub rest : List HistoryItem
    pub reply : RpcReply
    pub past_is : past ≡ (before ++ compound reply.xid name call ∷ until) ++ hearing_from Mds bytes now ∷ behind
    pub says_so : reply_of_ask (ask_of call) reply ≡ says
    pub has : HasItem (items_in l.steps) (compound reply.xid name call)
    pub was : WasReplied t n l (before ++ compound reply.xid name call ∷ until) bytes now (behind ++ rest) reply name call

  -- under this number
  pub record HeardUnder (n : ℕ) (l : Life) (past : List HistoryItem) (xid : ℕ) (name : List ℕ) (call : MdsCallValue) (says : MdsReplyValue) (behind : List HistoryItem) : Type 0 where
    pub heard : HeardReply n l past name call says behind
    pub number : heard.reply.xid ≡ xid

  pub heard_under : (n : ℕ) (l : Life) → HasLife t.stories n l → (past rest : List HistoryItem) → items_in l.steps ≡ past ++ rest → (xid : ℕ) (name : List ℕ) (call : MdsCallValue) (says : MdsReplyValue) (behind : List HistoryItem)
      → IsHeard past xid name call says behind → HeardUnder n l past xid name call says behind
  heard_under n l its past rest items xid name call says behind h =
      let number : xid ≡ h.reply.xid = sym h.number in
      let split : past ≡ h.before ++ compound h.reply.xid name call ∷ (h.until ++ hearing_from Mds h.bytes h.now ∷ behind) =
      subst (λ (x : ℕ). past ≡ h.before ++ compound x name call ∷ (h.until ++ hearing_from Mds h.bytes h.now ∷ behind)) number h.split in
      let joined : past ≡ (h.before ++ compound h.reply.xid name call ∷ h.until) ++ hearing_from Mds h.bytes h.now ∷ behind =
      split ∙ sym (append_assoc h.before (compound h.reply.xid name call ∷ h.until) (hearing_from Mds h.bytes h.now ∷ behind)) in
      let whole : items_in l.steps ≡ (h.before ++ compound h.reply.xid name call ∷ h.until) ++ hearing_from Mds h.bytes h.now ∷ (behind ++ rest) =
      items ∙ (ap (λ (x : List HistoryItem). x ++ rest) joined ∙ append_assoc (h.before ++ compound h.reply.xid name call ∷ h.until) (hearing_from Mds h.bytes h.now ∷ behind) rest) in
      let has : HasItem (items_in l.steps) (compound h.reply.xid name call) =
      subst (λ (x : ℕ). HasItem (items_in l.steps) (compound x name call)) number
      (subst (λ (x : List HistoryItem). HasItem x (compound xid name call)) (sym items) (in_more (compound xid name call ∷ []) past rest (heard_sent past xid name call says behind h))) in
      record {
        heard = record {
          before = h.before;
          until = h.until;
          bytes = h.bytes;
          now = h.now;
          rest = rest;
          reply = h.reply;
          past_is = joined;
          says_so = h.says_so;
          has = has;
          was = was_answered n l its (h.before ++ compound h.reply.xid name call ∷ h.until) h.bytes h.now (behind ++ rest) whole h.reply h.reply_is name call has;
        };
        number = h.number;
      }

  pub heard_reply : (n : ℕ) (l : Life) → HasLife t.stories n l → (past rest : List HistoryItem) → items_in l.steps ≡ past ++ rest → (xid : ℕ) (name : List ℕ) (call : MdsCallValue) (says : MdsReplyValue) (behind : List HistoryItem)
      → IsHeard past xid name call says behind → HeardReply n l past name call says behind
  heard_reply n l its past rest items xid name call says behind h = (heard_under n l its past rest items xid name call says behind h).heard

  -- ---- what the reply to a request on a slot stands on

  pub stands_so : (n : ℕ) (l : Life) (past : List HistoryItem) (bytes : List ℕ) (now : ℕ) (behind : List HistoryItem) (reply : RpcReply) (name : List ℕ) (session : SessionId) (number : ℕ) (c : SlotCallValue)
      → (a : WasReplied t n l past bytes now behind reply name (OnSlot session number c))
      → StandsFor t.mds.servers t.mds.mirrors (a.answered.before ++ a.answered.e ∷ []) a.answered.answers.early session number c (reply_of_ask (ask_on_slot c) reply)
  stands_so n l past bytes now behind reply name session number c a = a.answered.answers.stands name session number c a.own.called a.own.fits.0

  -- ---- the event in which another call was answered

  pub answered_now : (n : ℕ) (l : Life) → HasLife t.stories n l → (past : List HistoryItem) (bytes : List ℕ) (now : ℕ) (behind : List HistoryItem) (reply : RpcReply) (name : List ℕ) (call : MdsCallValue)
      → (a : WasReplied t n l past bytes now behind reply name call) → HasItem (items_in l.steps) (compound reply.xid name call) → takes_slot (ask_of call) ≡ false → IsCallFrom a.answered.e (Client n) reply.xid name call
  answered_now n l its past bytes now behind reply name call a has none =
      let k : AnswersAsked t.mds.servers t.mds.mirrors a.answered.before a.answered.e (Client n) reply =
      laws.asked t.mds.servers t.mds.mirrors t.mds.events a.answered.before a.answered.after a.answered.e (are_fit_calls laws.calls boots w run t few range) a.answered.split (Client n) reply a.answered.sent in
      let at : IsEventOf t.mds.events k.early k.f (k.late ++ a.answered.after) = asked_place laws boots w run t few range roomy a.answered.before a.answered.after k.early k.late a.answered.e k.f a.answered.split k.split in
      let first : CalledOwn t n l k.early (k.late ++ a.answered.after) k.f reply.xid name call =
      own_call laws.calls boots w run t few range n l its reply.xid name call has k.early (k.late ++ a.answered.after) k.f at k.name k.call k.came in
      let takes : takes_slot (ask_of k.call) ≡ false = same_asked k.f k.name k.call k.came first.called ∙ none in
      let here : IsCallFrom a.answered.e (Client n) reply.xid k.name k.call = k.now takes in
      (own_call laws.calls boots w run t few range n l its reply.xid name call has a.answered.before a.answered.after a.answered.e a.answered.split k.name k.call here).called
    where
      same_asked : (f : MdsEvent) (other : List ℕ) (asked : MdsCallValue) → IsCallFrom f (Client n) reply.xid other asked → IsCallFrom f (Client n) reply.xid name call → takes_slot (ask_of asked) ≡ takes_slot (ask_of call)
      same_asked f other asked one two = same_takes laws.calls boots w run t few range f (Client n) reply.xid other name asked call one two (same_bytes one.bytes two.bytes (sym one.input ∙ two.input))
        where
          same_bytes : (x y : List ℕ) → Hears (Client n) x ≡ Hears (Client n) y → x ≡ y
          same_bytes x y is = cc
