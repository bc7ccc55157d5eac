-- A READ that a mirror answered was answered with what that mirror showed at a moment since the start.
use Rattle.std.proofs.Common.{◌≡◌, ◌<◌, ◌≤◌, ℕ, ◌^◌, true, List, [], ◌∷◌, ◌++◌, Option, Some, None, Ok, refl, sym, ap, subst, ◌∙◌, inl, inr, ◌⊎◌, arith, append_assoc}
use Rattle.std.specs.List.{AllByRecursion}
use Rattle.std.proofs.lemmas.Option.{same_Some, none-some}
use Rattle.ff_xdr.specs.declared.error.XdrError.{XdrError}
use Rattle.rpc_record.specs.Calls.{RpcCall, call_bytes}
use Rattle.rpc_record.specs.Replies.{RpcReply, reply_bytes, reply_at}
use Rattle.cluster_model.specs.declared.ids.NodeId.{NodeId}
use Rattle.cluster_model.specs.declared.ids.NodeId.TheVariants.{Mds, Server, Client}
use Rattle.cluster_model.specs.declared.ids.MirrorId.{MirrorId}
use Rattle.cluster_model.specs.declared.entry.Entry.{Entry}
use Rattle.cluster_model.specs.declared.entry.Entry.TheVariants as entry
use Rattle.cluster_model.specs.Content.{shown_of}
use Rattle.cluster_model.specs.Journal.{content_of}
use Rattle.cluster_model.specs.Server.{ServerState}
use Rattle.cluster_model.specs.GuardLaws.{IsTold}
use Rattle.cluster_model.specs.DsCalls.{DsReplyValue, Read, Bytes, ds_step}
use Rattle.cluster_model.specs.Members.{IsOneOf}
use Rattle.world_rule.specs.ClusterWorlds.{ClusterState}
use Rattle.ds_files.specs.Receive.{Outcome, outcome_of}
use Rattle.ds_calls.specs.MadeCalls.{ds_rpc_call}
use Rattle.ds_calls.specs.GivenReplies.{reply_of_call}
use Rattle.ds_calls.specs.DsCallLaws.{DsMessage, HasRecord, IsUnderstood, record_of}
use Rattle.proper_servers.specs.ProperServers.{IsProper}
use Rattle.recall_calls.specs.RecallCalls.{recall_rpc_call}
use Rattle.same_server.specs.SameServer.{DoesTheCall, caller_of_user}
use Rattle.mds_receive.specs.MdsReceive.{IncomingValue, PassedOver, IsReply, of_reply, incoming_of}
use Rattle.mds_rule.specs.FileOps.{read_length}
use Rattle.mds_rule.specs.MdsStates.{MdsSend, CallsServer, CallsBack, Replies, Answers}
use Rattle.mds_rule.specs.Spelled.{mds_name, spelled_send}
use Rattle.mds_laws.specs.MdsRunLaws.{number_sent, FitsNumber}
use Rattle.mds_histories.specs.MdsHistory.{MdsItem, Comes, Sends, sends_in}
use Rattle.node_histories.specs.Weaves.{WeaveStep, Seen, entries_in, items_in, HasPacket, IsSendingOf, StandsInWeave}
use Rattle.node_histories.specs.NodeHistories.{AnswersArrival, is_client_entry, is_mds_entry, is_server_entry, is_world_entry, Origin, EnteredByClient, EnteredByMds, EnteredByServer, EnteredByWorld, SentByClient, SentByMds, SentByServer, IsToldByNodes}
use Rattle.node_histories.proofs.WeaveLemmas.{entries_join, items_join}
use Rattle.world_moves.proofs.ReplyRecords.{incoming_reply, reply_silent, silence, ReadsUnder, Passes, Reads, reads_under, RepliesUnder, NoReply, HasReply, replies_under}
use Rattle.read_runs.specs.ReadRuns as runs
use Rattle.ff_laws.specs.declared.read_call.ReadCall.{ReadCall}
use Rattle.ff_laws.specs.ReadLaw as law
use Rattle.world_reads.proofs.Steps.{Splits, Longer, Shorter, splits, same_front}
use Rattle.world_reads.proofs.OwnEntries.{is_own, no_true, IsToldStep, journal_at}
use Rattle.world_reads.proofs.MdsPlaces.{Steps, hearing, ArrivedAt, arrived_at, SentIn, sent_in, in_sends}
use Rattle.world_reads.proofs.RunForms.{IsAnswerForm}
use Rattle.world_reads.proofs.SentNumbers.{StoryFacts}
use Rattle.world_reads.proofs.AskedReads.{asks_mirror, sends_read, part_sends}
use Rattle.world_reads.proofs.ServerBytes.{shows_so}

-- ---- the number of a data server's reply

same_reply : (x y : RpcReply) → IsReply x ≡ IsReply y → x ≡ y
same_reply x y is = cc

passed_is_no_reply : (x : RpcReply) → PassedOver ≡ IsReply x → ⊥
passed_is_no_reply x is = absurd cc

-- a reply to a call of this number has it
under_call : (s : ServerState) (c : RpcCall) (answer : List ℕ) (reply : RpcReply) → c.xid < 2 ^ 32 → (outcome_of s (call_bytes c)).reply ≡ Some answer → incoming_of answer ≡ IsReply reply → c.xid ≡ reply.xid
under_call s c answer reply small is reads = by_outcome (replies_under s c small)
  where
    by_reading : (r : RpcReply) → reply_bytes r ≡ answer → r.xid ≡ c.xid → ReadsUnder (reply_bytes r) r.xid → c.xid ≡ reply.xid
    by_reading r same number (Passes passed) = absurd (passed_is_no_reply reply (sym passed ∙ (ap incoming_of same ∙ reads)))
    by_reading r same number (Reads other other_reads other_number) =
        let one : other ≡ reply = same_reply other reply (sym other_reads ∙ (ap incoming_of same ∙ reads)) in
        sym number ∙ (sym other_number ∙ ap (λ (x : RpcReply). x.xid) one)

    by_outcome : RepliesUnder (outcome_of s (call_bytes c)) c.xid → c.xid ≡ reply.xid
    by_outcome (NoReply none) = absurd (none-some answer (sym none ∙ is))
    by_outcome (HasReply r given number) =
        by_reading r (same_Some (reply_bytes r) answer (sym given ∙ is)) number (reads_under r (subst (λ (n : ℕ). n < 2 ^ 32) (sym number) small))

no_answer : (s : ServerState) (r : RpcReply) (asked answer : List ℕ) → asked ≡ reply_bytes r → (outcome_of s asked).reply ≡ Some answer → ⊥
no_answer s r asked answer same is = none-some answer (sym (ap (λ (o : Outcome). o.reply) (reply_silent s r)) ∙ (ap (λ (b : List ℕ). (outcome_of s b).reply) (sym same) ∙ is))

-- what was asked was sent under the number of the reply
answered_number : (send : MdsSend) (s : ServerState) (asked answer : List ℕ) (reply : RpcReply) → (spelled_send send).1 ≡ asked → IsAnswerForm send → FitsNumber (number_sent send) → (outcome_of s asked).reply ≡ Some answer
    → incoming_of answer ≡ IsReply reply → number_sent send ≡ Some reply.xid
answered_number (CallsServer server xid uid call) s asked answer reply same form fits is reads =
    let few : xid ≤ 4294967295 = fits.1 in
    let its : (outcome_of s (call_bytes (ds_rpc_call xid mds_name uid call))).reply ≡ Some answer = ap (λ (b : List ℕ). (outcome_of s b).reply) same ∙ is in
    ap (λ (n : ℕ). Some n) (under_call s (ds_rpc_call xid mds_name uid call) answer reply (omega (arith, few)) its reads)
answered_number (CallsBack xid back file stateid) s asked answer reply same form fits is reads =
    let few : xid ≤ 4294967295 = fits.1 in
    let its : (outcome_of s (call_bytes (recall_rpc_call xid back file stateid))).reply ≡ Some answer = ap (λ (b : List ℕ). (outcome_of s b).reply) same ∙ is in
    ap (λ (n : ℕ). Some n) (under_call s (recall_rpc_call xid back file stateid) answer reply (omega (arith, few)) its reads)
answered_number (Replies node other) s asked answer reply same form fits is reads = absurd (no_answer s other asked answer (sym same) is)
answered_number (Answers node bytes) s asked answer reply same form fits is reads = absurd (no_answer s form.reply asked answer (sym same ∙ form.is) is)

-- ---- what the data server said

same_bytes : (x y : List ℕ) → Some x ≡ Some y → x ≡ y
same_bytes x y is = same_Some x y is

ok_reply : (x y : RpcReply) → of_reply (Ok x) ≡ IsReply y → x ≡ y
ok_reply x y is = cc

-- to the record of a READ
module _ (same : (s : ServerState) (m : DsMessage) → IsProper s → HasRecord m → DoesTheCall s m) where
  said_by : (s : ServerState) (m : DsMessage) → IsProper s → HasRecord m → (answer : List ℕ) (reply : RpcReply) → (outcome_of s (record_of m)).reply ≡ Some answer → incoming_of answer ≡ IsReply reply
      → reply_of_call m.call reply ≡ (ds_step s (caller_of_user m.user) m.call).reply
  said_by s m proper has answer reply is reads =
      let d : DoesTheCall s m = same s m proper has in
      let bytes : reply_bytes d.reply ≡ answer = same_bytes (reply_bytes d.reply) answer (sym d.bytes ∙ is) in
      let one : d.reply ≡ reply = ok_reply d.reply reply (ap of_reply (sym d.again) ∙ (sym (incoming_reply d.reply) ∙ (ap incoming_of bytes ∙ reads))) in
      ap (λ (r : RpcReply). reply_of_call m.call r) (sym one) ∙ d.answer

  -- ---- in the journal

  module _ (w : ClusterState) (t : IsToldByNodes w) (facts : StoryFacts t.mds) where
    -- a packet of a data server answers what came
    answers_of : (past : List Entry) (number k : ℕ) (bytes : List ℕ) (e : Entry) → e ≡ entry.Packet number (Server k) Mds bytes → Origin t.stories t.mds past e → AnswersArrival past k Mds bytes
    answers_of past number k bytes e is (EnteredByClient n l life kind stands) = no_true (subst (λ (x : Entry). is_client_entry x ≡ true) is kind)
    answers_of past number k bytes e is (EnteredByMds kind stands) = no_true (subst (λ (x : Entry). is_mds_entry x ≡ true) is kind)
    answers_of past number k bytes e is (EnteredByServer kind) = no_true (subst (λ (x : Entry). is_server_entry x ≡ true) is kind)
    answers_of past number k bytes e is (EnteredByWorld kind) = no_true (subst (λ (x : Entry). is_world_entry x ≡ true) is kind)
    answers_of past number k bytes e is (SentByClient n other to sent l send same_entry life stands) = not_client other n to sent (sym is ∙ same_entry)
      where
        not_client : (other n : ℕ) (to : NodeId) (sent : List ℕ) → entry.Packet number (Server k) Mds bytes ≡ entry.Packet other (Client n) to sent → AnswersArrival past k Mds bytes
        not_client other n to sent two = absurd cc
    answers_of past number k bytes e is (SentByMds other to sent send same_entry stands) = no_true (subst (λ (x : Entry). is_own x ≡ true) (sym same_entry ∙ is) refl)
    answers_of past number k bytes e is (SentByServer n other to sent same_entry answers) =
        let two : entry.Packet other (Server n) to sent ≡ entry.Packet number (Server k) Mds bytes = sym same_entry ∙ is in
        subst (λ (x : ℕ). AnswersArrival past x Mds bytes) (server_is other n to sent two) (subst (λ (x : NodeId). AnswersArrival past n x bytes) (to_is other n to sent two)
        (subst (λ (x : List ℕ). AnswersArrival past n to x) (bytes_are other n to sent two) answers))
      where
        server_is : (other n : ℕ) (to : NodeId) (sent : List ℕ) → entry.Packet other (Server n) to sent ≡ entry.Packet number (Server k) Mds bytes → n ≡ k
        server_is other n to sent two = cc

        to_is : (other n : ℕ) (to : NodeId) (sent : List ℕ) → entry.Packet other (Server n) to sent ≡ entry.Packet number (Server k) Mds bytes → to ≡ Mds
        to_is other n to sent two = cc

        bytes_are : (other n : ℕ) (to : NodeId) (sent : List ℕ) → entry.Packet other (Server n) to sent ≡ entry.Packet number (Server k) Mds bytes → sent ≡ bytes
        bytes_are other n to sent two = cc

    -- ---- the place of what was asked

    -- the answer came in a part, and was asked for by a send of that part under its number
    record AskedIn (part : Steps) (k : ℕ) (answer : List ℕ) (reply : RpcReply) : Type 0 where
      before : List Entry
      more : List Entry
      whole : entries_in part ≡ before ++ more
      asked : List ℕ
      server : ServerState
      its_number : server.number ≡ k
      truth : IsTold server before
      proper : IsProper server
      given : (outcome_of server asked).reply ≡ Some answer
      earlier : Steps
      send : MdsSend
      number : ℕ
      later : Steps
      split : part ≡ earlier ++ Seen (Sends send) (entry.Packet number Mds (Server k) asked) ∷ later
      inside : (z : List Entry) × (before ≡ entries_in earlier ++ z)
      spelled : spelled_send send ≡ (Server k, asked)
      among : IsOneOf send (sends_in (items_in t.mds.steps))
      its_xid : number_sent send ≡ Some reply.xid

    asked_in : (part rest : Steps) → t.mds.steps ≡ part ++ rest → (front behind : List Entry) (number k : ℕ) (answer : List ℕ) (reply : RpcReply) → entries_in part ≡ front ++ behind → HasPacket front number (Server k) Mds answer
        → incoming_of answer ≡ IsReply reply → AskedIn part k answer reply
    asked_in part rest whole front behind number k answer reply is p reads =
        let packet : Entry = entry.Packet number (Server k) Mds answer in
        let here : entries_in part ≡ p.before ++ packet ∷ (p.behind ++ behind) = is ∙ (ap (λ (l : List Entry). l ++ behind) p.split ∙ append_assoc p.before (packet ∷ p.behind) behind) in
        let journal : w.journal ≡ p.before ++ packet ∷ ((p.behind ++ behind) ++ entries_in rest) =
        journal_at w t part rest whole ∙ (ap (λ (l : List Entry). l ++ entries_in rest) here ∙ append_assoc p.before (packet ∷ (p.behind ++ behind)) (entries_in rest)) in
        let a : AnswersArrival p.before k Mds answer = answers_of p.before number k answer packet refl (t.origins p.before ((p.behind ++ behind) ++ entries_in rest) packet journal) in
        let delivered : List Entry = entry.Delivered a.number ∷ (outcome_of a.server a.asked).entries in
        let more : List Entry = delivered ++ packet ∷ (p.behind ++ behind) in
        let began : entries_in part ≡ a.before ++ more = here ∙ (ap (λ (l : List Entry). l ++ packet ∷ (p.behind ++ behind)) a.split ∙ append_assoc a.before delivered (packet ∷ (p.behind ++ behind))) in
        let request : Entry = entry.Packet a.number Mds (Server k) a.asked in
        let there : entries_in part ≡ a.came.before ++ request ∷ (a.came.behind ++ more) = began ∙ (ap (λ (l : List Entry). l ++ more) a.came.split ∙ append_assoc a.came.before (request ∷ a.came.behind) more) in
        let s : SentIn w t part a.came.before a.number (Server k) a.asked = sent_in w t part rest whole a.came.before (a.came.behind ++ more) a.number (Server k) a.asked there in
        let items : items_in part ≡ items_in s.earlier ++ Sends s.send ∷ items_in s.later = ap (λ (l : Steps). items_in l) s.split ∙ items_join s.earlier (Seen (Sends s.send) request ∷ s.later) in
        let inside : IsOneOf s.send (sends_in (items_in t.mds.steps)) = part_sends part rest t.mds.steps whole s.send (in_sends (items_in part) (items_in s.earlier) (items_in s.later) s.send items) in
        record {
          before = a.before;
          more = more;
          whole = began;
          asked = a.asked;
          server = a.server;
          its_number = a.its_number;
          truth = a.truth;
          proper = a.proper;
          given = a.reply;
          earlier = s.earlier;
          send = s.send;
          number = a.number;
          later = s.later;
          split = s.split;
          inside = (request ∷ a.came.behind, a.came.split ∙ ap (λ (l : List Entry). l ++ request ∷ a.came.behind) (sym s.place));
          spelled = s.spelled;
          among = inside;
          its_xid = answered_number s.send a.server a.asked answer reply (ap (λ (x : NodeId × List ℕ). x.1) s.spelled) (facts.form s.send inside) (facts.fits s.send inside) a.reply reads;
        }

    -- ---- what was shown

    -- a place of a send in two parts: in the first, or behind it
    behind_start : (a b earlier later : Steps) (s : WeaveStep MdsItem) → a ++ b ≡ earlier ++ s ∷ later → ((front back : Steps) → a ≡ front ++ s ∷ back → ⊥) → (middle : Steps) × (earlier ≡ a ++ middle)
    behind_start a b earlier later s is none = by_split (splits a b earlier (s ∷ later) is)
      where
        head_is : (x : WeaveStep MdsItem) (middle : Steps) → s ∷ later ≡ x ∷ (middle ++ b) → x ≡ s
        head_is x middle same = cc

        by_split : Splits a b earlier (s ∷ later) → (middle : Steps) × (earlier ≡ a ++ middle)
        by_split (Longer middle first second) = (middle, first)
        by_split (Shorter x middle first second) = absurd (none earlier middle (subst (λ (y : WeaveStep MdsItem). a ≡ earlier ++ y ∷ middle) (head_is x middle second) first))

    module _ (a b rest : Steps) (whole : t.mds.steps ≡ (a ++ b) ++ rest) (at count : ℕ) (live : List MirrorId) (bytes : List ℕ) (g : runs.WasGiven (items_in a) (items_in b) at (read_length count) live bytes)
        (has : HasRecord (asks_mirror g.mirror at (read_length count) g.xid)) where
      asks_among : IsOneOf (sends_read g.mirror at (read_length count) g.xid) (sends_in (items_in t.mds.steps))
      asks_among =
          let items : items_in (a ++ b) ≡ (items_in a ++ g.asked.before) ++ Sends (sends_read g.mirror at (read_length count) g.xid) ∷ g.behind =
          items_join a b ∙ (ap (λ (l : List MdsItem). items_in a ++ l) g.asked.split ∙ sym (append_assoc (items_in a) g.asked.before (Sends (sends_read g.mirror at (read_length count) g.xid) ∷ g.behind))) in
          part_sends (a ++ b) rest t.mds.steps whole (sends_read g.mirror at (read_length count) g.xid) (in_sends (items_in (a ++ b)) (items_in a ++ g.asked.before) g.behind (sends_read g.mirror at (read_length count) g.xid) items)

      shown_by_asked : AskedIn (a ++ b) g.mirror.server g.answer g.reply → IsOneOf g.mirror live → (read : ReadCall) → at ≡ read.offset → count ≡ read.count → law.WasShown (entries_in a) (entries_in b) read live bytes
      shown_by_asked q one read offset few =
          let number : number_sent q.send ≡ Some g.xid = q.its_xid ∙ ap (λ (n : ℕ). Some n) g.number in
          let same_send : q.send ≡ sends_read g.mirror at (read_length count) g.xid = facts.once q.send (sends_read g.mirror at (read_length count) g.xid) g.xid q.among asks_among number refl in
          let packet : Entry = entry.Packet q.number Mds (Server g.mirror.server) q.asked in
          let later : (middle : Steps) × (q.earlier ≡ a ++ middle) =
          behind_start a b q.earlier q.later (Seen (Sends q.send) packet) q.split
          (λ front back is.
          g.asked.new q.send (in_sends (items_in a) (items_in front) (items_in back) q.send (ap (λ (l : Steps). items_in l) is ∙ items_join front (Seen (Sends q.send) packet ∷ back))) number) in
          let until : List Entry = entries_in later.0 ++ q.inside.0 in
          let before_is : q.before ≡ entries_in a ++ (entries_in later.0 ++ q.inside.0) =
          q.inside.1 ∙ (ap (λ (l : Steps). entries_in l ++ q.inside.0) later.1 ∙ (ap (λ (l : List Entry). l ++ q.inside.0) (entries_join a later.0) ∙ append_assoc (entries_in a) (entries_in later.0) q.inside.0)) in
          let asked_is : q.asked ≡ record_of (asks_mirror g.mirror at (read_length count) g.xid) =
          ap (λ (x : NodeId × List ℕ). x.1) (sym q.spelled) ∙ ap (λ (s : MdsSend). (spelled_send s).1) same_send in
          let said : reply_of_call (Read g.mirror.fileid at (read_length count)) g.reply ≡ (ds_step q.server (caller_of_user 0) (Read g.mirror.fileid at (read_length count))).reply =
          said_by q.server (asks_mirror g.mirror at (read_length count) g.xid) q.proper has g.answer g.reply (ap (λ (x : List ℕ). (outcome_of q.server x).reply) (sym asked_is) ∙ q.given) g.reads in
          let shows : law.cut_of at count (shown_of (content_of q.before g.mirror).content) ≡ bytes =
          shows_so q.server q.before q.truth (caller_of_user 0) g.mirror at count bytes g.shown g.eof q.its_number (sym said ∙ g.says) in
          let there : law.cut_of at count (shown_of (content_of (entries_in a ++ (entries_in later.0 ++ q.inside.0)) g.mirror).content) ≡ bytes =
          subst (λ (l : List Entry). law.cut_of at count (shown_of (content_of l g.mirror).content) ≡ bytes) before_is shows in
          record {
            mirror = g.mirror;
            live_then = one;
            until = entries_in later.0 ++ q.inside.0;
            behind = q.more;
            split = same_front (entries_in a) (entries_in b) ((entries_in later.0 ++ q.inside.0) ++ q.more)
                (sym (entries_join a b) ∙ (q.whole ∙ (ap (λ (l : List Entry). l ++ q.more) before_is ∙ append_assoc (entries_in a) (entries_in later.0 ++ q.inside.0) q.more)));
            shows = subst (λ (n : ℕ). law.cut_of n read.count (shown_of (content_of (entries_in a ++ (entries_in later.0 ++ q.inside.0)) g.mirror).content) ≡ bytes) offset
                (subst (λ (n : ℕ). law.cut_of at n (shown_of (content_of (entries_in a ++ (entries_in later.0 ++ q.inside.0)) g.mirror).content) ≡ bytes) few there);
          }

      pub shown_told : AllByRecursion IsToldStep (a ++ b) → IsOneOf g.mirror live → (read : ReadCall) → at ≡ read.offset → count ≡ read.count → law.WasShown (entries_in a) (entries_in b) read live bytes
      shown_told told one read offset few =
          let asked_then : List MdsItem = g.asked.before ++ Sends (sends_read g.mirror at (read_length count) g.xid) ∷ g.until in
          let coming : MdsItem = Comes (hearing g.now (Server g.mirror.server) g.answer) in
          let in_since : items_in b ≡ asked_then ++ coming ∷ g.later =
          g.asked.split ∙ (ap (λ (l : List MdsItem). g.asked.before ++ Sends (sends_read g.mirror at (read_length count) g.xid) ∷ l) g.came ∙ sym (append_assoc g.asked.before (Sends (sends_read g.mirror at (read_length count) g.xid) ∷ g.until) (coming ∷ g.later))) in
          let in_part : items_in (a ++ b) ≡ (items_in a ++ asked_then) ++ coming ∷ g.later = items_join a b ∙ (ap (λ (l : List MdsItem). items_in a ++ l) in_since ∙ sym (append_assoc (items_in a) asked_then (coming ∷ g.later))) in
          let came : ArrivedAt (a ++ b) (items_in a ++ asked_then) g.now (Server g.mirror.server) g.answer g.later =
          arrived_at w t (a ++ b) rest whole (items_in a ++ asked_then) g.now (Server g.mirror.server) g.answer g.later told in_part in
          let at_entry : entries_in (a ++ b) ≡ entries_in came.earlier ++ entries_in (Seen coming (entry.Delivered came.number) ∷ came.later) =
          ap (λ (l : Steps). entries_in l) came.split ∙ entries_join came.earlier (Seen coming (entry.Delivered came.number) ∷ came.later) in
          shown_by_asked
          (asked_in (a ++ b) rest whole (entries_in came.earlier) (entries_in (Seen coming (entry.Delivered came.number) ∷ came.later)) came.number g.mirror.server g.answer g.reply at_entry came.packet g.reads) one read offset few
