-- Every READ that is answered in a world obeys the read law.
use Rattle.std.proofs.Common.{◌≡◌, ◌<◌, ◌≤◌, ℕ, ◌^◌, List, [], ◌∷◌, ◌++◌, length, Option, Some, None, Result, Ok, refl, sym, ap, subst, ◌∙◌, inl, inr, ◌⊎◌, true, append_assoc}
use Rattle.std.specs.Int.{w64, from_be_bytes}
use Rattle.std.specs.List.{AllByRecursion}
use Rattle.std.proofs.lemmas.Option.{same_Some}
use Rattle.rpc_record.specs.declared.call.CallFault.{CallFault}
use Rattle.rpc_record.specs.Calls.{RpcCall, call_at}
use Rattle.rpc_record.specs.Replies.{RpcReply, reply_bytes}
use Rattle.rpc_record.specs.Laws.{IsReplyReadAgain}
use Rattle.cluster_model.specs.declared.ids.NodeId.{NodeId}
use Rattle.cluster_model.specs.declared.ids.NodeId.TheVariants.{Mds, Server, Client}
use Rattle.cluster_model.specs.declared.ids.FileId.{FileId}
use Rattle.cluster_model.specs.declared.entry.Entry.{Entry}
use Rattle.cluster_model.specs.declared.entry.Entry.TheVariants as entry
use Rattle.cluster_model.specs.Server.{ServerState}
use Rattle.cluster_laws.specs.FenceLaw.{live_in}
use Rattle.world_rule.specs.Machines.{nth}
use Rattle.world_rule.specs.ClusterWorlds.{ClusterState}
use Rattle.device_addr.specs.Universal.{AddressValue}
use Rattle.proper_servers.specs.ProperServers.{IsProper}
use Rattle.same_server.specs.SameServer.{DoesTheCall}
use Rattle.ds_calls.specs.DsCallLaws.{DsMessage, HasRecord, IsUnderstood}
use Rattle.nfs4_types.specs.Handles.{file_handle_of}
use Rattle.nfs4_compound.specs.Args.{argop4}
use Rattle.nfs4_compound.specs.Laws.{AreServedWhole}
use Rattle.mds_receive.specs.MdsReceive.{IsCompound, incoming_of}
use Rattle.client_mds_calls.specs.MdsCalls.{MdsCallValue}
use Rattle.client_mds_calls.specs.MdsCompounds.{mds_call_bytes}
use Rattle.client_mds_calls.specs.MdsCallLaws.{MdsMessage, HasCompoundRecord, IsCompoundUnderstood, compound_record_of, compound_message_call}
use Rattle.mds_rule.specs.FileOps.{read_length}
use Rattle.mds_rule.specs.MdsStates.{MdsValue, Replies}
use Rattle.mds_walk.specs.MdsRuns.{MdsEvent}
use Rattle.mds_laws.specs.MdsRunLaws.{NumbersAscend, NumbersFit}
use Rattle.mds_histories.specs.MdsHistory.{MdsItem, Comes, Enters, Sends}
use Rattle.mds_histories.specs.MdsHistory as of_mds
use Rattle.client_state.specs.ClientSends.{spelled_send}
use Rattle.client_laws.specs.ClientHistory.{HistoryItem, HasItem}
use Rattle.client_laws.specs.ClientHistory as client
use Rattle.client_records.specs.ClientRecords.{EachRunIsSpelled, EachRunIsNumbered}
use Rattle.node_histories.specs.Weaves.{WeaveStep, Seen, entries_in, items_in, StandsInWeave}
use Rattle.node_histories.specs.NodeHistories.{ClientStory, is_client_entry, is_server_entry, is_world_entry, Origin, EnteredByClient, EnteredByMds, EnteredByServer, EnteredByWorld, SentByClient, SentByMds, SentByServer, IsToldByNodes}
use Rattle.node_histories.proofs.WeaveLemmas.{entries_join, items_join}
use Rattle.world_moves.specs.WorldMoves.{IsRunOf}
use Rattle.read_runs.specs.ReadRuns as runs
use Rattle.ff_laws.specs.declared.read_call.ReadCall.{ReadCall}
use Rattle.ff_laws.specs.ReadCalls.{read_by, client_read_of}
use Rattle.ff_laws.specs.ReadLaw as law
use Rattle.ff_laws.proofs.ServedReads.{IsReadServed, served_lawful}
use Rattle.world_journal.specs.Journal.{IsJournalInRange}
use Rattle.world_reads.proofs.Steps.{ItemSplit, split_items, same_front, all_first, all_second}
use Rattle.world_reads.proofs.OwnEntries.{no_true, IsToldStep, all_told, journal_at, live_told, no_swaps}
use Rattle.world_reads.proofs.MdsPlaces.{Steps, hearing, ArrivedAt, arrived_at}
use Rattle.world_reads.proofs.LifeRecords.{compound}
use Rattle.world_reads.proofs.LifeCalls.{ClientRecord, RepliesSo, AsksSo, same_compound}
use Rattle.world_reads.proofs.ReadRecords.{compound_reads}
use Rattle.world_reads.proofs.ClientForms.{IsTakenAs, taken_as, IsReadInRange, read_in_range}
use Rattle.world_reads.proofs.WorldClients.{IsLifeIn, HasClientRecord, IsAskedBy, of_client, client_packet, asked_by, seen_form, all_in_form}
use Rattle.world_reads.proofs.SentNumbers.{StoryFacts, story_facts, reply_is_no_call}
use Rattle.world_reads.proofs.ReadCauses.{replied_first, handle_some, cause_told}

-- ---- the laws that it rests on

pub record ReadLaws : Type 0 where
  pub spelled : EachRunIsSpelled
  pub numbered : EachRunIsNumbered
  pub given : AreServedWhole
  pub asks : (m : MdsMessage) → IsCompoundUnderstood m
  pub calls : (m : DsMessage) → IsUnderstood m
  pub replies : (r : RpcReply) → IsReplyReadAgain r
  pub same : (s : ServerState) (m : DsMessage) → IsProper s → HasRecord m → DoesTheCall s m
  pub ascend : (servers : List AddressValue) (mirrors : ℕ) (events : List MdsEvent) → NumbersAscend servers mirrors events
  pub fit : (servers : List AddressValue) (mirrors : ℕ) (events : List MdsEvent) → NumbersFit servers mirrors events
  pub answered : runs.EachReadIsAnswered

abbrev bytes_of : HistoryItem → List ℕ
bytes_of (client.Sends send) = (spelled_send send).1
bytes_of item = []

abbrev fine : RpcCall → Result RpcCall CallFault
fine c = Ok c

same_number : (x y : RpcCall) → fine x ≡ fine y → x.xid ≡ y.xid
same_number x y is = cc

module _ (laws : ReadLaws) (boots : List ℕ) (w : ClusterState) (run : IsRunOf boots w) (t : IsToldByNodes w) (few : length w.machines.clients < 2 ^ 32) (range : IsJournalInRange w.journal) where
  facts : StoryFacts t.mds
  facts = story_facts w t (laws.ascend t.mds.servers t.mds.mirrors t.mds.events) (laws.fit t.mds.servers t.mds.mirrors t.mds.events)

  in_form : runs.AreInForm t.mds.events
  in_form = all_in_form w t (seen_form w t few range laws.spelled laws.numbered laws.given laws.asks boots run)

  few_mirrors : t.mds.mirrors ≤ 4
  few_mirrors = subst (λ (n : ℕ). n ≤ 4) (ap (λ (m : MdsValue). m.mirrors) (sym t.mds_is.mds) ∙ facts.mirrors) run.mds.setup.few

  -- ---- the requests of a READ

  module _ (from : NodeId) (bytes : List ℕ) (k : IsAskedBy t.stories from bytes) (read : ReadCall) (reads : client_read_of bytes ≡ Some read) (number : k.xid ≡ read.xid) where
    same_read : (others : List ℕ) → mds_call_bytes k.xid k.name k.call ≡ others → client_read_of others ≡ Some read
    same_read others same = ap client_read_of (sym same ∙ sym k.spelled) ∙ reads

    by_said : (others : List ℕ) → law.IsCallOf others read.xid → ClientRecord (IsLifeIn k.story) others → client_read_of others ≡ Some read
    by_said others call (RepliesSo r same) = absurd (reply_is_no_call r others call.call same call.reads)
    by_said others call (AsksSo j inside xid name asked has speaks same) =
        let m : MdsMessage = record { xid = xid; owner = name; call = asked } in
        let header : call_at others ≡ Ok (compound_message_call m) = ap call_at same ∙ (laws.asks m speaks).header in
        let its : xid ≡ k.xid = same_number (compound_message_call m) call.call (sym header ∙ call.reads) ∙ (call.number ∙ sym number) in
        let l = of_client w t few range laws.spelled laws.numbered k.n k.story k.there in
        let one : compound k.xid k.name k.call ≡ compound k.xid name asked =
        same_compound laws.numbered k.n k.story.newest k.story.older l.lives k.life j k.inside inside k.xid k.name name k.call asked k.has (subst (λ (x : ℕ). HasItem (items_in j.steps) (compound x name asked)) its has) in
        same_read others (ap bytes_of one ∙ (ap (λ (x : ℕ). mds_call_bytes x name asked) (sym its) ∙ sym same))

    requests_told : (past behind : List Entry) → w.journal ≡ past ++ behind → law.AreRequests past k.n read
    requests_told past behind whole others sent call =
        let packet : Entry = entry.Packet sent.number (Client k.n) Mds others in
        let there : w.journal ≡ sent.before ++ packet ∷ (sent.behind ++ behind) = whole ∙ (ap (λ (l : List Entry). l ++ behind) sent.split ∙ append_assoc sent.before (packet ∷ sent.behind) behind) in
        let h : HasClientRecord t.stories k.n others = client_packet w t few range laws.spelled laws.numbered sent.before (sent.behind ++ behind) sent.number k.n others there in
        let story : h.story ≡ k.story = same_Some h.story k.story (sym h.there ∙ k.there) in
        by_said others call (subst (λ (s : ClientStory). ClientRecord (IsLifeIn s) others) story h.said)

  -- ---- an answer

  answer_stands : (before : List Entry) (file : FileId) (status : ℕ) (bytes : List ℕ) (e : Entry) → e ≡ entry.ReadAnswer file status bytes → Origin t.stories t.mds before e
      → StandsInWeave [] t.mds.steps before (Enters (entry.ReadAnswer file status bytes)) (entry.ReadAnswer file status bytes)
  answer_stands before file status bytes e is (EnteredByClient n l life kind stands) = no_true (subst (λ (x : Entry). is_client_entry x ≡ true) is kind)
  answer_stands before file status bytes e is (EnteredByMds kind stands) = subst (λ (x : Entry). StandsInWeave [] t.mds.steps before (Enters x) x) is stands
  answer_stands before file status bytes e is (EnteredByServer kind) = no_true (subst (λ (x : Entry). is_server_entry x ≡ true) is kind)
  answer_stands before file status bytes e is (EnteredByWorld kind) = no_true (subst (λ (x : Entry). is_world_entry x ≡ true) is kind)
  answer_stands before file status bytes e is (SentByClient n number to sent l send same life stands) = absurd (two_kinds number (Client n) to sent (sym is ∙ same))
    where
      two_kinds : (number : ℕ) (from to : NodeId) (sent : List ℕ) → entry.ReadAnswer file status bytes ≡ entry.Packet number from to sent → ⊥
      two_kinds number from to sent two = absurd cc
  answer_stands before file status bytes e is (SentByMds number to sent send same stands) = absurd (two_kinds number Mds to sent (sym is ∙ same))
    where
      two_kinds : (number : ℕ) (from to : NodeId) (sent : List ℕ) → entry.ReadAnswer file status bytes ≡ entry.Packet number from to sent → ⊥
      two_kinds number from to sent two = absurd cc
  answer_stands before file status bytes e is (SentByServer n number to sent same answers) = absurd (two_kinds number n to sent (sym is ∙ same))
    where
      two_kinds : (number n : ℕ) (to : NodeId) (sent : List ℕ) → entry.ReadAnswer file status bytes ≡ entry.Packet number (Server n) to sent → ⊥
      two_kinds number n to sent two = absurd cc

  -- a READ that the history answers is served in the journal
  served : (earlier later : Steps) (file : FileId) (status : ℕ) (bytes : List ℕ) → t.mds.steps ≡ earlier ++ Seen (Enters (entry.ReadAnswer file status bytes)) (entry.ReadAnswer file status bytes) ∷ later
      → runs.IsReadAnswered (items_in earlier) file status bytes (items_in later) → IsReadServed (entries_in earlier) file status bytes (entries_in later)
  served earlier later file status bytes whole a =
      let e : Entry = entry.ReadAnswer file status bytes in
      let rest : Steps = Seen (Enters e) e ∷ later in
      let p : ItemSplit earlier a.start a.since = split_items earlier a.start a.since a.starts.split in
      let parts : t.mds.steps ≡ (p.first ++ p.second) ++ rest = whole ∙ ap (λ (l : Steps). l ++ Seen (Enters e) e ∷ later) p.split in
      let first : t.mds.steps ≡ p.first ++ (p.second ++ rest) = parts ∙ append_assoc p.first p.second rest in
      let told : AllByRecursion IsToldStep ((p.first ++ p.second) ++ rest) = subst (λ (l : Steps). AllByRecursion IsToldStep l) parts (all_told w t) in
      let told_both : AllByRecursion IsToldStep (p.first ++ p.second) = all_first IsToldStep (p.first ++ p.second) rest told in
      let told_first : AllByRecursion IsToldStep p.first = all_first IsToldStep p.first p.second told_both in
      let told_second : AllByRecursion IsToldStep p.second = all_second IsToldStep p.first p.second told_both in
      let told_later : AllByRecursion IsToldStep later = (all_second IsToldStep (p.first ++ p.second) rest told).1 in
      let came : ArrivedAt p.first a.starts.before a.starts.now a.node a.asked a.starts.swaps =
      arrived_at w t p.first (p.second ++ rest) first a.starts.before a.starts.now a.node a.asked a.starts.swaps told_first (p.first_items ∙ a.starts.start_is) in
      let step : WeaveStep MdsItem = Seen (Comes (hearing a.starts.now a.node a.asked)) (entry.Delivered came.number) in
      let start_is : entries_in p.first ≡ entries_in came.earlier ++ entry.Delivered came.number ∷ entries_in came.later = ap (λ (l : Steps). entries_in l) came.split ∙ entries_join came.earlier (step ∷ came.later) in
      let whole_early : w.journal ≡ entries_in came.earlier ++ entries_in ((step ∷ came.later) ++ (p.second ++ rest)) =
      journal_at w t came.earlier ((step ∷ came.later) ++ (p.second ++ rest)) (first ∙ (ap (λ (l : Steps). l ++ (p.second ++ rest)) came.split ∙ append_assoc came.earlier (step ∷ came.later) (p.second ++ rest))) in
      let k : IsAskedBy t.stories a.node a.asked =
      asked_by w t few range laws.spelled laws.numbered boots run (entries_in came.earlier) (entries_in ((step ∷ came.later) ++ (p.second ++ rest))) whole_early came.number a.node a.asked a.xid a.v came.packet a.compound in
      let m : MdsMessage = record { xid = k.xid; owner = k.name; call = k.call } in
      let taken : IsTakenAs m a.xid a.v = taken_as laws.given m (laws.asks m k.speaks) a.xid a.v (ap incoming_of (sym k.spelled) ∙ a.compound) in
      let in_range : IsReadInRange a.at a.count = read_in_range m k.speaks a.v taken.compound file a.at a.count a.reads in
      let read : ReadCall = record { xid = a.xid; handle = from_be_bytes w64 (file_handle_of file.0); offset = a.at; count = a.count } in
      let reads : client_read_of a.asked ≡ Some (record { xid = a.xid; handle = from_be_bytes w64 (file_handle_of file.0); offset = a.at; count = a.count }) =
      compound_reads a.asked a.xid a.v file a.at a.count a.compound a.reads ∙ ap (λ (h : Option ℕ). read_by a.xid h a.at a.count) (handle_some file.0) in
      let small : a.xid < 2 ^ 32 = subst (λ (n : ℕ). n < 2 ^ 32) taken.number k.speaks.xid_fits in
      let live_then : live_in (entries_in p.first) file ≡ Some a.live =
      live_told file None p.first told_first ∙ (ap (λ (l : List MdsItem). live_in (of_mds.entries_in l) file) p.first_items ∙ a.live_then) in
      let cause : runs.HasReadCause (items_in p.first) (items_in p.second) a.at (read_length a.count) a.live status bytes =
      subst (λ (l : List MdsItem). runs.HasReadCause l (items_in p.second) a.at (read_length a.count) a.live status bytes) (sym p.first_items)
      (subst (λ (l : List MdsItem). runs.HasReadCause a.start l a.at (read_length a.count) a.live status bytes) (sym p.second_items) a.cause) in
      record {
        client = k.n;
        read = read;
        replied = replied_first laws.replies later k.n a.xid a.reply a.later told_later (subst (λ (x : NodeId). items_in later ≡ Sends (Replies x a.reply) ∷ a.later) k.node_is a.replied) a.whole small;
        requests = requests_told a.node a.asked k read reads taken.number (entries_in earlier) (entries_in rest) (journal_at w t earlier rest whole);
        start = entries_in p.first;
        since = entries_in p.second;
        split = ap (λ (l : Steps). entries_in l) p.split ∙ entries_join p.first p.second;
        early = entries_in came.earlier;
        number = came.number;
        more = entries_in came.later;
        start_is = start_is;
        request = record {
          bytes = a.asked;
          there = subst (λ (x : NodeId). law.IsNumbered (entries_in came.earlier) came.number x Mds a.asked) k.node_is (record { before = came.packet.before; behind = came.packet.behind; split = came.packet.split });
          reads = reads;
        };
        no_more = no_swaps file p.second told_second (subst (λ (l : List MdsItem). AllByRecursion (runs.EntersNoSwapOf file) l) (sym p.second_items) a.starts.no_more);
        live = a.live;
        live_then = live_then;
        cause = cause_told w t range facts laws.calls p.first p.second rest parts a.at a.count in_range.offset file a.live live_then laws.same read refl refl status bytes cause;
      }

  pub reads_obey : law.ObeysReads w.journal
  reads_obey before behind file status bytes is =
      let e : Entry = entry.ReadAnswer file status bytes in
      let s : StandsInWeave [] t.mds.steps before (Enters e) e = answer_stands before file status bytes e refl (t.origins before behind e is) in
      let items : items_in t.mds.steps ≡ items_in s.earlier ++ Enters e ∷ items_in s.later = ap (λ (l : Steps). items_in l) s.split ∙ items_join s.earlier (Seen (Enters e) e ∷ s.later) in
      let a : runs.IsReadAnswered (items_in s.earlier) file status bytes (items_in s.later) =
      laws.answered t.mds.servers t.mds.mirrors t.mds.events few_mirrors in_form (items_in s.earlier) (items_in s.later) file status bytes (t.mds_is.history ∙ items) in
      let both : before ++ e ∷ behind ≡ before ++ e ∷ entries_in s.later = sym is ∙ (journal_at w t s.earlier (Seen (Enters e) e ∷ s.later) s.split ∙ ap (λ (l : List Entry). l ++ e ∷ entries_in s.later) (sym s.place)) in
      let rest : behind ≡ entries_in s.later = same_tail e behind (entries_in s.later) (same_front before (e ∷ behind) (e ∷ entries_in s.later) both) in
      served_lawful before file status bytes behind
      (subst (λ (l : List Entry). IsReadServed l file status bytes behind) (sym s.place) (subst (λ (l : List Entry). IsReadServed (entries_in s.earlier) file status bytes l) (sym rest) (served s.earlier s.later file status bytes s.split a)))
    where
      same_tail : (e : Entry) (a b : List Entry) → e ∷ a ≡ e ∷ b → a ≡ b
      same_tail e a b same = cc
