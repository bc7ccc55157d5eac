-- The reply to a READ, and what its answer rests on, as the journal tells them.
use Rattle.std.proofs.Common.{◌≡◌, ◌<◌, ◌≤◌, ℕ, ◌^◌, Bool, true, cond, List, [], ◌∷◌, ◌++◌, length, Some, None, refl, sym, ap, subst, ◌∙◌, inl, inr, arith, append_assoc, append-nil}
use Rattle.std.specs.Int.{w64, from_be_bytes}
use Rattle.std.specs.Prelude.{◌==◌}
use Rattle.std.specs.List.{AllByRecursion}
use Rattle.ff_xdr.specs.Form.{long}
use Rattle.ff_xdr.proofs.CutShort.{length-long}
use Rattle.rpc_record.specs.Replies.{RpcReply, ReplyFits, reply_bytes, reply_at}
use Rattle.rpc_record.specs.Laws.{IsReplyReadAgain}
use Rattle.cluster_model.specs.declared.ids.NodeId.TheVariants.{Mds, Client}
use Rattle.cluster_model.specs.declared.ids.FileId.{FileId}
use Rattle.cluster_model.specs.declared.ids.MirrorId.{MirrorId}
use Rattle.cluster_model.specs.declared.entry.Entry.{Entry}
use Rattle.cluster_model.specs.declared.entry.Entry.TheVariants as entry
use Rattle.cluster_laws.specs.FenceLaw.{live_in}
use Rattle.world_rule.specs.ClusterWorlds.{ClusterState}
use Rattle.compound_reply.specs.Replied.{success_reply}
use Rattle.cluster_model.specs.Server.{ServerState}
use Rattle.cluster_model.specs.Members.{IsOneOf}
use Rattle.proper_servers.specs.ProperServers.{IsProper}
use Rattle.same_server.specs.SameServer.{DoesTheCall}
use Rattle.ds_calls.specs.DsCallLaws.{DsMessage, HasRecord, IsUnderstood}
use Rattle.mds_rule.specs.FileOps.{read_length}
use Rattle.mds_rule.specs.MdsStates.{MdsSend, Replies}
use Rattle.mds_histories.specs.MdsHistory.{MdsItem, Enters, Sends, sends_in}
use Rattle.nfs4_types.specs.Handles.{file_handle_of}
use Rattle.node_histories.specs.Weaves.{WeaveStep, Seen, entries_in, items_in}
use Rattle.node_histories.specs.NodeHistories.{IsToldByNodes}
use Rattle.node_histories.proofs.WeaveLemmas.{entries_join, items_join}
use Rattle.read_runs.specs.ReadRuns as runs
use Rattle.ff_laws.specs.declared.read_call.ReadCall.{ReadCall}
use Rattle.ff_laws.specs.ReadCalls.{handle_number}
use Rattle.ff_laws.specs.ReadLaw as law
use Rattle.world_reads.proofs.Steps.{all_first, all_second}
use Rattle.world_journal.specs.Journal.{IsEntryInRange, IsJournalInRange}
use Rattle.world_reads.proofs.OwnEntries.{IsToldStep, all_told, journal_at, no_replies}
use Rattle.world_reads.proofs.MdsPlaces.{Steps, EnteredAt, entered_at, SentAt, sent_at, in_sends}
use Rattle.world_reads.proofs.SentNumbers.{StoryFacts}
use Rattle.world_reads.proofs.LiveRanges.{live_fits}
use Rattle.world_reads.proofs.AskedReads.{asks_mirror, sends_read, read_has_record, part_sends, asked_told}
use Rattle.world_reads.proofs.GivenReads.{shown_told}

-- ---- the reply

replies_fit : (xid : ℕ) (results : List ℕ) → xid < 2 ^ 32 → ReplyFits (success_reply xid results)
replies_fit xid results small = ((small, (refl, ((omega arith, omega arith), tt))), tt, tt)

pub replied_first : ((r : RpcReply) → IsReplyReadAgain r) → (later : Steps) (n xid : ℕ) (reply : RpcReply) (more : List MdsItem) → AllByRecursion IsToldStep later → items_in later ≡ Sends (Replies (Client n) reply) ∷ more
    → reply ≡ success_reply xid reply.results → xid < 2 ^ 32 → law.IsRepliedFirst (entries_in later) n xid
replied_first again later n xid reply more told is whole small =
    let s : SentAt later [] (Replies (Client n) reply) more = sent_at later [] (Replies (Client n) reply) more told is in
    let packet : Entry = entry.Packet s.number Mds (Client n) (reply_bytes reply) in
    let step : WeaveStep MdsItem = Seen (Sends (Replies (Client n) reply)) packet in
    record {
      quiet = entries_in s.earlier;
      number = s.number;
      bytes = reply_bytes reply;
      more = entries_in s.later;
      split = ap (λ (l : Steps). entries_in l) s.split ∙ entries_join s.earlier (step ∷ s.later);
      first = no_replies s.earlier s.earlier_items (all_first IsToldStep s.earlier (step ∷ s.later) (subst (λ (l : Steps). AllByRecursion IsToldStep l) s.split told));
      its = record {
        reply = success_reply xid reply.results;
        reads = ap (λ (r : RpcReply). reply_at (reply_bytes r)) whole ∙ again (success_reply xid reply.results) (replies_fit xid reply.results small);
        number = refl;
      };
    }

-- ---- the handle

-- a handle of a file has a number, whatever the file's is
pub handle_some : (file : ℕ) → handle_number (file_handle_of file) ≡ Some (from_be_bytes w64 (file_handle_of file))
handle_some file =
    let eight : (length (long file) == 8) ≡ true = ap (λ (n : ℕ). n == 8) (length-long file) in
    ap (λ (b : Bool). cond b (Some (from_be_bytes w64 (long file))) None) eight

-- ---- what failed

module _ (w : ClusterState) (t : IsToldByNodes w) (range : IsJournalInRange w.journal) (facts : StoryFacts t.mds) (understood : (m : DsMessage) → IsUnderstood m) where
  module _ (a b rest : Steps) (whole : t.mds.steps ≡ (a ++ b) ++ rest) (at count : ℕ) (offset : at < 2 ^ 64) (file : FileId) (live : List MirrorId) (then_live : live_in (entries_in a) file ≡ Some live) where
    told_part : AllByRecursion IsToldStep (a ++ b)
    told_part = all_first IsToldStep (a ++ b) rest (subst (λ (l : Steps). AllByRecursion IsToldStep l) whole (all_told w t))

    -- a READ of a live mirror has a record
    read_speaks : (m : MirrorId) → IsOneOf m live → (xid : ℕ) (behind : List MdsItem) (since : List MdsItem) → (earlier later : List MdsItem) → items_in b ≡ earlier ++ (since ++ later) → runs.WasAsked (items_in a) since m at (read_length count) xid behind
        → HasRecord (asks_mirror m at (read_length count) xid)
    read_speaks m inside xid behind since earlier later is asked =
        let asks : MdsSend = sends_read m at (read_length count) xid in
        let in_since : items_in b ≡ (earlier ++ asked.before) ++ Sends asks ∷ (behind ++ later) =
        is ∙ (ap (λ (l : List MdsItem). earlier ++ (l ++ later)) asked.split ∙ (ap (λ (l : List MdsItem). earlier ++ l) (append_assoc asked.before (Sends asks ∷ behind) later) ∙ sym (append_assoc earlier asked.before (Sends asks ∷ (behind ++ later))))) in
        let items : items_in (a ++ b) ≡ (items_in a ++ (earlier ++ asked.before)) ++ Sends asks ∷ (behind ++ later) =
        items_join a b ∙ (ap (λ (l : List MdsItem). items_in a ++ l) in_since ∙ sym (append_assoc (items_in a) (earlier ++ asked.before) (Sends asks ∷ (behind ++ later)))) in
        let among : IsOneOf asks (sends_in (items_in t.mds.steps)) = part_sends (a ++ b) rest t.mds.steps whole asks (in_sends (items_in (a ++ b)) (items_in a ++ (earlier ++ asked.before)) (behind ++ later) asks items) in
        let fits : m.fileid < 2 ^ 64 = live_fits file (entries_in a) live_range live then_live m inside in
        read_has_record m at count xid fits offset (facts.fits asks among)
      where
        live_range : IsJournalInRange (entries_in a)
        live_range = all_first IsEntryInRange (entries_in a) (entries_in (b ++ rest)) (subst IsJournalInRange (journal_at w t a (b ++ rest) (whole ∙ append_assoc a b rest)) range)

    -- a mirror that failed
    failed_told : (read : ReadCall) → at ≡ read.offset → (m : MirrorId) → IsOneOf m live → runs.HasFailedRead (items_in a) (items_in b) at (read_length count) m → law.HasFailed (entries_in a) (entries_in b) file read m
    failed_told read same m inside f =
        let e : Entry = entry.Failed m f.xid in
        let s : EnteredAt b f.before e f.behind = entered_at b f.before e f.behind (all_second IsToldStep a b told_part) f.split in
        let asked : runs.WasAsked (items_in a) (items_in s.earlier) m at (read_length count) f.xid f.later = subst (λ (l : List MdsItem). runs.WasAsked (items_in a) l m at (read_length count) f.xid f.later) (sym s.earlier_items) f.asked in
        let has : HasRecord (asks_mirror m at (read_length count) f.xid) = read_speaks m inside f.xid f.later f.before [] (Enters e ∷ f.behind) f.split f.asked in
        let here : t.mds.steps ≡ (a ++ s.earlier) ++ ((Seen (Enters e) e ∷ s.later) ++ rest) =
        whole ∙ (ap (λ (l : Steps). (a ++ l) ++ rest) s.split ∙ (ap (λ (l : Steps). l ++ rest) (sym (append_assoc a s.earlier (Seen (Enters e) e ∷ s.later))) ∙ append_assoc (a ++ s.earlier) (Seen (Enters e) e ∷ s.later) rest)) in
        let told : AllByRecursion IsToldStep s.earlier = all_first IsToldStep s.earlier (Seen (Enters e) e ∷ s.later) (subst (λ (l : Steps). AllByRecursion IsToldStep l) s.split (all_second IsToldStep a b told_part)) in
        law.HasNotRead (entries_in s.earlier) (entries_in s.later) f.xid (ap (λ (l : Steps). entries_in l) s.split ∙ entries_join s.earlier (Seen (Enters e) e ∷ s.later))
        (asked_told w t facts understood a s.earlier ((Seen (Enters e) e ∷ s.later) ++ rest) here told m at (read_length count) f.xid f.later asked has read same)

    module _ (same : (s : ServerState) (m : DsMessage) → IsProper s → HasRecord m → DoesTheCall s m) where
      pub cause_told : (read : ReadCall) → at ≡ read.offset → count ≡ read.count → (status : ℕ) (bytes : List ℕ) → runs.HasReadCause (items_in a) (items_in b) at (read_length count) live status bytes
          → law.HasCause (entries_in a) (entries_in b) file read live status bytes
      cause_told read offset_is count_is status bytes (inl done) =
          let g : runs.WasGiven (items_in a) (items_in b) at (read_length count) live bytes = done.1 in
          let has : HasRecord (asks_mirror g.mirror at (read_length count) g.xid) = read_speaks g.mirror g.live_then g.xid g.behind (items_in b) [] [] (sym (append-nil (items_in b))) g.asked in
          inl (done.0, shown_told same w t facts a b rest whole at count live bytes g has told_part g.live_then read offset_is count_is)
      cause_told read offset_is count_is status bytes (inr failed) = inr (failed.0, λ m one. failed_told read offset_is m one (failed.1 m one))
