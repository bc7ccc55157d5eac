-- A READ of a mirror that the metadata server sent stands in the journal, under a number that was new there.
use Rattle.std.proofs.Common.{◌≡◌, ◌<◌, ◌≤◌, ℕ, ◌^◌, Bool, true, false, cond, List, [], ◌∷◌, ◌++◌, length, Some, refl, sym, ap, subst, ◌∙◌, arith, append_assoc}
use Rattle.std.specs.Prelude.{nat_lt}
use Rattle.std.specs.List.{AllByRecursion}
use Rattle.std.proofs.lemmas.Bool.{ltb-false}
use Rattle.cluster_model.specs.declared.limits.TheConstants.{PIECE_SIZE}
use Rattle.cluster_model.specs.declared.ids.NodeId.{NodeId}
use Rattle.cluster_model.specs.declared.ids.NodeId.TheVariants.{Mds, Server}
use Rattle.cluster_model.specs.declared.ids.MirrorId.{MirrorId}
use Rattle.cluster_model.specs.declared.entry.Entry.{Entry}
use Rattle.cluster_model.specs.declared.entry.Entry.TheVariants as entry
use Rattle.cluster_model.specs.DsCalls.{Read}
use Rattle.cluster_model.specs.Members.{IsOneOf}
use Rattle.world_rule.specs.ClusterWorlds.{ClusterState}
use Rattle.ds_calls.specs.DsCallLaws.{DsMessage, HasRecord, IsUnderstood, record_of}
use Rattle.mds_rule.specs.FileOps.{read_length}
use Rattle.mds_rule.specs.MdsStates.{MdsSend, CallsServer}
use Rattle.mds_rule.specs.Spelled.{mds_name, spelled_send}
use Rattle.mds_laws.specs.MdsRunLaws.{number_sent, FitsNumber}
use Rattle.mds_walk.proofs.Lists.{in_more}
use Rattle.mds_histories.specs.MdsHistory.{MdsItem, Sends, sends_in}
use Rattle.mds_histories.proofs.Histories.{sends_joined}
use Rattle.node_histories.specs.Weaves.{WeaveStep, Seen, entries_in, items_in}
use Rattle.node_histories.specs.NodeHistories.{IsToldByNodes}
use Rattle.node_histories.proofs.WeaveLemmas.{entries_join, items_join}
use Rattle.read_runs.specs.ReadRuns as runs
use Rattle.ff_laws.specs.declared.read_call.ReadCall.{ReadCall}
use Rattle.ff_laws.specs.ReadLaw as law
use Rattle.world_reads.proofs.ServerReads.{read_message, server_reads}
use Rattle.world_reads.proofs.OwnEntries.{IsToldStep}
use Rattle.world_reads.proofs.MdsPlaces.{Steps, SentAt, sent_at, SentIn, sent_in, in_sends}
use Rattle.world_reads.proofs.SentNumbers.{StoryFacts, sent_number}

-- the message of a READ of a mirror
abbrev pub asks_mirror : MirrorId → ℕ → ℕ → ℕ → DsMessage
asks_mirror mirror at count xid = read_message xid mds_name 0 mirror.fileid at count

-- as a send
abbrev pub sends_read : MirrorId → ℕ → ℕ → ℕ → MdsSend
sends_read mirror at count xid = CallsServer mirror.server xid 0 (Read mirror.fileid at count)

-- ---- it has a record

name_short : length mds_name ≤ 255
name_short = omega arith

few_asked : (count : ℕ) → read_length count ≤ 65536
few_asked count = by_test (nat_lt PIECE_SIZE count) refl
  where
    by_test : (b : Bool) → nat_lt PIECE_SIZE count ≡ b → cond b PIECE_SIZE count ≤ 65536
    by_test true is = omega arith
    by_test false is = omega (arith, ltb-false PIECE_SIZE count is)

pub read_has_record : (mirror : MirrorId) (at count xid : ℕ) → mirror.fileid < 2 ^ 64 → at < 2 ^ 64 → FitsNumber (Some xid) → HasRecord (asks_mirror mirror at (read_length count) xid)
read_has_record mirror at count xid fileid offset fits =
    let few : xid ≤ 4294967295 = fits.1 in
    let small : read_length count ≤ 65536 = few_asked count in
    record { xid_fits = omega (arith, few); machine_fits = omega (arith, name_short); user_fits = omega arith; call_fits = (fileid, offset, omega (arith, small)) }

-- ---- a send of a part

pub part_sends : (part rest whole : Steps) → whole ≡ part ++ rest → (s : MdsSend) → IsOneOf s (sends_in (items_in part)) → IsOneOf s (sends_in (items_in whole))
part_sends part rest whole is s inside =
    let joined : sends_in (items_in whole) ≡ sends_in (items_in part) ++ sends_in (items_in rest) =
    ap (λ (l : Steps). sends_in (items_in l)) is ∙ (ap (λ (l : List MdsItem). sends_in l) (items_join part rest) ∙ sends_joined (items_in part) (items_in rest)) in
    subst (λ (l : List MdsSend). IsOneOf s l) (sym joined) (in_more s (sends_in (items_in part)) (sends_in (items_in rest)) inside)

-- ---- in the journal

-- a send of this number stands in a part
pub record HasNumber (part : Steps) (xid : ℕ) : Type 0 where
  pub send : MdsSend
  pub inside : IsOneOf send (sends_in (items_in part))
  pub number : number_sent send ≡ Some xid

module _ (w : ClusterState) (t : IsToldByNodes w) (facts : StoryFacts t.mds) (understood : (m : DsMessage) → IsUnderstood m) where
  -- a call of this number in a part is of a send of this number there
  pub numbered_in : (part rest : Steps) → t.mds.steps ≡ part ++ rest → (k xid : ℕ) (bytes : List ℕ) → law.WasSentIn (entries_in part) Mds (Server k) bytes → law.IsCallOf bytes xid → HasNumber part xid
  numbered_in part rest whole k xid bytes sent call =
      let r : SentIn w t part sent.before sent.number (Server k) bytes = sent_in w t part rest whole sent.before sent.behind sent.number (Server k) bytes sent.split in
      let items : items_in part ≡ items_in r.earlier ++ Sends r.send ∷ items_in r.later =
      ap (λ (l : Steps). items_in l) r.split ∙ items_join r.earlier (Seen (Sends r.send) (entry.Packet sent.number Mds (Server k) bytes) ∷ r.later) in
      let inside : IsOneOf r.send (sends_in (items_in part)) = in_sends (items_in part) (items_in r.earlier) (items_in r.later) r.send items in
      let among : IsOneOf r.send (sends_in (items_in t.mds.steps)) = part_sends part rest t.mds.steps whole r.send inside in
      let number : number_sent r.send ≡ Some call.call.xid = sent_number r.send bytes (ap (λ (p : NodeId × List ℕ). p.1) r.spelled) (facts.form r.send among) (facts.fits r.send among) call.call call.reads in
      record { send = r.send; inside = inside; number = number ∙ ap (λ (n : ℕ). Some n) call.number }

  pub asked_told : (a b rest : Steps) → t.mds.steps ≡ (a ++ b) ++ rest → AllByRecursion IsToldStep b → (mirror : MirrorId) (at count xid : ℕ) (behind : List MdsItem) → runs.WasAsked (items_in a) (items_in b) mirror at count xid behind
      → HasRecord (asks_mirror mirror at count xid) → (read : ReadCall) → at ≡ read.offset → law.WasAsked (entries_in a) (entries_in b) read mirror xid
  asked_told a b rest whole told mirror at count xid behind asked has read offset =
      let s : SentAt b asked.before (sends_read mirror at count xid) behind = sent_at b asked.before (sends_read mirror at count xid) behind told asked.split in
      let packet : Entry = entry.Packet s.number Mds (Server mirror.server) (record_of (asks_mirror mirror at count xid)) in
      let m : DsMessage = asks_mirror mirror at count xid in
      record {
        bytes = record_of m;
        sent = record {
          before = entries_in s.earlier;
          number = s.number;
          behind = entries_in s.later;
          split = ap (λ (l : Steps). entries_in l) s.split ∙ entries_join s.earlier (Seen (Sends (sends_read mirror at count xid)) packet ∷ s.later);
        };
        asked = record { xid = xid; handle = mirror.fileid; offset = at; count = count };
        reads = server_reads xid mds_name 0 mirror.fileid at count has (understood m);
        number = refl;
        its_file = refl;
        its_offset = offset;
        new = λ others sent call.
            (let n : HasNumber a xid = numbered_in a (b ++ rest) (whole ∙ append_assoc a b rest) mirror.server xid others sent call in
            asked.new n.send n.inside n.number);
      }
