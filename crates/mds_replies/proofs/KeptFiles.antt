-- The calls that go out leave the layout of a file, its holder and the seqid of its stateid as they are.
use Rattle.std.proofs.Common.{◌≡◌, ℕ, ◌-◌, List, [], Option, Some, refl, sym, ap, ◌∙◌, inl, inr, ◌⊎◌}
use Rattle.std.specs.Prelude.{slice_get, slice_set}
use Rattle.std.proofs.lemmas.Bool.{cases_eq}
use Rattle.std.proofs.lemmas.Option.{same_Some}
use Rattle.cluster_model.specs.declared.ids.NodeId.TheVariants.{Server}
use Rattle.cluster_model.specs.declared.ids.FileId.{FileId}
use Rattle.cluster_model.specs.declared.entry.Entry.{Entry}
use Rattle.cluster_model.specs.declared.layout_state.LayoutState.{LayoutState}
use Rattle.cluster_model.proofs.Elements.{slice_get-set_other, slice_get-set_same}
use Rattle.file_rule.specs.MdsFiles.{MdsFile}
use Rattle.mds_rule.specs.MdsStates.{ServedFile, MdsSend, CallsServer, CallsBack, AwaitedCall, MdsValue, served_in}
use Rattle.mds_rule.specs.declared.waiter.Waiter.TheVariants.{ForFile, ForRead, ForWrite, ForRecall}
use Rattle.mds_rule.specs.Goes.{calls_out}
use Rattle.mds_laws.proofs.Numbers.{WereSent, sent_more, sent_with}
use Rattle.mds_laws.proofs.FileGrants.{out_layout}
use Rattle.mds_replies.proofs.HolderCases.{OutCases}
use Rattle.mds_replies.proofs.PeriodKept.{at_place, from_place, sent_with_calls, in_sent}
use Rattle.mds_replies.proofs.GoesWalk.{out_walk}

-- the file stands there so
pub record FileStandsAs (layout : LayoutState) (holder : Option ℕ) (seqid : ℕ) (files : List ServedFile) (file : FileId) : Type 0 where
  pub its : ServedFile
  pub there : served_in files file ≡ Some its
  pub layout_is : its.file.layout ≡ layout
  pub holder_is : its.holder ≡ holder
  pub seqid_is : its.seqid ≡ seqid

module _ (layout : LayoutState) (holder : Option ℕ) (seqid : ℕ) (file : FileId) where
  abbrev Kept : List ServedFile → Type 0
  Kept files = FileStandsAs layout holder seqid files file

  -- a file is put back so
  set_kept : (files : List ServedFile) (other : FileId) (s t : ServedFile) → served_in files other ≡ Some s → t.file.layout ≡ s.file.layout → t.holder ≡ s.holder → t.seqid ≡ s.seqid → Kept files
      → Kept (slice_set files (other.0 - 1) t)
  set_kept files other s t at same held number k = by_place (cases_eq (file.0 - 1) (other.0 - 1))
    where
      by_place : (file.0 - 1 ≡ other.0 - 1) ⊎ (file.0 - 1 ≡ other.0 - 1 → ⊥) → Kept (slice_set files (other.0 - 1) t)
      by_place (inr ne) =
          let mine = at_place files file k.its k.there in
          record {
            its = k.its;
            there = from_place (slice_set files (other.0 - 1) t) file k.its mine.0 (slice_get-set_other files (other.0 - 1) (file.0 - 1) t ne ∙ mine.1);
            layout_is = k.layout_is;
            holder_is = k.holder_is;
            seqid_is = k.seqid_is;
          }
      by_place (inl one) =
          let mine = at_place files file k.its k.there in
          let theirs = at_place files other s at in
          let is : s ≡ k.its = same_Some s k.its (sym theirs.1 ∙ ap (slice_get files) (sym one) ∙ mine.1) in
          record {
            its = t;
            there = from_place (slice_set files (other.0 - 1) t) file t mine.0 (ap (slice_get (slice_set files (other.0 - 1) t)) one ∙ slice_get-set_same files (other.0 - 1) s t theirs.1);
            layout_is = same ∙ ap (λ (x : ServedFile). x.file.layout) is ∙ k.layout_is;
            holder_is = held ∙ ap (λ (x : ServedFile). x.holder) is ∙ k.holder_is;
            seqid_is = number ∙ ap (λ (x : ServedFile). x.seqid) is ∙ k.seqid_is;
          }

  record Stands (files : List ServedFile) (calls : List AwaitedCall) (ss : List MdsSend) : Type 0 where
    pub kept : Kept files
    pub were : WereSent calls ss

  abbrev IsSo : MdsValue → List Entry → List MdsSend → Type 0
  IsSo m es ss = Stands m.files m.calls ss

  outs : OutCases IsSo
  outs = record {
    recalled = λ m recalls es ss i. i;
    back = λ m client es ss i. i;
    calls_file = λ m other s c at has its es ss i. record {
      kept = set_kept m.files other s (record s { file = c.file }) at (out_layout s.file m.next_xid c its) refl refl i.kept;
      were = sent_with m.calls ss (record { node = Server c.server; xid = m.next_xid; caller = ForFile other; sent = CallsServer c.server m.next_xid c.uid c.call }) i.were;
    };
    calls_write = λ m other s w c at has waits its is_write es ss i. record {
      kept = set_kept m.files other s (record s { write = Some (record w { writer = c.writer }) }) at refl refl refl i.kept;
      were = sent_with m.calls ss (record { node = Server c.id.server; xid = m.next_xid; caller = ForWrite other; sent = CallsServer c.id.server m.next_xid w.writer.cred c.call }) i.were;
    };
    calls_read = λ m other s t server call at has same held number write waits kept uid is_read es ss i. record {
      kept = set_kept m.files other s t at (ap (λ (f : MdsFile). f.layout) same) held number i.kept;
      were = sent_with m.calls ss (record { node = Server server; xid = m.next_xid; caller = ForRead other; sent = CallsServer server m.next_xid 0 call }) i.were;
    };
    calls_back = λ m node back other stateid has es ss i. record {
      kept = i.kept;
      were = sent_with m.calls ss (record { node = node; xid = m.next_xid; caller = ForRecall; sent = CallsBack m.next_xid back other stateid }) i.were;
    };
    skips = λ m has es ss i. i;
    was = λ m es ss i. i.were;
    again = λ m s es ss i inside. record { kept = i.kept; were = sent_more m.calls ss s i.were };
  }

  pub out_kept : (m : MdsValue) → FileStandsAs layout holder seqid m.files file → FileStandsAs layout holder seqid (calls_out [] m).mds.files file
  out_kept m k = (out_walk IsSo outs [] m [] (sent_with_calls m.calls) (record { kept = k; were = λ call inside. in_sent call m.calls inside })).kept
