-- What is kept in each of the cases is kept in the closer ones.
use Rattle.std.proofs.Common.{◌≡◌, List, Option, Some, refl, sym, subst, inl, inr}
use Rattle.cluster_model.specs.declared.ids.FileId.{FileId}
use Rattle.cluster_model.specs.declared.entry.Entry.{Entry}
use Rattle.file_rule.specs.MdsFiles.{FileStep}
use Rattle.file_rule.specs.FilePhases.{OwnWrite, phase}
use Rattle.mirror_writer.specs.Writers.{WriterValue, WriterAfter}
use Rattle.mds_io.specs.OwnWrites.{after_own_reply}
use Rattle.mirror_writer.specs.Writers as writer
use Rattle.mds_rule.specs.MdsStates.{WaitingWrite, ServedFile, MdsSend, MdsValue, served, with_served}
use Rattle.mds_rule.specs.ServedFiles.{file_behind, file_stepped}
use Rattle.mds_rule.specs.FileOps.{with_write}
use Rattle.mds_rule.specs.LayoutOps.{with_holder}
use Rattle.mds_rule.specs.Answers.{write_stepped}
use Rattle.mds_laws.proofs.OwnWriters.{StaysWriter}
use Rattle.mds_laws.proofs.Keeping.{Cases, IsWriterOf, IsWriteOf, old_write}
use Rattle.mds_walk.proofs.Parts.{HeardOf, Becomes, end_input, without_write}
use Rattle.mds_walk.proofs.Keeping.{enters_becomes}
use Rattle.mds_laws.proofs.EachCases.{EachCase}
use Rattle.mds_walk.proofs.Served.{served_again, stepped_there}
use Rattle.mds_laws.proofs.WriterKept.{answer_kept, timeout_kept}

module _ (I : MdsValue → List Entry → List MdsSend → Type 0) (Heard : HeardOf) (k : Cases I Heard) where
  same_write : (s t : ServedFile) → t.write ≡ s.write → IsWriteOf s.file s.write t.write
  same_write s t same = subst (λ (o : Option WaitingWrite). IsWriteOf s.file s.write o) (sym same) (old_write s.file s.write)

  step_put : (m : MdsValue) (file : FileId) (s : ServedFile) (w : WaitingWrite) (a : WriterAfter) → StaysWriter w.writer a.writer → served m file ≡ Some s → s.write ≡ Some w
      → Becomes I m (with_served m file (record s { write = Some (write_stepped w a) }))
  step_put m file s w a kept at waits = k.puts m file s (record s { write = Some (write_stepped w a) }) at refl (inr (subst (λ (o : Option WaitingWrite). IsWriterOf a.writer o) (sym waits) kept))

  pub each_case : EachCase I Heard
  each_case = record {
    quiet = k.quiet;
    tables = k.tables;
    replies = k.replies;
    answers = k.answers;
    notes = k.notes;
    puts = λ m file s t at same holder write. k.puts m file s t at same (same_write s t write);
    holds = λ m file s client again at. k.puts m file s (with_holder client again s) at refl (old_write s.file s.write);
    inputs = λ m file s input itself other. k.inputs m file s input itself;
    timeouts = k.timeouts;
    hears = k.hears;
    learns = k.learns;
    begins_write = λ m file s c at bytes there can fresh.
        let step : FileStep = phase file s.file (OwnWrite at bytes) m.fresh in
        let t : ServedFile = file_behind s step in
        let n : MdsValue = (file_stepped m file s step).mds in
        enters_becomes I m n (with_served n file (with_write c at bytes t)) step.entries (k.inputs m file s (OwnWrite at bytes) refl there fresh)
        (k.puts n file t (with_write c at bytes t) (stepped_there m file s step there) refl (inl (record { at = at; bytes = bytes; is = refl; few = can.few; within = can.within })));
    begins_alone = λ m file s c at bytes there can spent.
        k.puts m file s (with_write c at bytes s) there refl (inl (record { at = at; bytes = bytes; is = refl; few = can.few; within = can.within }));
    answers_write = λ m file s w call server own uid c replies heard caller sent at waits. step_put m file s w (after_own_reply w.writer call.xid (replies c)) (answer_kept w.writer call.xid (replies c)) at waits;
    times_write = λ m file s w xid at waits. step_put m file s w (writer.after_timeout w.writer xid) (timeout_kept w.writer xid) at waits;
    ends_write = λ m file s w places at waits over fresh es ss i.
        k.inputs (with_served m file (without_write s)) file (without_write s) (end_input s w) refl (served_again m file s (without_write s) at) fresh es ss (k.puts m file s (without_write s) at refl tt es ss i);
    drops_write = λ m file s w places at waits over spent. k.puts m file s (without_write s) at refl tt;
    makes = k.makes;
    calls_file = k.calls_file;
    calls_write = k.calls_write;
    calls_read = λ m file s t server call at has same holder write. k.calls_read m file s t server call at has same (same_write s t write);
    calls_back = k.calls_back;
    skips = k.skips;
    forgets = k.forgets;
    was = k.was;
    again = k.again;
  }
