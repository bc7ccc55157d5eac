-- One file of a metadata server takes a step, and its compound goes on.
use Rattle.std.proofs.Common.{◌≡◌, ℕ, zero, suc, ◌-◌, Bool, true, false, cond, List, [], ◌∷◌, ◌++◌, map, Option, Some, None, Result, Ok, Err, refl, sym, ap, subst, ◌∙◌, remove}
use Rattle.std.specs.Prelude.{◌==◌, slice_get, slice_set, position}
use Rattle.std.proofs.lemmas.Option.{same_Some}
use Rattle.std.proofs.lemmas.List.{append_assoc, append-nil}
use Rattle.cluster_model.specs.declared.ids.FileId.{FileId}
use Rattle.cluster_model.specs.declared.entry.Entry.{Entry}
use Rattle.cluster_model.specs.declared.outbox.Outbox.{Outbox}
use Rattle.cluster_model.specs.DsCalls.{DsCallValue, DsReplyValue}
use Rattle.mds_io.specs.declared.read_end.ReadEnd.{ReadEnd}
use Rattle.mds_io.specs.declared.read_end.ReadEnd.TheVariants.{Bytes, AllFailed}
use Rattle.mds_io.specs.Reads.{ReadState, ReadAfter}
use Rattle.mds_io.specs.OwnWrites.{ended}
use Rattle.mirror_writer.specs.Writers.{WriterValue, WriterAfter}
use Rattle.mds_rule.specs.MdsStates.{CompoundRun, WaitingRead, WaitingWrite, ServedFile, MdsValue, MdsStep, sends_none, enters, served, served_in, with_file, with_served}
use Rattle.mds_rule.specs.Spelled.{spelled_send}
use Rattle.mds_rule.specs.OpSteps.{OpStep}
use Rattle.mds_rule.specs.Compounds.{op_then, runs}
use Rattle.mds_rule.specs.Answers.{is_read_out, failed_entries, read_resumes, steps_read, read_of, read_from, read_step_at, read_ends, write_stepped, write_ends, write_of, write_in, steps_write, write_answer, write_over, resumes, sees_size, sees_in, sized, fileid_of, attributes_shown}
use Rattle.served_files.specs.declared.reading.EndedRead.{EndedRead}
use Rattle.served_files.specs.declared.writing.EndedWrite.{EndedWrite}
use Rattle.served_files.specs.Waiting.{reads_left, ReadEndsAs, StepsReadAt, StepsReadFrom, StepsRead, WriteEnds, WriteBy, StepsWrite}
use Rattle.served_files.specs.FileSteps.{changed_at, changed_in, StepsReadOf, StepsReadIn, StepsWriteOf, StepsWriteIn}
use Rattle.compound_run.specs.CompoundRuns.{AddsResult, HasOperated, HasMadeStep}
use Rattle.compound_run.specs.declared.op_end.OpEnd.{OpEnd}
use Rattle.mds_compounds.specs.Walks.{goes_on}
use Rattle.mds_compounds.proofs.WalkLemmas.{adds_left, op_goes}
use Rattle.mds_state.proofs.StepLemmas.{stepped_then}
use Rattle.mds_answers.specs.Resumed.{read_ended, read_goes_on, write_goes_on}

-- ---- lists

set_there : {A : Type 0} (xs : List A) (i : ℕ) (x : A) → slice_get xs i ≡ Some x → slice_set xs i x ≡ xs
set_there [] i x there = refl
set_there (y ∷ xs) zero x there = ap (λ z. z ∷ xs) (sym (same_Some y x there))
set_there (y ∷ xs) (suc i) x there = ap (λ zs. y ∷ zs) (set_there xs i x there)

same_file : (files : List ServedFile) (file : FileId) (s : ServedFile) → served_in files file ≡ Some s → with_file files file s ≡ files
same_file files file s is = by_zero (file.0 == 0) is
  where
    by_zero : (b : Bool) → cond b None (slice_get files (file.0 - 1)) ≡ Some s → with_file files file s ≡ files
    by_zero true it = absurd cc
    by_zero false it = set_there files (file.0 - 1) s it

-- ---- steps

-- these were entered before, and nothing was sent
pub entered_before : (s : MdsStep) (es : List Entry) (old mid new : Outbox) (n : MdsValue) → mid.entries.items ≡ old.entries.items ++ es → mid.sends.items ≡ old.sends.items → HasMadeStep s mid n new → HasMadeStep (enters es s) old n new
entered_before s es old mid new n entries sends made = record {
  mds = made.mds;
  entries = made.entries ∙ ap (λ l. l ++ s.entries) entries ∙ append_assoc old.entries.items es s.entries;
  sends = made.sends ∙ ap (λ l. l ++ map spelled_send s.sends) sends;
}

-- nothing was entered and nothing was sent before
pub nothing_before : (s : MdsStep) (old mid new : Outbox) (n : MdsValue) → mid.entries.items ≡ old.entries.items → mid.sends.items ≡ old.sends.items → HasMadeStep s mid n new → HasMadeStep s old n new
nothing_before s old mid new n entries sends made = record {
  mds = made.mds;
  entries = made.entries ∙ ap (λ l. l ++ s.entries) entries;
  sends = made.sends ∙ ap (λ l. l ++ map spelled_send s.sends) sends;
}

-- ---- a READ that has ended

pub read_as : (now : ℕ) (m : MdsValue) (file : FileId) (c : CompoundRun) (e : ReadEnd) → read_resumes now m file c e ≡ op_then (read_ended m file c e) (λ k d. runs now c.ops k d)
read_as now m file c (Bytes eof bytes) = refl
read_as now m file c (AllFailed failures) = refl

-- ---- a step of a READ

module _ (now : ℕ) (m n : MdsValue) (file : FileId) (xid : ℕ) (step : ReadState → ReadAfter) (old mid new : Outbox) (files : List ServedFile) (result : Option EndedRead)
    (silent : mid.sends.items ≡ old.sends.items)
    (made : HasMadeStep (read_goes_on now (record m { files = files }) file result) mid n new) where
  abbrev after_none : Type 0
  after_none = HasMadeStep (sends_none m) old n new

  -- the file stood as before
  stood : (r : Option EndedRead) → r ≡ result → r ≡ None → files ≡ m.files → mid.entries.items ≡ old.entries.items → after_none
  stood r same none are entries =
      nothing_before (sends_none m) old mid new n entries silent
      (subst (λ (fs : List ServedFile). HasMadeStep (sends_none (record m { files = fs })) mid n new) are (subst (λ (x : Option EndedRead). HasMadeStep (read_goes_on now (record m { files = files }) file x) mid n new) (sym same ∙ none) made))

  ended_so : (s : ServedFile) (place : ℕ) (r : WaitingRead) (after : ReadState) (e : Option ReadEnd) → files ≡ with_file m.files file (record s { reads = reads_left s.reads place r after e }) → ReadEndsAs e r.compound result
      → HasMadeStep (read_ends now m file s place r after e) mid n new
  ended_so s place r after e are ends = by_end e result are ends made
    where
      by_end : (f : Option ReadEnd) (o : Option EndedRead) → files ≡ with_file m.files file (record s { reads = reads_left s.reads place r after f }) → ReadEndsAs f r.compound o
          → HasMadeStep (read_goes_on now (record m { files = files }) file o) mid n new → HasMadeStep (read_ends now m file s place r after f) mid n new
      by_end None None is so it = subst (λ (fs : List ServedFile). HasMadeStep (sends_none (record m { files = fs })) mid n new) is it
      by_end None (Some x) is so it = absurd so
      by_end (Some y) None is so it = absurd so
      by_end (Some y) (Some x) is so it =
          subst (λ (fs : List ServedFile). HasMadeStep (read_resumes now (record m { files = fs }) file r.compound y) mid n new) is
          (subst (λ (z : ReadEnd). HasMadeStep (read_resumes now (record m { files = files }) file r.compound z) mid n new) so.1
          (subst (λ (z : CompoundRun). HasMadeStep (read_resumes now (record m { files = files }) file z x.end) mid n new) so.0 it))

  pub read_so : StepsReadIn m.files file old.entries.items xid step (Ok result) files mid.entries.items → HasMadeStep (steps_read now m file xid step) old n new
  read_so steps = by_file (served_in m.files file) refl steps
    where
      by_read : (s : ServedFile) (reads : List WaitingRead) (place : ℕ) (o : Option WaitingRead) → served_in m.files file ≡ Some s → files ≡ with_file m.files file (record s { reads = reads })
          → StepsReadAt s.reads old.entries.items step place result reads mid.entries.items o → HasMadeStep (read_step_at now m file s step place o) old n new
      by_read s reads place None there are at =
          stood result refl at.0 (are ∙ ap (λ (rs : List WaitingRead). with_file m.files file (record s { reads = rs })) at.1 ∙ same_file m.files file s there) at.2
      by_read s reads place (Some r) there are at =
          entered_before (read_ends now m file s place r (step r.read).read (step r.read).end) (failed_entries r.read (step r.read).read) old mid new n at.1 silent
          (ended_so s place r (step r.read).read (step r.read).end (are ∙ ap (λ (rs : List WaitingRead). with_file m.files file (record s { reads = rs })) at.0) at.2)

      by_place : (s : ServedFile) (reads : List WaitingRead) (o : Option ℕ) → served_in m.files file ≡ Some s → files ≡ with_file m.files file (record s { reads = reads })
          → StepsReadFrom s.reads old.entries.items step result reads mid.entries.items o → HasMadeStep (read_from now m file s step o) old n new
      by_place s reads None there are from =
          stood result refl from.0 (are ∙ ap (λ (rs : List WaitingRead). with_file m.files file (record s { reads = rs })) from.1 ∙ same_file m.files file s there) from.2
      by_place s reads (Some place) there are from = by_read s reads place (slice_get s.reads place) there are from

      by_file : (o : Option ServedFile) → served_in m.files file ≡ o → StepsReadOf m.files file old.entries.items xid step (Ok result) files mid.entries.items o → HasMadeStep (read_of now m file xid step o) old n new
      by_file None there of = stood result refl of.0 of.1 of.2
      by_file (Some s) there (reads, of, are) = by_place s reads (position (is_read_out xid) s.reads) there are of

-- ---- a step of an own WRITE

module _ (now : ℕ) (m n : MdsValue) (file : FileId) (step : WriterValue → WriterAfter) (mid new : Outbox) (files : List ServedFile) (result : Option EndedWrite)
    (made : HasMadeStep (write_goes_on now (record m { files = files }) file result) mid n new) where
  stood_write : result ≡ None → files ≡ m.files → HasMadeStep (sends_none m) mid n new
  stood_write none are =
      subst (λ (fs : List ServedFile). HasMadeStep (sends_none (record m { files = fs })) mid n new) are (subst (λ (x : Option EndedWrite). HasMadeStep (write_goes_on now (record m { files = files }) file x) mid n new) none made)

  pub write_so : StepsWriteIn m.files file step (Ok result) files → HasMadeStep (steps_write now m file step) mid n new
  write_so steps = by_file (served_in m.files file) refl steps
    where
      by_end : (s t : ServedFile) (w : WaitingWrite) (o : Option (List Bool)) (r : Option EndedWrite) → files ≡ with_file m.files file t → WriteEnds s w r t o
          → HasMadeStep (write_goes_on now (record m { files = files }) file r) mid n new → HasMadeStep (write_ends now m file s w o) mid n new
      by_end s t w None r are ends it =
          subst (λ (fs : List ServedFile). HasMadeStep (sends_none (record m { files = fs })) mid n new) (are ∙ ap (with_file m.files file) ends.1)
          (subst (λ (x : Option EndedWrite). HasMadeStep (write_goes_on now (record m { files = files }) file x) mid n new) ends.0 it)
      by_end s t w (Some places) None are ends it = absurd ends
      by_end s t w (Some places) (Some e) are (left, compound, at, bytes, causes, failed) it =
          rw (← compound, ← at, ← bytes, ← causes, ← failed) (subst (λ (fs : List ServedFile). HasMadeStep (write_goes_on now (record m { files = fs }) file (Some e)) mid n new) (are ∙ ap (with_file m.files file) left) it)

      by_write : (s t : ServedFile) (o : Option WaitingWrite) → served_in m.files file ≡ Some s → files ≡ with_file m.files file t → WriteBy s step result t o → HasMadeStep (write_of now m file step s o) mid n new
      by_write s t None there are by = stood_write by.0 (are ∙ ap (with_file m.files file) by.1 ∙ same_file m.files file s there)
      by_write s t (Some w) there are by = by_end s t (write_stepped w (step w.writer)) (ended (step w.writer).writer) result are by made

      by_file : (o : Option ServedFile) → served_in m.files file ≡ o → StepsWriteOf m.files file step (Ok result) files o → HasMadeStep (write_in now m file step o) mid n new
      by_file None there of = stood_write of.0 of.1
      by_file (Some s) there (t, of, are) = by_write s t s.write there are of

-- ---- what a reply shows of a mirror's size

pub sees_so : (m : MdsValue) (file : FileId) (server : ℕ) (call : DsCallValue) (reply : DsReplyValue) (files : List ServedFile)
    → files ≡ changed_in m.files file (λ s. sized s server (fileid_of call reply) (attributes_shown reply)) → record m { files = files } ≡ sees_size m file server call reply
sees_so m file server call reply files is = ap (λ (fs : List ServedFile). record m { files = fs }) is ∙ by_file (served_in m.files file)
  where
    by_file : (o : Option ServedFile) → record m { files = changed_at m.files file (λ s. sized s server (fileid_of call reply) (attributes_shown reply)) o } ≡ sees_in m file server call reply o
    by_file None = refl
    by_file (Some s) = refl

-- ---- a compound goes on, where what it waited for has ended

module _ (now : ℕ) (m n : MdsValue) (c d : CompoundRun) (e : OpEnd) (s : OpStep) (old mid new : Outbox) where
  pub resumed_so : HasOperated s old (Ok e) m d mid → AddsResult c (Ok e) d → HasMadeStep (goes_on now e m d) mid n new → HasMadeStep (op_then s (λ k x. runs now c.ops k x)) old n new
  resumed_so done on rest = op_goes now c.ops s e old mid new m n d done (adds_left c d e on) rest

-- its period ended first
pub write_over_so : (now : ℕ) (s : MdsStep) (c : CompoundRun) (count : ℕ) (failed : Bool) (old mid new : Outbox) (k n : MdsValue) → HasMadeStep s old k mid
    → HasMadeStep (op_then (write_answer k c count failed) (λ x d. runs now c.ops x d)) mid n new → HasMadeStep (write_over now s c count failed) old n new
write_over_so now s c count failed old mid new k n first rest = stepped_then s (λ x. resumes now (write_answer x c count failed) c.ops) old mid new k n first rest
