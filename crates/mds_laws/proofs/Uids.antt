-- CREATEs, SETATTRs and READs go out by uid 0, WRITEs by a uid that was drawn.
use Rattle.std.proofs.Common.{◌≡◌, ◌≤◌, ℕ, ◌-◌, List, [], ◌∷◌, ◌++◌, Option, Some, None, sym, ap, subst, inl, inr, arith}
use Rattle.std.specs.Prelude.{slice_set}
use Rattle.std.specs.List.{list_any}
use Rattle.std.proofs.lemmas.Bool.{cond_both}
use Rattle.device_addr.specs.Universal.{AddressValue}
use Rattle.cluster_model.specs.declared.ids.NodeId.TheVariants.{Server}
use Rattle.cluster_model.specs.declared.ids.FileId.{FileId}
use Rattle.cluster_model.specs.declared.entry.Entry.{Entry}
use Rattle.cluster_model.specs.DsCalls.{DsCallValue}
use Rattle.file_rule.specs.FilePhases.{Answers as IsAnswer, TimesOut, Sees, phase, CallOut, call_out}
use Rattle.file_rule.specs.MdsFiles.{FileStep}
use Rattle.mds_rows.specs.Draws.{drawn}
use Rattle.mirror_writer.specs.Writers.{WriterValue, WriterSends}
use Rattle.mirror_writer.specs.Writers as writer
use Rattle.recall.specs.Recalls.{without_file}
use Rattle.mds_rule.specs.Answers.{own_answer}
use Rattle.mds_rule.specs.MdsStates.{WaitingWrite, ServedFile, MdsSend, CallsServer, CallsBack, Replies, Answers, AwaitedCall, MdsValue, with_call, served, with_served, new_mds}
use Rattle.mds_rule.specs.declared.waiter.Waiter.{Waiter}
use Rattle.mds_rule.specs.declared.waiter.Waiter.TheVariants.{ForFile, ForRead, ForWrite, ForRecall}
use Rattle.mds_rule.specs.ServedFiles.{is_period_end, file_behind, file_stepped}
use Rattle.mds_rule.specs.FileOps.{with_new_file}
use Rattle.mds_walk.specs.MdsRuns.{MdsEvent}
use Rattle.mds_laws.specs.MdsRunLaws.{IsUidOf, IsByItsUid, CallsByUids}
use Rattle.mds_walk.proofs.Lists.{AllOf, all_push, all_in, all_set, all_got, all_split}
use Rattle.mds_laws.proofs.Keeping.{Cases, IsWriterOf, IsWriteOf}
use Rattle.mds_walk.proofs.Parts.{HeardAny}
use Rattle.mds_walk.proofs.Served.{place_served}
use Rattle.mds_laws.proofs.GoesWalk.{in_each_run}
use Rattle.mds_laws.proofs.WriterKept.{sends_of}
use Rattle.mds_laws.proofs.FileUids.{FileFits, phase_fits, out_fits}
use Rattle.mds_laws.proofs.Numbers.{WereSent, sent_more, sent_with, sent_kept}

abbrev WriteFits : Option WaitingWrite → Type 0
WriteFits None = Unit {0}
WriteFits (Some w) = 65536 ≤ w.writer.cred

record ServedFits (s : ServedFile) : Type 0 where
  pub file_fits : FileFits s.file
  pub write_fits : WriteFits s.write

record Fits (fresh : ℕ) (files : List ServedFile) (calls : List AwaitedCall) (ss : List MdsSend) : Type 0 where
  pub drawn : 65536 ≤ fresh
  pub all : AllOf ServedFits files
  pub were : WereSent calls ss
  pub each : AllOf IsByItsUid ss

abbrev IsSo : MdsValue → List Entry → List MdsSend → Type 0
IsSo m es ss = Fits m.fresh.uid m.files m.calls ss

-- a write that is kept with a file
write_fits : (s : ServedFile) (o : Option WaitingWrite) → IsWriteOf s.file s.write o → ServedFits s → WriteFits o
write_fits s None its i = tt
write_fits s (Some w) (inl new) i = subst (λ (n : ℕ). 65536 ≤ n) (sym (ap (λ (v : WriterValue). v.cred) new.is)) i.file_fits.layout_fits.cred
write_fits s (Some w) (inr is) i = by_old s.write i.write_fits is
  where
    by_old : (o : Option WaitingWrite) → WriteFits o → IsWriterOf w.writer o → 65536 ≤ w.writer.cred
    by_old None its was = absurd was
    by_old (Some v) its was = subst (λ (n : ℕ). 65536 ≤ n) (sym was.cred) its

served_fits : (s t : ServedFile) → t.file ≡ s.file → IsWriteOf s.file s.write t.write → ServedFits s → ServedFits t
served_fits s t is its i = record { file_fits = subst FileFits (sym is) i.file_fits; write_fits = write_fits s t.write its i }

of_served : (m : MdsValue) (file : FileId) (s : ServedFile) → served m file ≡ Some s → AllOf ServedFits m.files → ServedFits s
of_served m file s at all = all_got ServedFits m.files (file.0 - 1) s all (place_served m file s at).1

puts : (m : MdsValue) (file : FileId) (s t : ServedFile) → served m file ≡ Some s → t.file ≡ s.file → IsWriteOf s.file s.write t.write → (es : List Entry) (ss : List MdsSend) → IsSo m es ss → IsSo (with_served m file t) es ss
puts m file s t at is its es ss i =
    record { drawn = i.drawn; all = all_set ServedFits m.files (file.0 - 1) t i.all (served_fits s t is its (of_served m file s at i.all)); were = i.were; each = i.each }

inputs : (m : MdsValue) (file : FileId) (s : ServedFile) (step : FileStep) → (es : List Entry) (ss : List MdsSend) → IsSo m es ss → FileFits step.file → WriteFits s.write → IsSo (file_stepped m file s step).mds (es ++ step.entries) ss
inputs m file s step es ss i its write =
    let n : MdsValue = with_served (record m { fresh = drawn m.fresh step }) file (file_behind s step) in
    let new : Fits n.fresh.uid n.files n.calls ss = record {
      drawn = omega (arith, i.drawn);
      all = all_set ServedFits m.files (file.0 - 1) (file_behind s step) i.all (record { file_fits = its; write_fits = write });
      were = i.were;
      each = i.each;
    } in
    cond_both (list_any is_period_end step.entries) (record n { recalls = without_file file n.recalls }) n (λ (x : MdsValue). Fits x.fresh.uid x.files x.calls ss) (λ end. new) (λ other. new)

makes : (m : MdsValue) (name : List ℕ) (es : List Entry) (ss : List MdsSend) → IsSo m es ss → IsSo (with_new_file m name) es ss
makes m name es ss i = record {
  drawn = omega (arith, i.drawn);
  all = all_push ServedFits m.files _ i.all (record { file_fits = record { layout_fits = record { cred = i.drawn; phase = tt }; calls = tt }; write_fits = tt });
  were = i.were;
  each = i.each;
}

-- a call of a file goes out
called : (m : MdsValue) (file : FileId) (t : ServedFile) (caller : Waiter) (server uid : ℕ) (call : DsCallValue) (ss : List MdsSend) → ServedFits t → IsUidOf call uid → Fits m.fresh.uid m.files m.calls ss
    → Fits m.fresh.uid (slice_set m.files (file.0 - 1) t) (with_call (record { node = Server server; xid = m.next_xid; caller = caller; sent = CallsServer server m.next_xid uid call }) m.calls) (ss ++ CallsServer server m.next_xid uid call ∷ [])
called m file t caller server uid call ss its is i = record {
  drawn = i.drawn;
  all = all_set ServedFits m.files (file.0 - 1) t i.all its;
  were = sent_with m.calls ss (record { node = Server server; xid = m.next_xid; caller = caller; sent = CallsServer server m.next_xid uid call }) i.were;
  each = all_push IsByItsUid ss (CallsServer server m.next_xid uid call) i.each is;
}

calls_file : (m : MdsValue) (file : FileId) (s : ServedFile) (c : CallOut) → served m file ≡ Some s → call_out s.file m.next_xid ≡ Some c → (ss : List MdsSend) → Fits m.fresh.uid m.files m.calls ss
    → Fits m.fresh.uid (slice_set m.files (file.0 - 1) (record s { file = c.file })) (with_call (record { node = Server c.server; xid = m.next_xid; caller = ForFile file; sent = CallsServer c.server m.next_xid c.uid c.call }) m.calls)
    (ss ++ CallsServer c.server m.next_xid c.uid c.call ∷ [])
calls_file m file s c at its ss i =
    let now : ServedFits s = of_served m file s at i.all in
    let new = out_fits s.file now.file_fits m.next_xid c its in
    called m file (record s { file = c.file }) (ForFile file) c.server c.uid c.call ss (record { file_fits = new.0; write_fits = now.write_fits }) new.1 i

calls_write : (m : MdsValue) (file : FileId) (s : ServedFile) (w : WaitingWrite) (c : WriterSends) → served m file ≡ Some s → s.write ≡ Some w → writer.next_sent w.writer m.next_xid ≡ Some c → (ss : List MdsSend)
    → Fits m.fresh.uid m.files m.calls ss
    → Fits m.fresh.uid (slice_set m.files (file.0 - 1) (record s { write = Some (record w { writer = c.writer }) }))
    (with_call (record { node = Server c.id.server; xid = m.next_xid; caller = ForWrite file; sent = CallsServer c.id.server m.next_xid w.writer.cred c.call }) m.calls) (ss ++ CallsServer c.id.server m.next_xid w.writer.cred c.call ∷ [])
calls_write m file s w c at waits its ss i =
    let now : ServedFits s = of_served m file s at i.all in
    let cred : 65536 ≤ w.writer.cred = subst WriteFits waits now.write_fits in
    let new = sends_of w.writer m.next_xid c its in
    called m file (record s { write = Some (record w { writer = c.writer }) }) (ForWrite file) c.id.server w.writer.cred c.call ss
    (record { file_fits = now.file_fits; write_fits = subst (λ (n : ℕ). 65536 ≤ n) (sym new.0.cred) cred }) (new.1 w.writer.cred cred) i

pushed : (fresh : ℕ) (files : List ServedFile) (calls : List AwaitedCall) (ss : List MdsSend) (s : MdsSend) → IsByItsUid s → Fits fresh files calls ss → Fits fresh files calls (ss ++ s ∷ [])
pushed fresh files calls ss s is i = record { drawn = i.drawn; all = i.all; were = sent_more calls ss s i.were; each = all_push IsByItsUid ss s i.each is }

cases : Cases IsSo HeardAny
cases = record {
  quiet = λ m confirmed opens reclaimed recalls es ss i. i;
  tables = λ m move is es ss i. i;
  replies = λ m node reply es ss i. pushed m.fresh.uid m.files m.calls ss (Replies node reply) tt i;
  answers = λ m node bytes reply is es ss i. pushed m.fresh.uid m.files m.calls ss (Answers node bytes) tt i;
  notes = λ m e is es ss i. i;
  puts = puts;
  inputs = λ m file s input itself at fresh es ss i.
      inputs m file s (phase file s.file input m.fresh) es ss i (phase_fits file m.fresh i.drawn s.file input (of_served m file s at i.all).file_fits) (of_served m file s at i.all).write_fits;
  timeouts = λ m file s xid at fresh es ss i.
      inputs m file s (phase file s.file (TimesOut xid) m.fresh) es ss i (phase_fits file m.fresh i.drawn s.file (TimesOut xid) (of_served m file s at i.all).file_fits) (of_served m file s at i.all).write_fits;
  hears = λ m file s call server own uid c replies heard caller sent out at fresh es ss i.
      inputs m file s (phase file s.file (IsAnswer call.xid (own_answer c (replies c))) m.fresh) es ss i (phase_fits file m.fresh i.drawn s.file (IsAnswer call.xid (own_answer c (replies c))) (of_served m file s at i.all).file_fits) (of_served m file s at i.all).write_fits;
  learns = λ m file s call server own uid c replies fileid shown heard caller sent named shows at fresh es ss i.
      inputs m file s (phase file s.file (Sees (record { server = server; fileid = fileid }) shown.seen) m.fresh) es ss i (phase_fits file m.fresh i.drawn s.file (Sees (record { server = server; fileid = fileid }) shown.seen) (of_served m file s at i.all).file_fits) (of_served m file s at i.all).write_fits;
  makes = λ m name may. makes m name;
  calls_file = λ m file s c at has its es ss i. calls_file m file s c at its ss i;
  calls_write = λ m file s w c at has waits its is_write es ss i. calls_write m file s w c at waits its ss i;
  calls_read = λ m file s t server call at has is write uid is_read es ss i. called m file t (ForRead file) server 0 call ss (served_fits s t is write (of_served m file s at i.all)) uid i;
  calls_back = λ m node back file stateid has es ss i. record {
    drawn = i.drawn;
    all = i.all;
    were = sent_with m.calls ss (record { node = node; xid = m.next_xid; caller = ForRecall; sent = CallsBack m.next_xid back file stateid }) i.were;
    each = all_push IsByItsUid ss (CallsBack m.next_xid back file stateid) i.each tt;
  };
  skips = λ m has es ss i. i;
  forgets = λ m test es ss i. record { drawn = i.drawn; all = i.all; were = sent_kept test m.calls ss i.were; each = i.each };
  was = λ m es ss i. i.were;
  again = λ m s es ss i inside. pushed m.fresh.uid m.files m.calls ss s (all_in IsByItsUid ss s i.each inside) i;
}

begun : (servers : List AddressValue) (mirrors : ℕ) → IsSo (new_mds servers mirrors) [] []
begun servers mirrors = record { drawn = omega arith; all = tt; were = λ call inside. absurd inside; each = tt }

pub calls_by_uids : (servers : List AddressValue) (mirrors : ℕ) (events : List MdsEvent) → CallsByUids servers mirrors events
calls_by_uids servers mirrors events before after s is =
    all_split IsByItsUid before after s (subst (AllOf IsByItsUid) is (in_each_run IsSo cases (λ m request now es ss i. i) (new_mds servers mirrors) events (begun servers mirrors)).each)
