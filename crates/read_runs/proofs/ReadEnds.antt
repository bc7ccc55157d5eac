-- A step of a READ that waits: it goes on, or its mirror fails, or it ends, which enters the answer and sends the reply right behind it.
use Rattle.std.proofs.Common.{◌≡◌, ℕ, zero, suc, Bool, List, [], ◌∷◌, ◌++◌, length, Option, Some, None, refl, sym, ap, subst, ◌∙◌, inl, inr}
use Rattle.std.specs.Prelude.{map, slice_set, remove, drop}
use Rattle.std.specs.List.{AllByRecursion}
use Rattle.std.proofs.Math.Seq.{drop-length, drop-append_seam}
use Rattle.std.proofs.lemmas.List.{append-nil, append_assoc}
use Rattle.ff_xdr.specs.Form.{Value}
use Rattle.compound_reply.specs.Replied.{success_reply}
use Rattle.cluster_model.specs.declared.ids.FileId.{FileId}
use Rattle.cluster_model.specs.declared.ids.Mirror.{Mirror}
use Rattle.cluster_model.specs.declared.ids.MirrorId.{MirrorId}
use Rattle.cluster_model.specs.declared.call_stage.CallStage.TheVariants.{Done}
use Rattle.cluster_model.specs.declared.entry.Entry.{Entry}
use Rattle.cluster_model.specs.declared.entry.Entry.TheVariants as entry
use Rattle.cluster_model.specs.Phases.{ids_of}
use Rattle.cluster_laws.proofs.Lists.{all_set}
use Rattle.mds_io.specs.declared.read_end.Failure.{Failure}
use Rattle.mds_io.specs.declared.read_end.ReadEnd.TheVariants as end
use Rattle.mds_io.specs.Reads.{ReadState, ReadAfter, at_stage, in_turn, with_failure, end_of}
use Rattle.nfs4_types.specs.declared.status.Stat4.TheVariants as stat
use Rattle.nfs4_compound.specs.declared.stop.Stop.{Stop}
use Rattle.nfs4_compound.specs.declared.stop.Stop.TheVariants as stop
use Rattle.nfs4_compound.specs.Args.{argop4}
use Rattle.nfs4_compound.specs.Results.{resop4}
use Rattle.mds_rule.specs.MdsStates.{CompoundRun, WaitingRead, ServedFile, AwaitedCall, Replies, MdsValue, MdsStep, sends_none, enters, served, with_served}
use Rattle.mds_rule.specs.OpSteps.{with_result, refused_as, stopped}
use Rattle.mds_rule.specs.Compounds.{compound_bytes, finishes, op_then, with_ops}
use Rattle.mds_rule.specs.FileOps.{read_length}
use Rattle.mds_rule.specs.Answers.{resumes, is_done_as, failed_entry, failed_entries, read_result, without_read, read_resumes, read_ends, read_after}
use Rattle.mds_histories.specs.MdsHistory.{MdsItem, Enters, Sends, sends_in}
use Rattle.mds_histories.proofs.Histories.{sends_joined}
use Rattle.read_runs.specs.ReadRuns.{HasReadCause, WasGiven, IsReadAnswered}
use Rattle.read_runs.proofs.WaitingReads.{IsWaitingFor, each_failed}
use Rattle.read_runs.proofs.ReadBecomes.{BecomesSo, GoesOn, Fails, Gives}
use Rattle.read_runs.proofs.Answered.{live_told}
use Rattle.read_runs.proofs.SentCalls.{HaveNumbers, numbers_none}
use Rattle.read_runs.proofs.Holding.{IsReadSo, IsServedSo, HoldsOf, Holds, grown_by, holds_still, holds_put}
use Rattle.read_runs.proofs.Steps.{KeepsAt}

-- ---- the answer

-- what a READ that ends rests on
cause_at : (start since : List MdsItem) (r : ReadState) (at count : ℕ) (live : List MirrorId) (status : ℕ) (bytes : List ℕ) → r.at ≡ at → r.count ≡ count → HasReadCause start since r.at r.count live status bytes → HasReadCause start since at count live status bytes
cause_at start since r at count live status bytes first second cause =
    subst (λ (a : ℕ). HasReadCause start since a count live status bytes) first (subst (λ (n : ℕ). HasReadCause start since r.at n live status bytes) second cause)

answer_of : (h : List MdsItem) (file : FileId) (c : CompoundRun) (r : ReadState) (status : ℕ) (bytes text : List ℕ) (w : IsWaitingFor h file c r) → HasReadCause w.start w.since r.at r.count (ids_of r.live) status bytes
    → IsReadAnswered h file status bytes (Sends (Replies c.node (success_reply c.xid text)) ∷ [])
answer_of h file c r status bytes text w cause = record {
  node = c.node;
  asked = w.bytes;
  xid = c.xid;
  v = w.v;
  compound = w.compound;
  at = w.at;
  count = w.count;
  reads = w.reads;
  start = w.start;
  since = w.since;
  starts = w.starts;
  live = ids_of r.live;
  live_then = w.live_then;
  cause = cause_at w.start w.since r w.at (read_length w.count) (ids_of r.live) status bytes w.at_is w.count_is cause;
  reply = success_reply c.xid text;
  later = [];
  replied = refl;
  number = refl;
  whole = refl;
}

holds_answered : (mirrors : ℕ) (files : List ServedFile) (calls : List AwaitedCall) (next : ℕ) (h : List MdsItem) (file : FileId) (c : CompoundRun) (status : ℕ) (bytes text : List ℕ) → HoldsOf mirrors files calls next h
    → IsReadAnswered h file status bytes (Sends (Replies c.node (success_reply c.xid text)) ∷ [])
    → HoldsOf mirrors files calls next (h ++ Enters (entry.ReadAnswer file status bytes) ∷ Sends (Replies c.node (success_reply c.xid text)) ∷ [])
holds_answered mirrors files calls next h file c status bytes text i a =
    let reply = Replies c.node (success_reply c.xid text) in
    let items : List MdsItem = Enters (entry.ReadAnswer file status bytes) ∷ Sends reply ∷ [] in
    grown_by mirrors files calls next h i items calls next (λ other. live_told other h items) (λ other. (tt, (tt, tt))) (a, (tt, tt))
    (subst (λ ss. HaveNumbers next calls ss) (sym (sends_joined h items)) (numbers_none next calls (sends_in h) reply refl i.numbered))

-- ---- the file without it, or with it as it goes on

all_removed : {A : Type 0} (P : A → Type 0) (xs : List A) (place : ℕ) → AllByRecursion P xs → AllByRecursion P (remove xs place)
all_removed P [] zero all = tt
all_removed P [] (suc place) all = tt
all_removed P (x ∷ xs) zero all = all.1
all_removed P (x ∷ xs) (suc place) all = (all.0, all_removed P xs place all.1)

module _ (m : MdsValue) (file : FileId) (s : ServedFile) (at : served m file ≡ Some s) (place : ℕ) (h : List MdsItem) where
  holds_without : Holds m h → Holds (without_read m file s place) h
  holds_without i =
      let so : IsServedSo h file s = i.files_so file s at in
      holds_put m.mirrors m.files m.calls m.next_xid h file s (record s { reads = remove s.reads place }) i at
      (record { live = so.live; few = so.few; fits = so.fits; reads = all_removed (IsReadSo h file) s.reads place so.reads; write = so.write })

  pub holds_with : (r : WaitingRead) → IsReadSo h file r → Holds m h → Holds (with_served m file (record s { reads = slice_set s.reads place r })) h
  holds_with r w i =
      let so : IsServedSo h file s = i.files_so file s at in
      holds_put m.mirrors m.files m.calls m.next_xid h file s (record s { reads = slice_set s.reads place r }) i at
      (record { live = so.live; few = so.few; fits = so.fits; reads = all_set (IsReadSo h file) s.reads place r so.reads w; write = so.write })

-- ---- what its compound does then

-- with nothing left behind it, it ends and is answered
done_so : (now : ℕ) (m : MdsValue) (c : CompoundRun) (result : Value resop4) → c.ops ≡ [] → c.stop ≡ stop.End None
    → resumes now (is_done_as m c result) c.ops ≡ enters [] (enters [] (finishes m (with_ops (with_result c result) []) stat.Ok))
done_so now m c result none ends =
    ap (λ (ops : List (Value argop4)). resumes now (is_done_as m c result) ops) none
    ∙ ap (λ (s : Stop). enters [] (op_then (stopped m (with_ops (with_result c result) []) s) (λ n d. sends_none n))) ends

-- the entries of failures
none_new : (r n : ReadState) → n.failures ≡ r.failures → failed_entries r n ≡ []
none_new r n same = ap (λ (l : List Failure). map failed_entry (drop (length r.failures) l)) same ∙ ap (map failed_entry) (drop-length r.failures)

one_new : (r : ReadState) (f : Failure) → failed_entries r (with_failure r f) ≡ entry.Failed f.id f.xid ∷ []
one_new r f = ap (map failed_entry) (drop-append_seam r.failures (f ∷ []))

-- ---- a step

module _ (now : ℕ) (m : MdsValue) (file : FileId) (s : ServedFile) (at : served m file ≡ Some s) (place : ℕ) (h : List MdsItem) (r : WaitingRead) where
  goes_further : (n : ReadState) (es : List Entry) (g : List MdsItem) → IsWaitingFor g file r.compound n → g ≡ h ++ map Enters es → Holds m g
      → Holds (read_ends now m file s place r n None).mds (h ++ (map Enters (es ++ []) ++ []))
  goes_further n es g w is i =
      subst (λ (l : List MdsItem). Holds (read_ends now m file s place r n None).mds l) (is ∙ ap (λ (l : List Entry). h ++ map Enters l) (sym (append-nil es)) ∙ ap (λ l. h ++ l) (sym (append-nil (map Enters (es ++ [])))))
      (holds_with m file s at place g (record { compound = r.compound; read = n }) w i)

  -- it has its bytes
  gives : (w : IsWaitingFor h file r.compound r.read) (eof : Bool) (bytes : List ℕ) → WasGiven w.start w.since r.read.at r.read.count (ids_of r.read.live) bytes → Holds m h
      → Holds (read_resumes now (without_read m file s place) file r.compound (end.Bytes eof bytes)).mds
      (h ++ (map Enters (read_resumes now (without_read m file s place) file r.compound (end.Bytes eof bytes)).entries ++ map Sends (read_resumes now (without_read m file s place) file r.compound (end.Bytes eof bytes)).sends))
  gives w eof bytes given i =
      let n : MdsValue = without_read m file s place in
      let result : Value resop4 = read_result eof bytes in
      let d : CompoundRun = with_ops (with_result r.compound result) [] in
      subst (λ (x : MdsStep). Holds x.mds (h ++ (map Enters (entry.ReadAnswer file 0 bytes ∷ x.entries) ++ map Sends x.sends))) (sym (done_so now n r.compound result w.ops w.stop))
      (holds_answered m.mirrors n.files m.calls m.next_xid h file r.compound 0 bytes (compound_bytes d stat.Ok) (holds_without m file s at place h i)
      (answer_of h file r.compound r.read 0 bytes (compound_bytes d stat.Ok) w (inl (refl, given))))

  -- none of its mirrors is left
  all_failed : (f : Failure) → IsWaitingFor (h ++ Enters (entry.Failed f.id f.xid) ∷ []) file r.compound (with_failure r.read f) → in_turn (with_failure r.read f) ≡ None → Holds m h
      → Holds (read_resumes now (without_read m file s place) file r.compound (end.AllFailed (with_failure r.read f).failures)).mds
      (h ++ (map Enters (entry.Failed f.id f.xid ∷ (read_resumes now (without_read m file s place) file r.compound (end.AllFailed (with_failure r.read f).failures)).entries)
      ++ map Sends (read_resumes now (without_read m file s place) file r.compound (end.AllFailed (with_failure r.read f).failures)).sends))
  all_failed f w last i =
      let g : List MdsItem = h ++ Enters (entry.Failed f.id f.xid) ∷ [] in
      let n : MdsValue = without_read m file s place in
      let d : CompoundRun = with_result r.compound (refused_as 25 stat.Io) in
      subst (λ (l : List MdsItem). Holds n l) (append_assoc h (Enters (entry.Failed f.id f.xid) ∷ []) (Enters (entry.ReadAnswer file 5 []) ∷ Sends (Replies r.compound.node (success_reply r.compound.xid (compound_bytes d stat.Io))) ∷ []))
      (holds_answered m.mirrors n.files m.calls m.next_xid g file r.compound 5 [] (compound_bytes d stat.Io)
      (holds_without m file s at place g (holds_still m.mirrors m.files m.calls m.next_xid h i (Enters (entry.Failed f.id f.xid) ∷ []) (refl, tt) refl))
      (answer_of g file r.compound (with_failure r.read f) 5 [] (compound_bytes d stat.Io) w
      (inr (refl, λ id inside. each_failed w.start w.since r.read.at r.read.count r.read.live (with_failure r.read f).failures w.failed last id inside))))

  fails_by : (f : Failure) (o : Option Mirror) → in_turn (with_failure r.read f) ≡ o → IsWaitingFor (h ++ Enters (entry.Failed f.id f.xid) ∷ []) file r.compound (with_failure r.read f)
      → KeepsAt h m (read_after now m file s place r (record { read = with_failure r.read f; end = end_of (with_failure r.read f) o }))
  fails_by f (Some next) turn w i =
      subst (λ (es : List Entry). Holds (read_ends now m file s place r (with_failure r.read f) None).mds (h ++ (map Enters (es ++ []) ++ []))) (sym (one_new r.read f))
      (goes_further (with_failure r.read f) (entry.Failed f.id f.xid ∷ []) (h ++ Enters (entry.Failed f.id f.xid) ∷ []) w refl
      (holds_still m.mirrors m.files m.calls m.next_xid h i (Enters (entry.Failed f.id f.xid) ∷ []) (refl, tt) refl))
  fails_by f None turn w i =
      let x : MdsStep = read_resumes now (without_read m file s place) file r.compound (end.AllFailed (with_failure r.read f).failures) in
      subst (λ (es : List Entry). Holds x.mds (h ++ (map Enters (es ++ x.entries) ++ map Sends x.sends))) (sym (one_new r.read f)) (all_failed f w turn i)

  pub read_stepped : (a : ReadAfter) → BecomesSo h file r.compound r.read a → KeepsAt h m (read_after now m file s place r a)
  read_stepped a (GoesOn n is same w) =
      subst (λ (x : ReadAfter). KeepsAt h m (read_after now m file s place r x)) (sym is)
      (λ i.
      subst (λ (es : List Entry). Holds (read_ends now m file s place r n None).mds (h ++ (map Enters (es ++ []) ++ []))) (sym (none_new r.read n same))
      (goes_further n [] h w (sym (append-nil h)) i))
  read_stepped a (Fails f is w) =
      subst (λ (x : ReadAfter). KeepsAt h m (read_after now m file s place r x)) (sym is) (fails_by f (in_turn (with_failure r.read f)) refl w)
  read_stepped a (Gives w eof bytes is given) =
      subst (λ (x : ReadAfter). KeepsAt h m (read_after now m file s place r x)) (sym is)
      (λ i.
      let x : MdsStep = read_resumes now (without_read m file s place) file r.compound (end.Bytes eof bytes) in
      subst (λ (es : List Entry). Holds x.mds (h ++ (map Enters (es ++ x.entries) ++ map Sends x.sends))) (sym (none_new r.read (at_stage r.read Done) refl)) (gives w eof bytes given i))
