-- What holds of a metadata server by the history so far: of each file its live mirrors, of each READ that waits what it rests on, of the
-- calls that went out their numbers, and of each answer what it rests on.
use Rattle.std.proofs.Common.{◌≡◌, ◌≢◌, ◌≤◌, ℕ, true, false, List, [], ◌∷◌, ◌++◌, Option, Some, None, refl, sym, ap, subst, ◌∙◌, inl, inr, Bool, filter}
use Rattle.std.specs.Prelude.{not, ◌==◌}
use Rattle.std.specs.List.{AllByRecursion}
use Rattle.std.proofs.lemmas.Bool.{cases_eq}
use Rattle.std.proofs.lemmas.List.{append-nil}
use Rattle.std.proofs.lemmas.Option.{same_Some, none-some}
use Rattle.ff_xdr.specs.Form.{Value, arm_of}
use Rattle.cluster_model.specs.declared.ids.FileId.{FileId}
use Rattle.cluster_model.specs.Members.{IsOneOf}
use Rattle.nfs4_compound.specs.Args.{argop4}
use Rattle.cluster_laws.specs.FenceLaw.{live_in}
use Rattle.cluster_laws.proofs.FewMirrors.{FileHasFew}
use Rattle.cluster_laws.proofs.Lists.{all_more, put_same, put_other}
use Rattle.mds_rule.specs.MdsStates.{WaitingRead, WaitingWrite, ServedFile, MdsSend, AwaitedCall, MdsValue, with_call, served_in, with_file}
use Rattle.mds_rule.specs.Goes.{xid_after}
use Rattle.mds_laws.specs.MdsRunLaws.{number_sent}
use Rattle.mds_histories.specs.MdsHistory.{MdsItem, Sends, entries_in, sends_in}
use Rattle.mds_histories.proofs.Histories.{sends_joined}
use Rattle.read_runs.proofs.LiveTold.{live_in_layout, FitsPhase}
use Rattle.read_runs.proofs.WaitingReads.{IsWaitingFor, NoSwapsOf, waits_more}
use Rattle.read_runs.proofs.Answered.{AreRight, right_joined, right_stills, AreStillItems, no_swap_stills, live_stills}
use Rattle.read_runs.proofs.SentCalls.{IsCallSo, HaveNumbers, numbers_none, numbers_again, numbers_new, numbers_skip, numbers_forget}

-- ---- a file

-- operations of which none is a READ
abbrev pub AreNoReads : List (Value argop4) → Type 0
AreNoReads ops = AllByRecursion (λ op. (arm_of argop4 op == 25) ≡ false) ops

abbrev pub IsWriteSo : Option WaitingWrite → Type 0
IsWriteSo None = Unit {0}
IsWriteSo (Some w) = AreNoReads w.compound.ops

abbrev pub IsReadSo : List MdsItem → FileId → WaitingRead → Type 0
IsReadSo h file r = IsWaitingFor h file r.compound r.read

pub record IsServedSo (h : List MdsItem) (file : FileId) (s : ServedFile) : Type 0 where
  pub live : live_in (entries_in h) file ≡ live_in_layout s.file.layout
  pub few : FileHasFew s.file
  pub fits : FitsPhase s.file.layout.phase s.file.activity
  pub reads : AllByRecursion (IsReadSo h file) s.reads
  pub write : IsWriteSo s.write

abbrev pub AreServedSo : List ServedFile → List MdsItem → Type 0
AreServedSo files h = (file : FileId) (s : ServedFile) → served_in files file ≡ Some s → IsServedSo h file s

-- of a file that is not there nothing was entered
abbrev pub AreNotTold : List ServedFile → List MdsItem → Type 0
AreNotTold files h = (file : FileId) → served_in files file ≡ None → live_in (entries_in h) file ≡ None

-- ---- all together

pub record HoldsOf (mirrors : ℕ) (files : List ServedFile) (calls : List AwaitedCall) (next : ℕ) (h : List MdsItem) : Type 0 where
  pub few : mirrors ≤ 4
  pub files_so : AreServedSo files h
  pub not_told : AreNotTold files h
  pub numbered : HaveNumbers next calls (sends_in h)
  pub right : AreRight [] h

abbrev pub Holds : MdsValue → List MdsItem → Type 0
Holds m h = HoldsOf m.mirrors m.files m.calls m.next_xid h

-- ---- still items

pub served_more : (h : List MdsItem) (file : FileId) (s : ServedFile) (items : List MdsItem) → live_in (entries_in (h ++ items)) file ≡ live_in (entries_in h) file → NoSwapsOf file items → IsServedSo h file s → IsServedSo (h ++ items) file s
served_more h file s items live none i = record {
  live = live ∙ i.live;
  few = i.few;
  fits = i.fits;
  reads = all_more (IsReadSo h file) (IsReadSo (h ++ items) file) s.reads (λ r w. waits_more h file r.compound r.read items none w) i.reads;
  write = i.write;
}

module _ (mirrors : ℕ) (files : List ServedFile) (calls : List AwaitedCall) (next : ℕ) (h : List MdsItem) (i : HoldsOf mirrors files calls next h) where
  -- items by which no live list changes
  pub grown_by : (items : List MdsItem) (more : List AwaitedCall) (xid : ℕ) → ((file : FileId) → live_in (entries_in (h ++ items)) file ≡ live_in (entries_in h) file) → ((file : FileId) → NoSwapsOf file items) → AreRight h items
      → HaveNumbers xid more (sends_in (h ++ items)) → HoldsOf mirrors files more xid (h ++ items)
  grown_by items more xid live none right n = record {
    few = i.few;
    files_so = λ file s is. served_more h file s items (live file) (none file) (i.files_so file s is);
    not_told = λ file is. live file ∙ i.not_told file is;
    numbered = n;
    right = right_joined [] h items i.right right;
  }

  grown : (items : List MdsItem) (more : List AwaitedCall) (xid : ℕ) → AreStillItems items → HaveNumbers xid more (sends_in (h ++ items)) → HoldsOf mirrors files more xid (h ++ items)
  grown items more xid still n = grown_by items more xid (λ file. live_stills file h items still) (λ file. no_swap_stills file items still) (right_stills h items still) n

  pub holds_still : (items : List MdsItem) → AreStillItems items → sends_in items ≡ [] → HoldsOf mirrors files calls next (h ++ items)
  holds_still items still none =
      grown items calls next still (subst (λ (ss : List MdsSend). HaveNumbers next calls ss) (sym (sends_joined h items ∙ ap (λ l. sends_in h ++ l) none ∙ append-nil (sends_in h))) i.numbered)

  -- a send, by its number
  pushed_send : (s : MdsSend) (more : List AwaitedCall) (xid : ℕ) → HaveNumbers xid more (sends_in h ++ s ∷ []) → HoldsOf mirrors files more xid (h ++ Sends s ∷ [])
  pushed_send s more xid n = grown (Sends s ∷ []) more xid (tt, tt) (subst (λ (ss : List MdsSend). HaveNumbers xid more ss) (sym (sends_joined h (Sends s ∷ []))) n)

  pub holds_replied : (s : MdsSend) → number_sent s ≡ None → HoldsOf mirrors files calls next (h ++ Sends s ∷ [])
  holds_replied s none = pushed_send s calls next (numbers_none next calls (sends_in h) s none i.numbered)

  pub holds_again : (s : MdsSend) → IsOneOf s (sends_in h) → HoldsOf mirrors files calls next (h ++ Sends s ∷ [])
  holds_again s inside = pushed_send s calls next (numbers_again next calls (sends_in h) s inside i.numbered)

  pub holds_called : (call : AwaitedCall) → not (next == 0) ≡ true → number_sent call.sent ≡ Some next → IsCallSo call → HoldsOf mirrors files (with_call call calls) (xid_after next) (h ++ Sends call.sent ∷ [])
  holds_called call has number so = pushed_send call.sent (with_call call calls) (xid_after next) (numbers_new next calls (sends_in h) call has number so i.numbered)

  pub holds_skip : not (next == 0) ≡ true → HoldsOf mirrors files calls (xid_after next) h
  holds_skip has = record { few = i.few; files_so = i.files_so; not_told = i.not_told; numbered = numbers_skip next calls (sends_in h) has i.numbered; right = i.right }

  pub holds_forget : (test : AwaitedCall → Bool) → HoldsOf mirrors files (filter test calls) next h
  holds_forget test = record { few = i.few; files_so = i.files_so; not_told = i.not_told; numbered = numbers_forget next calls (sends_in h) test i.numbered; right = i.right }

-- ---- one file changes

file_same : (a b : FileId) → a.0 ≡ b.0 → a ≡ b
file_same a b is = subst (λ (n : ℕ). a ≡ record { 0 = n }) is refl

module _ (files : List ServedFile) (file : FileId) (s t : ServedFile) (is : served_in files file ≡ Some s) where
  same_there : (other : FileId) → other.0 ≡ file.0 → served_in (with_file files file t) other ≡ Some t
  same_there other at = subst (λ (x : FileId). served_in (with_file files file t) x ≡ Some t) (sym (file_same other file at)) (put_same files file.0 s t is)

  -- each file, in a longer history
  pub files_set : (h g : List MdsItem) → AreServedSo files h → IsServedSo g file t → ((other : FileId) (u : ServedFile) → other.0 ≢ file.0 → IsServedSo h other u → IsServedSo g other u) → AreServedSo (with_file files file t) g
  files_set h g all its others other u at =
      elim (cases_eq other.0 file.0) [
        | inl same ↦ subst (λ (x : FileId). IsServedSo g x u) (sym (file_same other file same)) (subst (λ (y : ServedFile). IsServedSo g file y) (same_Some t u (sym (same_there other same) ∙ at)) its)
        | inr apart ↦ others other u apart (all other u (sym (put_other files file.0 other.0 s t is apart) ∙ at))
      ]

  pub told_set : (h g : List MdsItem) → AreNotTold files h → ((other : FileId) → other.0 ≢ file.0 → live_in (entries_in h) other ≡ None → live_in (entries_in g) other ≡ None) → AreNotTold (with_file files file t) g
  told_set h g all others other at =
      elim (cases_eq other.0 file.0) [
        | inl same ↦ absurd (none-some t (sym at ∙ same_there other same))
        | inr apart ↦ others other apart (all other (sym (put_other files file.0 other.0 s t is apart) ∙ at))
      ]

-- it is put back as something else that is so
pub holds_put : (mirrors : ℕ) (files : List ServedFile) (calls : List AwaitedCall) (next : ℕ) (h : List MdsItem) (file : FileId) (s t : ServedFile) → HoldsOf mirrors files calls next h → served_in files file ≡ Some s → IsServedSo h file t
    → HoldsOf mirrors (with_file files file t) calls next h
holds_put mirrors files calls next h file s t i is its = record {
  few = i.few;
  files_so = files_set files file s t is h h i.files_so its (λ other u apart old. old);
  not_told = told_set files file s t is h h i.not_told (λ other apart old. old);
  numbered = i.numbered;
  right = i.right;
}
