-- A file is granted where it was entered last as free.
use Rattle.std.proofs.Common.{◌≡◌, ℕ, ◌+◌, ◌-◌, Bool, true, false, cond, List, [], ◌∷◌, ◌++◌, length, Some, refl, sym, ap, subst, ◌∙◌, inl, inr, ◌⊎◌, arith}
use Rattle.std.specs.Prelude.{◌==◌, slice_get, slice_set}
use Rattle.std.specs.List.{list_any}
use Rattle.std.proofs.lemmas.Bool.{cond_both, cases_eq, eq-eqb, ne_eqb}
use Rattle.std.proofs.lemmas.Bool.Decides.{nat_tests}
use Rattle.std.proofs.lemmas.List.{append-nil}
use Rattle.std.proofs.lemmas.Option.{same_Some, none-some}
use Rattle.device_addr.specs.Universal.{AddressValue}
use Rattle.cluster_model.specs.declared.ids.NodeId.TheVariants.{Server}
use Rattle.cluster_model.specs.declared.ids.FileId.{FileId}
use Rattle.cluster_model.specs.declared.entry.Entry.{Entry}
use Rattle.cluster_model.specs.declared.entry.Entry.TheVariants as entry
use Rattle.cluster_model.specs.declared.layout_state.LayoutState.{LayoutState}
use Rattle.cluster_model.proofs.Elements.{slice_get-set_other, slice_get-set_same, Pushed, Old, New, pushed}
use Rattle.file_rule.specs.FilePhases.{Answers as IsAnswer, TimesOut, Sees, FileInput, new_mds_file, phase}
use Rattle.file_rule.specs.MdsFiles.{MdsFile, FileStep}
use Rattle.mds_rows.specs.Draws.{drawn}
use Rattle.recall.specs.Recalls.{without_file}
use Rattle.mds_rule.specs.Answers.{own_answer}
use Rattle.mds_rule.specs.MdsStates.{ServedFile, MdsSend, CallsServer, CallsBack, Replies, Answers, AwaitedCall, MdsValue, with_call, served, with_served, new_mds}
use Rattle.mds_rule.specs.declared.waiter.Waiter.TheVariants.{ForFile, ForRead, ForWrite, ForRecall}
use Rattle.mds_rule.specs.ServedFiles.{is_period_end, file_behind, file_stepped}
use Rattle.mds_rule.specs.FileOps.{servers_of, new_served, with_new_file}
use Rattle.mds_walk.specs.MdsRuns.{MdsEvent}
use Rattle.mds_laws.specs.MdsRunLaws.{stands_if, stands_by, stands_free, IsOfFree, GrantsFreeFiles}
use Rattle.mds_walk.proofs.Lists.{EachOf, each_push, each_join, each_at}
use Rattle.mds_laws.proofs.Keeping.{Cases, note_quiet, is_quiet}
use Rattle.mds_walk.proofs.Parts.{HeardAny}
use Rattle.mds_walk.proofs.Served.{place_served}
use Rattle.mds_laws.proofs.GoesWalk.{in_each_run}
use Rattle.mds_laws.proofs.FileGrants.{is_free, IsEntryOf, next_free, Tells, phase_tells, out_layout}
use Rattle.mds_laws.proofs.Numbers.{WereSent, sent_more, sent_with, sent_kept}

-- ---- one entry

stands_append : (n : ℕ) (was : Bool) (a b : List Entry) → stands_free n was (a ++ b) ≡ stands_free n (stands_free n was a) b
stands_append n was [] b = refl
stands_append n was (e ∷ a) b = stands_append n (stands_by n was e) a b

stands_same : (n other : ℕ) (is was : Bool) → other ≡ n → stands_if n other is was ≡ is
stands_same n other is was same = subst (λ (b : Bool). cond b is was ≡ is) (sym (eq-eqb n other (sym same))) refl

stands_other : (n other : ℕ) (is was : Bool) → (n ≡ other → ⊥) → stands_if n other is was ≡ was
stands_other n other is was apart = subst (λ (b : Bool). cond b is was ≡ was) (sym (ne_eqb n other apart)) refl

entry_own : (file : FileId) (was : Bool) (e : Entry) → IsEntryOf file was e → stands_by file.0 was e ≡ next_free was e
entry_own file was (entry.Free other live) is = stands_same file.0 other.0 true was is
entry_own file was (entry.Granted other cred holder) is = stands_same file.0 other.0 false was is.0
entry_own file was (entry.Ended other cred cause) is = stands_same file.0 other.0 false was is
entry_own file was e is = refl

entry_other : (file : FileId) (was : Bool) (n : ℕ) (b : Bool) (e : Entry) → IsEntryOf file was e → (n ≡ file.0 → ⊥) → stands_by n b e ≡ b
entry_other file was n b (entry.Free other live) is apart = stands_other n other.0 true b (λ same. apart (same ∙ is))
entry_other file was n b (entry.Granted other cred holder) is apart = stands_other n other.0 false b (λ same. apart (same ∙ is.0))
entry_other file was n b (entry.Ended other cred cause) is apart = stands_other n other.0 false b (λ same. apart (same ∙ is))
entry_other file was n b e is apart = refl

entry_free : (file : FileId) (past : List Entry) (e : Entry) → IsEntryOf file (stands_free file.0 false past) e → IsOfFree past e
entry_free file past (entry.Granted other cred holder) is = subst (λ (n : ℕ). stands_free n false past ≡ true) (sym is.0) is.1
entry_free file past (entry.Free other live) is = tt
entry_free file past (entry.Ended other cred cause) is = tt
entry_free file past e is = tt

-- ---- the entries of an input

own_run : (file : FileId) (was : Bool) (entries : List Entry) (now : Bool) → Tells file was entries now → now ≡ true → stands_free file.0 was entries ≡ true
own_run file was [] now t is = t is
own_run file was (e ∷ entries) now t is = subst (λ (b : Bool). stands_free file.0 b entries ≡ true) (sym (entry_own file was e t.0)) (own_run file (next_free was e) entries now t.1 is)

other_run : (file : FileId) (was : Bool) (entries : List Entry) (now : Bool) → Tells file was entries now → (n : ℕ) → (n ≡ file.0 → ⊥) → (b : Bool) → stands_free n b entries ≡ b
other_run file was [] now t n apart b = refl
other_run file was (e ∷ entries) now t n apart b = other_run file (next_free was e) entries now t.1 n apart (stands_by n b e) ∙ entry_other file was n b e t.0 apart

each_run : (file : FileId) (past entries : List Entry) (now : Bool) → Tells file (stands_free file.0 false past) entries now → EachOf IsOfFree past entries
each_run file past [] now t = tt
each_run file past (e ∷ entries) now t =
    let behind : stands_free file.0 false (past ++ e ∷ []) ≡ next_free (stands_free file.0 false past) e = stands_append file.0 false past (e ∷ []) ∙ entry_own file (stands_free file.0 false past) e t.0 in
    (entry_free file past e t.0, each_run file (past ++ e ∷ []) entries now (subst (λ (b : Bool). Tells file b entries now) (sym behind) t.1))

quiet_stands : (n : ℕ) (b : Bool) (e : Entry) → is_quiet e ≡ true → stands_by n b e ≡ b
quiet_stands n b (entry.Free other live) is = absurd cc
quiet_stands n b (entry.Granted other cred holder) is = absurd cc
quiet_stands n b (entry.Ended other cred cause) is = absurd cc
quiet_stands n b e is = refl

quiet_free : (past : List Entry) (e : Entry) → is_quiet e ≡ true → IsOfFree past e
quiet_free past (entry.Granted other cred holder) is = absurd cc
quiet_free past e is = tt

-- ---- all files

abbrev AreFree : List ServedFile → List Entry → Type 0
AreFree files es = (place : ℕ) (s : ServedFile) → slice_get files place ≡ Some s → is_free s.file.layout.phase ≡ true → stands_free (place + 1) false es ≡ true

record Stands (files : List ServedFile) (calls : List AwaitedCall) (es : List Entry) (ss : List MdsSend) : Type 0 where
  pub free : AreFree files es
  pub each : EachOf IsOfFree [] es
  pub were : WereSent calls ss

abbrev IsSo : MdsValue → List Entry → List MdsSend → Type 0
IsSo m es ss = Stands m.files m.calls es ss

not_free : false ≡ true → ⊥
not_free is = absurd cc

number_of : (n : ℕ) → (n == 0) ≡ false → n ≡ n - 1 + 1
number_of n is = grind (arith, nat_tests, is)

-- one file changes, and what is entered is of it
free_set : (files : List ServedFile) (es more : List Entry) (place : ℕ) (s t : ServedFile) → slice_get files place ≡ Some s → AreFree files es
    → ((n : ℕ) → (n ≡ place + 1 → ⊥) → stands_free n false more ≡ stands_free n false es) → (is_free t.file.layout.phase ≡ true → stands_free (place + 1) false more ≡ true) → AreFree (slice_set files place t) more
free_set files es more place s t at free apart new other x got is = by_place (cases_eq other place)
  where
    by_place : (other ≡ place) ⊎ (other ≡ place → ⊥) → stands_free (other + 1) false more ≡ true
    by_place (inl same) =
        let its : t ≡ x = same_Some t x (sym (slice_get-set_same files place s t at) ∙ ap (slice_get (slice_set files place t)) (sym same) ∙ got) in
        subst (λ (n : ℕ). stands_free (n + 1) false more ≡ true) (sym same) (new (ap (λ (y : ServedFile). is_free y.file.layout.phase) its ∙ is))
    by_place (inr ne) =
        apart (other + 1) (λ (same : other + 1 ≡ place + 1). ne (omega (arith, same))) ∙ free other x (sym (slice_get-set_other files place other t ne) ∙ got) is

puts : (m : MdsValue) (file : FileId) (s t : ServedFile) → served m file ≡ Some s → t.file ≡ s.file → (es : List Entry) → AreFree m.files es → AreFree (slice_set m.files (file.0 - 1) t) es
puts m file s t at same es free =
    let there = place_served m file s at in
    free_set m.files es es (file.0 - 1) s t there.1 free (λ n apart. refl) (λ is. free (file.0 - 1) s there.1 (ap (λ (f : MdsFile). is_free f.layout.phase) (sym same) ∙ is))

called : (m : MdsValue) (file : FileId) (s t : ServedFile) (call : AwaitedCall) → served m file ≡ Some s → is_free t.file.layout.phase ≡ is_free s.file.layout.phase → (es : List Entry) (ss : List MdsSend) → IsSo m es ss
    → Stands (slice_set m.files (file.0 - 1) t) (with_call call m.calls) (es ++ []) (ss ++ call.sent ∷ [])
called m file s t call at same es ss i =
    let there = place_served m file s at in
    let new : AreFree (slice_set m.files (file.0 - 1) t) es = free_set m.files es es (file.0 - 1) s t there.1 i.free (λ n apart. refl) (λ is. i.free (file.0 - 1) s there.1 (sym same ∙ is)) in
    subst (λ (l : List Entry). Stands (slice_set m.files (file.0 - 1) t) (with_call call m.calls) l (ss ++ call.sent ∷ [])) (sym (append-nil es)) (record { free = new; each = i.each; were = sent_with m.calls ss call i.were })

inputs : (m : MdsValue) (file : FileId) (s : ServedFile) (input : FileInput) → served m file ≡ Some s → (es : List Entry) (ss : List MdsSend) → IsSo m es ss
    → IsSo (file_stepped m file s (phase file s.file input m.fresh)).mds (es ++ (phase file s.file input m.fresh).entries) ss
inputs m file s input at es ss i =
    let step : FileStep = phase file s.file input m.fresh in
    let n : MdsValue = with_served (record m { fresh = drawn m.fresh step }) file (file_behind s step) in
    let there : ((file.0 == 0) ≡ false) × (slice_get m.files (file.0 - 1) ≡ Some s) = place_served m file s at in
    let number : file.0 ≡ file.0 - 1 + 1 = number_of file.0 there.0 in
    let was : Bool = stands_free file.0 false es in
    let stood : is_free s.file.layout.phase ≡ true → stands_free file.0 false es ≡ true = λ is. subst (λ (k : ℕ). stands_free k false es ≡ true) (sym number) (i.free (file.0 - 1) s there.1 is) in
    let tells : Tells file (stands_free file.0 false es) step.entries (is_free step.file.layout.phase) = phase_tells file m.fresh (stands_free file.0 false es) s.file input stood in
    let new : Stands n.files n.calls (es ++ step.entries) ss = record {
      free = free_set m.files es (es ++ step.entries) (file.0 - 1) s (file_behind s step) there.1 i.free
          (λ k apart. stands_append k false es step.entries ∙ other_run file (stands_free file.0 false es) step.entries (is_free step.file.layout.phase) tells k (λ same. apart (same ∙ number)) (stands_free k false es))
          (λ is. subst (λ (k : ℕ). stands_free k false (es ++ step.entries) ≡ true) number
          (stands_append file.0 false es step.entries ∙ own_run file (stands_free file.0 false es) step.entries (is_free step.file.layout.phase) tells is));
      each = each_join IsOfFree [] es step.entries i.each (each_run file es step.entries (is_free step.file.layout.phase) tells);
      were = i.were;
    } in
    cond_both (list_any is_period_end step.entries) (record n { recalls = without_file file n.recalls }) n (λ (x : MdsValue). Stands x.files x.calls (es ++ step.entries) ss) (λ end. new) (λ other. new)

-- a new file is being made
makes : (m : MdsValue) (name : List ℕ) (es : List Entry) (ss : List MdsSend) → IsSo m es ss → IsSo (with_new_file m name) es ss
makes m name es ss i = record { free = λ place s got is. by_place place s (pushed m.files _ place s got) is; each = i.each; were = i.were }
  where
    by_place : (place : ℕ) (s : ServedFile) → Pushed m.files (new_served name (new_mds_file m.fresh (servers_of (length m.servers) m.mirrors (length m.files + 1)))) place s → is_free s.file.layout.phase ≡ true → stands_free (place + 1) false es ≡ true
    by_place place s (Old at) is = i.free place s at is
    by_place place s (New at its) is = absurd (not_free (sym (ap (λ (x : ServedFile). is_free x.file.layout.phase) its) ∙ is))

-- what says nothing of files
notes : (files : List ServedFile) (calls : List AwaitedCall) (e : Entry) → is_quiet e ≡ true → (es : List Entry) (ss : List MdsSend) → Stands files calls es ss → Stands files calls (es ++ e ∷ []) ss
notes files calls e quiet es ss i = record {
  free = λ place s got is. stands_append (place + 1) false es (e ∷ []) ∙ quiet_stands (place + 1) (stands_free (place + 1) false es) e quiet ∙ i.free place s got is;
  each = each_push IsOfFree [] es e i.each (quiet_free es e quiet);
  were = i.were;
}

sends : (files : List ServedFile) (calls : List AwaitedCall) (es : List Entry) (ss : List MdsSend) (s : MdsSend) → Stands files calls es ss → Stands files calls es (ss ++ s ∷ [])
sends files calls es ss s i = record { free = i.free; each = i.each; were = sent_more calls ss s i.were }

called_back : (files : List ServedFile) (calls : List AwaitedCall) (call : AwaitedCall) (es : List Entry) (ss : List MdsSend) → Stands files calls es ss → Stands files (with_call call calls) (es ++ []) (ss ++ call.sent ∷ [])
called_back files calls call es ss i =
    subst (λ (l : List Entry). Stands files (with_call call calls) l (ss ++ call.sent ∷ [])) (sym (append-nil es)) (record { free = i.free; each = i.each; were = sent_with calls ss call i.were })

cases : Cases IsSo HeardAny
cases = record {
  quiet = λ m confirmed opens reclaimed recalls es ss i. i;
  tables = λ m move is es ss i. i;
  replies = λ m node reply es ss i. sends m.files m.calls es ss (Replies node reply) i;
  answers = λ m node bytes reply is es ss i. sends m.files m.calls es ss (Answers node bytes) i;
  notes = λ m e note es ss i. notes m.files m.calls e (note_quiet e note) es ss i;
  puts = λ m file s t at same write es ss i. record { free = puts m file s t at same es i.free; each = i.each; were = i.were };
  inputs = λ m file s input itself at fresh es ss i. inputs m file s input at es ss i;
  timeouts = λ m file s xid at fresh es ss i. inputs m file s (TimesOut xid) at es ss i;
  hears = λ m file s call server own uid c replies heard caller sent out at fresh es ss i. inputs m file s (IsAnswer call.xid (own_answer c (replies c))) at es ss i;
  learns = λ m file s call server own uid c replies fileid shown heard caller sent named shows at fresh es ss i. inputs m file s (Sees (record { server = server; fileid = fileid }) shown.seen) at es ss i;
  makes = λ m name may. makes m name;
  calls_file = λ m file s c at has its es ss i.
      called m file s (record s { file = c.file }) (record { node = Server c.server; xid = m.next_xid; caller = ForFile file; sent = CallsServer c.server m.next_xid c.uid c.call }) at
      (ap (λ (l : LayoutState). is_free l.phase) (out_layout s.file m.next_xid c its)) es ss i;
  calls_write = λ m file s w c at has waits its is_write es ss i.
      called m file s (record s { write = Some (record w { writer = c.writer }) }) (record { node = Server c.id.server; xid = m.next_xid; caller = ForWrite file; sent = CallsServer c.id.server m.next_xid w.writer.cred c.call }) at refl es ss i;
  calls_read = λ m file s t server call at has same write uid is_read es ss i.
      called m file s t (record { node = Server server; xid = m.next_xid; caller = ForRead file; sent = CallsServer server m.next_xid 0 call }) at (ap (λ (f : MdsFile). is_free f.layout.phase) same) es ss i;
  calls_back = λ m node back file stateid has es ss i. called_back m.files m.calls (record { node = node; xid = m.next_xid; caller = ForRecall; sent = CallsBack m.next_xid back file stateid }) es ss i;
  skips = λ m has es ss i. i;
  forgets = λ m test es ss i. record { free = i.free; each = i.each; were = sent_kept test m.calls ss i.were };
  was = λ m es ss i. i.were;
  again = λ m s es ss i inside. sends m.files m.calls es ss s i;
}

begun : (servers : List AddressValue) (mirrors : ℕ) → IsSo (new_mds servers mirrors) [] []
begun servers mirrors = record { free = λ place s got is. absurd (none-some s got); each = tt; were = λ call inside. absurd inside }

pub grants_free_files : (servers : List AddressValue) (mirrors : ℕ) (events : List MdsEvent) → GrantsFreeFiles servers mirrors events
grants_free_files servers mirrors events before after e is =
    each_at IsOfFree [] before after e (subst (EachOf IsOfFree []) is (in_each_run IsSo cases (λ m request now es ss i. i) (new_mds servers mirrors) events (begun servers mirrors)).each)
