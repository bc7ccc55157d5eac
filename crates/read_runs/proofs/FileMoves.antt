-- A file takes an input of the table of phases, and a file is made: what holds by the history goes on to hold.
use Rattle.std.proofs.Common.{◌≡◌, ◌≢◌, ◌≤◌, ℕ, zero, suc, ◌+◌, ◌-◌, Bool, true, false, cond, List, [], ◌∷◌, ◌++◌, length, Option, Some, None, refl, sym, ap, subst, ◌∙◌, arith}
use Rattle.std.specs.Prelude.{◌==◌, ◌||◌, not, map, slice_get, filter}
use Rattle.std.specs.List.{AllByRecursion, list_any, range_with_len}
use Rattle.std.proofs.lemmas.Bool.{ne_eqb}
use Rattle.std.proofs.lemmas.List.{append-nil, length-map}
use Rattle.std.proofs.lemmas.List.Folds.{list_any-append}
use Rattle.std.proofs.lemmas.Option.{none-some}
use Rattle.cluster_model.specs.declared.ids.FileId.{FileId}
use Rattle.cluster_model.specs.declared.ids.MirrorId.{MirrorId}
use Rattle.cluster_model.specs.declared.call_stage.CallStage.TheVariants.{Waits}
use Rattle.cluster_model.specs.declared.entry.Entry.{Entry}
use Rattle.cluster_model.specs.declared.entry.Entry.TheVariants as entry
use Rattle.cluster_model.specs.Phases.{ids_of}
use Rattle.cluster_model.proofs.Elements.{Pushed, Old, New, pushed}
use Rattle.file_rule.specs.MdsFiles.{FileStep}
use Rattle.file_rule.specs.FilePhases.{FileInput, phase, new_mds_file, creations_at}
use Rattle.file_rule.specs.declared.creation.Creation.{Creation}
use Rattle.file_rule.specs.declared.fresh.Fresh.{Fresh}
use Rattle.cluster_laws.specs.FenceLaw.{first_free, changed_live, swapped_in, live_after, live_by, live_in}
use Rattle.cluster_laws.proofs.FewMirrors.{FileHasFew}
use Rattle.cluster_laws.proofs.FewSteps.{phase_few}
use Rattle.cluster_laws.proofs.Lists.{all_more, push_old}
use Rattle.cluster_laws.proofs.Lives.{all_map}
use Rattle.cluster_model.specs.Journal.{is_mirror}
use Rattle.mds_rule.specs.MdsStates.{ServedFile, AwaitedCall, served_in, with_file}
use Rattle.mds_rule.specs.ServedFiles.{is_swap, begins_again, file_behind}
use Rattle.mds_rule.specs.FileOps.{servers_of, nth_server, new_served}
use Rattle.mds_histories.specs.MdsHistory.{MdsItem, Enters, entries_in, sends_in}
use Rattle.mds_histories.proofs.Histories.{sends_joined, sends_entered}
use Rattle.read_runs.specs.ReadRuns.{EntersNoSwapOf}
use Rattle.read_runs.proofs.LiveTold.{IsOf, live_in_layout, SwapsLast, HasNone, HasLast, Says, made_live, LeaveSo}
use Rattle.read_runs.proofs.LiveRows.{phase_says}
use Rattle.read_runs.proofs.WaitingReads.{NoSwapsOf, waits_more, waits_again}
use Rattle.read_runs.proofs.Answered.{IsRight, AreRight, right_joined, live_entered}
use Rattle.read_runs.proofs.SentCalls.{HaveNumbers}
use Rattle.read_runs.proofs.Holding.{IsReadSo, IsServedSo, HoldsOf, files_set, told_set}

-- ---- entries of one file

not_its : (f file other : FileId) → other.0 ≢ file.0 → f ≡ file → (f.0 == other.0) ≡ false
not_its f file other apart its = ne_eqb f.0 other.0 (λ same. apart (sym same ∙ ap (λ (x : FileId). x.0) its))

-- they say nothing of another
of_other : (file other : FileId) → other.0 ≢ file.0 → (e : Entry) → IsOf file e → (was : Option (List MirrorId)) → live_after other was e ≡ was
of_other file other apart (entry.Free f live) its was = ap (λ (b : Bool). cond b (first_free live was) was) (not_its f file other apart its)
of_other file other apart (entry.Left f mirror cause) its was =
    ap (λ (b : Bool). cond b (changed_live (filter (λ m. not (is_mirror m mirror))) was) was) (not_its f file other apart its)
of_other file other apart (entry.Swapped f old new) its was = ap (λ (b : Bool). cond b (changed_live (swapped_in old new) was) was) (not_its f file other apart its)
of_other file other apart (entry.ReadAnswer f status bytes) its was = absurd its
of_other file other apart e its was = refl

others_live : (file other : FileId) → other.0 ≢ file.0 → (entries : List Entry) → AllByRecursion (IsOf file) entries → (was : Option (List MirrorId)) → live_by other was entries ≡ was
others_live file other apart [] all was = refl
others_live file other apart (e ∷ entries) all was = ap (λ w. live_by other w entries) (of_other file other apart e all.0 was) ∙ others_live file other apart entries all.1 was

swap_of_other : (file other : FileId) → other.0 ≢ file.0 → (e : Entry) → IsOf file e → EntersNoSwapOf other (Enters e)
swap_of_other file other apart (entry.Swapped f old new) its = λ same. apart (ap (λ (x : FileId). x.0) (sym same ∙ its))
swap_of_other file other apart e its = tt

others_swaps : (file other : FileId) → other.0 ≢ file.0 → (entries : List Entry) → AllByRecursion (IsOf file) entries → NoSwapsOf other (map Enters entries)
others_swaps file other apart [] all = tt
others_swaps file other apart (e ∷ entries) all = (swap_of_other file other apart e all.0, others_swaps file other apart entries all.1)

no_swap_of : (file : FileId) (e : Entry) → is_swap e ≡ false → EntersNoSwapOf file (Enters e)
no_swap_of file (entry.Swapped f old new) none = absurd cc
no_swap_of file e none = tt

neither : (a b : Bool) → (a || b) ≡ false → (a ≡ false) × (b ≡ false)
neither true b is = absurd cc
neither false b is = (refl, is)

own_swaps : (file : FileId) (entries : List Entry) → list_any is_swap entries ≡ false → NoSwapsOf file (map Enters entries)
own_swaps file [] none = tt
own_swaps file (e ∷ entries) none = let parts = neither (is_swap e) (list_any is_swap entries) none in (no_swap_of file e parts.0, own_swaps file entries parts.1)

right_of : (file : FileId) (past : List MdsItem) (e : Entry) (behind : List MdsItem) → IsOf file e → IsRight past (Enters e) behind
right_of file past (entry.ReadAnswer f status bytes) behind its = absurd its
right_of file past e behind its = tt

rights_of : (file : FileId) (past : List MdsItem) (entries : List Entry) → AllByRecursion (IsOf file) entries → AreRight past (map Enters entries)
rights_of file past [] all = tt
rights_of file past (e ∷ entries) all = (right_of file past e (map Enters entries) all.0, rights_of file (past ++ Enters e ∷ []) entries all.1)

last_is_swap : (file : FileId) (entries front : List Entry) (old : Option MirrorId) (new : MirrorId) → entries ≡ front ++ entry.Swapped file old new ∷ [] → list_any is_swap entries ≡ true
last_is_swap file entries front old new is = ap (list_any is_swap) is ∙ list_any-append is_swap front (entry.Swapped file old new ∷ []) ∙ either (list_any is_swap front)
  where
    either : (b : Bool) → (b || true) ≡ true
    either true = refl
    either false = refl

-- ---- an input

module _ (mirrors : ℕ) (files : List ServedFile) (calls : List AwaitedCall) (next : ℕ) (h : List MdsItem) (i : HoldsOf mirrors files calls next h) (file : FileId) (s : ServedFile) (is : served_in files file ≡ Some s) where
  module _ (step : FileStep) (says : Says file (live_in_layout s.file.layout) step) where
    after : List MdsItem
    after = h ++ map Enters step.entries

    told_after : live_in (entries_in (h ++ map Enters step.entries)) file ≡ live_in_layout step.file.layout
    told_after = live_entered file h step.entries ∙ ap (λ w. live_by file w step.entries) (i.files_so file s is).live ∙ says.live

    -- the READs of the file, which begin again where a mirror was swapped in
    reads_so : SwapsLast file step.entries step.file.layout.phase
        → AllByRecursion (IsReadSo (h ++ map Enters step.entries) file) (cond (list_any is_swap step.entries) (map (begins_again step.file.layout.live) s.reads) s.reads)
    reads_so (HasNone none) =
        subst (λ (b : Bool). AllByRecursion (IsReadSo (h ++ map Enters step.entries) file) (cond b (map (begins_again step.file.layout.live) s.reads) s.reads)) (sym none)
        (all_more (IsReadSo h file) (IsReadSo (h ++ map Enters step.entries) file) s.reads (λ r w. waits_more h file r.compound r.read (map Enters step.entries) (own_swaps file step.entries none) w) (i.files_so file s is).reads)
    reads_so (HasLast front old new last made) =
        subst (λ (b : Bool). AllByRecursion (IsReadSo (h ++ map Enters step.entries) file) (cond b (map (begins_again step.file.layout.live) s.reads) s.reads)) (sym (last_is_swap file step.entries front old new last))
        (all_map (IsReadSo h file) (IsReadSo (h ++ map Enters step.entries) file) (begins_again step.file.layout.live) s.reads
        (λ r w. waits_again h file r.compound r.read step.entries front old new step.file.layout.live last (told_after ∙ made_live step.file.layout.phase (ids_of step.file.layout.live) made) w)
        (i.files_so file s is).reads)

    other_so : (other : FileId) (u : ServedFile) → other.0 ≢ file.0 → IsServedSo h other u → IsServedSo (h ++ map Enters step.entries) other u
    other_so other u apart j = record {
      live = live_entered other h step.entries ∙ others_live file other apart step.entries says.own (live_in (entries_in h) other) ∙ j.live;
      few = j.few;
      fits = j.fits;
      reads = all_more (IsReadSo h other) (IsReadSo (h ++ map Enters step.entries) other) u.reads (λ r w. waits_more h other r.compound r.read (map Enters step.entries) (others_swaps file other apart step.entries says.own) w) j.reads;
      write = j.write;
    }

    pub holds_stepped : FileHasFew step.file → HoldsOf mirrors (with_file files file (file_behind s step)) calls next (h ++ map Enters step.entries)
    holds_stepped few = record {
      few = i.few;
      files_so =
          files_set files file s (file_behind s step) is h (h ++ map Enters step.entries) i.files_so
          (record { live = told_after; few = few; fits = says.fits; reads = reads_so says.swaps; write = (i.files_so file s is).write }) other_so;
      not_told =
          told_set files file s (file_behind s step) is h (h ++ map Enters step.entries) i.not_told
          (λ other apart none. live_entered other h step.entries ∙ others_live file other apart step.entries says.own (live_in (entries_in h) other) ∙ none);
      numbered =
          subst (λ ss. HaveNumbers next calls ss) (sym (sends_joined h (map Enters step.entries) ∙ ap (λ l. sends_in h ++ l) (sends_entered step.entries) ∙ append-nil (sends_in h))) i.numbered;
      right = right_joined [] h (map Enters step.entries) i.right (rights_of file h step.entries says.own);
    }

  -- it takes an input of the table of phases
  pub holds_input : (input : FileInput) (fresh : Fresh) → LeaveSo file s.file input → HoldsOf mirrors (with_file files file (file_behind s (phase file s.file input fresh))) calls next (h ++ map Enters (phase file s.file input fresh).entries)
  holds_input input fresh leave =
      holds_stepped (phase file s.file input fresh) (phase_says file fresh s.file input (i.files_so file s is).fits leave) (phase_few file fresh s.file input (i.files_so file s is).few).file

-- ---- a new file

so_many : (f : ℕ → ℕ) (start k : ℕ) → length (map f (range_with_len start k)) ≡ k
so_many f start zero = refl
so_many f start (suc k) = let more = so_many f (start + 1) k in omega (arith, more)

-- what has a number in a list with one more
data ServedThen (files : List ServedFile) (new : ServedFile) (file : FileId) (s : ServedFile) : Type 0 where
  WasServed : served_in files file ≡ Some s → ServedThen files new file s
  IsMade : served_in files file ≡ None → s ≡ new → ServedThen files new file s

none_past : (files : List ServedFile) → slice_get files (length files) ≡ None
none_past [] = refl
none_past (s ∷ files) = none_past files

served_then : (files : List ServedFile) (new : ServedFile) (file : FileId) (s : ServedFile) → served_in (files ++ new ∷ []) file ≡ Some s → ServedThen files new file s
served_then files new file s is = by_zero (file.0 == 0) refl is
  where
    by_place : (file.0 == 0) ≡ false → Pushed files new (file.0 - 1) s → ServedThen files new file s
    by_place some (Old there) = WasServed (ap (λ (b : Bool). cond b None (slice_get files (file.0 - 1))) some ∙ there)
    by_place some (New at its) = IsMade (ap (λ (b : Bool). cond b None (slice_get files (file.0 - 1))) some ∙ ap (slice_get files) at ∙ none_past files) its

    by_zero : (b : Bool) → (file.0 == 0) ≡ b → cond b None (slice_get (files ++ new ∷ []) (file.0 - 1)) ≡ Some s → ServedThen files new file s
    by_zero true at its = absurd (none-some s its)
    by_zero false at its = by_place at (pushed files new (file.0 - 1) s its)

not_served : (files : List ServedFile) (new : ServedFile) (file : FileId) → served_in (files ++ new ∷ []) file ≡ None → served_in files file ≡ None
not_served files new file none = by_served (served_in files file) refl
  where
    by_served : (o : Option ServedFile) → served_in files file ≡ o → o ≡ None
    by_served None is = refl
    by_served (Some s) is = absurd (none-some s (sym none ∙ still (file.0 == 0) is))
      where
        still : (b : Bool) → cond b None (slice_get files (file.0 - 1)) ≡ Some s → cond b None (slice_get (files ++ new ∷ []) (file.0 - 1)) ≡ Some s
        still true its = its
        still false its = push_old files (new ∷ []) (file.0 - 1) s its

pub holds_made : (mirrors : ℕ) (files : List ServedFile) (calls : List AwaitedCall) (next : ℕ) (h : List MdsItem) (name : List ℕ) (fresh : Fresh) (servers number : ℕ) → HoldsOf mirrors files calls next h
    → HoldsOf mirrors (files ++ new_served name (new_mds_file fresh (servers_of servers mirrors number)) ∷ []) calls next h
holds_made mirrors files calls next h name fresh servers number i = record {
  few = i.few;
  files_so = λ file s is. by_case file s (served_then files new file s is);
  not_told = λ file is. i.not_told file (not_served files new file is);
  numbered = i.numbered;
  right = i.right;
}
  where
    new : ServedFile
    new = new_served name (new_mds_file fresh (servers_of servers mirrors number))

    size : length (servers_of servers mirrors number) ≡ mirrors
    size = so_many (nth_server servers number) 0 mirrors

    made_few : FileHasFew (new_mds_file fresh (servers_of servers mirrors number))
    made_few =
        let few : mirrors ≤ 4 = i.few in
        let same : length (creations_at fresh.name (servers_of servers mirrors number)) ≡ length (servers_of servers mirrors number) =
        length-map {B = Creation} (servers_of servers mirrors number) (λ n. record { server = n; name = fresh.name; stage = Waits; made = None }) in
        let all : length (servers_of servers mirrors number) ≡ mirrors = size in
        record { mirrors = record { few_wanted = omega (arith, few, all); few_live = omega arith }; room = omega (arith, few, all, same) }

    by_case : (file : FileId) (s : ServedFile) → ServedThen files new file s → IsServedSo h file s
    by_case file s (WasServed is) = i.files_so file s is
    by_case file s (IsMade none its) = subst (λ (x : ServedFile). IsServedSo h file x) (sym its) (record { live = i.not_told file none; few = made_few; fits = refl; reads = tt; write = tt })
