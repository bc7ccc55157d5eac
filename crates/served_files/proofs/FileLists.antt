-- One file of a list, and all others.
use Rattle.std.proofs.Common.{◌≡◌, ℕ, zero, suc, ◌+◌, ◌-◌, ◌<◌, ◌≤◌, Bool, true, false, List, [], ◌∷◌, ◌++◌, length, length-append, map, get_or, set, Option, Some, None, Result, Ok, Err, refl, sym, ap, subst, ◌∙◌, arith}
use Rattle.std.specs.Prelude.{slice_get}
use Rattle.std.proofs.lemmas.List.{length-set}
use Rattle.std.proofs.lemmas.Option.{same_Some, slice_get_read}
use Rattle.ff_xdr.specs.declared.error.NoMemory.{NoMemory}
use Rattle.cluster_model.proofs.Elements.{slice_get-set_same}
use Rattle.cluster_model.specs.declared.ids.FileId.{FileId}
use Rattle.cluster_model.specs.declared.entry.Entry.{Entry}
use Rattle.file_rule.specs.declared.fresh.Fresh.{Fresh}
use Rattle.file_rule.specs.FilePhases.{FileInput, phase}
use Rattle.mds_io.specs.Reads.{ReadState, ReadAfter}
use Rattle.mirror_writer.specs.Writers.{WriterValue, WriterAfter}
use Rattle.mds_rule.specs.MdsStates.{ServedFile, served_in, with_file}
use Rattle.served_files.specs.declared.reading.EndedRead.{EndedRead}
use Rattle.served_files.specs.declared.writing.EndedWrite.{EndedWrite}
use Rattle.served_files.specs.declared.sending.SentByFile.{SentByFile}
use Rattle.served_files.specs.Waiting.{StepsRead, StepsWrite}
use Rattle.served_files.specs.Sending.{SendsOwn, SendsFileRead}
use Rattle.served_files.specs.Quiet.{IsFileQuiet, IsFileStill, is_marked, AreQuietBut, AreStillBut}
use Rattle.served_files.specs.FileSteps.{at_place, changed_at, changed_in, TakesStep, TakesAt, TakesIn, StepsReadOf, StepsReadIn, StepsWriteOf, StepsWriteIn, SendsOwnOf, SendsOwnIn, SendsReadOf, SendsReadIn}
use Rattle.served_files.proofs.NameLists.{map-push}
use Rattle.served_files.proofs.QuietLemmas.{StayMarked, still_all, all_set, all_push}

-- ---- the names, where a file changes and keeps its own

names_set : (files : List ServedFile) (i : ℕ) (x y : ServedFile) → slice_get files i ≡ Some x → y.name ≡ x.name → map (λ (f : ServedFile). f.name) (set files i y) ≡ map (λ (f : ServedFile). f.name) files
names_set [] i x y there same = absurd (cc)
names_set (f ∷ files) zero x y there same = ap (λ name. name ∷ map (λ (f : ServedFile). f.name) files) (same ∙ ap (λ (g : ServedFile). g.name) (sym (same_Some f x there)))
names_set (f ∷ files) (suc i) x y there same = ap (λ names. f.name ∷ names) (names_set files i x y there same)

-- the names, the places that are due and those that are restless, and the files
abbrev pub AreKept : List (List ℕ) → List ℕ → List ℕ → List ServedFile → Type 0
AreKept names due restless files = (names ≡ map (λ (f : ServedFile). f.name) files) × (length files ≤ 4096) × AreQuietBut due files × AreStillBut restless files

-- more places are marked
pub stay_kept : (names : List (List ℕ)) (due due' restless restless' : List ℕ) (files : List ServedFile) → StayMarked due due' → StayMarked restless restless' → AreKept names due restless files → AreKept names due' restless' files
stay_kept names due due' restless restless' files stay stay' (are, few, quiet, still) = (are, few, still_all IsFileQuiet due due' files stay quiet, still_all IsFileStill restless restless' files stay' still)

-- one file more, which is marked
pub one_more : (names : List (List ℕ)) (due due' restless restless' : List ℕ) (files : List ServedFile) (y : ServedFile) → length files < 4096 → StayMarked due due' → is_marked due' (length files) ≡ true
    → StayMarked restless restless' → is_marked restless' (length files) ≡ true → AreKept names due restless files → AreKept (names ++ y.name ∷ []) due' restless' (files ++ y ∷ [])
one_more names due due' restless restless' files y room stay is stay' is' (are, few, quiet, still) = (
  ap (λ (l : List (List ℕ)). l ++ y.name ∷ []) are ∙ sym (map-push (λ (f : ServedFile). f.name) files y),
  omega (arith, room, length-append files (y ∷ [])),
  all_push IsFileQuiet due' files y is (still_all IsFileQuiet due due' files stay quiet),
  all_push IsFileStill restless' files y is' (still_all IsFileStill restless restless' files stay' still),
)

-- ---- a place that was found

-- the file that was read at this place has this number; the list as it is seen is the one that is kept
pub record IsAt (now files : List ServedFile) (file : FileId) (place : ℕ) (x : ServedFile) : Type 0 where
  pub there : slice_get files place ≡ Some x
  pub served : served_in now file ≡ Some x
  pub puts : (y : ServedFile) → set files place y ≡ with_file now file y

-- a file that was put there and is read again
pub read_back : (files : List ServedFile) (place : ℕ) (x y r : ServedFile) → slice_get files place ≡ Some x → place < length files → r ≡ get_or (set files place y) place r → r ≡ y
read_back files place x y r there within read =
    let got : slice_get (set files place y) place ≡ Some r = slice_get_read (set files place y) (length (set files place y)) place r refl (subst (λ (n : ℕ). place < n) (sym (length-set files place y)) within) read in
    same_Some r y (sym got ∙ slice_get-set_same files place x y there)

before : (place n : ℕ) → place + 1 ≡ n → place ≡ n - 1
before place n numbered = omega (arith, numbered)

pub is_at : (now files : List ServedFile) (file : FileId) (place : ℕ) (x : ServedFile) → files ≡ now → served_in now file ≡ at_place now (Some place) → place < length now → place + 1 ≡ file.0 → x ≡ get_or files place x → IsAt now files file place x
is_at now files file place x seen found within numbered read =
    let there : slice_get files place ≡ Some x = slice_get_read files (length files) place x refl (subst (λ (fs : List ServedFile). place < length fs) (sym seen) within) read in
    record {
      there = there;
      served = found ∙ ap (λ (fs : List ServedFile). slice_get fs place) (sym seen) ∙ there;
      puts = λ y. ap (λ (fs : List ServedFile). set fs place y) seen ∙ ap (λ (n : ℕ). set now n y) (before place file.0 numbered);
    }

pub not_found : (now : List ServedFile) (file : FileId) (o : Option ℕ) → served_in now file ≡ at_place now o → ((place : ℕ) → o ≡ Some place → ⊥) → served_in now file ≡ None
not_found now file None found none = found
not_found now file (Some place) found none = absurd (none place refl)

module _ (now files : List ServedFile) (file : FileId) (place : ℕ) (x : ServedFile) (at : IsAt now files file place x) (y : ServedFile) where
  pub stands : (names : List (List ℕ)) (due due' restless restless' : List ℕ) → y.name ≡ x.name → StayMarked due due' → is_marked due' place ≡ true → StayMarked restless restless' → is_marked restless' place ≡ true
      → AreKept names due restless files → AreKept names due' restless' (set files place y)
  stands names due due' restless restless' same stay is stay' is' (are, few, quiet, still) = (
    are ∙ sym (names_set files place x y at.there same),
    subst (λ (n : ℕ). n ≤ 4096) (sym (length-set files place y)) few,
    all_set IsFileQuiet due' files place y is (still_all IsFileQuiet due due' files stay quiet),
    all_set IsFileStill restless' files place y is' (still_all IsFileStill restless restless' files stay' still),
  )

  pub changed : (change : ServedFile → ServedFile) → y ≡ change x → set files place y ≡ changed_in now file change
  changed change is = at.puts y ∙ ap (with_file now file) is ∙ ap (changed_at now file change) (sym at.served)

  pub takes : (input : FileInput) (fresh : Fresh) (entries : List Entry) (result : Result Bool NoMemory) (fresh' : Fresh) (entries' : List Entry) → TakesStep (phase file x.file input fresh) x fresh entries result y fresh' entries' → TakesIn input now file fresh entries result (set files place y) fresh' entries'
  takes input fresh entries (Err e) fresh' entries' said = tt
  takes input fresh entries (Ok ended) fresh' entries' (is, drew, entered, over) =
      subst (λ (o : Option ServedFile). TakesAt input now file fresh entries (Ok ended) (set files place y) fresh' entries' o) (sym at.served) (at.puts y ∙ ap (with_file now file) is, drew, entered, over)

  pub steps_read : (entries : List Entry) (xid : ℕ) (step : ReadState → ReadAfter) (result : Result (Option EndedRead) NoMemory) (entries' : List Entry) → StepsRead x.reads entries xid step result y.reads entries' → y ≡ record x { reads = y.reads } → StepsReadIn now file entries xid step result (set files place y) entries'
  steps_read entries xid step (Err e) entries' said stays = tt
  steps_read entries xid step (Ok result) entries' said stays =
      subst (λ (o : Option ServedFile). StepsReadOf now file entries xid step (Ok result) (set files place y) entries' o) (sym at.served) (y.reads, said, at.puts y ∙ ap (with_file now file) stays)

  pub steps_write : (step : WriterValue → WriterAfter) (result : Result (Option EndedWrite) NoMemory) → StepsWrite x step result y → StepsWriteIn now file step result (set files place y)
  steps_write step (Err e) said = tt
  steps_write step (Ok result) said = subst (λ (o : Option ServedFile). StepsWriteOf now file step (Ok result) (set files place y) o) (sym at.served) (y, said, at.puts y)

  pub sends_own : (xid : ℕ) (result : Result (Option SentByFile) NoMemory) → SendsOwn file x xid result y → SendsOwnIn now file xid result (set files place y)
  sends_own xid (Err e) said = tt
  sends_own xid (Ok result) said = subst (λ (o : Option ServedFile). SendsOwnOf now file xid (Ok result) (set files place y) o) (sym at.served) (y, said, at.puts y)

  pub sends_read : (n xid : ℕ) (result : Result (Option SentByFile) NoMemory) → SendsFileRead file x n xid result y → SendsReadIn now file n xid result (set files place y)
  sends_read n xid (Err e) said = tt
  sends_read n xid (Ok result) said = subst (λ (o : Option ServedFile). SendsReadOf now file n xid (Ok result) (set files place y) o) (sym at.served) (y, said, at.puts y)

-- ---- a file that is not there

module _ (now : List ServedFile) (file : FileId) (none : served_in now file ≡ None) where
  pub unchanged : (change : ServedFile → ServedFile) → now ≡ changed_in now file change
  unchanged change = ap (changed_at now file change) (sym none)

  pub takes_none : (input : FileInput) (fresh : Fresh) (entries : List Entry) → TakesIn input now file fresh entries (Ok false) now fresh entries
  takes_none input fresh entries = subst (λ (o : Option ServedFile). TakesAt input now file fresh entries (Ok false) now fresh entries o) (sym none) (refl, refl, refl, refl)

  pub steps_no_read : (entries : List Entry) (xid : ℕ) (step : ReadState → ReadAfter) → StepsReadIn now file entries xid step (Ok None) now entries
  steps_no_read entries xid step = subst (λ (o : Option ServedFile). StepsReadOf now file entries xid step (Ok None) now entries o) (sym none) (refl, refl, refl)

  pub steps_no_write : (step : WriterValue → WriterAfter) → StepsWriteIn now file step (Ok None) now
  steps_no_write step = subst (λ (o : Option ServedFile). StepsWriteOf now file step (Ok None) now o) (sym none) (refl, refl)

  pub sends_no_own : (xid : ℕ) → SendsOwnIn now file xid (Ok None) now
  sends_no_own xid = subst (λ (o : Option ServedFile). SendsOwnOf now file xid (Ok None) now o) (sym none) (refl, refl)

  pub sends_no_read : (n xid : ℕ) → SendsReadIn now file n xid (Ok None) now
  sends_no_read n xid = subst (λ (o : Option ServedFile). SendsReadOf now file n xid (Ok None) now o) (sym none) (refl, refl)
