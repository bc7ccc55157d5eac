-- The fileids of a file's live mirrors have eight bytes, where those of the journal's mirrors have.
use Rattle.std.proofs.Common.{◌≡◌, ◌<◌, ℕ, ◌^◌, Bool, true, false, cond, List, [], ◌∷◌, ◌++◌, Option, Some, None, refl, sym, subst, inl, inr, ◌⊎◌}
use Rattle.std.specs.Prelude.{map, filter, not, if◌then◌else◌}
use Rattle.std.specs.List.{AllByRecursion}
use Rattle.std.proofs.lemmas.Bool.{cond_both}
use Rattle.cluster_model.specs.declared.ids.FileId.{FileId}
use Rattle.cluster_model.specs.declared.ids.MirrorId.{MirrorId}
use Rattle.cluster_model.specs.declared.entry.Entry.{Entry}
use Rattle.cluster_model.specs.declared.entry.Entry.TheVariants as entry
use Rattle.cluster_model.specs.Journal.{is_mirror}
use Rattle.cluster_model.specs.Members.{IsOneOf}
use Rattle.cluster_laws.specs.FenceLaw.{is_file, swapped_in, first_free, changed_live, live_after, live_by, live_in}
use Rattle.cluster_laws.proofs.Lists.{all_append}
use Rattle.world_journal.specs.Journal.{IsEntryInRange, IsJournalInRange}

abbrev Fits : MirrorId → Type 0
Fits m = m.fileid < 2 ^ 64

abbrev AreFit : Option (List MirrorId) → Type 0
AreFit None = Unit {0}
AreFit (Some live) = AllByRecursion Fits live

first_fit : (mirrors : List MirrorId) (x : Option (List MirrorId)) → AllByRecursion Fits mirrors → AreFit x → AreFit (first_free mirrors x)
first_fit mirrors None all i = all
first_fit mirrors (Some live) all i = i

filter_fit : (test : MirrorId → Bool) (live : List MirrorId) → AllByRecursion Fits live → AllByRecursion Fits (filter test live)
filter_fit test [] all = tt
filter_fit test (m ∷ live) all = cond_both (test m) (m ∷ filter test live) (filter test live) (λ (l : List MirrorId). AllByRecursion Fits l) (λ is. (all.0, filter_fit test live all.1)) (λ off. filter_fit test live all.1)

left_fit : (mirror : MirrorId) (x : Option (List MirrorId)) → AreFit x → AreFit (changed_live (filter (λ m. not (is_mirror m mirror))) x)
left_fit mirror None i = tt
left_fit mirror (Some live) i = filter_fit (λ m. not (is_mirror m mirror)) live i

map_fit : (old new : MirrorId) → Fits new → (live : List MirrorId) → AllByRecursion Fits live → AllByRecursion Fits (map (λ m. if is_mirror m old then new else m) live)
map_fit old new fits [] all = tt
map_fit old new fits (m ∷ live) all = (cond_both (is_mirror m old) new m Fits (λ is. fits) (λ off. all.0), map_fit old new fits live all.1)

swapped_fit : (old : Option MirrorId) (new : MirrorId) → Fits new → (x : Option (List MirrorId)) → AreFit x → AreFit (changed_live (swapped_in old new) x)
swapped_fit old new fits None i = tt
swapped_fit None new fits (Some live) i = all_append Fits live (new ∷ []) i (fits, tt)
swapped_fit (Some old) new fits (Some live) i = map_fit old new fits live i

after_fit : (f : FileId) (x : Option (List MirrorId)) (e : Entry) → IsEntryInRange e → AreFit x → AreFit (live_after f x e)
after_fit f x (entry.Free file mirrors) range i = cond_both (is_file file f) (first_free mirrors x) x AreFit (λ is. first_fit mirrors x range i) (λ off. i)
after_fit f x (entry.Left file mirror cause) range i = cond_both (is_file file f) (changed_live (filter (λ m. not (is_mirror m mirror))) x) x AreFit (λ is. left_fit mirror x i) (λ off. i)
after_fit f x (entry.Swapped file old new) range i = cond_both (is_file file f) (changed_live (swapped_in old new) x) x AreFit (λ is. swapped_fit old new range x i) (λ off. i)
after_fit f x e range i = i

by_fit : (f : FileId) (x : Option (List MirrorId)) (entries : List Entry) → AllByRecursion IsEntryInRange entries → AreFit x → AreFit (live_by f x entries)
by_fit f x [] range i = i
by_fit f x (e ∷ entries) range i = by_fit f (live_after f x e) entries range.1 (after_fit f x e range.0 i)

all_of : (m : MirrorId) (live : List MirrorId) → AllByRecursion Fits live → IsOneOf m live → m.fileid < 2 ^ 64
all_of m [] all inside = absurd inside
all_of m (k ∷ live) all (inl same) = subst Fits (sym same) all.0
all_of m (k ∷ live) all (inr inside) = all_of m live all.1 inside

pub live_fits : (f : FileId) (entries : List Entry) → IsJournalInRange entries → (live : List MirrorId) → live_in entries f ≡ Some live → (m : MirrorId) → IsOneOf m live → m.fileid < 2 ^ 64
live_fits f entries range live is m inside = all_of m live (subst AreFit is (by_fit f None entries range tt)) inside
