-- The entries of one event of the metadata server stand together in the journal.
use Rattle.std.proofs.Common.{◌≡◌, ℕ, List, [], ◌∷◌, ◌++◌, refl, sym, ap, subst, ◌∙◌}
use Rattle.std.specs.Prelude.{map}
use Rattle.std.specs.List.{AllByRecursion}
use Rattle.cluster_model.specs.declared.entry.Entry.{Entry}
use Rattle.mds_rule.specs.MdsStates.{MdsSend}
use Rattle.mds_walk.specs.MdsRuns.{MdsEvent}
use Rattle.mds_histories.specs.MdsHistory.{MdsItem, Comes, Enters, Sends}
use Rattle.node_histories.specs.Weaves.{WeaveStep, Passes, Unseen, Seen, entries_in, items_in}
use Rattle.node_histories.specs.NodeHistories.{IsEntryNext, AreTogether}
use Rattle.node_histories.proofs.WeaveLemmas.{entries_join, items_join, passing}
use Rattle.node_histories.proofs.Parts.{Part, enters_all, sends_all, acts}
use Rattle.node_histories.proofs.Origins.{mds_shower}

-- ---- steps behind steps

-- the first item is no entry
abbrev BeginsElse : List MdsItem → Type 0
BeginsElse items = (y : Entry) (more : List MdsItem) → items ≡ Enters y ∷ more → ⊥

head_of : {a b : MdsItem} {xs ys : List MdsItem} → a ∷ xs ≡ b ∷ ys → a ≡ b
head_of is = cc

next_by : (a : List MdsItem) (front : List Entry) (b : List (WeaveStep MdsItem)) → ((y : Entry) (more : List MdsItem) → a ≡ Enters y ∷ more → (rest : List Entry) × (front ≡ y ∷ rest)) → BeginsElse (items_in b)
    → (y : Entry) (more : List MdsItem) → a ++ items_in b ≡ Enters y ∷ more → (rest : List Entry) × (front ++ entries_in b ≡ y ∷ rest)
next_by [] front b next other y more is = absurd (other y more is)
next_by (x ∷ a) front b next other y more is =
    let there : (rest : List Entry) × (front ≡ y ∷ rest) = next y a (ap (λ (z : MdsItem). z ∷ a) (head_of is)) in
    (there.0 ++ entries_in b, ap (λ (l : List Entry). l ++ entries_in b) there.1)

next_join : (a b : List (WeaveStep MdsItem)) → IsEntryNext a → BeginsElse (items_in b) → IsEntryNext (a ++ b)
next_join a b next other y more is =
    let there : (rest : List Entry) × (entries_in a ++ entries_in b ≡ y ∷ rest) = next_by (items_in a) (entries_in a) b next other y more (sym (items_join a b) ∙ is) in
    (there.0, entries_join a b ∙ there.1)

pub together_join : (a b : List (WeaveStep MdsItem)) → AreTogether a → AreTogether b → ((y : Entry) (more : List MdsItem) → items_in b ≡ Enters y ∷ more → ⊥) → AreTogether (a ++ b)
together_join [] b first second other = second
together_join (Passes e ∷ a) b first second other = together_join a b first second other
together_join (Unseen item ∷ a) b first second other = together_join a b first second other
together_join (Seen (Comes event) e ∷ a) b first second other = together_join a b first second other
together_join (Seen (Enters x) e ∷ a) b first second other = (next_join a b first.0 other, together_join a b first.1 second other)
together_join (Seen (Sends send) e ∷ a) b first second other = together_join a b first second other

-- ---- steps without an entry of the server

abbrev IsNoEntry : MdsItem → Type 0
IsNoEntry (Comes event) = Unit {0}
IsNoEntry (Enters entry) = ⊥
IsNoEntry (Sends send) = Unit {0}

-- steps stand together behind those that have no entry of the server
behind_none : (a b : List (WeaveStep MdsItem)) → AllByRecursion IsNoEntry (items_in a) → AreTogether b → AreTogether (a ++ b)
behind_none [] b none second = second
behind_none (Passes e ∷ a) b none second = behind_none a b none second
behind_none (Unseen item ∷ a) b none second = behind_none a b none.1 second
behind_none (Seen (Comes event) e ∷ a) b none second = behind_none a b none.1 second
behind_none (Seen (Enters x) e ∷ a) b none second = absurd none.0
behind_none (Seen (Sends send) e ∷ a) b none second = behind_none a b none.1 second

none_together : (a : List (WeaveStep MdsItem)) → AllByRecursion IsNoEntry (items_in a) → AreTogether a
none_together [] none = tt
none_together (Passes e ∷ a) none = none_together a none
none_together (Unseen item ∷ a) none = none_together a none.1
none_together (Seen (Comes event) e ∷ a) none = none_together a none.1
none_together (Seen (Enters x) e ∷ a) none = absurd none.0
none_together (Seen (Sends send) e ∷ a) none = none_together a none.1

pub passed_together : (entries : List Entry) → AreTogether (passing MdsItem entries)
passed_together [] = tt
passed_together (e ∷ entries) = passed_together entries

-- ---- the steps of an event

same_entry : (e y : Entry) (rest : List MdsItem) (more : List MdsItem) → Enters e ∷ rest ≡ Enters y ∷ more → e ≡ y
same_entry e y rest more is = cc

first_next : (entries : List Entry) (y : Entry) (more : List MdsItem) → map Enters entries ≡ Enters y ∷ more → (rest : List Entry) × (entries ≡ y ∷ rest)
first_next [] y more is = absurd cc
first_next (e ∷ entries) y more is = (entries, ap (λ (x : Entry). x ∷ entries) (same_entry e y (map Enters entries) more is))

entered_together : (journal entries : List Entry) (kinds : AllByRecursion mds_shower.Kind entries) → AreTogether (enters_all mds_shower journal entries kinds).steps
entered_together journal [] kinds = tt
entered_together journal (e ∷ entries) kinds =
    let p : Part mds_shower (journal ++ e ∷ []) (map Enters entries) entries = enters_all mds_shower (journal ++ e ∷ []) entries kinds.1 in (
      λ y more is.
          (let there : (rest : List Entry) × (entries ≡ y ∷ rest) = first_next entries y more (sym p.items_are ∙ is) in
          (there.0, p.entries_are ∙ there.1)),
      entered_together (journal ++ e ∷ []) entries kinds.1,
    )

sent_none : (sends : List MdsSend) → AllByRecursion IsNoEntry (map Sends sends)
sent_none [] = tt
sent_none (s ∷ sends) = (tt, sent_none sends)

sent_else : (sends : List MdsSend) (y : Entry) (more : List MdsItem) → map Sends sends ≡ Enters y ∷ more → ⊥
sent_else [] y more is = absurd cc
sent_else (s ∷ sends) y more is = absurd cc

pub acts_together : (journal : List Entry) (e : MdsEvent) (front entries : List Entry) (sent : ℕ) (sends : List MdsSend) (came : Part mds_shower journal (Comes e ∷ []) front) (kinds : AllByRecursion mds_shower.Kind entries)
    → AreTogether (acts mds_shower journal (Comes e) front entries sent sends came kinds).steps
acts_together journal e front entries sent sends came kinds =
    let p : Part mds_shower (journal ++ front) (map Enters entries) entries = enters_all mds_shower (journal ++ front) entries kinds in
    let q = sends_all mds_shower ((journal ++ front) ++ entries) sent sends in
    behind_none came.steps (p.steps ++ q.steps) (subst (λ (l : List MdsItem). AllByRecursion IsNoEntry l) (sym came.items_are) (tt, tt))
    (together_join p.steps q.steps (entered_together (journal ++ front) entries kinds) (none_together q.steps (subst (λ (l : List MdsItem). AllByRecursion IsNoEntry l) (sym q.items_are) (sent_none sends)))
    (λ y more is. sent_else sends y more (sym q.items_are ∙ is)))
