-- One file in its number's place; entries that say the same wherever they stand.
use Rattle.std.proofs.Common.{◌≡◌, ◌≢◌, ℕ, ◌-◌, List, [], ◌∷◌, ◌++◌, set, Option, Some, None, sym, ap, subst, ◌∙◌, inl, inr}
use Rattle.std.specs.List.{AllByRecursion}
use Rattle.std.proofs.lemmas.Bool.{cases_eq}
use Rattle.cluster_model.specs.declared.entry.Entry.{Entry}
use Rattle.file_rule.specs.MdsFiles.{MdsFile}
use Rattle.file_rule.specs.FilePhases.{CallOut}
use Rattle.cluster_laws.specs.Machine.{numbered_at}
use Rattle.cluster_laws.proofs.Lists.{put_same, put_other, same_numbered}
use Rattle.machine_walk.proofs.Stories.{AreEach}

pub files_set : (F : ℕ → MdsFile → Type 0) (files : List MdsFile) (n : ℕ) (f g : MdsFile) → numbered_at files n ≡ Some f → F n g → ((k : ℕ) (x : MdsFile) → k ≢ n → numbered_at files k ≡ Some x → F k x)
    → (k : ℕ) (x : MdsFile) → numbered_at (set files (n - 1) g) k ≡ Some x → F k x
files_set F files n f g there new old k x is =
    elim (cases_eq k n) [
      | inl same ↦
          let x_is : g ≡ x = same_numbered (set files (n - 1) g) n g x (put_same files n f g there) (sym (ap (numbered_at (set files (n - 1) g)) same) ∙ is) in
          subst (λ (j : ℕ). F j x) (sym same) (subst (F n) x_is new)
      | inr other ↦ old k x other (sym (put_other files n k f g there other) ∙ is)
    ]

pub each_anywhere : (Q : List Entry → Entry → Type 0) (before entries : List Entry) → AllByRecursion (λ e. (b : List Entry) → Q b e) entries → AreEach Q before entries
each_anywhere Q before [] h = tt
each_anywhere Q before (e ∷ entries) h = (h.0 before, each_anywhere Q (before ++ e ∷ []) entries h.1)

-- of the call that goes out, if one does
abbrev pub IfCall : (CallOut → Type 0) → Option CallOut → Type 0
IfCall R None = Unit {0}
IfCall R (Some c) = R c

pub its_call : (R : CallOut → Type 0) (o : Option CallOut) (c : CallOut) → IfCall R o → o ≡ Some c → R c
its_call R o c k is = subst (IfCall R) is k
