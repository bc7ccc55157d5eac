-- Runs that go on join.
use Rattle.std.proofs.Common.{◌≡◌, Bool, List, [], ◌∷◌, ◌++◌, refl, sym, ap, subst, ◌∙◌}
use Rattle.std.proofs.lemmas.Bool.{cond_both}
use Rattle.std.proofs.lemmas.List.{append_assoc, append-nil}
use Rattle.std.specs.Prelude.{cond}
use Rattle.cluster_model.specs.declared.entry.Entry.{Entry}
use Rattle.cluster_laws.specs.Machine.{Machine, Move, MachineStep, moved, machine_after, journal_of}
use Rattle.cluster_laws.specs.Telling.{is_telling, telling}
use Rattle.machine_moves.specs.MachineGoesOn.{MachineGoesOn}

pub telling_append : (a b : List Entry) → telling (a ++ b) ≡ telling a ++ telling b
telling_append [] b = refl
telling_append (e ∷ a) b =
    cond_both (is_telling e) (e ∷ telling (a ++ b)) (telling (a ++ b)) (λ (l : List Entry). l ≡ cond (is_telling e) (e ∷ telling a) (telling a) ++ telling b)
    (λ is. ap (λ (l : List Entry). e ∷ l) (telling_append a b) ∙ ap (λ (x : Bool). cond x (e ∷ telling a) (telling a) ++ telling b) (sym is))
    (λ off. telling_append a b ∙ ap (λ (x : Bool). cond x (e ∷ telling a) (telling a) ++ telling b) (sym off))

pub after_append : (m : Machine) (a b : List Move) → machine_after m (a ++ b) ≡ machine_after (machine_after m a) b
after_append m [] b = refl
after_append m (move ∷ a) b = after_append (moved m move).machine a b

pub journal_append : (m : Machine) (a b : List Move) → journal_of m (a ++ b) ≡ journal_of m a ++ journal_of (machine_after m a) b
journal_append m [] b = refl
journal_append m (move ∷ a) b = ap (λ (l : List Entry). (moved m move).entries ++ l) (journal_append (moved m move).machine a b) ∙ sym (append_assoc (moved m move).entries (journal_of (moved m move).machine a) (journal_of (machine_after (moved m move).machine a) b))

pub goes_none : (m : Machine) → MachineGoesOn m [] m
goes_none m = record { moves = []; machine = refl; journal = refl }

-- entries of which none tells anything
pub goes_quiet : (m : Machine) (entries : List Entry) → telling entries ≡ [] → MachineGoesOn m entries m
goes_quiet m entries quiet = record { moves = []; machine = refl; journal = sym quiet }

pub goes_then : (m n o : Machine) (a b : List Entry) → MachineGoesOn m a n → MachineGoesOn n b o → MachineGoesOn m (a ++ b) o
goes_then m n o a b first second =
    let rest : telling (journal_of (machine_after m first.moves) second.moves) ≡ telling b = subst (λ (x : Machine). telling (journal_of x second.moves) ≡ telling b) (sym first.machine) second.journal in
    record {
      moves = first.moves ++ second.moves;
      machine = after_append m first.moves second.moves ∙ (ap (λ (x : Machine). machine_after x second.moves) first.machine ∙ second.machine);
      journal = ap telling (journal_append m first.moves second.moves) ∙ (telling_append (journal_of m first.moves) (journal_of (machine_after m first.moves) second.moves)
          ∙ (ap (λ (l : List Entry). l ++ telling (journal_of (machine_after m first.moves) second.moves)) first.journal ∙ (ap (λ (l : List Entry). telling a ++ l) rest ∙ sym (telling_append a b))));
    }

pub goes_by : (m : Machine) (move : Move) → MachineGoesOn m (moved m move).entries (moved m move).machine
goes_by m move = record { moves = move ∷ []; machine = refl; journal = ap telling (append-nil (moved m move).entries) }

-- a move that comes to this
pub goes_as : (m : Machine) (move : Move) (step : MachineStep) → moved m move ≡ step → MachineGoesOn m step.entries step.machine
goes_as m move step is = subst (λ (x : MachineStep). MachineGoesOn m x.entries x.machine) is (goes_by m move)
