-- Moves that are bound join, and a run's journal is what is told of it.
use Rattle.std.proofs.Common.{◌≡◌, ◌≤◌, Bool, true, false, cond, List, [], ◌∷◌, ◌++◌, length, sym, ap, subst, ◌∙◌, arith}
use Rattle.std.proofs.lemmas.Bool.{cond_both}
use Rattle.std.proofs.lemmas.List.{append_assoc, append-nil}
use Rattle.cluster_model.specs.declared.entry.Entry.{Entry}
use Rattle.cluster_laws.specs.Machine.{Machine, Move, MachineStep, moved, machine_after, journal_of}
use Rattle.cluster_laws.specs.Telling.{is_telling, telling}
use Rattle.cluster_laws.specs.Holders.{IsBound, AreBoundFrom}
use Rattle.machine_moves.specs.MachineGoesOn.{MachineGoesOn}
use Rattle.machine_moves.proofs.Going.{telling_append, after_append, journal_append}

pub bound_join : (m : Machine) (journal : List Entry) (a b : List Move) → AreBoundFrom m journal a → AreBoundFrom (machine_after m a) (journal ++ journal_of m a) b → AreBoundFrom m journal (a ++ b)
bound_join m journal [] b first second = subst (λ (l : List Entry). AreBoundFrom m l b) (append-nil journal) second
bound_join m journal (move ∷ a) b first second = (
  first.0,
  bound_join (moved m move).machine (journal ++ (moved m move).entries) a b first.1
      (subst (λ (l : List Entry). AreBoundFrom (machine_after m (move ∷ a)) l b) (sym (append_assoc journal (moved m move).entries (journal_of (moved m move).machine a))) second),
)

-- ---- what is told is no longer than the whole

shorter : (l : List Entry) → length (telling l) ≤ length l
shorter [] = omega arith
shorter (e ∷ l) =
    let less : length (telling l) ≤ length l = shorter l in
    cond_both (is_telling e) (e ∷ telling l) (telling l) (λ (x : List Entry). length x ≤ length (e ∷ l)) (λ is. omega (arith, less)) (λ off. omega (arith, less))

tail_same : (e x : Entry) (a b : List Entry) → e ∷ a ≡ x ∷ b → a ≡ b
tail_same e x a b is = cc (is)

-- where all of a list is told, all of its end is
pub told_end : (a b : List Entry) → telling (a ++ b) ≡ a ++ b → telling b ≡ b
told_end [] b is = is
told_end (e ∷ a) b is = by_kind (is_telling e) (λ more. told_end a b more) is
  where
    by_kind : (k : Bool) → (telling (a ++ b) ≡ a ++ b → telling b ≡ b) → cond k (e ∷ telling (a ++ b)) (telling (a ++ b)) ≡ e ∷ (a ++ b) → telling b ≡ b
    by_kind true rest its = rest (tail_same e e (telling (a ++ b)) (a ++ b) its)
    by_kind false rest its =
        let less : length (telling (a ++ b)) ≤ length (a ++ b) = shorter (a ++ b) in
        let same : length (telling (a ++ b)) ≡ length (e ∷ (a ++ b)) = ap length its in
        absurd (omega (arith, less, same))

-- ---- a run goes on by one move

pub further_told : (m n : Machine) (es : List Entry) (move : Move) (step : MachineStep) (g : MachineGoesOn m es n) → moved n move ≡ step → telling (journal_of m (g.moves ++ move ∷ [])) ≡ telling (es ++ step.entries)
further_told m n es move step g is =
    let last : journal_of (machine_after m g.moves) (move ∷ []) ≡ step.entries = append-nil (moved (machine_after m g.moves) move).entries ∙ (ap (λ (x : Machine). (moved x move).entries) g.machine ∙ ap (λ (s : MachineStep). s.entries) is) in
    ap telling (journal_append m g.moves (move ∷ []) ∙ ap (λ (l : List Entry). journal_of m g.moves ++ l) last)
    ∙ (telling_append (journal_of m g.moves) step.entries ∙ (ap (λ (l : List Entry). l ++ telling step.entries) g.journal ∙ sym (telling_append es step.entries)))

pub further_machine : (m n : Machine) (es : List Entry) (move : Move) (step : MachineStep) (g : MachineGoesOn m es n) → moved n move ≡ step → machine_after m (g.moves ++ move ∷ []) ≡ step.machine
further_machine m n es move step g is = after_append m g.moves (move ∷ []) ∙ (ap (λ (x : Machine). (moved x move).machine) g.machine ∙ ap (λ (s : MachineStep). s.machine) is)

abbrev pub goes_further : (m n : Machine) (es : List Entry) (move : Move) (step : MachineStep) → MachineGoesOn m es n → moved n move ≡ step → MachineGoesOn m (es ++ step.entries) step.machine
goes_further m n es move step g is = record { moves = g.moves ++ move ∷ []; machine = further_machine m n es move step g is; journal = further_told m n es move step g is }

-- by a move without entries
abbrev pub goes_silently : (m n : Machine) (es : List Entry) (move : Move) (after : Machine) → MachineGoesOn m es n → moved n move ≡ record { machine = after; entries = [] } → MachineGoesOn m es after
goes_silently m n es move after g is = record {
  moves = g.moves ++ move ∷ [];
  machine = further_machine m n es move (record { machine = after; entries = [] }) g is;
  journal = further_told m n es move (record { machine = after; entries = [] }) g is ∙ ap telling (append-nil es);
}

-- by no move, with entries that tell nothing
abbrev pub goes_untold : (m n : Machine) (es more : List Entry) → MachineGoesOn m es n → telling more ≡ [] → MachineGoesOn m (es ++ more) n
goes_untold m n es more g quiet = record {
  moves = g.moves;
  machine = g.machine;
  journal = g.journal ∙ sym (telling_append es more ∙ (ap (λ (l : List Entry). telling es ++ l) quiet ∙ append-nil (telling es)));
}

pub bound_further : (m n : Machine) (journal es : List Entry) (g : MachineGoesOn m es n) (move : Move) → AreBoundFrom m journal g.moves → IsBound n (journal ++ journal_of m g.moves) move → AreBoundFrom m journal (g.moves ++ move ∷ [])
bound_further m n journal es g move bound its =
    bound_join m journal g.moves (move ∷ []) bound (subst (λ (x : Machine). IsBound x (journal ++ journal_of m g.moves) move) (sym g.machine) its, tt)

-- ---- a run of the machine from its beginning

-- where all of a run's journal is told, so is all of what it goes on by
pub goes_told : (start m n : Machine) (first : List Move) (es : List Entry) (g : MachineGoesOn m es n) → machine_after start first ≡ m → telling (journal_of start (first ++ g.moves)) ≡ journal_of start (first ++ g.moves)
    → journal_of m g.moves ≡ telling es
goes_told start m n first es g machine told =
    let joined : journal_of start (first ++ g.moves) ≡ journal_of start first ++ journal_of m g.moves =
    journal_append start first g.moves ∙ ap (λ (x : Machine). journal_of start first ++ journal_of x g.moves) machine in
    sym (told_end (journal_of start first) (journal_of m g.moves) (ap telling (sym joined) ∙ (told ∙ joined))) ∙ g.journal
