-- What was drawn in a run so far, for which file, and of which bytes a copy is; and how that goes on in a step.
use Rattle.std.proofs.Common.{◌≡◌, ℕ, ◌<◌, ◌≤◌, eqb, cond, List, [], ◌∷◌, ◌++◌, Option, Some, None, refl, sym, ap, subst, ◌∙◌, arith, append_assoc, append-nil}
use Rattle.std.proofs.lemmas.Bool.{ne_eqb}
use Rattle.cluster_model.specs.declared.entry.Entry.{Entry}
use Rattle.file_rule.specs.MdsFiles.{Activity, Idle, Makes, Fences, Settles, Copies}
use Rattle.cluster_laws.specs.Machine.{Machine, MachineStep, file_id, Move, new_machine, moved, machine_after, journal_of}
use Rattle.cluster_laws.specs.FenceLaw.{new_servers}
use Rattle.cluster_laws.specs.Agreement.{bytes_of}
use Rattle.cluster_laws.proofs.Invariant.{Drawn, Holds}
use Rattle.cluster_laws.proofs.Draws.{draws, old_home, old_low}
use Rattle.cluster_laws.proofs.PeriodStates.{drawn_for}
use Rattle.cluster_laws.proofs.PeriodMoves.{ArePeriods}

pub record Story : Type 0 where
  pub drawn : Drawn
  -- the file that a uid was drawn for
  pub whose : ℕ → ℕ
  -- the bytes of the source of a copy, by the copy's uid
  pub copied : ℕ → Option (List ℕ)

-- a copy that begins is of what the file's first live mirror shows
abbrev pub begun_copy : List Entry → ℕ → Activity → Option (List ℕ)
begun_copy journal n Idle = None
begun_copy journal n (Makes all) = None
begun_copy journal n (Fences fence) = None
begun_copy journal n (Settles stage) = None
begun_copy journal n (Copies c) = Some (bytes_of journal (file_id n))

abbrev pub with_copy : (ℕ → Option (List ℕ)) → ℕ → Option (List ℕ) → ℕ → Option (List ℕ)
with_copy copied uid bytes k = cond (eqb k uid) bytes (copied k)

-- a uid is drawn for a file, and the names from then on
abbrev pub drawn_story : Story → ℕ → ℕ → ℕ → Option (List ℕ) → Story
drawn_story t name n uid bytes = record { drawn = draws t.drawn name n uid; whose = drawn_for t.whose uid n; copied = with_copy t.copied uid bytes }

-- what was drawn stays so
pub record IsOnward (t : Story) (uid name : ℕ) (then : Story) : Type 0 where
  pub home : (k : ℕ) → k < name → then.drawn.home k ≡ t.drawn.home k
  pub low : (k : ℕ) → k < name → then.drawn.low k ≡ t.drawn.low k
  pub whose : (u : ℕ) → u < uid → then.whose u ≡ t.whose u
  pub copied : (u : ℕ) → u < uid → then.copied u ≡ t.copied u

pub onward_same : (t : Story) (uid name : ℕ) → IsOnward t uid name t
onward_same t uid name = record { home = λ k less. refl; low = λ k less. refl; whose = λ u less. refl; copied = λ u less. refl }

pub onward_drawn : (t : Story) (uid name n : ℕ) (bytes : Option (List ℕ)) → IsOnward t uid name (drawn_story t name n uid bytes)
onward_drawn t uid name n bytes = record {
  home = λ k less. old_home t.drawn name n uid k less;
  low = λ k less. old_low t.drawn name n uid k less;
  whose = λ u less. ap (λ b. cond b n (t.whose u)) (ne_eqb u uid (λ e. absurd (omega (arith, e, less))));
  copied = λ u less. ap (λ b. cond b bytes (t.copied u)) (ne_eqb u uid (λ e. absurd (omega (arith, e, less))));
}

pub onward_then : (t : Story) (uid name : ℕ) (then : Story) (more names : ℕ) (last : Story) → uid ≤ more → name ≤ names → IsOnward t uid name then → IsOnward then more names last → IsOnward t uid name last
onward_then t uid name then more names last up ups a b = record {
  home = λ k less. b.home k (omega (arith, less, ups)) ∙ a.home k less;
  low = λ k less. b.low k (omega (arith, less, ups)) ∙ a.low k less;
  whose = λ u less. b.whose u (omega (arith, less, up)) ∙ a.whose u less;
  copied = λ u less. b.copied u (omega (arith, less, up)) ∙ a.copied u less;
}

-- ---- each entry of a list, behind those before it

abbrev pub AreEach : (List Entry → Entry → Type 0) → List Entry → List Entry → Type 0
AreEach Q before [] = Unit {0}
AreEach Q before (e ∷ entries) = Q before e × AreEach Q (before ++ e ∷ []) entries

pub each_more : (Q : List Entry → Entry → Type 0) (before a b : List Entry) → AreEach Q before a → AreEach Q (before ++ a) b → AreEach Q before (a ++ b)
each_more Q before [] b h k = subst (λ x. AreEach Q x b) (append-nil before) k
each_more Q before (e ∷ a) b h k = (h.0, each_more Q (before ++ e ∷ []) a b h.1 (subst (λ x. AreEach Q x b) (sym (append_assoc before (e ∷ []) a)) k))

pub each_at : (Q : List Entry → Entry → Type 0) (before front : List Entry) (e : Entry) (rest : List Entry) → AreEach Q before (front ++ e ∷ rest) → Q (before ++ front) e
each_at Q before [] e rest h = subst (λ x. Q x e) (sym (append-nil before)) h.0
each_at Q before (x ∷ front) e rest h = subst (λ y. Q y e) (append_assoc before (x ∷ []) front) (each_at Q (before ++ x ∷ []) front e rest h.1)

pub each_weaker : (Q R : List Entry → Entry → Type 0) (before entries : List Entry) → ((b : List Entry) (e : Entry) → Q b e → R b e) → AreEach Q before entries → AreEach R before entries
each_weaker Q R before [] f h = tt
each_weaker Q R before (e ∷ entries) f h = (f before e h.0, each_weaker Q R (before ++ e ∷ []) entries f h.1)

-- ---- a moment of a run

-- a machine and a journal that moves lead to from new servers
pub record WasReached (m : Machine) (journal : List Entry) : Type 0 where
  pub boots : List ℕ
  pub moves : List Move
  pub machine : machine_after (new_machine (new_servers 1 boots)) moves ≡ m
  pub says : journal_of (new_machine (new_servers 1 boots)) moves ≡ journal

pub record IsMoment (t : Story) (m : Machine) (journal : List Entry) : Type 0 where
  pub came : WasReached m journal
  pub holds : Holds m journal t.drawn
  pub fenced : ℕ → ℕ
  pub periods : ArePeriods fenced m journal

-- what a predicate of moments is behind a move, and what each of its entries is behind those before it
pub record Done (P : Story → Machine → List Entry → Type 0) (Q : Story → ℕ → List Entry → Entry → Type 0) (t : Story) (m : Machine) (journal : List Entry) (x : MachineStep) : Type 0 where
  pub then : Story
  pub holds : Holds x.machine (journal ++ x.entries) then.drawn
  pub on : IsOnward t m.next_uid m.next_name then
  pub uids : m.next_uid ≤ x.machine.next_uid
  pub names : m.next_name ≤ x.machine.next_name
  pub kept : P then x.machine (journal ++ x.entries)
  pub each : AreEach (Q then x.machine.next_uid) journal x.entries

after_append : (m : Machine) (a b : List Move) → machine_after m (a ++ b) ≡ machine_after (machine_after m a) b
after_append m [] b = refl
after_append m (move ∷ a) b = after_append (moved m move).machine a b

journal_append : (m : Machine) (a b : List Move) → journal_of m (a ++ b) ≡ journal_of m a ++ journal_of (machine_after m a) b
journal_append m [] b = refl
journal_append m (move ∷ a) b = ap (λ (l : List Entry). (moved m move).entries ++ l) (journal_append (moved m move).machine a b) ∙ sym (append_assoc (moved m move).entries (journal_of (moved m move).machine a) (journal_of (machine_after (moved m move).machine a) b))

pub reached_on : (m : Machine) (journal : List Entry) (move : Move) → WasReached m journal → WasReached (moved m move).machine (journal ++ (moved m move).entries)
reached_on m journal move r =
    let start : Machine = new_machine (new_servers 1 r.boots) in
    record {
      boots = r.boots;
      moves = r.moves ++ move ∷ [];
      machine = after_append start r.moves (move ∷ []) ∙ ap (λ (x : Machine). (moved x move).machine) r.machine;
      says = journal_append start r.moves (move ∷ []) ∙ (ap (λ (x : Machine). journal_of start r.moves ++ ((moved x move).entries ++ [])) r.machine ∙ (ap (λ (l : List Entry). l ++ ((moved m move).entries ++ [])) r.says ∙ ap (λ (l : List Entry). journal ++ l) (append-nil (moved m move).entries)));
    }
