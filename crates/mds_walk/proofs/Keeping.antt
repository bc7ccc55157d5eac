-- What is kept by a step: a predicate of a metadata server, of what it has entered and of what it has sent so far, whatever that is.
use Rattle.std.proofs.Common.{◌≡◌, List, [], ◌++◌, refl, sym, ap, subst, ◌∙◌}
use Rattle.std.proofs.lemmas.List.{append_assoc, append-nil}
use Rattle.cluster_model.specs.declared.entry.Entry.{Entry}
use Rattle.mds_rule.specs.MdsStates.{MdsSend, MdsValue, MdsStep, sends_none, enters, and_then}
use Rattle.mds_rule.specs.OpSteps.{OpStep, Goes, Ends, Waits}
use Rattle.mds_walk.specs.MdsRuns.{MdsInput, Hears, IsTimedOut, Ticks as IsTick, RecallsFile, Resilvers}
use Rattle.mds_walk.proofs.Parts.{Becomes, Enters, Keeps, HeardAny, HearsSo}

abbrev pub KeepsOp : (MdsValue → List Entry → List MdsSend → Type 0) → MdsValue → OpStep → Type 0
KeepsOp I m (Goes n entries c) = Enters I m n entries
KeepsOp I m (Ends n entries c status) = Enters I m n entries
KeepsOp I m (Waits n entries) = Enters I m n entries

-- a step that sends nothing
pub record Silent (I : MdsValue → List Entry → List MdsSend → Type 0) (m : MdsValue) (s : MdsStep) : Type 0 where
  pub enters : Enters I m s.mds s.entries
  pub none : s.sends ≡ []

pub hears_any : (I : MdsValue → List Entry → List MdsSend → Type 0) (input : MdsInput) → HearsSo I HeardAny input
hears_any I (Hears from bytes) = λ reply is m es ss i call inside its. tt
hears_any I (IsTimedOut to which) = tt
hears_any I IsTick = tt
hears_any I (RecallsFile file) = tt
hears_any I (Resilvers file) = tt

-- ---- how steps join

module _ (I : MdsValue → List Entry → List MdsSend → Type 0) where
  pub joined : (x : MdsValue) (es a b : List Entry) (ss c d : List MdsSend) → I x ((es ++ a) ++ b) ((ss ++ c) ++ d) → I x (es ++ (a ++ b)) (ss ++ (c ++ d))
  joined x es a b ss c d i =
      subst (λ (l : List Entry). I x l (ss ++ (c ++ d))) (append_assoc es a b) (subst (λ (l : List MdsSend). I x ((es ++ a) ++ b) l) (append_assoc ss c d) i)

  pub then_keeps : (m : MdsValue) (s : MdsStep) (next : MdsValue → MdsStep) → Keeps I m s → ((n : MdsValue) → Keeps I n (next n)) → Keeps I m (and_then s next)
  then_keeps m s next first second es ss i =
      joined (next s.mds).mds es s.entries (next s.mds).entries ss s.sends (next s.mds).sends (second s.mds (es ++ s.entries) (ss ++ s.sends) (first es ss i))

  pub none_keeps : (m n : MdsValue) → Becomes I m n → Keeps I m (sends_none n)
  none_keeps m n b es ss i =
      subst (λ (l : List Entry). I n l (ss ++ [])) (sym (append-nil es)) (subst (λ (l : List MdsSend). I n es l) (sym (append-nil ss)) (b es ss i))

  pub same : (m : MdsValue) → Keeps I m (sends_none m)
  same m = none_keeps m m (λ es ss i. i)

  pub becomes_keeps : (m n : MdsValue) (s : MdsStep) → Becomes I m n → Keeps I n s → Keeps I m s
  becomes_keeps m n s b k es ss i = k es ss (b es ss i)

  pub enters_twice : (m : MdsValue) (a b : List Entry) (s : MdsStep) → Keeps I m (enters (a ++ b) s) → Keeps I m (enters a (enters b s))
  enters_twice m a b s k es ss i = subst (λ (l : List Entry). I s.mds (es ++ l) (ss ++ s.sends)) (append_assoc a b s.entries) (k es ss i)

  pub enters_keeps : (m n : MdsValue) (entries : List Entry) (s : MdsStep) → Enters I m n entries → Keeps I n s → Keeps I m (enters entries s)
  enters_keeps m n entries s e k es ss i =
      subst (λ (l : List Entry). I s.mds l (ss ++ s.sends)) (append_assoc es entries s.entries) (k (es ++ entries) ss (e es ss i))

  pub no_entries : (m n : MdsValue) → Becomes I m n → Enters I m n []
  no_entries m n b es ss i = subst (λ (l : List Entry). I n l ss) (sym (append-nil es)) (b es ss i)

  pub stays : (m : MdsValue) → Enters I m m []
  stays m = no_entries m m (λ es ss i. i)

  pub enters_then : (m n x : MdsValue) (a b : List Entry) → Enters I m n a → Enters I n x b → Enters I m x (a ++ b)
  enters_then m n x a b first second es ss i = subst (λ (l : List Entry). I x l ss) (append_assoc es a b) (second (es ++ a) ss (first es ss i))

  pub enters_becomes : (m n x : MdsValue) (a : List Entry) → Enters I m n a → Becomes I n x → Enters I m x a
  enters_becomes m n x a first b es ss i = b (es ++ a) ss (first es ss i)

  -- ---- of steps that send nothing

  pub silent_then : (m : MdsValue) (s : MdsStep) (next : MdsValue → MdsStep) → Silent I m s → ((n : MdsValue) → Silent I n (next n)) → Silent I m (and_then s next)
  silent_then m s next first second = record {
    enters = enters_then m s.mds (next s.mds).mds s.entries (next s.mds).entries first.enters (second s.mds).enters;
    none = ap (λ (l : List MdsSend). l ++ (next s.mds).sends) first.none ∙ (second s.mds).none;
  }

  pub silent_none : (m n : MdsValue) → Becomes I m n → Silent I m (sends_none n)
  silent_none m n b = record { enters = no_entries m n b; none = refl }

  pub silent_same : (m : MdsValue) → Silent I m (sends_none m)
  silent_same m = silent_none m m (λ es ss i. i)

  pub silent_keeps : (m : MdsValue) (s : MdsStep) → Silent I m s → Keeps I m s
  silent_keeps m s q es ss i =
      subst (λ (l : List MdsSend). I s.mds (es ++ s.entries) l) (sym (append-nil ss) ∙ ap (λ (l : List MdsSend). ss ++ l) (sym q.none)) (q.enters es ss i)

  pub becomes_silent : (m n : MdsValue) (s : MdsStep) → Becomes I m n → Silent I n s → Enters I m s.mds s.entries
  becomes_silent m n s b q es ss i = q.enters es ss (b es ss i)
