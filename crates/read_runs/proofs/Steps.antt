-- Parts of an event that keep what holds by the history: those that send nothing, those that enter nothing, and how they follow each other.
-- In the history the entries of an event stand before its sends, so behind what sends nothing anything may follow, and what enters nothing
-- behind anything.
use Rattle.std.proofs.Common.{◌≡◌, List, [], ◌++◌, refl, sym, ap, subst, ◌∙◌}
use Rattle.std.specs.Prelude.{map}
use Rattle.std.proofs.lemmas.List.{append_assoc, append-nil, map-append}
use Rattle.cluster_model.specs.declared.entry.Entry.{Entry}
use Rattle.mds_rule.specs.MdsStates.{MdsSend, MdsValue, MdsStep, sends_none, enters, and_then}
use Rattle.mds_rule.specs.OpSteps.{OpStep, Goes, Ends, Waits}
use Rattle.mds_histories.specs.MdsHistory.{MdsItem, Enters, Sends}
use Rattle.read_runs.proofs.Holding.{Holds}

abbrev pub items_in : MdsStep → List MdsItem
items_in s = map Enters s.entries ++ map Sends s.sends

-- ---- what is kept

abbrev pub Becomes : MdsValue → MdsValue → Type 0
Becomes m n = (h : List MdsItem) → Holds m h → Holds n h

abbrev pub EntersSo : MdsValue → MdsValue → List Entry → Type 0
EntersSo m n entries = (h : List MdsItem) → Holds m h → Holds n (h ++ map Enters entries)

abbrev pub KeepsAt : List MdsItem → MdsValue → MdsStep → Type 0
KeepsAt h m s = Holds m h → Holds s.mds (h ++ items_in s)

abbrev pub Keeps : MdsValue → MdsStep → Type 0
Keeps m s = (h : List MdsItem) → Holds m h → Holds s.mds (h ++ items_in s)

abbrev pub KeepsOp : MdsValue → OpStep → Type 0
KeepsOp m (Goes n entries c) = EntersSo m n entries
KeepsOp m (Ends n entries c status) = EntersSo m n entries
KeepsOp m (Waits n entries) = EntersSo m n entries

-- a step that sends nothing, and one that enters nothing
pub record Silent (m : MdsValue) (s : MdsStep) : Type 0 where
  pub enters : EntersSo m s.mds s.entries
  pub none : s.sends ≡ []

pub record Mute (m : MdsValue) (s : MdsStep) : Type 0 where
  pub sends : (h : List MdsItem) → Holds m h → Holds s.mds (h ++ map Sends s.sends)
  pub none : s.entries ≡ []

-- ---- the items of joined steps

entered_items : (h : List MdsItem) (es fs : List Entry) (rest : List MdsItem) → (h ++ map Enters es) ++ (map Enters fs ++ rest) ≡ h ++ (map Enters (es ++ fs) ++ rest)
entered_items h es fs rest =
    append_assoc h (map Enters es) (map Enters fs ++ rest) ∙ ap (λ l. h ++ l) (sym (append_assoc (map Enters es) (map Enters fs) rest)) ∙ ap (λ l. h ++ (l ++ rest)) (sym (map-append Enters es fs))

sent_items : (h : List MdsItem) (es fs : List Entry) (ss rs : List MdsSend) → fs ≡ [] → (h ++ (map Enters es ++ map Sends ss)) ++ map Sends rs ≡ h ++ (map Enters (es ++ fs) ++ map Sends (ss ++ rs))
sent_items h es fs ss rs none =
    append_assoc h (map Enters es ++ map Sends ss) (map Sends rs) ∙ ap (λ l. h ++ l) (append_assoc (map Enters es) (map Sends ss) (map Sends rs))
    ∙ ap (λ l. h ++ (map Enters es ++ l)) (sym (map-append Sends ss rs)) ∙ ap (λ l. h ++ (map Enters l ++ map Sends (ss ++ rs))) (sym (append-nil es) ∙ ap (λ l. es ++ l) (sym none))

only_entered : (h : List MdsItem) (es : List Entry) (ss : List MdsSend) → ss ≡ [] → h ++ map Enters es ≡ h ++ (map Enters es ++ map Sends ss)
only_entered h es ss none = ap (λ l. h ++ l) (sym (append-nil (map Enters es))) ∙ ap (λ l. h ++ (map Enters es ++ map Sends l)) (sym none)

only_sent : (h : List MdsItem) (es : List Entry) (ss : List MdsSend) → es ≡ [] → h ++ map Sends ss ≡ h ++ (map Enters es ++ map Sends ss)
only_sent h es ss none = ap (λ l. h ++ (map Enters l ++ map Sends ss)) (sym none)

-- ---- nothing is entered or sent

pub no_entries : (m n : MdsValue) → Becomes m n → EntersSo m n []
no_entries m n b h i = subst (λ (l : List MdsItem). Holds n l) (sym (append-nil h)) (b h i)

pub stays : (m : MdsValue) → EntersSo m m []
stays m = no_entries m m (λ h i. i)

pub none_keeps : (m n : MdsValue) → Becomes m n → Keeps m (sends_none n)
none_keeps m n b h i = subst (λ (l : List MdsItem). Holds n l) (sym (append-nil h)) (b h i)

pub same : (m : MdsValue) → Keeps m (sends_none m)
same m = none_keeps m m (λ h i. i)

pub becomes_keeps : (m n : MdsValue) (s : MdsStep) → Becomes m n → Keeps n s → Keeps m s
becomes_keeps m n s b k h i = k h (b h i)

pub becomes_then : (m n x : MdsValue) → Becomes m n → Becomes n x → Becomes m x
becomes_then m n x b c h i = c h (b h i)

-- ---- entries first

pub enters_then : (m n x : MdsValue) (a b : List Entry) → EntersSo m n a → EntersSo n x b → EntersSo m x (a ++ b)
enters_then m n x a b first second h i =
    subst (λ (l : List MdsItem). Holds x l) (append_assoc h (map Enters a) (map Enters b) ∙ ap (λ l. h ++ l) (sym (map-append Enters a b))) (second (h ++ map Enters a) (first h i))

pub enters_becomes : (m n x : MdsValue) (a : List Entry) → EntersSo m n a → Becomes n x → EntersSo m x a
enters_becomes m n x a first b h i = b (h ++ map Enters a) (first h i)

pub enters_keeps_at : (h : List MdsItem) (m n : MdsValue) (entries : List Entry) (s : MdsStep) → (Holds m h → Holds n (h ++ map Enters entries)) → KeepsAt (h ++ map Enters entries) n s → KeepsAt h m (enters entries s)
enters_keeps_at h m n entries s e k i = subst (λ (l : List MdsItem). Holds s.mds l) (entered_items h entries s.entries (map Sends s.sends)) (k (e i))

pub enters_keeps : (m n : MdsValue) (entries : List Entry) (s : MdsStep) → EntersSo m n entries → Keeps n s → Keeps m (enters entries s)
enters_keeps m n entries s e k h i = enters_keeps_at h m n entries s (e h) (k (h ++ map Enters entries)) i

-- ---- steps that send nothing

pub silent_then : (m : MdsValue) (s : MdsStep) (next : MdsValue → MdsStep) → Silent m s → ((n : MdsValue) → Silent n (next n)) → Silent m (and_then s next)
silent_then m s next first second = record {
  enters = enters_then m s.mds (next s.mds).mds s.entries (next s.mds).entries first.enters (second s.mds).enters;
  none = ap (λ (l : List MdsSend). l ++ (next s.mds).sends) first.none ∙ (second s.mds).none;
}

pub silent_none : (m n : MdsValue) → Becomes m n → Silent m (sends_none n)
silent_none m n b = record { enters = no_entries m n b; none = refl }

pub silent_same : (m : MdsValue) → Silent m (sends_none m)
silent_same m = silent_none m m (λ h i. i)

pub silent_keeps : (m : MdsValue) (s : MdsStep) → Silent m s → Keeps m s
silent_keeps m s q h i = subst (λ (l : List MdsItem). Holds s.mds l) (only_entered h s.entries s.sends q.none) (q.enters h i)

pub becomes_silent : (m n : MdsValue) (s : MdsStep) → Becomes m n → Silent n s → Silent m s
becomes_silent m n s b q = record { enters = λ h i. q.enters h (b h i); none = q.none }

pub silent_first : (m : MdsValue) (s : MdsStep) (next : MdsValue → MdsStep) → Silent m s → ((n : MdsValue) → Keeps n (next n)) → Keeps m (and_then s next)
silent_first m s next q k h i =
    let x : MdsStep = next s.mds in
    subst (λ (l : List MdsItem). Holds x.mds l)
    (entered_items h s.entries x.entries (map Sends x.sends) ∙ ap (λ (l : List MdsSend). h ++ (map Enters (s.entries ++ x.entries) ++ map Sends (l ++ x.sends))) (sym q.none))
    (k s.mds (h ++ map Enters s.entries) (q.enters h i))

-- ---- steps that enter nothing

pub mute_then : (m : MdsValue) (s : MdsStep) (next : MdsValue → MdsStep) → Mute m s → ((n : MdsValue) → Mute n (next n)) → Mute m (and_then s next)
mute_then m s next first second = record {
  sends = λ h i.
      let x : MdsStep = next s.mds in
      subst (λ (l : List MdsItem). Holds x.mds l) (append_assoc h (map Sends s.sends) (map Sends x.sends) ∙ ap (λ l. h ++ l) (sym (map-append Sends s.sends x.sends)))
      ((second s.mds).sends (h ++ map Sends s.sends) (first.sends h i));
  none = ap (λ (l : List Entry). l ++ (next s.mds).entries) first.none ∙ (second s.mds).none;
}

pub mute_none : (m n : MdsValue) → Becomes m n → Mute m (sends_none n)
mute_none m n b = record { sends = λ h i. subst (λ (l : List MdsItem). Holds n l) (sym (append-nil h)) (b h i); none = refl }

pub mute_same : (m : MdsValue) → Mute m (sends_none m)
mute_same m = mute_none m m (λ h i. i)

pub becomes_mute : (m n : MdsValue) (s : MdsStep) → Becomes m n → Mute n s → Mute m s
becomes_mute m n s b q = record { sends = λ h i. q.sends h (b h i); none = q.none }

pub mute_keeps : (m : MdsValue) (s : MdsStep) → Mute m s → Keeps m s
mute_keeps m s q h i = subst (λ (l : List MdsItem). Holds s.mds l) (only_sent h s.entries s.sends q.none) (q.sends h i)

-- behind whatever has held so far
pub last_at : (h : List MdsItem) (m : MdsValue) (s : MdsStep) (next : MdsValue → MdsStep) → KeepsAt h m s → (Holds s.mds (h ++ items_in s) → Holds (next s.mds).mds ((h ++ items_in s) ++ map Sends (next s.mds).sends)) → (next s.mds).entries ≡ []
    → KeepsAt h m (and_then s next)
last_at h m s next k more none i =
    let x : MdsStep = next s.mds in
    subst (λ (l : List MdsItem). Holds x.mds l) (sent_items h s.entries x.entries s.sends x.sends none) (more (k i))

pub mute_last_at : (h : List MdsItem) (m : MdsValue) (s : MdsStep) (next : MdsValue → MdsStep) → KeepsAt h m s → ((n : MdsValue) → Mute n (next n)) → KeepsAt h m (and_then s next)
mute_last_at h m s next k q = last_at h m s next k ((q s.mds).sends (h ++ items_in s)) (q s.mds).none

pub mute_last : (m : MdsValue) (s : MdsStep) (next : MdsValue → MdsStep) → Keeps m s → ((n : MdsValue) → Mute n (next n)) → Keeps m (and_then s next)
mute_last m s next k q h = mute_last_at h m s next (k h) q
