-- Lists of stages, cut where a journal is.
use Rattle.std.proofs.Common.{◌≡◌, ℕ, zero, suc, ◌+◌, ◌<◌, ◌≤◌, List, [], ◌∷◌, ◌++◌, length, Some, refl, sym, ap, subst, ◌∙◌, inl, inr, ◌⊎◌, arith}
use Rattle.std.specs.Prelude.{slice_get}
use Rattle.std.proofs.lemmas.List.{append_assoc, append-nil, length-append}
use Rattle.cluster_model.specs.declared.entry.Entry.{Entry}
use Rattle.cluster_laws.specs.Machine.{PacketValue}
use Rattle.bound_worlds.specs.MatchedPackets.{Stage, Shows, Hides, entries_of, brought_by, packets_of, Matches, AreMatched}

-- ---- beginnings of one list

-- one of two beginnings goes on to the other
pub data OneGoesOn {A : Type 0} (a b : List A) : Type 0 where
  FirstDoes : (more : List A) → b ≡ a ++ more → OneGoesOn a b
  SecondDoes : (more : List A) → a ≡ b ++ more → OneGoesOn a b

pub beginnings : {A : Type 0} (a x b y : List A) → a ++ x ≡ b ++ y → OneGoesOn a b
beginnings [] x b y is = FirstDoes b refl
beginnings (e ∷ a) x [] y is = SecondDoes (e ∷ a) refl
beginnings {A} (e ∷ a) x (d ∷ b) y is =
    let same : e ≡ d = cc (is) in
    let rest : a ++ x ≡ b ++ y = cc (is) in
    by_rest same (beginnings a x b y rest)
  where
    by_rest : e ≡ d → OneGoesOn a b → OneGoesOn (e ∷ a) (d ∷ b)
    by_rest same (FirstDoes more more_is) = FirstDoes more (ap (λ (h : A). h ∷ b) (sym same) ∙ ap (λ (l : List A). e ∷ l) more_is)
    by_rest same (SecondDoes more more_is) = SecondDoes more (ap (λ (h : A). h ∷ a) same ∙ ap (λ (l : List A). d ∷ l) more_is)

-- ---- stages

pub record AreCut (stages : List Stage) (a b : List Entry) : Type 0 where
  pub front : List Stage
  pub back : List Stage
  pub is : stages ≡ front ++ back
  pub front_is : entries_of front ≡ a
  pub back_is : entries_of back ≡ b

pub cut_at : (stages : List Stage) (a b : List Entry) → entries_of stages ≡ a ++ b → AreCut stages a b
cut_at stages [] b is = record { front = []; back = stages; is = refl; front_is = refl; back_is = is }
cut_at [] (e ∷ a) b is = absurd cc
cut_at (Shows x packets ∷ stages) (e ∷ a) b is =
    let head : x ≡ e = cc (is) in
    let rest : entries_of stages ≡ a ++ b = cc (is) in
    with_rest head (cut_at stages a b rest)
  where
    with_rest : x ≡ e → AreCut stages a b → AreCut (Shows x packets ∷ stages) (e ∷ a) b
    with_rest head c = record {
      front = Shows x packets ∷ c.front;
      back = c.back;
      is = ap (λ (l : List Stage). Shows x packets ∷ l) c.is;
      front_is = ap (λ (h : Entry). h ∷ entries_of c.front) head ∙ ap (λ (l : List Entry). e ∷ l) c.front_is;
      back_is = c.back_is;
    }
cut_at (Hides packets ∷ stages) (e ∷ a) b is =
    let c : AreCut stages (e ∷ a) b = cut_at stages (e ∷ a) b is in
    record { front = Hides packets ∷ c.front; back = c.back; is = ap (λ (l : List Stage). Hides packets ∷ l) c.is; front_is = c.front_is; back_is = c.back_is }

-- the stage of an entry
pub record ShowsAt (stages : List Stage) (a : List Entry) (e : Entry) (b : List Entry) : Type 0 where
  pub front : List Stage
  pub packets : List PacketValue
  pub back : List Stage
  pub is : stages ≡ front ++ Shows e packets ∷ back
  pub front_is : entries_of front ≡ a

pub shows_at : (stages : List Stage) (a : List Entry) (e : Entry) (b : List Entry) → entries_of stages ≡ a ++ e ∷ b → ShowsAt stages a e b
shows_at [] [] e b is = absurd cc
shows_at [] (y ∷ a) e b is = absurd cc
shows_at (Shows x packets ∷ stages) [] e b is =
    let head : x ≡ e = cc (is) in
    record { front = []; packets = packets; back = stages; is = ap (λ (h : Entry). Shows h packets ∷ stages) head; front_is = refl }
shows_at (Shows x packets ∷ stages) (y ∷ a) e b is =
    let head : x ≡ y = cc (is) in
    let rest : entries_of stages ≡ a ++ e ∷ b = cc (is) in
    let s : ShowsAt stages a e b = shows_at stages a e b rest in
    record {
      front = Shows x packets ∷ s.front;
      packets = s.packets;
      back = s.back;
      is = ap (λ (l : List Stage). Shows x packets ∷ l) s.is;
      front_is = ap (λ (h : Entry). h ∷ entries_of s.front) head ∙ ap (λ (l : List Entry). y ∷ l) s.front_is;
    }
shows_at (Hides packets ∷ stages) a e b is =
    let s : ShowsAt stages a e b = shows_at stages a e b is in
    record { front = Hides packets ∷ s.front; packets = s.packets; back = s.back; is = ap (λ (l : List Stage). Hides packets ∷ l) s.is; front_is = s.front_is }

pub packets_join : (a b : List Stage) → packets_of (a ++ b) ≡ packets_of a ++ packets_of b
packets_join [] b = refl
packets_join (s ∷ a) b = ap (λ (l : List PacketValue). brought_by s ++ l) (packets_join a b) ∙ sym (append_assoc (brought_by s) (packets_of a) (packets_of b))

pub entries_join : (a b : List Stage) → entries_of (a ++ b) ≡ entries_of a ++ entries_of b
entries_join [] b = refl
entries_join (Shows x packets ∷ a) b = ap (λ (l : List Entry). x ∷ l) (entries_join a b)
entries_join (Hides packets ∷ a) b = entries_join a b

-- what is matched is so at each place
pub matched_at : (past : List Entry) (place : ℕ) (front : List Stage) (e : Entry) (packets : List PacketValue) (back : List Stage) → AreMatched past place (front ++ Shows e packets ∷ back)
    → Matches (past ++ entries_of front) (place + length (packets_of front)) e packets
matched_at past place [] e packets back all =
    subst (λ (l : List Entry). Matches l (place + 0) e packets) (sym (append-nil past)) (subst (λ (k : ℕ). Matches past k e packets) (omega (arith)) all.0)
matched_at past place (Shows x more ∷ front) e packets back all =
    let rest = matched_at (past ++ x ∷ []) (place + length more) front e packets back all.1 in
    let count : length (more ++ packets_of front) ≡ length more + length (packets_of front) = length-append more (packets_of front) in
    subst (λ (l : List Entry). Matches l (place + length (more ++ packets_of front)) e packets) (append_assoc past (x ∷ []) (entries_of front))
    (subst (λ (k : ℕ). Matches ((past ++ x ∷ []) ++ entries_of front) k e packets) (omega (arith, count)) rest)
matched_at past place (Hides more ∷ front) e packets back all =
    let rest = matched_at past (place + length more) front e packets back all in
    let count : length (more ++ packets_of front) ≡ length more + length (packets_of front) = length-append more (packets_of front) in
    subst (λ (k : ℕ). Matches (past ++ entries_of front) k e packets) (omega (arith, count)) rest

pub matched_join : (past : List Entry) (place : ℕ) (a b : List Stage) → AreMatched past place a → AreMatched (past ++ entries_of a) (place + length (packets_of a)) b → AreMatched past place (a ++ b)
matched_join past place [] b first second =
    subst (λ (l : List Entry). AreMatched l place b) (append-nil past) (subst (λ (k : ℕ). AreMatched (past ++ []) k b) (omega (arith)) second)
matched_join past place (Shows x more ∷ a) b first second =
    let count : length (more ++ packets_of a) ≡ length more + length (packets_of a) = length-append more (packets_of a) in (
      first.0,
      matched_join (past ++ x ∷ []) (place + length more) a b first.1
          (subst (λ (l : List Entry). AreMatched l ((place + length more) + length (packets_of a)) b) (sym (append_assoc past (x ∷ []) (entries_of a)))
          (subst (λ (k : ℕ). AreMatched (past ++ x ∷ entries_of a) k b) (omega (arith, count)) second)),
    )
matched_join past place (Hides more ∷ a) b first second =
    let count : length (more ++ packets_of a) ≡ length more + length (packets_of a) = length-append more (packets_of a) in
    matched_join past (place + length more) a b first (subst (λ (k : ℕ). AreMatched (past ++ entries_of a) k b) (omega (arith, count)) second)

pub matched_front : (past : List Entry) (place : ℕ) (a b : List Stage) → AreMatched past place (a ++ b) → AreMatched past place a
matched_front past place [] b all = tt
matched_front past place (Shows x packets ∷ a) b all = (all.0, matched_front (past ++ x ∷ []) (place + length packets) a b all.1)
matched_front past place (Hides packets ∷ a) b all = matched_front past (place + length packets) a b all

-- what stands behind a beginning of packets
pub there_behind : {A : Type 0} (a : List A) (x : A) (b : List A) → slice_get (a ++ x ∷ b) (length a) ≡ Some x
there_behind [] x b = refl
there_behind (y ∷ a) x b = there_behind a x b

pub next_behind : {A : Type 0} (a : List A) (x y : A) (b : List A) → slice_get (a ++ x ∷ (y ∷ b)) (length a + 1) ≡ Some y
next_behind {A} a x y b =
    let e : length (a ++ x ∷ []) ≡ length a + 1 = length-append a (x ∷ []) in
    subst (λ (k : ℕ). slice_get (a ++ x ∷ (y ∷ b)) k ≡ Some y) e (subst (λ (l : List A). slice_get l (length (a ++ x ∷ [])) ≡ Some y) (append_assoc a (x ∷ []) (y ∷ b)) (there_behind (a ++ x ∷ []) y b))
