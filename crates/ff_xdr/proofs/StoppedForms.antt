-- Where a reading stops, of every form.
use Rattle.std.proofs.Common.{◌≡◌, ℕ, zero, suc, ◌+◌, ◌<◌, ◌≤◌, ◌^◌, Bool, true, false, not, ◌||◌, eqb, ltb, List, [], ◌∷◌, ◌++◌, length, replicate, Some, None, Ok, Err, refl, sym, ap, subst, ◌∙◌, arith, inl, inr}
use Rattle.std.specs.Prelude.{IsTrue, ◌⊎◌}
use Rattle.std.specs.Int.{w32}
use Rattle.std.specs.List.{flat_map}
use Rattle.std.proofs.lemmas.Bool.{and_parts, or_cases, eqb-true, false≢true}
use Rattle.std.proofs.lemmas.List.{length-replicate, length-append}
use Rattle.ff_xdr.specs.declared.error.XdrError.{XdrError}
use Rattle.ff_xdr.specs.declared.error.XdrWhy.{XdrWhy}
use Rattle.ff_xdr.specs.declared.error.XdrWhy.TheVariants.{Short, Pad, NotBool, NotEnum, TooLong, NotUtf8, Rest}
use Rattle.ff_xdr.specs.Form.{Form, Void, Number32, Number64, Hyper, Boolean, Enum, Optional, Fixed, Opaque, Text, Pair, Array, Arm, NoArm, Default, Value, Fits, spelling, avoids, is_sound, word}
use Rattle.ff_xdr.specs.Laws.{IsBytes, Stands, is_end, is_filled}
use Rattle.ff_xdr.specs.Reading.{Read, ◌>>=◌, number_at, length_at, flag_at, reading, many_at, optional_at, arm_at}
use Rattle.ff_xdr.specs.Faults.{Item, Truth, Choice, Length, IsItemIn, IsItemAt, IsWordAt, IsWrong, IsCut}
use Rattle.ff_xdr.proofs.Again.{sound_case}
use Rattle.ff_xdr.proofs.Places.{err_is, ok_is}
use Rattle.ff_xdr.proofs.Fields.{length-word, word_takes, length_takes, flag_takes, flag_word}
use Rattle.ff_xdr.proofs.SpelledSo.{spelled_in}
use Rattle.ff_xdr.proofs.Begun.{bind_err, not_err}
use Rattle.ff_xdr.proofs.FirstFault.{some_value, all_same, Many, case_err}
use Rattle.ff_xdr.proofs.Stopped.{IsTrouble, StopsAt, Stopped, stopped_here, stopped_first, stopped_second, is_word, word_cut, flag_trouble, length_trouble, enum_trouble, default_trouble, word_stopped, long_stopped, hyper_stopped}
use Rattle.ff_xdr.proofs.StoppedText.{fixed_stopped, opaque_stopped, text_stopped}

-- ---- several values

module _ {M : Type 0} (each : ℕ → Read M) (spell : M → List ℕ) (P : M → Type 0) (items : M → ℕ → Item → Type 0) (some : M) (bytes : List ℕ) (e : XdrError) where
  abbrev many_items : List M → ℕ → Item → Type 0
  many_items vs k item = IsItemIn spell (λ v i. items v i item) vs k

  many_stopped : P some
      → ((at : ℕ) (v : M) (to : ℕ) → at ≤ length bytes → each at ≡ Ok (v, to) → P v × Stands bytes at (spell v) to)
      → ((at : ℕ) → at ≤ length bytes → each at ≡ Err e → Stopped spell P items bytes at e)
      → (n at : ℕ) → at ≤ length bytes → many_at each n at ≡ Err e → Stopped (flat_map spell) (Many P n) many_items bytes at e
  many_stopped fits took refused zero at le is = absurd cc
  many_stopped fits took refused (suc n) at le is =
      elim (bind_err (each at) (λ first. many_at each n first.1 >>= λ others. Ok (first.0 ∷ others.0, others.1)) e is) [
        | inl h ↦
            stopped_first spell P items (flat_map spell) (Many P (suc n)) many_items (λ v. v ∷ replicate n some) bytes at e (λ v. flat_map spell (replicate n some))
            (λ v fit. (ap suc (length-replicate n some), (fit, all_same P n some fits))) (λ v fit. refl) (λ v k item has. inl has) (refused at le h)
        | inr h ↦
            let first = took at h.0.0 h.0.1 le h.1 in
            stopped_second (flat_map spell) (Many P n) many_items (flat_map spell) (Many P (suc n)) many_items (λ vs. h.0.0 ∷ vs) bytes at e (spell h.0.0) h.0.1 first.1
            (λ vs fit. (ap suc fit.0, (first.0, fit.1))) (λ vs fit. refl) (λ vs k item has. inr (k, refl, has))
            (many_stopped fits took refused n h.0.1 first.1.within (not_err (many_at each n h.0.1) (λ others. (h.0.0 ∷ others.0, others.1)) e h.2))
      ]

-- ---- the arms of a union

-- the item at the front of a value tells the form's values apart, where the form begins with a word
pub record FrontItem (form : Form) (item : Item) : Type 0 where
  pub own : Form
  pub is : item ≡ Choice own
  pub same : (n : ℕ) → avoids n own ≡ avoids n form

pub front_size : (form : Form) (m : ℕ) → IsTrue (avoids m form) → (v : Value form) → 4 ≤ length (spelling form v)
front_size (Enum numbers) m away v = omega (arith, length-word v)
front_size (Default numbers) m away v = omega (arith, length-word v)
front_size (Pair first second) m away (a, b) = omega (arith, front_size first m away a, length-append (spelling first a) (spelling second b))
front_size (Arm number body others) m away (inl v) = omega (arith, length-word number, length-append (word number) (spelling body v))
front_size (Arm number body others) m away (inr v) = front_size others m (and_parts (not (eqb m number)) (avoids m others) away).1 v
front_size NoArm m away v = absurd v
front_size _ m away v = absurd (false≢true away)

-- a form that avoids a number begins with a word, of which the item at the front is one; the next are behind it
pub front_item : (form : Form) (m : ℕ) → IsTrue (avoids m form) → (v : Value form) (k : ℕ) (item : Item) → IsItemAt form v k item → ((k ≡ 0) × FrontItem form item) ⊎ (4 ≤ k)
front_item (Enum numbers) m away v k item has = inl (has.0, record { own = Enum numbers; is = has.1; same = λ n. refl })
front_item (Default numbers) m away v k item has = inl (has.0, record { own = Default numbers; is = has.1; same = λ n. refl })
front_item (Pair first second) m away (a, b) k item (inl h) =
    elim (front_item first m away a k item h) [
      | inl front ↦ inl (front.0, record { own = front.1.own; is = front.1.is; same = λ n. front.1.same n })
      | inr behind ↦ inr behind
    ]
front_item (Pair first second) m away (a, b) k item (inr h) = inr (omega (arith, h.1, front_size first m away a))
front_item (Arm number body others) m away (inl v) k item (inl h) = inl (h.0, record { own = Arm number body others; is = h.1; same = λ n. refl })
front_item (Arm number body others) m away (inl v) k item (inr h) = inr (omega (arith, h.1))
front_item (Arm number body others) m away (inr v) k item (inl h) = inl (h.0, record { own = Arm number body others; is = h.1; same = λ n. refl })
front_item (Arm number body others) m away (inr v) k item (inr h) =
    elim (front_item others m (and_parts (not (eqb m number)) (avoids m others) away).1 v k item h.1) [
      | inl front ↦ absurd (omega (arith, front.0, h.0))
      | inr behind ↦ inr behind
    ]
front_item NoArm m away v k item has = absurd v
front_item _ m away v k item has = absurd (false≢true away)

-- a number that no value of one form begins with, and of another
wrong_choice : (own whole : Form) (why : XdrWhy) (bytes : List ℕ) (to : ℕ) → ((n : ℕ) → IsWordAt bytes to n → IsTrue (avoids n own) → IsTrue (avoids n whole)) → IsWrong why (Choice own) bytes to → IsWrong why (Choice whole) bytes to
wrong_choice own whole NotEnum bytes to lift wrong = (wrong.0, wrong.1, lift wrong.0 wrong.1 wrong.2)
wrong_choice own whole Short bytes to lift wrong = absurd wrong
wrong_choice own whole Pad bytes to lift wrong = absurd wrong
wrong_choice own whole NotBool bytes to lift wrong = absurd wrong
wrong_choice own whole TooLong bytes to lift wrong = absurd wrong
wrong_choice own whole NotUtf8 bytes to lift wrong = absurd wrong
wrong_choice own whole Rest bytes to lift wrong = absurd wrong

-- a value of the form begins with the bytes up to where the reading stops
abbrev pub IsStopped : Form → List ℕ → ℕ → XdrError → Type 0
IsStopped form bytes at e = Stopped (λ v. spelling form v) (λ v. Fits form v) (λ v k item. IsItemAt form v k item) bytes at e

module _ (number : ℕ) (body others : Form) (bytes : List ℕ) (at n to : ℕ) (e : XdrError) (read : number_at w32 bytes at ≡ Ok (n, to)) (s : Stands bytes at (word n) to) (other : eqb n number ≡ false) where
  -- the number that stands there is no arm's, if it is none of the others'
  no_arm_here : (k : ℕ) → IsWordAt bytes at k → IsTrue (avoids k others) → IsTrue (avoids k (Arm number body others))
  no_arm_here k is away =
      let same : k ≡ n = ap (λ (x : ℕ × ℕ). x.0) (ok_is (k, at + 4) (n, to) (sym is ∙ read)) in
      let apart : eqb k number ≡ false = ap (λ (j : ℕ). eqb j number) same ∙ other in
      rw (apart, away) refl

  -- a word stands whole
  whole_word : length bytes < at + 4 → ⊥
  whole_word cut = absurd (omega (arith, cut, s.ends, s.within, length-word n))

  other_stop : IsTrue (avoids number others) → (v : Value others) (k place : ℕ) → place ≡ at + k → StopsAt e bytes (length (spelling others v)) (λ j item. IsItemAt others v j item) k place
      → StopsAt e bytes (length (spelling others v)) (λ j item. IsItemAt (Arm number body others) (inr v) j item) k place
  other_stop away v k place here (inl h) = inl h
  other_stop away v k place here (inr (item, has, trouble)) =
      elim (front_item others number away v k item has) [
        | inl front ↦
            let same : place ≡ at = omega (arith, here, front.0) in
            elim trouble [
              | inl wrong ↦
                  let own : IsWrong e.why (Choice front.1.own) bytes at = subst (λ (i : Item). IsWrong e.why i bytes at) front.1.is (subst (λ (j : ℕ). IsWrong e.why item bytes j) same wrong.1) in
                  let all : IsWrong e.why (Choice (Arm number body others)) bytes at =
                  wrong_choice front.1.own (Arm number body others) e.why bytes at (λ j is away. no_arm_here j is (sym (front.1.same j) ∙ away)) own in
                  inr (Choice (Arm number body others), inl (front.0, refl), inl (wrong.0, subst (λ (j : ℕ). IsWrong e.why (Choice (Arm number body others)) bytes j) (sym same) all))
              | inr cut ↦
                  let own : length bytes < place + 4 = subst (λ (i : Item). IsCut i bytes place) front.1.is cut.1 in
                  absurd (whole_word (omega (arith, own, same)))
            ]
        | inr behind ↦ inr (item, inr (omega (arith, behind), has), trouble)
      ]

  other_stopped : IsTrue (avoids number others) → IsStopped others bytes at e → IsStopped (Arm number body others) bytes at e
  other_stopped away h =
      record {
        value = inr h.value;
        fits = h.fits;
        part = h.part;
        rest = h.rest;
        spelt = h.spelt;
        to = h.to;
        there = h.there;
        stop = other_stop away h.value (length h.part) h.to h.there.ends h.stop;
      }

-- where the arms end, the number is none of theirs
end_trouble : (number : ℕ) (body others : Form) (bytes : List ℕ) (at n to : ℕ) (e : XdrError) → number_at w32 bytes at ≡ Ok (n, to) → eqb n number ≡ false → is_end others ≡ true → reading others bytes at ≡ Err e
    → IsTrouble e bytes (Choice (Arm number body others)) at
end_trouble number body NoArm bytes at n to e read other end is =
    let same : e ≡ record { place = at; why = NotEnum } = err_is {A = ⊥ × ℕ} (record { place = at; why = NotEnum }) e (sym (ap (λ (r : Read ℕ). r >>= λ k. Err (record { place = at; why = NotEnum })) read) ∙ is) in
    let away : IsTrue (avoids n (Arm number body NoArm)) = rw other refl in
    subst (λ (d : XdrError). IsTrouble d bytes (Choice (Arm number body NoArm)) at) (sym same) (inl (refl, (n, is_word bytes at (n, to) read, away)))
end_trouble number body _ bytes at n to e read other end is = absurd (false≢true end)

optional_stopped : (each : Form) (bytes : List ℕ) (at : ℕ) (e : XdrError) → ((m : ℕ) → m ≤ length bytes → reading each bytes m ≡ Err e → IsStopped each bytes m e)
    → (there : Bool) (m : ℕ) → Stands bytes at (word (flag_word there)) m → optional_at (λ place. reading each bytes place) there m ≡ Err e → IsStopped (Optional each) bytes at e
optional_stopped each bytes at e one false m s is = absurd cc
optional_stopped each bytes at e one true m s is =
    let read : reading each bytes m ≡ Err e = not_err (reading each bytes m) (λ v. (Some v.0, v.1)) e is in
    stopped_second (λ v. spelling each v) (λ v. Fits each v) (λ v k item. IsItemAt each v k item) (λ v. spelling (Optional each) v) (λ v. Fits (Optional each) v) (λ v k item. IsItemAt (Optional each) v k item) (λ v. Some v) bytes at e (word 1) m s
    (λ v fit. fit) (λ v fit. refl) (λ v k item has. inr (k, ap (λ (l : ℕ). l + k) (length-word 1), has)) (one m s.within read)

pub stopped_in : (form : Form) → IsTrue (is_sound form) → IsTrue (is_filled form) → (bytes : List ℕ) → IsBytes bytes → (at : ℕ) (e : XdrError) → at ≤ length bytes → reading form bytes at ≡ Err e → IsStopped form bytes at e
stopped_in Void sound filled bytes fits at e le is = absurd cc
stopped_in Number32 sound filled bytes fits at e le is = word_stopped bytes at e fits le is
stopped_in Number64 sound filled bytes fits at e le is = long_stopped bytes at e fits le is
stopped_in Hyper sound filled bytes fits at e le is = hyper_stopped bytes at e fits le is
stopped_in Boolean sound filled bytes fits at e le is =
    stopped_here (λ v. spelling Boolean v) (λ v. Fits Boolean v) (λ v k item. IsItemAt Boolean v k item) bytes at e false tt le Truth (refl, refl) (flag_trouble bytes at e is)
stopped_in (Enum numbers) sound filled bytes fits at e le is =
    let v = some_value (Enum numbers) filled in
    stopped_here (λ v. spelling (Enum numbers) v) (λ v. Fits (Enum numbers) v) (λ v k item. IsItemAt (Enum numbers) v k item) bytes at e v.0 v.1 le (Choice (Enum numbers)) (refl, refl) (enum_trouble numbers bytes at e is)
stopped_in (Optional each) sound filled bytes fits at e le is =
    elim (bind_err (flag_at bytes at) (λ there. optional_at (λ place. reading each bytes place) there.0 there.1) e is) [
      | inl h ↦ stopped_here (λ v. spelling (Optional each) v) (λ v. Fits (Optional each) v) (λ v k item. IsItemAt (Optional each) v k item) bytes at e None tt le Truth (refl, refl) (flag_trouble bytes at e h)
      | inr h ↦ optional_stopped each bytes at e (λ m within read. stopped_in each sound filled bytes fits m e within read) h.0.0 h.0.1 (flag_takes bytes at h.0.0 h.0.1 fits le h.1) h.2
    ]
stopped_in (Fixed count) sound filled bytes fits at e le is = fixed_stopped (λ text. length text ≡ count) count bytes at e le (λ text len. len) is
stopped_in (Opaque max) sound filled bytes fits at e le is = opaque_stopped max bytes at e fits le is
stopped_in (Text max) sound filled bytes fits at e le is = text_stopped max bytes at e fits le is
stopped_in (Pair first second) sound filled bytes fits at e le is =
    let sounds = and_parts (is_sound first) (is_sound second) sound in
    let both = and_parts (is_filled first) (is_filled second) filled in
    elim (bind_err (reading first bytes at) (λ a. reading second bytes a.1 >>= λ b. Ok ((a.0, b.0), b.1)) e is) [
      | inl h ↦
          let b = some_value second both.1 in
          stopped_first (λ v. spelling first v) (λ v. Fits first v) (λ v k item. IsItemAt first v k item) (λ v. spelling (Pair first second) v) (λ v. Fits (Pair first second) v) (λ v k item. IsItemAt (Pair first second) v k item) (λ a. (a, b.0)) bytes at e
          (λ a. spelling second b.0) (λ a fit. (fit, b.1)) (λ a fit. refl) (λ a k item has. inl has) (stopped_in first sounds.0 both.0 bytes fits at e le h)
      | inr h ↦
          let a = spelled_in first sounds.0 bytes fits at h.0.0 h.0.1 le h.1 in
          stopped_second (λ v. spelling second v) (λ v. Fits second v) (λ v k item. IsItemAt second v k item) (λ v. spelling (Pair first second) v) (λ v. Fits (Pair first second) v) (λ v k item. IsItemAt (Pair first second) v k item) (λ b. (h.0.0, b)) bytes at e
          (spelling first h.0.0) h.0.1 a.1 (λ b fit. (a.0, fit)) (λ b fit. refl) (λ b k item has. inr (k, refl, has))
          (stopped_in second sounds.1 both.1 bytes fits h.0.1 e a.1.within (not_err (reading second bytes h.0.1) (λ b. ((h.0.0, b.0), b.1)) e h.2))
    ]
stopped_in (Array max each) sound filled bytes fits at e le is =
    let sounds = and_parts (ltb max (2 ^ 32)) (is_sound each) sound in
    elim (bind_err (length_at max bytes at) (λ n. many_at (λ place. reading each bytes place) n.0 n.1) e is) [
      | inl h ↦ stopped_here (λ v. spelling (Array max each) v) (λ v. Fits (Array max each) v) (λ v k item. IsItemAt (Array max each) v k item) bytes at e [] (omega arith, tt) le (Length max) (inl (refl, refl)) (length_trouble max bytes at e h)
      | inr h ↦
          let t = length_takes max bytes at h.0.0 h.0.1 fits le h.1 in
          let some = some_value each filled in
          let took : (place : ℕ) (v : Value each) (to : ℕ) → place ≤ length bytes → reading each bytes place ≡ Ok (v, to) → Fits each v × Stands bytes place (spelling each v) to =
          λ place v to within read. spelled_in each sounds.1 bytes fits place v to within read in
          let refused : (place : ℕ) → place ≤ length bytes → reading each bytes place ≡ Err e → IsStopped each bytes place e =
          λ place within read. stopped_in each sounds.1 filled bytes fits place e within read in
          stopped_second (flat_map (λ v. spelling each v)) (Many (λ v. Fits each v) h.0.0) (λ vs k item. IsItemIn (λ v. spelling each v) (λ v i. IsItemAt each v i item) vs k)
          (λ v. spelling (Array max each) v) (λ v. Fits (Array max each) v) (λ v k item. IsItemAt (Array max each) v k item) (λ vs. vs) bytes at e (word h.0.0) h.0.1 t.0
          (λ vs fit. (omega (arith, fit.0, t.1), fit.1)) (λ vs fit. ap (λ (k : ℕ). word k ++ flat_map (λ v. spelling each v) vs) fit.0)
          (λ vs k item has. inr (k, ap (λ (l : ℕ). l + k) (length-word h.0.0), has))
          (many_stopped (λ place. reading each bytes place) (λ v. spelling each v) (λ v. Fits each v) (λ v k item. IsItemAt each v k item) some.0 bytes e some.1 took refused h.0.0 h.0.1 t.0.within h.2)
    ]
stopped_in (Arm number body others) sound filled bytes fits at e le is =
    let sounds = sound_case number body others sound in
    let both = and_parts (is_filled body) (is_end others || is_filled others) filled in
    let v = some_value body both.0 in
    elim (bind_err (number_at w32 bytes at) (λ n. arm_at (eqb n.0 number) (reading body bytes n.1) (reading others bytes at)) e is) [
      | inl h ↦
          stopped_here (λ v. spelling (Arm number body others) v) (λ v. Fits (Arm number body others) v) (λ v k item. IsItemAt (Arm number body others) v k item) bytes at e (inl v.0) v.1 le (Choice (Arm number body others)) (inl (refl, refl))
          (inr (word_cut bytes at e h))
      | inr n ↦
          let t = word_takes bytes at n.0.0 n.0.1 fits le n.1 in
          elim (case_err (eqb n.0.0 number) (reading body bytes n.0.1) (reading others bytes at) e n.2) [
            | inl h ↦
                let front : Stands bytes at (word number) n.0.1 = subst (λ (k : ℕ). Stands bytes at (word k) n.0.1) (eqb-true n.0.0 number h.0) t.0 in
                stopped_second (λ v. spelling body v) (λ v. Fits body v) (λ v k item. IsItemAt body v k item) (λ v. spelling (Arm number body others) v) (λ v. Fits (Arm number body others) v) (λ v k item. IsItemAt (Arm number body others) v k item) (λ v. inl v) bytes at e
                (word number) n.0.1 front (λ v fit. fit) (λ v fit. refl) (λ v k item has. inr (k, ap (λ (l : ℕ). l + k) (length-word number), has)) (stopped_in body sounds.2 both.0 bytes fits n.0.1 e t.0.within h.1)
            | inr h ↦
                elim (or_cases (is_end others) (is_filled others) both.1) [
                  | inl end ↦
                      stopped_here (λ v. spelling (Arm number body others) v) (λ v. Fits (Arm number body others) v) (λ v k item. IsItemAt (Arm number body others) v k item) bytes at e (inl v.0) v.1 le (Choice (Arm number body others)) (inl (refl, refl))
                      (end_trouble number body others bytes at n.0.0 n.0.1 e n.1 h.0 end h.1)
                  | inr more ↦ other_stopped number body others bytes at n.0.0 n.0.1 e n.1 t.0 h.0 sounds.1 (stopped_in others sounds.3 more bytes fits at e le h.1)
                ]
          ]
    ]
stopped_in NoArm sound filled bytes fits at e le is = absurd (false≢true filled)
stopped_in (Default numbers) sound filled bytes fits at e le is =
    let v = some_value (Default numbers) filled in
    stopped_here (λ v. spelling (Default numbers) v) (λ v. Fits (Default numbers) v) (λ v k item. IsItemAt (Default numbers) v k item) bytes at e v.0 v.1 le (Choice (Default numbers)) (refl, refl) (default_trouble numbers bytes at e is)
