-- What holds of opens in every run.
use Rattle.std.proofs.Common.{◌≡◌, ◌⊎◌, inl, inr, ℕ, ◌+◌, ◌<◌, ◌≤◌, Bool, true, false, cond, eqb, List, [], ◌∷◌, ◌++◌, length, map, filter, Option, Some, None, Ok, Err, refl, sym, ap, subst, ◌∙◌, arith}
use Rattle.std.specs.Prelude.{find}
use Rattle.std.specs.Option.{option_map}
use Rattle.std.proofs.lemmas.Bool.{eqb-true, eqb-false, cases_eq, cond_both}
use Rattle.std.proofs.lemmas.List.{length-append, length-map}
use Rattle.std.proofs.lemmas.Option.{same_Some, none-some}
use Rattle.cluster_model.specs.declared.ids.FileId.{FileId}
use Rattle.open_state.specs.declared.open.Open.{Open}
use Rattle.open_state.specs.Opens.{OpensValue, opens_of, open_of, is_of, again, next_seqid, in_place, is_other, ClosesOpen, ended as value_ended}
use Rattle.open_state.specs.OneClient.{HasOpens}
use Rattle.open_state.specs.OpensLaws.{OpenNote, WasOpened, WasClosed, HasEnded, IsRun, Begins, HasOpened, WasRefused, HasClosed, HadNone, Ended, standing, was_given, stands_as}
use Rattle.open_state.proofs.Finds.{same_file, passes, length_kept, put_here, put_other, push_here, push_other, cut_here, cut_other}
use Rattle.open_state.proofs.Values.{all_kept}
use Rattle.open_state.proofs.OneClient.{closes_has, ends_has}
use Rattle.open_state.proofs.Came.{Came, AsBefore, AsNew, came, stayed}
use Rattle.open_state.proofs.Notes.{shown, always, was_or_is, is_given, still_given, stands_or_is, stood, stands_so}

-- of an open that stands: its number was given for its client and its file, and its seqid is none of 0
pub record IsSound (c : ℕ) (f : FileId) (notes : List OpenNote) (o : Open) : Type 0 where
  pub given : was_given c f o.number notes ≡ true
  pub low : 1 ≤ o.seqid
  pub high : o.seqid ≤ 4294967295

-- of the open that was opened last
pub record IsProper (c : ℕ) (o : Open) (notes : List OpenNote) : Type 0 where
  pub once : was_given c o.file o.number notes ≡ true → stands_as o.number (standing c o.file notes) ≡ true
  pub first : 1 ≤ o.number
  pub last : o.number ≤ 4294967295
  pub low : 1 ≤ o.seqid
  pub high : o.seqid ≤ 4294967295

abbrev pub IsHead : List OpenNote → Type 0
IsHead [] = Unit {0}
IsHead (WasOpened c o ∷ notes) = IsProper c o notes
IsHead (WasClosed c o ∷ notes) = Unit {0}
IsHead (HasEnded c ∷ notes) = Unit {0}

pub record Good (s : OpensValue) (notes : List OpenNote) : Type 0 where
  pub stands : (c : ℕ) (f : FileId) → open_of s c f ≡ standing c f notes
  pub few : (c : ℕ) → length (opens_of s c) ≤ 64
  pub last : s.last ≤ 4294967295
  pub known : (c : ℕ) (f : FileId) (n : ℕ) → was_given c f n notes ≡ true → (1 ≤ n) × (n ≤ s.last)
  pub apart : (c d : ℕ) (f g : FileId) (n : ℕ) → was_given c f n notes ≡ true → was_given d g n notes ≡ true → (c ≡ d) × (f ≡ g)
  pub sound : (c : ℕ) (f : FileId) (o : Open) → standing c f notes ≡ Some o → IsSound c f notes o
  pub head : IsHead notes

-- one client's opens have become fewer, or as many
few_with : (old new : OpensValue) (client : ℕ) (opens : List Open) → HasOpens old client opens new → ((c : ℕ) → length (opens_of old c) ≤ 64) → length opens ≤ 64 → (c : ℕ) → length (opens_of new c) ≤ 64
few_with old new client opens has few its c = by_case (eqb c client) refl
  where
    by_case : (b : Bool) → eqb c client ≡ b → length (opens_of new c) ≤ 64
    by_case true same =
        let now : opens_of new c ≡ opens = ap (opens_of new) (eqb-true c client same) ∙ has.its in
        omega (arith, ap length now, its)
    by_case false other = omega (arith, ap length (has.others c other), few c)

next_low : (n : ℕ) → 1 ≤ next_seqid n
next_low n = cond_both (eqb n 4294967295) 1 (n + 1) (λ k. 1 ≤ k) (λ last. omega arith) (λ more. omega arith)

next_high : (n : ℕ) → n ≤ 4294967295 → next_seqid n ≤ 4294967295
next_high n high =
    cond_both (eqb n 4294967295) 1 (n + 1) (λ k. k ≤ 4294967295)
    (λ last. omega arith)
    (λ more. by_order (cases_eq n 4294967295) more)
  where
    by_order : (n ≡ 4294967295) ⊎ (n ≡ 4294967295 → ⊥) → eqb n 4294967295 ≡ false → n + 1 ≤ 4294967295
    by_order (inl same) more = absurd (eqb-false n 4294967295 more same)
    by_order (inr other) more = omega (arith, other, high)

pub begins : Good (record { clients = []; last = 0 }) []
begins = record {
  stands = λ c f. refl;
  few = λ c. omega arith;
  last = omega arith;
  known = λ c f n given. absurd (cc (given));
  apart = λ c d f g n one other. absurd (cc (one));
  sound = λ c f o is. absurd (none-some o is);
  head = tt;
}

-- ---- OPEN

module _ (old new : OpensValue) (notes : List OpenNote) (client : ℕ) (file : FileId) (o : Open) (good : Good old notes) where
  -- an open that stands behind this one is it, or stood before
  sound_with : 1 ≤ o.seqid → o.seqid ≤ 4294967295 → (c : ℕ) (f : FileId) (x : Open) → ((client ≡ c) × (o.file ≡ f) × (o ≡ x)) ⊎ (standing c f notes ≡ Some x) → IsSound c f (WasOpened client o ∷ notes) x
  sound_with low high c f x (inl now) = record {
    given = sym (λ i. was_given (now.0 i) (now.1 i) (now.2 i).number (WasOpened client o ∷ notes)) ∙ is_given client o notes;
    low = subst (λ (y : Open). 1 ≤ y.seqid) now.2 low;
    high = subst (λ (y : Open). y.seqid ≤ 4294967295) now.2 high;
  }
  sound_with low high c f x (inr stood) =
      let s = good.sound c f x stood in record { given = still_given c f x.number client o notes s.given; low = s.low; high = s.high }

  opened_before : (was : Open) → open_of old client file ≡ Some was → o ≡ again was → HasOpens old client (map (in_place o) (opens_of old client)) new → new.last ≡ old.last → Good new (WasOpened client o ∷ notes)
  opened_before was is does has same =
      let own : was.file ≡ file = same_file file was (passes (is_of file) (opens_of old client) was is) in
      let its : o.file ≡ was.file = ap (λ (x : Open). x.file) does in
      let number : o.number ≡ was.number = ap (λ (x : Open). x.number) does in
      let here : find (is_of o.file) (opens_of old client) ≡ Some was = ap (λ (f : FileId). find (is_of f) (opens_of old client)) (its ∙ own) ∙ is in
      let stood : standing client o.file notes ≡ Some was = sym (good.stands client o.file) ∙ here in
      let was_sound = good.sound client o.file was stood in
      let was_its : was_given client o.file o.number notes ≡ true = ap (λ n. was_given client o.file n notes) number ∙ was_sound.given in
      let seqid : o.seqid ≡ next_seqid was.seqid = ap (λ (x : Open). x.seqid) does in
      let low : 1 ≤ o.seqid = subst (λ k. 1 ≤ k) (sym seqid) (next_low was.seqid) in
      let high : o.seqid ≤ 4294967295 = subst (λ k. k ≤ 4294967295) (sym seqid) (next_high was.seqid was_sound.high) in
      let bounds = good.known client o.file o.number was_its in
      let before : (c : ℕ) (f : FileId) (n : ℕ) → was_given c f n (WasOpened client o ∷ notes) ≡ true → was_given c f n notes ≡ true =
      λ c f n given. earlier was_its c f n (was_or_is c f n client o notes given) in
      record {
        stands = shown old new notes client (Some o) (λ f. is_of f o) (map (in_place o) (opens_of old client)) has
            (λ f this. subst (λ (g : FileId). find (is_of g) (map (in_place o) (opens_of old client)) ≡ Some o) (same_file f o this) (put_here o was (opens_of old client) here))
            (λ f other. put_other o f (opens_of old client) other)
            good.stands;
        few = few_with old new client _ has good.few (omega (arith, length-map (opens_of old client) (in_place o), good.few client));
        last = omega (arith, same, good.last);
        known = λ c f n given. let k = good.known c f n (before c f n given) in (k.0, omega (arith, k.1, same));
        apart = λ c d f g n one other. good.apart c d f g n (before c f n one) (before d g n other);
        sound = λ c f x now. sound_with low high c f x (stands_or_is c f x client o notes now);
        head = record {
          once = λ given. stands_so o.number _ was stood (sym number);
          first = bounds.0;
          last = omega (arith, bounds.1, good.last);
          low = low;
          high = high;
        };
      }
    where
      earlier : was_given client o.file o.number notes ≡ true → (c : ℕ) (f : FileId) (n : ℕ) → ((client ≡ c) × (o.file ≡ f) × (o.number ≡ n)) ⊎ (was_given c f n notes ≡ true) → was_given c f n notes ≡ true
      earlier its c f n (inl now) = sym (λ i. was_given (now.0 i) (now.1 i) (now.2 i) notes) ∙ its
      earlier its c f n (inr given) = given

  opened_new : open_of old client file ≡ None → length (opens_of old client) < 64 → (old.last ≡ 4294967295 → ⊥) → o ≡ record { file = file; number = old.last + 1; seqid = 1 }
      → HasOpens old client (opens_of old client ++ o ∷ []) new → new.last ≡ old.last + 1 → Good new (WasOpened client o ∷ notes)
  opened_new none few left does has more =
      let its : o.file ≡ file = ap (λ (x : Open). x.file) does in
      let number : o.number ≡ old.last + 1 = ap (λ (x : Open). x.number) does in
      let seqid : o.seqid ≡ 1 = ap (λ (x : Open). x.seqid) does in
      let here : find (is_of o.file) (opens_of old client) ≡ None = ap (λ (f : FileId). find (is_of f) (opens_of old client)) its ∙ none in
      let low : 1 ≤ o.seqid = omega (arith, seqid) in
      let high : o.seqid ≤ 4294967295 = omega (arith, seqid) in
      let size : length (opens_of old client ++ o ∷ []) ≡ length (opens_of old client) + 1 = length-append (opens_of old client) (o ∷ []) in
      record {
        stands = shown old new notes client (Some o) (λ f. is_of f o) (opens_of old client ++ o ∷ []) has
            (λ f this. subst (λ (g : FileId). find (is_of g) (opens_of old client ++ o ∷ []) ≡ Some o) (same_file f o this) (push_here o (opens_of old client) here))
            (λ f other. push_other o f (opens_of old client) other)
            good.stands;
        few = few_with old new client _ has good.few (omega (arith, size, few));
        last = omega (arith, more, left, good.last);
        known = λ c f n given. known_with number more c f n (was_or_is c f n client o notes given);
        apart = λ c d f g n one other. apart_with number c d f g n (was_or_is c f n client o notes one) (was_or_is d g n client o notes other);
        sound = λ c f x now. sound_with low high c f x (stands_or_is c f x client o notes now);
        head = record {
          once = λ given. let k = good.known client o.file o.number given in absurd (omega (arith, k.1, number));
          first = omega (arith, number);
          last = omega (arith, number, left, good.last);
          low = low;
          high = high;
        };
      }
    where
      known_with : o.number ≡ old.last + 1 → new.last ≡ old.last + 1 → (c : ℕ) (f : FileId) (n : ℕ) → ((client ≡ c) × (o.file ≡ f) × (o.number ≡ n)) ⊎ (was_given c f n notes ≡ true) → (1 ≤ n) × (n ≤ new.last)
      known_with number more c f n (inl now) = (omega (arith, number, now.2), omega (arith, number, now.2, more))
      known_with number more c f n (inr given) = let k = good.known c f n given in (k.0, omega (arith, k.1, more))

      apart_with : o.number ≡ old.last + 1 → (c d : ℕ) (f g : FileId) (n : ℕ) → ((client ≡ c) × (o.file ≡ f) × (o.number ≡ n)) ⊎ (was_given c f n notes ≡ true) → ((client ≡ d) × (o.file ≡ g) × (o.number ≡ n)) ⊎ (was_given d g n notes ≡ true) → (c ≡ d) × (f ≡ g)
      apart_with number c d f g n (inl one) (inl other) = (sym one.0 ∙ other.0, sym one.1 ∙ other.1)
      apart_with number c d f g n (inl one) (inr given) = let k = good.known d g n given in absurd (omega (arith, k.1, one.2, number))
      apart_with number c d f g n (inr given) (inl other) = let k = good.known c f n given in absurd (omega (arith, k.1, other.2, number))
      apart_with number c d f g n (inr one) (inr other) = good.apart c d f g n one other

  pub opened : Came old client file o new → Good new (WasOpened client o ∷ notes)
  opened (AsBefore was is does has same) = opened_before was is does has same
  opened (AsNew none few left does has more) = opened_new none few left does has more

-- ---- CLOSE, and a client's end

mapped : (r : Option Open) (o : Open) → Some o ≡ option_map again r → (was : Open) × (r ≡ Some was) × (o ≡ again was)
mapped None o is = absurd (none-some o (sym is))
mapped (Some was) o is = (was, refl, same_Some o (again was) is)

unmapped : (r : Option Open) → None ≡ option_map again r → r ≡ None
unmapped None is = refl
unmapped (Some was) is = absurd (none-some (again was) is)

module _ (old new : OpensValue) (notes : List OpenNote) (client : ℕ) (good : Good old notes) where
  pub closed : (file : FileId) (o : Open) → ClosesOpen old client file (Some o) new → Good new (WasClosed client o ∷ notes)
  closed file o did =
      let w = mapped (open_of old client file) o did.told in
      let own : w.0.file ≡ file = same_file file w.0 (passes (is_of file) (opens_of old client) w.0 w.1) in
      let its : o.file ≡ file = ap (λ (x : Open). x.file) w.2 ∙ own in
      let has : HasOpens old client (filter (is_other o.file) (opens_of old client)) new =
      subst (λ (f : FileId). HasOpens old client (filter (is_other f) (opens_of old client)) new) (sym its) (closes_has old new client file (Some o) did) in
      let last : new.last ≡ old.last = ap (λ (s : OpensValue). s.last) did.leaves in
      record {
        stands = shown old new notes client None (λ f. is_of f o) (filter (is_other o.file) (opens_of old client)) has
            (λ f this. subst (λ (g : FileId). find (is_of g) (filter (is_other o.file) (opens_of old client)) ≡ None) (same_file f o this) (cut_here o.file (opens_of old client)))
            (λ f other. cut_other o f (opens_of old client) other)
            good.stands;
        few = few_with old new client _ has good.few (omega (arith, length_kept (is_other o.file) (opens_of old client), good.few client));
        last = omega (arith, last, good.last);
        known = λ c f n given. let k = good.known c f n given in (k.0, omega (arith, k.1, last));
        apart = good.apart;
        sound = λ c f x now. let s = good.sound c f x (stood _ (standing c f notes) x now) in record { given = s.given; low = s.low; high = s.high };
        head = tt;
      }

  pub had_none : (file : FileId) → ClosesOpen old client file None new → Good new notes
  had_none file did =
      let none : open_of old client file ≡ None = unmapped (open_of old client file) did.told in
      let has = closes_has old new client file None did in
      let last : new.last ≡ old.last = ap (λ (s : OpensValue). s.last) did.leaves in
      let its : opens_of new client ≡ opens_of old client = has.its ∙ all_kept file (opens_of old client) none in
      record {
        stands = λ c f. ap (find (is_of f)) (same_at its has.others c (eqb c client) refl) ∙ good.stands c f;
        few = λ c. omega (arith, ap length (same_at its has.others c (eqb c client) refl), good.few c);
        last = omega (arith, last, good.last);
        known = λ c f n given. let k = good.known c f n given in (k.0, omega (arith, k.1, last));
        apart = good.apart;
        sound = good.sound;
        head = good.head;
      }
    where
      same_at : opens_of new client ≡ opens_of old client → ((k : ℕ) → eqb k client ≡ false → opens_of new k ≡ opens_of old k) → (c : ℕ) (b : Bool) → eqb c client ≡ b → opens_of new c ≡ opens_of old c
      same_at its others c true same = ap (opens_of new) (eqb-true c client same) ∙ its ∙ ap (opens_of old) (sym (eqb-true c client same))
      same_at its others c false other = others c other

  pub ended : new ≡ value_ended old client → Good new (HasEnded client ∷ notes)
  ended did =
      let has = ends_has old new client did in
      let last : new.last ≡ old.last = ap (λ (s : OpensValue). s.last) did in
      record {
        stands = λ c f. shown old new notes client None (λ g. true) [] has (λ g this. refl) (λ g other. absurd (cc (other))) good.stands c f ∙ ap (λ b. cond b None (standing c f notes)) (always (eqb client c));
        few = few_with old new client [] has good.few (omega arith);
        last = omega (arith, last, good.last);
        known = λ c f n given. let k = good.known c f n given in (k.0, omega (arith, k.1, last));
        apart = good.apart;
        sound = λ c f x now. let s = good.sound c f x (stood (eqb client c) (standing c f notes) x now) in record { given = s.given; low = s.low; high = s.high };
        head = tt;
      }

pub good : (s : OpensValue) (notes : List OpenNote) → IsRun s notes → Good s notes
good s notes Begins = begins
good s notes (HasOpened old new before client file o run did) = opened old new before client file o (good old before run) (came old client file (Ok o) new did o refl)
good s notes (WasRefused old new before client file fault run did) = subst (λ t. Good t before) (sym (stayed old client file (Err fault) new did fault refl)) (good old before run)
good s notes (HasClosed old new before client file o run did) = closed old new before client (good old before run) file o did
good s notes (HadNone old new before client file run did) = had_none old new before client (good old before run) file did
good s notes (Ended old new before client run did) = ended old new before client (good old before run) did
