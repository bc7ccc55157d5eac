-- A data file where nothing strayed and all that was sent is covered has the bytes from before with all that was sent.
use Rattle.std.proofs.Common.{◌≡◌, ℕ, ◌+◌, ◌-◌, ◌<◌, ◌≤◌, List, [], ◌∷◌, ◌++◌, length, refl, sym, ap, subst, ◌∙◌, arith, ◌⊎◌, inl, inr, append-nil}
use Rattle.std.specs.List.{AllByRecursion}
use Rattle.std.proofs.lemmas.Grind.{same_number_lists}
use Rattle.cluster_model.specs.Content.{Pending, overlay, overlay_all, shown_of}
use Rattle.cluster_model.specs.Laws.{byte_at}
use Rattle.cluster_laws.specs.Agreement.{covers, IsByteOfOne, ArePairwiseDisjoint, IsNoChange, Has}
use Rattle.cluster_laws.specs.Holders.{IsIn}
use Rattle.cluster_laws.specs.Keeping.{MirrorTrace}
use Rattle.cluster_laws.proofs.Putting.{AllBytes, Gives, past_end, put_all, all_longer, is_at, byte_of, in_left, all_in, all_of_in, covered_or_not}
use Rattle.sound_journals.proofs.Holding.{IsOf, IsBy, IsNew, IsBeyond, StandsWith, IsKnown, IsHeld, some_shorter, stands_all, stands_itself, new_gives, shown_of_bytes, shown_least, shown_up, shown_stands}

module _ (base : List ℕ) (sent : List Pending) where
  pub record IsWhole (bytes : List ℕ) : Type 0 where
    pub least : length base ≤ length bytes
    pub up : (n : ℕ) → IsBeyond base sent [] n → length bytes ≤ n
    pub of : AllBytes (IsOf base sent []) bytes
    pub stands : (w : Pending) → IsIn w sent → StandsWith [] w bytes

  none_rogue : (place byte : ℕ) → IsByteOfOne [] place byte → ⊥
  none_rogue place byte b = absurd cc

  beyond_whole : (bytes : List ℕ) → IsWhole bytes → IsBeyond base sent [] (length bytes)
  beyond_whole bytes h = record { base_is = h.least; writes_are = ends }
    where
      ends : (w : Pending) → IsNew sent [] w → 0 < length w.bytes → w.at + length w.bytes ≤ length bytes
      ends w (inl is) some = let last = (h.stands w is).within (w.at + length w.bytes - 1) (omega (arith, some), omega (arith, some)) in omega (arith, some, last)
      ends w (inr wrong) some = absurd wrong

  whole_length : (a b : List ℕ) → IsWhole a → IsWhole b → length a ≡ length b
  whole_length a b h g =
      let one = h.up (length b) (beyond_whole b g) in
      let two = g.up (length a) (beyond_whole a h) in
      omega (arith, one, two)

  byte_is : (w : Pending) (place byte : ℕ) → IsBy [] w place byte → covers w place → byte ≡ byte_at w.bytes (place - w.at)
  byte_is w place byte h c = from (h c)
    where
      from : (byte ≡ byte_at w.bytes (place - w.at)) ⊎ IsByteOfOne [] place byte → byte ≡ byte_at w.bytes (place - w.at)
      from (inl e) = e
      from (inr b) = absurd (none_rogue place byte b)

  byte_old : (place byte : ℕ) → IsOf base sent [] place byte → ((w : Pending) → IsIn w sent → covers w place → ⊥) → byte ≡ byte_at base place
  byte_old place byte (inl e) none = e
  byte_old place byte (inr b) none = absurd (none b.1 (subst (IsIn b.1) (append-nil sent) (is_at (sent ++ []) b.0 b.1 b.2)) b.3)

  pub one_whole : (a b : List ℕ) → IsWhole a → IsWhole b → a ≡ b
  one_whole a b h g =
      let same : length a ≡ length b = whole_length a b h g in
      same_number_lists a b same (λ place less. at_place place less (omega (arith, less, same)))
    where
      at_place : (place : ℕ) → place < length a → place < length b → byte_at a place ≡ byte_at b place
      at_place place less also =
          elim (covered_or_not sent place) [
            | inl found ↦ byte_is found.0 place (byte_at a place) ((h.stands found.0 found.1).by place less) found.2
                ∙ sym (byte_is found.0 place (byte_at b place) ((g.stands found.0 found.1).by place also) found.2)
            | inr none ↦ byte_old place (byte_at a place) (h.of place less) none ∙ sym (byte_old place (byte_at b place) (g.of place also) none)
          ]

  module _ (apart : ArePairwiseDisjoint sent) where
    placed : (ws : List Pending) (old : List ℕ) → ((v : Pending) → IsIn v ws → IsIn v sent) → (w : Pending) → IsIn w ws → StandsWith [] w (overlay_all old ws)
    placed [] old among w is = absurd is
    placed (v ∷ ws) old among w (inl same) =
        subst (λ (x : Pending). StandsWith [] x (overlay_all (overlay old v.at v.bytes) ws)) same
        (stands_all [] v ws (overlay old v.at v.bytes) (stands_itself [] v old)
        (all_of_in (Gives (IsBy [] v)) ws (λ x is. new_gives sent [] apart v x (among v (inl refl)) (inl (among x (inr is))))))
    placed (v ∷ ws) old among w (inr rest) = placed ws (overlay old v.at v.bytes) (λ x is. among x (inr is)) w rest

    pub all_whole : IsWhole (overlay_all base sent)
    all_whole = record {
      least = all_longer sent base;
      up = λ n beyond. some_shorter sent base n beyond.base_is (λ w is some. beyond.writes_are w (inl is) some);
      of = put_all (IsOf base sent []) sent base (λ place less. inl refl) (all_of_in (Gives (IsOf base sent [])) sent (λ w is place c. inr (byte_of w (sent ++ []) place (in_left w sent [] is) c)))
          (λ k past. inl (sym (past_end base k past)));
      stands = λ w is. placed sent base (λ v among. among) w is;
    }

    -- a write that has such bytes changes nothing
    no_change : (v : Pending) → IsKnown base sent [] v → ((w : Pending) → IsIn w sent → Gives (IsBy [] w) v) → IsNoChange (overlay_all base sent) v
    no_change v known over =
        let whole : IsWhole (overlay_all base sent) = all_whole in
        let within = known.ends (length (overlay_all base sent)) (beyond_whole (overlay_all base sent) whole) in
        (within, λ place less. at_place whole place less (omega (arith, less, within)))
      where
        covered_there : (place : ℕ) → place < length v.bytes → covers v (v.at + place)
        covered_there place less = (omega (arith), omega (arith, less))

        at_place : IsWhole (overlay_all base sent) → (place : ℕ) → place < length v.bytes → v.at + place < length (overlay_all base sent) → byte_at v.bytes place ≡ byte_at (overlay_all base sent) (v.at + place)
        at_place whole place less also =
            let back : v.at + place - v.at ≡ place = omega arith in
            ap (byte_at v.bytes) (sym back) ∙ elim (covered_or_not sent (v.at + place)) [
              | inl found ↦ byte_is found.0 (v.at + place) (byte_at v.bytes (v.at + place - v.at)) (over found.0 found.1 (v.at + place) (covered_there place less)) found.2
                  ∙ sym (byte_is found.0 (v.at + place) (byte_at (overlay_all base sent) (v.at + place)) ((whole.stands found.0 found.1).by (v.at + place) also) found.2)
              | inr none ↦ byte_old (v.at + place) (byte_at v.bytes (v.at + place - v.at)) (known.gives (v.at + place) (covered_there place less)) none
                  ∙ sym (byte_old (v.at + place) (byte_at (overlay_all base sent) (v.at + place)) (whole.of (v.at + place) also) none)
            ]

    no_changes : (vs : List Pending) → AllByRecursion (IsKnown base sent []) vs → ((w : Pending) → IsIn w sent → AllByRecursion (Gives (IsBy [] w)) vs) → AllByRecursion (IsNoChange (overlay_all base sent)) vs
    no_changes [] known over = tt
    no_changes (v ∷ vs) known over = (no_change v known.0 (λ w is. (over w is).0), no_changes vs known.1 (λ w is. (over w is).1))

  pub held_whole : (k : MirrorTrace) → IsHeld base sent [] k → AllByRecursion (λ w. IsIn w k.covered) sent → Has (overlay_all base sent) k.content
  held_whole k h all = record {
    shown = one_whole (shown_of k.content) (overlay_all base sent)
        (record { least = shown_least base sent [] k h; up = shown_up base sent [] k h; of = shown_of_bytes base sent [] k h; stands = λ w is. shown_stands base sent [] k h w is (inr (by_all w is)) })
        (all_whole h.apart);
    stable = one_whole k.content.stable (overlay_all base sent) (record { least = h.least; up = h.up; of = h.bytes; stands = λ w is. h.covered w is (by_all w is) }) (all_whole h.apart);
    pending = no_changes h.apart k.content.pending h.pending (λ w is. h.over w is (by_all w is));
  }
    where
      by_all : (w : Pending) → IsIn w sent → IsIn w k.covered
      by_all w is = all_in (λ v. IsIn v k.covered) sent w all is
