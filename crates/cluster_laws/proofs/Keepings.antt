-- What a mirror keeps of a period's writes, turn by turn.
use Rattle.std.proofs.Common.{◌≡◌, ℕ, ◌+◌, ◌-◌, ◌<◌, ◌≤◌, List, [], ◌∷◌, ◌++◌, length, max, refl, sym, ap, subst, ◌∙◌, arith, ◌⊎◌, inl, inr, append-nil}
use Rattle.std.specs.List.{AllByRecursion}
use Rattle.std.proofs.lemmas.Grind.{same_number_lists}
use Rattle.cluster_model.specs.declared.piece.Piece.{Piece}
use Rattle.cluster_model.specs.Content.{Pending, Content, overlay, overlay_all, shown_of, joined, kept_of}
use Rattle.cluster_model.specs.Laws.{byte_at}
use Rattle.cluster_model.proofs.Placing.{length-overlay-ge, length-overlay-end, overlay_all_push}
use Rattle.cluster_laws.specs.Agreement.{covers, IsByteOfOne, furthest_end, ArePairwiseDisjoint, IsNoChange, Has}
use Rattle.cluster_laws.specs.Holders.{IsIn}
use Rattle.cluster_laws.specs.Keeping.{MirrorTurn, Applies, Commits, Loses, MirrorTrace, kept_from, after_turn, after_turns, IsTurnOf, KeepsWrites, KeepsAlways, KeepsAll}
use Rattle.cluster_laws.proofs.Lists.{all_append, all_more}
use Rattle.cluster_laws.proofs.Putting.{AllBytes, Gives, EndsBy, past_end, put_one, put_all, all_longer, all_shorter, ends_furthest, furthest_by, in_left, in_right, in_either, is_at, byte_of, all_in, all_of_in, same_or_apart, covered_or_not, kept_gives, kept_ends, inside}

module _ (base : List ℕ) (sent rogue : List Pending) (apart : ArePairwiseDisjoint sent) (sent_some : AllByRecursion (λ w. 0 < length w.bytes) sent) (rogue_some : AllByRecursion (λ w. 0 < length w.bytes) rogue) where
  -- one from before, or a written one
  abbrev pub IsOf : ℕ → ℕ → Type 0
  IsOf place byte = (byte ≡ byte_at base place) ⊎ IsByteOfOne (sent ++ rogue) place byte

  -- a byte at a place that a write has is that write's, or strayed
  abbrev pub IsBy : Pending → ℕ → ℕ → Type 0
  IsBy w place byte = covers w place → (byte ≡ byte_at w.bytes (place - w.at)) ⊎ IsByteOfOne rogue place byte

  abbrev pub IsNew : Pending → Type 0
  IsNew v = IsIn v sent ⊎ IsIn v rogue

  abbrev pub IsKnown : Pending → Type 0
  IsKnown v = IsNoChange base v ⊎ IsNew v

  abbrev pub most : ℕ
  most = max (length base) (furthest_end (sent ++ rogue))

  new_in : (v : Pending) → IsNew v → IsIn v (sent ++ rogue)
  new_in v (inl is) = in_left v sent rogue is
  new_in v (inr is) = in_right v sent rogue is

  new_some : (v : Pending) → IsNew v → 0 < length v.bytes
  new_some v (inl is) = all_in (λ w. 0 < length w.bytes) sent v sent_some is
  new_some v (inr is) = all_in (λ w. 0 < length w.bytes) rogue v rogue_some is

  known_gives : (v : Pending) → IsKnown v → Gives IsOf v
  known_gives v (inl same) place c =
      let low = c.0 in
      let high = c.1 in
      let e : v.at + (place - v.at) ≡ place = omega (arith, low) in
      inl (same.1 (place - v.at) (omega (arith, low, high)) ∙ ap (byte_at base) e)
  known_gives v (inr new) place c = inr (byte_of v (sent ++ rogue) place (new_in v new) c)

  known_ends : (v : Pending) → IsKnown v → EndsBy most v
  known_ends v (inl same) = let up = same.0 in omega (arith, up)
  known_ends v (inr new) = let up = ends_furthest (sent ++ rogue) v (new_in v new) in omega (arith, up)

  new_known : (v : Pending) → IsNew v → IsKnown v
  new_known v new = inr new

  of_zero : (k : ℕ) → length base ≤ k → IsOf k 0
  of_zero k past = inl (sym (past_end base k past))

  -- another write leaves what a write has
  new_gives : (w v : Pending) → IsIn w sent → IsNew v → Gives (IsBy w) v
  new_gives w v is (inl also) place c d =
      elim (same_or_apart sent apart v w also is) [
        | inl same ↦ inl (ap (λ (x : Pending). byte_at x.bytes (place - x.at)) same)
        | inr far ↦ absurd (not_both far)
      ]
    where
      not_both : (v.at + length v.bytes ≤ w.at) ⊎ (w.at + length w.bytes ≤ v.at) → ⊥
      not_both (inl before) = let a = c.1 in let b = d.0 in absurd (omega (arith, before, a, b))
      not_both (inr behind) = let a = c.0 in let b = d.1 in absurd (omega (arith, behind, a, b))
  new_gives w v is (inr strayed) place c d = inr (byte_of v rogue place strayed c)

  -- a write stands in some bytes, but for what strayed
  pub record Stands (w : Pending) (bytes : List ℕ) : Type 0 where
    pub within : w.at + length w.bytes ≤ length bytes
    pub has : AllBytes (IsBy w) bytes

  stands_one : (w : Pending) (old : List ℕ) (v : Pending) → IsIn w sent → Stands w old → IsNew v → Stands w (overlay old v.at v.bytes)
  stands_one w old v is h new =
      let within = h.within in
      let up = length-overlay-ge old v.at v.bytes in
      record { within = omega (arith, within, up); has = put_one (IsBy w) old v h.has (new_gives w v is new) (λ k past c. let high = c.1 in absurd (omega (arith, past, within, high))) }

  stands_all : (w : Pending) (vs : List Pending) (old : List ℕ) → IsIn w sent → Stands w old → AllByRecursion (Gives (IsBy w)) vs → Stands w (overlay_all old vs)
  stands_all w vs old is h gives =
      let within = h.within in
      let up = all_longer vs old in
      record { within = omega (arith, within, up); has = put_all (IsBy w) vs old h.has gives (λ k past c. let high = c.1 in absurd (omega (arith, past, within, high))) }

  stands_itself : (w : Pending) (old : List ℕ) → 0 < length w.bytes → Stands w (overlay old w.at w.bytes)
  stands_itself w old some = record { within = length-overlay-end old w.at w.bytes some; has = λ place less c. inl (inside old w place c) }

  -- ---- a mirror

  pub record IsKeeping (k : MirrorTrace) : Type 0 where
    pub least : length base ≤ length k.content.stable
    pub up : length k.content.stable ≤ most
    pub bytes : AllBytes IsOf k.content.stable
    pub pending : AllByRecursion IsKnown k.content.pending
    pub fresh : (k.covered ≡ []) ⊎ AllByRecursion IsNew k.content.pending
    pub here : (w : Pending) → IsIn w sent → IsIn w k.here → Stands w (shown_of k.content)
    pub covered : (w : Pending) → IsIn w sent → IsIn w k.covered → Stands w k.content.stable

  pub begins : (c : Content) → Has base c → IsKeeping (kept_from c)
  begins c h = record {
    least = let same = ap length h.stable in omega (arith, same);
    up = let same = ap length h.stable in omega (arith, same);
    bytes = λ place less. inl (ap (λ (bs : List ℕ). byte_at bs place) h.stable);
    pending = all_more (IsNoChange base) IsKnown c.pending (λ v k. inl k) h.pending;
    fresh = inl refl;
    here = λ w is in_none. absurd in_none;
    covered = λ w is in_none. absurd in_none;
  }

  -- what is shown
  shown_bytes : (k : MirrorTrace) → IsKeeping k → AllBytes IsOf (shown_of k.content)
  shown_bytes k h = let least = h.least in put_all IsOf k.content.pending k.content.stable h.bytes (all_more IsKnown (Gives IsOf) k.content.pending known_gives h.pending) (λ j past. of_zero j (omega (arith, least, past)))

  shown_least : (k : MirrorTrace) → IsKeeping k → length base ≤ length (shown_of k.content)
  shown_least k h = let least = h.least in let up = all_longer k.content.pending k.content.stable in omega (arith, least, up)

  shown_up : (k : MirrorTrace) → IsKeeping k → length (shown_of k.content) ≤ most
  shown_up k h = all_shorter k.content.pending k.content.stable most h.up (all_more IsKnown (EndsBy most) k.content.pending known_ends h.pending)

  none_in : (w : Pending) (ws : List Pending) → ws ≡ [] → IsIn w ws → ⊥
  none_in w ws none is = subst (IsIn w) none is

  -- a covered write stands in what is put over the stable bytes from what is pending
  covered_still : (k : MirrorTrace) → IsKeeping k → (vs : List Pending) → (w : Pending) → IsIn w sent → IsIn w k.covered → ((AllByRecursion IsNew k.content.pending → AllByRecursion (Gives (IsBy w)) vs)) → Stands w (overlay_all k.content.stable vs)
  covered_still k h vs w is by gives = from h.fresh
    where
      from : (k.covered ≡ []) ⊎ AllByRecursion IsNew k.content.pending → Stands w (overlay_all k.content.stable vs)
      from (inl none) = absurd (none_in w k.covered none by)
      from (inr news) = stands_all w vs k.content.stable is (h.covered w is by) (gives news)

  shown_covered : (k : MirrorTrace) → IsKeeping k → (w : Pending) → IsIn w sent → IsIn w k.covered → Stands w (shown_of k.content)
  shown_covered k h w is by = covered_still k h k.content.pending w is by (λ news. all_more IsNew (Gives (IsBy w)) k.content.pending (λ v. new_gives w v is) news)

  -- ---- turns

  join_some : (c : Content) (at : ℕ) (bytes : List ℕ) → 0 < length bytes → joined c at bytes ≡ record { stable = c.stable; pending = c.pending ++ record { at = at; bytes = bytes } ∷ [] }
  join_some c at [] some = absurd (omega (arith, some))
  join_some c at (b ∷ bytes) some = refl

  applies : (k : MirrorTrace) (w : Pending) → IsNew w → IsKeeping k → IsKeeping (after_turn k (Applies w))
  applies k w new h =
      subst (λ (c : Content). IsKeeping (record { content = c; here = w ∷ k.here; covered = k.covered })) (sym (join_some k.content w.at w.bytes (new_some w new)))
      (record {
        least = h.least;
        up = h.up;
        bytes = h.bytes;
        pending = all_append IsKnown k.content.pending (w ∷ []) h.pending (inr new, tt);
        fresh = more h.fresh;
        here = λ v is by. subst (Stands v) (sym (overlay_all_push k.content.stable k.content.pending w)) (stands v is by);
        covered = h.covered;
      })
    where
      more : (k.covered ≡ []) ⊎ AllByRecursion IsNew k.content.pending → (k.covered ≡ []) ⊎ AllByRecursion IsNew (k.content.pending ++ w ∷ [])
      more (inl none) = inl none
      more (inr news) = inr (all_append IsNew k.content.pending (w ∷ []) news (new, tt))

      stands : (v : Pending) → IsIn v sent → IsIn v (w ∷ k.here) → Stands v (overlay (shown_of k.content) w.at w.bytes)
      stands v is (inl same) = subst (λ (x : Pending). Stands x (overlay (shown_of k.content) w.at w.bytes)) same (stands_itself w (shown_of k.content) (new_some w new))
      stands v is (inr by) = stands_one v (shown_of k.content) w is (h.here v is by) new

  commits : (k : MirrorTrace) → IsKeeping k → IsKeeping (after_turn k Commits)
  commits k h = record {
    least = shown_least k h;
    up = shown_up k h;
    bytes = shown_bytes k h;
    pending = tt;
    fresh = inr tt;
    here = h.here;
    covered = λ w is by. either w is (in_either w k.here k.covered by);
  }
    where
      either : (w : Pending) → IsIn w sent → IsIn w k.here ⊎ IsIn w k.covered → Stands w (shown_of k.content)
      either w is (inl now) = h.here w is now
      either w is (inr before) = shown_covered k h w is before

  loses : (k : MirrorTrace) (pieces : List Piece) → IsKeeping k → IsKeeping (after_turn k (Loses pieces))
  loses k pieces h =
      let vs : List Pending = kept_of k.content.pending pieces in
      let least = h.least in
      let longer = all_longer vs k.content.stable in
      record {
        least = omega (arith, least, longer);
        up = all_shorter vs k.content.stable most h.up (kept_ends most k.content.pending (all_more IsKnown (EndsBy most) k.content.pending known_ends h.pending) pieces);
        bytes = put_all IsOf vs k.content.stable h.bytes (kept_gives IsOf k.content.pending (all_more IsKnown (Gives IsOf) k.content.pending known_gives h.pending) pieces) (λ j past. of_zero j (omega (arith, least, past)));
        pending = tt;
        fresh = inr tt;
        here = λ w is by. absurd by;
        covered = λ w is by. covered_still k h vs w is by (λ news. kept_gives (IsBy w) k.content.pending (all_more IsNew (Gives (IsBy w)) k.content.pending (λ v. new_gives w v is) news) pieces);
      }

  pub turn_keeps : (k : MirrorTrace) (turn : MirrorTurn) → IsTurnOf sent rogue turn → IsKeeping k → IsKeeping (after_turn k turn)
  turn_keeps k (Applies w) of h = applies k w of h
  turn_keeps k Commits of h = commits k h
  turn_keeps k (Loses pieces) of h = loses k pieces h

  pub turns_keep : (turns : List MirrorTurn) (k : MirrorTrace) → AllByRecursion (IsTurnOf sent rogue) turns → IsKeeping k → IsKeeping (after_turns k turns)
  turns_keep [] k of h = h
  turns_keep (turn ∷ turns) k of h = turns_keep turns (after_turn k turn) of.1 (turn_keeps k turn of.0 h)

  pub keeps_writes : (k : MirrorTrace) → IsKeeping k → KeepsWrites base sent rogue k
  keeps_writes k h = record {
    bytes = h.bytes;
    least = h.least;
    most = h.up;
    within = λ w place is by c. let within = (h.covered w is by).within in let high = c.1 in omega (arith, within, high);
    stands = λ w place is by c. let s = h.covered w is by in let within = s.within in let high = c.1 in s.has place (omega (arith, within, high)) c;
  }

pub keeps_always : (base : List ℕ) (sent rogue : List Pending) (c : Content) (turns : List MirrorTurn) → KeepsAlways base sent rogue c turns
keeps_always base sent rogue c turns has p =
    keeps_writes base sent rogue p.apart p.sent_some p.rogue_some (after_turns (kept_from c) turns)
    (turns_keep base sent rogue p.apart p.sent_some p.rogue_some turns (kept_from c) p.turns_of (begins base sent rogue p.apart p.sent_some p.rogue_some c has))

-- ---- a clean end

module _ (base : List ℕ) (sent : List Pending) (apart : ArePairwiseDisjoint sent) (some : AllByRecursion (λ w. 0 < length w.bytes) sent) where
  -- the bytes from before with all that was taken
  pub record IsWhole (bytes : List ℕ) : Type 0 where
    pub least : length base ≤ length bytes
    pub up : length bytes ≤ most base sent [] apart some tt
    pub of : AllBytes (IsOf base sent [] apart some tt) bytes
    pub stands : (w : Pending) → IsIn w sent → Stands base sent [] apart some tt w bytes

  none_rogue : (place byte : ℕ) → IsByteOfOne [] place byte → ⊥
  none_rogue place byte b = absurd cc

  whole_length : (bytes : List ℕ) → IsWhole bytes → length bytes ≡ max (length base) (furthest_end (sent ++ []))
  whole_length bytes h =
      let least = h.least in
      let up = h.up in
      let far = furthest_by (sent ++ []) (length bytes) (λ w is. (h.stands w (back w is)).within) in
      omega (arith, least, up, far)
    where
      back : (w : Pending) → IsIn w (sent ++ []) → IsIn w sent
      back w is = from (in_either w sent [] is)
        where
          from : IsIn w sent ⊎ IsIn w [] → IsIn w sent
          from (inl x) = x
          from (inr x) = absurd x

  byte_is : (bytes : List ℕ) → IsWhole bytes → (place : ℕ) → place < length bytes → (w : Pending) → IsIn w sent → covers w place → byte_at bytes place ≡ byte_at w.bytes (place - w.at)
  byte_is bytes h place less w is c = from ((h.stands w is).has place less c)
    where
      from : (byte_at bytes place ≡ byte_at w.bytes (place - w.at)) ⊎ IsByteOfOne [] place (byte_at bytes place) → byte_at bytes place ≡ byte_at w.bytes (place - w.at)
      from (inl e) = e
      from (inr b) = absurd (none_rogue place (byte_at bytes place) b)

  byte_old : (bytes : List ℕ) → IsWhole bytes → (place : ℕ) → place < length bytes → ((w : Pending) → IsIn w sent → covers w place → ⊥) → byte_at bytes place ≡ byte_at base place
  byte_old bytes h place less none = from (h.of place less)
    where
      from : (byte_at bytes place ≡ byte_at base place) ⊎ IsByteOfOne (sent ++ []) place (byte_at bytes place) → byte_at bytes place ≡ byte_at base place
      from (inl e) = e
      from (inr b) = absurd (none b.1 (subst (IsIn b.1) (append-nil sent) (is_at (sent ++ []) b.0 b.1 b.2)) b.3)

  one_whole : (a b : List ℕ) → IsWhole a → IsWhole b → a ≡ b
  one_whole a b h g =
      let same : length a ≡ length b = whole_length a h ∙ sym (whole_length b g) in
      same_number_lists a b same
      (λ place less.
      elim (covered_or_not sent place) [
        | inl found ↦ byte_is a h place less found.0 found.1 found.2 ∙ sym (byte_is b g place (omega (arith, less, same)) found.0 found.1 found.2)
        | inr none ↦ byte_old a h place less none ∙ sym (byte_old b g place (omega (arith, less, same)) none)
      ])

  -- so are they where all are put over them in order
  placed : (ws : List Pending) (old : List ℕ) → ((v : Pending) → IsIn v ws → IsIn v sent) → (w : Pending) → IsIn w ws → Stands base sent [] apart some tt w (overlay_all old ws)
  placed [] old of w is = absurd is
  placed (v ∷ ws) old of w (inl same) =
      subst (λ (x : Pending). Stands base sent [] apart some tt x (overlay_all (overlay old v.at v.bytes) ws)) same
      (stands_all base sent [] apart some tt v ws (overlay old v.at v.bytes) (of v (inl refl)) (stands_itself base sent [] apart some tt v old (all_in (λ w. 0 < length w.bytes) sent v some (of v (inl refl))))
      (all_of_in (Gives (IsBy base sent [] apart some tt v)) ws (λ x is. new_gives base sent [] apart some tt v x (of v (inl refl)) (inl (of x (inr is))))))
  placed (v ∷ ws) old of w (inr rest) = placed ws (overlay old v.at v.bytes) (λ x is. of x (inr is)) w rest

  all_whole : IsWhole (overlay_all base sent)
  all_whole = record {
    least = all_longer sent base;
    up = all_shorter sent base (most base sent [] apart some tt) (omega arith) (all_of_in (EndsBy (most base sent [] apart some tt)) sent (λ w is. known_ends base sent [] apart some tt w (inr (inl is))));
    of = put_all (IsOf base sent [] apart some tt) sent base (λ place less. inl refl) (all_of_in (Gives (IsOf base sent [] apart some tt)) sent (λ w is. known_gives base sent [] apart some tt w (inr (inl is)))) (of_zero base sent [] apart some tt);
    stands = λ w is. placed sent base (λ v k. k) w is;
  }

  module _ (k : MirrorTrace) (h : IsKeeping base sent [] apart some tt k) (all : AllByRecursion (λ w. IsIn w k.covered) sent) where
    stable_whole : IsWhole k.content.stable
    stable_whole = record { least = h.least; up = h.up; of = h.bytes; stands = λ w is. h.covered w is (all_in (λ v. IsIn v k.covered) sent w all is) }

    shown_whole : IsWhole (shown_of k.content)
    shown_whole = record {
      least = shown_least base sent [] apart some tt k h;
      up = shown_up base sent [] apart some tt k h;
      of = shown_bytes base sent [] apart some tt k h;
      stands = λ w is. shown_covered base sent [] apart some tt k h w is (all_in (λ v. IsIn v k.covered) sent w all is);
    }

    -- a pending write of the period changes nothing
    new_same : (v : Pending) → IsIn v sent → IsNoChange (overlay_all base sent) v
    new_same v is =
        let s = all_whole.stands v is in
        let within = s.within in (
          within,
          λ place less.
              let back : v.at + place - v.at ≡ place = omega arith in
              sym (byte_is (overlay_all base sent) all_whole (v.at + place) (omega (arith, within, less)) v is (omega arith, omega (arith, less)) ∙ ap (byte_at v.bytes) back),
        )

    no_sent : (ws : List Pending) → k.covered ≡ [] → AllByRecursion (λ w. IsIn w k.covered) ws → ws ≡ []
    no_sent [] none h = refl
    no_sent (w ∷ ws) none h = absurd (subst (IsIn w) none h.0)

    pending_same : (v : Pending) → IsKnown base sent [] apart some tt v → (sent ≡ []) ⊎ IsNew base sent [] apart some tt v → IsNoChange (overlay_all base sent) v
    pending_same v known (inr (inl is)) = new_same v is
    pending_same v known (inr (inr wrong)) = absurd wrong
    pending_same v (inl old) (inl none) = subst (λ (ws : List Pending). IsNoChange (overlay_all base ws) v) (sym none) old
    pending_same v (inr (inl is)) (inl none) = new_same v is
    pending_same v (inr (inr wrong)) (inl none) = absurd wrong

    both_ways : (pending : List Pending) → AllByRecursion (IsKnown base sent [] apart some tt) pending → (k.covered ≡ []) ⊎ AllByRecursion (IsNew base sent [] apart some tt) pending → AllByRecursion (IsNoChange (overlay_all base sent)) pending
    both_ways [] known fresh = tt
    both_ways (v ∷ pending) known (inl none) = (pending_same v known.0 (inl (no_sent sent none all)), both_ways pending known.1 (inl none))
    both_ways (v ∷ pending) known (inr news) = (pending_same v known.0 (inr news.0), both_ways pending known.1 (inr news.1))

    pub has_all : Has (overlay_all base sent) k.content
    has_all = record {
      shown = one_whole (shown_of k.content) (overlay_all base sent) shown_whole all_whole;
      stable = one_whole k.content.stable (overlay_all base sent) stable_whole all_whole;
      pending = both_ways k.content.pending h.pending h.fresh;
    }

pub keeps_all : (base : List ℕ) (sent : List Pending) (c : Content) (turns : List MirrorTurn) → KeepsAll base sent c turns
keeps_all base sent c turns has p all =
    has_all base sent p.apart p.sent_some (after_turns (kept_from c) turns)
    (turns_keep base sent [] p.apart p.sent_some tt turns (kept_from c) p.turns_of (begins base sent [] p.apart p.sent_some tt c has)) all
