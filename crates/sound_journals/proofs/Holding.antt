-- One data file in a period, whatever is written, committed and lost there.
use Rattle.std.proofs.Common.{◌≡◌, ℕ, ◌+◌, ◌-◌, ◌<◌, ◌≤◌, List, [], ◌∷◌, ◌++◌, length, refl, sym, ap, subst, ◌∙◌, arith, ◌⊎◌, inl, inr}
use Rattle.std.specs.List.{AllByRecursion}
use Rattle.cluster_model.specs.declared.piece.Piece.{Piece}
use Rattle.cluster_model.specs.Content.{Pending, Content, overlay, overlay_all, shown_of, joined, settled, survived, kept_of}
use Rattle.cluster_model.specs.Laws.{byte_at}
use Rattle.cluster_model.proofs.Placing.{length-overlay-le, length-overlay-ge, length-overlay-end, overlay_all_push}
use Rattle.cluster_laws.specs.Agreement.{covers, IsByteOfOne, ArePairwiseDisjoint, IsNoChange, Has}
use Rattle.cluster_laws.specs.Holders.{IsIn, the_write}
use Rattle.cluster_laws.specs.Keeping.{MirrorTrace}
use Rattle.cluster_laws.proofs.Lists.{all_append, all_more}
use Rattle.cluster_laws.proofs.Putting.{AllBytes, Gives, EndsBy, past_end, put_one, put_all, all_longer, all_shorter, in_left, in_right, in_either, is_at, byte_of, same_or_apart, kept_gives, kept_ends, inside}

-- one from before, or a written one
abbrev pub IsOf : List ℕ → List Pending → List Pending → ℕ → ℕ → Type 0
IsOf base sent rogue place byte = (byte ≡ byte_at base place) ⊎ IsByteOfOne (sent ++ rogue) place byte

-- a byte at a place that a write has is that write's, or strayed
abbrev pub IsBy : List Pending → Pending → ℕ → ℕ → Type 0
IsBy rogue w place byte = covers w place → (byte ≡ byte_at w.bytes (place - w.at)) ⊎ IsByteOfOne rogue place byte

abbrev pub IsNew : List Pending → List Pending → Pending → Type 0
IsNew sent rogue w = IsIn w sent ⊎ IsIn w rogue

-- no byte from before, or of a write, is past it
pub record IsBeyond (base : List ℕ) (sent rogue : List Pending) (n : ℕ) : Type 0 where
  pub base_is : length base ≤ n
  pub writes_are : (w : Pending) → IsNew sent rogue w → 0 < length w.bytes → w.at + length w.bytes ≤ n

-- a write stands in some bytes, but for what strayed
pub record StandsWith (rogue : List Pending) (w : Pending) (bytes : List ℕ) : Type 0 where
  pub within : (place : ℕ) → covers w place → place < length bytes
  pub by : AllBytes (IsBy rogue w) bytes

-- a pending write has bytes from before, or written ones
pub record IsKnown (base : List ℕ) (sent rogue : List Pending) (v : Pending) : Type 0 where
  pub gives : Gives (IsOf base sent rogue) v
  pub ends : (n : ℕ) → IsBeyond base sent rogue n → EndsBy n v

abbrev pub IsMarked : MirrorTrace → Pending → Type 0
IsMarked k w = IsIn w k.here ⊎ IsIn w k.covered

-- what a data file has of the writes of a period
pub record IsHeld (base : List ℕ) (sent rogue : List Pending) (k : MirrorTrace) : Type 0 where
  pub apart : ArePairwiseDisjoint sent
  pub least : length base ≤ length k.content.stable
  pub up : (n : ℕ) → IsBeyond base sent rogue n → length k.content.stable ≤ n
  pub bytes : AllBytes (IsOf base sent rogue) k.content.stable
  pub pending : AllByRecursion (IsKnown base sent rogue) k.content.pending
  pub marks : (w : Pending) → IsMarked k w → IsNew sent rogue w
  pub here : (w : Pending) → IsIn w sent → IsIn w k.here → StandsWith rogue w (shown_of k.content)
  pub covered : (w : Pending) → IsIn w sent → IsIn w k.covered → StandsWith rogue w k.content.stable
  pub over : (w : Pending) → IsIn w sent → IsIn w k.covered → AllByRecursion (Gives (IsBy rogue w)) k.content.pending

-- ---- bytes of more writes

pub of_more : (a b : List Pending) → ((w : Pending) → IsIn w a → IsIn w b) → (place byte : ℕ) → IsByteOfOne a place byte → IsByteOfOne b place byte
of_more a b more place byte h = subst (IsByteOfOne b place) (sym h.4) (byte_of h.1 b place (more h.1 (is_at a h.0 h.1 h.2)) h.3)

pub both_more : (s s' r r' : List Pending) → ((w : Pending) → IsIn w s → IsIn w s') → ((w : Pending) → IsIn w r → IsIn w r') → (w : Pending) → IsIn w (s ++ r) → IsIn w (s' ++ r')
both_more s s' r r' more also w is =
    elim (in_either w s r is) [
      | inl x ↦ in_left w s' r' (more w x)
      | inr y ↦ in_right w s' r' (also w y)
    ]

pub is_of_more : (base : List ℕ) (s s' r r' : List Pending) → ((w : Pending) → IsIn w s → IsIn w s') → ((w : Pending) → IsIn w r → IsIn w r') → (place byte : ℕ) → IsOf base s r place byte → IsOf base s' r' place byte
is_of_more base s s' r r' more also place byte (inl e) = inl e
is_of_more base s s' r r' more also place byte (inr b) = inr (of_more (s ++ r) (s' ++ r') (both_more s s' r r' more also) place byte b)

pub is_by_more : (r r' : List Pending) → ((w : Pending) → IsIn w r → IsIn w r') → (w : Pending) (place byte : ℕ) → IsBy r w place byte → IsBy r' w place byte
is_by_more r r' also w place byte h c = from (h c)
  where
    from : (byte ≡ byte_at w.bytes (place - w.at)) ⊎ IsByteOfOne r place byte → (byte ≡ byte_at w.bytes (place - w.at)) ⊎ IsByteOfOne r' place byte
    from (inl e) = inl e
    from (inr b) = inr (of_more r r' also place byte b)

pub stands_more : (r r' : List Pending) → ((w : Pending) → IsIn w r → IsIn w r') → (w : Pending) (bytes : List ℕ) → StandsWith r w bytes → StandsWith r' w bytes
stands_more r r' also w bytes h = record { within = h.within; by = λ place less. is_by_more r r' also w place (byte_at bytes place) (h.by place less) }

pub less_beyond : (base : List ℕ) (s s' r r' : List Pending) → ((w : Pending) → IsIn w s → IsIn w s') → ((w : Pending) → IsIn w r → IsIn w r') → (n : ℕ) → IsBeyond base s' r' n → IsBeyond base s r n
less_beyond base s s' r r' more also n h = record { base_is = h.base_is; writes_are = λ w is some. h.writes_are w (from w is) some }
  where
    from : (w : Pending) → IsNew s r w → IsNew s' r' w
    from w (inl x) = inl (more w x)
    from w (inr y) = inr (also w y)

-- ---- puts

one_shorter : (old : List ℕ) (at : ℕ) (bytes : List ℕ) (n : ℕ) → length old ≤ n → (0 < length bytes → at + length bytes ≤ n) → length (overlay old at bytes) ≤ n
one_shorter old at [] n h ends = h
one_shorter old at (b ∷ bytes) n h ends = length-overlay-le old at (b ∷ bytes) n h (ends (omega arith))

pub some_shorter : (ws : List Pending) (old : List ℕ) (n : ℕ) → length old ≤ n → ((w : Pending) → IsIn w ws → 0 < length w.bytes → w.at + length w.bytes ≤ n) → length (overlay_all old ws) ≤ n
some_shorter [] old n h ends = h
some_shorter (w ∷ ws) old n h ends = some_shorter ws (overlay old w.at w.bytes) n (one_shorter old w.at w.bytes n h (ends w (inl refl))) (λ v is. ends v (inr is))

-- a write that changes nothing has what the bytes have
pub same_gives : (Q : ℕ → ℕ → Type 0) (bytes : List ℕ) (v : Pending) → AllBytes Q bytes → IsNoChange bytes v → Gives Q v
same_gives Q bytes v all same place c =
    let low = c.0 in
    let high = c.1 in
    let within = same.0 in
    let e : v.at + (place - v.at) ≡ place = omega (arith, low) in
    let byte : byte_at v.bytes (place - v.at) ≡ byte_at bytes place = same.1 (place - v.at) (omega (arith, low, high)) ∙ ap (byte_at bytes) e in
    subst (Q place) (sym byte) (all place (omega (arith, high, within)))

pub stands_put : (rogue : List Pending) (w : Pending) (old : List ℕ) (v : Pending) → StandsWith rogue w old → Gives (IsBy rogue w) v → StandsWith rogue w (overlay old v.at v.bytes)
stands_put rogue w old v h gives =
    let up = length-overlay-ge old v.at v.bytes in
    record {
      within = λ place c. let less = h.within place c in omega (arith, less, up);
      by = put_one (IsBy rogue w) old v h.by gives (λ k past c. let less = h.within k c in absurd (omega (arith, past, less)));
    }

pub stands_all : (rogue : List Pending) (w : Pending) (vs : List Pending) (old : List ℕ) → StandsWith rogue w old → AllByRecursion (Gives (IsBy rogue w)) vs → StandsWith rogue w (overlay_all old vs)
stands_all rogue w [] old h gives = h
stands_all rogue w (v ∷ vs) old h gives = stands_all rogue w vs (overlay old v.at v.bytes) (stands_put rogue w old v h gives.0) gives.1

pub stands_itself : (rogue : List Pending) (w : Pending) (old : List ℕ) → StandsWith rogue w (overlay old w.at w.bytes)
stands_itself rogue w old = record {
  within = λ place c.
      let low = c.0 in
      let high = c.1 in
      let up = length-overlay-end old w.at w.bytes (omega (arith, low, high)) in
      omega (arith, high, up);
  by = λ place less c. inl (inside old w place c);
}

-- another write leaves what a write has
pub new_gives : (sent rogue : List Pending) → ArePairwiseDisjoint sent → (w v : Pending) → IsIn w sent → IsNew sent rogue v → Gives (IsBy rogue w) v
new_gives sent rogue apart w v is (inl also) place c d =
    elim (same_or_apart sent apart v w also is) [
      | inl same ↦ inl (ap (λ (x : Pending). byte_at x.bytes (place - x.at)) same)
      | inr far ↦ absurd (not_both far)
    ]
  where
    not_both : (v.at + length v.bytes ≤ w.at) ⊎ (w.at + length w.bytes ≤ v.at) → ⊥
    not_both (inl before) = let a = c.1 in let b = d.0 in absurd (omega (arith, before, a, b))
    not_both (inr behind) = let a = c.0 in let b = d.1 in absurd (omega (arith, behind, a, b))
new_gives sent rogue apart w v is (inr strayed) place c d = inr (byte_of v rogue place strayed c)

-- ---- what is shown

module _ (base : List ℕ) (sent rogue : List Pending) (k : MirrorTrace) (h : IsHeld base sent rogue k) where
  pub shown_of_bytes : AllBytes (IsOf base sent rogue) (shown_of k.content)
  shown_of_bytes = let least = h.least in put_all (IsOf base sent rogue) k.content.pending k.content.stable h.bytes (all_more (IsKnown base sent rogue) (Gives (IsOf base sent rogue)) k.content.pending (λ v known. known.gives) h.pending) (λ j past. inl (sym (past_end base j (omega (arith, least, past)))))

  pub shown_least : length base ≤ length (shown_of k.content)
  shown_least = let least = h.least in let up = all_longer k.content.pending k.content.stable in omega (arith, least, up)

  pub shown_up : (n : ℕ) → IsBeyond base sent rogue n → length (shown_of k.content) ≤ n
  shown_up n beyond = all_shorter k.content.pending k.content.stable n (h.up n beyond) (all_more (IsKnown base sent rogue) (EndsBy n) k.content.pending (λ v known. known.ends n beyond) h.pending)

  pub shown_stands : (w : Pending) → IsIn w sent → IsMarked k w → StandsWith rogue w (shown_of k.content)
  shown_stands w is (inl now) = h.here w is now
  shown_stands w is (inr before) = stands_all rogue w k.content.pending k.content.stable (h.covered w is before) (h.over w is before)

-- ---- a period begins

pub held_begins : (base : List ℕ) (c : Content) → Has base c → IsHeld base [] [] (record { content = c; here = []; covered = [] })
held_begins base c h = record {
  apart = tt;
  least = let same = ap length h.stable in omega (arith, same);
  up = λ n beyond. let same = ap length h.stable in let up = beyond.base_is in omega (arith, same, up);
  bytes = λ place less. inl (ap (λ (bs : List ℕ). byte_at bs place) h.stable);
  pending = all_more (IsNoChange base) (IsKnown base [] []) c.pending
      (λ v same. record { gives = same_gives (IsOf base [] []) base v (λ place less. inl refl) same; ends = λ n beyond. let within = same.0 in let up = beyond.base_is in omega (arith, within, up) }) h.pending;
  marks = λ w is. elim is [ inl wrong ↦ absurd wrong | inr wrong ↦ absurd wrong ];
  here = λ w is wrong. absurd wrong;
  covered = λ w is wrong. absurd wrong;
  over = λ w is wrong. absurd wrong;
}

-- ---- writes that are applied

module _ (base : List ℕ) (sent rogue : List Pending) (k : MirrorTrace) (h : IsHeld base sent rogue k) where
  -- a write joins those that are pending
  joins : (at : ℕ) (bytes : List ℕ) (now : List Pending)
      → Gives (IsOf base sent rogue) (the_write at bytes)
      → ((n : ℕ) → IsBeyond base sent rogue n → 0 < length bytes → at + length bytes ≤ n)
      → ((w : Pending) → IsIn w now ⊎ IsIn w k.covered → IsNew sent rogue w)
      → ((w : Pending) → IsIn w sent → IsIn w now → StandsWith rogue w (overlay (shown_of k.content) at bytes))
      → ((w : Pending) → IsIn w sent → IsIn w k.covered → Gives (IsBy rogue w) (the_write at bytes))
      → IsHeld base sent rogue (record { content = joined k.content at bytes; here = now; covered = k.covered })
  joins at [] now gives ends marks here over = record { apart = h.apart; least = h.least; up = h.up; bytes = h.bytes; pending = h.pending; marks = marks; here = here; covered = h.covered; over = h.over }
  joins at (b ∷ bytes) now gives ends marks here over = record {
    apart = h.apart;
    least = h.least;
    up = h.up;
    bytes = h.bytes;
    pending = all_append (IsKnown base sent rogue) k.content.pending (the_write at (b ∷ bytes) ∷ []) h.pending (record { gives = gives; ends = λ n beyond. ends n beyond (omega arith) }, tt);
    marks = marks;
    here = λ w is by. subst (StandsWith rogue w) (sym (overlay_all_push k.content.stable k.content.pending (the_write at (b ∷ bytes)))) (here w is by);
    covered = h.covered;
    over = λ w is by. all_append (Gives (IsBy rogue w)) k.content.pending (the_write at (b ∷ bytes) ∷ []) (h.over w is by) (over w is by, tt);
  }

  -- one of the period
  pub held_applies : (at : ℕ) (bytes : List ℕ) → IsNew sent rogue (the_write at bytes) → IsHeld base sent rogue (record { content = joined k.content at bytes; here = the_write at bytes ∷ k.here; covered = k.covered })
  held_applies at bytes new =
      joins at bytes (the_write at bytes ∷ k.here)
      (λ place c. inr (of_new place c new))
      (λ n beyond some. beyond.writes_are (the_write at bytes) new some) marks here
      (λ w is by. new_gives sent rogue h.apart w (the_write at bytes) is new)
    where
      of_new : (place : ℕ) → covers (the_write at bytes) place → IsNew sent rogue (the_write at bytes) → IsByteOfOne (sent ++ rogue) place (byte_at bytes (place - at))
      of_new place c (inl is) = byte_of (the_write at bytes) (sent ++ rogue) place (in_left (the_write at bytes) sent rogue is) c
      of_new place c (inr is) = byte_of (the_write at bytes) (sent ++ rogue) place (in_right (the_write at bytes) sent rogue is) c

      marks : (w : Pending) → IsIn w (the_write at bytes ∷ k.here) ⊎ IsIn w k.covered → IsNew sent rogue w
      marks w (inl (inl same)) = subst (IsNew sent rogue) same new
      marks w (inl (inr is)) = h.marks w (inl is)
      marks w (inr is) = h.marks w (inr is)

      here : (w : Pending) → IsIn w sent → IsIn w (the_write at bytes ∷ k.here) → StandsWith rogue w (overlay (shown_of k.content) at bytes)
      here w is (inl same) = subst (λ (x : Pending). StandsWith rogue x (overlay (shown_of k.content) at bytes)) same (stands_itself rogue (the_write at bytes) (shown_of k.content))
      here w is (inr by) = stands_put rogue w (shown_of k.content) (the_write at bytes) (h.here w is by) (new_gives sent rogue h.apart w (the_write at bytes) is new)

  -- one that changes nothing
  pub held_same : (at : ℕ) (bytes : List ℕ) → IsNoChange (shown_of k.content) (the_write at bytes) → IsHeld base sent rogue (record { content = joined k.content at bytes; here = k.here; covered = k.covered })
  held_same at bytes same =
      joins at bytes k.here
      (same_gives (IsOf base sent rogue) (shown_of k.content) (the_write at bytes) (shown_of_bytes base sent rogue k h) same)
      (λ n beyond some. let up = shown_up base sent rogue k h n beyond in let within = same.0 in omega (arith, up, within)) h.marks
      (λ w is by. stands_put rogue w (shown_of k.content) (the_write at bytes) (h.here w is by) (gives w is (inl by)))
      (λ w is by. gives w is (inr by))
    where
      gives : (w : Pending) → IsIn w sent → IsMarked k w → Gives (IsBy rogue w) (the_write at bytes)
      gives w is by = same_gives (IsBy rogue w) (shown_of k.content) (the_write at bytes) (shown_stands base sent rogue k h w is by).by same

  -- ---- commits and restarts

  pub held_commits : IsHeld base sent rogue (record { content = settled k.content; here = k.here; covered = k.here ++ k.covered })
  held_commits = record {
    apart = h.apart;
    least = shown_least base sent rogue k h;
    up = shown_up base sent rogue k h;
    bytes = shown_of_bytes base sent rogue k h;
    pending = tt;
    marks = λ w is. h.marks w (either w is);
    here = h.here;
    covered = λ w is by. shown_stands base sent rogue k h w is (in_either w k.here k.covered by);
    over = λ w is by. tt;
  }
    where
      either : (w : Pending) → IsIn w k.here ⊎ IsIn w (k.here ++ k.covered) → IsMarked k w
      either w (inl is) = inl is
      either w (inr is) = in_either w k.here k.covered is

  pub held_loses : (pieces : List Piece) → IsHeld base sent rogue (record { content = survived k.content pieces; here = []; covered = k.covered })
  held_loses pieces =
      let vs : List Pending = kept_of k.content.pending pieces in
      let least = h.least in
      let longer = all_longer vs k.content.stable in
      record {
        apart = h.apart;
        least = omega (arith, least, longer);
        up = λ n beyond. all_shorter vs k.content.stable n (h.up n beyond) (kept_ends n k.content.pending (all_more (IsKnown base sent rogue) (EndsBy n) k.content.pending (λ v known. known.ends n beyond) h.pending) pieces);
        bytes = put_all (IsOf base sent rogue) vs k.content.stable h.bytes (kept_gives (IsOf base sent rogue) k.content.pending (all_more (IsKnown base sent rogue) (Gives (IsOf base sent rogue)) k.content.pending (λ v known. known.gives) h.pending) pieces)
            (λ j past. inl (sym (past_end base j (omega (arith, least, past)))));
        pending = tt;
        marks = λ w is. marks w is;
        here = λ w is wrong. absurd wrong;
        covered = λ w is by. stands_all rogue w vs k.content.stable (h.covered w is by) (kept_gives (IsBy rogue w) k.content.pending (h.over w is by) pieces);
        over = λ w is by. tt;
      }
    where
      marks : (w : Pending) → IsIn w [] ⊎ IsIn w k.covered → IsNew sent rogue w
      marks w (inl wrong) = absurd wrong
      marks w (inr is) = h.marks w (inr is)

  -- ---- more is sent, or strays

  held_more : (s r : List Pending) → ((w : Pending) → IsIn w sent → IsIn w s) → ((w : Pending) → IsIn w rogue → IsIn w r) → ArePairwiseDisjoint s → ((w : Pending) → IsIn w s → IsMarked k w → IsIn w sent) → IsHeld base s r k
  held_more s r more also apart back = record {
    apart = apart;
    least = h.least;
    up = λ n beyond. h.up n (less_beyond base sent s rogue r more also n beyond);
    bytes = λ place less. is_of_more base sent s rogue r more also place (byte_at k.content.stable place) (h.bytes place less);
    pending = all_more (IsKnown base sent rogue) (IsKnown base s r) k.content.pending
        (λ v known. record {
          gives = λ place c. is_of_more base sent s rogue r more also place (byte_at v.bytes (place - v.at)) (known.gives place c);
          ends = λ n beyond. known.ends n (less_beyond base sent s rogue r more also n beyond);
        }) h.pending;
    marks = λ w is. new w (h.marks w is);
    here = λ w is by. stands_more rogue r also w (shown_of k.content) (h.here w (back w is (inl by)) by);
    covered = λ w is by. stands_more rogue r also w k.content.stable (h.covered w (back w is (inr by)) by);
    over = λ w is by. all_more (Gives (IsBy rogue w)) (Gives (IsBy r w)) k.content.pending (λ v gives place c. is_by_more rogue r also w place (byte_at v.bytes (place - v.at)) (gives place c)) (h.over w (back w is (inr by)) by);
  }
    where
      new : (w : Pending) → IsNew sent rogue w → IsNew s r w
      new w (inl x) = inl (more w x)
      new w (inr y) = inr (also w y)

  pub held_sends : (w : Pending) → rogue ≡ [] → ArePairwiseDisjoint (sent ++ w ∷ []) → IsHeld base (sent ++ w ∷ []) rogue k
  held_sends w none apart = held_more (sent ++ w ∷ []) rogue (λ v is. in_left v sent (w ∷ []) is) (λ v is. is) apart (λ v is marked. back v (h.marks v marked))
    where
      back : (v : Pending) → IsNew sent rogue v → IsIn v sent
      back v (inl x) = x
      back v (inr y) = absurd (subst (IsIn v) none y)

  pub held_strays : (w : Pending) → IsHeld base sent (rogue ++ w ∷ []) k
  held_strays w = held_more sent (rogue ++ w ∷ []) (λ v is. is) (λ v is. in_left v rogue (w ∷ []) is) h.apart (λ v is marked. is)
