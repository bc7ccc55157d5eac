-- A data file that gets pieces of some bytes alone, each stable at once: what stands of them there (RFC 1813, section 3.3.7).
use Rattle.std.proofs.Common.{◌≡◌, ℕ, ◌+◌, ◌-◌, ◌<◌, ◌≤◌, ◌⊎◌, List, [], ◌∷◌, length, refl, sym, ap, subst, ◌∙◌, arith, inl, inr}
use Rattle.std.proofs.lemmas.Bool.{cases_lt}
use Rattle.std.proofs.lemmas.Grind.{same_number_lists}
use Rattle.cluster_model.specs.Content.{Content, Pending, overlay, joined, settled}
use Rattle.cluster_model.specs.Laws.{byte_at}
use Rattle.cluster_model.proofs.Placing.{length-overlay-le, length-overlay-ge, length-overlay-end, get_or-overlay_outside, get_or-overlay_inside}
use Rattle.copied_bytes.proofs.Wholes.{whole_of, IsWhole}
use Rattle.copied_bytes.proofs.Slices.{IsSlice}

pub record IsPart (bytes : List ℕ) (c : Content) : Type 0 where
  pub none : c.pending ≡ []
  pub most : length c.stable ≤ length bytes

-- the bytes stand up to a place
pub record IsPut (bytes : List ℕ) (upto : ℕ) (c : Content) : Type 0 where
  pub part : IsPart bytes c
  pub stands : (place : ℕ) → place < upto → (place < length c.stable) × (byte_at c.stable place ≡ byte_at bytes place)

-- a piece came, or none
pub data Became (bytes : List ℕ) (c then : Content) : Type 0 where
  SameBytes : then ≡ c → Became bytes c then
  GotPiece : (at : ℕ) (piece : List ℕ) → IsSlice bytes at piece → then ≡ settled (joined c at piece) → Became bytes c then

pub content_is : (c : Content) → c.pending ≡ [] → c ≡ whole_of c.stable
content_is c e = ap (λ (ws : List Pending). record { stable = c.stable; pending = ws }) e

-- what a piece makes of it
written_is : (c : Content) (at : ℕ) (piece : List ℕ) → c.pending ≡ [] → settled (joined c at piece) ≡ whole_of (overlay c.stable at piece)
written_is c at [] e = ap (λ (x : Content). settled x) (content_is c e)
written_is c at (b ∷ piece) e = ap (λ (x : Content). settled (joined x at (b ∷ piece))) (content_is c e)

pub part_written : (bytes : List ℕ) (c : Content) (at : ℕ) (piece : List ℕ) → IsSlice bytes at piece → IsPart bytes c → IsPart bytes (settled (joined c at piece))
part_written bytes c at piece slice h =
    subst (IsPart bytes) (sym (written_is c at piece h.none)) (record { none = refl; most = length-overlay-le c.stable at piece (length bytes) h.most slice.within })

overlaid : (bytes old : List ℕ) (at : ℕ) (piece : List ℕ) → IsSlice bytes at piece → (place : ℕ) → (place < length old) × (byte_at old place ≡ byte_at bytes place) → (place < length (overlay old at piece)) × (byte_at (overlay old at piece) place ≡ byte_at bytes place)
overlaid bytes old at piece slice place h =
    let longer = length-overlay-ge old at piece in
    let less = h.0 in
    (omega (arith, longer, less), by_place (cases_lt place at) (cases_lt place (at + length piece)))
  where
    inside : at ≤ place → place < at + length piece → byte_at (overlay old at piece) place ≡ byte_at bytes place
    inside le more =
        let back : at + (place - at) ≡ place = omega (arith, le) in
        let small : place - at < length piece = omega (arith, le, more) in
        subst (λ (k : ℕ). byte_at (overlay old at piece) k ≡ byte_at bytes k) back (get_or-overlay_inside old at piece (place - at) small ∙ slice.same (place - at) small)

    by_place : (place < at) ⊎ (at ≤ place) → (place < at + length piece) ⊎ (at + length piece ≤ place) → byte_at (overlay old at piece) place ≡ byte_at bytes place
    by_place (inl before) other = get_or-overlay_outside old at piece place (inl before) ∙ h.1
    by_place (inr le) (inl less) = inside le less
    by_place (inr le) (inr past) = get_or-overlay_outside old at piece place (inr past) ∙ h.1

placed : (bytes old : List ℕ) (at : ℕ) (piece : List ℕ) → IsSlice bytes at piece → (place : ℕ) → at ≤ place → place < at + length piece → (place < length (overlay old at piece)) × (byte_at (overlay old at piece) place ≡ byte_at bytes place)
placed bytes old at piece slice place le more =
    let end = length-overlay-end old at piece (omega (arith, le, more)) in
    let back : at + (place - at) ≡ place = omega (arith, le) in
    let small : place - at < length piece = omega (arith, le, more) in
    (omega (arith, end, more), subst (λ (k : ℕ). byte_at (overlay old at piece) k ≡ byte_at bytes k) back (get_or-overlay_inside old at piece (place - at) small ∙ slice.same (place - at) small))

pub put_written : (bytes : List ℕ) (upto : ℕ) (c : Content) (at : ℕ) (piece : List ℕ) → IsSlice bytes at piece → IsPut bytes upto c → IsPut bytes upto (settled (joined c at piece))
put_written bytes upto c at piece slice h = record {
  part = part_written bytes c at piece slice h.part;
  stands = λ place less. subst (λ (x : Content). (place < length x.stable) × (byte_at x.stable place ≡ byte_at bytes place)) (sym (written_is c at piece h.part.none)) (overlaid bytes c.stable at piece slice place (h.stands place less));
}

-- the piece at the place up to which they stood
pub put_more : (bytes : List ℕ) (at : ℕ) (c : Content) (piece : List ℕ) → IsSlice bytes at piece → IsPut bytes at c → IsPut bytes (at + length piece) (settled (joined c at piece))
put_more bytes at c piece slice h = record {
  part = part_written bytes c at piece slice h.part;
  stands = λ place less. subst (λ (x : Content). (place < length x.stable) × (byte_at x.stable place ≡ byte_at bytes place)) (sym (written_is c at piece h.part.none)) (by_place place less (cases_lt place at));
}
  where
    by_place : (place : ℕ) → place < at + length piece → (place < at) ⊎ (at ≤ place) → (place < length (overlay c.stable at piece)) × (byte_at (overlay c.stable at piece) place ≡ byte_at bytes place)
    by_place place less (inl before) = overlaid bytes c.stable at piece slice place (h.stands place before)
    by_place place less (inr le) = placed bytes c.stable at piece slice place le less

pub part_became : (bytes : List ℕ) (c then : Content) → Became bytes c then → IsPart bytes c → IsPart bytes then
part_became bytes c then (SameBytes e) h = subst (IsPart bytes) (sym e) h
part_became bytes c then (GotPiece at piece slice e) h = subst (IsPart bytes) (sym e) (part_written bytes c at piece slice h)

pub put_became : (bytes : List ℕ) (upto : ℕ) (c then : Content) → Became bytes c then → IsPut bytes upto c → IsPut bytes upto then
put_became bytes upto c then (SameBytes e) h = subst (IsPut bytes upto) (sym e) h
put_became bytes upto c then (GotPiece at piece slice e) h = subst (IsPut bytes upto) (sym e) (put_written bytes upto c at piece slice h)

pub put_less : (bytes : List ℕ) (upto less : ℕ) (c : Content) → less ≤ upto → IsPut bytes upto c → IsPut bytes less c
put_less bytes upto less c le h = record { part = h.part; stands = λ place k. h.stands place (omega (arith, k, le)) }

pub none_put : (bytes : List ℕ) (c : Content) → IsPart bytes c → IsPut bytes 0 c
none_put bytes c h = record { part = h; stands = λ place less. absurd (omega (arith, less)) }

long_enough : (bytes : List ℕ) (c : Content) → IsPut bytes (length bytes) c → length c.stable ≡ length bytes
long_enough [] c h = let most = h.part.most in omega (arith, most)
long_enough (b ∷ bytes) c h =
    let most = h.part.most in
    let last = (h.stands (length bytes) (omega arith)).0 in
    omega (arith, most, last)

-- all of them stand
pub put_whole : (bytes : List ℕ) (c : Content) → IsPut bytes (length bytes) c → IsWhole bytes c
put_whole bytes c h =
    let same : length c.stable ≡ length bytes = long_enough bytes c h in
    let is : c.stable ≡ bytes = same_number_lists c.stable bytes same (λ k less. by_byte k less) in
    record { is = content_is c h.part.none ∙ ap whole_of is }
  where
    by_byte : (k : ℕ) → k < length c.stable → byte_at c.stable k ≡ byte_at bytes k
    by_byte k less = let most = h.part.most in (h.stands k (omega (arith, less, most))).1
