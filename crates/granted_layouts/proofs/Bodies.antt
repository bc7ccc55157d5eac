-- Bodies, part by part.
use Rattle.std.proofs.Common.{◌≡◌, ℕ, ◌+◌, List, [], ◌∷◌, ◌++◌, length, map, take, Some, refl, sym, ap, ◌∙◌, arith, append_assoc, append-nil}
use Rattle.std.specs.Prelude.{codes, slice_get}
use Rattle.std.specs.List.{flat_map}
use Rattle.std.proofs.lemmas.List.{length-map, take_more}
use Rattle.std.proofs.lemmas.List.Concat.{flat_map-append}
use Rattle.std.proofs.lemmas.Option.{slice_get_within, get_or_from_slice_get}
use Rattle.ff_xdr.specs.Form.{spelling, word, long, padded}
use Rattle.device_addr.specs.Universal.{AddressValue, address_text}
use Rattle.ff_layout.specs.Mirror.{ff_mirror4}
use Rattle.cluster_model.specs.declared.ids.Mirror.{Mirror}
use Rattle.granted_layouts.specs.GrantedBodies.{mirror_under, layout_body, device_body}
use Rattle.granted_layouts.proofs.LayoutSizes.{mirrors_text}

-- the mirrors, put one by one
abbrev pub put_so_far : ℕ → List Mirror → List ℕ
put_so_far uid ms = flat_map (λ m. spelling ff_mirror4 (mirror_under uid m)) ms

one_by_one : (uid : ℕ) (ms : List Mirror) → put_so_far uid ms ≡ mirrors_text uid ms
one_by_one uid [] = refl
one_by_one uid (m ∷ ms) = ap (λ (xs : List ℕ). spelling ff_mirror4 (mirror_under uid m) ++ xs) (one_by_one uid ms)

pub layout_is : (uid n : ℕ) (ms : List Mirror) (first second third : List ℕ) → n ≡ length ms → first ≡ [] ++ (long 65536 ++ word n) → second ≡ first ++ put_so_far uid ms → third ≡ second ++ (word 1 ++ word 0)
    → third ≡ layout_body uid ms
layout_is uid n ms first second third many f s t =
    let count : word n ≡ word (length (map (mirror_under uid) ms)) = ap word (many ∙ sym (length-map ms (mirror_under uid))) in
    let mirrors = one_by_one uid ms in
    t ∙ ap (λ (xs : List ℕ). xs ++ (word 1 ++ word 0)) (s ∙ (λ i. f i ++ put_so_far uid ms))
    ∙ (λ i. ((long 65536 ++ count i) ++ mirrors i) ++ (word 1 ++ word 0))
    ∙ ap (λ (xs : List ℕ). xs ++ (word 1 ++ word 0)) (append_assoc (long 65536) (word (length (map (mirror_under uid) ms))) (mirrors_text uid ms))
    ∙ append_assoc (long 65536) (word (length (map (mirror_under uid) ms)) ++ mirrors_text uid ms) (word 1 ++ word 0)

-- one mirror more
take_next : {X : Type 0} (xs : List X) (k : ℕ) (x : X) → slice_get xs k ≡ Some x → take (k + 1) xs ≡ take k xs ++ x ∷ []
take_next xs k x is = take_more xs k x (slice_get_within xs k x is) ∙ ap (λ y. take k xs ++ y ∷ []) (get_or_from_slice_get xs k x x is)

pub mirrors_more : (uid k : ℕ) (ms : List Mirror) (m : Mirror) (old mid new : List ℕ) → slice_get ms k ≡ Some m → mid ≡ old ++ put_so_far uid (take k ms)
    → new ≡ mid ++ spelling ff_mirror4 (mirror_under uid m) → new ≡ old ++ put_so_far uid (take (k + 1) ms)
mirrors_more uid k ms m old mid new is before put =
    let one = spelling ff_mirror4 (mirror_under uid m) in
    let all : put_so_far uid (take (k + 1) ms) ≡ put_so_far uid (take k ms) ++ one =
    ap (put_so_far uid) (take_next ms k m is) ∙ flat_map-append (λ v. spelling ff_mirror4 (mirror_under uid v)) (take k ms) (m ∷ []) ∙ ap (λ (xs : List ℕ). put_so_far uid (take k ms) ++ xs) (append-nil one) in
    put ∙ ap (λ (xs : List ℕ). xs ++ one) before ∙ append_assoc old (put_so_far uid (take k ms)) one ∙ ap (λ (xs : List ℕ). old ++ xs) (sym all)

-- the address of a device, part by part

abbrev version_text : List ℕ
version_text = word 3 ++ (word 0 ++ (word 65536 ++ (word 65536 ++ word 0)))

abbrev tcp_text : List ℕ
tcp_text = word 3 ++ padded (codes "tcp")

abbrev versions_text : List ℕ
versions_text = word 1 ++ version_text

regroup : (text count : List ℕ) → ((((word 1 ++ tcp_text) ++ count) ++ text) ++ versions_text) ≡ (word 1 ++ ((tcp_text ++ (count ++ text)) ++ [])) ++ (word 1 ++ (version_text ++ []))
regroup text count = simp (append_assoc, append-nil)

pub device_is : (a : AddressValue) (n : ℕ) (text first second third fourth fifth : List ℕ) → n ≡ length (address_text a) → text ≡ address_text a → first ≡ word 1 → second ≡ first ++ tcp_text
    → third ≡ second ++ word n → fourth ≡ third ++ padded text → fifth ≡ fourth ++ versions_text → fifth ≡ device_body a
device_is a n text first second third fourth fifth many is p q r s t =
    t ∙ ap (λ (xs : List ℕ). xs ++ versions_text) (s ∙ (λ i. (r ∙ ap (λ (xs : List ℕ). xs ++ word n) (q ∙ ap (λ (xs : List ℕ). xs ++ tcp_text) p)) i ++ padded (is i)))
    ∙ (λ i. (((word 1 ++ tcp_text) ++ word (many i)) ++ padded (address_text a)) ++ versions_text)
    ∙ regroup (padded (address_text a)) (word (length (address_text a)))
