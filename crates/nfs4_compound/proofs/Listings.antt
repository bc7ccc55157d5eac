-- The operations of a compound and the bytes that spell them.
use Rattle.std.proofs.Common.{◌≡◌, ℕ, zero, suc, ◌+◌, ◌≤◌, List, [], ◌∷◌, ◌++◌, length, Ok, Err, refl, sym, ap, subst, ◌∙◌, arith, append_assoc}
use Rattle.std.proofs.lemmas.List.{length-append}
use Rattle.std.specs.List.{flat_map}
use Rattle.ff_xdr.specs.Form.{Form, Value, Fits, spelling}
use Rattle.ff_xdr.specs.Reading.{Read, ◌>>=◌, reading, many_at}
use Rattle.ff_xdr.specs.Laws.{IsBytes, Stands, IsReadAgain, IsSpelledSo}
use Rattle.ff_xdr.proofs.Places.{bind_ok, ok_is, stands_nothing, stands_join}
use Rattle.nfs4_compound.specs.declared.stop.Stop.{Stop}
use Rattle.nfs4_compound.specs.declared.stop.Stop.TheVariants as stop
use Rattle.nfs4_compound.specs.Operations.{OpList, left_at, stop_at, with_first, operations}
use Rattle.nfs4_compound.specs.Laws.{IsStop, SpellsOps, AreSpelledSo, AreReadAgain, AreGivenWhole}

-- one operation in front of others that are spelled so
first_spelled : (form : Form) (count : ℕ) (bytes : List ℕ) (at : ℕ) (v : Value form) (to : ℕ) (others : OpList form) → Fits form v → Stands bytes at (spelling form v) to
    → SpellsOps form count bytes to others → SpellsOps form (suc count) bytes at (record { values = v ∷ others.values; stop = others.stop })
first_spelled form count bytes at v to others fits stands s = record {
  to = s.to;
  left = s.left;
  all = omega (arith, s.all);
  fits = (fits, s.fits);
  stands = stands_join bytes at (spelling form v) to (flat_map (λ w. spelling form w) others.values) s.to stands s.stands;
  stops = s.stops;
}

spelled_by : (form : Form) → IsSpelledSo form → (count : ℕ) (bytes : List ℕ) (at : ℕ) → IsBytes bytes → at ≤ length bytes
    → ((to : ℕ) → to ≤ length bytes → SpellsOps form count bytes to (operations form count bytes to))
    → (read : Read (Value form)) → reading form bytes at ≡ read
    → SpellsOps form (suc count) bytes at (with_first read (λ e. stop_at form bytes at e) (λ to. operations form count bytes to))
spelled_by form spelled count bytes at are_bytes within others (Ok v) is =
    let s = spelled bytes at v.0 v.1 are_bytes within is in
    first_spelled form count bytes at v.0 v.1 (operations form count bytes v.1) s.0 s.1 (others v.1 s.1.within)
spelled_by form spelled count bytes at are_bytes within others (Err e) is = record {
  to = at;
  left = suc count;
  all = omega arith;
  fits = tt;
  stands = stands_nothing bytes at within;
  stops = (e, is, refl);
}

pub spelled_so : (form : Form) → IsSpelledSo form → AreSpelledSo form
spelled_so form spelled zero bytes at are_bytes within = record {
  to = at;
  left = 0;
  all = refl;
  fits = tt;
  stands = stands_nothing bytes at within;
  stops = refl;
}
spelled_so form spelled (suc count) bytes at are_bytes within =
    spelled_by form spelled count bytes at are_bytes within (λ to le. spelled_so form spelled count bytes to are_bytes le) (reading form bytes at) refl

-- ---- what is spelled is given

stopped : (form : Form) (bytes : List ℕ) (at left : ℕ) (s : Stop) → IsStop form bytes at left s → operations form left bytes at ≡ record { values = []; stop = s }
stopped form bytes at zero s is = ap (λ t. record { values = []; stop = t }) (sym is)
stopped form bytes at (suc left) s (e, read, is) =
    ap (λ r. with_first r (λ f. stop_at form bytes at f) (λ to. operations form left bytes to)) read ∙ ap (λ t. record { values = []; stop = t }) (sym is)

one_given : (form : Form) (count total : ℕ) (bytes : List ℕ) (at : ℕ) (v : Value form) (to : ℕ) (others : OpList form) → total ≡ suc count → reading form bytes at ≡ Ok (v, to)
    → operations form count bytes to ≡ others → operations form total bytes at ≡ record { values = v ∷ others.values; stop = others.stop }
one_given form count total bytes at v to others is read rest =
    ap (λ n. operations form n bytes at) is
    ∙ ap (λ r. with_first r (λ e. stop_at form bytes at e) (λ place. operations form count bytes place)) read
    ∙ ap (λ (l : OpList form). record { values = v ∷ l.values; stop = l.stop }) rest

pub read_again : (form : Form) → IsReadAgain form → AreReadAgain form
read_again form again [] left front rest s fits is =
    let bytes = front ++ [] ++ rest in
    let here : length front + 0 ≡ length front = omega arith in
    let none : 0 + left ≡ left = omega arith in
    ap (λ n. operations form n bytes (length front)) none ∙ stopped form bytes (length front) left s (subst (λ at. IsStop form bytes at left s) here is)
read_again form again (v ∷ values) left front rest s fits is =
    let first = spelling form v in
    let text = flat_map (λ w. spelling form w) values in
    let bytes = front ++ (first ++ text) ++ rest in
    let same : bytes ≡ (front ++ first) ++ text ++ rest = ap (λ t. t ++ rest) (sym (append_assoc front first text)) in
    let there : front ++ first ++ (text ++ rest) ≡ bytes = sym (append_assoc (front ++ first) text rest) ∙ sym same in
    let read = subst (λ b. reading form b (length front) ≡ Ok (v, length front + length first)) there (again v front (text ++ rest) fits.0) in
    let to = length-append front first in
    let place : length front + length (first ++ text) ≡ length (front ++ first) + length text = omega (arith, to, length-append first text) in
    let stop_there = subst (λ b. IsStop form b (length (front ++ first) + length text) left s) same (subst (λ at. IsStop form bytes at left s) place is) in
    let others = read_again form again values left (front ++ first) rest s fits.1 stop_there in
    let others_here = subst (λ b. operations form (length values + left) b (length (front ++ first)) ≡ record { values = values; stop = s }) (sym same) others in
    let at_place = subst (λ at. operations form (length values + left) bytes at ≡ record { values = values; stop = s }) to others_here in
    let total : suc (length values) + left ≡ suc (length values + left) = omega arith in
    one_given form (length values + left) (length (v ∷ values) + left) bytes (length front) v (length front + length first) (record { values = values; stop = s }) total read at_place

-- ---- what is read as an array is given whole

pub given_whole : (form : Form) → AreGivenWhole form
given_whole form zero bytes at values to is =
    let same = ok_is ([], at) (values, to) is in
    ap (λ p. record { values = p.0; stop = stop.End (left_at bytes p.1) }) same
given_whole form (suc count) bytes at values to is =
    let each : ℕ → Read (Value form) = λ place. reading form bytes place in
    let first = bind_ok (reading form bytes at) (λ v. many_at each count v.1 >>= λ others. Ok (v.0 ∷ others.0, others.1)) (values, to) is in
    let others = bind_ok (many_at each count first.0.1) (λ others. Ok (first.0.0 ∷ others.0, others.1)) (values, to) first.2 in
    let same = ok_is (first.0.0 ∷ others.0.0, others.0.1) (values, to) others.2 in
    let rest = given_whole form count bytes first.0.1 others.0.0 others.0.1 others.1 in
    one_given form count (suc count) bytes at first.0.0 first.0.1 (record { values = others.0.0; stop = stop.End (left_at bytes others.0.1) }) refl first.1 rest
    ∙ ap (λ p. record { values = p.0; stop = stop.End (left_at bytes p.1) }) same
