-- The address of a device, one server after the other.
use Rattle.std.proofs.Common.{◌≡◌, ℕ, ◌+◌, ◌<◌, Bool, true, false, cond, List, ◌∷◌, map, length, drop, get_or, Option, Some, sym, ap, ◌∙◌}
use Rattle.std.specs.Prelude.{bytes_eq}
use Rattle.std.proofs.Math.Seq.{drop-cons}
use Rattle.std.proofs.Common.{add-one}
use Rattle.nfs4_types.specs.Ids.{device_id_of}
use Rattle.device_addr.specs.Universal.{AddressValue, address_value}
use Rattle.device_addr.specs.declared.net_addr.NetAddr.{NetAddr}
use Rattle.mds_rule.specs.LayoutOps.{device_from}

here : (n i : ℕ) (xs : List NetAddr) (d : NetAddr) (device : List ℕ) (b : Bool) → i < length xs → bytes_eq (device_id_of n).0 device ≡ b
    → device_from n (map address_value (drop i xs)) device ≡ cond b (Some (address_value (get_or xs i d))) (device_from (n + 1) (map address_value (drop (i + 1) xs)) device)
here n i xs d device b within is =
    ap (λ ys. device_from n (map address_value ys) device) (drop-cons xs i d within ∙ ap (λ k. get_or xs i d ∷ drop k xs) (sym (add-one i)))
    ∙ ap (λ b. cond b (Some (address_value (get_or xs i d))) (device_from (n + 1) (map address_value (drop (i + 1) xs)) device)) is

pub found_here : (n i : ℕ) (xs : List NetAddr) (d : NetAddr) (device : List ℕ) (all : Option AddressValue) → i < length xs → bytes_eq (device_id_of n).0 device ≡ true
    → all ≡ device_from n (map address_value (drop i xs)) device → Some (address_value (get_or xs i d)) ≡ all
found_here n i xs d device all within is before = sym (before ∙ here n i xs d device true within is)

pub not_here : (n i : ℕ) (xs : List NetAddr) (d : NetAddr) (device : List ℕ) (all : Option AddressValue) → i < length xs → bytes_eq (device_id_of n).0 device ≡ false
    → all ≡ device_from n (map address_value (drop i xs)) device → all ≡ device_from (n + 1) (map address_value (drop (i + 1) xs)) device
not_here n i xs d device all within is before = before ∙ here n i xs d device false within is
