-- How a table of devices is searched, and grows.
use Rattle.std.proofs.Common.{◌≡◌, ◌≢◌, ℕ, ◌<◌, Bool, true, false, cond, List, [], ◌∷◌, ◌++◌, length, Option, None, Some, is_some, Result, Ok, Err, is_err, refl, sym, ap, ◌∙◌, subst, arith}
use Rattle.std.specs.Prelude.{bytes_eq, OnOk}
use Rattle.std.specs.Map.{lookup}
use Rattle.std.proofs.lemmas.List.{length-append}
use Rattle.std.proofs.lemmas.Slice.Eq.{bytes_eq-Decides}
use Rattle.nfs4_types.specs.declared.ids.DeviceId.{DeviceId}
use Rattle.device_addr.specs.declared.net_addr.NetAddr.{NetAddr}
use Rattle.device_addr.specs.Table.{AreIdsDistinct, IsDeviceTable, device_at}

-- the map's search is `device_at`
pub found : (table : List (DeviceId × NetAddr)) (id : DeviceId) → lookup (λ (k : DeviceId). bytes_eq id.0 k.0) table ≡ device_at table id
found [] id = refl
found (p ∷ rest) id = ap (λ r. cond (bytes_eq id.0 p.0.0) (Some p.1) r) (found rest id)

is_there : (o : Option NetAddr) → is_some o ≡ true → o ≢ None
is_there (Some a) some = λ none. cc
is_there None some = absurd (cc)

is_not_there : (o : Option NetAddr) → is_some o ≡ false → o ≡ None
is_not_there (Some a) none = absurd (cc)
is_not_there None none = refl

-- what the map's test says
pub there : (table : List (DeviceId × NetAddr)) (id : DeviceId) (b : Bool) → b ≡ is_some (lookup (λ (k : DeviceId). bytes_eq id.0 k.0) table) → b ≡ true → device_at table id ≢ None
there table id b test is = is_there _ (ap is_some (sym (found table id)) ∙ sym test ∙ is)

pub not_there : (table : List (DeviceId × NetAddr)) (id : DeviceId) (b : Bool) → b ≡ is_some (lookup (λ (k : DeviceId). bytes_eq id.0 k.0) table) → b ≡ false → device_at table id ≡ None
not_there table id b test is = is_not_there _ (ap is_some (sym (found table id)) ∙ sym test ∙ is)

-- what holds at `Ok`
pub when_ok : {A E : Type 0} (r : Result A E) (P : Type 0) → is_err r ≡ false → OnOk r P → P
when_ok (Ok x) P ok p = p
when_ok (Err e) P ok p = absurd (cc (ok))

-- an id that is not there is not that of the first pair, nor behind it
not_first : (b : Bool) (x : NetAddr) (o : Option NetAddr) → cond b (Some x) o ≡ None → (b ≡ false) × (o ≡ None)
not_first true x o none = absurd (cc)
not_first false x o none = (refl, none)

other_way : (xs ys : List ℕ) → bytes_eq xs ys ≡ false → bytes_eq ys xs ≡ false
other_way xs ys other = by (bytes_eq ys xs) refl
  where
    by : (b : Bool) → bytes_eq ys xs ≡ b → bytes_eq ys xs ≡ false
    by true e = let same = (bytes_eq-Decides xs ys).1 (sym ((bytes_eq-Decides ys xs).0 e)) in absurd (cc (other, same))
    by false e = e

-- an id that is not there is not there either behind a pair of another id
still_not_there : (table : List (DeviceId × NetAddr)) (q id : DeviceId) (a : NetAddr) → device_at table q ≡ None → bytes_eq q.0 id.0 ≡ false → device_at (table ++ (id, a) ∷ []) q ≡ None
still_not_there [] q id a none other = rw other refl
still_not_there (p ∷ rest) q id a none other =
    let first = not_first (bytes_eq q.0 p.0.0) p.1 (device_at rest q) none in
    rw (first.0) (still_not_there rest q id a first.1 other)

distinct_push : (table : List (DeviceId × NetAddr)) (id : DeviceId) (a : NetAddr) → AreIdsDistinct table → device_at table id ≡ None → AreIdsDistinct (table ++ (id, a) ∷ [])
distinct_push [] id a distinct none = (refl, tt)
distinct_push (p ∷ rest) id a distinct none =
    let first = not_first (bytes_eq id.0 p.0.0) p.1 (device_at rest id) none in
    (still_not_there rest p.0 id a distinct.0 (other_way id.0 p.0.0 first.0), distinct_push rest id a distinct.1 first.1)

-- one device more
pub table_push : (table new : List (DeviceId × NetAddr)) (id : DeviceId) (a : NetAddr) → IsDeviceTable table → device_at table id ≡ None → length table < 16 → new ≡ table ++ (id, a) ∷ []
    → IsDeviceTable new
table_push table new id a proper none few is =
    subst IsDeviceTable (sym is) (record {
      distinct = distinct_push table id a proper.distinct none;
      few = omega (arith, few, length-append table ((id, a) ∷ []));
    })
