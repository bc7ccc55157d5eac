-- Lists of more values than are taken: a layout's mirrors, and the devices of a reply.
use Rattle.std.proofs.Common.{◌≡◌, ℕ, suc, ◌<◌, Bool, true, false, ◌&&◌, List, [], ◌∷◌, length, Option, Some, None, Ok, refl, ap, arith}
use Rattle.std.specs.Prelude.{nat_eq, nat_le}
use Rattle.std.proofs.lemmas.Bool.{eqb-true, lt-leb}
use Rattle.ff_xdr.specs.Form.{Value}
use Rattle.ff_layout.specs.Mirror.{ff_mirror4}
use Rattle.nfs4_types.specs.declared.stateid.Stateid.{Stateid}
use Rattle.nfs4_compound.specs.Results.{resop4}
use Rattle.cluster_model.specs.declared.ids.Mirror.{Mirror}
use Rattle.client_file_calls.specs.declared.grant.GrantedMirror.{GrantedMirror}
use Rattle.client_compounds.specs.MdsLists.{are_more}
use Rattle.client_compounds.specs.MdsResults.{sequence_ok}
use Rattle.client_file_calls.specs.LayoutGrants.{joined_mirror, under_one, granted_mirror_of, mirrors_under, granted_to, grant_by, layout_grant_of}
use Rattle.client_file_calls.specs.FileResults.{device_info_results}

pub more_long : {V : Type 0} (values : List V) → are_more values ≡ true → 5 < length values
more_long [] more = absurd cc
more_long (a ∷ []) more = absurd cc
more_long (a ∷ b ∷ []) more = absurd cc
more_long (a ∷ b ∷ c ∷ []) more = absurd cc
more_long (a ∷ b ∷ c ∷ d ∷ []) more = absurd cc
more_long (a ∷ b ∷ c ∷ d ∷ e ∷ []) more = absurd cc
more_long (a ∷ b ∷ c ∷ d ∷ e ∷ g ∷ rest) more = omega arith

-- ---- mirrors

abbrev OfLength : ℕ → Option (List Mirror) → Type 0
OfLength n None = Unit {0}
OfLength n (Some xs) = length xs ≡ n

joined_length : (m : Option Mirror) (o : Option (List Mirror)) (n : ℕ) → OfLength n o → OfLength (suc n) (joined_mirror m o)
joined_length None o n h = tt
joined_length (Some m) None n h = tt
joined_length (Some m) (Some xs) n h = ap suc h

lengths : (uid : ℕ) (ms : List (Value ff_mirror4)) → OfLength (length ms) (mirrors_under uid ms)
lengths uid [] = refl
lengths uid (m ∷ ms) = joined_length (under_one uid (granted_mirror_of m)) (mirrors_under uid ms) (length ms) (lengths uid ms)

too_many : (s : Stateid) (uid n : ℕ) (o : Option (List Mirror)) → OfLength n o → 4 < n → None ≡ granted_to s uid o
too_many s uid n None h many = refl
too_many s uid n (Some xs) h many = rw (lt-leb (length xs) 4 (omega (arith, h, many))) refl

by_first : (s : Stateid) (ms : List (Value ff_mirror4)) (o : Option GrantedMirror) → 4 < length ms → None ≡ grant_by s ms o
by_first s ms None many = refl
by_first s ms (Some first) many = too_many s first.uid (length ms) (mirrors_under first.uid ms) (lengths first.uid ms) many

pub none_of_many : (s : Stateid) (stripe flags hint : ℕ) (ms : List (Value ff_mirror4)) → 4 < length ms → None ≡ layout_grant_of s (Ok (stripe, (ms, (flags, hint))))
none_of_many s stripe flags hint [] many = refl
none_of_many s stripe flags hint (m ∷ rest) many = by_first s (m ∷ rest) (granted_mirror_of m) many

-- ---- devices

never : (s : Bool) (n count : ℕ) → 4 < n → (t : Bool) → nat_eq n count ≡ t → (s && (t && nat_le count 4)) ≡ false
never false n count many t is = refl
never true n count many false is = refl
never true n count many true is = lt-leb count 4 (omega (arith, many, eqb-true n count is))

pub none_of_more : (count : ℕ) (values : List (Value resop4)) → are_more values ≡ true → None ≡ device_info_results count values
none_of_more count [] more = refl
none_of_more count (s ∷ rest) more =
    rw (never (sequence_ok s) (length rest) count (omega (arith, more_long (s ∷ rest) more)) (nat_eq (length rest) count) refl) refl
