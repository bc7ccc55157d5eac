-- A layout is read as it was granted.
use Rattle.std.proofs.Common.{◌≡◌, ℕ, zero, suc, ◌+◌, ◌*◌, ◌^◌, ◌<◌, ◌≤◌, Bool, true, false, not, ◌&&◌, ◌||◌, eqb, ltb, List, [], ◌∷◌, ◌++◌, length, drop, map, replicate, Option, Some, None, Result, Ok, refl, sym, ap, subst, ◌∙◌, arith, append-nil, length-append}
use Rattle.std.specs.Prelude.{IsTrue, bytes_eq, decimal, nat_le}
use Rattle.std.specs.Int.{w64, from_be_bytes}
use Rattle.std.specs.List.{AllByRecursion, list_any}
use Rattle.std.specs.Str.{is_utf8}
use Rattle.std.proofs.Math.Seq.{drop-append-add}
use Rattle.std.proofs.lemmas.Bool.{le-ltb, le-leb, leb-true, eq-eqb, and_parts}
use Rattle.std.proofs.lemmas.Fmt.{IsAscii-decimal, length-decimal-le}
use Rattle.std.proofs.lemmas.List.{length-map, length-replicate}
use Rattle.std.proofs.lemmas.Nat.{from_be_bytes-to_be_bytes_8}
use Rattle.std.proofs.lemmas.Slice.Eq.{bytes_eq-Decides}
use Rattle.std.proofs.lemmas.Str.{is_utf8-from_IsUtf8, IsUtf8-from_ascii}
use Rattle.ff_xdr.specs.declared.error.XdrError.{XdrError}
use Rattle.ff_xdr.specs.Exact.{IsExact}
use Rattle.ff_xdr.specs.Form.{Form, Value, Fits, spelling, long}
use Rattle.ff_xdr.specs.Reading.{Read, reading, whole}
use Rattle.ff_xdr.proofs.CutShort.{length-long}
use Rattle.nfs4_types.specs.declared.stateid.Stateid.{Stateid}
use Rattle.nfs4_types.specs.Handles.{file_number_of}
use Rattle.nfs4_types.specs.Ids.{device_id_of}
use Rattle.ff_layout.specs.DataServer.{ff_data_server4}
use Rattle.ff_layout.specs.Mirror.{ff_mirror4}
use Rattle.ff_layout.specs.Layout.{ff_layout4}
use Rattle.cluster_model.specs.declared.ids.Mirror.{Mirror}
use Rattle.cluster_model.specs.Mirrors.{has_server, are_on_different_servers, are_mirrors}
use Rattle.client_file_calls.specs.declared.grant.GrantedMirror.{GrantedMirror}
use Rattle.client_file_calls.specs.LayoutGrants.{user_number_in, server_number, server_in, granted_mirror_at, granted_mirror_of, data_server_of, under_one, joined_mirror, mirrors_under, granted_to, grant_by, layout_grant_of}
use Rattle.client_file_calls.specs.FileResults.{layout_get_ok}
use Rattle.client_file_calls.proofs.Numbers.{number_is}
use Rattle.granted_layouts.specs.GrantedBodies.{server_under, mirror_under, layout_under, layout_body, layout_result, whole_layout}
use Rattle.same_layout.specs.SameLayout.{CanBeGranted, IsReadAsGranted, unseen}

-- ---- a value that is all the bytes

whole_all : {M : Type 0} (bytes : List ℕ) (x : M × ℕ) (r : Read M) → r ≡ Ok x → x.1 ≡ length bytes → whole bytes r ≡ Ok x.0
whole_all bytes x r is end =
    let left : ltb x.1 (length bytes) ≡ false = le-ltb _ _ (omega (arith, end)) in
    rw is (rw left refl)

whole_spelled : (form : Form) → IsExact form → (v : Value form) → Fits form v → whole (spelling form v) (reading form (spelling form v) 0) ≡ Ok v
whole_spelled form exact v fits =
    let read = exact.again v [] [] fits in
    let all : spelling form v ++ [] ≡ spelling form v = append-nil (spelling form v) in
    let here : reading form (spelling form v) 0 ≡ Ok (v, 0 + length (spelling form v)) = subst (λ (bytes : List ℕ). reading form bytes 0 ≡ Ok (v, 0 + length (spelling form v))) all read in
    whole_all (spelling form v) (v, 0 + length (spelling form v)) (reading form (spelling form v) 0) here (omega arith)

-- ---- the layout has a spelling

text_fits : (uid : ℕ) → uid < 2 ^ 32 → (length (decimal uid) ≤ 4294967295) × IsTrue (is_utf8 (decimal uid))
text_fits uid small =
    (omega (arith, length-decimal-le 10 uid (omega arith) (omega (arith, small)) (omega (arith, small))), is_utf8-from_IsUtf8 (decimal uid) (IsUtf8-from_ascii (decimal uid) (IsAscii-decimal uid (omega (arith, small)))))

device_bytes : (server : ℕ) → length (replicate 8 0 ++ long server) ≡ 16
device_bytes server = omega (arith, length-append (replicate 8 0) (long server), length-replicate {A = ℕ} 8 0, length-long server)

server_fits : (uid : ℕ) (m : Mirror) → uid < 2 ^ 32 → Fits ff_data_server4 (server_under uid m)
server_fits uid m small =
    let text = text_fits uid small in
    (device_bytes m.id.server, (omega arith, ((omega arith, length-replicate {A = ℕ} 12 0), ((omega arith, (omega (arith, length-long m.id.fileid), tt)), (text, text)))))

mirrors_fit : (uid : ℕ) (ms : List Mirror) → uid < 2 ^ 32 → AllByRecursion (Fits ff_mirror4) (map (mirror_under uid) ms)
mirrors_fit uid [] small = tt
mirrors_fit uid (m ∷ ms) small = ((omega arith, (server_fits uid m small, tt)), mirrors_fit uid ms small)

few_of_mirrors : (ms : List Mirror) → are_mirrors ms ≡ true → length ms ≤ 4
few_of_mirrors ms proper = leb-true (length ms) 4 (and_parts (nat_le (length ms) 4) (are_on_different_servers ms) proper).0

layout_fits : (uid : ℕ) (ms : List Mirror) → uid < 2 ^ 32 → are_mirrors ms ≡ true → Fits ff_layout4 (layout_under uid ms)
layout_fits uid ms small proper =
    (omega arith, ((omega (arith, length-map ms (mirror_under uid), few_of_mirrors ms proper), mirrors_fit uid ms small), (omega arith, omega arith)))

-- ---- what is read of one mirror

same_bytes : (xs : List ℕ) → bytes_eq xs xs ≡ true
same_bytes xs = (bytes_eq-Decides xs xs).1 refl

server_again : (server : ℕ) → 1 ≤ server → server ≤ 16 → server_in (device_id_of server).0 ≡ Some server
unfolding long
server_again server least most =
    let behind : drop 8 (replicate 8 0 ++ long server) ≡ long server = refl in
    let number : from_be_bytes w64 (drop 8 (replicate 8 0 ++ long server)) ≡ server = ap (from_be_bytes w64) behind ∙ from_be_bytes-to_be_bytes_8 server (omega (arith, most)) in
    ap (λ n. server_number n (bytes_eq (device_id_of server).0 (device_id_of n).0)) number
    ∙ ap (server_number server) (same_bytes (device_id_of server).0)
    ∙ in_range
  where
    in_range : server_number server true ≡ Some server
    in_range = rw (le-leb 1 server least, le-leb server 16 most) refl

handle_again : (fileid : ℕ) → fileid < 2 ^ 64 → file_number_of (long fileid) ≡ Some fileid
unfolding long
handle_again fileid small = ap Some (from_be_bytes-to_be_bytes_8 fileid small)

user_again : (uid : ℕ) → uid < 2 ^ 32 → user_number_in (decimal uid) ≡ Some uid
user_again uid small = sym (number_is (decimal uid) (Some uid) (refl, small))

abbrev granted_as : ℕ → Mirror → GrantedMirror
granted_as uid m = record { mirror = unseen m; uid = uid }

mirror_again : (uid : ℕ) (m : Mirror) → uid < 2 ^ 32 → CanBeGranted m → granted_mirror_of (mirror_under uid m) ≡ Some (granted_as uid m)
mirror_again uid m small can =
    rw (same_bytes (decimal uid), server_again m.id.server can.0 can.1, handle_again m.id.fileid can.2, user_again uid small) refl

-- ---- what is read of all

under_again : (uid : ℕ) (m : Mirror) → uid < 2 ^ 32 → CanBeGranted m → under_one uid (granted_mirror_of (mirror_under uid m)) ≡ Some (unseen m)
under_again uid m small can =
    let same : eqb uid uid ≡ true = eq-eqb uid uid refl in
    ap (under_one uid) (mirror_again uid m small can) ∙ rw same refl

all_again : (uid : ℕ) (ms : List Mirror) → uid < 2 ^ 32 → AllByRecursion CanBeGranted ms → mirrors_under uid (map (mirror_under uid) ms) ≡ Some (map unseen ms)
all_again uid [] small can = refl
all_again uid (m ∷ ms) small can =
    (λ i. joined_mirror (under_again uid m small can.0 i) (all_again uid ms small can.1 i))

same_server_of : (ms : List Mirror) (server : ℕ) → has_server (map unseen ms) server ≡ has_server ms server
same_server_of [] server = refl
same_server_of (m ∷ ms) server = ap (λ b. eqb m.id.server server || b) (same_server_of ms server)

different_again : (ms : List Mirror) → are_on_different_servers (map unseen ms) ≡ are_on_different_servers ms
different_again [] = refl
different_again (m ∷ ms) = (λ i. not (same_server_of ms m.id.server i) && different_again ms i)

proper_again : (ms : List Mirror) → are_mirrors (map unseen ms) ≡ are_mirrors ms
proper_again ms = (λ i. nat_le (length-map ms unseen i) 4 && different_again ms i)

granted_again : (stateid : Stateid) (uid : ℕ) (ms : List Mirror) → are_mirrors ms ≡ true → granted_to stateid uid (Some (map unseen ms)) ≡ Some (record { stateid = stateid; uid = record { 0 = uid }; mirrors = map unseen ms })
granted_again stateid uid ms proper = rw (proper_again ms ∙ proper) refl

layout_again : (stateid : Stateid) (uid : ℕ) (ms : List Mirror) → uid < 2 ^ 32 → 1 ≤ length ms → are_mirrors ms ≡ true → AllByRecursion CanBeGranted ms
    → layout_grant_of stateid (Ok (layout_under uid ms)) ≡ Some (record { stateid = stateid; uid = record { 0 = uid }; mirrors = map unseen ms })
layout_again stateid uid [] small some proper can = absurd (omega (arith, some))
layout_again stateid uid (m ∷ ms) small some proper can =
    ap (grant_by stateid (map (mirror_under uid) (m ∷ ms))) (mirror_again uid m small can.0)
    ∙ ap (granted_to stateid uid) (all_again uid (m ∷ ms) small can)
    ∙ granted_again stateid uid (m ∷ ms) proper

pub read_as_granted : IsExact ff_layout4 → IsReadAsGranted
read_as_granted exact stateid uid mirrors small some proper can =
    ap (layout_grant_of stateid) (whole_spelled ff_layout4 exact (layout_under uid mirrors) (layout_fits uid mirrors small proper))
    ∙ layout_again stateid uid mirrors small some proper can
