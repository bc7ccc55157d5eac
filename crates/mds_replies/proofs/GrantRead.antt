-- What a client reads of a layout that was granted: where it reads any, it is this layout.
use Rattle.std.proofs.Common.{◌≡◌, ℕ, ◌+◌, ◌^◌, ◌<◌, ◌≤◌, Bool, true, false, cond, ◌&&◌, List, [], ◌∷◌, ◌++◌, length, drop, map, replicate, Option, Some, None, Ok, refl, sym, ap, ◌∙◌, arith, length-append}
use Rattle.std.specs.Prelude.{IsTrue, bytes_eq, decimal, nat_le, ◌-◌}
use Rattle.std.specs.Int.{w64, from_be_bytes}
use Rattle.std.specs.List.{AllByRecursion, flat_map}
use Rattle.std.specs.Str.{is_utf8}
use Rattle.std.proofs.lemmas.Bool.{eq-eqb}
use Rattle.std.proofs.lemmas.Fmt.{IsAscii-decimal, length-decimal-le}
use Rattle.std.proofs.lemmas.List.{length-map, length-replicate}
use Rattle.std.proofs.lemmas.Nat.{from_be_bytes-to_be_bytes_8}
use Rattle.std.proofs.lemmas.Option.{same_Some, none-some}
use Rattle.std.proofs.lemmas.Slice.Eq.{bytes_eq-Decides}
use Rattle.std.proofs.lemmas.Str.{is_utf8-from_IsUtf8, IsUtf8-from_ascii}
use Rattle.ff_xdr.specs.Arms.{arm}
use Rattle.ff_xdr.specs.Form.{Value, Fits, spelling, word, long, padded}
use Rattle.ff_xdr.proofs.CutShort.{length-long}
use Rattle.ff_xdr.proofs.Fields.{length-word}
use Rattle.ff_xdr.proofs.StoppedText.{length-padded}
use Rattle.nfs4_types.specs.declared.stateid.Stateid.{Stateid}
use Rattle.nfs4_types.specs.Handles.{file_number_of}
use Rattle.nfs4_types.specs.Ids.{device_id_of}
use Rattle.ff_layout.specs.DataServer.{ff_data_server4}
use Rattle.ff_layout.specs.Mirror.{ff_mirror4}
use Rattle.ff_layout.specs.Layout.{ff_layout4}
use Rattle.nfs4_file_ops.specs.Layout4.{layout4}
use Rattle.nfs4_compound.specs.Results.{resop4}
use Rattle.cluster_model.specs.declared.ids.Mirror.{Mirror}
use Rattle.cluster_model.specs.Mirrors.{are_mirrors}
use Rattle.ds_calls.proofs.DsCallsAgain.{whole_spelled}
use Rattle.client_file_calls.specs.declared.grant.LayoutGrant.{LayoutGrant}
use Rattle.client_file_calls.specs.LayoutGrants.{user_number_in, server_number, server_in, granted_mirror_at, granted_mirror_of, under_one, joined_mirror, mirrors_under, granted_to, grant_by, layout_grant_of}
use Rattle.client_file_calls.specs.FileResults.{layout_get_ok}
use Rattle.client_file_calls.proofs.Numbers.{number_is}
use Rattle.granted_layouts.specs.GrantedBodies.{server_under, mirror_under, layout_under, layout_body, layout_length, layout_result, whole_layout}
use Rattle.same_layout.specs.SameLayout.{unseen}
use Rattle.mds_replies.specs.AnsweredRequests.{FitsMirrorId}

-- ---- what fits

text_fits : (uid : ℕ) → uid < 2 ^ 32 → (length (decimal uid) ≤ 4294967295) × IsTrue (is_utf8 (decimal uid))
text_fits uid small =
    (omega (arith, length-decimal-le 10 uid (omega arith) (omega (arith, small)) (omega (arith, small))), is_utf8-from_IsUtf8 (decimal uid) (IsUtf8-from_ascii (decimal uid) (IsAscii-decimal uid (omega (arith, small)))))

device_bytes : (server : ℕ) → length (replicate 8 0 ++ long server) ≡ 16
device_bytes server = omega (arith, length-append (replicate 8 0) (long server), length-replicate {A = ℕ} 8 0, length-long server)

server_fits : (uid : ℕ) (m : Mirror) → uid < 2 ^ 32 → Fits ff_data_server4 (server_under uid m)
server_fits uid m small =
    let text = text_fits uid small in
    (device_bytes m.id.server, (omega arith, ((omega arith, length-replicate {A = ℕ} 12 0), ((omega arith, (omega (arith, length-long m.id.fileid), tt)), (text, text)))))

mirrors_fit : (uid : ℕ) (ms : List Mirror) → uid < 2 ^ 32 → AllByRecursion (Fits ff_mirror4) (map (mirror_under uid) ms)
mirrors_fit uid [] small = tt
mirrors_fit uid (m ∷ ms) small = ((omega arith, (server_fits uid m small, tt)), mirrors_fit uid ms small)

layout_fits : (uid : ℕ) (ms : List Mirror) → uid < 2 ^ 32 → length ms ≤ 4294967295 → Fits ff_layout4 (layout_under uid ms)
layout_fits uid ms small few = (omega arith, ((omega (arith, length-map ms (mirror_under uid), few), mirrors_fit uid ms small), (omega arith, omega arith)))

-- ---- how long it is: its body is no longer than its layout, and has a byte for each mirror

mirror_long : (uid : ℕ) (m : Mirror) → 1 ≤ length (spelling ff_mirror4 (mirror_under uid m))
mirror_long uid m =
    let text = flat_map (λ (v : Value ff_data_server4). spelling ff_data_server4 v) (mirror_under uid m) in
    let size : length (word 1 ++ text) ≡ length (word 1) + length text = length-append (word 1) text in
    let four = length-word 1 in omega (arith, size, four)

mirrors_long : (uid : ℕ) (ms : List Mirror) → length ms ≤ length (flat_map (λ (v : Value ff_mirror4). spelling ff_mirror4 v) (map (mirror_under uid) ms))
mirrors_long uid [] = omega arith
mirrors_long uid (m ∷ ms) =
    let one = mirror_long uid m in
    let rest = mirrors_long uid ms in
    let size = length-append (spelling ff_mirror4 (mirror_under uid m)) (flat_map (λ (v : Value ff_mirror4). spelling ff_mirror4 v) (map (mirror_under uid) ms)) in
    omega (arith, one, rest, size)

body_long : (uid : ℕ) (ms : List Mirror) → length ms ≤ length (layout_body uid ms)
body_long uid ms =
    let all = flat_map (λ (v : Value ff_mirror4). spelling ff_mirror4 v) (map (mirror_under uid) ms) in
    let count = word (length (map (mirror_under uid) ms)) in
    let tail = word 1 ++ word 0 in
    let first = length-append (long 65536) ((count ++ all) ++ tail) in
    let second = length-append (count ++ all) tail in
    let third = length-append count all in
    let many = mirrors_long uid ms in omega (arith, first, second, third, many)

whole_long : (body : List ℕ) → length body ≤ length (spelling layout4 (whole_layout body))
whole_long body =
    let text = word (length body) ++ padded body in
    let a = length-append (long 0) (long (2 ^ 64 - 1) ++ (word 2 ++ (word 4 ++ text))) in
    let b = length-append (long (2 ^ 64 - 1)) (word 2 ++ (word 4 ++ text)) in
    let c = length-append (word 2) (word 4 ++ text) in
    let d = length-append (word 4) text in
    let e = length-append (word (length body)) (padded body) in
    let f = length-padded body in omega (arith, a, b, c, d, e, f)

pub body_short : (uid : ℕ) (ms : List Mirror) → layout_length uid ms ≤ 4294967295 → length (layout_body uid ms) ≤ 4294967295
body_short uid ms few = let body = whole_long (layout_body uid ms) in omega (arith, body, few)

few_mirrors : (uid : ℕ) (ms : List Mirror) → layout_length uid ms ≤ 4294967295 → length ms ≤ 4294967295
few_mirrors uid ms few = let body = body_short uid ms few in let many = body_long uid ms in omega (arith, body, many)

-- ---- what is read of one mirror

same_bytes : (xs : List ℕ) → bytes_eq xs xs ≡ true
same_bytes xs = (bytes_eq-Decides xs xs).1 refl

server_again : (server : ℕ) → server < 2 ^ 64 → server_in (device_id_of server).0 ≡ server_number server true
unfolding long
server_again server small =
    let behind : drop 8 (replicate 8 0 ++ long server) ≡ long server = refl in
    let number : from_be_bytes w64 (drop 8 (replicate 8 0 ++ long server)) ≡ server = ap (from_be_bytes w64) behind ∙ from_be_bytes-to_be_bytes_8 server small in
    ap (λ n. server_number n (bytes_eq (device_id_of server).0 (device_id_of n).0)) number
    ∙ ap (server_number server) (same_bytes (device_id_of server).0)

handle_again : (fileid : ℕ) → fileid < 2 ^ 64 → file_number_of (long fileid) ≡ Some fileid
unfolding long
handle_again fileid small = ap Some (from_be_bytes-to_be_bytes_8 fileid small)

user_again : (uid : ℕ) → uid < 2 ^ 32 → user_number_in (decimal uid) ≡ Some uid
user_again uid small = sym (number_is (decimal uid) (Some uid) (refl, small))

mirror_again : (uid : ℕ) (m : Mirror) → uid < 2 ^ 32 → FitsMirrorId m → granted_mirror_of (mirror_under uid m) ≡ granted_mirror_at (server_number m.id.server true) (Some m.id.fileid) (Some uid)
mirror_again uid m small can = rw (same_bytes (decimal uid), server_again m.id.server can.0, handle_again m.id.fileid can.1, user_again uid small) refl

-- its server is one of the cluster's, or nothing is read
abbrev is_known_server : ℕ → Bool
is_known_server n = (true && nat_le 1 n) && nat_le n 16

under_again : (uid : ℕ) (m : Mirror) → uid < 2 ^ 32 → FitsMirrorId m → under_one uid (granted_mirror_of (mirror_under uid m)) ≡ cond (is_known_server m.id.server) (Some (unseen m)) None
under_again uid m small can = ap (under_one uid) (mirror_again uid m small can) ∙ by_test (is_known_server m.id.server)
  where
    by_test : (b : Bool) → under_one uid (granted_mirror_at (cond b (Some m.id.server) None) (Some m.id.fileid) (Some uid)) ≡ cond b (Some (unseen m)) None
    by_test true = ap (λ (b : Bool). cond b (Some (unseen m)) None) (eq-eqb uid uid refl)
    by_test false = refl

-- ---- what is read of all

all_read : (uid : ℕ) (ms : List Mirror) → uid < 2 ^ 32 → AllByRecursion FitsMirrorId ms → (x : List Mirror) → mirrors_under uid (map (mirror_under uid) ms) ≡ Some x → x ≡ map unseen ms
all_read uid [] small can x is = sym (same_Some [] x is)
all_read uid (m ∷ ms) small can x is =
    by_case (is_known_server m.id.server) (mirrors_under uid (map (mirror_under uid) ms)) (λ y its. all_read uid ms small can.1 y its)
    (sym (ap (λ (o : Option Mirror). joined_mirror o (mirrors_under uid (map (mirror_under uid) ms))) (under_again uid m small can.0)) ∙ is)
  where
    by_case : (b : Bool) (o : Option (List Mirror)) → ((y : List Mirror) → o ≡ Some y → y ≡ map unseen ms) → joined_mirror (cond b (Some (unseen m)) None) o ≡ Some x → x ≡ unseen m ∷ map unseen ms
    by_case true (Some y) its joined = sym (same_Some (unseen m ∷ y) x joined) ∙ ap (λ (l : List Mirror). unseen m ∷ l) (its y refl)
    by_case true None its joined = absurd (none-some x joined)
    by_case false (Some y) its joined = absurd (none-some x joined)
    by_case false None its joined = absurd (none-some x joined)

abbrev read_grant : Stateid → ℕ → List Mirror → LayoutGrant
read_grant stateid uid ms = record { stateid = stateid; uid = record { 0 = uid }; mirrors = map unseen ms }

granted_read : (stateid : Stateid) (uid : ℕ) (ms : List Mirror) (o : Option (List Mirror)) → ((y : List Mirror) → o ≡ Some y → y ≡ map unseen ms) → (g : LayoutGrant) → granted_to stateid uid o ≡ Some g → g ≡ read_grant stateid uid ms
granted_read stateid uid ms None its g is = absurd (none-some g is)
granted_read stateid uid ms (Some y) its g is = by_test (are_mirrors y) is ∙ ap (λ (l : List Mirror). record { stateid = stateid; uid = record { 0 = uid }; mirrors = l }) (its y refl)
  where
    by_test : (b : Bool) → cond b (Some (record { stateid = stateid; uid = record { 0 = uid }; mirrors = y })) None ≡ Some g → g ≡ record { stateid = stateid; uid = record { 0 = uid }; mirrors = y }
    by_test true same = sym (same_Some _ g same)
    by_test false same = absurd (none-some g same)

layout_read_so : (stateid : Stateid) (uid : ℕ) (ms : List Mirror) → uid < 2 ^ 32 → AllByRecursion FitsMirrorId ms → (g : LayoutGrant) → layout_grant_of stateid (Ok (layout_under uid ms)) ≡ Some g → g ≡ read_grant stateid uid ms
layout_read_so stateid uid [] small can g is = absurd (none-some g is)
layout_read_so stateid uid (m ∷ ms) small can g is =
    by_test (is_known_server m.id.server) (sym (ap (grant_by stateid (map (mirror_under uid) (m ∷ ms))) (mirror_again uid m small can.0)) ∙ is)
  where
    by_test : (b : Bool) → grant_by stateid (map (mirror_under uid) (m ∷ ms)) (granted_mirror_at (cond b (Some m.id.server) None) (Some m.id.fileid) (Some uid)) ≡ Some g → g ≡ read_grant stateid uid (m ∷ ms)
    by_test true same = granted_read stateid uid (m ∷ ms) (mirrors_under uid (map (mirror_under uid) (m ∷ ms))) (λ y its. all_read uid (m ∷ ms) small can y its) g same
    by_test false same = absurd (none-some g same)

-- where a grant is read of the result of a LAYOUTGET, it is the layout that was granted
pub grant_read : (stateid : Stateid) (uid : ℕ) (ms : List Mirror) → uid < 2 ^ 32 → AllByRecursion FitsMirrorId ms → layout_length uid ms ≤ 4294967295 → (g : LayoutGrant)
    → layout_get_ok (arm 50 resop4 (layout_result stateid (whole_layout (layout_body uid ms) ∷ []))) ≡ Some g → g ≡ record { stateid = stateid; uid = record { 0 = uid }; mirrors = map unseen ms }
grant_read stateid uid ms small can few g is =
    layout_read_so stateid uid ms small can g
    (sym (ap (layout_grant_of stateid) (whole_spelled ff_layout4 refl (layout_under uid ms) (layout_fits uid ms small (few_mirrors uid ms few)))) ∙ is)
