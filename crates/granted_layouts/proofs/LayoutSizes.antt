-- How long a layout is.
use Rattle.std.proofs.Common.{◌≡◌, ℕ, ◌+◌, ◌*◌, ◌/◌, ◌^◌, ◌≤◌, ◌<◌, List, [], ◌∷◌, ◌++◌, length, map, replicate, refl, sym, ap, ◌∙◌, arith, length-append}
use Rattle.std.specs.Prelude.{decimal}
use Rattle.std.specs.List.{flat_map}
use Rattle.std.proofs.lemmas.List.{length-replicate}
use Rattle.ff_xdr.specs.Form.{spelling, word, long, padded, pad_len}
use Rattle.ff_xdr.proofs.Fields.{length-word}
use Rattle.ff_xdr.proofs.CutShort.{length-long}
use Rattle.ff_xdr.proofs.StoppedText.{length-padded}
use Rattle.nfs4_file_ops.specs.Layout4.{layout4}
use Rattle.ff_layout.specs.DataServer.{ff_data_server4}
use Rattle.ff_layout.specs.Mirror.{ff_mirror4}
use Rattle.cluster_model.specs.declared.ids.Mirror.{Mirror}
use Rattle.granted_layouts.specs.GrantedBodies.{server_under, mirror_under, layout_body, layout_length, whole_layout}

padding : (n : ℕ) → n + pad_len n ≡ (n + 3) / 4 * 4
unfolding pad_len
padding n = omega arith

-- bytes up to a multiple of four
pub padded_size : (xs : List ℕ) → length (padded xs) ≡ (length xs + 3) / 4 * 4
padded_size xs = length-padded xs ∙ padding (length xs)

-- so many bytes and their length
pub opaque_size : (xs : List ℕ) → length (word (length xs) ++ padded xs) ≡ 4 + (length xs + 3) / 4 * 4
opaque_size xs = omega (arith, length-append (word (length xs)) (padded xs), length-word (length xs), padded_size xs)

-- ---- a mirror

abbrev pub user_size : ℕ → ℕ
user_size uid = 4 + (length (decimal uid) + 3) / 4 * 4

abbrev device_text : ℕ → List ℕ
device_text server = replicate 8 0 ++ long server

pub device_bytes : (server : ℕ) → length (device_text server) ≡ 16
device_bytes server = omega (arith, length-append (replicate 8 0) (long server), length-long server, length-replicate {A = ℕ} 8 0)

device_size : (server : ℕ) → length (padded (device_text server)) ≡ 16
device_size server = omega (arith, padded_size (device_text server), length-append (replicate 8 0) (long server), length-long server, length-replicate {A = ℕ} 8 0)

stateid_size : length (word 0 ++ padded (replicate 12 0)) ≡ 16
stateid_size = omega (arith, length-append (word 0) (padded (replicate 12 0)), length-word 0, padded_size (replicate 12 0), length-replicate {A = ℕ} 12 0)

abbrev handle_text : ℕ → List ℕ
handle_text fileid = word (length (long fileid)) ++ padded (long fileid)

handles_size : (fileid : ℕ) → length (word 1 ++ (handle_text fileid ++ [])) ≡ 16
handles_size fileid =
    omega (arith, length-append (word 1) (handle_text fileid ++ []), length-word 1, length-append (handle_text fileid) [], opaque_size (long fileid), length-long fileid)

abbrev user_text : ℕ → List ℕ
user_text uid = word (length (decimal uid)) ++ padded (decimal uid)

users_size : (uid : ℕ) → length (user_text uid ++ user_text uid) ≡ 2 * user_size uid
users_size uid = omega (arith, length-append (user_text uid) (user_text uid), opaque_size (decimal uid))

server_size : (uid : ℕ) (m : Mirror) → length (spelling ff_data_server4 (server_under uid m)) ≡ 52 + 2 * user_size uid
server_size uid m =
    let device = padded (device_text m.id.server) in
    let stateid = word 0 ++ padded (replicate 12 0) in
    let handles = word 1 ++ (handle_text m.id.fileid ++ []) in
    let users = user_text uid ++ user_text uid in
    omega (arith, length-append device (word 1 ++ (stateid ++ (handles ++ users))), length-append (word 1) (stateid ++ (handles ++ users)), length-append stateid (handles ++ users), length-append handles users, device_size m.id.server, length-word 1, stateid_size, handles_size m.id.fileid, users_size uid)

pub mirror_size : (uid : ℕ) (m : Mirror) → length (spelling ff_mirror4 (mirror_under uid m)) ≡ 56 + 2 * user_size uid
mirror_size uid m =
    let server = spelling ff_data_server4 (server_under uid m) in
    omega (arith, length-append (word 1) (server ++ []), length-word 1, length-append server [], server_size uid m)

-- ---- the layout

abbrev pub mirrors_text : ℕ → List Mirror → List ℕ
mirrors_text uid ms = flat_map (λ v. spelling ff_mirror4 v) (map (mirror_under uid) ms)

abbrev total : ℕ → List Mirror → ℕ
total uid [] = 0
total uid (m ∷ ms) = (56 + 2 * user_size uid) + total uid ms

mirrors_size : (uid : ℕ) (ms : List Mirror) → length (mirrors_text uid ms) ≡ total uid ms
mirrors_size uid [] = refl
mirrors_size uid (m ∷ ms) =
    omega (arith, length-append (spelling ff_mirror4 (mirror_under uid m)) (mirrors_text uid ms), mirror_size uid m, mirrors_size uid ms)

abbrev count_text : ℕ → List Mirror → List ℕ
count_text uid ms = word (length (map (mirror_under uid) ms))

pub body_size : (uid : ℕ) (ms : List Mirror) → length (layout_body uid ms) ≡ 20 + total uid ms
body_size uid ms =
    let mirrors = count_text uid ms ++ mirrors_text uid ms in
    let hints = word 1 ++ word 0 in
    omega (
      arith,
      length-append (long 65536) (mirrors ++ hints),
      length-long 65536,
      length-append mirrors hints,
      length-append (count_text uid ms) (mirrors_text uid ms),
      length-word (length (map (mirror_under uid) ms)),
      length-append (word 1) (word 0),
      length-word 1,
      length-word 0,
      mirrors_size uid ms,
    )

whole_size : (body : List ℕ) → length (spelling layout4 (whole_layout body)) ≡ 28 + (length body + 3) / 4 * 4
whole_size body =
    let content = word (length body) ++ padded body in
    omega (
      arith,
      length-append (long 0) (long 18446744073709551615 ++ (word 2 ++ (word 4 ++ content))),
      length-append (long 18446744073709551615) (word 2 ++ (word 4 ++ content)),
      length-append (word 2) (word 4 ++ content),
      length-append (word 4) content,
      length-long 0,
      length-long 18446744073709551615,
      length-word 2,
      length-word 4,
      opaque_size body,
    )

by_count : (uid : ℕ) (ms : List Mirror) → length ms ≤ 4 → 20 + total uid ms ≡ 20 + length ms * (56 + 2 * user_size uid)
by_count uid [] few = omega arith
by_count uid (a ∷ []) few = omega arith
by_count uid (a ∷ b ∷ []) few = omega arith
by_count uid (a ∷ b ∷ c ∷ []) few = omega arith
by_count uid (a ∷ b ∷ c ∷ d ∷ []) few = omega arith
by_count uid (a ∷ b ∷ c ∷ d ∷ e ∷ rest) few = absurd (omega arith)

in_fours : (uid : ℕ) (ms : List Mirror) → length ms ≤ 4 → (20 + total uid ms + 3) / 4 * 4 ≡ 20 + total uid ms
in_fours uid [] few = omega arith
in_fours uid (a ∷ []) few = omega arith
in_fours uid (a ∷ b ∷ []) few = omega arith
in_fours uid (a ∷ b ∷ c ∷ []) few = omega arith
in_fours uid (a ∷ b ∷ c ∷ d ∷ []) few = omega arith
in_fours uid (a ∷ b ∷ c ∷ d ∷ e ∷ rest) few = absurd (omega arith)

pub layout_size_is : (uid count : ℕ) (ms : List Mirror) → length ms ≡ count → count ≤ 4 → 48 + count * (56 + 2 * user_size uid) ≡ layout_length uid ms
layout_size_is uid count ms many few =
    let body = ap (λ k. 28 + (k + 3) / 4 * 4) (body_size uid ms) in
    let whole = whole_size (layout_body uid ms) in
    let short : length ms ≤ 4 = omega (arith, many, few) in
    let sum : 20 + total uid ms ≡ 20 + count * (56 + 2 * user_size uid) = by_count uid ms short ∙ ap (λ k. 20 + k * (56 + 2 * user_size uid)) many in
    omega (arith, whole, body, in_fours uid ms short, sum)

-- a body is no longer than its layout
pub body_few : (uid size : ℕ) (ms : List Mirror) (body : List ℕ) → body ≡ layout_body uid ms → size ≡ layout_length uid ms → size < 2 ^ 32 → length body < 2 ^ 32
body_few uid size ms body is many small = omega (arith, whole_size (layout_body uid ms), ap length is, many, small)
