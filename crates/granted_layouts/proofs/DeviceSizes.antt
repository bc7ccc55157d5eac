-- How long the address of a device is.
use Rattle.std.proofs.Common.{◌≡◌, ℕ, ◌^◌, ◌+◌, ◌*◌, ◌/◌, ◌%◌, ◌<◌, ◌≤◌, List, [], ◌∷◌, ◌++◌, length, refl, sym, ap, ◌∙◌, arith, length-append}
use Rattle.std.specs.Prelude.{codes, decimal, slice_index}
use Rattle.ff_xdr.specs.Form.{spelling, word, padded}
use Rattle.ff_xdr.proofs.Fields.{length-word}
use Rattle.nfs4_file_ops.specs.GetDeviceInfo.{getdeviceinfo4_ok}
use Rattle.device_addr.specs.Universal.{AddressValue, address_text, dotted}
use Rattle.device_addr.specs.Version.{ff_device_versions4}
use Rattle.granted_layouts.specs.GrantedBodies.{device_body, device_info, device_info_length}
use Rattle.granted_layouts.proofs.LayoutSizes.{opaque_size}

-- ---- the text

dot_size : (n : ℕ) (rest : List ℕ) → length (decimal n ++ (46 ∷ rest)) ≡ length (decimal n) + 1 + length rest
dot_size n rest = omega (arith, length-append (decimal n) (46 ∷ rest))

six_size : (a b c d h l : ℕ) → length (dotted (a ∷ b ∷ c ∷ d ∷ h ∷ l ∷ []))
    ≡ length (decimal a) + length (decimal b) + length (decimal c) + length (decimal d) + length (decimal h) + length (decimal l) + 5
six_size a b c d h l =
    omega (arith, dot_size a (dotted (b ∷ c ∷ d ∷ h ∷ l ∷ [])), dot_size b (dotted (c ∷ d ∷ h ∷ l ∷ [])), dot_size c (dotted (d ∷ h ∷ l ∷ [])), dot_size d (dotted (h ∷ l ∷ [])), dot_size h (dotted (l ∷ [])))

abbrev len_at : List ℕ → ℕ → ℕ
len_at xs k = length (decimal (slice_index xs k))

pub text_size : (host ends : List ℕ) (port : ℕ) → length host ≡ 4 → port < 65536 → ends ≡ (port / 256 % 256) ∷ (port % 256) ∷ []
    → length (address_text (record { host = host; port = port })) ≡ len_at host 0 + len_at host 1 + len_at host 2 + len_at host 3 + len_at ends 0 + len_at ends 1 + 5
text_size [] ends port four small are = absurd (omega arith)
text_size (a ∷ []) ends port four small are = absurd (omega arith)
text_size (a ∷ b ∷ []) ends port four small are = absurd (omega arith)
text_size (a ∷ b ∷ c ∷ []) ends port four small are = absurd (omega arith)
text_size (a ∷ b ∷ c ∷ d ∷ []) ends port four small are =
    let high : slice_index ends 0 ≡ port / 256 = ap (λ l. slice_index l 0) are ∙ omega (arith, small) in
    let low : slice_index ends 1 ≡ port % 256 = ap (λ l. slice_index l 1) are in
    six_size a b c d (port / 256) (port % 256)
    ∙ (λ i. length (decimal a) + length (decimal b) + length (decimal c) + length (decimal d) + length (decimal (sym high i)) + length (decimal (sym low i)) + 5)
text_size (a ∷ b ∷ c ∷ d ∷ e ∷ rest) ends port four small are = absurd (omega arith)

-- ---- the body, and the fields

abbrev version_text : List ℕ
version_text = word 3 ++ (word 0 ++ (word 65536 ++ (word 65536 ++ word 0)))

version_size : length version_text ≡ 20
version_size =
    omega (
      arith,
      length-append (word 3) (word 0 ++ (word 65536 ++ (word 65536 ++ word 0))),
      length-append (word 0) (word 65536 ++ (word 65536 ++ word 0)),
      length-append (word 65536) (word 65536 ++ word 0),
      length-append (word 65536) (word 0),
      length-word 3,
      length-word 0,
      length-word 65536,
    )

abbrev addresses_text : List ℕ → List ℕ
addresses_text text = (word 3 ++ padded (codes "tcp")) ++ (word (length text) ++ padded text)

addresses_size : (text : List ℕ) → length (addresses_text text) ≡ 12 + (length text + 3) / 4 * 4
addresses_size text = omega (arith, length-append (word 3 ++ padded (codes "tcp")) (word (length text) ++ padded text), opaque_size (codes "tcp"), opaque_size text)

body_size : (a : AddressValue) → length (device_body a) ≡ 40 + (length (address_text a) + 3) / 4 * 4
body_size a =
    let text = address_text a in
    let addresses = word 1 ++ (addresses_text text ++ []) in
    let versions = word 1 ++ (version_text ++ []) in
    omega (
      arith,
      length-append addresses versions,
      length-append (word 1) (addresses_text text ++ []),
      length-append (addresses_text text) [],
      length-append (word 1) (version_text ++ []),
      length-append version_text [],
      length-word 1,
      version_size,
      addresses_size text,
    )

info_size : (body : List ℕ) → length (spelling getdeviceinfo4_ok (device_info body)) ≡ 12 + (length body + 3) / 4 * 4
info_size body =
    let content = word (length body) ++ padded body in
    omega (arith, length-append (word 4) (content ++ (word 0 ++ [])), length-append content (word 0 ++ []), length-append (word 0) [], length-word 4, length-word 0, opaque_size body)

pub device_info_size_is : (a : AddressValue) (n : ℕ) → n ≡ length (address_text a) → 52 + (n + 3) / 4 * 4 ≡ device_info_length a
device_info_size_is a n is =
    let body = ap (λ k. 12 + (k + 3) / 4 * 4) (body_size a) in
    let whole = info_size (device_body a) in
    let text : 52 + (n + 3) / 4 * 4 ≡ 52 + (length (address_text a) + 3) / 4 * 4 = ap (λ k. 52 + (k + 3) / 4 * 4) is in
    omega (arith, whole, body, text)

-- a body is no longer than what tells it
pub body_few : (a : AddressValue) (size : ℕ) (body : List ℕ) → body ≡ device_body a → size ≡ device_info_length a → size < 2 ^ 32 → length body < 2 ^ 32
body_few a size body is many small = omega (arith, info_size (device_body a), ap length is, many, small)
