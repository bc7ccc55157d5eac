-- What the bytes before a body say.
use Rattle.std.proofs.Common.{◌≡◌, ℕ, ◌+◌, ◌-◌, ◌<◌, ◌≤◌, List, [], ◌∷◌, length, take, drop, get_or, Option, Some, None, Result, Ok, Err, refl, sym, ap, ◌∙◌, arith}
use Rattle.std.specs.Int.{w32, from_be_bytes}
use Rattle.std.proofs.lemmas.List.{length-take, length-drop, drop-drop}
use Rattle.rpc_record.specs.Calls.{word_of}
use Rattle.rpc_record.specs.declared.stream.Failed.{Failed}
use Rattle.store_disk.specs.Disks.{DiskLife}
use Rattle.gate_log.specs.Logs.{Broken, Opens, gate_of}
use Rattle.gate_log.specs.Appends.{FindsGate}
use Rattle.gate_log.specs.Heads.{OpensBody, FindsHead, ReadsBody}
use Rattle.gate_log.specs.declared.reading.Found.{Found}
use Rattle.gate_log.specs.declared.reading.Found.TheVariants as found
use Rattle.gate_log.specs.declared.reading.Head.TheVariants as head
use Rattle.gate_log.proofs.GateLemmas.{behind_short, behind_whole, gate_one}

abbrev four : List ℕ → List ℕ
four xs = get_or xs 0 0 ∷ get_or xs 1 0 ∷ get_or xs 2 0 ∷ get_or xs 3 0 ∷ []

four_of : (xs : List ℕ) → length xs ≡ 4 → xs ≡ four xs
four_of [] is = absurd (omega arith)
four_of (a ∷ []) is = absurd (omega arith)
four_of (a ∷ b ∷ []) is = absurd (omega arith)
four_of (a ∷ b ∷ c ∷ []) is = absurd (omega arith)
four_of (a ∷ b ∷ c ∷ d ∷ []) is = refl
four_of (a ∷ b ∷ c ∷ d ∷ e ∷ xs) is = absurd (omega arith)

-- the number that a head's four bytes spell
count_is : (bytes counted : List ℕ) (n : ℕ) → counted ≡ take 4 bytes → 4 ≤ length counted → n ≡ from_be_bytes w32 (four counted) → word_of bytes 0 ≡ n
unfolding word_of
count_is bytes counted n is many spells =
    let long : length counted ≡ 4 = omega (arith, many, ap length is, length-take 4 bytes) in
    ap (from_be_bytes w32) (sym is ∙ four_of counted long) ∙ sym spells

-- a head of five bytes that begins with a 1
module _ (gate : ℕ) (counted : List ℕ) (n : ℕ) (one : gate ≡ 1) (many : 4 ≤ length counted) (spells : n ≡ from_be_bytes w32 (four counted)) where
  pub head_broken : (bytes : List ℕ) → gate ∷ counted ≡ take 5 bytes → length bytes - 5 < n → gate_of bytes ≡ Broken
  head_broken [] is less = absurd (cc (is))
  head_broken (byte ∷ bytes) is less =
      let same : byte ≡ gate = cc (is) in
      let front : counted ≡ take 4 bytes = cc (is) in
      let count = count_is bytes counted n front many spells in
      let long : 4 ≤ length bytes = omega (arith, many, ap length front, length-take 4 bytes) in
      gate_one byte bytes (same ∙ one) ∙ behind_short bytes long (omega (arith, less, count, length-drop 4 bytes))

  pub head_opens : (bytes : List ℕ) → gate ∷ counted ≡ take 5 bytes → n ≤ length bytes - 5 → OpensBody bytes n
  head_opens [] is fits = absurd (cc (is))
  head_opens (byte ∷ bytes) is fits =
      let same : byte ≡ gate = cc (is) in
      let front : counted ≡ take 4 bytes = cc (is) in
      let count = count_is bytes counted n front many spells in
      let long : 4 ≤ length bytes = omega (arith, many, ap length front, length-take 4 bytes) in
      record {
        within = omega (arith, long, fits);
        gate =
            gate_one byte bytes (same ∙ one) ∙ behind_whole bytes long (omega (arith, fits, count, length-drop 4 bytes))
            ∙ ap (λ (k : ℕ). Opens (take k (drop 4 bytes)) (drop k (drop 4 bytes))) count
            ∙ ap (λ (xs : List ℕ). Opens (take n (drop 4 bytes)) xs) (drop-drop n 5 (byte ∷ bytes));
      }

-- a body was read behind its head
pub finds_body : (told : Option DiskLife) (size at n : ℕ) (result : Result Found Failed) (body : List ℕ) → FindsHead told at (size - at) (Ok (head.Opens n)) → ReadsBody told (at + 5) n result body
    → FindsGate told size at result body
finds_body None size at n result body h reads = tt
finds_body (Some life) size at n (Err e) body h reads = tt
finds_body (Some life) size at n (Ok found.Opens) body h reads = λ is.
    let left : size - at ≡ length (drop at life.now.seen) = omega (arith, is, length-drop at life.now.seen) in
    let opens = h left in
    let same : take n (drop 5 (drop at life.now.seen)) ≡ body = ap (take n) (drop-drop 5 at life.now.seen) ∙ sym reads.1 in
    opens.gate ∙ ap (λ (xs : List ℕ). Opens xs (drop (5 + n) (drop at life.now.seen))) same ∙ ap (λ (k : ℕ). Opens body (drop (5 + k) (drop at life.now.seen))) (sym reads.0)
finds_body (Some life) size at n (Ok found.Broken) body h reads = λ is.
    let left : size - at ≡ length (drop at life.now.seen) = omega (arith, is, length-drop at life.now.seen) in
    let opens = h left in
    absurd (omega (arith, opens.within, reads, length-drop at life.now.seen, length-drop (at + 5) life.now.seen))
finds_body (Some life) size at n (Ok found.Absent) body h reads = absurd reads
finds_body (Some life) size at n (Ok found.Closed) body h reads = absurd reads
