-- Results that are read back: each has the spelling of one that fits its form, whatever its numbers are.
use Rattle.std.proofs.Common.{◌≡◌, ◌≤◌, ◌<◌, ℕ, ◌+◌, ◌/◌, ◌%◌, Bool, true, List, [], ◌∷◌, ◌++◌, length, refl, ap, arith, inl, inr, length-append}
use Rattle.ff_xdr.specs.Arms.{arm}
use Rattle.ff_xdr.specs.Form.{Form, Boolean, Number32, Number64, Pair, Void, Value, Fits, spelling, word, long, padded}
use Rattle.ff_xdr.proofs.Fields.{length-word}
use Rattle.nfs4_types.specs.ArmZero.{arm_zero}
use Rattle.nfs4_types.specs.Bitmaps.{bitmap4}
use Rattle.nfs4_types.specs.Stateids.{open_stateid_of, three_words}
use Rattle.nfs4_compound.specs.Results.{resop4}
use Rattle.open_state.specs.declared.open.Open.{Open}
use Rattle.mds_rule.specs.FileOps.{open_result, write_result}
use Rattle.mds_rule.specs.Answers.{read_result}

-- ---- a result

pub record IsLegible (r : Value resop4) : Type 0 where
  pub other : Value resop4
  pub fits : Fits resop4 other
  pub same : spelling resop4 other ≡ spelling resop4 r

pub as_it_is : (r : Value resop4) → Fits resop4 r → IsLegible r
as_it_is r fits = record { other = r; fits = fits; same = refl }

-- a word has the lowest 32 bits of its number
pub word_again : (n : ℕ) → word (n % 4294967296) ≡ word n
unfolding word
word_again n =
    let a : n % 4294967296 / 16777216 % 256 ≡ n / 16777216 % 256 = omega arith in
    let b : n % 4294967296 / 65536 % 256 ≡ n / 65536 % 256 = omega arith in
    let c : n % 4294967296 / 256 % 256 ≡ n / 256 % 256 = omega arith in
    let d : n % 4294967296 % 256 ≡ n % 256 = omega arith in
    λ i. a i ∷ b i ∷ c i ∷ d i ∷ []

low : (n : ℕ) → n % 4294967296 < 4294967296
low n = omega arith

pub read_legible : (eof : Bool) (bytes : List ℕ) → length bytes ≤ 4294967295 → IsLegible (read_result eof bytes)
read_legible eof bytes few = as_it_is (read_result eof bytes) (tt, few)

pub write_legible : (count : ℕ) → IsLegible (write_result count)
write_legible count = record {
  other = write_result (count % 4294967296);
  fits = (low count, (refl, omega arith));
  same = ap (λ (w : List ℕ). word 38 ++ (word 0 ++ (w ++ (word 2 ++ long 1)))) (word_again count);
}

words_length : (a b c : ℕ) → length (three_words a b c) ≡ 12
words_length a b c =
    let outer = length-append (word a) (word b ++ word c) in
    let inner = length-append (word b) (word c) in
    let x = length-word a in let y = length-word b in let z = length-word c in omega (arith, outer, inner, x, y, z)

-- what stands behind the stateid of an OPEN's result
abbrev rest4 : Form
rest4 = Pair Boolean (Pair Number64 (Pair Number64 (Pair Number32 (Pair bitmap4 (arm_zero Void)))))

abbrev open_rest : Value rest4
open_rest = (true, (0, (0, (0, ([], inl tt)))))

pub open_legible : (o : Open) → IsLegible (open_result o)
open_legible o = record {
  other = arm 18 resop4 (inl ((o.seqid % 4294967296, (open_stateid_of o.file.0 o.number).other), open_rest));
  fits = ((low o.seqid, words_length o.file.0 0 o.number), (tt, (omega arith, (omega arith, (omega arith, ((omega arith, tt), tt))))));
  same = ap (λ (w : List ℕ). word 18 ++ (word 0 ++ ((w ++ padded (open_stateid_of o.file.0 o.number).other) ++ spelling rest4 open_rest))) (word_again o.seqid);
}

-- TOOSMALL of a GETDEVICEINFO says how many bytes would do
pub too_small_legible : (size : ℕ) → IsLegible (arm 47 resop4 (inr (inl size)))
too_small_legible size = record {
  other = arm 47 resop4 (inr (inl (size % 4294967296)));
  fits = low size;
  same = ap (λ (w : List ℕ). word 47 ++ (word 10005 ++ w)) (word_again size);
}
