-- The file that a handle names has that very handle.
use Rattle.std.proofs.Common.{◌≡◌, ◌<◌, ℕ, zero, suc, Bool, true, false, cond, Option, Some, None, refl, sym, ap, ◌∙◌, arith}
use Rattle.std.specs.Prelude.{◌==◌, get_or}
use Rattle.std.specs.Int.{w64, from_be_bytes, to_be_bytes}
use Rattle.std.proofs.lemmas.Option.{same_Some, none-some}
use Rattle.std.proofs.lemmas.Nat.{be_bytes_8}
use Rattle.ff_xdr.specs.Form.{long}
use Rattle.cluster_model.specs.declared.ids.FileId.{FileId}
use Rattle.nfs4_types.specs.Handles.{file_handle_of, file_number_of}
use Rattle.mds_refusals.specs.declared.object.Object.{Object}
use Rattle.mds_refusals.specs.declared.object.Object.TheVariants.{Root, File}
use Rattle.mds_refusals.specs.PutFh.{object_numbered, object_at, object_of}

byte_small : (n i : ℕ) → get_or (to_be_bytes w64 n) i 0 < 256
byte_small n zero = omega arith
byte_small n (suc zero) = omega arith
byte_small n (suc (suc zero)) = omega arith
byte_small n (suc (suc (suc zero))) = omega arith
byte_small n (suc (suc (suc (suc zero)))) = omega arith
byte_small n (suc (suc (suc (suc (suc zero))))) = omega arith
byte_small n (suc (suc (suc (suc (suc (suc zero)))))) = omega arith
byte_small n (suc (suc (suc (suc (suc (suc (suc zero))))))) = omega arith
byte_small n (suc (suc (suc (suc (suc (suc (suc (suc i)))))))) = omega arith

-- a number of a handle has the handle
number_handle : (n k : ℕ) → file_number_of (file_handle_of n) ≡ Some k → file_handle_of n ≡ file_handle_of k
unfolding long
number_handle n k is = sym (be_bytes_8 (to_be_bytes w64 n) k refl (byte_small n) (sym (same_Some (from_be_bytes w64 (to_be_bytes w64 n)) k is)))

is_numbered : (k : ℕ) (file : FileId) → object_numbered k ≡ File file → k ≡ file.0
is_numbered k file is = by_zero (k == 0) is
  where
    by_zero : (b : Bool) → cond b Root (File (record { 0 = k })) ≡ File file → k ≡ file.0
    by_zero true its = absurd cc
    by_zero false its = ap (number_or k) its
      where
        number_or : ℕ → Object → ℕ
        number_or other Root = other
        number_or other (File f) = f.0

pub same_handle : (n : ℕ) (file : FileId) → object_of (file_handle_of n) ≡ Some (File file) → file_handle_of n ≡ file_handle_of file.0
same_handle n file is = by_number (file_number_of (file_handle_of n)) refl is
  where
    by_number : (o : Option ℕ) → file_number_of (file_handle_of n) ≡ o → object_at o ≡ Some (File file) → file_handle_of n ≡ file_handle_of file.0
    by_number None at its = absurd (none-some (File file) its)
    by_number (Some k) at its = number_handle n k at ∙ ap file_handle_of (is_numbered k file (same_Some (object_numbered k) (File file) its))
