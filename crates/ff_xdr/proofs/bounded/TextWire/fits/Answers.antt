use Rattle.std.proofs.Common.{◌≡◌, ℕ, ◌≤◌, ◌<◌, ◌^◌, List, leb, length, arith, subst}
use Rattle.std.specs.Prelude.{IsTrue}
use Rattle.std.specs.Str.{is_utf8, IsUtf8}
use Rattle.std.proofs.lemmas.Str.{is_utf8-from_IsUtf8}
use Rattle.std.proofs.lemmas.Bool.{leb-true, le-leb}
use Rattle.ff_xdr.specs.Proper.{word_max}
use Rattle.ff_xdr.proofs.bounded.TextWire.fits.Goals as goal

text_fits : (max : ℕ) (bytes text : List ℕ) → max < 2 ^ 32 → bytes ≡ text → IsUtf8 bytes
    → (IsTrue (leb (length bytes) max) → (length text ≤ word_max max) × IsTrue (is_utf8 text)) × ((length text ≤ word_max max) × IsTrue (is_utf8 text) → IsTrue (leb (length bytes) max))
text_fits max bytes text wide same utf8 =
    subst (λ (t : List ℕ). (IsTrue (leb (length bytes) max) → (length t ≤ word_max max) × IsTrue (is_utf8 t)) × ((length t ≤ word_max max) × IsTrue (is_utf8 t) → IsTrue (leb (length bytes) max))) same (
      λ few. let le : length bytes ≤ max = leb-true _ _ few in (omega arith, is_utf8-from_IsUtf8 bytes utf8),
      λ fits. le-leb (length bytes) max (omega (arith, fits.0)),
    )

pub returns : goal.returns
returns g c =
    let wide : g.row.MAX < 2 ^ 32 = omega (arith, g.MAX.fits) in
    text_fits g.row.MAX c.as_bytes.result.now c.args.self.now.text.now wide c.as_bytes.ensures.value c.as_bytes.ensures.utf8
