-- A piece of some bytes, at its place: what a READ gives, and what a WRITE of it changes (RFC 1813, sections 3.3.6 and 3.3.7).
use Rattle.std.proofs.Common.{◌≡◌, ℕ, ◌+◌, ◌<◌, ◌≤◌, true, List, [], length, take, drop, ◌∙◌, arith}
use Rattle.std.specs.Prelude.{nat_le}
use Rattle.std.proofs.lemmas.List.{length-take, length-drop, get_or-take, get_or-drop}
use Rattle.std.proofs.lemmas.Bool.{leb-true}
use Rattle.cluster_model.specs.Laws.{byte_at}
use Rattle.cluster_laws.specs.Agreement.{IsNoChange}
use Rattle.cluster_laws.specs.Holders.{the_write}

pub record IsSlice (bytes : List ℕ) (at : ℕ) (piece : List ℕ) : Type 0 where
  pub within : at + length piece ≤ length bytes
  pub same : (place : ℕ) → place < length piece → byte_at piece place ≡ byte_at bytes (at + place)

pub slice_no_change : (bytes : List ℕ) (at : ℕ) (piece : List ℕ) → IsSlice bytes at piece → IsNoChange bytes (the_write at piece)
slice_no_change bytes at piece h = (h.within, h.same)

pub slice_none : (bytes : List ℕ) (at : ℕ) → at ≤ length bytes → IsSlice bytes at []
slice_none bytes at up = record { within = omega (arith, up); same = λ place less. absurd (omega (arith, less)) }

-- behind a slice
pub slice_next : (bytes : List ℕ) (at : ℕ) (piece : List ℕ) → IsSlice bytes at piece → IsSlice bytes (at + length piece) []
slice_next bytes at piece h = let within = h.within in slice_none bytes (at + length piece) (omega (arith, within))

take_within : (count : ℕ) (bytes : List ℕ) (at : ℕ) → at ≤ length bytes → at + length (take count (drop at bytes)) ≤ length bytes
take_within count bytes at up = let a = length-take count (drop at bytes) in let b = length-drop at bytes in omega (arith, a, b, up)

take_less : (count : ℕ) (bytes : List ℕ) (at place : ℕ) → place < length (take count (drop at bytes)) → place < count
take_less count bytes at place less = let a = length-take count (drop at bytes) in omega (arith, a, less)

pub slice_read : (count : ℕ) (bytes : List ℕ) (at : ℕ) → at ≤ length bytes → IsSlice bytes at (take count (drop at bytes))
slice_read count bytes at up = record {
  within = take_within count bytes at up;
  same = λ place less. get_or-take count (drop at bytes) place 0 (take_less count bytes at place less) ∙ get_or-drop at bytes place 0;
}

-- a READ that says end
pub read_ends : (bytes : List ℕ) (at : ℕ) (piece : List ℕ) → IsSlice bytes at piece → nat_le (length bytes) (at + length piece) ≡ true → at + length piece ≡ length bytes
read_ends bytes at piece h e = let within = h.within in let ends = leb-true (length bytes) (at + length piece) e in omega (arith, within, ends)
