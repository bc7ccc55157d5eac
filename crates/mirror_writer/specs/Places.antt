-- The places of the taken writes, as the code has them.
use Rattle.std.specs.Prelude.{◌≡◌, ℕ, ◌<◌, Bool, List, length}
use Rattle.std.specs.List.{All, list_any}
use Rattle.mirror_writer.specs.declared.call.TakenWrite.{TakenWrite}
use Rattle.mirror_writer.specs.Extents.{in_window, is_place}

-- one of the write's bytes has this place
abbrev pub is_place_of : ℕ → TakenWrite → Bool
is_place_of p w = in_window w.at (length w.bytes) p

-- the runs have the places of the taken writes, none of which is empty
pub record ArePlacesOf (taken : List TakenWrite) (runs : List (ℕ × ℕ)) : Type 0 where
  pub some : All (λ w. 0 < length w.bytes) taken
  pub places : (p : ℕ) → is_place runs p ≡ list_any (is_place_of p) taken
