-- The mirrors of one file (RFC 8435, section 5.1).
use Rattle.std.specs.Prelude.{◌≡◌, ℕ, ◌-◌, nat_le, nat_lt, ◌==◌, Bool, true, ◌&&◌, not, List, [], ◌∷◌, ◌++◌, length, map, replicate, Option, Some, None}
use Rattle.std.specs.List.{list_any, flat_map}
use Rattle.std.specs.Option.{option_to_list}
use Rattle.cluster_model.specs.declared.ids.Mirror.{Mirror}

-- one of them is on the server
abbrev pub has_server : List Mirror → ℕ → Bool
has_server mirrors server = list_any (λ m. m.id.server == server) mirrors

-- no two are on one server
abbrev pub are_on_different_servers : List Mirror → Bool
are_on_different_servers [] = true
are_on_different_servers (m ∷ mirrors) = not (has_server mirrors m.id.server) && are_on_different_servers mirrors

-- what a file may have
abbrev pub are_mirrors : List Mirror → Bool
are_mirrors mirrors = nat_le (length mirrors) 4 && are_on_different_servers mirrors

-- there is room for one more, on another server
abbrev pub can_add : List Mirror → Mirror → Bool
can_add mirrors m = nat_lt (length mirrors) 4 && not (has_server mirrors m.id.server)

-- ---- the code's four places

-- the mirrors in them
abbrev pub mirrors_in : List (Option Mirror) → List Mirror
mirrors_in places = flat_map option_to_list places

-- the filled ones first
abbrev pub places_of : List Mirror → List (Option Mirror)
places_of mirrors = map Some mirrors ++ replicate (4 - length mirrors) None

pub record AreMirrorsIn (places : List (Option Mirror)) : Type 0 where
  pub places_are : places ≡ places_of (mirrors_in places)
  pub mirrors : are_mirrors (mirrors_in places) ≡ true
