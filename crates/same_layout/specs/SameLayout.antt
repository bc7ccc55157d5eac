-- A layout as the metadata server grants it, and as its client reads it (RFC 8881, section 18.43; RFC 8435, section 5.1).
use Rattle.std.specs.Prelude.{◌≡◌, ℕ, ◌<◌, ◌≤◌, ◌^◌, true, List, [], ◌∷◌, length, map, Some}
use Rattle.std.specs.List.{AllByRecursion}
use Rattle.ff_xdr.specs.Arms.{arm}
use Rattle.nfs4_types.specs.declared.stateid.Stateid.{Stateid}
use Rattle.nfs4_compound.specs.Results.{resop4}
use Rattle.cluster_model.specs.declared.ids.Mirror.{Mirror}
use Rattle.cluster_model.specs.Mirrors.{are_mirrors}
use Rattle.client_file_calls.specs.FileResults.{layout_get_ok}
use Rattle.granted_layouts.specs.GrantedBodies.{layout_body, layout_result, whole_layout}

-- a data server has a number from 1 to 16, and a file one of eight bytes there
abbrev pub CanBeGranted : Mirror → Type 0
CanBeGranted m = (1 ≤ m.id.server) × (m.id.server ≤ 16) × (m.id.fileid < 2 ^ 64)

-- a mirror at which nothing was seen yet
abbrev pub unseen : Mirror → Mirror
unseen m = record { id = m.id; seen = record { boot = 0; count = 0 } }

-- One to four mirrors on different data servers, granted under a uid, are what a client reads in the LAYOUTGET's result.
abbrev pub IsReadAsGranted : Type 0
IsReadAsGranted = (stateid : Stateid) (uid : ℕ) (mirrors : List Mirror) → uid < 2 ^ 32 → 1 ≤ length mirrors → are_mirrors mirrors ≡ true → AllByRecursion CanBeGranted mirrors
    → layout_get_ok (arm 50 resop4 (layout_result stateid (whole_layout (layout_body uid mirrors) ∷ []))) ≡ Some (record { stateid = stateid; uid = record { 0 = uid }; mirrors = map unseen mirrors })
