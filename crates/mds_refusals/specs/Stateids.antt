-- What a stateid names, by its twelve bytes (RFC 8881, sections 8.2 and 8.2.3).
use Rattle.std.specs.Prelude.{ℕ, Bool, true, false, List, Option, Some, None, bytes_eq, replicate, if◌then◌else◌}
use Rattle.cluster_model.specs.declared.ids.FileId.{FileId}
use Rattle.cluster_model.specs.declared.ids.Cred.{Cred}
use Rattle.nfs4_types.specs.declared.stateid.Stateid.{Stateid}
use Rattle.nfs4_types.specs.Stateids.{open_stateid_of, layout_stateid_of}
use Rattle.mds_refusals.specs.declared.named.Named.{Named}
use Rattle.mds_refusals.specs.declared.named.Named.TheVariants as name

abbrev pub is_open_of : List ℕ → FileId → Option ℕ → Bool
is_open_of other file None = false
is_open_of other file (Some n) = bytes_eq (open_stateid_of file.0 n).other other

abbrev pub is_layout_of : List ℕ → FileId → Option Cred → Bool
is_layout_of other file None = false
is_layout_of other file (Some cred) = bytes_eq (layout_stateid_of file.0 cred.0 0).other other

abbrev pub named_by : Stateid → FileId → Option ℕ → Option Cred → Named
named_by stateid file number granted =
    if bytes_eq stateid.other (replicate 12 0) then name.Anonymous
    else (if bytes_eq stateid.other (replicate 12 255) then name.Bypass
    else (if is_open_of stateid.other file number then name.Open
    else (if is_layout_of stateid.other file granted then name.Layout
    else name.Nothing)))

abbrev pub is_open : Named → Bool
is_open name.Open = true
is_open name.Layout = false
is_open name.Anonymous = false
is_open name.Bypass = false
is_open name.Nothing = false

abbrev pub is_layout : Named → Bool
is_layout name.Open = false
is_layout name.Layout = true
is_layout name.Anonymous = false
is_layout name.Bypass = false
is_layout name.Nothing = false

-- an open, or none at all
abbrev pub may_write : Named → Bool
may_write name.Open = true
may_write name.Layout = false
may_write name.Anonymous = true
may_write name.Bypass = false
may_write name.Nothing = false

abbrev pub may_read : Named → Bool
may_read name.Open = true
may_read name.Layout = false
may_read name.Anonymous = true
may_read name.Bypass = true
may_read name.Nothing = false
