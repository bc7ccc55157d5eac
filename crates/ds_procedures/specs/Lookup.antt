-- LOOKUP: the object with a name (RFC 1813, section 3.3.3).
use Rattle.std.specs.Prelude.{ℕ, List, length, Option, Some, None, nat_lt, if◌then◌else◌}
use Rattle.ds_procedures.specs.declared.lookup.TheConstants.{MAX_NAME}
use Rattle.nfs3_wire.specs.declared.status.Stat3.TheVariants as stat
use Rattle.nfs3_wire.specs.Replies.{Nfs3Reply, LookupDone, LookupRefused}
use Rattle.cluster_model.specs.Server.{ServerState, index_of}
use Rattle.ds_procedures.specs.Objects.{Object, Missing, Root, File, attributes_of, attributes_at, handle_of}

-- the longest name, in bytes
abbrev pub max_name : ℕ
max_name = MAX_NAME

abbrev pub lookup_found : ServerState → Option ℕ → Nfs3Reply
lookup_found s None = LookupRefused stat.NoEnt (attributes_of s Root)
lookup_found s (Some index) = LookupDone (handle_of index) (attributes_at s.files index) (attributes_of s Root)

abbrev pub lookup_reply : ServerState → Object → List ℕ → Nfs3Reply
lookup_reply s (Missing status) name = LookupRefused status None
lookup_reply s (File index f) name = LookupRefused stat.NotDir (attributes_of s (File index f))
lookup_reply s Root name = if nat_lt max_name (length name) then LookupRefused stat.NameTooLong (attributes_of s Root) else lookup_found s (index_of s.names name)
