-- A data server by its numbers and its files.
use Rattle.std.specs.Prelude.{◌≡◌, ℕ, ◌+◌, ◌-◌, ◌<◌, ◌≤◌, Bool, List, length, Option, Some, None, max, not, nat_lt, ◌==◌, if◌then◌else◌, slice_get}
use Rattle.std.specs.Option.{option_map}
use Rattle.ff_xdr.specs.Form.{Fits, Optional}
use Rattle.nfs3_wire.specs.declared.status.Stat3.{Stat3}
use Rattle.nfs3_wire.specs.declared.attributes.Fattr3.{Fattr3}
use Rattle.nfs3_wire.specs.Status.{refusal, stat_number}
use Rattle.nfs3_wire.specs.Attributes.{fattr3, fattr3_value}
use Rattle.cluster_model.specs.declared.tick.Tick.{Tick}
use Rattle.cluster_model.specs.File.{StoredFile, shown}
use Rattle.cluster_model.specs.Server.{ServerState, Caller, total_size, max_total, max_file, max_ticks, may_write, Refusal, Acces, Inval, Fbig, NoSpc, tick_refusal}
use Rattle.ds_procedures.specs.declared.server_base.ServerBase.{ServerBase}
use Rattle.ds_procedures.specs.declared.object.Place.{Place}
use Rattle.ds_procedures.specs.declared.object.Place.TheVariants as place
use Rattle.ds_procedures.specs.Objects.{Object, Missing, Root, File, attributes_of, file_attributes}

abbrev pub server_of : ServerBase → List StoredFile → ServerState
server_of h files = record { number = h.number; clock = h.clock; root = h.root; names = h.names; files = files }

-- what holds of every data server
pub record IsServer (h : ServerBase) (files : List StoredFile) : Type 0 where
  pub total : h.total ≡ total_size files
  pub bounded : h.total ≤ max_total
  pub ticks : h.clock.count ≤ max_ticks
  pub named : length h.names ≡ length files

-- the object is at this place
abbrev pub IsAt : List StoredFile → Place → Object → Type 0
IsAt files (place.Missing status) object = object ≡ Missing status
IsAt files place.Root object = object ≡ Root
IsAt files (place.File index) object = (f : StoredFile) × (slice_get files index ≡ Some f) × (object ≡ File index f)

-- the refusal of a WRITE for want of room or of ticks, by the sizes alone
abbrev pub size_refusal : ℕ → Tick → ℕ → ℕ → ℕ → Option Refusal
size_refusal total clock size at len =
    if len == 0 then None
    else (if nat_lt max_file (at + len) then Some Fbig
    else (if nat_lt max_total (total - size + max size (at + len)) then Some NoSpc
    else tick_refusal clock))

-- the refusals of a WRITE on a file in their order, by the sizes alone
abbrev pub write_refusal_by_sizes : ℕ → Tick → StoredFile → Caller → Bool → ℕ → List ℕ → Option Refusal
write_refusal_by_sizes total clock f caller agree at bytes =
    if not (may_write f caller) then Some Acces
    else (if not agree then Some Inval
    else size_refusal total clock (length (shown f)) at (length bytes))

-- the status is one of a refusal
abbrev pub Refuses : Stat3 → Type 0
Refuses status = Fits refusal (stat_number status)

-- what a place that names nothing is answered is a refusal
abbrev pub MissingRefuses : Place → Type 0
MissingRefuses (place.Missing status) = Refuses status
MissingRefuses place.Root = Unit {0}
MissingRefuses (place.File index) = Unit {0}

-- the attributes have a spelling
abbrev pub AttributesFit : Option Fattr3 → Type 0
AttributesFit attributes = Fits (Optional fattr3) (option_map fattr3_value attributes)

-- the attributes are those of the object at a place
abbrev pub AreOf : ServerBase → List StoredFile → Place → Option Fattr3 → Type 0
AreOf h files at attributes = (object : Object) → IsAt files at object → attributes ≡ attributes_of (server_of h files) object

-- they are those of the file at an index
abbrev pub AreOfFile : List StoredFile → ℕ → Fattr3 → Type 0
AreOfFile files index attributes = (f : StoredFile) → slice_get files index ≡ Some f → attributes ≡ file_attributes (index + 2) f

-- a place that the files have
abbrev pub IsWithin : List StoredFile → Place → Type 0
IsWithin files (place.Missing status) = Unit {0}
IsWithin files place.Root = Unit {0}
IsWithin files (place.File index) = index < length files
