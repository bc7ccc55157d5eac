-- SETATTR: attributes of a file (RFC 1813, section 3.3.2). No size can be set.
use Rattle.std.specs.Prelude.{ℕ, ◌+◌, ◌%◌, not, Option, Some, None, is_some}
use Rattle.std.specs.Option.{option_map}
use Rattle.ds_procedures.specs.declared.setattr.TheConstants.{MODE_BITS}
use Rattle.nfs3_wire.specs.declared.status.Stat3.TheVariants as stat
use Rattle.nfs3_wire.specs.declared.attributes.Time3.{Time3}
use Rattle.nfs3_wire.specs.declared.sattr.SetTime.{SetTime}
use Rattle.nfs3_wire.specs.declared.sattr.SetTime.TheVariants as set_time
use Rattle.nfs3_wire.specs.declared.sattr.Sattr3.{Sattr3}
use Rattle.nfs3_wire.specs.Replies.{SetAttrDone, SetAttrRefused}
use Rattle.cluster_model.specs.declared.tick.Tick.{Tick}
use Rattle.cluster_model.specs.declared.change.NewTime.{NewTime}
use Rattle.cluster_model.specs.declared.change.NewTime.TheVariants as new
use Rattle.cluster_model.specs.declared.change.Changes.{Changes}
use Rattle.cluster_model.specs.File.{StoredFile, Sets, file_after}
use Rattle.cluster_model.specs.Server.{ServerState, Caller, Refusal, OnFile, set_refusal}
use Rattle.ds_procedures.specs.Objects.{Object, Missing, Root, File, attributes_of, file_attributes, wcc_between, wcc_same, stat_of}
use Rattle.ds_procedures.specs.Plans.{Plan, reply_alone}

-- a time as a tick: the seconds are the boot, the nanoseconds the count
abbrev pub tick_of : Time3 → Tick
tick_of t = record { boot = t.seconds; count = t.nanos }

abbrev pub new_time : SetTime → NewTime
new_time set_time.Keep = new.Keep
new_time set_time.Server = new.Now
new_time (set_time.Client t) = new.At (tick_of t)

-- a mode is its lowest twelve bits
abbrev pub mode_of : Option ℕ → Option ℕ
mode_of mode = option_map (λ m. m % MODE_BITS) mode

abbrev pub changes_of : Sattr3 → Changes
changes_of a = record { owner = a.uid; group = a.gid; mode = mode_of a.mode; atime = new_time a.atime; mtime = new_time a.mtime }

abbrev pub set_done : ServerState → ℕ → StoredFile → Changes → Plan
set_done s index f changes = record {
  reply = SetAttrDone (wcc_between (file_attributes (index + 2) f) (file_attributes (index + 2) (file_after f s.clock (Sets changes))));
  effect = OnFile index (Sets changes);
}

abbrev pub set_unless : ServerState → ℕ → StoredFile → Changes → Option Refusal → Plan
set_unless s index f changes (Some refusal) = reply_alone (SetAttrRefused (stat_of refusal) (wcc_same (attributes_of s (File index f))))
set_unless s index f changes None = set_done s index f changes

abbrev pub set_plan : ServerState → Object → Sattr3 → Option Time3 → Caller → Plan
set_plan s (Missing status) a guard caller = reply_alone (SetAttrRefused status (wcc_same None))
set_plan s Root a guard caller = reply_alone (SetAttrRefused stat.Inval (wcc_same (attributes_of s Root)))
set_plan s (File index f) a guard caller = set_unless s index f (changes_of a) (set_refusal s f caller (not (is_some a.size)) (option_map tick_of guard))
