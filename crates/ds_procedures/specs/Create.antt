-- CREATE: a new file in the root (RFC 1813, section 3.3.8).
use Rattle.std.specs.Prelude.{ℕ, ◌+◌, Bool, true, false, ◌&&◌, ◌||◌, not, List, length, Option, Some, None, is_some, unwrap_or, nat_lt, ◌==◌, if◌then◌else◌}
use Rattle.cluster_model.specs.declared.limits.TheConstants.{FILE_MODE}
use Rattle.nfs3_wire.specs.declared.status.Stat3.{Stat3}
use Rattle.nfs3_wire.specs.declared.status.Stat3.TheVariants as stat
use Rattle.nfs3_wire.specs.declared.sattr.Sattr3.{Sattr3}
use Rattle.nfs3_wire.specs.declared.create.CreateHow.{CreateHow}
use Rattle.nfs3_wire.specs.declared.create.CreateHow.TheVariants as how
use Rattle.nfs3_wire.specs.Replies.{CreateDone, CreateRefused}
use Rattle.cluster_model.specs.declared.tick.Tick.{Tick}
use Rattle.cluster_model.specs.File.{new_file}
use Rattle.cluster_model.specs.Ticks.{next_tick}
use Rattle.cluster_model.specs.Server.{ServerState, Caller, Refusal, NewFile, index_of, tick_refusal, root_after}
use Rattle.ds_procedures.specs.Objects.{Object, Missing, Root, File, attributes_of, attributes_at, root_attributes, file_attributes, handle_of, wcc_between, wcc_same, stat_of}
use Rattle.ds_procedures.specs.Lookup.{max_name}
use Rattle.ds_procedures.specs.Setattr.{mode_of}
use Rattle.ds_procedures.specs.Plans.{Plan, reply_alone}

-- why a file is not made; the file that has the name; or none has, and it is to be made
pub data CreateCase : Type 0 where
  NotMade : (status : Stat3) → CreateCase
  IsThere : (index : ℕ) → CreateCase
  Makes : (attributes : Sattr3) → CreateCase

-- a size that is named other than 0
abbrev pub has_size : Option ℕ → Bool
has_size None = false
has_size (Some size) = not (size == 0)

abbrev pub creation_unless : Sattr3 → Option Refusal → CreateCase
creation_unless a (Some refusal) = NotMade (stat_of refusal)
creation_unless a None = Makes a

abbrev pub made_by : Tick → Sattr3 → Option ℕ → CreateCase
made_by clock a (Some index) = IsThere index
made_by clock a None = creation_unless a (tick_refusal clock)

-- GUARDED refuses a name that is there
abbrev pub named_by : Tick → List ℕ → Bool → Sattr3 → Option ℕ → CreateCase
named_by clock name guarded a found =
    if guarded && is_some found then NotMade stat.Exist
    else (if length name == 0 || has_size a.size then NotMade stat.Inval
    else made_by clock a found)

abbrev pub made_how : Tick → List ℕ → CreateHow → Option ℕ → CreateCase
made_how clock name (how.Unchecked a) found = named_by clock name false a found
made_how clock name (how.Guarded a) found = named_by clock name true a found
made_how clock name (how.Exclusive verifier) found = NotMade stat.NotSupp

-- what comes of a CREATE in the root, in the order of its refusals: only uid 0 may
abbrev pub create_case : Tick → List (List ℕ) → List ℕ → CreateHow → Caller → CreateCase
create_case clock names name manner caller =
    if not (caller.uid == 0) then NotMade stat.Acces
    else (if nat_lt max_name (length name) then NotMade stat.NameTooLong
    else made_how clock name manner (index_of names name))

-- absent owner and group are the caller's, and the mode is 0640
abbrev pub owner_of : Sattr3 → Caller → ℕ
owner_of a caller = unwrap_or a.uid caller.uid

abbrev pub group_of : Sattr3 → Caller → ℕ
group_of a caller = unwrap_or a.gid caller.gid

abbrev pub file_mode_of : Sattr3 → ℕ
file_mode_of a = unwrap_or (mode_of a.mode) FILE_MODE

abbrev pub create_done : ServerState → List ℕ → ℕ → ℕ → ℕ → Plan
create_done s name owner group mode = record {
  reply = CreateDone (Some (handle_of (length s.files))) (Some (file_attributes (length s.files + 2) (new_file owner group mode (next_tick s.clock)))) (wcc_between (root_attributes s.root) (root_attributes (root_after s.root (next_tick s.clock))));
  effect = NewFile name owner group mode;
}

abbrev pub create_in : ServerState → List ℕ → Caller → CreateCase → Plan
create_in s name caller (NotMade status) = reply_alone (CreateRefused status (wcc_same (attributes_of s Root)))
create_in s name caller (IsThere index) = reply_alone (CreateDone (Some (handle_of index)) (attributes_at s.files index) (wcc_same (attributes_of s Root)))
create_in s name caller (Makes a) = create_done s name (owner_of a caller) (group_of a caller) (file_mode_of a)

abbrev pub create_plan : ServerState → Object → List ℕ → CreateHow → Caller → Plan
create_plan s (Missing status) name manner caller = reply_alone (CreateRefused status (wcc_same None))
create_plan s (File index f) name manner caller = reply_alone (CreateRefused stat.NotDir (wcc_same (attributes_of s (File index f))))
create_plan s Root name manner caller = create_in s name caller (create_case s.clock s.names name manner caller)
