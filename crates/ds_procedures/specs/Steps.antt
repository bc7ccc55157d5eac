-- The rule of a data server: what each call does, and what it is answered (RFC 1813, section 3.3).
--
-- Refusals are tried in the order: the handle, the kind of its object, access, the name's length, what is not supported, whether the
-- name is there, the arguments, the guard, the room, the ticks.
use Rattle.rpc_record.specs.Rpc.{Credential}
use Rattle.nfs3_wire.specs.Calls.{Nfs3Call}
use Rattle.nfs3_wire.specs.Calls as calls
use Rattle.nfs3_wire.specs.Replies as replies
use Rattle.cluster_model.specs.Server.{ServerState, Caller}
use Rattle.ds_procedures.specs.Objects.{object_of, caller_of}
use Rattle.ds_procedures.specs.Plans.{Plan, reply_alone, Step, carried_out}
use Rattle.ds_procedures.specs.Getattr.{getattr_reply}
use Rattle.ds_procedures.specs.Setattr.{set_plan}
use Rattle.ds_procedures.specs.Lookup.{lookup_reply}
use Rattle.ds_procedures.specs.Read.{read_reply}
use Rattle.ds_procedures.specs.Write.{write_plan}
use Rattle.ds_procedures.specs.Create.{create_plan}
use Rattle.ds_procedures.specs.Fsinfo.{fsinfo_reply}
use Rattle.ds_procedures.specs.Commit.{commit_plan}

-- what a call comes to
abbrev pub plan_of : ServerState → Nfs3Call → Caller → Plan
plan_of s calls.Null caller = reply_alone replies.Null
plan_of s (calls.GetAttr handle) caller = reply_alone (getattr_reply s (object_of s.files handle))
plan_of s (calls.SetAttr handle a guard) caller = set_plan s (object_of s.files handle) a guard caller
plan_of s (calls.Lookup handle name) caller = reply_alone (lookup_reply s (object_of s.files handle) name)
plan_of s (calls.Read handle offset count) caller = reply_alone (read_reply s (object_of s.files handle) offset count caller)
plan_of s (calls.Write handle offset count stability bytes) caller = write_plan s (object_of s.files handle) offset count stability bytes caller
plan_of s (calls.Create handle name manner) caller = create_plan s (object_of s.files handle) name manner caller
plan_of s (calls.FsInfo handle) caller = reply_alone (fsinfo_reply s (object_of s.files handle))
plan_of s (calls.Commit handle offset count) caller = commit_plan s (object_of s.files handle) caller

-- what a call by this credential does
abbrev pub step_of : ServerState → Nfs3Call → Credential → Step
step_of s call cred = carried_out s cred.uid (plan_of s call (caller_of cred))
