-- What a record or a call comes to, before it is carried out.
use Rattle.std.specs.Prelude.{◌≡◌, ℕ, ◌<◌, ◌≤◌, List, length, Option, Some, None}
use Rattle.cluster_model.specs.declared.entry.Entry.{Entry}
use Rattle.cluster_model.specs.File.{FileOp, Writes, Commits, Sets, Restarts}
use Rattle.cluster_model.specs.Server.{ServerState, Effect, NoEffect, OnFile, NewFile, total_size}
use Rattle.ds_procedures.specs.declared.lookup.TheConstants.{MAX_NAME}
use Rattle.ds_procedures.specs.declared.setattr.TheConstants.{MODE_BITS}
use Rattle.ds_procedures.specs.declared.server_base.ServerBase.{ServerBase}
use Rattle.ds_procedures.specs.Answer.{Answer, answer_of}
use Rattle.ds_procedures.specs.CodePlans.{IsReady}
use Rattle.ds_procedures.specs.Objects.{caller_of}
use Rattle.ds_procedures.specs.Steps.{plan_of, step_of}
use Rattle.nfs3_wire.specs.Calls.{Nfs3Call}
use Rattle.rpc_record.specs.Rpc.{Credential}
use Rattle.ds_files.specs.declared.logging.Logging.{Logging}
use Rattle.ds_files.specs.Posts.{outcome_made}
use Rattle.ds_files.specs.Receive.{Received, Silent, Refused, Asked, received, outcome_by}

-- what a call does
abbrev pub call_effect : ServerState → Nfs3Call → Credential → Effect
call_effect s call cred = (plan_of s call (caller_of cred)).effect

-- what a record does: nothing where it is no call, or RPC refuses it
abbrev pub effect_by : ServerState → Received → Effect
effect_by s Silent = NoEffect
effect_by s (Refused reply) = NoEffect
effect_by s (Asked xid call cred) = call_effect s call cred

abbrev pub effect_of : ServerState → List ℕ → Effect
effect_of s bytes = effect_by s (received bytes)

-- ---- what can be carried out

-- the numbers of a server
abbrev pub superblock_of : ServerState → ServerBase
superblock_of s = record { number = s.number; clock = s.clock; root = s.root; names = s.names; total = total_size s.files }

-- a mode that is named is permission bits
abbrev pub IsMode : Option ℕ → Type 0
IsMode None = Unit {0}
IsMode (Some mode) = mode < MODE_BITS

abbrev pub IsWellMadeOp : FileOp → Type 0
IsWellMadeOp (Writes at synced bytes) = Unit {0}
IsWellMadeOp Commits = Unit {0}
IsWellMadeOp (Sets changes) = IsMode changes.mode
IsWellMadeOp (Restarts pieces) = Unit {0}

-- a new file's name has at least one byte, and no more than a name may have
pub record IsMakeable (name : List ℕ) (mode : ℕ) : Type 0 where
  pub some : 0 < length name
  pub short : length name ≤ MAX_NAME
  pub bits : mode < MODE_BITS

abbrev pub IsWellMade : Effect → Type 0
IsWellMade NoEffect = Unit {0}
IsWellMade (OnFile index op) = IsWellMadeOp op
IsWellMade (NewFile name owner group mode) = IsMakeable name mode

-- the server can do it: there is a file, room, a tick and a free name for it, and it is well made
pub record CanDo (s : ServerState) (effect : Effect) : Type 0 where
  pub ready : IsReady (superblock_of s) s.files effect
  pub made : IsWellMade effect

-- ---- a decision

-- The reply, the entries and the effect are what the outcome says of a record, and the effect can be done.
pub record Decides (s : ServerState) (what : Received) (logging : Logging) (reply : Option (List ℕ)) (entries : List Entry) (effect : Effect) : Type 0 where
  pub reply_is : reply ≡ (outcome_made logging (outcome_by s what)).reply
  pub entries_are : entries ≡ (outcome_made logging (outcome_by s what)).entries
  pub effect_is : effect ≡ effect_by s what
  pub can : CanDo s effect

-- the same of a call: its answer and its effect
pub record DecidesCall (s : ServerState) (call : Nfs3Call) (cred : Credential) (answer : Answer) (effect : Effect) : Type 0 where
  pub answer_is : answer ≡ answer_of (step_of s call cred)
  pub effect_is : effect ≡ call_effect s call cred
  pub can : CanDo s effect
