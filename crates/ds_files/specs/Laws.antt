-- The laws of a data server's rule.
use Rattle.std.specs.Prelude.{◌≡◌, ℕ, false, List, [], ◌∷◌, ◌++◌, length, Some, None, slice_get, ◌==◌, if◌then◌else◌}
use Rattle.std.specs.Option.{option_map}
use Rattle.rpc_record.specs.Rpc.{Credential}
use Rattle.nfs3_wire.specs.declared.stable_how.StableHow.{StableHow}
use Rattle.nfs3_wire.specs.declared.attributes.Time3.{Time3}
use Rattle.nfs3_wire.specs.declared.sattr.Sattr3.{Sattr3}
use Rattle.nfs3_wire.specs.declared.create.CreateHow.{CreateHow}
use Rattle.nfs3_wire.specs.Calls.{Nfs3Call}
use Rattle.nfs3_wire.specs.Calls as calls
use Rattle.nfs3_wire.specs.Replies.{Nfs3Reply}
use Rattle.nfs3_wire.specs.Replies as replies
use Rattle.std.specs.Prelude.{Option}
use Rattle.cluster_model.specs.declared.piece.Piece.{Piece}
use Rattle.cluster_model.specs.Ticks.{IsRising}
use Rattle.cluster_model.specs.File.{StoredFile, Writes, Commits, Sets}
use Rattle.cluster_model.specs.Journal.{content_of}
use Rattle.cluster_model.specs.Server.{ServerState, differs, index_of, max_boot, mirror_of, Effect, NoEffect, OnFile, NewFile}
use Rattle.cluster_model.specs.ServerLaws.{copy_of, Turn, Does, StartsAgain, run_after, run_entries, run_ticks}
use Rattle.ds_procedures.specs.Objects.{Root, File, object_of, caller_of}
use Rattle.ds_procedures.specs.Write.{is_synced}
use Rattle.ds_procedures.specs.Setattr.{changes_of, tick_of}
use Rattle.ds_procedures.specs.Plans.{Step}
use Rattle.ds_procedures.specs.Steps.{plan_of, step_of}
use Rattle.ds_files.specs.Receive.{Received, Silent, Refused, Asked}

-- a call is refused
abbrev pub IsRefusedReply : Nfs3Reply → Type 0
IsRefusedReply (replies.GetAttrRefused status) = Unit {0}
IsRefusedReply (replies.SetAttrRefused status wcc) = Unit {0}
IsRefusedReply (replies.LookupRefused status directory) = Unit {0}
IsRefusedReply (replies.ReadRefused status attributes) = Unit {0}
IsRefusedReply (replies.WriteRefused status wcc) = Unit {0}
IsRefusedReply (replies.CreateRefused status wcc) = Unit {0}
IsRefusedReply (replies.FsInfoRefused status attributes) = Unit {0}
IsRefusedReply (replies.CommitRefused status wcc) = Unit {0}
IsRefusedReply _ = ⊥

-- a call that only asks
abbrev pub IsQuery : Nfs3Call → Type 0
IsQuery calls.Null = Unit {0}
IsQuery (calls.GetAttr file) = Unit {0}
IsQuery (calls.Lookup directory name) = Unit {0}
IsQuery (calls.Read file offset count) = Unit {0}
IsQuery (calls.FsInfo root) = Unit {0}
IsQuery _ = ⊥

-- the server stays as it is, and nothing is entered in the journal
abbrev pub HasNoEffect : ServerState → Step → Type 0
HasNoEffect s t = (t.server ≡ s) × (t.entries ≡ [])

-- the record is no call, or one that RPC refuses, or one that the rule refuses
abbrev pub IsTurnedAway : ServerState → Received → Type 0
IsTurnedAway s Silent = Unit {0}
IsTurnedAway s (Refused reply) = Unit {0}
IsTurnedAway s (Asked xid call cred) = IsRefusedReply (step_of s call cred).reply

-- ---- what is done is what the call asks for

-- nothing; bytes put into the file that the handle names, as many as the call says; all of it made stable; attributes set, where the
-- guard, if there is one, is the ctime; or a file made in the root under a name that none has
pub data IsAsked (s : ServerState) : Nfs3Call → Effect → Type 0 where
  AsksNothing : (call : Nfs3Call) → IsAsked s call NoEffect
  AsksWrite : (handle : List ℕ) (index : ℕ) (f : StoredFile) (offset count : ℕ) (how : StableHow) (bytes : List ℕ) → object_of s.files handle ≡ File index f → count ≡ length bytes
      → IsAsked s (calls.Write handle offset count how bytes) (OnFile index (Writes offset (is_synced how) bytes))
  AsksCommit : (handle : List ℕ) (index : ℕ) (f : StoredFile) (offset count : ℕ) → object_of s.files handle ≡ File index f → IsAsked s (calls.Commit handle offset count) (OnFile index Commits)
  AsksSet : (handle : List ℕ) (index : ℕ) (f : StoredFile) (a : Sattr3) (guard : Option Time3) → object_of s.files handle ≡ File index f → differs (option_map tick_of guard) f.times.ctime ≡ false
      → IsAsked s (calls.SetAttr handle a guard) (OnFile index (Sets (changes_of a)))
  AsksFile : (handle name : List ℕ) (how : CreateHow) (owner group mode : ℕ) → object_of s.files handle ≡ Root → index_of s.names name ≡ None → IsAsked s (calls.Create handle name how) (NewFile name owner group mode)

-- ---- runs of calls and restarts

pub data Happening : Type 0 where
  Calls : (call : Nfs3Call) (cred : Credential) → Happening
  Restarts : (pieces : List Piece) → Happening

-- what it does to the server; a restart at the last boot does nothing
abbrev pub turns_by : ServerState → Happening → List Turn
turns_by s (Calls call cred) = Does (caller_of cred) (plan_of s call (caller_of cred)).effect ∷ []
turns_by s (Restarts pieces) = if s.clock.boot == max_boot then [] else StartsAgain pieces ∷ []

abbrev pub turns_of : ServerState → List Happening → List Turn
turns_of s [] = []
turns_of s (h ∷ rest) = turns_by s h ++ turns_of (run_after s (turns_by s h)) rest

-- each tick is after all that were given before
abbrev pub IsTimedRun : ServerState → List Happening → Type 0
IsTimedRun s run = IsRising (run_ticks s (turns_of s run))

-- from a new server on the journal tells the bytes and the owner of each file
abbrev pub IsToldRun : ServerState → List Happening → Type 0
IsToldRun s run =
    (index : ℕ) (f : StoredFile) → slice_get (run_after s (turns_of s run)).files index ≡ Some f → copy_of f ≡ content_of (run_entries s (turns_of s run)) (mirror_of s index)
