-- What a data server enters in an answer is of the kinds that a data server enters.
use Rattle.std.proofs.Common.{◌≡◌, ℕ, Bool, true, false, List, [], ◌∷◌, Option, Some, None, refl}
use Rattle.std.specs.List.{AllByRecursion}
use Rattle.cluster_model.specs.declared.ids.MirrorId.{MirrorId}
use Rattle.cluster_model.specs.declared.entry.Entry.{Entry}
use Rattle.cluster_model.specs.File.{FileOp, Writes, Commits, Sets, Restarts}
use Rattle.cluster_model.specs.Server.{ServerState, Effect, NoEffect, OnFile, NewFile, applied_entries, committed_entries, owner_entries, op_entries, entries_of}
use Rattle.ds_procedures.specs.Objects.{caller_of}
use Rattle.ds_procedures.specs.Steps.{plan_of}
use Rattle.ds_files.specs.Receive.{Received, Silent, Refused, Asked, outcome_by, outcome_of, received}
use Rattle.node_histories.specs.NodeHistories.{is_server_entry}
use Rattle.node_histories.proofs.Parts.{all_joined}

abbrev pub AreServerEntries : List Entry → Type 0
AreServerEntries entries = AllByRecursion (λ e. is_server_entry e ≡ true) entries

applied : (mirror : MirrorId) (uid at : ℕ) (bytes : List ℕ) → AreServerEntries (applied_entries mirror uid at bytes)
applied mirror uid at [] = tt
applied mirror uid at (b ∷ bytes) = (refl, tt)

committed : (mirror : MirrorId) (synced : Bool) → AreServerEntries (committed_entries mirror synced)
committed mirror false = tt
committed mirror true = (refl, tt)

owned : (mirror : MirrorId) (owner : Option ℕ) → AreServerEntries (owner_entries mirror owner)
owned mirror None = tt
owned mirror (Some uid) = (refl, tt)

of_op : (mirror : MirrorId) (uid : ℕ) (op : FileOp) → AreServerEntries (op_entries mirror uid op)
of_op mirror uid (Writes at synced bytes) = all_joined (λ e. is_server_entry e ≡ true) (applied_entries mirror uid at bytes) (committed_entries mirror synced) (applied mirror uid at bytes) (committed mirror synced)
of_op mirror uid Commits = (refl, tt)
of_op mirror uid (Sets changes) = owned mirror changes.owner
of_op mirror uid (Restarts pieces) = tt

of_effect : (s : ServerState) (uid : ℕ) (effect : Effect) → AreServerEntries (entries_of s uid effect)
of_effect s uid NoEffect = tt
of_effect s uid (OnFile index op) = of_op _ uid op
of_effect s uid (NewFile name owner group mode) = (refl, tt)

by_received : (s : ServerState) (r : Received) → AreServerEntries (outcome_by s r).entries
by_received s Silent = tt
by_received s (Refused reply) = tt
by_received s (Asked xid call cred) = of_effect s cred.uid (plan_of s call (caller_of cred)).effect

pub server_kinds : (s : ServerState) (bytes : List ℕ) → AreServerEntries (outcome_of s bytes).entries
server_kinds s bytes = by_received s (received bytes)
