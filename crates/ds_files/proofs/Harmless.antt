-- A refusal changes nothing.
use Rattle.std.proofs.Common.{◌≡◌, ℕ, List, [], length, Option, Some, None, refl}
use Rattle.std.specs.Prelude.{not, is_some, ◌==◌}
use Rattle.std.specs.Option.{option_map}
use Rattle.rpc_record.specs.Rpc.{Credential}
use Rattle.nfs3_wire.specs.declared.stable_how.StableHow.{StableHow}
use Rattle.nfs3_wire.specs.Calls.{Nfs3Call, Null, GetAttr, SetAttr, Lookup, Read, Write, Create, FsInfo, Commit}
use Rattle.cluster_model.specs.declared.change.Changes.{Changes}
use Rattle.cluster_model.specs.File.{StoredFile}
use Rattle.cluster_model.specs.Server.{ServerState, Caller, Refusal, NoEffect, server_after, write_refusal, commit_refusal, set_refusal}
use Rattle.ds_procedures.specs.Objects.{Object, caller_of}
use Rattle.ds_procedures.specs.Write.{write_plan, write_unless}
use Rattle.ds_procedures.specs.Commit.{commit_plan, commit_unless}
use Rattle.ds_procedures.specs.Setattr.{changes_of, tick_of, set_plan, set_unless}
use Rattle.ds_procedures.specs.Create.{CreateCase, NotMade, IsThere, Makes, create_case, create_in, create_plan}
use Rattle.ds_procedures.specs.Plans.{Plan, carried_out}
use Rattle.ds_procedures.specs.Steps.{plan_of, step_of}
use Rattle.ds_files.specs.Receive.{Received, Silent, Refused, Asked, outcome_by}
use Rattle.ds_files.specs.Decisions.{call_effect, effect_by}
use Rattle.ds_files.specs.Laws.{IsRefusedReply, IsQuery, HasNoEffect, IsTurnedAway}
use Rattle.ds_files.proofs.AtObject.{at_object}

abbrev IsHarmless : Plan → Type 0
IsHarmless p = IsRefusedReply p.reply → p.effect ≡ NoEffect

write_at : (s : ServerState) (index : ℕ) (f : StoredFile) (offset : ℕ) (how : StableHow) (bytes : List ℕ) (refusal : Option Refusal) → IsHarmless (write_unless s index f offset how bytes refusal)
write_at s index f offset how bytes (Some refusal) h = refl
write_at s index f offset how bytes None h = absurd h

set_at : (s : ServerState) (index : ℕ) (f : StoredFile) (changes : Changes) (refusal : Option Refusal) → IsHarmless (set_unless s index f changes refusal)
set_at s index f changes (Some refusal) h = refl
set_at s index f changes None h = absurd h

commit_at : (s : ServerState) (index : ℕ) (f : StoredFile) (refusal : Option Refusal) → IsHarmless (commit_unless s index f refusal)
commit_at s index f (Some refusal) h = refl
commit_at s index f None h = absurd h

create_at : (s : ServerState) (name : List ℕ) (caller : Caller) (made : CreateCase) → IsHarmless (create_in s name caller made)
create_at s name caller (NotMade status) h = refl
create_at s name caller (IsThere index) h = absurd h
create_at s name caller (Makes a) h = absurd h

harmless : (s : ServerState) (call : Nfs3Call) (caller : Caller) → IsHarmless (plan_of s call caller)
harmless s Null caller h = refl
harmless s (GetAttr handle) caller h = refl
harmless s (SetAttr handle a guard) caller h =
    at_object s.files (λ (o : Object). IsHarmless (set_plan s o a guard caller)) (λ status h. refl) (λ h. refl) (λ index f e. set_at s index f (changes_of a) (set_refusal s f caller (not (is_some a.size)) (option_map tick_of guard))) handle h
harmless s (Lookup handle name) caller h = refl
harmless s (Read handle offset count) caller h = refl
harmless s (Write handle offset count how bytes) caller h =
    at_object s.files (λ (o : Object). IsHarmless (write_plan s o offset count how bytes caller)) (λ status h. refl) (λ h. refl) (λ index f e. write_at s index f offset how bytes (write_refusal s index f caller (count == length bytes) offset bytes)) handle h
harmless s (Create handle name manner) caller h =
    at_object s.files (λ (o : Object). IsHarmless (create_plan s o name manner caller)) (λ status h. refl) (create_at s name caller (create_case s.clock s.names name manner caller)) (λ index f e h. refl) handle h
harmless s (FsInfo handle) caller h = refl
harmless s (Commit handle offset count) caller h =
    at_object s.files (λ (o : Object). IsHarmless (commit_plan s o caller)) (λ status h. refl) (λ h. refl) (λ index f e. commit_at s index f (commit_refusal f caller)) handle h

nothing_done : (s : ServerState) (uid : ℕ) (p : Plan) → p.effect ≡ NoEffect → HasNoEffect s (carried_out s uid p)
nothing_done s uid p none = rw none (refl, refl)

pub refusals : (s : ServerState) (call : Nfs3Call) (cred : Credential) → IsRefusedReply (step_of s call cred).reply → HasNoEffect s (step_of s call cred)
refusals s call cred h = nothing_done s cred.uid (plan_of s call (caller_of cred)) (harmless s call (caller_of cred) h)

-- a call that only asks changes nothing
pub queries : (s : ServerState) (call : Nfs3Call) (cred : Credential) → IsQuery call → HasNoEffect s (step_of s call cred)
queries s Null cred h = (refl, refl)
queries s (GetAttr handle) cred h = (refl, refl)
queries s (SetAttr handle a guard) cred h = absurd h
queries s (Lookup handle name) cred h = (refl, refl)
queries s (Read handle offset count) cred h = (refl, refl)
queries s (Write handle offset count how bytes) cred h = absurd h
queries s (Create handle name manner) cred h = absurd h
queries s (FsInfo handle) cred h = (refl, refl)
queries s (Commit handle offset count) cred h = absurd h

-- nor does a record that is turned away
pub no_effect : (s : ServerState) (what : Received) → IsTurnedAway s what → effect_by s what ≡ NoEffect
no_effect s Silent h = refl
no_effect s (Refused reply) h = refl
no_effect s (Asked xid call cred) h = harmless s call (caller_of cred) h

pub no_entries : (s : ServerState) (what : Received) → IsTurnedAway s what → (outcome_by s what).entries ≡ []
no_entries s Silent h = refl
no_entries s (Refused reply) h = refl
no_entries s (Asked xid call cred) h = (refusals s call cred h).1

-- a call that is refused leaves the server as it is
pub refused_stays : (s : ServerState) (call : Nfs3Call) (cred : Credential) → IsRefusedReply (step_of s call cred).reply → server_after s (call_effect s call cred) ≡ s
refused_stays s call cred h = (refusals s call cred h).0
