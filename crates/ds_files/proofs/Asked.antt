-- What each call does one may do who calls, and it is what the call asks for.
use Rattle.std.proofs.Common.{◌≡◌, ◌≢◌, ℕ, ◌<◌, Bool, true, false, eqb, ltb, cond, List, [], ◌∷◌, length, Option, Some, None, refl, arith}
use Rattle.std.specs.Prelude.{not, is_some, unwrap_or, ◌&&◌, ◌||◌, ◌%◌, slice_get}
use Rattle.std.specs.Option.{option_map}
use Rattle.std.proofs.lemmas.Bool.{eqb-true, ltb-false}
use Rattle.rpc_record.specs.Rpc.{Credential}
use Rattle.nfs3_wire.specs.declared.stable_how.StableHow.{StableHow}
use Rattle.nfs3_wire.specs.declared.status.Stat3.{Stat3}
use Rattle.nfs3_wire.specs.declared.status.Stat3.TheVariants as stat
use Rattle.nfs3_wire.specs.declared.attributes.Time3.{Time3}
use Rattle.nfs3_wire.specs.declared.sattr.Sattr3.{Sattr3}
use Rattle.nfs3_wire.specs.declared.create.CreateHow.{CreateHow}
use Rattle.nfs3_wire.specs.declared.create.CreateHow.TheVariants as how
use Rattle.nfs3_wire.specs.Calls.{Nfs3Call, Null, GetAttr, SetAttr, Lookup, Read, Write, Create, FsInfo, Commit}
use Rattle.cluster_model.specs.declared.tick.Tick.{Tick}
use Rattle.cluster_model.specs.File.{StoredFile}
use Rattle.cluster_model.specs.Server.{ServerState, Caller, Refusal, Acces, Inval, NotSync, max_ticks, differs, write_refusal, commit_refusal, set_refusal, tick_refusal, index_of, Effect, NoEffect}
use Rattle.cluster_model.specs.ServerLaws.{IsPermitted}
use Rattle.cluster_model.proofs.Permitted.{stops, not_false, tick_left, write_may, commit_may, set_may}
use Rattle.ds_procedures.specs.declared.setattr.TheConstants.{MODE_BITS}
use Rattle.cluster_model.specs.declared.limits.TheConstants.{FILE_MODE}
use Rattle.ds_procedures.specs.Objects.{Object, Missing, Root, File, object_of, caller_of}
use Rattle.ds_procedures.specs.Lookup.{max_name}
use Rattle.ds_procedures.specs.Write.{is_synced, write_plan, write_unless}
use Rattle.ds_procedures.specs.Commit.{commit_plan, commit_unless}
use Rattle.ds_procedures.specs.Setattr.{mode_of, changes_of, tick_of, set_plan, set_unless}
use Rattle.ds_procedures.specs.Create.{CreateCase, NotMade, IsThere, Makes, has_size, creation_unless, made_by, named_by, made_how, create_case, create_in, create_plan}
use Rattle.ds_procedures.specs.Steps.{plan_of}
use Rattle.ds_files.specs.Decisions.{IsMode, IsWellMade}
use Rattle.ds_files.specs.Laws.{IsAsked, AsksNothing, AsksWrite, AsksCommit, AsksSet, AsksFile}
use Rattle.ds_files.proofs.AtObject.{at_object}

-- what holds of what a call does
record Follows (s : ServerState) (call : Nfs3Call) (caller : Caller) (effect : Effect) : Type 0 where
  permitted : IsPermitted s caller effect
  asked : IsAsked s call effect
  made : IsWellMade effect

nothing : (s : ServerState) (call : Nfs3Call) (caller : Caller) → Follows s call caller NoEffect
nothing s call caller = record { permitted = tt; asked = AsksNothing call; made = tt }

-- what holds of the object that a handle names, and that it names it
at_handle : (files : List StoredFile) (handle : List ℕ) (P : Object → Type 0) → ((status : Stat3) → P (Missing status)) → (object_of files handle ≡ Root → P Root)
    → ((index : ℕ) (f : StoredFile) → slice_get files index ≡ Some f → object_of files handle ≡ File index f → P (File index f)) → P (object_of files handle)
at_handle files handle P missing root file =
    at_object files (λ (o : Object). object_of files handle ≡ o → P o) (λ status is. missing status) root file handle refl

-- ---- WRITE

write_at : (s : ServerState) (handle : List ℕ) (index : ℕ) (f : StoredFile) (offset count : ℕ) (how : StableHow) (bytes : List ℕ) (caller : Caller) → slice_get s.files index ≡ Some f → object_of s.files handle ≡ File index f
    → (refusal : Option Refusal) → write_refusal s index f caller (eqb count (length bytes)) offset bytes ≡ refusal → Follows s (Write handle offset count how bytes) caller (write_unless s index f offset how bytes refusal).effect
write_at s handle index f offset count how bytes caller there names (Some refusal) is = nothing s (Write handle offset count how bytes) caller
write_at s handle index f offset count how bytes caller there names None is =
    let agree = stops (not (eqb count (length bytes))) Inval _ (stops _ Acces _ is).1 in
    record {
      permitted = (f, there, write_may s index f caller (eqb count (length bytes)) offset (is_synced how) bytes is);
      asked = AsksWrite handle index f offset count how bytes names (eqb-true _ _ (not_false _ agree.0));
      made = tt;
    }

-- ---- COMMIT

commit_at : (s : ServerState) (handle : List ℕ) (index : ℕ) (f : StoredFile) (offset count : ℕ) (caller : Caller) → slice_get s.files index ≡ Some f → object_of s.files handle ≡ File index f
    → (refusal : Option Refusal) → commit_refusal f caller ≡ refusal → Follows s (Commit handle offset count) caller (commit_unless s index f refusal).effect
commit_at s handle index f offset count caller there names (Some refusal) is = nothing s (Commit handle offset count) caller
commit_at s handle index f offset count caller there names None is = record { permitted = (f, there, commit_may s.clock f caller is); asked = AsksCommit handle index f offset count names; made = tt }

-- ---- SETATTR

-- the lowest twelve bits of a mode are a mode
low_bits : (mode : ℕ) → mode % MODE_BITS < MODE_BITS
low_bits mode = omega arith

mode_bits : (mode : Option ℕ) → IsMode (mode_of mode)
mode_bits None = tt
mode_bits (Some mode) = low_bits mode

set_at : (s : ServerState) (handle : List ℕ) (index : ℕ) (f : StoredFile) (a : Sattr3) (guard : Option Time3) (caller : Caller) → slice_get s.files index ≡ Some f → object_of s.files handle ≡ File index f
    → (refusal : Option Refusal) → set_refusal s f caller (not (is_some a.size)) (option_map tick_of guard) ≡ refusal → Follows s (SetAttr handle a guard) caller (set_unless s index f (changes_of a) refusal).effect
set_at s handle index f a guard caller there names (Some refusal) is = nothing s (SetAttr handle a guard) caller
set_at s handle index f a guard caller there names None is =
    let good = stops (not (not (is_some a.size))) Inval _ (stops _ Acces _ is).1 in
    let same = stops (differs (option_map tick_of guard) f.times.ctime) NotSync _ good.1 in
    record {
      permitted = (f, there, set_may s f caller (not (is_some a.size)) (option_map tick_of guard) (changes_of a) is);
      asked = AsksSet handle index f a guard names same.0;
      made = mode_bits a.mode;
    }

-- ---- CREATE

goes_on : (b : Bool) (status : Stat3) (r : CreateCase) (a : Sattr3) → cond b (NotMade status) r ≡ Makes a → (b ≡ false) × (r ≡ Makes a)
goes_on true status r a e = absurd (cc)
goes_on false status r a e = (refl, e)

-- a tick is left, none has the name, and it has bytes
record IsFree (clock : Tick) (name : List ℕ) (found : Option ℕ) : Type 0 where
  left : clock.count ≢ max_ticks
  absent : found ≡ None
  some : 0 < length name

made_when : (a b : Sattr3) (refusal : Option Refusal) → creation_unless a refusal ≡ Makes b → refusal ≡ None
made_when a b (Some refusal) e = absurd (cc)
made_when a b None e = refl

by_name : (clock : Tick) (name : List ℕ) (a b : Sattr3) (found : Option ℕ) → 0 < length name → made_by clock a found ≡ Makes b → IsFree clock name found
by_name clock name a b (Some index) some e = absurd (cc)
by_name clock name a b None some e = record { left = tick_left clock (made_when a b (tick_refusal clock) e); absent = refl; some = some }

-- a name that is not refused as empty
has_bytes : (name : List ℕ) (sized : Bool) → (eqb (length name) 0 || sized) ≡ false → 0 < length name
has_bytes [] sized e = absurd cc
has_bytes (b ∷ name) sized e = omega arith

named : (clock : Tick) (name : List ℕ) (guarded : Bool) (a b : Sattr3) (found : Option ℕ) → named_by clock name guarded a found ≡ Makes b → IsFree clock name found
named clock name guarded a b found e =
    let free = goes_on (guarded && is_some found) stat.Exist _ b e in
    let good = goes_on (eqb (length name) 0 || has_size a.size) stat.Inval _ b free.1 in
    by_name clock name a b found (has_bytes name (has_size a.size) good.0) good.1

made : (clock : Tick) (name : List ℕ) (manner : CreateHow) (a : Sattr3) (found : Option ℕ) → made_how clock name manner found ≡ Makes a → IsFree clock name found
made clock name (how.Unchecked b) a found e = named clock name false b a found e
made clock name (how.Guarded b) a found e = named clock name true b a found e
made clock name (how.Exclusive verifier) a found e = absurd (cc)

-- the mode of a new file is one
file_mode_bits : (mode : Option ℕ) → unwrap_or (mode_of mode) FILE_MODE < MODE_BITS
file_mode_bits None = omega arith
file_mode_bits (Some mode) = low_bits mode

create_at : (s : ServerState) (handle name : List ℕ) (manner : CreateHow) (caller : Caller) → object_of s.files handle ≡ Root → (made_one : CreateCase) → create_case s.clock s.names name manner caller ≡ made_one
    → Follows s (Create handle name manner) caller (create_in s name caller made_one).effect
create_at s handle name manner caller names (NotMade status) is = nothing s (Create handle name manner) caller
create_at s handle name manner caller names (IsThere index) is = nothing s (Create handle name manner) caller
create_at s handle name manner caller names (Makes a) is =
    let root = goes_on (not (eqb caller.uid 0)) stat.Acces _ a is in
    let short = goes_on (ltb max_name (length name)) stat.NameTooLong _ a root.1 in
    let free = made s.clock name manner a (index_of s.names name) short.1 in
    record {
      permitted = (eqb-true _ _ (not_false _ root.0), free.left);
      asked = AsksFile handle name manner _ _ _ names free.absent;
      made = record { some = free.some; short = ltb-false _ _ short.0; bits = file_mode_bits a.mode };
    }

-- ---- each call

follows : (s : ServerState) (call : Nfs3Call) (caller : Caller) → Follows s call caller (plan_of s call caller).effect
follows s Null caller = nothing s Null caller
follows s (GetAttr handle) caller = nothing s (GetAttr handle) caller
follows s (SetAttr handle a guard) caller =
    at_handle s.files handle (λ (o : Object). Follows s (SetAttr handle a guard) caller (set_plan s o a guard caller).effect) (λ status. nothing s (SetAttr handle a guard) caller) (λ is. nothing s (SetAttr handle a guard) caller)
    (λ index f there is. set_at s handle index f a guard caller there is _ refl)
follows s (Lookup handle name) caller = nothing s (Lookup handle name) caller
follows s (Read handle offset count) caller = nothing s (Read handle offset count) caller
follows s (Write handle offset count how bytes) caller =
    at_handle s.files handle (λ (o : Object). Follows s (Write handle offset count how bytes) caller (write_plan s o offset count how bytes caller).effect) (λ status. nothing s (Write handle offset count how bytes) caller) (λ is. nothing s (Write handle offset count how bytes) caller)
    (λ index f there is. write_at s handle index f offset count how bytes caller there is _ refl)
follows s (Create handle name manner) caller =
    at_handle s.files handle (λ (o : Object). Follows s (Create handle name manner) caller (create_plan s o name manner caller).effect) (λ status. nothing s (Create handle name manner) caller) (λ is. create_at s handle name manner caller is _ refl)
    (λ index f there is. nothing s (Create handle name manner) caller)
follows s (FsInfo handle) caller = nothing s (FsInfo handle) caller
follows s (Commit handle offset count) caller =
    at_handle s.files handle (λ (o : Object). Follows s (Commit handle offset count) caller (commit_plan s o caller).effect) (λ status. nothing s (Commit handle offset count) caller) (λ is. nothing s (Commit handle offset count) caller)
    (λ index f there is. commit_at s handle index f offset count caller there is _ refl)

pub permitted : (s : ServerState) (call : Nfs3Call) (cred : Credential) → IsPermitted s (caller_of cred) (plan_of s call (caller_of cred)).effect
permitted s call cred = (follows s call (caller_of cred)).permitted

pub asked : (s : ServerState) (call : Nfs3Call) (cred : Credential) → IsAsked s call (plan_of s call (caller_of cred)).effect
asked s call cred = (follows s call (caller_of cred)).asked

pub well_made : (s : ServerState) (call : Nfs3Call) (cred : Credential) → IsWellMade (plan_of s call (caller_of cred)).effect
well_made s call cred = (follows s call (caller_of cred)).made
