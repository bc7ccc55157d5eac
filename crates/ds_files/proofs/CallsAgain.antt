-- A call that was read is the call.
use Rattle.std.proofs.Common.{◌≡◌, Option, Some, None, refl, ap}
use Rattle.std.specs.Option.{option_map}
use Rattle.nfs3_wire.specs.declared.attributes.Time3.{Time3}
use Rattle.nfs3_wire.specs.declared.sattr.SetTime.{SetTime}
use Rattle.nfs3_wire.specs.declared.sattr.SetTime.TheVariants.{Keep, Server, Client}
use Rattle.nfs3_wire.specs.declared.sattr.Sattr3.{Sattr3}
use Rattle.nfs3_wire.specs.declared.stable_how.StableHow.{StableHow}
use Rattle.nfs3_wire.specs.declared.stable_how.StableHow.TheVariants.{Unstable, DataSync, FileSync}
use Rattle.nfs3_wire.specs.declared.create.CreateHow.{CreateHow}
use Rattle.nfs3_wire.specs.declared.create.CreateHow.TheVariants.{Unchecked, Guarded, Exclusive}
use Rattle.nfs3_wire.specs.Stability.{stable_how_of, stable_how_number}
use Rattle.nfs3_wire.specs.Attributes.{time3_of, time3_value}
use Rattle.nfs3_wire.specs.Sattr.{set_time_of, set_time_value, sattr3_of, sattr3_value}
use Rattle.nfs3_wire.specs.Create.{create_how_of, create_how_value}
use Rattle.nfs3_wire.specs.Calls.{Nfs3Call, Null, GetAttr, SetAttr, Lookup, Read, Write, Create, FsInfo, Commit, call_of, call_value}

how_again : (how : StableHow) → stable_how_of (stable_how_number how) ≡ how
how_again Unstable = refl
how_again DataSync = refl
how_again FileSync = refl

set_time_again : (t : SetTime) → set_time_of (set_time_value t) ≡ t
set_time_again Keep = refl
set_time_again Server = refl
set_time_again (Client t) = refl

sattr_again : (a : Sattr3) → sattr3_of (sattr3_value a) ≡ a
sattr_again a = rw (set_time_again a.atime, set_time_again a.mtime) refl

guard_again : (guard : Option Time3) → option_map time3_of (option_map time3_value guard) ≡ guard
guard_again None = refl
guard_again (Some t) = refl

create_again : (how : CreateHow) → create_how_of (create_how_value how) ≡ how
create_again (Unchecked a) = ap Unchecked (sattr_again a)
create_again (Guarded a) = ap Guarded (sattr_again a)
create_again (Exclusive verifier) = refl

pub call_again : (c : Nfs3Call) → call_of (call_value c) ≡ c
call_again Null = refl
call_again (GetAttr file) = refl
call_again (SetAttr file attributes guard) = rw (sattr_again attributes, guard_again guard) refl
call_again (Lookup directory name) = refl
call_again (Read file offset count) = refl
call_again (Write file offset count how bytes) = ap (λ (h : StableHow). Write file offset count h bytes) (how_again how)
call_again (Create directory name how) = ap (λ (h : CreateHow). Create directory name h) (create_again how)
call_again (FsInfo root) = refl
call_again (Commit file offset count) = refl
