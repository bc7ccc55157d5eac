-- The calls of NFSv3 (RFC 1813, section 3.3), without where their bytes lie.
use Rattle.std.specs.Prelude.{ℕ, List, Option}
use Rattle.std.specs.Option.{option_map}
use Rattle.ff_xdr.specs.Form.{Form, Void, Arm, NoArm, Value}
use Rattle.ff_xdr.specs.Arms.{arm, by_arm}
use Rattle.nfs3_wire.specs.declared.attributes.Time3.{Time3}
use Rattle.nfs3_wire.specs.declared.sattr.Sattr3.{Sattr3}
use Rattle.nfs3_wire.specs.declared.stable_how.StableHow.{StableHow}
use Rattle.nfs3_wire.specs.declared.create.CreateHow.{CreateHow}
use Rattle.nfs3_wire.specs.declared.call.Call3.{Call3}
use Rattle.nfs3_wire.specs.declared.call.Call3.TheVariants as call3
use Rattle.nfs3_wire.specs.Stability.{stable_how_number, stable_how_of}
use Rattle.nfs3_wire.specs.Attributes.{time3_value, time3_of}
use Rattle.nfs3_wire.specs.Sattr.{sattr3_value, sattr3_of}
use Rattle.nfs3_wire.specs.Getattr.{getattr_args}
use Rattle.nfs3_wire.specs.Setattr.{setattr_args}
use Rattle.nfs3_wire.specs.Lookup.{lookup_args}
use Rattle.nfs3_wire.specs.Read.{read_args}
use Rattle.nfs3_wire.specs.Write.{write_args}
use Rattle.nfs3_wire.specs.Create.{create_how_value, create_how_of, create_args}
use Rattle.nfs3_wire.specs.Fsinfo.{fsinfo_args}
use Rattle.nfs3_wire.specs.Commit.{commit_args}

-- the arguments of each procedure that is built, by its number
abbrev pub calls : Form
calls =
    Arm 0 Void (Arm 1 getattr_args (Arm 2 setattr_args (Arm 3 lookup_args (Arm 6 read_args
    (Arm 7 write_args (Arm 8 create_args (Arm 19 fsinfo_args (Arm 21 commit_args NoArm))))))))

pub data Nfs3Call : Type 0 where
  Null : Nfs3Call
  GetAttr : (file : List ℕ) → Nfs3Call
  SetAttr : (file : List ℕ) (attributes : Sattr3) (guard : Option Time3) → Nfs3Call
  Lookup : (directory name : List ℕ) → Nfs3Call
  Read : (file : List ℕ) (offset count : ℕ) → Nfs3Call
  Write : (file : List ℕ) (offset count : ℕ) (stable : StableHow) (bytes : List ℕ) → Nfs3Call
  Create : (directory name : List ℕ) (how : CreateHow) → Nfs3Call
  FsInfo : (root : List ℕ) → Nfs3Call
  Commit : (file : List ℕ) (offset count : ℕ) → Nfs3Call

-- a call as a value of the form, and a value as a call
abbrev pub call_value : Nfs3Call → Value calls
call_value Null = arm 0 calls tt
call_value (GetAttr file) = arm 1 calls file
call_value (SetAttr file attributes guard) = arm 2 calls (file, (sattr3_value attributes, option_map time3_value guard))
call_value (Lookup directory name) = arm 3 calls (directory, name)
call_value (Read file offset count) = arm 6 calls (file, (offset, count))
call_value (Write file offset count stable bytes) = arm 7 calls (file, (offset, (count, (stable_how_number stable, bytes))))
call_value (Create directory name how) = arm 8 calls (directory, (name, create_how_value how))
call_value (FsInfo root) = arm 19 calls root
call_value (Commit file offset count) = arm 21 calls (file, (offset, count))

abbrev pub call_of : Value calls → Nfs3Call
call_of = by_arm calls (
  λ nothing. Null,
  (
    λ file. GetAttr file,
    (
      λ (file, (attributes, guard)). SetAttr file (sattr3_of attributes) (option_map time3_of guard),
      (
        λ (directory, name). Lookup directory name,
        (
          λ (file, (offset, count)). Read file offset count,
          (
            λ (file, (offset, (count, (stable, bytes)))). Write file offset count (stable_how_of stable) bytes,
            (
              λ (directory, (name, how)). Create directory name (create_how_of how),
              (
                λ root. FsInfo root,
                (λ (file, (offset, count)). Commit file offset count, tt),
              ),
            ),
          ),
        ),
      ),
    ),
  ),
)

-- a call of the code without where its bytes lie
abbrev pub plain_call : Call3 → Nfs3Call
plain_call call3.Null = Null
plain_call (call3.GetAttr a) = GetAttr a.file.now
plain_call (call3.SetAttr a) = SetAttr a.file.now a.attributes a.guard
plain_call (call3.Lookup a) = Lookup a.directory.now a.name.now
plain_call (call3.Read a) = Read a.file.now a.offset a.count
plain_call (call3.Write a) = Write a.file.now a.offset a.count a.stable a.bytes.now
plain_call (call3.Create a) = Create a.directory.now a.name.now a.how
plain_call (call3.FsInfo a) = FsInfo a.root.now
plain_call (call3.Commit a) = Commit a.file.now a.offset a.count
