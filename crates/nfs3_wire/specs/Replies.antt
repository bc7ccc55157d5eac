-- The results of NFSv3 (RFC 1813, section 3.3) by procedure, without where their bytes lie.
use Rattle.std.specs.Prelude.{ℕ, List, Option, Bool}
use Rattle.std.proofs.Common.{inl, inr}
use Rattle.std.specs.Option.{option_map}
use Rattle.nfs3_wire.specs.declared.outcome.Outcome.TheVariants as outcome
use Rattle.ff_xdr.specs.Form.{Form, Void, Arm, NoArm, Value}
use Rattle.ff_xdr.specs.Arms.{arm}
use Rattle.nfs3_wire.specs.declared.stable_how.StableHow.{StableHow}
use Rattle.nfs3_wire.specs.declared.status.Stat3.{Stat3}
use Rattle.nfs3_wire.specs.declared.attributes.Fattr3.{Fattr3}
use Rattle.nfs3_wire.specs.declared.wcc.WccData.{WccData}
use Rattle.nfs3_wire.specs.declared.fsinfo.FsInfoOk.{FsInfoOk}
use Rattle.nfs3_wire.specs.declared.reply.Reply3.{Reply3}
use Rattle.nfs3_wire.specs.declared.reply.Reply3.TheVariants as reply3
use Rattle.nfs3_wire.specs.Stability.{stable_how_number}
use Rattle.nfs3_wire.specs.Status.{stat_number}
use Rattle.nfs3_wire.specs.Attributes.{fattr3_value}
use Rattle.nfs3_wire.specs.Wcc.{post_op_value, wcc_data_value}
use Rattle.nfs3_wire.specs.Getattr.{getattr_result}
use Rattle.nfs3_wire.specs.Setattr.{setattr_result}
use Rattle.nfs3_wire.specs.Lookup.{lookup_result}
use Rattle.nfs3_wire.specs.Read.{read_result}
use Rattle.nfs3_wire.specs.Write.{write_result}
use Rattle.nfs3_wire.specs.Create.{create_result}
use Rattle.nfs3_wire.specs.Fsinfo.{fsinfo_result, fsinfo_ok_value}
use Rattle.nfs3_wire.specs.Commit.{commit_result}

-- the result of each procedure that is built, by its number
abbrev pub nfs3_results : Form
nfs3_results =
    Arm 0 Void (Arm 1 getattr_result (Arm 2 setattr_result (Arm 3 lookup_result (Arm 6 read_result
    (Arm 7 write_result (Arm 8 create_result (Arm 19 fsinfo_result (Arm 21 commit_result NoArm))))))))

pub data Nfs3Reply : Type 0 where
  Null : Nfs3Reply
  GetAttrDone : (attributes : Fattr3) → Nfs3Reply
  GetAttrRefused : (status : Stat3) → Nfs3Reply
  SetAttrDone : (wcc : WccData) → Nfs3Reply
  SetAttrRefused : (status : Stat3) (wcc : WccData) → Nfs3Reply
  LookupDone : (file : List ℕ) (attributes directory : Option Fattr3) → Nfs3Reply
  LookupRefused : (status : Stat3) (directory : Option Fattr3) → Nfs3Reply
  ReadDone : (attributes : Option Fattr3) (count : ℕ) (eof : Bool) (bytes : List ℕ) → Nfs3Reply
  ReadRefused : (status : Stat3) (attributes : Option Fattr3) → Nfs3Reply
  WriteDone : (wcc : WccData) (count : ℕ) (committed : StableHow) (verifier : ℕ) → Nfs3Reply
  WriteRefused : (status : Stat3) (wcc : WccData) → Nfs3Reply
  CreateDone : (file : Option (List ℕ)) (attributes : Option Fattr3) (wcc : WccData) → Nfs3Reply
  CreateRefused : (status : Stat3) (wcc : WccData) → Nfs3Reply
  FsInfoDone : (info : FsInfoOk) → Nfs3Reply
  FsInfoRefused : (status : Stat3) (attributes : Option Fattr3) → Nfs3Reply
  CommitDone : (wcc : WccData) (verifier : ℕ) → Nfs3Reply
  CommitRefused : (status : Stat3) (wcc : WccData) → Nfs3Reply

-- a result as a value of the form
abbrev pub reply_value : Nfs3Reply → Value nfs3_results
reply_value Null = arm 0 nfs3_results tt
reply_value (GetAttrDone attributes) = arm 1 nfs3_results (inl (fattr3_value attributes))
reply_value (GetAttrRefused status) = arm 1 nfs3_results (inr (stat_number status, tt))
reply_value (SetAttrDone wcc) = arm 2 nfs3_results (inl (wcc_data_value wcc))
reply_value (SetAttrRefused status wcc) = arm 2 nfs3_results (inr (stat_number status, wcc_data_value wcc))
reply_value (LookupDone file attributes directory) = arm 3 nfs3_results (inl (file, (post_op_value attributes, post_op_value directory)))
reply_value (LookupRefused status directory) = arm 3 nfs3_results (inr (stat_number status, post_op_value directory))
reply_value (ReadDone attributes count eof bytes) = arm 6 nfs3_results (inl (post_op_value attributes, (count, (eof, bytes))))
reply_value (ReadRefused status attributes) = arm 6 nfs3_results (inr (stat_number status, post_op_value attributes))
reply_value (WriteDone wcc count committed verifier) = arm 7 nfs3_results (inl (wcc_data_value wcc, (count, (stable_how_number committed, verifier))))
reply_value (WriteRefused status wcc) = arm 7 nfs3_results (inr (stat_number status, wcc_data_value wcc))
reply_value (CreateDone file attributes wcc) = arm 8 nfs3_results (inl (file, (post_op_value attributes, wcc_data_value wcc)))
reply_value (CreateRefused status wcc) = arm 8 nfs3_results (inr (stat_number status, wcc_data_value wcc))
reply_value (FsInfoDone info) = arm 19 nfs3_results (inl (fsinfo_ok_value info))
reply_value (FsInfoRefused status attributes) = arm 19 nfs3_results (inr (stat_number status, post_op_value attributes))
reply_value (CommitDone wcc verifier) = arm 21 nfs3_results (inl (wcc_data_value wcc, verifier))
reply_value (CommitRefused status wcc) = arm 21 nfs3_results (inr (stat_number status, wcc_data_value wcc))

-- a result of the code without where its bytes lie
abbrev pub plain_reply : Reply3 → Nfs3Reply
plain_reply reply3.Null = Null
plain_reply (reply3.GetAttr (outcome.Done attributes)) = GetAttrDone attributes
plain_reply (reply3.GetAttr (outcome.Refused status nothing)) = GetAttrRefused status
plain_reply (reply3.SetAttr (outcome.Done wcc)) = SetAttrDone wcc
plain_reply (reply3.SetAttr (outcome.Refused status wcc)) = SetAttrRefused status wcc
plain_reply (reply3.Lookup (outcome.Done r)) = LookupDone r.file.now r.attributes r.directory
plain_reply (reply3.Lookup (outcome.Refused status directory)) = LookupRefused status directory
plain_reply (reply3.Read (outcome.Done r)) = ReadDone r.attributes r.count r.eof r.bytes.now
plain_reply (reply3.Read (outcome.Refused status attributes)) = ReadRefused status attributes
plain_reply (reply3.Write (outcome.Done r)) = WriteDone r.wcc r.count r.committed r.verifier
plain_reply (reply3.Write (outcome.Refused status wcc)) = WriteRefused status wcc
plain_reply (reply3.Create (outcome.Done r)) = CreateDone (option_map (λ file. file.now) r.file) r.attributes r.wcc
plain_reply (reply3.Create (outcome.Refused status wcc)) = CreateRefused status wcc
plain_reply (reply3.FsInfo (outcome.Done info)) = FsInfoDone info
plain_reply (reply3.FsInfo (outcome.Refused status attributes)) = FsInfoRefused status attributes
plain_reply (reply3.Commit (outcome.Done r)) = CommitDone r.wcc r.verifier
plain_reply (reply3.Commit (outcome.Refused status wcc)) = CommitRefused status wcc
