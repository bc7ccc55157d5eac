-- An answer, with the data of a READ beside it.
use Rattle.std.specs.Prelude.{ℕ, List, Some}
use Rattle.nfs3_wire.specs.declared.outcome.Outcome.TheVariants as outcome
use Rattle.nfs3_wire.specs.Replies.{Nfs3Reply, Null, GetAttrDone, GetAttrRefused, SetAttrDone, SetAttrRefused, LookupDone, LookupRefused, ReadDone, ReadRefused, WriteDone, WriteRefused, CreateDone, CreateRefused, FsInfoDone, FsInfoRefused, CommitDone, CommitRefused}
use Rattle.cluster_model.specs.declared.entry.Entry.{Entry}
use Rattle.ds_procedures.specs.declared.stored.StoredReply.{StoredReply}
use Rattle.ds_procedures.specs.declared.stored.StoredReply.TheVariants as stored
use Rattle.ds_procedures.specs.Plans.{Step}

-- what is answered, and the entries of the step
pub record Answer : Type 0 where
  pub reply : Nfs3Reply
  pub entries : List Entry

-- what a step answers
abbrev pub answer_of : Step → Answer
answer_of s = record { reply = s.reply; entries = s.entries }

-- a result whose READ gave these bytes
abbrev pub reply_with : StoredReply → List ℕ → Nfs3Reply
reply_with stored.Null bytes = Null
reply_with (stored.GetAttr (outcome.Done attributes)) bytes = GetAttrDone attributes
reply_with (stored.GetAttr (outcome.Refused status nothing)) bytes = GetAttrRefused status
reply_with (stored.SetAttr (outcome.Done wcc)) bytes = SetAttrDone wcc
reply_with (stored.SetAttr (outcome.Refused status wcc)) bytes = SetAttrRefused status wcc
reply_with (stored.LookupDone file attributes directory) bytes = LookupDone file attributes directory
reply_with (stored.LookupRefused status directory) bytes = LookupRefused status directory
reply_with (stored.ReadDone attributes count eof) bytes = ReadDone attributes count eof bytes
reply_with (stored.ReadRefused status attributes) bytes = ReadRefused status attributes
reply_with (stored.Write (outcome.Done r)) bytes = WriteDone r.wcc r.count r.committed r.verifier
reply_with (stored.Write (outcome.Refused status wcc)) bytes = WriteRefused status wcc
reply_with (stored.CreateDone file attributes wcc) bytes = CreateDone (Some file) attributes wcc
reply_with (stored.CreateRefused status wcc) bytes = CreateRefused status wcc
reply_with (stored.FsInfo (outcome.Done info)) bytes = FsInfoDone info
reply_with (stored.FsInfo (outcome.Refused status attributes)) bytes = FsInfoRefused status attributes
reply_with (stored.Commit (outcome.Done r)) bytes = CommitDone r.wcc r.verifier
reply_with (stored.Commit (outcome.Refused status wcc)) bytes = CommitRefused status wcc
