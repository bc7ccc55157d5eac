-- That a file's name stays in each of its steps.
use Rattle.std.proofs.Common.{◌≡◌, ℕ, Bool, List, Option, Some, None, Result, Ok, Err, sym, ap}
use Rattle.std.specs.Option.{option_map}
use Rattle.std.proofs.lemmas.Option.{same_Some}
use Rattle.std.specs.Prelude.{slice_get}
use Rattle.ff_xdr.specs.declared.error.NoMemory.{NoMemory}
use Rattle.cluster_model.specs.declared.ids.FileId.{FileId}
use Rattle.cluster_model.specs.declared.entry.Entry.{Entry}
use Rattle.file_rule.specs.declared.fresh.Fresh.{Fresh}
use Rattle.file_rule.specs.MdsFiles.{FileStep}
use Rattle.file_rule.specs.FilePhases.{CallOut, call_out}
use Rattle.mds_io.specs.OwnWrites.{ended}
use Rattle.mirror_writer.specs.Writers.{WriterValue, WriterAfter, WriterSends}
use Rattle.mirror_writer.specs.Writers as writer
use Rattle.mds_rule.specs.MdsStates.{WaitingRead, WaitingWrite, ServedFile}
use Rattle.mds_rule.specs.Answers.{write_stepped}
use Rattle.mds_rule.specs.Goes.{OwnCall, own_of_file, own_of_write, own_by}
use Rattle.served_files.specs.declared.writing.EndedWrite.{EndedWrite}
use Rattle.served_files.specs.declared.sending.SentByFile.{SentByFile}
use Rattle.served_files.specs.Waiting.{WriteEnds, WriteBy, StepsWrite}
use Rattle.served_files.specs.Sending.{SendsOwn, SendsReadAt, SendsFileRead}
use Rattle.served_files.specs.FileSteps.{TakesStep}

abbrev name_of : ServedFile → List ℕ
name_of s = s.name

pub taken : (step : FileStep) (old : ServedFile) (fresh : Fresh) (entries : List Entry) (result : Result Bool NoMemory) (new : ServedFile) (fresh' : Fresh) (entries' : List Entry) → TakesStep step old fresh entries result new fresh' entries' → new.name ≡ old.name
taken step old fresh entries (Err e) new fresh' entries' said = said
taken step old fresh entries (Ok has_ended) new fresh' entries' (is, drew, entered, over) = ap name_of is

write_ends : (old : ServedFile) (w : WaitingWrite) (result : Option EndedWrite) (new : ServedFile) (places : Option (List Bool)) → WriteEnds old w result new places → new.name ≡ old.name
write_ends old w result new None (none, is) = ap name_of is
write_ends old w None new (Some places) said = absurd said
write_ends old w (Some e) new (Some places) (is, compound, at, bytes, causes, failed) = ap name_of is

write_by : (old : ServedFile) (step : WriterValue → WriterAfter) (result : Option EndedWrite) (new : ServedFile) (w : Option WaitingWrite) → WriteBy old step result new w → new.name ≡ old.name
write_by old step result new None (none, is) = ap name_of is
write_by old step result new (Some w) said = write_ends old (write_stepped w (step w.writer)) result new (ended (step w.writer).writer) said

pub written : (old : ServedFile) (step : WriterValue → WriterAfter) (result : Result (Option EndedWrite) NoMemory) (new : ServedFile) → StepsWrite old step result new → new.name ≡ old.name
written old step (Err e) new said = said
written old step (Ok result) new said = write_by old step result new old.write said

own_name : (file : FileId) (old : ServedFile) (w : WaitingWrite) (sent : Option WriterSends) (c : OwnCall) → option_map (own_of_write file old w) sent ≡ Some c → c.served.name ≡ old.name
own_name file old w None c is = absurd (cc)
own_name file old w (Some sent) c is = ap (λ (o : OwnCall). o.served.name) (sym (same_Some (own_of_write file old w sent) c is))

file_name : (file : FileId) (old : ServedFile) (out : Option CallOut) (c : OwnCall) → option_map (own_of_file file old) out ≡ Some c → c.served.name ≡ old.name
file_name file old None c is = absurd (cc)
file_name file old (Some out) c is = ap (λ (o : OwnCall). o.served.name) (sym (same_Some (own_of_file file old out) c is))

own_by_name : (file : FileId) (old : ServedFile) (xid : ℕ) (w : Option WaitingWrite) (c : OwnCall) → own_by file old xid w ≡ Some c → c.served.name ≡ old.name
own_by_name file old xid None c is = file_name file old (call_out old.file xid) c is
own_by_name file old xid (Some w) c is = own_name file old w (writer.next_sent w.writer xid) c is

pub own_sent : (file : FileId) (old : ServedFile) (xid : ℕ) (result : Result (Option SentByFile) NoMemory) (new : ServedFile) → SendsOwn file old xid result new → new.name ≡ old.name
own_sent file old xid (Err e) new said = said
own_sent file old xid (Ok None) new (none, is) = ap name_of is
own_sent file old xid (Ok (Some c)) new said = own_by_name file old xid old.write (record { served = new; caller = c.caller; server = c.server; uid = c.uid.0; call = c.call }) said

read_at : (file : FileId) (old : ServedFile) (n xid : ℕ) (result : Result (Option SentByFile) NoMemory) (new : ServedFile) (r : Option WaitingRead) → SendsReadAt file old n xid result new r → new.name ≡ old.name
read_at file old n xid (Err e) new r said = said
read_at file old n xid (Ok None) new None is = ap name_of is
read_at file old n xid (Ok (Some c)) new None said = absurd said
read_at file old n xid (Ok None) new (Some r) (none, is) = ap name_of is
read_at file old n xid (Ok (Some c)) new (Some r) (sent, next, is, caller, server, uid, call) = ap name_of is

pub read_sent : (file : FileId) (old : ServedFile) (n xid : ℕ) (result : Result (Option SentByFile) NoMemory) (new : ServedFile) → SendsFileRead file old n xid result new → new.name ≡ old.name
read_sent file old n xid result new said = read_at file old n xid result new (slice_get old.reads n) said
