-- Which calls of a file go out, and to which server the next one waits.
use Rattle.std.specs.Prelude.{◌≡◌, ℕ, List, Option, Some, None, Result, Ok, Err, ⊤, slice_get, slice_set}
use Rattle.ff_xdr.specs.declared.error.NoMemory.{NoMemory}
use Rattle.cluster_model.specs.declared.ids.FileId.{FileId}
use Rattle.file_rule.specs.MdsFiles.{MdsFile}
use Rattle.file_rule.specs.FilePhases.{CallOut}
use Rattle.mirror_writer.specs.Writers.{WriterSends}
use Rattle.mds_io.specs.Reads.{ReadSends}
use Rattle.mds_io.specs.Reads as read
use Rattle.mds_rule.specs.MdsStates.{WaitingRead, WaitingWrite, ServedFile}
use Rattle.mds_rule.specs.Goes.{OwnCall, own_by}
use Rattle.mds_rule.specs.declared.waiter.Waiter.TheVariants.{ForFile, ForRead, ForWrite}
use Rattle.served_files.specs.declared.sending.SentByFile.{SentByFile}

-- the server to which its next own call waits
abbrev pub OwnWaits : ServedFile → FileId → ℕ → Option ℕ → Type 0
OwnWaits s file xid None = own_by file s xid s.write ≡ None
OwnWaits s file xid (Some server) = (c : OwnCall) × (own_by file s xid s.write ≡ Some c) × (c.server ≡ server)

-- that call goes out under a number; the name stays
abbrev pub SendsOwn : FileId → ServedFile → ℕ → Result (Option SentByFile) NoMemory → ServedFile → Type 0
SendsOwn file old xid (Err e) new = new.name ≡ old.name
SendsOwn file old xid (Ok None) new = (own_by file old xid old.write ≡ None) × (new ≡ old)
SendsOwn file old xid (Ok (Some c)) new =
    own_by file old xid old.write ≡ Some (record { served = new; caller = c.caller; server = c.server; uid = c.uid.0; call = c.call })

-- the READ that would go out for the one at this place
abbrev pub read_sent : ServedFile → ℕ → Option WaitingRead → Option ReadSends
read_sent s xid None = None
read_sent s xid (Some r) = read.next_sent r.read xid

abbrev pub ReadWaits : ServedFile → ℕ → ℕ → Option ℕ → Type 0
ReadWaits s n xid None = read_sent s xid (slice_get s.reads n) ≡ None
ReadWaits s n xid (Some server) = (sent : ReadSends) × (read_sent s xid (slice_get s.reads n) ≡ Some sent) × (sent.id.server ≡ server)

-- the file once it has gone out
abbrev pub read_out : ServedFile → ℕ → WaitingRead → ReadSends → ServedFile
read_out s n r sent = record s { reads = slice_set s.reads n (record { compound = r.compound; read = sent.read }) }

abbrev pub SendsReadAt : FileId → ServedFile → ℕ → ℕ → Result (Option SentByFile) NoMemory → ServedFile → Option WaitingRead → Type 0
SendsReadAt file old n xid (Err e) new r = new.name ≡ old.name
SendsReadAt file old n xid (Ok None) new None = new ≡ old
SendsReadAt file old n xid (Ok (Some c)) new None = ⊥
SendsReadAt file old n xid (Ok None) new (Some r) = (read.next_sent r.read xid ≡ None) × (new ≡ old)
SendsReadAt file old n xid (Ok (Some c)) new (Some r) =
    (sent : ReadSends)
    × (read.next_sent r.read xid ≡ Some sent)
    × (new ≡ read_out old n r sent)
    × (c.caller ≡ ForRead file)
    × (c.server ≡ sent.id.server)
    × (c.uid.0 ≡ 0)
    × (c.call ≡ sent.call)

abbrev pub SendsFileRead : FileId → ServedFile → ℕ → ℕ → Result (Option SentByFile) NoMemory → ServedFile → Type 0
SendsFileRead file old n xid result new = SendsReadAt file old n xid result new (slice_get old.reads n)

-- ---- the parts of a file that send: the call that is the next one goes out, where there is one

abbrev pub SentOfWrite : FileId → WaitingWrite → Option WriterSends → Result (Option SentByFile) NoMemory → WaitingWrite → Type 0
SentOfWrite file old sent (Err e) new = ⊤
SentOfWrite file old None (Ok None) new = new ≡ old
SentOfWrite file old None (Ok (Some c)) new = ⊥
SentOfWrite file old (Some sent) (Ok None) new = ⊥
SentOfWrite file old (Some sent) (Ok (Some c)) new =
    (new ≡ record old { writer = sent.writer })
    × (c.caller ≡ ForWrite file)
    × (c.server ≡ sent.id.server)
    × (c.uid.0 ≡ old.writer.cred)
    × (c.call ≡ sent.call)

abbrev pub SentOfFile : FileId → MdsFile → Option CallOut → Result (Option SentByFile) NoMemory → MdsFile → Type 0
SentOfFile file old out (Err e) new = ⊤
SentOfFile file old None (Ok None) new = new ≡ old
SentOfFile file old None (Ok (Some c)) new = ⊥
SentOfFile file old (Some out) (Ok None) new = ⊥
SentOfFile file old (Some out) (Ok (Some c)) new =
    (new ≡ out.file)
    × (c.caller ≡ ForFile file)
    × (c.server ≡ out.server)
    × (c.uid.0 ≡ out.uid)
    × (c.call ≡ out.call)

abbrev pub SentOfRead : FileId → WaitingRead → Option ReadSends → Result (Option SentByFile) NoMemory → WaitingRead → Type 0
SentOfRead file old sent (Err e) new = ⊤
SentOfRead file old None (Ok None) new = new ≡ old
SentOfRead file old None (Ok (Some c)) new = ⊥
SentOfRead file old (Some sent) (Ok None) new = ⊥
SentOfRead file old (Some sent) (Ok (Some c)) new =
    (new ≡ record { compound = old.compound; read = sent.read })
    × (c.caller ≡ ForRead file)
    × (c.server ≡ sent.id.server)
    × (c.uid.0 ≡ 0)
    × (c.call ≡ sent.call)

-- the one at this place among these goes out
abbrev pub SendsOne : FileId → List WaitingRead → ℕ → ℕ → Result (Option SentByFile) NoMemory → List WaitingRead → Option WaitingRead → Type 0
SendsOne file old n xid result new None = (result ≡ Ok None) × (new ≡ old)
SendsOne file old n xid result new (Some r) = (v : WaitingRead) × SentOfRead file r (read.next_sent r.read xid) result v × (new ≡ slice_set old n v)

abbrev pub SendsAmong : FileId → List WaitingRead → ℕ → ℕ → Result (Option SentByFile) NoMemory → List WaitingRead → Type 0
SendsAmong file old n xid result new = SendsOne file old n xid result new (slice_get old n)
