-- What steps of READs and of own WRITEs leave of a file, and which of them end.
use Rattle.std.specs.Prelude.{◌≡◌, ℕ, ◌<◌, ◌^◌, ◌⊎◌, Bool, true, List, ◌++◌, length, Option, Some, None, Result, Ok, Err, ⊤, slice_get, slice_set, remove, position}
use Rattle.ff_xdr.specs.declared.error.NoMemory.{NoMemory}
use Rattle.cluster_model.specs.declared.entry.Entry.{Entry}
use Rattle.cluster_model.specs.Fences.{is_out}
use Rattle.mds_io.specs.declared.read_end.ReadEnd.{ReadEnd}
use Rattle.mds_io.specs.declared.read_end.ReadEnd.TheVariants as end
use Rattle.mds_io.specs.Reads.{ReadState, ReadAfter}
use Rattle.mds_io.specs.OwnWrites.{ended}
use Rattle.mirror_writer.specs.Writers.{WriterValue, WriterAfter}
use Rattle.mds_rule.specs.MdsStates.{CompoundRun, WaitingRead, WaitingWrite, ServedFile}
use Rattle.mds_rule.specs.Answers.{is_read_out, failed_entries, write_stepped, failures_by_place, has_failed_everywhere}
use Rattle.served_files.specs.declared.reading.EndedRead.{EndedRead}
use Rattle.served_files.specs.declared.writing.EndedWrite.{EndedWrite}

-- ---- reads

-- the reads of a file behind a step of the one at this place
abbrev pub reads_left : List WaitingRead → ℕ → WaitingRead → ReadState → Option ReadEnd → List WaitingRead
reads_left reads place r read None = slice_set reads place (record { compound = r.compound; read = read })
reads_left reads place r read (Some e) = remove reads place

-- the read that has ended, with its compound
abbrev pub ReadEndsAs : Option ReadEnd → CompoundRun → Option EndedRead → Type 0
ReadEndsAs None c None = ⊤
ReadEndsAs None c (Some e) = ⊥
ReadEndsAs (Some by) c None = ⊥
ReadEndsAs (Some by) c (Some e) = (e.compound ≡ c) × (e.end ≡ by)

-- the reads once the one at this place has ended, if it has
abbrev pub EndedAtPlace : List WaitingRead → ℕ → Option ReadEnd → Option EndedRead → List WaitingRead → Option WaitingRead → Type 0
EndedAtPlace old place None result new r = (result ≡ None) × (new ≡ old)
EndedAtPlace old place (Some by) result new None = ⊥
EndedAtPlace old place (Some by) result new (Some r) = (new ≡ remove old place) × ReadEndsAs (Some by) r.compound result

abbrev pub EndedAt : List WaitingRead → ℕ → Option ReadEnd → Option EndedRead → List WaitingRead → Type 0
EndedAt old place by result new = EndedAtPlace old place by result new (slice_get old place)

abbrev pub StepsReadAt : List WaitingRead → List Entry → (ReadState → ReadAfter) → ℕ → Option EndedRead → List WaitingRead → List Entry → Option WaitingRead → Type 0
StepsReadAt old entries step place result new entries' None = (result ≡ None) × (new ≡ old) × (entries' ≡ entries)
StepsReadAt old entries step place result new entries' (Some r) =
    (new ≡ reads_left old place r (step r.read).read (step r.read).end)
    × (entries' ≡ entries ++ failed_entries r.read (step r.read).read)
    × ReadEndsAs (step r.read).end r.compound result

abbrev pub StepsReadFrom : List WaitingRead → List Entry → (ReadState → ReadAfter) → Option EndedRead → List WaitingRead → List Entry → Option ℕ → Type 0
StepsReadFrom old entries step result new entries' None = (result ≡ None) × (new ≡ old) × (entries' ≡ entries)
StepsReadFrom old entries step result new entries' (Some place) = StepsReadAt old entries step place result new entries' (slice_get old place)

-- a step of the read whose call has this number, and the entries of its failures; it may have ended
abbrev pub StepsRead : List WaitingRead → List Entry → ℕ → (ReadState → ReadAfter) → Result (Option EndedRead) NoMemory → List WaitingRead → List Entry → Type 0
StepsRead old entries xid step (Err e) new entries' = ⊤
StepsRead old entries xid step (Ok result) new entries' = StepsReadFrom old entries step result new entries' (position (is_read_out xid) old)

-- what it ended with has fewer bytes than a number of 32 bits can count
abbrev pub IsFew : ReadEnd → Type 0
IsFew (end.Bytes eof bytes) = length bytes < 2 ^ 32
IsFew (end.AllFailed failures) = ⊤

abbrev pub GivesFew : Option EndedRead → Type 0
GivesFew None = ⊤
GivesFew (Some e) = IsFew e.end

abbrev pub EndsFew : Option ReadEnd → Type 0
EndsFew None = ⊤
EndsFew (Some by) = IsFew by

-- one is out under no number under which it was not
abbrev pub OutAsBefore : ReadState → ReadState → Type 0
OutAsBefore old new = (xid : ℕ) → is_out xid new.stage ≡ true → is_out xid old.stage ≡ true

-- nor under another one than this
abbrev pub OutUnder : ℕ → ReadState → ReadState → Type 0
OutUnder own old new = (xid : ℕ) → is_out xid new.stage ≡ true → (is_out xid old.stage ≡ true) ⊎ (xid ≡ own)

-- the step of one of them, and the entries of its failures
abbrev pub StepsOne : ReadAfter → WaitingRead → List Entry → Result (Option ReadEnd) NoMemory → WaitingRead → List Entry → Type 0
StepsOne after old entries (Err e) new entries' = ⊤
StepsOne after old entries (Ok by) new entries' =
    (new ≡ record { compound = old.compound; read = after.read }) × (entries' ≡ entries ++ failed_entries old.read after.read) × (by ≡ after.end)

-- ---- an own write

-- it is over and taken out
abbrev pub WriteTaken : ServedFile → Option EndedWrite → ServedFile → Option WaitingWrite → Type 0
WriteTaken old None new None = new ≡ old
WriteTaken old (Some e) new None = ⊥
WriteTaken old None new (Some w) = ⊥
WriteTaken old (Some e) new (Some w) =
    (new ≡ record old { write = None })
    × (e.compound ≡ w.compound)
    × (e.at ≡ w.at)
    × (e.bytes ≡ w.bytes)
    × (e.causes ≡ failures_by_place w.failures old.file.layout.live)
    × (e.has_failed ≡ has_failed_everywhere w.failures old.file.layout.live)

abbrev pub WriteEnds : ServedFile → WaitingWrite → Option EndedWrite → ServedFile → Option (List Bool) → Type 0
WriteEnds old w result new None = (result ≡ None) × (new ≡ record old { write = Some w })
WriteEnds old w None new (Some places) = ⊥
WriteEnds old w (Some e) new (Some places) =
    (new ≡ record old { write = None })
    × (e.compound ≡ w.compound)
    × (e.at ≡ w.at)
    × (e.bytes ≡ w.bytes)
    × (e.causes ≡ failures_by_place w.failures old.file.layout.live)
    × (e.has_failed ≡ has_failed_everywhere w.failures old.file.layout.live)

abbrev pub WriteBy : ServedFile → (WriterValue → WriterAfter) → Option EndedWrite → ServedFile → Option WaitingWrite → Type 0
WriteBy old step result new None = (result ≡ None) × (new ≡ old)
WriteBy old step result new (Some w) = WriteEnds old (write_stepped w (step w.writer)) result new (ended (step w.writer).writer)

-- a step of the file's own write, which may have ended; the name stays
abbrev pub StepsWrite : ServedFile → (WriterValue → WriterAfter) → Result (Option EndedWrite) NoMemory → ServedFile → Type 0
StepsWrite old step (Err e) new = new.name ≡ old.name
StepsWrite old step (Ok result) new = WriteBy old step result new old.write
