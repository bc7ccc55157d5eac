-- What an input of the table of phases leaves of a file; and what becomes of one file among many.
use Rattle.std.specs.Prelude.{◌≡◌, ℕ, Bool, false, List, ◌++◌, Option, Some, None, Result, Ok, Err, ⊤, slice_get, length, filter, ◌+◌, ◌%◌, ◌^◌}
use Rattle.std.specs.List.{list_any}
use Rattle.ff_xdr.specs.declared.error.NoMemory.{NoMemory}
use Rattle.cluster_model.specs.declared.ids.FileId.{FileId}
use Rattle.cluster_model.specs.declared.entry.Entry.{Entry}
use Rattle.cluster_model.specs.Phases.{holder_of}
use Rattle.file_rule.specs.declared.fresh.Fresh.{Fresh}
use Rattle.file_rule.specs.MdsFiles.{FileStep}
use Rattle.file_rule.specs.FilePhases.{FileInput, phase}
use Rattle.mds_io.specs.Reads.{ReadState, ReadAfter}
use Rattle.mirror_writer.specs.Writers.{WriterValue, WriterAfter}
use Rattle.mds_rows.specs.Draws.{drawn}
use Rattle.mds_rule.specs.MdsStates.{WaitingRead, ServedFile, served_in, with_file}
use Rattle.mds_rule.specs.ServedFiles.{file_behind, is_of_period, is_period_end, kept_holder, reads_behind, sizes_in}
use Rattle.served_files.specs.declared.reading.EndedRead.{EndedRead}
use Rattle.served_files.specs.declared.writing.EndedWrite.{EndedWrite}
use Rattle.served_files.specs.declared.sending.SentByFile.{SentByFile}
use Rattle.served_files.specs.Waiting.{StepsRead, StepsWrite}
use Rattle.served_files.specs.Sending.{SendsOwn, SendsFileRead}

-- what these entries of an input leave of the file, once it stands as the input has left it
abbrev pub heard : ServedFile → List Entry → ServedFile
heard s entries = record s {
  sizes = sizes_in s.file.layout s.file.layout.phase s.sizes;
  periods = (s.periods + length (filter is_of_period entries)) % (2 ^ 64);
  holder = kept_holder (holder_of s.file.layout.phase) s.holder;
  reads = reads_behind entries s.file.layout.live s.reads;
}

-- the file took this step, and a period ended in it or not; its name stays, whatever comes of it
abbrev pub TakesStep : FileStep → ServedFile → Fresh → List Entry → Result Bool NoMemory → ServedFile → Fresh → List Entry → Type 0
TakesStep step old fresh entries (Err e) new fresh' entries' = new.name ≡ old.name
TakesStep step old fresh entries (Ok has_ended) new fresh' entries' =
    (new ≡ file_behind old step) × (fresh' ≡ drawn fresh step) × (entries' ≡ entries ++ step.entries) × (has_ended ≡ list_any is_period_end step.entries)

-- ---- one file among many

-- the file at a place
abbrev pub at_place : List ServedFile → Option ℕ → Option ServedFile
at_place files None = None
at_place files (Some place) = slice_get files place

-- it became this, where it is there
abbrev pub changed_at : List ServedFile → FileId → (ServedFile → ServedFile) → Option ServedFile → List ServedFile
changed_at files file change None = files
changed_at files file change (Some s) = with_file files file (change s)

abbrev pub changed_in : List ServedFile → FileId → (ServedFile → ServedFile) → List ServedFile
changed_in files file change = changed_at files file change (served_in files file)

-- it took an input
abbrev pub TakesAt : FileInput → List ServedFile → FileId → Fresh → List Entry → Result Bool NoMemory → List ServedFile → Fresh → List Entry → Option ServedFile → Type 0
TakesAt input old file fresh entries (Err e) new fresh' entries' s = ⊤
TakesAt input old file fresh entries (Ok has_ended) new fresh' entries' None = (has_ended ≡ false) × (new ≡ old) × (fresh' ≡ fresh) × (entries' ≡ entries)
TakesAt input old file fresh entries (Ok has_ended) new fresh' entries' (Some s) =
    (new ≡ with_file old file (file_behind s (phase file s.file input fresh)))
    × (fresh' ≡ drawn fresh (phase file s.file input fresh))
    × (entries' ≡ entries ++ (phase file s.file input fresh).entries)
    × (has_ended ≡ list_any is_period_end (phase file s.file input fresh).entries)

abbrev pub TakesIn : FileInput → List ServedFile → FileId → Fresh → List Entry → Result Bool NoMemory → List ServedFile → Fresh → List Entry → Type 0
TakesIn input old file fresh entries result new fresh' entries' = TakesAt input old file fresh entries result new fresh' entries' (served_in old file)

-- a step of one of its READs
abbrev pub StepsReadOf : List ServedFile → FileId → List Entry → ℕ → (ReadState → ReadAfter) → Result (Option EndedRead) NoMemory → List ServedFile → List Entry → Option ServedFile → Type 0
StepsReadOf old file entries xid step (Err e) new entries' s = ⊤
StepsReadOf old file entries xid step (Ok result) new entries' None = (result ≡ None) × (new ≡ old) × (entries' ≡ entries)
StepsReadOf old file entries xid step (Ok result) new entries' (Some s) =
    (reads : List WaitingRead) × StepsRead s.reads entries xid step (Ok result) reads entries' × (new ≡ with_file old file (record s { reads = reads }))

abbrev pub StepsReadIn : List ServedFile → FileId → List Entry → ℕ → (ReadState → ReadAfter) → Result (Option EndedRead) NoMemory → List ServedFile → List Entry → Type 0
StepsReadIn old file entries xid step result new entries' = StepsReadOf old file entries xid step result new entries' (served_in old file)

-- a step of its own WRITE
abbrev pub StepsWriteOf : List ServedFile → FileId → (WriterValue → WriterAfter) → Result (Option EndedWrite) NoMemory → List ServedFile → Option ServedFile → Type 0
StepsWriteOf old file step (Err e) new s = ⊤
StepsWriteOf old file step (Ok result) new None = (result ≡ None) × (new ≡ old)
StepsWriteOf old file step (Ok result) new (Some s) = (t : ServedFile) × StepsWrite s step (Ok result) t × (new ≡ with_file old file t)

abbrev pub StepsWriteIn : List ServedFile → FileId → (WriterValue → WriterAfter) → Result (Option EndedWrite) NoMemory → List ServedFile → Type 0
StepsWriteIn old file step result new = StepsWriteOf old file step result new (served_in old file)

-- a call of it goes out
abbrev pub SendsOwnOf : List ServedFile → FileId → ℕ → Result (Option SentByFile) NoMemory → List ServedFile → Option ServedFile → Type 0
SendsOwnOf old file xid (Err e) new s = ⊤
SendsOwnOf old file xid (Ok result) new None = (result ≡ None) × (new ≡ old)
SendsOwnOf old file xid (Ok result) new (Some s) = (t : ServedFile) × SendsOwn file s xid (Ok result) t × (new ≡ with_file old file t)

abbrev pub SendsOwnIn : List ServedFile → FileId → ℕ → Result (Option SentByFile) NoMemory → List ServedFile → Type 0
SendsOwnIn old file xid result new = SendsOwnOf old file xid result new (served_in old file)

abbrev pub SendsReadOf : List ServedFile → FileId → ℕ → ℕ → Result (Option SentByFile) NoMemory → List ServedFile → Option ServedFile → Type 0
SendsReadOf old file n xid (Err e) new s = ⊤
SendsReadOf old file n xid (Ok result) new None = (result ≡ None) × (new ≡ old)
SendsReadOf old file n xid (Ok result) new (Some s) = (t : ServedFile) × SendsFileRead file s n xid (Ok result) t × (new ≡ with_file old file t)

abbrev pub SendsReadIn : List ServedFile → FileId → ℕ → ℕ → Result (Option SentByFile) NoMemory → List ServedFile → Type 0
SendsReadIn old file n xid result new = SendsReadOf old file n xid result new (served_in old file)
