-- What ended a READ or an own WRITE, and the compound that goes on.
use Rattle.std.specs.Prelude.{ℕ, [], ◌∷◌, length, Option, Some, None}
use Rattle.cluster_model.specs.declared.ids.FileId.{FileId}
use Rattle.cluster_model.specs.declared.entry.Entry.TheVariants.{ReadAnswer}
use Rattle.file_rule.specs.FilePhases.{OwnEnds}
use Rattle.mds_io.specs.declared.read_end.ReadEnd.{ReadEnd}
use Rattle.mds_io.specs.declared.read_end.ReadEnd.TheVariants.{Bytes, AllFailed}
use Rattle.nfs4_types.specs.declared.status.Stat4.TheVariants as stat
use Rattle.mds_rule.specs.MdsStates.{CompoundRun, MdsValue, MdsStep, sends_none}
use Rattle.mds_rule.specs.OpSteps.{OpStep, Goes, Ends, with_result, refused_as}
use Rattle.mds_rule.specs.ServedFiles.{takes_input}
use Rattle.mds_rule.specs.Answers.{read_result, read_resumes, write_over}
use Rattle.served_files.specs.declared.reading.EndedRead.{EndedRead}
use Rattle.served_files.specs.declared.writing.EndedWrite.{EndedWrite}

-- the READ as an operation: the user is told its bytes, or that it failed
abbrev pub read_ended : MdsValue → FileId → CompoundRun → ReadEnd → OpStep
read_ended m file c (Bytes eof bytes) = Goes m (ReadAnswer file 0 bytes ∷ []) (with_result c (read_result eof bytes))
read_ended m file c (AllFailed failures) = Ends m (ReadAnswer file 5 [] ∷ []) (with_result c (refused_as 25 stat.Io)) stat.Io

-- its compound goes on, where it has ended
abbrev pub read_goes_on : ℕ → MdsValue → FileId → Option EndedRead → MdsStep
read_goes_on now m file None = sends_none m
read_goes_on now m file (Some e) = read_resumes now m file e.compound e.end

-- the period of a WRITE ends and its compound goes on, where it has ended
abbrev pub write_goes_on : ℕ → MdsValue → FileId → Option EndedWrite → MdsStep
write_goes_on now m file None = sends_none m
write_goes_on now m file (Some e) = write_over now (takes_input m file (OwnEnds e.causes e.at e.bytes)) e.compound (length e.bytes) e.has_failed
