-- The inputs of a file as the code has them, and what a step leaves.
use Rattle.std.specs.Prelude.{◌≡◌, Bool, true, false, List, ◌++◌, Result, Ok, Err}
use Rattle.cluster_model.specs.declared.entry.Entry.{Entry}
use Rattle.cluster_model.specs.DsCalls.{plain_ds_reply}
use Rattle.ff_xdr.specs.declared.error.NoMemory.{NoMemory}
use Rattle.file_rule.specs.declared.fresh.Fresh.{Fresh}
use Rattle.file_rule.specs.MdsFiles.{Activity, Idle, Makes, Fences, Settles, Copies, MdsFile, FileStep}
use Rattle.file_rule.specs.FilePhases.{FileInput as Input, AsksLayout, OwnWrite, Recall, Returns, Revokes, OwnEnds, Resilver, Answers, TimesOut, Ticks, Sees}
use Rattle.mds_rows.specs.Draws.{drawn}
use Rattle.mds_file.specs.declared.input.FileInput.{FileInput}
use Rattle.mds_file.specs.declared.input.FileInput.TheVariants as given

abbrev pub plain_input : FileInput → Input
plain_input (given.AsksLayout client) = AsksLayout client
plain_input (given.OwnWrite at bytes) = OwnWrite at bytes.now
plain_input given.Recall = Recall
plain_input (given.Returns client claimed reported) = Returns client claimed reported.places
plain_input (given.Revokes cause) = Revokes cause
plain_input (given.OwnEnds causes at bytes) = OwnEnds causes at bytes.now
plain_input given.Resilver = Resilver
plain_input (given.Answers xid reply) = Answers xid (plain_ds_reply reply)
plain_input (given.TimesOut xid) = TimesOut xid
plain_input given.Ticks = Ticks
plain_input (given.Sees id seen) = Sees id seen

-- a step of the table of phases; where memory was wanted nothing has changed
abbrev pub StepsAs : FileStep → MdsFile → Fresh → List Entry → Result (Unit {0}) NoMemory → MdsFile → Fresh → List Entry → Type 0
StepsAs s old fresh entries (Ok done) new fresh' entries' = (new ≡ s.file) × (fresh' ≡ drawn fresh s) × (entries' ≡ entries ++ s.entries)
StepsAs s old fresh entries (Err e) new fresh' entries' = (new ≡ old) × (fresh' ≡ fresh) × (entries' ≡ entries)

-- a file has nothing under way
abbrev pub is_idle : Activity → Bool
is_idle Idle = true
is_idle (Makes all) = false
is_idle (Fences fence) = false
is_idle (Settles stage) = false
is_idle (Copies copy) = false
