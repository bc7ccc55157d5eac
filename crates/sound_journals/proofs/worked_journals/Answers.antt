use Rattle.sound_journals.proofs.RunsSound.{two_periods_sound, two_periods_told, late_write_sound, late_write_told, own_write_sound, own_write_told, strays_sound, strays_told, reported_sound, reported_told, resilver_sound, resilver_told, copy_run_sound, copy_run_told, source_fails_sound, source_fails_told, target_fails_sound, target_fails_told}
use Rattle.sound_journals.proofs.worked_journals.Goals as goal

pub returns-clause-two_periods : goal.returns-clause-two_periods
returns-clause-two_periods c = (two_periods_sound, two_periods_told)

pub returns-clause-late_write : goal.returns-clause-late_write
returns-clause-late_write c = (late_write_sound, late_write_told)

pub returns-clause-own_write : goal.returns-clause-own_write
returns-clause-own_write c = (own_write_sound, own_write_told)

pub returns-clause-strays : goal.returns-clause-strays
returns-clause-strays c = (strays_sound, strays_told)

pub returns-clause-reported : goal.returns-clause-reported
returns-clause-reported c = (reported_sound, reported_told)

pub returns-clause-resilver : goal.returns-clause-resilver
returns-clause-resilver c = (resilver_sound, resilver_told)

pub returns-clause-copied : goal.returns-clause-copied
returns-clause-copied c = (copy_run_sound, copy_run_told)

pub returns-clause-source_fails : goal.returns-clause-source_fails
returns-clause-source_fails c = (source_fails_sound, source_fails_told)

pub returns-clause-target_fails : goal.returns-clause-target_fails
returns-clause-target_fails c = (target_fails_sound, target_fails_told)
