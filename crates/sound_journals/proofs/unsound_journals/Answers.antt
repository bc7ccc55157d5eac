use Rattle.cluster_laws.specs.Machine.{file_id}
use Rattle.cluster_laws.specs.BadJournals.{mirrors_differ, told_and_lost, untaken_journal, told_by_a_repeat_journal}
use Rattle.sound_journals.proofs.Laws.{agrees}
use Rattle.sound_journals.proofs.unsound_journals.Goals as goal

pub returns-clause-mirrors_differ : goal.returns-clause-mirrors_differ
returns-clause-mirrors_differ c = λ h. c.refused_journals.ensures.mirrors_differ (agrees (file_id 1) mirrors_differ h.0 h.1)

pub returns-clause-told_and_lost : goal.returns-clause-told_and_lost
returns-clause-told_and_lost c = λ h. c.refused_journals.ensures.told_and_lost (agrees (file_id 1) told_and_lost h.0 h.1)

pub returns-clause-untaken : goal.returns-clause-untaken
returns-clause-untaken c = λ h. c.refused_journals.ensures.untaken.breaks (agrees (file_id 1) untaken_journal h.0 h.1)

pub returns-clause-told_by_a_repeat : goal.returns-clause-told_by_a_repeat
returns-clause-told_by_a_repeat c = λ h. c.refused_journals.ensures.told_by_a_repeat.breaks (agrees (file_id 1) told_by_a_repeat_journal h.0 h.1)
