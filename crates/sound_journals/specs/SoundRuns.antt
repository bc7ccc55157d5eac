-- A journal that is sound.
use Rattle.std.specs.Prelude.{List, [], ◌∷◌}
use Rattle.cluster_model.specs.declared.ids.NodeId.TheVariants.{Client}
use Rattle.cluster_model.specs.declared.phase.EndCause.TheVariants.{Returned}
use Rattle.cluster_model.specs.declared.entry.Entry.{Entry}
use Rattle.cluster_model.specs.declared.entry.Entry.TheVariants.{Granted, Sent, Told, Ended, Fenced, Free, Applied, Committed, Owner}
use Rattle.file_rule.specs.MdsFiles.{a_uid}
use Rattle.cluster_laws.specs.Machine.{file_id}
use Rattle.cluster_laws.specs.WorkedRuns.{at_server}
use Rattle.sound_journals.specs.Views.{no_view}
use Rattle.sound_journals.specs.Sound.{AreSoundEntries, AreToldEntries}

-- its entries are sound for the first file, told ones too
abbrev pub IsSoundJournal : List Entry → Type 0
IsSoundJournal journal = AreSoundEntries (file_id 1) no_view journal × AreToldEntries (file_id 1) no_view journal

abbrev pub IsUnsound : List Entry → Type 0
IsUnsound journal = IsSoundJournal journal → ⊥

-- one period with a clean end, at two mirrors
abbrev pub one_period_journal : List Entry
one_period_journal =
    Owner (at_server 1 2) (a_uid 65536)
    ∷ Owner (at_server 2 2) (a_uid 65536)
    ∷ Free (file_id 1) (at_server 1 2 ∷ at_server 2 2 ∷ [])
    ∷ Granted (file_id 1) (a_uid 65536) (Client 1)
    ∷ Sent (file_id 1) (a_uid 65536) 0 (65 ∷ [])
    ∷ Applied (at_server 1 2) (a_uid 65536) 0 (65 ∷ [])
    ∷ Applied (at_server 2 2) (a_uid 65536) 0 (65 ∷ [])
    ∷ Committed (at_server 1 2)
    ∷ Committed (at_server 2 2)
    ∷ Told (file_id 1) (a_uid 65536) 0 (65 ∷ [])
    ∷ Ended (file_id 1) (a_uid 65536) Returned
    ∷ Owner (at_server 1 2) (a_uid 65537)
    ∷ Owner (at_server 2 2) (a_uid 65537)
    ∷ Fenced (file_id 1) (a_uid 65536) (a_uid 65537) (at_server 1 2 ∷ at_server 2 2 ∷ [])
    ∷ Free (file_id 1) (at_server 1 2 ∷ at_server 2 2 ∷ [])
    ∷ []
