-- Runs with copies that are worked out: their moves, and the journals that come of them.
use Rattle.std.specs.Prelude.{false, List, [], ◌∷◌, Some}
use Rattle.cluster_model.specs.declared.ids.NodeId.TheVariants.{Client}
use Rattle.cluster_model.specs.declared.phase.EndCause.TheVariants.{Lease}
use Rattle.cluster_model.specs.declared.phase.LeftCause.TheVariants.{Timeouts}
use Rattle.cluster_model.specs.declared.entry.Entry.{Entry}
use Rattle.cluster_model.specs.declared.entry.Entry.TheVariants.{Granted, Sent, Ended, Left, Swapped, Fenced, Free, Applied, Committed, Owner}
use Rattle.cluster_model.specs.DsCalls.{Write}
use Rattle.file_rule.specs.MdsFiles.{a_uid}
use Rattle.file_rule.specs.FilePhases.{AsksLayout, Revokes}
use Rattle.cluster_laws.specs.Machine.{Move, Deliver, Creates, Happens, CallsOut, GivesUpWaiting, Uses, Takes, file_id}
use Rattle.cluster_laws.specs.WorkedRuns.{at_server}

-- ---- a copy, its swap and the second fence

-- The ended user's byte came to the first mirror alone. It is read there and written to a fresh file at the second server, which comes into the
-- second mirror's place. The SETATTR there is guarded by the ctime that the copy's WRITE showed, so it is applied at once.
abbrev pub copy_run : List Move
copy_run =
    Creates (1 ∷ 2 ∷ []) ∷ CallsOut 1 1 ∷ CallsOut 1 2 ∷ Deliver 0 ∷ Deliver 2 ∷ Deliver 1 ∷ Deliver 3 ∷ Happens 1 (AsksLayout 1)
    ∷ Takes (file_id 1) 65536 0 (65 ∷ []) ∷ Uses (Client 1) 1 1 65536 65536 (Write 2 0 false (65 ∷ [])) ∷ Deliver 4 ∷ Happens 1 (Revokes Lease) ∷ CallsOut 1 3
    ∷ Deliver 6 ∷ Deliver 7 ∷ CallsOut 1 4 ∷ Deliver 8 ∷ Deliver 9 ∷ CallsOut 1 5 ∷ Deliver 10 ∷ Deliver 11 ∷ CallsOut 1 6 ∷ Deliver 12 ∷ Deliver 13
    ∷ CallsOut 1 7 ∷ Deliver 14 ∷ Deliver 15 ∷ CallsOut 1 8 ∷ Deliver 16 ∷ Deliver 17 ∷ CallsOut 1 9 ∷ Deliver 18 ∷ Deliver 19 ∷ CallsOut 1 10
    ∷ CallsOut 1 11 ∷ Deliver 20 ∷ Deliver 22 ∷ Deliver 21 ∷ Deliver 23 ∷ []

abbrev pub copy_run_journal : List Entry
copy_run_journal =
    Owner (at_server 1 2) (a_uid 65536)
    ∷ Owner (at_server 2 2) (a_uid 65536)
    ∷ Free (file_id 1) (at_server 1 2 ∷ at_server 2 2 ∷ [])
    ∷ Granted (file_id 1) (a_uid 65536) (Client 1)
    ∷ Sent (file_id 1) (a_uid 65536) 0 (65 ∷ [])
    ∷ Applied (at_server 1 2) (a_uid 65536) 0 (65 ∷ [])
    ∷ Ended (file_id 1) (a_uid 65536) Lease
    ∷ Owner (at_server 1 2) (a_uid 65537)
    ∷ Owner (at_server 2 2) (a_uid 65537)
    ∷ Fenced (file_id 1) (a_uid 65536) (a_uid 65537) (at_server 1 2 ∷ at_server 2 2 ∷ [])
    ∷ Committed (at_server 1 2)
    ∷ Owner (at_server 2 3) (a_uid 65538)
    ∷ Applied (at_server 2 3) (a_uid 65538) 0 (65 ∷ [])
    ∷ Committed (at_server 2 3)
    ∷ Swapped (file_id 1) (Some (at_server 2 2)) (at_server 2 3)
    ∷ Owner (at_server 1 2) (a_uid 65539)
    ∷ Owner (at_server 2 3) (a_uid 65539)
    ∷ Fenced (file_id 1) (a_uid 65538) (a_uid 65539) (at_server 1 2 ∷ at_server 2 3 ∷ [])
    ∷ Free (file_id 1) (at_server 1 2 ∷ at_server 2 3 ∷ [])
    ∷ []

-- ---- a source that fails

-- The READ of it times out three times: it leaves, the copy is given up, and the other mirror is committed. There is nothing left to copy.
abbrev pub source_fails : List Move
source_fails =
    Creates (1 ∷ 2 ∷ []) ∷ CallsOut 1 1 ∷ CallsOut 1 2 ∷ Deliver 0 ∷ Deliver 2 ∷ Deliver 1 ∷ Deliver 3 ∷ Happens 1 (AsksLayout 1)
    ∷ Takes (file_id 1) 65536 0 (65 ∷ []) ∷ Uses (Client 1) 1 1 65536 65536 (Write 2 0 false (65 ∷ [])) ∷ Deliver 4 ∷ Happens 1 (Revokes Lease) ∷ CallsOut 1 3
    ∷ Deliver 6 ∷ Deliver 7 ∷ CallsOut 1 4 ∷ Deliver 8 ∷ Deliver 9 ∷ CallsOut 1 5 ∷ Deliver 10 ∷ Deliver 11 ∷ CallsOut 1 6 ∷ Deliver 12 ∷ Deliver 13
    ∷ CallsOut 1 7 ∷ Deliver 14 ∷ Deliver 15 ∷ CallsOut 1 8 ∷ GivesUpWaiting 1 8 ∷ GivesUpWaiting 1 8 ∷ GivesUpWaiting 1 8 ∷ CallsOut 1 9
    ∷ Deliver 17 ∷ Deliver 18 ∷ []

abbrev pub source_fails_journal : List Entry
source_fails_journal =
    Owner (at_server 1 2) (a_uid 65536)
    ∷ Owner (at_server 2 2) (a_uid 65536)
    ∷ Free (file_id 1) (at_server 1 2 ∷ at_server 2 2 ∷ [])
    ∷ Granted (file_id 1) (a_uid 65536) (Client 1)
    ∷ Sent (file_id 1) (a_uid 65536) 0 (65 ∷ [])
    ∷ Applied (at_server 1 2) (a_uid 65536) 0 (65 ∷ [])
    ∷ Ended (file_id 1) (a_uid 65536) Lease
    ∷ Owner (at_server 1 2) (a_uid 65537)
    ∷ Owner (at_server 2 2) (a_uid 65537)
    ∷ Fenced (file_id 1) (a_uid 65536) (a_uid 65537) (at_server 1 2 ∷ at_server 2 2 ∷ [])
    ∷ Committed (at_server 1 2)
    ∷ Owner (at_server 2 3) (a_uid 65538)
    ∷ Left (file_id 1) (at_server 1 2) Timeouts
    ∷ Committed (at_server 2 2)
    ∷ Free (file_id 1) (at_server 2 2 ∷ [])
    ∷ []

-- ---- a target that fails

-- Its CREATE times out three times: the mirror that it was to replace leaves, and the file is free. The answer that comes late makes no mirror
-- of it.
abbrev pub target_fails : List Move
target_fails =
    Creates (1 ∷ 2 ∷ []) ∷ CallsOut 1 1 ∷ CallsOut 1 2 ∷ Deliver 0 ∷ Deliver 2 ∷ Deliver 1 ∷ Deliver 3 ∷ Happens 1 (AsksLayout 1)
    ∷ Takes (file_id 1) 65536 0 (65 ∷ []) ∷ Uses (Client 1) 1 1 65536 65536 (Write 2 0 false (65 ∷ [])) ∷ Deliver 4 ∷ Happens 1 (Revokes Lease) ∷ CallsOut 1 3
    ∷ Deliver 6 ∷ Deliver 7 ∷ CallsOut 1 4 ∷ Deliver 8 ∷ Deliver 9 ∷ CallsOut 1 5 ∷ Deliver 10 ∷ Deliver 11 ∷ CallsOut 1 6 ∷ Deliver 12 ∷ Deliver 13
    ∷ CallsOut 1 7 ∷ GivesUpWaiting 1 7 ∷ GivesUpWaiting 1 7 ∷ GivesUpWaiting 1 7 ∷ Deliver 14 ∷ Deliver 15 ∷ []

abbrev pub target_fails_journal : List Entry
target_fails_journal =
    Owner (at_server 1 2) (a_uid 65536)
    ∷ Owner (at_server 2 2) (a_uid 65536)
    ∷ Free (file_id 1) (at_server 1 2 ∷ at_server 2 2 ∷ [])
    ∷ Granted (file_id 1) (a_uid 65536) (Client 1)
    ∷ Sent (file_id 1) (a_uid 65536) 0 (65 ∷ [])
    ∷ Applied (at_server 1 2) (a_uid 65536) 0 (65 ∷ [])
    ∷ Ended (file_id 1) (a_uid 65536) Lease
    ∷ Owner (at_server 1 2) (a_uid 65537)
    ∷ Owner (at_server 2 2) (a_uid 65537)
    ∷ Fenced (file_id 1) (a_uid 65536) (a_uid 65537) (at_server 1 2 ∷ at_server 2 2 ∷ [])
    ∷ Committed (at_server 1 2)
    ∷ Left (file_id 1) (at_server 2 2) Timeouts
    ∷ Free (file_id 1) (at_server 1 2 ∷ [])
    ∷ Owner (at_server 2 3) (a_uid 65538)
    ∷ []
