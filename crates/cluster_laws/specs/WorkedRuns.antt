-- Runs that are worked out: their moves, and the journals that come of them.
use Rattle.std.specs.Prelude.{ℕ, true, false, List, [], ◌∷◌, map, Some, None}
use Rattle.cluster_model.specs.declared.ids.NodeId.TheVariants.{Mds, Client}
use Rattle.cluster_model.specs.declared.ids.MirrorId.{MirrorId}
use Rattle.cluster_model.specs.declared.phase.EndCause.TheVariants.{Returned, Own, Lease}
use Rattle.cluster_model.specs.declared.phase.LeftCause.TheVariants.{Error, Timeouts, Reported}
use Rattle.cluster_model.specs.declared.entry.Entry.{Entry}
use Rattle.cluster_model.specs.declared.entry.Entry.TheVariants.{Granted, Sent, Rogue, Told, Ended, Left, Swapped, Fenced, Free, Applied, Committed, Owner, Restarted}
use Rattle.cluster_model.specs.declared.layout_state.LayoutPhase.{LayoutPhase}
use Rattle.cluster_model.specs.DsCalls.{Write, Commit}
use Rattle.file_rule.specs.MdsFiles.{a_uid}
use Rattle.file_rule.specs.FilePhases.{AsksLayout, OwnWrite, Recall, Returns, Revokes, OwnEnds, Resilver, Ticks}
use Rattle.cluster_laws.specs.Machine.{Move, Deliver, Creates, Happens, CallsOut, SendsAgain, GivesUpWaiting, Uses, Learns, Takes, Strays, Tells, Restarts, new_machine, machine_after, journal_of, file_id}
use Rattle.cluster_laws.specs.FenceLaw.{new_servers}

-- a run's journal, from data servers that begin in these boots
abbrev pub run_journal : List ℕ → List Move → List Entry
run_journal boots moves = journal_of (new_machine (new_servers 1 boots)) moves

abbrev pub at_server : ℕ → ℕ → MirrorId
at_server server fileid = record { server = server; fileid = fileid }

-- a client's WRITE of these bytes to the only file of the first data server
abbrev write_there : ℕ → ℕ → ℕ → List ℕ → Move
write_there xid uid at bytes = Uses (Client 1) 1 xid uid uid (Write 2 at false bytes)

abbrev commit_there : ℕ → ℕ → Move
commit_there xid uid = Uses (Client 1) 1 xid uid uid (Commit 2)

-- ---- two periods, each of a write that is committed and a clean end

-- The ctime that the CREATE showed is before the WRITE's, so the first SETATTR is not in sync, and a second one goes out. Behind the
-- second period the SETATTR and the WRITE of the first fence come once more, and do nothing.
abbrev pub two_periods : List Move
two_periods =
    Creates (1 ∷ []) ∷ CallsOut 1 1 ∷ Deliver 0 ∷ Deliver 1
    ∷ Happens 1 (AsksLayout 1) ∷ Takes (file_id 1) 65536 0 (65 ∷ []) ∷ write_there 1 65536 0 (65 ∷ []) ∷ Deliver 2 ∷ commit_there 2 65536 ∷ Deliver 4 ∷ Tells (file_id 1) 65536 0 (65 ∷ [])
    ∷ Happens 1 (Returns 1 (a_uid 65536) []) ∷ CallsOut 1 2 ∷ Deliver 6 ∷ Deliver 7 ∷ CallsOut 1 3 ∷ Deliver 8 ∷ Deliver 9
    ∷ Happens 1 (AsksLayout 1) ∷ Takes (file_id 1) 65537 1 (66 ∷ []) ∷ write_there 3 65537 1 (66 ∷ []) ∷ Deliver 10 ∷ commit_there 4 65537 ∷ Deliver 12 ∷ Tells (file_id 1) 65537 1 (66 ∷ [])
    ∷ Happens 1 (Returns 1 (a_uid 65537) []) ∷ CallsOut 1 4 ∷ Deliver 14 ∷ Deliver 15 ∷ CallsOut 1 5 ∷ Deliver 16 ∷ Deliver 17
    ∷ Deliver 8 ∷ Deliver 2 ∷ Deliver 10 ∷ []

abbrev pub two_periods_journal : List Entry
two_periods_journal =
    Owner (at_server 1 2) (a_uid 65536)
    ∷ Free (file_id 1) (at_server 1 2 ∷ [])
    ∷ Granted (file_id 1) (a_uid 65536) (Client 1)
    ∷ Sent (file_id 1) (a_uid 65536) 0 (65 ∷ [])
    ∷ Applied (at_server 1 2) (a_uid 65536) 0 (65 ∷ [])
    ∷ Committed (at_server 1 2)
    ∷ Told (file_id 1) (a_uid 65536) 0 (65 ∷ [])
    ∷ Ended (file_id 1) (a_uid 65536) Returned
    ∷ Owner (at_server 1 2) (a_uid 65537)
    ∷ Fenced (file_id 1) (a_uid 65536) (a_uid 65537) (at_server 1 2 ∷ [])
    ∷ Free (file_id 1) (at_server 1 2 ∷ [])
    ∷ Granted (file_id 1) (a_uid 65537) (Client 1)
    ∷ Sent (file_id 1) (a_uid 65537) 1 (66 ∷ [])
    ∷ Applied (at_server 1 2) (a_uid 65537) 1 (66 ∷ [])
    ∷ Committed (at_server 1 2)
    ∷ Told (file_id 1) (a_uid 65537) 1 (66 ∷ [])
    ∷ Ended (file_id 1) (a_uid 65537) Returned
    ∷ Owner (at_server 1 2) (a_uid 65538)
    ∷ Fenced (file_id 1) (a_uid 65537) (a_uid 65538) (at_server 1 2 ∷ [])
    ∷ Free (file_id 1) (at_server 1 2 ∷ [])
    ∷ []

-- ---- a lease that ends, and a restart in the middle of the fence

-- The WRITE was not committed. The first SETATTR's reply shows a ctime that the restart loses, so the second one, guarded by it, is not
-- in sync either; the third is applied. The end was dirty, so the mirror is settled. The old WRITE comes once more, and does nothing.
abbrev pub restart_between : List Move
restart_between =
    Creates (1 ∷ []) ∷ CallsOut 1 1 ∷ Deliver 0 ∷ Deliver 1
    ∷ Happens 1 (AsksLayout 1) ∷ Takes (file_id 1) 65536 0 (65 ∷ []) ∷ write_there 1 65536 0 (65 ∷ []) ∷ Deliver 2
    ∷ Happens 1 (Revokes Lease) ∷ CallsOut 1 2 ∷ Deliver 4 ∷ Restarts 1 [] ∷ Deliver 5 ∷ CallsOut 1 3 ∷ Deliver 6 ∷ Deliver 7 ∷ CallsOut 1 4 ∷ Deliver 8 ∷ Deliver 9
    ∷ CallsOut 1 5 ∷ Deliver 10 ∷ Deliver 11 ∷ Deliver 2 ∷ []

abbrev pub restart_between_journal : List Entry
restart_between_journal =
    Owner (at_server 1 2) (a_uid 65536)
    ∷ Free (file_id 1) (at_server 1 2 ∷ [])
    ∷ Granted (file_id 1) (a_uid 65536) (Client 1)
    ∷ Sent (file_id 1) (a_uid 65536) 0 (65 ∷ [])
    ∷ Applied (at_server 1 2) (a_uid 65536) 0 (65 ∷ [])
    ∷ Ended (file_id 1) (a_uid 65536) Lease
    ∷ Restarted 1 []
    ∷ Owner (at_server 1 2) (a_uid 65537)
    ∷ Fenced (file_id 1) (a_uid 65536) (a_uid 65537) (at_server 1 2 ∷ [])
    ∷ Committed (at_server 1 2)
    ∷ Free (file_id 1) (at_server 1 2 ∷ [])
    ∷ []

-- ---- two mirrors, one of which the old user still writes to

-- Between the two acknowledgements the client's WRITE still comes to the second mirror, which is not fenced yet; behind the fence it
-- does nothing at either.
abbrev pub late_write : List Move
late_write =
    Creates (1 ∷ 2 ∷ []) ∷ CallsOut 1 1 ∷ CallsOut 1 2 ∷ Deliver 0 ∷ Deliver 1 ∷ Deliver 2 ∷ Deliver 3
    ∷ Happens 1 (AsksLayout 1) ∷ Takes (file_id 1) 65536 0 (65 ∷ []) ∷ Uses (Client 1) 1 1 65536 65536 (Write 2 0 false (65 ∷ [])) ∷ Uses (Client 1) 2 2 65536 65536 (Write 2 0 false (65 ∷ []))
    ∷ Happens 1 (Revokes Lease) ∷ CallsOut 1 3 ∷ CallsOut 1 4 ∷ Deliver 6 ∷ Deliver 8 ∷ Deliver 4 ∷ Deliver 5 ∷ Deliver 7 ∷ Deliver 11
    ∷ CallsOut 1 5 ∷ Deliver 12 ∷ Deliver 13 ∷ Deliver 5 ∷ Deliver 4 ∷ []

abbrev pub late_write_journal : List Entry
late_write_journal =
    Owner (at_server 1 2) (a_uid 65536)
    ∷ Owner (at_server 2 2) (a_uid 65536)
    ∷ Free (file_id 1) (at_server 1 2 ∷ at_server 2 2 ∷ [])
    ∷ Granted (file_id 1) (a_uid 65536) (Client 1)
    ∷ Sent (file_id 1) (a_uid 65536) 0 (65 ∷ [])
    ∷ Ended (file_id 1) (a_uid 65536) Lease
    ∷ Owner (at_server 1 2) (a_uid 65537)
    ∷ Applied (at_server 2 2) (a_uid 65536) 0 (65 ∷ [])
    ∷ Owner (at_server 2 2) (a_uid 65537)
    ∷ Fenced (file_id 1) (a_uid 65536) (a_uid 65537) (at_server 1 2 ∷ at_server 2 2 ∷ [])
    ∷ []

-- ---- a call that is lost and sent again

-- The CREATE and the WRITE come by their repeats alone.
abbrev pub repeat : List Move
repeat =
    Creates (1 ∷ []) ∷ CallsOut 1 1 ∷ SendsAgain 0 ∷ Deliver 1 ∷ Deliver 2 ∷ Happens 1 (AsksLayout 1) ∷ Takes (file_id 1) 65536 0 (65 ∷ [])
    ∷ Uses (Client 1) 1 1 65536 65536 (Write 2 0 false (65 ∷ [])) ∷ SendsAgain 3 ∷ Deliver 4 ∷ []

abbrev pub repeat_journal : List Entry
repeat_journal =
    Owner (at_server 1 2) (a_uid 65536)
    ∷ Free (file_id 1) (at_server 1 2 ∷ [])
    ∷ Granted (file_id 1) (a_uid 65536) (Client 1)
    ∷ Sent (file_id 1) (a_uid 65536) 0 (65 ∷ [])
    ∷ Applied (at_server 1 2) (a_uid 65536) 0 (65 ∷ [])
    ∷ []

-- ---- three timeouts of one call, at each of two mirrors

-- The first mirror leaves. The last one is kept: no other call goes out, and the same record is sent again at the tick. There is nothing left
-- to copy.
abbrev pub timeouts : List Move
timeouts =
    Creates (1 ∷ 2 ∷ []) ∷ CallsOut 1 1 ∷ CallsOut 1 2 ∷ Deliver 0 ∷ Deliver 2 ∷ Deliver 1 ∷ Deliver 3 ∷ Happens 1 (AsksLayout 1)
    ∷ Happens 1 (Revokes Lease) ∷ CallsOut 1 3 ∷ CallsOut 1 4 ∷ GivesUpWaiting 1 3 ∷ GivesUpWaiting 1 3 ∷ GivesUpWaiting 1 3 ∷ GivesUpWaiting 1 4
    ∷ GivesUpWaiting 1 4 ∷ GivesUpWaiting 1 4 ∷ CallsOut 1 5 ∷ Happens 1 Ticks ∷ SendsAgain 5 ∷ Deliver 6 ∷ Deliver 7 ∷ CallsOut 1 6 ∷ Deliver 8
    ∷ Deliver 9 ∷ []

abbrev pub timeouts_journal : List Entry
timeouts_journal =
    Owner (at_server 1 2) (a_uid 65536)
    ∷ Owner (at_server 2 2) (a_uid 65536)
    ∷ Free (file_id 1) (at_server 1 2 ∷ at_server 2 2 ∷ [])
    ∷ Granted (file_id 1) (a_uid 65536) (Client 1)
    ∷ Ended (file_id 1) (a_uid 65536) Lease
    ∷ Left (file_id 1) (at_server 1 2) Timeouts
    ∷ Owner (at_server 2 2) (a_uid 65537)
    ∷ Fenced (file_id 1) (a_uid 65536) (a_uid 65537) (at_server 2 2 ∷ [])
    ∷ Committed (at_server 2 2)
    ∷ Free (file_id 1) (at_server 2 2 ∷ [])
    ∷ []

-- ---- a client that goes on writing through a fence

-- Each SETATTR finds a later ctime. The eighth such answer makes the mirror fail; it is the last one, so a new call waits for the tick.
abbrev pub out_of_sync : List Move
out_of_sync =
    Creates (1 ∷ []) ∷ CallsOut 1 1 ∷ Deliver 0 ∷ Deliver 1 ∷ Happens 1 (AsksLayout 1) ∷ Happens 1 (Revokes Lease)
    ∷ Uses (Client 1) 1 1 65536 65536 (Write 2 0 false (65 ∷ [])) ∷ CallsOut 1 2 ∷ Deliver 2 ∷ Deliver 3 ∷ Deliver 5
    ∷ Uses (Client 1) 1 2 65536 65536 (Write 2 1 false (65 ∷ [])) ∷ CallsOut 1 3 ∷ Deliver 6 ∷ Deliver 7 ∷ Deliver 9
    ∷ Uses (Client 1) 1 3 65536 65536 (Write 2 2 false (65 ∷ [])) ∷ CallsOut 1 4 ∷ Deliver 10 ∷ Deliver 11 ∷ Deliver 13
    ∷ Uses (Client 1) 1 4 65536 65536 (Write 2 3 false (65 ∷ [])) ∷ CallsOut 1 5 ∷ Deliver 14 ∷ Deliver 15 ∷ Deliver 17
    ∷ Uses (Client 1) 1 5 65536 65536 (Write 2 4 false (65 ∷ [])) ∷ CallsOut 1 6 ∷ Deliver 18 ∷ Deliver 19 ∷ Deliver 21
    ∷ Uses (Client 1) 1 6 65536 65536 (Write 2 5 false (65 ∷ [])) ∷ CallsOut 1 7 ∷ Deliver 22 ∷ Deliver 23 ∷ Deliver 25
    ∷ Uses (Client 1) 1 7 65536 65536 (Write 2 6 false (65 ∷ [])) ∷ CallsOut 1 8 ∷ Deliver 26 ∷ Deliver 27 ∷ Deliver 29
    ∷ Uses (Client 1) 1 8 65536 65536 (Write 2 7 false (65 ∷ [])) ∷ CallsOut 1 9 ∷ Deliver 30 ∷ Deliver 31 ∷ Deliver 33 ∷ CallsOut 1 10
    ∷ Happens 1 Ticks ∷ CallsOut 1 11 ∷ Deliver 34 ∷ Deliver 35 ∷ []

abbrev pub out_of_sync_journal : List Entry
out_of_sync_journal =
    Owner (at_server 1 2) (a_uid 65536)
    ∷ Free (file_id 1) (at_server 1 2 ∷ [])
    ∷ Granted (file_id 1) (a_uid 65536) (Client 1)
    ∷ Ended (file_id 1) (a_uid 65536) Lease
    ∷ Applied (at_server 1 2) (a_uid 65536) 0 (65 ∷ [])
    ∷ Applied (at_server 1 2) (a_uid 65536) 1 (65 ∷ [])
    ∷ Applied (at_server 1 2) (a_uid 65536) 2 (65 ∷ [])
    ∷ Applied (at_server 1 2) (a_uid 65536) 3 (65 ∷ [])
    ∷ Applied (at_server 1 2) (a_uid 65536) 4 (65 ∷ [])
    ∷ Applied (at_server 1 2) (a_uid 65536) 5 (65 ∷ [])
    ∷ Applied (at_server 1 2) (a_uid 65536) 6 (65 ∷ [])
    ∷ Applied (at_server 1 2) (a_uid 65536) 7 (65 ∷ [])
    ∷ Owner (at_server 1 2) (a_uid 65537)
    ∷ Fenced (file_id 1) (a_uid 65536) (a_uid 65537) (at_server 1 2 ∷ [])
    ∷ []

-- ---- a write through the metadata server

-- Its answer showed the ctime that the fence's SETATTR then has as its guard, so the first one is applied.
abbrev pub own_write : List Move
own_write =
    Creates (1 ∷ []) ∷ CallsOut 1 1 ∷ Deliver 0 ∷ Deliver 1 ∷ Happens 1 (OwnWrite 0 (65 ∷ [])) ∷ Uses Mds 1 2 65536 65536 (Write 2 0 false (65 ∷ []))
    ∷ Deliver 2 ∷ Learns 1 3 (at_server 1 2) ∷ Uses Mds 1 3 65536 65536 (Commit 2) ∷ Deliver 4 ∷ Happens 1 (OwnEnds (None ∷ []) 0 (65 ∷ []))
    ∷ CallsOut 1 4 ∷ Deliver 6 ∷ Deliver 7 ∷ []

abbrev pub own_write_journal : List Entry
own_write_journal =
    Owner (at_server 1 2) (a_uid 65536)
    ∷ Free (file_id 1) (at_server 1 2 ∷ [])
    ∷ Granted (file_id 1) (a_uid 65536) Mds
    ∷ Sent (file_id 1) (a_uid 65536) 0 (65 ∷ [])
    ∷ Applied (at_server 1 2) (a_uid 65536) 0 (65 ∷ [])
    ∷ Committed (at_server 1 2)
    ∷ Told (file_id 1) (a_uid 65536) 0 (65 ∷ [])
    ∷ Ended (file_id 1) (a_uid 65536) Own
    ∷ Owner (at_server 1 2) (a_uid 65537)
    ∷ Fenced (file_id 1) (a_uid 65536) (a_uid 65537) (at_server 1 2 ∷ [])
    ∷ Free (file_id 1) (at_server 1 2 ∷ [])
    ∷ []

-- ---- a mirror that failed the metadata server's own write, and one in its stead

-- The write is told by the other mirror. Then a mirror is added: it is made, the source's byte is read and written to it, and both are fenced.
abbrev pub resilver : List Move
resilver =
    Creates (1 ∷ 2 ∷ []) ∷ CallsOut 1 1 ∷ CallsOut 1 2 ∷ Deliver 0 ∷ Deliver 2 ∷ Deliver 1 ∷ Deliver 3 ∷ Happens 1 (OwnWrite 0 (65 ∷ []))
    ∷ Uses Mds 1 3 65536 65536 (Write 2 0 false (65 ∷ [])) ∷ Deliver 4 ∷ Learns 1 5 (at_server 1 2) ∷ Uses Mds 1 4 65536 65536 (Commit 2) ∷ Deliver 6
    ∷ Happens 1 (OwnEnds (None ∷ Some (Error 5) ∷ []) 0 (65 ∷ [])) ∷ CallsOut 1 5 ∷ Deliver 8 ∷ Deliver 9 ∷ Happens 1 Resilver ∷ CallsOut 1 6
    ∷ Deliver 10 ∷ Deliver 11 ∷ CallsOut 1 7 ∷ Deliver 12 ∷ Deliver 13 ∷ CallsOut 1 8 ∷ Deliver 14 ∷ Deliver 15 ∷ CallsOut 1 9 ∷ Deliver 16
    ∷ Deliver 17 ∷ CallsOut 1 10 ∷ CallsOut 1 11 ∷ Deliver 18 ∷ Deliver 20 ∷ Deliver 19 ∷ Deliver 21 ∷ []

abbrev pub resilver_journal : List Entry
resilver_journal =
    Owner (at_server 1 2) (a_uid 65536)
    ∷ Owner (at_server 2 2) (a_uid 65536)
    ∷ Free (file_id 1) (at_server 1 2 ∷ at_server 2 2 ∷ [])
    ∷ Granted (file_id 1) (a_uid 65536) Mds
    ∷ Sent (file_id 1) (a_uid 65536) 0 (65 ∷ [])
    ∷ Applied (at_server 1 2) (a_uid 65536) 0 (65 ∷ [])
    ∷ Committed (at_server 1 2)
    ∷ Left (file_id 1) (at_server 2 2) (Error 5)
    ∷ Told (file_id 1) (a_uid 65536) 0 (65 ∷ [])
    ∷ Ended (file_id 1) (a_uid 65536) Own
    ∷ Owner (at_server 1 2) (a_uid 65537)
    ∷ Fenced (file_id 1) (a_uid 65536) (a_uid 65537) (at_server 1 2 ∷ [])
    ∷ Free (file_id 1) (at_server 1 2 ∷ [])
    ∷ Committed (at_server 1 2)
    ∷ Owner (at_server 2 3) (a_uid 65538)
    ∷ Applied (at_server 2 3) (a_uid 65538) 0 (65 ∷ [])
    ∷ Committed (at_server 2 3)
    ∷ Swapped (file_id 1) None (at_server 2 3)
    ∷ Owner (at_server 1 2) (a_uid 65539)
    ∷ Owner (at_server 2 3) (a_uid 65539)
    ∷ Fenced (file_id 1) (a_uid 65538) (a_uid 65539) (at_server 1 2 ∷ at_server 2 3 ∷ [])
    ∷ Free (file_id 1) (at_server 1 2 ∷ at_server 2 3 ∷ [])
    ∷ []

-- ---- a client that leaves the protocol, and a restart that keeps a part of its write

-- The ctime of both WRITEs is lost with the restart, so the first SETATTR of the fence is in sync. The byte that was kept is committed.
abbrev pub strays : List Move
strays =
    Creates (1 ∷ []) ∷ CallsOut 1 1 ∷ Deliver 0 ∷ Deliver 1 ∷ Happens 1 (AsksLayout 1) ∷ Takes (file_id 1) 65536 0 (65 ∷ [])
    ∷ Uses (Client 1) 1 1 65536 65536 (Write 2 0 false (65 ∷ [])) ∷ Deliver 2 ∷ Strays (file_id 1) 65536 1 (66 ∷ 67 ∷ [])
    ∷ Uses (Client 1) 1 2 65536 65536 (Write 2 1 false (66 ∷ 67 ∷ [])) ∷ Deliver 4
    ∷ Restarts 1 (record { fileid = 2; index = 1; from = 0; count = 1 } ∷ []) ∷ Happens 1 (Revokes Lease) ∷ CallsOut 1 2 ∷ Deliver 6 ∷ Deliver 7
    ∷ CallsOut 1 3 ∷ Deliver 8 ∷ Deliver 9 ∷ []

abbrev pub strays_journal : List Entry
strays_journal =
    Owner (at_server 1 2) (a_uid 65536)
    ∷ Free (file_id 1) (at_server 1 2 ∷ [])
    ∷ Granted (file_id 1) (a_uid 65536) (Client 1)
    ∷ Sent (file_id 1) (a_uid 65536) 0 (65 ∷ [])
    ∷ Applied (at_server 1 2) (a_uid 65536) 0 (65 ∷ [])
    ∷ Rogue (file_id 1) (a_uid 65536) 1 (66 ∷ 67 ∷ [])
    ∷ Applied (at_server 1 2) (a_uid 65536) 1 (66 ∷ 67 ∷ [])
    ∷ Restarted 1 (record { fileid = 2; index = 1; from = 0; count = 1 } ∷ [])
    ∷ Ended (file_id 1) (a_uid 65536) Lease
    ∷ Owner (at_server 1 2) (a_uid 65537)
    ∷ Fenced (file_id 1) (a_uid 65536) (a_uid 65537) (at_server 1 2 ∷ [])
    ∷ Committed (at_server 1 2)
    ∷ Free (file_id 1) (at_server 1 2 ∷ [])
    ∷ []

-- ---- a mirror that is reported

-- It leaves, and is not fenced. Another client asks for a layout before the fence is done, and gets none. The late WRITE is still applied at
-- the mirror that left, behind the fence; at the live one it does nothing.
abbrev pub reported : List Move
reported =
    Creates (1 ∷ 2 ∷ []) ∷ CallsOut 1 1 ∷ CallsOut 1 2 ∷ Deliver 0 ∷ Deliver 2 ∷ Deliver 1 ∷ Deliver 3 ∷ Happens 1 (AsksLayout 1)
    ∷ Takes (file_id 1) 65536 0 (65 ∷ []) ∷ Uses (Client 1) 1 1 65536 65536 (Write 2 0 false (65 ∷ [])) ∷ Uses (Client 1) 2 2 65536 65536 (Write 2 0 false (65 ∷ []))
    ∷ Deliver 4 ∷ Uses (Client 1) 1 3 65536 65536 (Commit 2) ∷ Deliver 7 ∷ Happens 1 (Returns 1 (a_uid 65536) (false ∷ true ∷ [])) ∷ Happens 1 (AsksLayout 2)
    ∷ Tells (file_id 1) 65536 0 (65 ∷ []) ∷ CallsOut 1 3 ∷ Deliver 9 ∷ Deliver 10 ∷ CallsOut 1 4 ∷ Deliver 11 ∷ Deliver 12 ∷ Deliver 5 ∷ Deliver 4 ∷ []

abbrev pub reported_journal : List Entry
reported_journal =
    Owner (at_server 1 2) (a_uid 65536)
    ∷ Owner (at_server 2 2) (a_uid 65536)
    ∷ Free (file_id 1) (at_server 1 2 ∷ at_server 2 2 ∷ [])
    ∷ Granted (file_id 1) (a_uid 65536) (Client 1)
    ∷ Sent (file_id 1) (a_uid 65536) 0 (65 ∷ [])
    ∷ Applied (at_server 1 2) (a_uid 65536) 0 (65 ∷ [])
    ∷ Committed (at_server 1 2)
    ∷ Left (file_id 1) (at_server 2 2) Reported
    ∷ Ended (file_id 1) (a_uid 65536) Returned
    ∷ Told (file_id 1) (a_uid 65536) 0 (65 ∷ [])
    ∷ Owner (at_server 1 2) (a_uid 65537)
    ∷ Fenced (file_id 1) (a_uid 65536) (a_uid 65537) (at_server 1 2 ∷ [])
    ∷ Free (file_id 1) (at_server 1 2 ∷ [])
    ∷ Applied (at_server 2 2) (a_uid 65536) 0 (65 ∷ [])
    ∷ []

-- ---- a recall

-- It makes no entry. The file is held as before, and is known to be recalled.
abbrev pub recalled : List Move
recalled = Creates (1 ∷ []) ∷ CallsOut 1 1 ∷ Deliver 0 ∷ Deliver 1 ∷ Happens 1 (AsksLayout 1) ∷ Happens 1 Recall ∷ []

abbrev pub run_phases : List ℕ → List Move → List LayoutPhase
run_phases boots moves = map (λ f. f.layout.phase) (machine_after (new_machine (new_servers 1 boots)) moves).files
