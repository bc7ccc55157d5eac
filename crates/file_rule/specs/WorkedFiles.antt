-- Files that are worked out by hand: which calls go out in turn, and what is entered.
use Rattle.std.specs.Prelude.{ℕ, ◌+◌, true, false, List, [], ◌∷◌, Option, Some, None}
use Rattle.cluster_model.specs.declared.tick.Tick.{Tick}
use Rattle.cluster_model.specs.declared.ids.FileId.{FileId}
use Rattle.cluster_model.specs.declared.ids.NodeId.TheVariants.{Mds, Client}
use Rattle.cluster_model.specs.declared.ids.MirrorId.{MirrorId}
use Rattle.cluster_model.specs.declared.phase.EndCause.TheVariants.{Returned, Own, AllReported, Lease}
use Rattle.cluster_model.specs.declared.phase.LeftCause.TheVariants.{Error, Timeouts, Reported}
use Rattle.cluster_model.specs.declared.ds_call.Shown.{Shown}
use Rattle.cluster_model.specs.declared.entry.Entry.{Entry}
use Rattle.cluster_model.specs.declared.entry.Entry.TheVariants.{Granted, Sent, Told, Ended, Left, Swapped, Fenced, Free}
use Rattle.cluster_model.specs.DsCalls.{DsCallValue, Create, SetAttr, Write, Commit, Read, DsReplyValue, Created, Set, Written, Committed, Bytes, NotSync, Failed}
use Rattle.file_rule.specs.declared.fresh.Fresh.{Fresh}
use Rattle.file_rule.specs.MdsFiles.{MdsFile, FileStep}
use Rattle.file_rule.specs.FilePhases.{FileInput, AsksLayout, OwnWrite, Recall, Returns, Revokes, OwnEnds, Resilver, Answers, TimesOut, Ticks, Sees, new_mds_file, phase, CallOut, call_out}

-- ---- turns of a file

pub data FileTurn : Type 0 where
  Takes : FileInput → FileTurn
  -- the next call goes out under this number
  Calls : (xid : ℕ) → FileTurn

-- what a turn shows: entries, or a call, to which server and by whom
pub data FileShown : Type 0 where
  Nothing : FileShown
  Enters : List Entry → FileShown
  Goes : (server uid : ℕ) (call : DsCallValue) → FileShown

pub record FileMoment : Type 0 where
  pub file : MdsFile
  pub fresh : Fresh
  pub shows : FileShown

abbrev pub the_file : FileId
the_file = record { 0 = 1 }

abbrev pub drawn : Fresh → FileStep → Fresh
drawn fresh s = record { uid = fresh.uid + s.uids; name = fresh.name + s.names; servers = fresh.servers }

abbrev pub shown_of : List Entry → FileShown
shown_of [] = Nothing
shown_of (e ∷ entries) = Enters (e ∷ entries)

abbrev pub called : MdsFile → Fresh → Option CallOut → FileMoment
called f fresh None = record { file = f; fresh = fresh; shows = Nothing }
called f fresh (Some call) = record { file = call.file; fresh = fresh; shows = Goes call.server call.uid call.call }

abbrev pub stepped : Fresh → FileStep → FileMoment
stepped fresh s = record { file = s.file; fresh = drawn fresh s; shows = shown_of s.entries }

abbrev pub after_turn : MdsFile → Fresh → FileTurn → FileMoment
after_turn f fresh (Takes input) = stepped fresh (phase the_file f input fresh)
after_turn f fresh (Calls xid) = called f fresh (call_out f xid)

-- what a list of turns shows
abbrev pub worked : MdsFile → Fresh → List FileTurn → List FileShown
worked f fresh [] = []
worked f fresh (turn ∷ turns) = (after_turn f fresh turn).shows ∷ worked (after_turn f fresh turn).file (after_turn f fresh turn).fresh turns

-- ---- the file: two mirrors of three data servers, the first uid and the first name drawn

abbrev at_server : ℕ → ℕ → MirrorId
at_server server fileid = record { server = server; fileid = fileid }

abbrev tick : ℕ → Tick
tick count = record { boot = 1; count = count }

-- an answer shows this owner and this tick
abbrev showing : ℕ → ℕ → Shown
showing owner count = record { owner = record { 0 = owner }; seen = tick count; size = 0 }

abbrev two_mirrors : MdsFile
two_mirrors = new_mds_file (record { uid = 65536; name = 1; servers = 3 }) (1 ∷ 2 ∷ [])

abbrev behind_it : Fresh
behind_it = record { uid = 65537; name = 2; servers = 3 }

abbrev both : List MirrorId
both = at_server 1 2 ∷ at_server 2 2 ∷ []

-- ---- a clean period

-- The grant has the uid of the CREATEs. The return reports nobody, and both are fenced, guarded by the ctimes of the CREATEs. Nobody is
-- granted the file until both have acknowledged.
abbrev pub clean_period : List FileShown
clean_period =
    worked two_mirrors behind_it
    (Calls 1 ∷ Calls 2 ∷ Calls 3 ∷ Takes (Answers 1 (Created 2 (showing 65536 1))) ∷ Takes (Answers 2 (Created 2 (showing 65536 1))) ∷ Takes (AsksLayout 1) ∷ Takes (AsksLayout 2)
    ∷ Takes (Returns 2 (record { 0 = 65536 }) (false ∷ false ∷ false ∷ false ∷ [])) ∷ Takes (Returns 1 (record { 0 = 65536 }) (false ∷ false ∷ false ∷ false ∷ []))
    ∷ Calls 3 ∷ Calls 4 ∷ Calls 5 ∷ Takes (Answers 3 (Set (Some (showing 65537 2)))) ∷ Takes (AsksLayout 2) ∷ Takes (Answers 4 (NotSync (showing 65536 5))) ∷ Calls 5 ∷ Takes (Answers 5 (Set None)) ∷ Takes (AsksLayout 2) ∷ [])

abbrev pub clean_period_shown : List FileShown
clean_period_shown =
    Goes 1 0 (Create 1 65536) ∷ Goes 2 0 (Create 1 65536) ∷ Nothing ∷ Nothing ∷ Enters (Free the_file both ∷ []) ∷ Enters (Granted the_file (record { 0 = 65536 }) (Client 1) ∷ []) ∷ Nothing
    ∷ Nothing ∷ Enters (Ended the_file (record { 0 = 65536 }) Returned ∷ [])
    ∷ Goes 1 0 (SetAttr 2 65537 (tick 1)) ∷ Goes 2 0 (SetAttr 2 65537 (tick 1)) ∷ Nothing ∷ Nothing ∷ Nothing ∷ Nothing ∷ Goes 2 0 (SetAttr 2 65537 (tick 5))
    ∷ Enters (Fenced the_file (record { 0 = 65536 }) (record { 0 = 65537 }) both ∷ Free the_file both ∷ []) ∷ Enters (Granted the_file (record { 0 = 65537 }) (Client 2) ∷ []) ∷ []

-- ---- a dirty end

-- The lease ends. Behind the fence the first mirror is committed, and the second one is replaced by a fresh file with its byte, written
-- under a uid of its own. Then both are fenced, the fresh one by the ctime of its last WRITE.
abbrev pub dirty_end : List FileShown
dirty_end =
    worked two_mirrors behind_it
    (Calls 1 ∷ Calls 2 ∷ Takes (Answers 1 (Created 2 (showing 65536 1))) ∷ Takes (Answers 2 (Created 2 (showing 65536 1))) ∷ Takes (AsksLayout 1) ∷ Takes (Revokes Lease)
    ∷ Calls 3 ∷ Calls 4 ∷ Takes (Answers 3 (Set (Some (showing 65537 3)))) ∷ Takes (Answers 4 (Set (Some (showing 65537 2)))) ∷ Calls 5 ∷ Takes (Answers 5 (Committed None 1))
    ∷ Calls 6 ∷ Takes (Answers 6 (Created 3 (showing 65538 3))) ∷ Calls 7 ∷ Takes (Answers 7 (Bytes None true (65 ∷ []))) ∷ Calls 8 ∷ Takes (AsksLayout 1) ∷ Takes (Answers 8 (Written (Some (showing 65538 4)) 1))
    ∷ Calls 9 ∷ Calls 10 ∷ Takes (Answers 9 (Set None)) ∷ Takes (Answers 10 (Set None)) ∷ [])

abbrev pub dirty_end_shown : List FileShown
dirty_end_shown =
    Goes 1 0 (Create 1 65536) ∷ Goes 2 0 (Create 1 65536) ∷ Nothing ∷ Enters (Free the_file both ∷ []) ∷ Enters (Granted the_file (record { 0 = 65536 }) (Client 1) ∷ []) ∷ Enters (Ended the_file (record { 0 = 65536 }) Lease ∷ [])
    ∷ Goes 1 0 (SetAttr 2 65537 (tick 1)) ∷ Goes 2 0 (SetAttr 2 65537 (tick 1)) ∷ Nothing ∷ Enters (Fenced the_file (record { 0 = 65536 }) (record { 0 = 65537 }) both ∷ []) ∷ Goes 1 0 (Commit 2) ∷ Nothing
    ∷ Goes 2 0 (Create 2 65538) ∷ Nothing ∷ Goes 1 0 (Read 2 0 65536) ∷ Nothing ∷ Goes 2 65538 (Write 3 0 true (65 ∷ [])) ∷ Nothing ∷ Enters (Swapped the_file (Some (at_server 2 2)) (at_server 2 3) ∷ [])
    ∷ Goes 1 0 (SetAttr 2 65539 (tick 3)) ∷ Goes 2 0 (SetAttr 3 65539 (tick 4)) ∷ Nothing
    ∷ Enters (Fenced the_file (record { 0 = 65538 }) (record { 0 = 65539 }) (at_server 1 2 ∷ at_server 2 3 ∷ []) ∷ Free the_file (at_server 1 2 ∷ at_server 2 3 ∷ []) ∷ []) ∷ []

-- ---- mirrors that fail in a fence

-- One leaves with the third timeout of its SETATTR. The other one, the last, stays: its call goes out again at the tick, under its number.
abbrev pub last_stays : List FileShown
last_stays =
    worked two_mirrors behind_it
    (Calls 1 ∷ Calls 2 ∷ Takes (Answers 1 (Created 2 (showing 65536 1))) ∷ Takes (Answers 2 (Created 2 (showing 65536 1))) ∷ Takes (AsksLayout 1) ∷ Takes (Returns 1 (record { 0 = 65536 }) (false ∷ false ∷ []))
    ∷ Calls 3 ∷ Calls 4 ∷ Takes (TimesOut 3) ∷ Takes (TimesOut 3) ∷ Takes (TimesOut 3) ∷ Takes (TimesOut 4) ∷ Takes (TimesOut 4) ∷ Takes (TimesOut 4) ∷ Calls 5 ∷ Takes Ticks ∷ Calls 5 ∷ Takes (Answers 4 (Set None)) ∷ [])

abbrev pub last_stays_shown : List FileShown
last_stays_shown =
    Goes 1 0 (Create 1 65536) ∷ Goes 2 0 (Create 1 65536) ∷ Nothing ∷ Enters (Free the_file both ∷ []) ∷ Enters (Granted the_file (record { 0 = 65536 }) (Client 1) ∷ []) ∷ Enters (Ended the_file (record { 0 = 65536 }) Returned ∷ [])
    ∷ Goes 1 0 (SetAttr 2 65537 (tick 1)) ∷ Goes 2 0 (SetAttr 2 65537 (tick 1)) ∷ Nothing ∷ Nothing ∷ Enters (Left the_file (at_server 1 2) Timeouts ∷ []) ∷ Nothing ∷ Nothing ∷ Nothing ∷ Nothing ∷ Nothing ∷ Nothing
    ∷ Enters (Fenced the_file (record { 0 = 65536 }) (record { 0 = 65537 }) (at_server 2 2 ∷ []) ∷ Free the_file (at_server 2 2 ∷ []) ∷ []) ∷ []

-- ---- mirrors are added

-- One of two is made. Then the other is added, on the lowest server without a live mirror, by a copy of a file without a byte.
abbrev pub added : List FileShown
added =
    worked two_mirrors behind_it
    (Calls 1 ∷ Calls 2 ∷ Takes (Answers 2 (Failed 28 None)) ∷ Takes (Answers 1 (Created 2 (showing 65536 1))) ∷ Takes Resilver ∷ Calls 3 ∷ Takes (Answers 3 (Committed None 1))
    ∷ Calls 4 ∷ Takes (Answers 4 (Created 4 (showing 65537 6))) ∷ Calls 5 ∷ Takes (Answers 5 (Bytes None true [])) ∷ Calls 6 ∷ Calls 7 ∷ Takes (Answers 7 (Set None)) ∷ Takes (Answers 6 (Set None)) ∷ Takes Resilver ∷ [])

abbrev pub added_shown : List FileShown
added_shown =
    Goes 1 0 (Create 1 65536) ∷ Goes 2 0 (Create 1 65536) ∷ Nothing ∷ Enters (Free the_file (at_server 1 2 ∷ []) ∷ []) ∷ Nothing ∷ Goes 1 0 (Commit 2) ∷ Nothing
    ∷ Goes 2 0 (Create 2 65537) ∷ Nothing ∷ Goes 1 0 (Read 2 0 65536) ∷ Enters (Swapped the_file None (at_server 2 4) ∷ []) ∷ Goes 1 0 (SetAttr 2 65538 (tick 1)) ∷ Goes 2 0 (SetAttr 4 65538 (tick 6)) ∷ Nothing
    ∷ Enters (Fenced the_file (record { 0 = 65537 }) (record { 0 = 65538 }) (at_server 1 2 ∷ at_server 2 4 ∷ []) ∷ Free the_file (at_server 1 2 ∷ at_server 2 4 ∷ []) ∷ []) ∷ Nothing ∷ []

-- ---- the metadata server's own write, and a report

-- It fails at the first mirror, which leaves. Then a client reports the only mirror that is left: it stays, and the end is dirty.
abbrev pub own_write : List FileShown
own_write =
    worked two_mirrors behind_it
    (Calls 1 ∷ Calls 2 ∷ Takes (Answers 1 (Created 2 (showing 65536 1))) ∷ Takes (Answers 2 (Created 2 (showing 65536 1))) ∷ Takes (OwnWrite 4 (66 ∷ [])) ∷ Takes (Sees (at_server 2 2) (tick 9)) ∷ Takes (OwnEnds (Some (Error 5) ∷ None ∷ []) 4 (66 ∷ []))
    ∷ Calls 3 ∷ Takes (Answers 3 (Set None)) ∷ Takes (AsksLayout 1) ∷ Takes Recall ∷ Takes (Returns 1 (record { 0 = 65537 }) (true ∷ [])) ∷ Calls 4 ∷ Takes (Answers 4 (Set None)) ∷ Calls 5 ∷ Takes (Answers 5 (Committed None 1)) ∷ [])

abbrev pub own_write_shown : List FileShown
own_write_shown =
    Goes 1 0 (Create 1 65536) ∷ Goes 2 0 (Create 1 65536) ∷ Nothing ∷ Enters (Free the_file both ∷ []) ∷ Enters (Granted the_file (record { 0 = 65536 }) Mds ∷ Sent the_file (record { 0 = 65536 }) 4 (66 ∷ []) ∷ []) ∷ Nothing
    ∷ Enters (Left the_file (at_server 1 2) (Error 5) ∷ Told the_file (record { 0 = 65536 }) 4 (66 ∷ []) ∷ Ended the_file (record { 0 = 65536 }) Own ∷ [])
    ∷ Goes 2 0 (SetAttr 2 65537 (tick 9)) ∷ Enters (Fenced the_file (record { 0 = 65536 }) (record { 0 = 65537 }) (at_server 2 2 ∷ []) ∷ Free the_file (at_server 2 2 ∷ []) ∷ []) ∷ Enters (Granted the_file (record { 0 = 65537 }) (Client 1) ∷ []) ∷ Nothing
    ∷ Enters (Ended the_file (record { 0 = 65537 }) AllReported ∷ []) ∷ Goes 2 0 (SetAttr 2 65538 (tick 9)) ∷ Enters (Fenced the_file (record { 0 = 65537 }) (record { 0 = 65538 }) (at_server 2 2 ∷ []) ∷ []) ∷ Goes 2 0 (Commit 2)
    ∷ Enters (Free the_file (at_server 2 2 ∷ []) ∷ []) ∷ []
