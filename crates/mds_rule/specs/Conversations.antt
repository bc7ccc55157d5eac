-- Conversations with a metadata server that are worked out by hand: two data servers, files with two mirrors, clients c1 and c2.
use Rattle.std.specs.Prelude.{ℕ, ◌-◌, ◌^◌, true, false, List, [], ◌∷◌, map, replicate, Some, None, codes}
use Rattle.std.proofs.Common.{inl, inr}
use Rattle.ff_xdr.specs.Form.{Value, spelling, long}
use Rattle.ff_xdr.specs.Arms.{arm}
use Rattle.cluster_model.specs.declared.tick.Tick.{Tick}
use Rattle.cluster_model.specs.declared.ids.NodeId.{NodeId}
use Rattle.cluster_model.specs.declared.ids.NodeId.TheVariants.{Mds, Server, Client}
use Rattle.cluster_model.specs.declared.ids.FileId.{FileId}
use Rattle.cluster_model.specs.declared.ids.Cred.{Cred}
use Rattle.cluster_model.specs.declared.ids.MirrorId.{MirrorId}
use Rattle.cluster_model.specs.declared.ids.Mirror.{Mirror}
use Rattle.cluster_model.specs.declared.phase.EndCause.TheVariants as cause
use Rattle.cluster_model.specs.declared.phase.LeftCause.TheVariants as left
use Rattle.cluster_model.specs.declared.phase.Phase.TheVariants as phase
use Rattle.cluster_model.specs.declared.ds_call.Shown.{Shown}
use Rattle.cluster_model.specs.declared.entry.Entry.TheVariants as entry
use Rattle.cluster_model.specs.DsCalls.{Create, SetAttr, Write, Commit, Read, Created, Set, Written, Committed, Bytes, NotSync, Failed}
use Rattle.nfs4_types.specs.declared.stateid.Stateid.{Stateid}
use Rattle.nfs4_types.specs.declared.ids.SessionId.{SessionId}
use Rattle.nfs4_types.specs.Stateids.{stateid4_value, layout_stateid_of, open_stateid_of}
use Rattle.nfs4_types.specs.Ids.{device_id_of}
use Rattle.nfs4_types.specs.Channels.{channel_attrs4}
use Rattle.nfs4_session.specs.Clients.{session_id}
use Rattle.nfs4_compound.specs.Args.{argop4}
use Rattle.nfs4_compound.specs.Results.{resop4}
use Rattle.nfs4_compound.specs.Behind.{behind_arms}
use Rattle.ff_layout.specs.ReturnBody.{ff_layoutreturn4}
use Rattle.device_addr.specs.Universal.{AddressValue}
use Rattle.granted_layouts.specs.GrantedBodies.{layout_body, whole_layout, layout_result}
use Rattle.mds_rule.specs.MdsStates.{MdsSend, CallsServer, CallsBack, AwaitedCall, MdsValue, new_mds, numbered}
use Rattle.mds_rule.specs.MdsTurns.{MdsTurn, Runs, RunsUpTo, Gets, IsTold, TimesOut, CallTimesOut, Ticks, MdsShown, mds_behind, replied, shows}

-- ---- what is spoken of

abbrev address : ℕ → AddressValue
address port = record { host = 127 ∷ 0 ∷ 0 ∷ 1 ∷ []; port = port }

abbrev pub fresh_mds : MdsValue
fresh_mds = new_mds (address 2049 ∷ address 2050 ∷ []) 2

abbrev c1 : NodeId
c1 = Client 1

abbrev c2 : NodeId
c2 = Client 2

-- the ids of the first client and of the second, and their sessions
abbrev id1 : ℕ
id1 = 4294967297

abbrev id2 : ℕ
id2 = 4294967298

abbrev session1 : SessionId
session1 = session_id id1 1

abbrev session2 : SessionId
session2 = session_id id2 2

abbrev file1 : FileId
file1 = numbered 1

abbrev uid : ℕ → Cred
uid n = record { 0 = n }

abbrev m1 : MirrorId
m1 = record { server = 1; fileid = 2 }

abbrev m2 : MirrorId
m2 = record { server = 2; fileid = 2 }

abbrev tick : ℕ → Tick
tick count = record { boot = 1; count = count }

-- attributes that show an owner, a ctime and a size
abbrev showing : ℕ → ℕ → ℕ → Shown
showing owner count size = record { owner = record { 0 = owner }; seen = tick count; size = size }

abbrev at : MirrorId → ℕ → Mirror
at id count = record { id = id; seen = tick count }

-- ---- operations and results

abbrev channel : Value channel_attrs4
channel = (0, (1179648, (1179648, (32768, (16, (8, []))))))

abbrev callbacks : Value channel_attrs4
callbacks = (0, (4096, (4096, (0, (2, (1, []))))))

abbrev exchange : List ℕ → Value argop4
exchange owner = arm 42 argop4 (1, (owner, (0, (inl tt, []))))

abbrev exchanged : ℕ → Value resop4
exchanged id = arm 42 resop4 (inl (id, (1, (131072, (inl tt, (0, ([], ([], []))))))))

abbrev create : ℕ → Value argop4
create id = arm 43 argop4 (id, (1, (2, (channel, (callbacks, (1073741824, []))))))

abbrev created : SessionId → Value resop4
created session = arm 43 resop4 (inl (session.0, (1, (2, (channel, callbacks)))))

abbrev sequence : SessionId → ℕ → Value argop4
sequence session number = arm 53 argop4 (session.0, (number, (0, (0, true))))

-- one whose reply need not be kept
abbrev unkept_sequence : SessionId → ℕ → Value argop4
unkept_sequence session number = arm 53 argop4 (session.0, (number, (0, (0, false))))

abbrev sequenced : SessionId → ℕ → Value resop4
sequenced session number = arm 53 resop4 (inl (session.0, (number, (0, (7, (7, 0))))))

abbrev put_root : Value argop4
put_root = arm 24 argop4 tt

abbrev put_root_done : Value resop4
put_root_done = arm 24 resop4 (inl tt)

abbrev open_name : List ℕ → Value argop4
open_name name = arm 18 argop4 (0, (3, (0, (0, ([], (inr (inl (inl ([], []))), inl name))))))

abbrev open_done : ℕ → ℕ → Value resop4
open_done file n = arm 18 resop4 (inl (stateid4_value (open_stateid_of file n), (true, (0, (0, (0, ([], inl tt)))))))

abbrev get_fh : Value argop4
get_fh = arm 10 argop4 tt

abbrev get_fh_done : ℕ → Value resop4
get_fh_done file = arm 10 resop4 (inl (long file))

abbrev put_fh : ℕ → Value argop4
put_fh file = arm 22 argop4 (long file)

abbrev put_fh_done : Value resop4
put_fh_done = arm 22 resop4 (inl tt)

abbrev whole_length : ℕ
whole_length = 2 ^ 64 - 1

abbrev layout_get : Stateid → Value argop4
layout_get stateid = arm 50 argop4 (false, (4, (2, (0, (whole_length, (0, (stateid4_value stateid, 4096)))))))

abbrev layout_done : ℕ → ℕ → List Mirror → Value resop4
layout_done user seqid mirrors = arm 50 resop4 (layout_result (layout_stateid_of 1 user seqid) (whole_layout (layout_body user mirrors) ∷ []))

abbrev try_later : Value resop4
try_later = arm 50 resop4 (inr (inl false))

abbrev layout_return_with : ℕ → List ℕ → Value argop4
layout_return_with user body = arm 51 argop4 (false, (4, (2, inl (0, (whole_length, (stateid4_value (layout_stateid_of 1 user 1), body))))))

-- nothing is reported: a body of two empty lists
abbrev layout_return : ℕ → Value argop4
layout_return user = layout_return_with user (replicate 8 0)

-- a WRITE 38 was answered by nobody at this data server: DELAY 10008
abbrev report_of : ℕ → ℕ → List ℕ
report_of user server =
    spelling ff_layoutreturn4 ((0, (whole_length, (stateid4_value (layout_stateid_of 1 user 1), ((device_id_of server).0, (10008, 38)) ∷ []))) ∷ [], [])

abbrev return_done : Value resop4
return_done = arm 51 resop4 (inl None)

abbrev read : Stateid → ℕ → ℕ → Value argop4
read stateid offset count = arm 25 argop4 (stateid4_value stateid, (offset, count))

abbrev read_done : List ℕ → Value resop4
read_done bytes = arm 25 resop4 (inl (true, bytes))

abbrev write : Stateid → ℕ → List ℕ → Value argop4
write stateid offset bytes = arm 38 argop4 (stateid4_value stateid, (offset, (2, bytes)))

abbrev write_done : ℕ → Value resop4
write_done count = arm 38 resop4 (inl (count, (2, 1)))

-- ---- one file: opened, granted, returned, fenced, and free

abbrev name_a : List ℕ
name_a = 97 ∷ []

abbrev open1 : Stateid
open1 = open_stateid_of 1 1

-- The client is made known, has a session and opens the file, whose mirrors are then made at both data servers.
abbrev pub opening : List (ℕ × MdsTurn)
opening =
    (0, Runs c1 1 (exchange (codes "c1") ∷ []))
    ∷ (0, Runs c1 2 (create id1 ∷ []))
    ∷ (0, Runs c1 3 (sequence session1 1 ∷ put_root ∷ open_name name_a ∷ get_fh ∷ []))
    ∷ (0, Gets 2 2 (Created 2 (showing 65536 1 0)))
    ∷ (0, Gets 1 1 (Created 2 (showing 65536 1 0)))
    ∷ []

abbrev pub opening_shown : List MdsShown
opening_shown =
    shows [] (replied c1 1 0 (exchanged id1 ∷ []) ∷ [])
    ∷ shows [] (replied c1 2 0 (created session1 ∷ []) ∷ [])
    ∷ shows [] (replied c1 3 0 (sequenced session1 1 ∷ put_root_done ∷ open_done 1 1 ∷ get_fh_done 1 ∷ []) ∷ CallsServer 1 1 0 (Create 1 65536) ∷ CallsServer 2 2 0 (Create 1 65536) ∷ [])
    ∷ shows [] []
    ∷ shows (entry.Free file1 (m1 ∷ m2 ∷ []) ∷ []) []
    ∷ []

abbrev pub opened_mds : MdsValue
opened_mds = mds_behind fresh_mds opening

-- The layout is granted, and given again under the next seqid. It is returned without a report, which ends the period clean; the
-- fence is guarded by the ctimes of the CREATEs. Asked for meanwhile, it is denied; a repeat of the LAYOUTRETURN is answered by what is
-- kept of it, and does nothing.
abbrev pub period : List (ℕ × MdsTurn)
period =
    (1, Runs c1 4 (sequence session1 2 ∷ put_fh 1 ∷ layout_get open1 ∷ []))
    ∷ (2, Runs c1 5 (sequence session1 3 ∷ put_fh 1 ∷ layout_get (layout_stateid_of 1 65536 1) ∷ []))
    ∷ (3, Runs c1 6 (sequence session1 4 ∷ put_fh 1 ∷ layout_return 65536 ∷ []))
    ∷ (3, Runs c1 7 (sequence session1 4 ∷ put_fh 1 ∷ layout_return 65536 ∷ []))
    ∷ (4, Gets 1 3 (Set (Some (showing 65537 2 0))))
    ∷ (4, Runs c1 8 (sequence session1 5 ∷ put_fh 1 ∷ layout_get open1 ∷ []))
    ∷ (4, Gets 2 4 (NotSync (showing 65536 7 0)))
    ∷ (4, Gets 2 5 (Set None))
    ∷ (4, Gets 2 5 (Set None))
    ∷ []

abbrev pub period_shown : List MdsShown
period_shown =
    shows (entry.Granted file1 (uid 65536) c1 ∷ []) (replied c1 4 0 (sequenced session1 2 ∷ put_fh_done ∷ layout_done 65536 1 (at m1 1 ∷ at m2 1 ∷ []) ∷ []) ∷ [])
    ∷ shows [] (replied c1 5 0 (sequenced session1 3 ∷ put_fh_done ∷ layout_done 65536 2 (at m1 1 ∷ at m2 1 ∷ []) ∷ []) ∷ [])
    ∷ shows (entry.Ended file1 (uid 65536) cause.Returned ∷ []) (replied c1 6 0 (sequenced session1 4 ∷ put_fh_done ∷ return_done ∷ []) ∷ CallsServer 1 3 0 (SetAttr 2 65537 (tick 1)) ∷ CallsServer 2 4 0 (SetAttr 2 65537 (tick 1)) ∷ [])
    ∷ shows [] (replied c1 7 0 (sequenced session1 4 ∷ put_fh_done ∷ return_done ∷ []) ∷ [])
    ∷ shows [] []
    ∷ shows (entry.Later file1 phase.Fencing ∷ []) (replied c1 8 10058 (sequenced session1 5 ∷ put_fh_done ∷ try_later ∷ []) ∷ [])
    ∷ shows [] (CallsServer 2 5 0 (SetAttr 2 65537 (tick 7)) ∷ [])
    ∷ shows (entry.Fenced file1 (uid 65536) (uid 65537) (m1 ∷ m2 ∷ []) ∷ entry.Free file1 (m1 ∷ m2 ∷ []) ∷ []) []
    ∷ shows [] []
    ∷ []

-- ---- a read and a write through the metadata server

-- A READ waits. Its first mirror fails it, and the second one gives the bytes; what stands behind it runs in that event.
abbrev pub read_through : List (ℕ × MdsTurn)
read_through =
    (1, Runs c1 4 (unkept_sequence session1 2 ∷ put_fh 1 ∷ read open1 0 100000 ∷ get_fh ∷ []))
    ∷ (1, Gets 1 3 (Failed 5 None))
    ∷ (1, Gets 2 4 (Bytes (Some (showing 65536 1 2)) true (65 ∷ 66 ∷ [])))
    ∷ []

abbrev pub read_through_shown : List MdsShown
read_through_shown =
    shows [] (CallsServer 1 3 0 (Read 2 0 65536) ∷ [])
    ∷ shows (entry.Failed m1 3 ∷ []) (CallsServer 2 4 0 (Read 2 0 65536) ∷ [])
    ∷ shows (entry.ReadAnswer file1 0 (65 ∷ 66 ∷ []) ∷ []) (replied c1 4 0 (sequenced session1 2 ∷ put_fh_done ∷ read_done (65 ∷ 66 ∷ []) ∷ get_fh_done 1 ∷ []) ∷ [])
    ∷ []

-- A WRITE begins a period of the metadata server's own. It is answered in the event in which both mirrors are committed, and the
-- fence behind it is guarded by the ctimes that the answers showed.
abbrev pub write_through : List (ℕ × MdsTurn)
write_through =
    (1, Runs c1 4 (sequence session1 2 ∷ put_fh 1 ∷ write open1 4 (66 ∷ []) ∷ []))
    ∷ (1, Gets 1 3 (Written (Some (showing 65536 2 5)) 1))
    ∷ (1, Gets 2 4 (Written (Some (showing 65536 3 5)) 1))
    ∷ (1, Gets 2 6 (Committed (Some (showing 65536 3 5)) 1))
    ∷ (1, Gets 1 5 (Committed None 1))
    ∷ []

abbrev pub write_through_shown : List MdsShown
write_through_shown =
    shows (entry.Granted file1 (uid 65536) Mds ∷ entry.Sent file1 (uid 65536) 4 (66 ∷ []) ∷ []) (CallsServer 1 3 65536 (Write 2 4 false (66 ∷ [])) ∷ CallsServer 2 4 65536 (Write 2 4 false (66 ∷ [])) ∷ [])
    ∷ shows [] (CallsServer 1 5 65536 (Commit 2) ∷ [])
    ∷ shows [] (CallsServer 2 6 65536 (Commit 2) ∷ [])
    ∷ shows [] []
    ∷ shows (entry.Told file1 (uid 65536) 4 (66 ∷ []) ∷ entry.Ended file1 (uid 65536) cause.Own ∷ [])
    (replied c1 4 0 (sequenced session1 2 ∷ put_fh_done ∷ write_done 1 ∷ []) ∷ CallsServer 1 7 0 (SetAttr 2 65537 (tick 2)) ∷ CallsServer 2 8 0 (SetAttr 2 65537 (tick 3)) ∷ [])
    ∷ []

-- ---- periods that end in other ways

-- The client holds the file.
abbrev pub granting : List (ℕ × MdsTurn)
granting = (1, Runs c1 4 (sequence session1 2 ∷ put_fh 1 ∷ layout_get open1 ∷ [])) ∷ []

abbrev pub held_mds : MdsValue
held_mds = mds_behind opened_mds granting

-- Its return reports the second mirror, which leaves. The fence is at the first alone.
abbrev pub reporting : List (ℕ × MdsTurn)
reporting =
    (2, Runs c1 5 (sequence session1 3 ∷ put_fh 1 ∷ layout_return_with 65536 (report_of 65536 2) ∷ []))
    ∷ (2, Gets 1 3 (Set None))
    ∷ []

abbrev pub reporting_shown : List MdsShown
reporting_shown =
    shows (entry.Left file1 m2 left.Reported ∷ entry.Ended file1 (uid 65536) cause.Returned ∷ []) (replied c1 5 0 (sequenced session1 3 ∷ put_fh_done ∷ return_done ∷ []) ∷ CallsServer 1 3 0 (SetAttr 2 65537 (tick 1)) ∷ [])
    ∷ shows (entry.Fenced file1 (uid 65536) (uid 65537) (m1 ∷ []) ∷ entry.Free file1 (m1 ∷ []) ∷ []) []
    ∷ []

-- Its lease ends, which was renewed last at 1: more than 90 seconds later. A mirror's answer is lost twice: the third timeout of one call
-- makes it leave, and what is left is fenced and committed, and has nothing to be copied to.
abbrev pub lease_ending : List (ℕ × MdsTurn)
lease_ending =
    (91, Ticks)
    ∷ (92, Ticks)
    ∷ (92, Gets 1 3 (Set None))
    ∷ (92, TimesOut (Server 2))
    ∷ (92, TimesOut (Server 2))
    ∷ (92, TimesOut (Server 2))
    ∷ (92, Gets 2 4 (Set None))
    ∷ (92, Gets 1 5 (Committed None 1))
    ∷ []

abbrev pub lease_ending_shown : List MdsShown
lease_ending_shown =
    shows [] []
    ∷ shows (entry.Ended file1 (uid 65536) cause.Lease ∷ []) (CallsServer 1 3 0 (SetAttr 2 65537 (tick 1)) ∷ CallsServer 2 4 0 (SetAttr 2 65537 (tick 1)) ∷ [])
    ∷ shows [] []
    ∷ shows (entry.TimedOut Mds 4 ∷ []) (CallsServer 2 4 0 (SetAttr 2 65537 (tick 1)) ∷ [])
    ∷ shows (entry.TimedOut Mds 4 ∷ []) (CallsServer 2 4 0 (SetAttr 2 65537 (tick 1)) ∷ [])
    ∷ shows (entry.TimedOut Mds 4 ∷ entry.Left file1 m2 left.Timeouts ∷ entry.Fenced file1 (uid 65536) (uid 65537) (m1 ∷ []) ∷ []) (CallsServer 1 5 0 (Commit 2) ∷ [])
    ∷ shows [] []
    ∷ shows (entry.Free file1 (m1 ∷ []) ∷ []) []
    ∷ []

-- Another client asks for the layout, which is recalled. The holder answers that it will be given back, and is silent from then on, but
-- for its lease: 91 seconds later the period ends. Behind the fence the first mirror is committed, the second replaced by a copy of it, and
-- both are fenced again.
abbrev recall_of_holder : ℕ → MdsSend
recall_of_holder xid = CallsBack xid (record { session = session1; node = c1; program = 1073741824; sequence = 1 }) file1 (layout_stateid_of 1 65536 1)

abbrev pub recalling : List (ℕ × MdsTurn)
recalling =
    (1, Runs c2 1 (exchange (codes "c2") ∷ []))
    ∷ (1, Runs c2 2 (create id2 ∷ []))
    ∷ (1, Runs c2 3 (sequence session2 1 ∷ put_root ∷ open_name name_a ∷ layout_get (open_stateid_of 1 2) ∷ []))
    ∷ (1, IsTold c1 3 0)
    ∷ (60, Runs c1 5 (sequence session1 3 ∷ []))
    ∷ (60, Runs c2 4 (sequence session2 2 ∷ []))
    ∷ (91, Ticks)
    ∷ (92, Ticks)
    ∷ (92, Gets 1 4 (Set None))
    ∷ (92, Gets 2 5 (Set None))
    ∷ (92, Gets 1 6 (Committed None 1))
    ∷ (92, Gets 2 7 (Created 3 (showing 65538 4 0)))
    ∷ (92, Gets 1 8 (Bytes None true (65 ∷ [])))
    ∷ (92, Gets 2 9 (Written (Some (showing 65538 5 1)) 1))
    ∷ (92, Gets 1 10 (Set None))
    ∷ (92, Gets 2 11 (Set None))
    ∷ []

abbrev pub m2_copied : MirrorId
m2_copied = record { server = 2; fileid = 3 }

abbrev pub recalling_shown : List MdsShown
recalling_shown =
    shows [] (replied c2 1 0 (exchanged id2 ∷ []) ∷ [])
    ∷ shows [] (replied c2 2 0 (created session2 ∷ []) ∷ [])
    ∷ shows (entry.Later file1 phase.Held ∷ []) (replied c2 3 10058 (sequenced session2 1 ∷ put_root_done ∷ open_done 1 2 ∷ try_later ∷ []) ∷ recall_of_holder 3 ∷ [])
    ∷ shows [] []
    ∷ shows [] (replied c1 5 0 (sequenced session1 3 ∷ []) ∷ [])
    ∷ shows [] (replied c2 4 0 (sequenced session2 2 ∷ []) ∷ [])
    ∷ shows [] []
    ∷ shows (entry.Ended file1 (uid 65536) cause.Recalled ∷ []) (CallsServer 1 4 0 (SetAttr 2 65537 (tick 1)) ∷ CallsServer 2 5 0 (SetAttr 2 65537 (tick 1)) ∷ [])
    ∷ shows [] []
    ∷ shows (entry.Fenced file1 (uid 65536) (uid 65537) (m1 ∷ m2 ∷ []) ∷ []) (CallsServer 1 6 0 (Commit 2) ∷ [])
    ∷ shows [] (CallsServer 2 7 0 (Create 2 65538) ∷ [])
    ∷ shows [] (CallsServer 1 8 0 (Read 2 0 65536) ∷ [])
    ∷ shows [] (CallsServer 2 9 65538 (Write 3 0 true (65 ∷ [])) ∷ [])
    ∷ shows (entry.Swapped file1 (Some m2) m2_copied ∷ []) (CallsServer 1 10 0 (SetAttr 2 65539 (tick 1)) ∷ CallsServer 2 11 0 (SetAttr 3 65539 (tick 5)) ∷ [])
    ∷ shows [] []
    ∷ shows (entry.Fenced file1 (uid 65538) (uid 65539) (m1 ∷ m2_copied ∷ []) ∷ entry.Free file1 (m1 ∷ m2_copied ∷ []) ∷ []) []
    ∷ []

-- ---- who holds a file

-- A second client holds it. The first, which asks for it behind the same node as before and then behind the holder's, is denied both times;
-- the recall goes to the holder's session.
abbrev other_opened : List (ℕ × MdsTurn)
other_opened =
    (1, Runs c2 1 (exchange (codes "c2") ∷ []))
    ∷ (1, Runs c2 2 (create id2 ∷ []))
    ∷ (1, Runs c2 3 (sequence session2 1 ∷ put_root ∷ open_name name_a ∷ layout_get (open_stateid_of 1 2) ∷ []))
    ∷ []

abbrev pub other_holds_mds : MdsValue
other_holds_mds = mds_behind opened_mds other_opened

abbrev pub denying : List (ℕ × MdsTurn)
denying =
    (2, Runs c1 4 (sequence session1 2 ∷ put_fh 1 ∷ layout_get open1 ∷ []))
    ∷ (2, Runs c2 4 (sequence session1 3 ∷ put_fh 1 ∷ layout_get open1 ∷ []))
    ∷ (2, IsTold c2 3 10060)
    ∷ []

abbrev pub denying_shown : List MdsShown
denying_shown =
    shows (entry.Later file1 phase.Held ∷ []) (replied c1 4 10058 (sequenced session1 2 ∷ put_fh_done ∷ try_later ∷ []) ∷ CallsBack 3 (record { session = session2; node = c2; program = 1073741824; sequence = 1 }) file1 (layout_stateid_of 1 65536 1) ∷ [])
    ∷ shows (entry.Later file1 phase.Held ∷ []) (replied c2 4 10058 (sequenced session1 3 ∷ put_fh_done ∷ try_later ∷ []) ∷ [])
    ∷ shows (entry.Ended file1 (uid 65536) cause.NoLayout ∷ []) (CallsServer 1 4 0 (SetAttr 2 65537 (tick 1)) ∷ CallsServer 2 5 0 (SetAttr 2 65537 (tick 1)) ∷ [])
    ∷ []

-- ---- where the mirrors of a file are

-- The second file of three data servers has its two mirrors from the second server on, and the third's go round.
abbrev pub three_servers : MdsValue
three_servers = new_mds (address 2049 ∷ address 2050 ∷ address 2051 ∷ []) 2

abbrev pub placing : List (ℕ × MdsTurn)
placing =
    (0, Runs c1 1 (exchange (codes "c1") ∷ []))
    ∷ (0, Runs c1 2 (create id1 ∷ []))
    ∷ (0, Runs c1 3 (sequence session1 1 ∷ put_root ∷ open_name (97 ∷ []) ∷ put_root ∷ open_name (98 ∷ []) ∷ put_root ∷ open_name (99 ∷ []) ∷ []))
    ∷ []

abbrev pub placing_shown : List MdsShown
placing_shown =
    shows [] (replied c1 1 0 (exchanged id1 ∷ []) ∷ [])
    ∷ shows [] (replied c1 2 0 (created session1 ∷ []) ∷ [])
    ∷ shows []
    (replied c1 3 0 (sequenced session1 1 ∷ put_root_done ∷ open_done 1 1 ∷ put_root_done ∷ open_done 2 2 ∷ put_root_done ∷ open_done 3 3 ∷ [])
    ∷ CallsServer 1 1 0 (Create 1 65536) ∷ CallsServer 2 2 0 (Create 1 65536)
    ∷ CallsServer 2 3 0 (Create 2 65537) ∷ CallsServer 3 4 0 (Create 2 65537)
    ∷ CallsServer 3 5 0 (Create 3 65538) ∷ CallsServer 1 6 0 (Create 3 65538)
    ∷ [])
    ∷ []

-- ---- two clients, one after the other

-- The second client is made known, opens the file and asks for its layout, which is recalled. The holder gives it back; the second client
-- is denied once more while the file is fenced, and is granted it behind that.
abbrev pub taking_turns : List (ℕ × MdsTurn)
taking_turns =
    (1, Runs c2 1 (exchange (codes "c2") ∷ []))
    ∷ (1, Runs c2 2 (create id2 ∷ []))
    ∷ (1, Runs c2 3 (sequence session2 1 ∷ put_root ∷ open_name name_a ∷ layout_get (open_stateid_of 1 2) ∷ []))
    ∷ (1, IsTold c1 3 0)
    ∷ (2, Runs c1 5 (sequence session1 3 ∷ put_fh 1 ∷ layout_return 65536 ∷ []))
    ∷ (2, Runs c2 4 (sequence session2 2 ∷ put_fh 1 ∷ layout_get (open_stateid_of 1 2) ∷ []))
    ∷ (2, Gets 1 4 (Set None))
    ∷ (2, Gets 2 5 (Set None))
    ∷ (3, Runs c2 5 (sequence session2 3 ∷ put_fh 1 ∷ layout_get (open_stateid_of 1 2) ∷ []))
    ∷ []

abbrev pub taking_turns_shown : List MdsShown
taking_turns_shown =
    shows [] (replied c2 1 0 (exchanged id2 ∷ []) ∷ [])
    ∷ shows [] (replied c2 2 0 (created session2 ∷ []) ∷ [])
    ∷ shows (entry.Later file1 phase.Held ∷ []) (replied c2 3 10058 (sequenced session2 1 ∷ put_root_done ∷ open_done 1 2 ∷ try_later ∷ []) ∷ recall_of_holder 3 ∷ [])
    ∷ shows [] []
    ∷ shows (entry.Ended file1 (uid 65536) cause.Returned ∷ []) (replied c1 5 0 (sequenced session1 3 ∷ put_fh_done ∷ return_done ∷ []) ∷ CallsServer 1 4 0 (SetAttr 2 65537 (tick 1)) ∷ CallsServer 2 5 0 (SetAttr 2 65537 (tick 1)) ∷ [])
    ∷ shows (entry.Later file1 phase.Fencing ∷ []) (replied c2 4 10058 (sequenced session2 2 ∷ put_fh_done ∷ try_later ∷ []) ∷ [])
    ∷ shows [] []
    ∷ shows (entry.Fenced file1 (uid 65536) (uid 65537) (m1 ∷ m2 ∷ []) ∷ entry.Free file1 (m1 ∷ m2 ∷ []) ∷ []) []
    ∷ shows (entry.Granted file1 (uid 65537) c2 ∷ []) (replied c2 5 0 (sequenced session2 3 ∷ put_fh_done ∷ layout_done 65537 1 (at m1 1 ∷ at m2 1 ∷ []) ∷ []) ∷ [])
    ∷ []

-- While a client holds the file another's WRITE through the metadata server is to come later, and the layout is recalled. The holder has no such layout, which ends its period; while the file is fenced a WRITE is still to come later.
abbrev write_later : Value resop4
write_later = arm 38 resop4 (inr 10008)

abbrev pub writing_while_held : List (ℕ × MdsTurn)
writing_while_held =
    (1, Runs c2 1 (exchange (codes "c2") ∷ []))
    ∷ (1, Runs c2 2 (create id2 ∷ []))
    ∷ (1, Runs c2 3 (sequence session2 1 ∷ put_root ∷ open_name name_a ∷ write (open_stateid_of 1 2) 0 (66 ∷ []) ∷ get_fh ∷ []))
    ∷ (1, IsTold c1 3 10060)
    ∷ (1, Runs c2 4 (sequence session2 2 ∷ put_fh 1 ∷ write (open_stateid_of 1 2) 0 (66 ∷ []) ∷ []))
    ∷ (1, Gets 1 4 (Set None))
    ∷ (1, Gets 2 5 (Set None))
    ∷ []

abbrev pub writing_while_held_shown : List MdsShown
writing_while_held_shown =
    shows [] (replied c2 1 0 (exchanged id2 ∷ []) ∷ [])
    ∷ shows [] (replied c2 2 0 (created session2 ∷ []) ∷ [])
    ∷ shows [] (replied c2 3 10008 (sequenced session2 1 ∷ put_root_done ∷ open_done 1 2 ∷ write_later ∷ []) ∷ recall_of_holder 3 ∷ [])
    ∷ shows (entry.Ended file1 (uid 65536) cause.NoLayout ∷ []) (CallsServer 1 4 0 (SetAttr 2 65537 (tick 1)) ∷ CallsServer 2 5 0 (SetAttr 2 65537 (tick 1)) ∷ [])
    ∷ shows [] (replied c2 4 10008 (sequenced session2 2 ∷ put_fh_done ∷ write_later ∷ []) ∷ [])
    ∷ shows [] []
    ∷ shows (entry.Fenced file1 (uid 65536) (uid 65537) (m1 ∷ m2 ∷ []) ∷ []) (CallsServer 1 6 0 (Commit 2) ∷ [])
    ∷ []

-- ---- a client that restarts, gives all back, or is gone

-- The holder comes again with another verifier. Its period ends with the session that it makes; its old session and its open are gone.
abbrev exchange_behind_restart : Value argop4
exchange_behind_restart = arm 42 argop4 (2, (codes "c1", (0, (inl tt, []))))

abbrev pub restarting : List (ℕ × MdsTurn)
restarting =
    (2, Runs c1 5 (exchange_behind_restart ∷ []))
    ∷ (2, Runs c1 6 (create id2 ∷ []))
    ∷ (2, Runs c1 7 (sequence session1 3 ∷ []))
    ∷ (2, Runs c1 8 (sequence session2 1 ∷ put_fh 1 ∷ layout_get open1 ∷ []))
    ∷ (2, Gets 1 3 (Set None))
    ∷ (2, Gets 2 4 (Set None))
    ∷ []

abbrev pub restarting_shown : List MdsShown
restarting_shown =
    shows [] (replied c1 5 0 (exchanged id2 ∷ []) ∷ [])
    ∷ shows (entry.Ended file1 (uid 65536) cause.ClientGone ∷ []) (replied c1 6 0 (created session2 ∷ []) ∷ CallsServer 1 3 0 (SetAttr 2 65537 (tick 1)) ∷ CallsServer 2 4 0 (SetAttr 2 65537 (tick 1)) ∷ [])
    ∷ shows [] (replied c1 7 10052 (arm 53 resop4 (inr 10052) ∷ []) ∷ [])
    ∷ shows [] (replied c1 8 10025 (sequenced session2 1 ∷ put_fh_done ∷ arm 50 resop4 (inr (inr 10025)) ∷ []) ∷ [])
    ∷ shows [] []
    ∷ shows (entry.Fenced file1 (uid 65536) (uid 65537) (m1 ∷ m2 ∷ []) ∷ []) (CallsServer 1 5 0 (Commit 2) ∷ [])
    ∷ []

-- A LAYOUTRETURN of all that the client has ends its period, which is none that it vouches for. Again, it does nothing.
abbrev layout_return_all : Value argop4
layout_return_all = arm 51 argop4 (false, (4, (2, inr (inr (inl tt)))))

abbrev pub returning_all : List (ℕ × MdsTurn)
returning_all =
    (2, Runs c1 5 (sequence session1 3 ∷ layout_return_all ∷ []))
    ∷ (2, Runs c1 6 (sequence session1 4 ∷ layout_return_all ∷ []))
    ∷ (2, Gets 1 3 (Set None))
    ∷ (2, Gets 2 4 (Set None))
    ∷ []

abbrev pub returning_all_shown : List MdsShown
returning_all_shown =
    shows (entry.Ended file1 (uid 65536) cause.ReturnedAll ∷ []) (replied c1 5 0 (sequenced session1 3 ∷ return_done ∷ []) ∷ CallsServer 1 3 0 (SetAttr 2 65537 (tick 1)) ∷ CallsServer 2 4 0 (SetAttr 2 65537 (tick 1)) ∷ [])
    ∷ shows [] (replied c1 6 0 (sequenced session1 4 ∷ return_done ∷ []) ∷ [])
    ∷ shows [] []
    ∷ shows (entry.Fenced file1 (uid 65536) (uid 65537) (m1 ∷ m2 ∷ []) ∷ []) (CallsServer 1 5 0 (Commit 2) ∷ [])
    ∷ []

-- A READ waits while the lease of its client ends. It is answered still, and the operation behind it has no session.
abbrev pub reading_past_the_lease : List (ℕ × MdsTurn)
reading_past_the_lease =
    (1, Runs c1 4 (unkept_sequence session1 2 ∷ put_fh 1 ∷ read open1 0 2 ∷ get_fh ∷ get_fh ∷ []))
    ∷ (92, Ticks)
    ∷ (92, Gets 1 3 (Bytes (Some (showing 65536 1 2)) true (65 ∷ 66 ∷ [])))
    ∷ []

abbrev pub reading_past_the_lease_shown : List MdsShown
reading_past_the_lease_shown =
    shows [] (CallsServer 1 3 0 (Read 2 0 2) ∷ [])
    ∷ shows [] []
    ∷ shows (entry.ReadAnswer file1 0 (65 ∷ 66 ∷ []) ∷ []) (replied c1 4 10052 (sequenced session1 2 ∷ put_fh_done ∷ read_done (65 ∷ 66 ∷ []) ∷ arm 10 resop4 (inr 10052) ∷ []) ∷ [])
    ∷ []

-- ---- operations that stand where they may not, and those that there are not

-- SEQUENCE elsewhere than first; EXCHANGE_ID that is not alone; PUTROOTFH without a SEQUENCE; READDIR 26, which is not built, behind
-- others and first; and a number that no operation has.
abbrev pub misplacing : List (ℕ × MdsTurn)
misplacing =
    (1, Runs c1 4 (sequence session1 2 ∷ put_root ∷ sequence session1 3 ∷ get_fh ∷ []))
    ∷ (1, Runs c1 5 (exchange (codes "c1") ∷ put_root ∷ []))
    ∷ (1, Runs c1 6 (put_root ∷ get_fh ∷ []))
    ∷ (1, RunsUpTo c1 7 (sequence session1 3 ∷ put_root ∷ []) 26)
    ∷ (1, RunsUpTo c1 8 [] 26)
    ∷ (1, RunsUpTo c1 9 (sequence session1 4 ∷ []) 59)
    ∷ []

abbrev pub misplacing_shown : List MdsShown
misplacing_shown =
    shows [] (replied c1 4 10064 (sequenced session1 2 ∷ put_root_done ∷ arm 53 resop4 (inr 10064) ∷ []) ∷ [])
    ∷ shows [] (replied c1 5 10081 (arm 42 resop4 (inr 10081) ∷ []) ∷ [])
    ∷ shows [] (replied c1 6 10071 (arm 24 resop4 (inr 10071) ∷ []) ∷ [])
    ∷ shows [] (replied c1 7 10004 (sequenced session1 3 ∷ put_root_done ∷ behind_arms resop4 (26, 10004) ∷ []) ∷ [])
    ∷ shows [] (replied c1 8 10004 (behind_arms resop4 (26, 10004) ∷ []) ∷ [])
    ∷ shows [] (replied c1 9 10044 (sequenced session1 4 ∷ behind_arms resop4 (10044, 10044) ∷ []) ∷ [])
    ∷ []

-- ---- timeouts, of calls by their numbers, and calls that nobody awaits

-- the same on the second slot
abbrev sequence_beside : SessionId → ℕ → Value argop4
sequence_beside session number = arm 53 argop4 (session.0, (number, (1, (1, true))))

abbrev sequenced_beside : SessionId → ℕ → Value resop4
sequenced_beside session number = arm 53 resop4 (inl (session.0, (number, (1, (7, (7, 0))))))

-- Two READs wait, for calls to one data server. The second call times out, by its number, and then the one that was sent first.
abbrev two_reads : List (ℕ × MdsTurn)
two_reads =
    (1, Runs c1 4 (unkept_sequence session1 2 ∷ put_fh 1 ∷ read open1 0 4 ∷ []))
    ∷ (1, Runs c1 5 (sequence_beside session1 1 ∷ put_fh 1 ∷ read open1 4 4 ∷ []))
    ∷ []

abbrev pub two_calls_mds : MdsValue
two_calls_mds = mds_behind opened_mds two_reads

abbrev pub naming : List (ℕ × MdsTurn)
naming =
    (2, CallTimesOut (Server 1) 4)
    ∷ (2, TimesOut (Server 1))
    ∷ (2, CallTimesOut (Server 1) 3)
    ∷ (2, Gets 1 4 (Bytes (Some (showing 65536 1 2)) true []))
    ∷ []

abbrev pub naming_shown : List MdsShown
naming_shown =
    shows (entry.TimedOut Mds 4 ∷ []) (CallsServer 1 4 0 (Read 2 4 4) ∷ [])
    ∷ shows (entry.TimedOut Mds 3 ∷ []) (CallsServer 1 3 0 (Read 2 0 4) ∷ [])
    ∷ shows (entry.TimedOut Mds 3 ∷ []) (CallsServer 1 3 0 (Read 2 0 4) ∷ [])
    ∷ shows (entry.ReadAnswer file1 0 [] ∷ []) (replied c1 5 0 (sequenced_beside session1 1 ∷ put_fh_done ∷ read_done [] ∷ []) ∷ [])
    ∷ []

-- A timeout of a number that was not given yet, of one at another data server, and of one that was answered.
abbrev pub naming_none : List (ℕ × MdsTurn)
naming_none =
    (2, CallTimesOut (Server 1) 5)
    ∷ (2, CallTimesOut (Server 2) 3)
    ∷ (2, Gets 1 3 (Bytes (Some (showing 65536 1 2)) true (65 ∷ 66 ∷ [])))
    ∷ (2, CallTimesOut (Server 1) 3)
    ∷ []

abbrev pub naming_none_shown : List MdsShown
naming_none_shown =
    shows [] []
    ∷ shows [] []
    ∷ shows (entry.ReadAnswer file1 0 (65 ∷ 66 ∷ []) ∷ []) (replied c1 4 0 (sequenced session1 2 ∷ put_fh_done ∷ read_done (65 ∷ 66 ∷ []) ∷ []) ∷ [])
    ∷ shows [] []
    ∷ []

-- The layout comes back before the callback that recalls it is answered. The callback, which nobody awaits, stands until the next tick; of
-- the fence's calls the one that is still awaited stands behind it too.
abbrev pub unanswered : List (ℕ × MdsTurn)
unanswered =
    (1, Runs c2 1 (exchange (codes "c2") ∷ []))
    ∷ (1, Runs c2 2 (create id2 ∷ []))
    ∷ (1, Runs c2 3 (sequence session2 1 ∷ put_root ∷ open_name name_a ∷ layout_get (open_stateid_of 1 2) ∷ []))
    ∷ (2, Runs c1 5 (sequence session1 3 ∷ put_fh 1 ∷ layout_return 65536 ∷ []))
    ∷ (2, Gets 1 4 (Set None))
    ∷ []

abbrev pub unanswered_mds : MdsValue
unanswered_mds = mds_behind held_mds unanswered

-- it is not outstanding, though it stands
abbrev pub naming_nobody : List (ℕ × MdsTurn)
naming_nobody = (3, CallTimesOut c1 3) ∷ (3, TimesOut c1) ∷ []

abbrev pub naming_nobody_shown : List MdsShown
naming_nobody_shown = shows [] [] ∷ shows [] [] ∷ []

abbrev pub numbers_kept : MdsValue → List ℕ
numbers_kept m = map (λ (call : AwaitedCall). call.xid) m.calls
