-- Which calls go out at the end of an event, and in which order: by file, then by the place of the mirror in the live list; at one place the
-- file's own call before the READs of those that read it, in the order in which they began. What waits for the next tick goes out with them.
use Rattle.std.specs.Prelude.{ℕ, ◌+◌, ◌-◌, Bool, not, ◌==◌, ◌&&◌, List, [], ◌∷◌, length, position, Option, Some, None, if◌then◌else◌, slice_get, slice_set}
use Rattle.std.specs.Option.{option_map}
use Rattle.std.specs.List.{find, range_with_len}
use Rattle.cluster_model.specs.declared.ids.NodeId.{NodeId}
use Rattle.cluster_model.specs.declared.ids.NodeId.TheVariants.{Server}
use Rattle.cluster_model.specs.declared.ids.FileId.{FileId}
use Rattle.cluster_model.specs.declared.ids.Mirror.{Mirror}
use Rattle.cluster_model.specs.DsCalls.{DsCallValue}
use Rattle.file_rule.specs.FilePhases.{CallOut, call_out}
use Rattle.mds_io.specs.Reads.{ReadSends}
use Rattle.mds_io.specs.Reads as read
use Rattle.mirror_writer.specs.Writers.{WriterSends}
use Rattle.mirror_writer.specs.Writers as writer
use Rattle.nfs4_types.specs.Stateids.{layout_stateid_of}
use Rattle.nfs4_session.specs.Clients.{SessionState, has_id, change_first, with_clients}
use Rattle.nfs4_session.specs.Bindings.{last_session, back_call, client_called_back}
use Rattle.recall.specs.declared.recall.RecallCall.{RecallCall}
use Rattle.recall.specs.Recalls.{RecallSends, next_sent}
use Rattle.mds_rule.specs.MdsStates.{WaitingRead, WaitingWrite, ServedFile, MdsSend, CallsServer, CallsBack, AwaitedCall, MdsValue, MdsStep, sends_none, and_then, with_call, is_call_to, served, with_served, numbered}
use Rattle.mds_rule.specs.declared.waiter.Waiter.{Waiter}
use Rattle.mds_rule.specs.declared.waiter.Waiter.TheVariants.{ForFile, ForRead, ForWrite, ForRecall}

-- ---- one call

-- Each call has a number of its own. Behind the last, 4,294,967,295, no call goes out.
abbrev pub xid_after : ℕ → ℕ
xid_after xid = if xid == 4294967295 then 0 else xid + 1

abbrev pub calls_as : MdsValue → NodeId → Waiter → MdsSend → MdsStep
calls_as m node caller sent = record {
  mds = record m { calls = with_call (record { node = node; xid = m.next_xid; caller = caller; sent = sent }) m.calls; next_xid = xid_after m.next_xid };
  entries = [];
  sends = sent ∷ [];
}

abbrev pub calls_server : MdsValue → FileId → ServedFile → Waiter → ℕ → ℕ → DsCallValue → MdsStep
calls_server m file s caller server uid call = calls_as (with_served m file s) (Server server) caller (CallsServer server m.next_xid uid call)

-- ---- a file's own calls: those that it has under way, or those of the metadata server's own write

pub record OwnCall : Type 0 where
  pub served : ServedFile
  pub caller : Waiter
  pub server : ℕ
  pub uid : ℕ
  pub call : DsCallValue

abbrev pub own_of_file : FileId → ServedFile → CallOut → OwnCall
own_of_file file s c = record { served = record s { file = c.file }; caller = ForFile file; server = c.server; uid = c.uid; call = c.call }

abbrev pub own_of_write : FileId → ServedFile → WaitingWrite → WriterSends → OwnCall
own_of_write file s w c = record { served = record s { write = Some (record w { writer = c.writer }) }; caller = ForWrite file; server = c.id.server; uid = w.writer.cred; call = c.call }

abbrev pub own_by : FileId → ServedFile → ℕ → Option WaitingWrite → Option OwnCall
own_by file s xid None = option_map (own_of_file file s) (call_out s.file xid)
own_by file s xid (Some w) = option_map (own_of_write file s w) (writer.next_sent w.writer xid)

-- ---- places: those of the live list are 0 to 3, and 4 is behind all of them

abbrev pub place_or_last : Option ℕ → ℕ
place_or_last None = 4
place_or_last (Some place) = place

abbrev pub place_of : ServedFile → ℕ → ℕ
place_of s server = place_or_last (position (λ (m : Mirror). m.id.server == server) s.file.layout.live)

abbrev pub own_call_at : MdsValue → FileId → ServedFile → ℕ → Option OwnCall → MdsStep
own_call_at m file s place None = sends_none m
own_call_at m file s place (Some c) = if place_of s c.server == place then calls_server m file c.served c.caller c.server c.uid c.call else sends_none m

abbrev pub own_next : MdsValue → FileId → ℕ → Option ServedFile → MdsStep
own_next m file place None = sends_none m
own_next m file place (Some s) = own_call_at m file s place (own_by file s m.next_xid s.write)

abbrev pub has_xids : MdsValue → Bool
has_xids m = not (m.next_xid == 0)

-- the next one, where it goes to this place
abbrev pub own_call : FileId → ℕ → MdsValue → MdsStep
own_call file place m = if has_xids m then own_next m file place (served m file) else sends_none m

abbrev pub own_two : FileId → ℕ → MdsValue → MdsStep
own_two file place m = and_then (own_call file place m) (own_call file place)

-- at most four of a file's own calls go to one place
abbrev pub own_calls : FileId → ℕ → MdsValue → MdsStep
own_calls file place m = and_then (own_two file place m) (own_two file place)

-- ---- READs

abbrev pub read_goes : MdsValue → FileId → ServedFile → ℕ → ℕ → WaitingRead → Option ReadSends → MdsStep
read_goes m file s n place r None = sends_none m
read_goes m file s n place r (Some sent) =
    if (place_of s sent.id.server == place) && has_xids m
    then calls_server m file (record s { reads = slice_set s.reads n (record { compound = r.compound; read = sent.read }) }) (ForRead file) sent.id.server 0 sent.call
    else sends_none m

abbrev pub read_call : MdsValue → FileId → ServedFile → ℕ → ℕ → Option WaitingRead → MdsStep
read_call m file s n place None = sends_none m
read_call m file s n place (Some r) = read_goes m file s n place r (read.next_sent r.read m.next_xid)

-- of the read that began as this one of the file's
abbrev pub read_call_in : FileId → ℕ → ℕ → MdsValue → Option ServedFile → MdsStep
read_call_in file place n m None = sends_none m
read_call_in file place n m (Some s) = read_call m file s n place (slice_get s.reads n)

abbrev pub each : {A : Type 0} → (A → MdsValue → MdsStep) → List A → MdsValue → MdsStep
each step [] m = sends_none m
each step (a ∷ list) m = and_then (step a m) (λ n. each step list n)

abbrev pub read_count : Option ServedFile → ℕ
read_count None = 0
read_count (Some s) = length s.reads

abbrev pub read_calls : FileId → ℕ → MdsValue → MdsStep
read_calls file place m = each (λ n k. read_call_in file place n k (served k file)) (range_with_len 0 (read_count (served m file))) m

-- ---- the recall of a file's layout: a callback on the session of its client that was made or bound last

abbrev pub stateid_seqid : Option ServedFile → ℕ
stateid_seqid None = 0
stateid_seqid (Some s) = s.seqid

-- where the client has no session its number is used, and nothing is sent
abbrev pub calls_back : MdsValue → RecallCall → Option SessionState → MdsStep
calls_back m call None = sends_none (record m { next_xid = xid_after m.next_xid })
calls_back m call (Some session) =
    let back = back_call call.client session in
    calls_as (record m { sessions = with_clients m.sessions (change_first (has_id call.client) (client_called_back session.number) m.sessions.clients) })
    back.node ForRecall (CallsBack m.next_xid back call.file (layout_stateid_of call.file.0 call.cred.0 (stateid_seqid (served m call.file))))

abbrev pub recall_goes : MdsValue → FileId → Option RecallSends → MdsStep
recall_goes m file None = sends_none m
recall_goes m file (Some sent) =
    if sent.call.file.0 == file.0 then calls_back (record m { recalls = sent.recalls }) sent.call (last_session (find (has_id sent.call.client) m.sessions.clients)) else sends_none m

abbrev pub recall_call : FileId → MdsValue → MdsStep
recall_call file m = if has_xids m then recall_goes m file (next_sent m.recalls m.next_xid) else sends_none m

-- ---- what was kept until the tick under its number: its record is sent again

abbrev pub repeats_call : MdsValue → Option AwaitedCall → MdsStep
repeats_call m None = sends_none m
repeats_call m (Some call) = record { mds = m; entries = []; sends = call.sent ∷ [] }

-- the call of this server and number
abbrev pub repeats : Option (Option (ℕ × ℕ)) → MdsValue → MdsStep
repeats None m = sends_none m
repeats (Some None) m = sends_none m
repeats (Some (Some kept)) m = repeats_call m (find (is_call_to (Server kept.0) kept.1) m.calls)

-- ---- all of them

abbrev pub place_calls : FileId → ℕ → MdsValue → MdsStep
place_calls file place m = and_then (own_calls file place m) (read_calls file place)

-- of the file with this number; what each file kept stands at its place
abbrev pub file_calls : List (Option (ℕ × ℕ)) → ℕ → MdsValue → MdsStep
file_calls kept n m =
    and_then (and_then (recall_call (numbered n) m) (repeats (slice_get kept (n - 1))))
    (each (place_calls (numbered n)) (0 ∷ 1 ∷ 2 ∷ 3 ∷ 4 ∷ []))

abbrev pub calls_out : List (Option (ℕ × ℕ)) → MdsValue → MdsStep
calls_out kept m = each (file_calls kept) (range_with_len 1 (length m.files)) m
