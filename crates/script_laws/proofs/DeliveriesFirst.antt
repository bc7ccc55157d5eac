-- Behind an event a journal has entries more, of which only the first may say that a record came; so before it the journal is the one that the event
-- began with.
use Rattle.std.proofs.Common.{◌≡◌, ℕ, ◌+◌, Bool, true, false, cond, List, [], ◌∷◌, ◌++◌, length, Option, Some, None, refl, sym, ap, subst, ◌∙◌, append_assoc, append-nil}
use Rattle.std.specs.Prelude.{map}
use Rattle.std.specs.List.{AllByRecursion, range_with_len}
use Rattle.cluster_model.specs.declared.ids.NodeId.{NodeId}
use Rattle.cluster_model.specs.declared.ids.NodeId.TheVariants.{Mds, Server, Client}
use Rattle.cluster_model.specs.declared.ids.FileId.{FileId}
use Rattle.cluster_model.specs.declared.ids.Mirror.{Mirror}
use Rattle.cluster_model.specs.declared.piece.Piece.{Piece}
use Rattle.cluster_model.specs.declared.entry.Entry.{Entry}
use Rattle.cluster_model.specs.declared.entry.Entry.TheVariants as entry
use Rattle.cluster_model.specs.Event.{EventValue, Deliver, DeliverPacket, DeliverBetween, Flow, Hold, Pass, Timeout, Tick, Open, Write, Through, Fill, Commit, Read, Return, Rogue, Stray, Reboot, Recall, Resilver, Audit, Restart}
use Rattle.cluster_model.specs.Server.{ServerState, restart_of}
use Rattle.ds_files.specs.Receive.{outcome_of}
use Rattle.client_state.specs.declared.request.UserRequest.{UserRequest}
use Rattle.client_state.specs.ClientStates.{ClientValue, fresh_client}
use Rattle.client_state.specs.ClientSends.{ClientStep, sends_none}
use Rattle.mirror_client.specs.ClientRule.{client_requested, client_recorded, client_timed_out, client_ticked, turned, strays}
use Rattle.client_laws.specs.ClientHistory.{ClientInput, Requested, Recorded, TimeoutOf, Ticked, Strayed, input_step}
use Rattle.mds_rule.specs.MdsStates.{ServedFile, served, numbered}
use Rattle.mds_walk.specs.MdsRuns.{MdsEvent, Hears, IsTimedOut, Ticks, RecallsFile, Resilvers, after_event}
use Rattle.packet_table.specs.declared.note.PacketNote.{PacketNote}
use Rattle.packet_table.specs.Packets.{packet_numbered, number_between}
use Rattle.world_journal.specs.SentPackets.{packets_of}
use Rattle.world_rule.specs.Machines.{MachinesValue, Act, nth, client_at, client_acts, server_at, started, restarts_at, receives, times_out, leaves, goes_astray, starts_anew, audit_of, audits_of, mds_did, audits}
use Rattle.world_rule.specs.ClusterWorlds.{ClusterState, packets, entering, acting, packet_comes, delivering_some, client_ticks, clients_tick, behind, verifier_after}
use Rattle.world_rule.specs.Sent.{bytes_at_place}
use Rattle.node_histories.specs.NodeHistories.{is_client_entry, is_server_entry}
use Rattle.node_histories.proofs.MdsKinds.{IsMdsEntry}
use Rattle.node_histories.proofs.MdsEntries.{mds_kinds}
use Rattle.node_histories.proofs.ClientEntries.{input_enters}
use Rattle.node_histories.proofs.ServerEntries.{AreServerEntries, server_kinds}
use Rattle.holder_parts.specs.HeldOwners.{DoHoldersOwn}
use Rattle.world_layouts.specs.WorldLayouts.{HoldersOwnAtDeliveries}

-- ---- entries that say of no record that it came

abbrev NotDelivered : Entry → Type 0
NotDelivered (entry.Delivered number) = ⊥
NotDelivered e = Unit {0}

abbrev NoneCame : List Entry → Type 0
NoneCame entries = AllByRecursion NotDelivered entries

none_both : (a b : List Entry) → NoneCame a → NoneCame b → NoneCame (a ++ b)
none_both [] b first second = second
none_both (e ∷ a) b first second = (first.0, none_both a b first.1 second)

client_one : (e : Entry) → is_client_entry e ≡ true → NotDelivered e
client_one (entry.Delivered number) is = absurd cc
client_one e is = tt

of_client : (entries : List Entry) → AllByRecursion (λ e. is_client_entry e ≡ true) entries → NoneCame entries
of_client [] all = tt
of_client (e ∷ entries) all = (client_one e all.0, of_client entries all.1)

mds_one : (e : Entry) → IsMdsEntry e → NotDelivered e
mds_one (entry.Delivered number) is = absurd is
mds_one e is = tt

of_mds : (entries : List Entry) → AllByRecursion IsMdsEntry entries → NoneCame entries
of_mds [] all = tt
of_mds (e ∷ entries) all = (mds_one e all.0, of_mds entries all.1)

server_one : (e : Entry) → is_server_entry e ≡ true → NotDelivered e
server_one (entry.Delivered number) is = absurd cc
server_one e is = tt

of_server : (entries : List Entry) → AreServerEntries entries → NoneCame entries
of_server [] all = tt
of_server (e ∷ entries) all = (server_one e all.0, of_server entries all.1)

of_packets : (node : NodeId) (sent : ℕ) (sends : List (NodeId × List ℕ)) → NoneCame (packets_of node sent sends)
of_packets node sent [] = tt
of_packets node sent ((to, bytes) ∷ sends) = (tt, of_packets node (sent + 1) sends)

-- ---- acts

abbrev ActsSo : Act → Type 0
ActsSo a = NoneCame a.entries

client_by : (m : MachinesValue) (n : ℕ) (rule : ClientValue → ClientStep) → ((c : ClientValue) → NoneCame (rule c).entries) → (o : Option ClientValue) → ActsSo (client_at m n rule o)
client_by m n rule all None = tt
client_by m n rule all (Some c) = all c

input_so : (input : ClientInput) (c : ClientValue) → NoneCame (input_step input c).entries
input_so input c = of_client (input_step input c).entries (input_enters input c).entries

server_by : (m : MachinesValue) (n : ℕ) (from : NodeId) (bytes : List ℕ) (o : Option ServerState) → ActsSo (server_at m n from bytes o)
server_by m n from bytes None = tt
server_by m n from bytes (Some s) = of_server (outcome_of s bytes).entries (server_kinds s bytes)

mds_so : (m : MachinesValue) (e : MdsEvent) → NoneCame (after_event e m.mds).entries
mds_so m e = of_mds (after_event e m.mds).entries (mds_kinds m.mds e)

received_so : (now : ℕ) (from to : NodeId) (bytes : List ℕ) (m : MachinesValue) → ActsSo (receives now from to bytes m)
received_so now from Mds bytes m = mds_so m (record { now = now; input = Hears from bytes })
received_so now from (Server n) bytes m = server_by m n from bytes (nth m.servers n)
received_so now from (Client n) bytes m = client_by m n (client_recorded from bytes now) (input_so (Recorded from bytes now)) (nth m.clients n)

late_so : (now : ℕ) (node to : NodeId) (m : MachinesValue) → ActsSo (times_out now node to m)
late_so now Mds to m = mds_so m (record { now = now; input = IsTimedOut to None })
late_so now (Server n) to m = tt
late_so now (Client n) to m = client_by m n (client_timed_out to) (input_so (TimeoutOf to)) (nth m.clients n)

started_so : (m : MachinesValue) (n : ℕ) (pieces : List Piece) (o : Option ServerState) → ActsSo (started m n pieces o)
started_so m n pieces None = tt
started_so m n pieces (Some s) = (tt, tt)

restart_so : (m : MachinesValue) (n : ℕ) (pieces : List Piece) (o : Option ServerState) → ActsSo (restarts_at m n pieces o)
restart_so m n pieces None = tt
restart_so m n pieces (Some s) = started_so m n pieces (restart_of s pieces)

left_so : (n : ℕ) (c : ClientValue) → NoneCame (leaves n c).entries
left_so n c = by_left c.has_left
  where
    by_left : (b : Bool) → NoneCame (cond {A = ClientStep} b (sends_none c) (record { client = turned c; entries = entry.Turned n ∷ []; sends = [] })).entries
    by_left true = tt
    by_left false = (tt, tt)

astray_so : (place at : ℕ) (bytes : List ℕ) (c : ClientValue) → NoneCame (goes_astray place at bytes c).entries
astray_so place at bytes c = by_left c.has_left
  where
    by_left : (b : Bool) → NoneCame (cond {A = ClientStep} b (strays c.file c.layout place at bytes c) (sends_none c)).entries
    by_left true = input_so (Strayed place at bytes) c
    by_left false = tt

anew_so : (n verifier : ℕ) (c : ClientValue) → NoneCame (starts_anew n verifier c).entries
anew_so n verifier c = by_left c.has_left
  where
    by_left : (b : Bool) → NoneCame (cond {A = ClientStep} b (sends_none c) (record { client = fresh_client n verifier c.next_xid; entries = entry.Rebooted n ∷ []; sends = [] })).entries
    by_left true = tt
    by_left false = (tt, tt)

audit_all : (m : MachinesValue) (file : FileId) (mirrors : List Mirror) → NoneCame (map (λ (mirror : Mirror). audit_of m file mirror.id) mirrors)
audit_all m file [] = tt
audit_all m file (mirror ∷ mirrors) = (tt, audit_all m file mirrors)

audits_so : (m : MachinesValue) (file : FileId) (o : Option ServedFile) → NoneCame (audits_of m file o)
audits_so m file None = tt
audits_so m file (Some s) = audit_all m file s.file.layout.live

-- ---- what an event adds

record Adds (old new : List Entry) : Type 0 where
  more : List Entry
  is : new ≡ old ++ more
  none : NoneCame more

adds_none : (old : List Entry) → Adds old old
adds_none old = record { more = []; is = sym (append-nil old); none = tt }

adds_then : (a b c : List Entry) → Adds a b → Adds b c → Adds a c
adds_then a b c first second = record {
  more = first.more ++ second.more;
  is = second.is ∙ ap (λ (l : List Entry). l ++ second.more) first.is ∙ append_assoc a first.more second.more;
  none = none_both first.more second.more first.none second.none;
}

acts_add : (node : NodeId) (a : Act) (w : ClusterState) → ActsSo a → Adds w.journal (acting node a w).journal
acts_add node a w so = record { more = a.entries ++ packets_of node w.sent a.sends; is = refl; none = none_both a.entries (packets_of node w.sent a.sends) so (of_packets node w.sent a.sends) }

ticks_add : (ns : List ℕ) (w : ClusterState) → Adds w.journal (clients_tick ns w).journal
ticks_add [] w = adds_none w.journal
ticks_add (n ∷ ns) w =
    adds_then w.journal (client_ticks n w).journal (clients_tick ns (client_ticks n w)).journal
    (acts_add (Client n) (client_acts n (client_ticked w.now) w.machines) w (client_by w.machines n (client_ticked w.now) (input_so (Ticked w.now)) (nth w.machines.clients n))) (ticks_add ns (client_ticks n w))

-- an entry, and behind it none that says so; or none at all
data AddsFirst (old new : List Entry) : Type 0 where
  NoneAdded : Adds old new → AddsFirst old new
  OneAdded : (e : Entry) → Adds (old ++ e ∷ []) new → AddsFirst old new

comes_add : (number : ℕ) (o : Option PacketNote) (w : ClusterState) → AddsFirst w.journal (packet_comes number o w).journal
comes_add number None w = NoneAdded (adds_none w.journal)
comes_add number (Some note) w =
    OneAdded (entry.Delivered number)
    (acts_add note.to (receives w.now note.from note.to (bytes_at_place w.journal note.place) w.machines) (entering (entry.Delivered number ∷ []) w)
    (received_so w.now note.from note.to (bytes_at_place w.journal note.place) w.machines))

some_add : (o : Option ℕ) (w : ClusterState) → AddsFirst w.journal (delivering_some o w).journal
some_add None w = NoneAdded (adds_none w.journal)
some_add (Some number) w = comes_add number (packet_numbered (packets w) number) w

asks_add : (n : ℕ) (asked : UserRequest) (w : ClusterState) → Adds w.journal (acting (Client n) (client_acts n (client_requested asked) w.machines) w).journal
asks_add n asked w = acts_add (Client n) (client_acts n (client_requested asked) w.machines) w (client_by w.machines n (client_requested asked) (input_so (Requested asked)) (nth w.machines.clients n))

one_more : (old : List Entry) (e : Entry) → NotDelivered e → Adds old (old ++ e ∷ [])
one_more old e is = record { more = e ∷ []; is = refl; none = (is, tt) }

event_adds : (event : EventValue) (w : ClusterState) → AddsFirst w.journal (behind event w).journal
event_adds (Deliver bytes) w = NoneAdded (adds_none w.journal)
event_adds (DeliverPacket number) w = comes_add number (packet_numbered (packets w) number) w
event_adds (DeliverBetween from to n) w = some_add (number_between (packets w) from to n) w
event_adds Flow w = NoneAdded (adds_none w.journal)
event_adds (Hold from to) w = NoneAdded (one_more w.journal (entry.Hold from to) tt)
event_adds (Pass from to) w = NoneAdded (one_more w.journal (entry.Pass from to) tt)
event_adds (Timeout node to) w = NoneAdded (acts_add node (times_out w.now node to w.machines) w (late_so w.now node to w.machines))
event_adds (Tick seconds) w =
    let later : ClusterState = record (entering (entry.Tick seconds ∷ []) w) { now = w.now + seconds } in
    let ticked : ClusterState = clients_tick (range_with_len 1 (length w.machines.clients)) later in
    NoneAdded (adds_then w.journal later.journal (behind (Tick seconds) w).journal (one_more w.journal (entry.Tick seconds) tt)
    (adds_then later.journal ticked.journal (behind (Tick seconds) w).journal (ticks_add (range_with_len 1 (length w.machines.clients)) later)
    (acts_add Mds (mds_did ticked.machines (after_event (record { now = ticked.now; input = Ticks }) ticked.machines.mds)) ticked (mds_so ticked.machines (record { now = ticked.now; input = Ticks })))))
event_adds (Open client name) w = NoneAdded (asks_add client _ w)
event_adds (Write client at bytes) w = NoneAdded (asks_add client _ w)
event_adds (Through client at bytes) w = NoneAdded (asks_add client _ w)
event_adds (Fill client at count byte) w = NoneAdded (asks_add client _ w)
event_adds (Commit client) w = NoneAdded (asks_add client _ w)
event_adds (Read client at count) w = NoneAdded (asks_add client _ w)
event_adds (Return client) w = NoneAdded (asks_add client _ w)
event_adds (Rogue client) w = NoneAdded (acts_add (Client client) (client_acts client (leaves client) w.machines) w (client_by w.machines client (leaves client) (left_so client) (nth w.machines.clients client)))
event_adds (Stray client place at bytes) w =
    NoneAdded (acts_add (Client client) (client_acts client (goes_astray place at bytes) w.machines) w (client_by w.machines client (goes_astray place at bytes) (astray_so place at bytes) (nth w.machines.clients client)))
event_adds (Reboot client) w =
    let verifier : ℕ = verifier_after (nth w.verifiers client) in
    NoneAdded (acts_add (Client client) (client_acts client (starts_anew client verifier) w.machines) w (client_by w.machines client (starts_anew client verifier) (anew_so client verifier) (nth w.machines.clients client)))
event_adds (Recall file) w =
    let e : MdsEvent = record { now = w.now; input = RecallsFile (numbered file) } in
    NoneAdded (acts_add Mds (mds_did w.machines (after_event e w.machines.mds)) w (mds_so w.machines e))
event_adds (Resilver file) w =
    let e : MdsEvent = record { now = w.now; input = Resilvers (numbered file) } in
    NoneAdded (acts_add Mds (mds_did w.machines (after_event e w.machines.mds)) w (mds_so w.machines e))
event_adds (Audit file) w = NoneAdded (acts_add Mds (audits (numbered file) w.machines) w (audits_so w.machines (numbered file) (served w.machines.mds (numbered file))))
event_adds (Restart server pieces) w = NoneAdded (acts_add (Server server) (restarts_at w.machines server pieces (nth w.machines.servers server)) w (restart_so w.machines server pieces (nth w.machines.servers server)))

-- ---- where a record came

-- in the older part, or as the first of the new
none_there : (more front rest : List Entry) (number : ℕ) → NoneCame more → more ≡ front ++ entry.Delivered number ∷ rest → ⊥
none_there more front rest number none is = in_front front (subst NoneCame is none)
  where
    in_front : (xs : List Entry) → NoneCame (xs ++ entry.Delivered number ∷ rest) → ⊥
    in_front [] all = all.0
    in_front (x ∷ xs) all = in_front xs all.1

data Came (old past : List Entry) (number : ℕ) : Type 0 where
  Before : (middle : List Entry) → old ≡ past ++ entry.Delivered number ∷ middle → Came old past number
  Now : past ≡ old → Came old past number

came_in : (old more past rest : List Entry) (number : ℕ) → NoneCame more → old ++ more ≡ past ++ entry.Delivered number ∷ rest → (middle : List Entry) × (old ≡ past ++ entry.Delivered number ∷ middle)
came_in [] more past rest number none is = absurd (none_there more past rest number none is)
came_in (x ∷ old) more [] rest number none is =
    (old, ap (λ (e : Entry). e ∷ old) (head_is x (entry.Delivered number) (old ++ more) rest is))
  where
    head_is : (a b : Entry) (xs ys : List Entry) → a ∷ xs ≡ b ∷ ys → a ≡ b
    head_is a b xs ys same = cc
came_in (x ∷ old) more (y ∷ past) rest number none is =
    let tail : (middle : List Entry) × (old ≡ past ++ entry.Delivered number ∷ middle) = came_in old more past rest number none (tail_is x y (old ++ more) (past ++ entry.Delivered number ∷ rest) is) in
    (tail.0, ap (λ (l : List Entry). x ∷ l) tail.1 ∙ ap (λ (e : Entry). e ∷ (past ++ entry.Delivered number ∷ tail.0)) (head_same x y (old ++ more) (past ++ entry.Delivered number ∷ rest) is))
  where
    tail_is : (a b : Entry) (xs ys : List Entry) → a ∷ xs ≡ b ∷ ys → xs ≡ ys
    tail_is a b xs ys same = cc

    head_same : (a b : Entry) (xs ys : List Entry) → a ∷ xs ≡ b ∷ ys → a ≡ b
    head_same a b xs ys same = cc

-- the last of a list, and what is before it
last_split : (old past middle : List Entry) (e : Entry) (number : ℕ) → old ++ e ∷ [] ≡ past ++ entry.Delivered number ∷ middle → Came old past number
last_split [] [] middle e number is = Now refl
last_split [] (y ∷ past) middle e number is = absurd (too_long past (tail_is e y [] (past ++ entry.Delivered number ∷ middle) is))
  where
    tail_is : (a b : Entry) (xs ys : List Entry) → a ∷ xs ≡ b ∷ ys → xs ≡ ys
    tail_is a b xs ys same = cc

    too_long : (xs : List Entry) → [] ≡ xs ++ entry.Delivered number ∷ middle → ⊥
    too_long [] same = absurd cc
    too_long (x ∷ xs) same = absurd cc
last_split (x ∷ old) [] middle e number is = Before old (ap (λ (a : Entry). a ∷ old) (head_is x (entry.Delivered number) (old ++ e ∷ []) middle is))
  where
    head_is : (a b : Entry) (xs ys : List Entry) → a ∷ xs ≡ b ∷ ys → a ≡ b
    head_is a b xs ys same = cc
last_split (x ∷ old) (y ∷ past) middle e number is = by_tail (last_split old past middle e number (tail_is x y (old ++ e ∷ []) (past ++ entry.Delivered number ∷ middle) is)) (head_is x y (old ++ e ∷ []) (past ++ entry.Delivered number ∷ middle) is)
  where
    head_is : (a b : Entry) (xs ys : List Entry) → a ∷ xs ≡ b ∷ ys → a ≡ b
    head_is a b xs ys same = cc

    tail_is : (a b : Entry) (xs ys : List Entry) → a ∷ xs ≡ b ∷ ys → xs ≡ ys
    tail_is a b xs ys same = cc

    by_tail : Came old past number → x ≡ y → Came (x ∷ old) (y ∷ past) number
    by_tail (Before rest split) same = Before rest (ap (λ (l : List Entry). x ∷ l) split ∙ ap (λ (a : Entry). a ∷ (past ++ entry.Delivered number ∷ rest)) same)
    by_tail (Now split) same = Now (ap (λ (a : Entry). a ∷ past) (sym same) ∙ ap (λ (l : List Entry). x ∷ l) split)

came_at : (old new past rest : List Entry) (number : ℕ) → AddsFirst old new → new ≡ past ++ entry.Delivered number ∷ rest → Came old past number
came_at old new past rest number (NoneAdded a) is = let before = came_in old a.more past rest number a.none (sym a.is ∙ is) in Before before.0 before.1
came_at old new past rest number (OneAdded e a) is = let before = came_in (old ++ e ∷ []) a.more past rest number a.none (sym a.is ∙ is) in last_split old past before.0 e number before.1

-- holders own at each delivery behind an event, where they did before it and own in the journal that it began with
pub own_behind : (event : EventValue) (w : ClusterState) → HoldersOwnAtDeliveries w.journal → DoHoldersOwn w.journal → HoldersOwnAtDeliveries (behind event w).journal
own_behind event w own now past rest number is = by_came (came_at w.journal (behind event w).journal past rest number (event_adds event w) is)
  where
    by_came : Came w.journal past number → DoHoldersOwn past
    by_came (Before middle split) = own past middle number split
    by_came (Now same) = subst DoHoldersOwn (sym same) now

-- in a journal that is empty nothing came
pub own_at_first : HoldersOwnAtDeliveries []
own_at_first [] behind number is = absurd cc
own_at_first (e ∷ past) behind number is = absurd cc
