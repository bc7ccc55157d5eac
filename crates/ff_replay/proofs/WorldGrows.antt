-- The journal of a cluster only grows, and by the delivery of a packet that waits it does grow.
use Rattle.std.proofs.Common.{◌≡◌, ℕ, ◌+◌, ◌≤◌, List, [], ◌∷◌, ◌++◌, length, drop, Option, Some, None, refl, sym, ap, ◌∙◌, arith}
use Rattle.std.proofs.lemmas.List.{append_assoc, append-nil, length-append, drop_at}
use Rattle.std.specs.List.{range_with_len}
use Rattle.cluster_model.specs.declared.entry.Entry.{Entry}
use Rattle.cluster_model.specs.declared.entry.Entry.TheVariants as entry
use Rattle.cluster_model.specs.Event.{EventValue, Deliver, DeliverPacket, DeliverBetween, Flow, Hold, Pass, Timeout, Tick, Open, Write, Through, Fill, Commit, Read, Return, Rogue, Stray, Reboot, Recall, Resilver, Audit, Restart}
use Rattle.packet_table.specs.declared.note.PacketNote.{PacketNote}
use Rattle.packet_table.specs.Packets.{packet_numbered, number_between}
use Rattle.world_rule.specs.ClusterWorlds.{ClusterState, entering, packets, packet_comes, delivering, delivering_some, client_ticks, clients_tick, mds_ticks, ticking, behind}
use Rattle.world_rule.specs.ClusterRuns.{entries_added}

-- entries were added behind the others
abbrev pub Grows : ClusterState → ClusterState → Type 0
Grows old new = (more : List Entry) × (new.journal ≡ old.journal ++ more)

grows_not : (w : ClusterState) → Grows w w
grows_not w = ([], sym (append-nil w.journal))

grows_then : (a b c : ClusterState) → Grows a b → Grows b c → Grows a c
grows_then a b c first next = (first.0 ++ next.0, next.1 ∙ ap (λ j. j ++ next.0) first.1 ∙ append_assoc a.journal first.0 next.0)

grows_in : (entries : List Entry) (w : ClusterState) → Grows w (entering entries w)
grows_in entries w = (entries, refl)

grows_packet : (number : ℕ) (o : Option PacketNote) (w : ClusterState) → Grows w (packet_comes number o w)
grows_packet number None w = grows_not w
grows_packet number (Some note) w = grows_then w (entering (entry.Delivered number ∷ []) w) (packet_comes number (Some note) w) (grows_in (entry.Delivered number ∷ []) w) (_, refl)

grows_delivery : (number : ℕ) (w : ClusterState) → Grows w (delivering number w)
grows_delivery number w = grows_packet number (packet_numbered (packets w) number) w

grows_between : (o : Option ℕ) (w : ClusterState) → Grows w (delivering_some o w)
grows_between None w = grows_not w
grows_between (Some number) w = grows_delivery number w

grows_clients : (ns : List ℕ) (w : ClusterState) → Grows w (clients_tick ns w)
grows_clients [] w = grows_not w
grows_clients (n ∷ ns) w = grows_then w (client_ticks n w) (clients_tick ns (client_ticks n w)) (_, refl) (grows_clients ns (client_ticks n w))

grows_tick : (seconds : ℕ) (w : ClusterState) → Grows w (ticking seconds w)
grows_tick seconds w =
    let later : ClusterState = record (entering (entry.Tick seconds ∷ []) w) { now = w.now + seconds } in
    let ticked : ClusterState = clients_tick (range_with_len 1 (length w.machines.clients)) later in
    grows_then w later (mds_ticks ticked) (entry.Tick seconds ∷ [], refl)
    (grows_then later ticked (mds_ticks ticked) (grows_clients (range_with_len 1 (length w.machines.clients)) later) (_, refl))

-- any event adds entries behind the others
pub grows : (event : EventValue) (w : ClusterState) → Grows w (behind event w)
grows (Deliver bytes) w = grows_not w
grows (DeliverPacket number) w = grows_delivery number w
grows (DeliverBetween from to n) w = grows_between (number_between (packets w) from to n) w
grows Flow w = grows_not w
grows (Hold from to) w = (entry.Hold from to ∷ [], refl)
grows (Pass from to) w = (entry.Pass from to ∷ [], refl)
grows (Timeout node to) w = (_, refl)
grows (Tick seconds) w = grows_tick seconds w
grows (Open client name) w = (_, refl)
grows (Write client at bytes) w = (_, refl)
grows (Through client at bytes) w = (_, refl)
grows (Fill client at count byte) w = (_, refl)
grows (Commit client) w = (_, refl)
grows (Read client at count) w = (_, refl)
grows (Return client) w = (_, refl)
grows (Rogue client) w = (_, refl)
grows (Stray client place at bytes) w = (_, refl)
grows (Reboot client) w = (_, refl)
grows (Recall file) w = (_, refl)
grows (Resilver file) w = (_, refl)
grows (Audit file) w = (_, refl)
grows (Restart server pieces) w = (_, refl)

-- those that were added, as a cut of the journal
pub journaled : (old new : ClusterState) → Grows old new → new.journal ≡ old.journal ++ entries_added old new
journaled old new more =
    let rest : entries_added old new ≡ more.0 = ap (drop (length old.journal)) more.1 ∙ drop_at old.journal more.0 (length old.journal) refl in
    more.1 ∙ ap (λ added. old.journal ++ added) (sym rest)

-- ---- how many there are

-- the journal is not shorter
pub longer : (old new : ClusterState) → Grows old new → length old.journal ≤ length new.journal
longer old new more = omega (arith, ap length more.1, length-append old.journal more.0)

-- a packet that is there makes an entry at least
pub comes_more : (number : ℕ) (note : PacketNote) (w : ClusterState) → length w.journal + 1 ≤ length (packet_comes number (Some note) w).journal
comes_more number note w =
    let came : ClusterState = entering (entry.Delivered number ∷ []) w in
    let rest : Grows came (packet_comes number (Some note) w) = (_, refl) in
    omega (arith, length-append w.journal (entry.Delivered number ∷ []), longer came (packet_comes number (Some note) w) rest)
