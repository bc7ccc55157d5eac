-- The packets that machines have sent, in order: which came, and which wait to come.
use Rattle.std.specs.Prelude.{ℕ, ◌+◌, ◌-◌, Bool, true, false, not, ◌==◌, ◌&&◌, List, [], ◌∷◌, ◌++◌, filter, position, Option, Some, None, option_map, if◌then◌else◌, slice_get, slice_set}
use Rattle.std.specs.List.{list_any}
use Rattle.cluster_model.specs.declared.ids.NodeId.{NodeId}
use Rattle.cluster_model.specs.Nodes.{is_node}
use Rattle.packet_table.specs.declared.note.PacketNote.{PacketNote}

-- all of them, by their numbers from 1, and the pairs of machines between which packets are held
pub record PacketsValue : Type 0 where
  pub notes : List PacketNote
  pub held : List (NodeId × NodeId)

abbrev pub no_packets : PacketsValue
no_packets = record { notes = []; held = [] }

-- ---- which one is meant

abbrev pub packet_numbered : PacketsValue → ℕ → Option PacketNote
packet_numbered p number = if number == 0 then None else slice_get p.notes (number - 1)

abbrev pub is_between : NodeId → NodeId → PacketNote → Bool
is_between from to note = is_node note.from from && is_node note.to to

-- the numbers of those from one machine to another, of packets that are numbered from this number on
abbrev pub numbers_between : NodeId → NodeId → ℕ → List PacketNote → List ℕ
numbers_between from to number [] = []
numbers_between from to number (note ∷ notes) =
    if is_between from to note then number ∷ numbers_between from to (number + 1) notes else numbers_between from to (number + 1) notes

-- the number of the nth of them, from 1
abbrev pub number_between : PacketsValue → NodeId → NodeId → ℕ → Option ℕ
number_between p from to n = if n == 0 then None else slice_get (numbers_between from to 1 p.notes) (n - 1)

-- ---- what waits

abbrev pub is_pair : NodeId → NodeId → NodeId × NodeId → Bool
is_pair from to pair = is_node pair.0 from && is_node pair.1 to

abbrev pub is_held : List (NodeId × NodeId) → NodeId → NodeId → Bool
is_held held from to = list_any (is_pair from to) held

-- it never came, and is not held
abbrev pub waits : List (NodeId × NodeId) → PacketNote → Bool
waits held note = not note.came && not (is_held held note.from note.to)

-- the number of the first that waits
abbrev pub next_waiting : PacketsValue → Option ℕ
next_waiting p = option_map (λ place. place + 1) (position (waits p.held) p.notes)

-- ---- what becomes of them

abbrev pub with_packet : NodeId → NodeId → ℕ → PacketsValue → PacketsValue
with_packet from to place p = record { notes = p.notes ++ record { from = from; to = to; place = place; came = false } ∷ []; held = p.held }

abbrev pub came_at : List PacketNote → ℕ → Option PacketNote → List PacketNote
came_at notes place None = notes
came_at notes place (Some note) = slice_set notes place (record { from = note.from; to = note.to; place = note.place; came = true })

-- the packet of this number came
abbrev pub after_coming : ℕ → PacketsValue → PacketsValue
after_coming number p = record { notes = came_at p.notes (number - 1) (packet_numbered p number); held = p.held }

abbrev pub after_hold : NodeId → NodeId → PacketsValue → PacketsValue
after_hold from to p = record { notes = p.notes; held = if is_held p.held from to then p.held else p.held ++ (from, to) ∷ [] }

abbrev pub after_pass : NodeId → NodeId → PacketsValue → PacketsValue
after_pass from to p = record { notes = p.notes; held = filter (λ pair. not (is_pair from to pair)) p.held }
