-- How packets are found: the numbers of those from one machine to another, under one number for both machines.
use Rattle.std.specs.Prelude.{◌≡◌, ℕ, ◌+◌, ◌-◌, ◌*◌, ◌<◌, ◌≤◌, ◌^◌, ⊤, Bool, true, false, ◌==◌, List, [], ◌∷◌, ◌++◌, length, Option, Some, None, nat_eq, nat_lt, if◌then◌else◌, slice_get}
use Rattle.std.specs.List.{position_or_len}
use Rattle.std.specs.Map.{lookup}
use Rattle.cluster_model.specs.declared.ids.NodeId.{NodeId}
use Rattle.cluster_model.specs.declared.ids.NodeId.TheVariants.{Mds, Server, Client}
use Rattle.packet_table.specs.declared.note.PacketNote.{PacketNote}
use Rattle.packet_table.specs.Packets.{numbers_between, waits}

-- the numbers of the packets from one machine to another, and how many of the first of them are known to have come
pub record PairLine : Type 0 where
  pub numbers : List ℕ
  pub front : ℕ

-- ---- under which number a line is found

abbrev pub node_key : NodeId → ℕ
node_key Mds = 0
node_key (Server n) = 1 + n
node_key (Client n) = 4294967297 + n

abbrev pub pair_key : NodeId → NodeId → ℕ
pair_key from to = node_key from * 17179869184 + node_key to

-- a machine's number has four bytes
abbrev pub IsMachine : NodeId → Type 0
IsMachine Mds = ⊤
IsMachine (Server n) = n < 2 ^ 32
IsMachine (Client n) = n < 2 ^ 32

abbrev pub line_at : List (ℕ × PairLine) → ℕ → Option PairLine
line_at lines key = lookup (nat_eq key) lines

abbrev pub numbers_in : Option PairLine → List ℕ
numbers_in None = []
numbers_in (Some line) = line.numbers

abbrev pub front_in : Option PairLine → ℕ
front_in None = 0
front_in (Some line) = line.front

-- ---- what becomes of a line

-- one more number, in a new line where there is none
abbrev pub with_number : ℕ → Option PairLine → Option PairLine
with_number number line = Some (record { numbers = numbers_in line ++ number ∷ []; front = front_in line })

abbrev pub with_front : ℕ → Option PairLine → Option PairLine
with_front front None = None
with_front front (Some line) = Some (record { numbers = line.numbers; front = front })

-- the line under this key is changed, and no other
abbrev pub ChangesLine : ℕ → (Option PairLine → Option PairLine) → List (ℕ × PairLine) → List (ℕ × PairLine) → Type 0
ChangesLine key change old new = (other : ℕ) → line_at new other ≡ (if nat_eq key other then change (line_at old key) else line_at old other)

-- ---- what is true of them

-- as `packet_numbered`
abbrev pub numbered_in : List PacketNote → ℕ → Option PacketNote
numbered_in notes number = if number == 0 then None else slice_get notes (number - 1)

abbrev pub came_so : Option PacketNote → Bool
came_so None = false
came_so (Some note) = note.came

-- the packet of this number is there, and came
abbrev pub has_come : List PacketNote → ℕ → Bool
has_come notes number = came_so (numbered_in notes number)

-- these packets came, as far as the line's front
pub record IsKnown (notes : List PacketNote) (numbers : List ℕ) (front : ℕ) : Type 0 where
  pub within : front ≤ length numbers
  pub came : (place number : ℕ) → place < front → slice_get numbers place ≡ Some number → has_come notes number ≡ true

abbrev pub HasFront : List PacketNote → Option PairLine → Type 0
HasFront notes line = IsKnown notes (numbers_in line) (front_in line)

-- where a front has been moved on to: to the first that has not come, or behind all
pub record MovesFront (notes : List PacketNote) (numbers : List ℕ) (old new : ℕ) : Type 0 where
  pub known : IsKnown notes numbers new
  pub behind : old ≤ new
  pub stops : (number : ℕ) → slice_get numbers new ≡ Some number → has_come notes number ≡ false

-- each line has its packets, and its front; and none of the first so many packets waits, which are no more than there are
pub record AreFound (notes : List PacketNote) (held : List (NodeId × NodeId)) (lines : List (ℕ × PairLine)) (low : ℕ) : Type 0 where
  pub numbers : (from to : NodeId) → IsMachine from → IsMachine to → numbers_in (line_at lines (pair_key from to)) ≡ numbers_between from to 1 notes
  pub fronts : (key : ℕ) → HasFront notes (line_at lines key)
  pub quiet : low ≤ position_or_len (waits held) notes

-- not behind the packet of this number, if there is one
abbrev pub low_before : ℕ → Option ℕ → ℕ
low_before low None = low
low_before low (Some number) = if nat_lt (number - 1) low then number - 1 else low
