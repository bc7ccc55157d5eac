-- Places in a list that are found by the numbers of calls.
use Rattle.std.specs.Prelude.{◌≡◌, ℕ, ◌<◌, Bool, true, List, length, Option, Some, slice_get, AllPairs}
use Rattle.std.specs.Ordering.{nat_cmp}
use Rattle.std.specs.Map.{lookup}
use Rattle.std.specs.BTreeMap.{is_at}
use Rattle.mds_rule.specs.MdsStates.{WaitingRead}
use Rattle.mds_rule.specs.Answers.{is_read_out}

pub record TicketsValue : Type 0 where
  -- each place has a ticket, and each number that was entered stands for its place
  pub is_whole : Bool
  -- of each place
  pub tickets : List ℕ
  -- numbers, each with the ticket of the place for which it was entered
  pub out : List (ℕ × ℕ)

-- the ticket at a number
abbrev pub ticket_of : ℕ → List (ℕ × ℕ) → Option ℕ
ticket_of xid out = lookup (is_at (nat_cmp xid)) out

-- the number stands for this place
abbrev pub FindsTicket : TicketsValue → ℕ → ℕ → Type 0
FindsTicket t xid place = (ticket : ℕ) × (ticket_of xid t.out ≡ Some ticket) × (slice_get t.tickets place ≡ Some ticket)

-- each number that stood for a place stands for it still
abbrev pub KeepsFound : TicketsValue → TicketsValue → Type 0
KeepsFound old new = (xid place : ℕ) → FindsTicket old xid place → FindsTicket new xid place

-- each ticket is above those before it
abbrev pub AreRisingNumbers : List ℕ → Type 0
AreRisingNumbers tickets = AllPairs (λ (a b : ℕ). a < b) tickets

-- ---- READs that are found so

-- each number under which one is out stands for its place
abbrev pub AreReadsFound : List WaitingRead → TicketsValue → Type 0
AreReadsFound reads t = (place xid : ℕ) (r : WaitingRead) → slice_get reads place ≡ Some r → is_read_out xid r ≡ true → FindsTicket t xid place

-- these are the tickets of these READs, as long as they are whole
abbrev pub AreTicketsOf : List WaitingRead → TicketsValue → Type 0
AreTicketsOf reads t = t.is_whole ≡ true → (length t.tickets ≡ length reads) × AreReadsFound reads t
