-- What clients have open: OPEN, CLOSE, and a client's end (RFC 8881, sections 8.2, 18.2 and 18.16).
use Rattle.std.specs.Prelude.{◌≡◌, ℕ, ◌+◌, Bool, not, ◌==◌, List, [], ◌∷◌, ◌++◌, length, filter, find, map, Option, Some, None, Result, Ok, Err, nat_lt, if◌then◌else◌, bytes_eq}
use Rattle.std.specs.Option.{option_map}
use Rattle.cluster_model.specs.declared.ids.FileId.{FileId}
use Rattle.nfs4_types.specs.declared.stateid.Stateid.{Stateid}
use Rattle.nfs4_types.specs.Stateids.{open_stateid_of}
use Rattle.open_state.specs.declared.open.TheConstants.{MAX_OPENS, LAST_NUMBER}
use Rattle.open_state.specs.declared.open.Open.{Open}
use Rattle.open_state.specs.declared.open.OpenFault.{OpenFault}
use Rattle.open_state.specs.declared.open.OpenFault.TheVariants.{TooMany, Spent, NoMemory}

-- the opens of each client that has opened a file and has not ended since, in the order in which the clients did so first, and the
-- last number that was given, 0 before any
pub record OpensValue : Type 0 where
  pub clients : List (ℕ × List Open)
  pub last : ℕ

abbrev pub opens_in : List (ℕ × List Open) → ℕ → List Open
opens_in [] client = []
opens_in (pair ∷ rest) client = if pair.0 == client then pair.1 else opens_in rest client

-- what a client has open, in the order in which it began
abbrev pub opens_of : OpensValue → ℕ → List Open
opens_of s client = opens_in s.clients client

abbrev pub is_of : FileId → Open → Bool
is_of file o = o.file.0 == file.0

abbrev pub is_other : FileId → Open → Bool
is_other file o = not (is_of file o)

-- a client's open of a file
abbrev pub open_of : OpensValue → ℕ → FileId → Option Open
open_of s client file = find (is_of file) (opens_of s client)

-- ---- one client's opens among those of all

-- in the place of those that it had, or behind all
abbrev pub put_opens : ℕ → List Open → List (ℕ × List Open) → List (ℕ × List Open)
put_opens client opens [] = (client, opens) ∷ []
put_opens client opens (pair ∷ rest) = if pair.0 == client then (client, opens) ∷ rest else pair ∷ put_opens client opens rest

-- in the place of those that it had; a client that has no place gets none
abbrev pub set_opens : ℕ → List Open → List (ℕ × List Open) → List (ℕ × List Open)
set_opens client opens [] = []
set_opens client opens (pair ∷ rest) = if pair.0 == client then (client, opens) ∷ rest else pair ∷ set_opens client opens rest

-- taken out; the others keep their order
abbrev pub without_opens : ℕ → List (ℕ × List Open) → List (ℕ × List Open)
without_opens client clients = filter (λ pair. not (pair.0 == client)) clients

-- ---- its stateid

-- 1 again behind the last (section 8.2.2)
abbrev pub next_seqid : ℕ → ℕ
next_seqid seqid = if seqid == LAST_NUMBER then 1 else seqid + 1

-- with the next seqid
abbrev pub again : Open → Open
again o = record { file = o.file; number = o.number; seqid = next_seqid o.seqid }

abbrev pub stateid_of : Open → Stateid
stateid_of o = record { seqid = o.seqid; other = (open_stateid_of o.file.0 o.number).other }

-- whatever its seqid is
abbrev pub is_named_by : Stateid → Open → Bool
is_named_by stateid o = bytes_eq stateid.other (open_stateid_of o.file.0 o.number).other

-- ---- OPEN

-- a file that the client has open is open once more as the same; else it needs room and a number
abbrev pub fault_at : Option Open → ℕ → ℕ → Option OpenFault
fault_at (Some o) count last = None
fault_at None count last = if nat_lt count MAX_OPENS then (if last == LAST_NUMBER then Some Spent else None) else Some TooMany

abbrev pub open_fault : OpensValue → ℕ → FileId → Option OpenFault
open_fault s client file = fault_at (open_of s client file) (length (opens_of s client)) s.last

abbrev pub given : Option Open → FileId → ℕ → Open
given (Some o) file last = again o
given None file last = record { file = file; number = last + 1; seqid = 1 }

abbrev pub in_place : Open → Open → Open
in_place o x = if is_of o.file x then o else x

abbrev pub opens_with : Option Open → Open → List Open → List Open
opens_with (Some was) o opens = map (in_place o) opens
opens_with None o opens = opens ++ o ∷ []

abbrev pub last_with : Option Open → ℕ → ℕ
last_with (Some was) last = last
last_with None last = last + 1

-- a client's open, where it has one, comes again in its place; else the file is behind the client's others
abbrev pub opened : OpensValue → ℕ → FileId → OpensValue
opened s client file = record {
  clients = put_opens client (opens_with (open_of s client file) (given (open_of s client file) file s.last) (opens_of s client)) s.clients;
  last = last_with (open_of s client file) s.last;
}

-- what an OPEN of this file by this client came to; a fault changes nothing
pub data Opens (old : OpensValue) (client : ℕ) (file : FileId) : Result Open OpenFault → OpensValue → Type 0 where
  Gives : open_fault old client file ≡ None → Opens old client file (Ok (given (open_of old client file) file old.last)) (opened old client file)
  Refuses : (fault : OpenFault) → open_fault old client file ≡ Some fault → Opens old client file (Err fault) old
  Wants : (e : Rattle.ff_xdr.specs.declared.NoMemory.NoMemory) → Opens old client file (Err (NoMemory e)) old

-- ---- CLOSE, and a client's end

-- a client that has closed its last file keeps its place
abbrev pub closed : OpensValue → ℕ → FileId → OpensValue
closed s client file = record { clients = set_opens client (filter (is_other file) (opens_of s client)) s.clients; last = s.last }

-- the open ends, and is given with its next seqid
pub record ClosesOpen (old : OpensValue) (client : ℕ) (file : FileId) (result : Option Open) (new : OpensValue) : Type 0 where
  pub told : result ≡ option_map again (open_of old client file)
  pub leaves : new ≡ closed old client file

abbrev pub ended : OpensValue → ℕ → OpensValue
ended s client = record { clients = without_opens client s.clients; last = s.last }
