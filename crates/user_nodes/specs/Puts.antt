-- What `put` does: a client writes bytes to the mirrors of a file, and has them committed.
use Rattle.std.specs.Prelude.{⊤, ◌≡◌, ◌⊎◌, ℕ, ◌+◌, ◌-◌, ◌*◌, ◌/◌, ◌≤◌, false, ◌||◌, ◌&&◌, List, [], ◌∷◌, ◌++◌, length, map, take, drop, Option, Some, None, Result, Ok, Err}
use Rattle.std.specs.List.{list_any, range_with_len}
use Rattle.rpc_record.specs.declared.stream.Failed.{Failed}
use Rattle.rpc_record.specs.declared.stream.Failed.TheVariants as failed
use Rattle.rpc_record.specs.Stream.{one_more}
use Rattle.cluster_model.specs.declared.limits.TheConstants.{MAX_FILE, PIECE_SIZE}
use Rattle.cluster_model.specs.declared.answer.UserAnswer.{UserAnswer}
use Rattle.cluster_model.specs.declared.answer.FailCause.{FailCause}
use Rattle.node_config.specs.declared.config.Config.{Config}
use Rattle.node_link.specs.declared.link.Opening.{Opening}
use Rattle.node_link.specs.declared.link.Role.TheVariants as role
use Rattle.client_state.specs.declared.request.UserRequest.{UserRequest}
use Rattle.client_state.specs.declared.request.UserRequest.TheVariants.{Open, Write, Commit, Return}
use Rattle.client_state.specs.ClientStates.{ClientValue, fresh_client}
use Rattle.client_state.specs.ClientSends.{ClientStep}
use Rattle.ff_node.specs.declared.end.NodeEnd.{NodeEnd}
use Rattle.ff_node.specs.declared.end.NodeEnd.TheVariants as ends
use Rattle.ff_node.specs.Nodes.{NodeRule, NodeStep, SentRecords}
use Rattle.ff_node.specs.Serve.{Beside, OpensThen, NodeRuns}
use Rattle.user_nodes.specs.declared.put.Progress.{Progress}
use Rattle.user_nodes.specs.Users.{client_does, records_of, all_requested, HasAsked, says_opened, says_committed, says_returned, first_failure, first_of_two, answers_taken, done_or_failed, AsksClock}

-- ---- what is asked

-- A write of the piece with this index: PIECE_SIZE bytes, or what is left.
abbrev pub piece_written : List ℕ → ℕ → UserRequest
piece_written bytes i = Write (i * PIECE_SIZE) (take PIECE_SIZE (drop (i * PIECE_SIZE) bytes))

-- all bytes, in pieces from the beginning of the file on
abbrev pub writes_of : List ℕ → List UserRequest
writes_of bytes = map (piece_written bytes) (range_with_len 0 ((length bytes + (PIECE_SIZE - 1)) / PIECE_SIZE))

abbrev pub put_requests : List ℕ → List ℕ → List UserRequest
put_requests name bytes = Open name ∷ (writes_of bytes ++ Commit ∷ Return ∷ [])

-- Of a source so many bytes are read at most: the first piece behind the most that a file may have is the last one. Its write is refused, so
-- a longer source is no silent cut.
abbrev pub most_read : ℕ
most_read = MAX_FILE + PIECE_SIZE

-- these bytes were read, where a source tells its bytes
abbrev pub ReadsAll : Option (List ℕ) → List ℕ → Option (List ℕ) → Type 0
ReadsAll None bytes left = left ≡ None
ReadsAll (Some told) bytes left = (bytes ≡ take most_read told) × (left ≡ Some (drop most_read told))

-- What reading a piece did: it has the first of the bytes, as many as there are and it has room for, and those behind them are left. At
-- an error some that it has room for were taken.
abbrev pub ReadsPiece : Option (List ℕ) → List ℕ → Result ℕ Failed → Option (List ℕ) → Type 0
ReadsPiece None piece result left = left ≡ None
ReadsPiece (Some bytes) piece (Ok n) left = (take n piece ≡ take (length piece) bytes) × (left ≡ Some (drop (length piece) bytes))
ReadsPiece (Some bytes) piece (Err e) left = (n : ℕ) × (n ≤ length piece) × (left ≡ Some (drop n bytes))

-- a write of these from this place on; none, where there are no bytes
abbrev pub write_if_any : ℕ → List ℕ → List UserRequest
write_if_any at [] = []
write_if_any at (b ∷ bytes) = Write at (b ∷ bytes) ∷ []

-- What asking for the writes did: what was read is written, in pieces. At an error less was asked for.
abbrev pub AsksWrites : Option (List ℕ) → ClientValue → SentRecords → Result (Unit {0}) Failed → Option (List ℕ) → ClientValue → SentRecords → Type 0
AsksWrites unread c sends (Ok x) left c' sends' = (bytes : List ℕ) × ReadsAll unread bytes left × HasAsked (writes_of bytes) c sends c' sends'
AsksWrites unread c sends (Err e) left c' sends' = ⊤

-- The same of all of a put.
abbrev pub AsksPut : List ℕ → Option (List ℕ) → ClientValue → SentRecords → Result (Unit {0}) Failed → Option (List ℕ) → ClientValue → SentRecords → Type 0
AsksPut name unread c sends (Ok x) left c' sends' = (bytes : List ℕ) × ReadsAll unread bytes left × HasAsked (put_requests name bytes) c sends c' sends'
AsksPut name unread c sends (Err e) left c' sends' = ⊤

-- ---- its rule

-- no answer came yet
abbrev pub no_progress : Progress
no_progress = record { opened = false; committed = false; returned = false; failed = None }

-- with these too
abbrev pub with_answers : Progress → List UserAnswer → Progress
with_answers p answers = record {
  opened = p.opened || list_any says_opened answers;
  committed = p.committed || list_any says_committed answers;
  returned = p.returned || list_any says_returned answers;
  failed = first_of_two p.failed (first_failure answers);
}

-- It is done once the file was opened, all was committed and the layout was given back, and no request failed.
abbrev pub put_outcome : Progress → Option (Result (Unit {0}) FailCause)
put_outcome p = done_or_failed p.failed ((p.opened && p.committed) && p.returned)

-- the client, which answers came, and the last moment that the client was given, in seconds
pub record PutValue : Type 0 where
  pub client : ClientValue
  pub progress : Progress
  pub last : Option ℕ

-- the client of a step, whose answers are looked at and taken
abbrev pub put_after : ClientStep → Progress → Option ℕ → PutValue
put_after s p last = record { client = answers_taken s.client; progress = with_answers p s.client.answers; last = last }

abbrev pub put_does : ClientStep → Progress → ℕ → NodeStep PutValue
put_does s p moment = record { state = put_after s p (Some moment); sends = records_of s; text = [] }

abbrev pub put_rule : NodeRule PutValue
put_rule = record { step = λ p e. put_does (client_does p.last e p.client) p.progress e.moment; outcome = λ p. put_outcome p.progress; is_server = false; more_at_once = 0 }

-- all that is asked at the beginning, by a new client whose verifier is this moment and whose first call has the number 1; it is given no moment then
abbrev pub put_begins : ℕ → ℕ → List ℕ → List ℕ → ClientStep
put_begins own moment name bytes = all_requested (put_requests name bytes) (fresh_client own moment 1)

abbrev pub put_from : ClientStep → PutValue
put_from s = put_after s no_progress None

-- What beginning a put did: all was read, and asked of a new client.
abbrev pub BeginsPut : ℕ → ℕ → List ℕ → Option (List ℕ) → SentRecords → Result PutValue Failed → Option (List ℕ) → SentRecords → Type 0
BeginsPut own moment name unread sends (Ok p) left sends' =
    (bytes : List ℕ) × ReadsAll unread bytes left × (p ≡ put_from (put_begins own moment name bytes)) × (sends' ≡ sends ++ records_of (put_begins own moment name bytes))
BeginsPut own moment name unread sends (Err e) left sends' = ⊤

-- ---- what it did

-- how a source that failed ends a put, and want of memory
abbrev pub end_of_source : Failed → NodeEnd
end_of_source failed.Fault = ends.ReadFault
end_of_source failed.NoMemory = ends.NoMemory

-- the count of the source's faults: one more exactly at ReadFault
abbrev pub source_faults : NodeEnd → ℕ → ℕ
source_faults ends.ReadFault n = one_more n
source_faults end n = n

-- All was read and the link was opened, and a client served that was asked to put these bytes.
abbrev pub PutsBytes : Config → List ℕ → Option (List ℕ) → ℕ → Option Opening → Beside → NodeEnd → Option (List ℕ) → Option Opening → Beside → Type 0
PutsBytes config name unread moment opened b end unread' opened' b' =
    (bytes : List ℕ) × ReadsAll unread bytes unread'
    × OpensThen opened config role.Client b end opened' b'
    ((last : PutValue) × NodeRuns put_rule (records_of (put_begins config.own moment name bytes)) (put_from (put_begins config.own moment name bytes)) config.turns b end last b')

-- The source failed, or memory was wanted, before the link was opened.
abbrev pub PutsNothing : Option Opening → Beside → NodeEnd → Option Opening → Beside → Type 0
PutsNothing opened b end opened' b' = ((end ≡ ends.ReadFault) ⊎ (end ≡ ends.NoMemory)) × (opened' ≡ opened) × (b' ≡ b)

-- The clock was asked once; then all was put, or nothing.
abbrev pub PutsFile : Config → List ℕ → Option (List ℕ) → Option Opening → Beside → NodeEnd → Option (List ℕ) → Option Opening → Beside → Type 0
PutsFile config name unread opened b end unread' opened' b' =
    (moment : ℕ) × (begun : Beside) × AsksClock b moment begun
    × (PutsBytes config name unread moment opened begun end unread' opened' b' ⊎ PutsNothing opened begun end opened' b')
