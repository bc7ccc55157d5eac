-- What `get` does: a client reads a file through the metadata server, and its bytes are written to a sink.
use Rattle.std.specs.Prelude.{ℕ, ◌+◌, ◌-◌, ◌^◌, min, Bool, true, false, ◌||◌, ◌&&◌, List, [], ◌∷◌, ◌++◌, length, flat_map, Option, Some, None, Result}
use Rattle.std.specs.List.{list_any}
use Rattle.cluster_model.specs.declared.limits.TheConstants.{PIECE_SIZE}
use Rattle.cluster_model.specs.declared.answer.UserAnswer.{UserAnswer}
use Rattle.cluster_model.specs.declared.answer.UserAnswer.TheVariants.{Bytes}
use Rattle.cluster_model.specs.declared.answer.FailCause.{FailCause}
use Rattle.node_config.specs.declared.config.Config.{Config}
use Rattle.node_link.specs.declared.link.Opening.{Opening}
use Rattle.node_link.specs.declared.link.Role.TheVariants as role
use Rattle.client_state.specs.declared.request.UserRequest.TheVariants.{Open, Read}
use Rattle.client_state.specs.ClientStates.{ClientValue, fresh_client}
use Rattle.client_state.specs.ClientSends.{ClientStep, sends_none}
use Rattle.mirror_client.specs.ClientRule.{client_requested}
use Rattle.ff_node.specs.declared.end.NodeEnd.{NodeEnd}
use Rattle.ff_node.specs.Nodes.{NodeRule, NodeStep}
use Rattle.ff_node.specs.Serve.{Beside, OpensThen, NodeRuns}
use Rattle.user_nodes.specs.declared.get.Seen.{Seen}
use Rattle.user_nodes.specs.Users.{client_does, records_of, all_requested, first_failure, first_of_two, answers_taken, done_or_failed, AsksClock}

-- ---- its answers

-- the bytes that were read
abbrev pub answer_bytes : UserAnswer → List ℕ
answer_bytes (Bytes eof bytes) = bytes
answer_bytes answer = []

-- the bytes of all answers, one after the other
abbrev pub answered_bytes : List UserAnswer → List ℕ
answered_bytes answers = flat_map answer_bytes answers

abbrev pub says_bytes : UserAnswer → Bool
says_bytes (Bytes eof bytes) = true
says_bytes answer = false

-- the file ends behind them
abbrev pub says_end : UserAnswer → Bool
says_end (Bytes eof bytes) = eof
says_end answer = false

-- ---- what the answers of a step say

-- no answer came yet
abbrev pub saw_none : Seen
saw_none = record { has_bytes = false; has_end = false; failed = None }

-- with these too
abbrev pub saw_more : Seen → List UserAnswer → Seen
saw_more s answers = record {
  has_bytes = s.has_bytes || list_any says_bytes answers;
  has_end = s.has_end || list_any says_end answers;
  failed = first_of_two s.failed (first_failure answers);
}

-- a request failed, or the file's end was read
abbrev pub seen_outcome : Seen → Option (Result (Unit {0}) FailCause)
seen_outcome s = done_or_failed s.failed s.has_end

-- it has come to no end yet
abbrev pub is_unended : Option (Result (Unit {0}) FailCause) → Bool
is_unended None = true
is_unended (Some r) = false

-- bytes came, and nothing ended the get
abbrev pub goes_on_after : Seen → Bool
goes_on_after s = s.has_bytes && is_unended (seen_outcome s)

-- ---- its rule

-- the client, how many bytes it has answered so far, what it came to, and the last moment that it was given, in seconds
pub record GetValue : Type 0 where
  pub client : ClientValue
  pub size : ℕ
  pub outcome : Option (Result (Unit {0}) FailCause)
  pub last : Option ℕ

-- a request failed, or the file's end was read
abbrev pub get_outcome : List UserAnswer → Option (Result (Unit {0}) FailCause)
get_outcome answers = done_or_failed (first_failure answers) (list_any says_end answers)

-- the first of two
abbrev pub first_outcome : Option (Result (Unit {0}) FailCause) → Option (Result (Unit {0}) FailCause) → Option (Result (Unit {0}) FailCause)
first_outcome (Some r) other = Some r
first_outcome None other = other

-- where bytes came and it has not come to an end, the next are read: PIECE_SIZE from the end of those that came so far
abbrev pub reads_next : ℕ → Bool → ClientValue → ClientStep
reads_next size true c = client_requested (Read size PIECE_SIZE) c
reads_next size false c = sends_none c

-- the same, by the answers of a step
abbrev pub goes_on_reading : List UserAnswer → Bool
goes_on_reading answers = list_any says_bytes answers && is_unended (get_outcome answers)

-- the count stands still at the end of a u64
abbrev pub size_behind : ℕ → List UserAnswer → ℕ
size_behind size answers = min (size + length (answered_bytes answers)) (2 ^ 64 - 1)

-- a step of the client, whose answers are looked at and taken, and then the next read
abbrev pub get_does : ClientStep → ℕ → Option (Result (Unit {0}) FailCause) → ℕ → NodeStep GetValue
get_does s size outcome moment =
    let answers = s.client.answers in
    let next = reads_next (size_behind size answers) (goes_on_reading answers) (answers_taken s.client) in
    record {
      state = record { client = next.client; size = size_behind size answers; outcome = first_outcome outcome (get_outcome answers); last = Some moment };
      sends = records_of s ++ records_of next;
      text = answered_bytes answers;
    }

abbrev pub get_rule : NodeRule GetValue
get_rule = record { step = λ g e. get_does (client_does g.last e g.client) g.size g.outcome e.moment; outcome = λ g. g.outcome; is_server = false; more_at_once = 0 }

-- at the beginning, by a new client whose verifier is this moment and whose first call has the number 1, the file is opened and read
abbrev pub get_begins : ℕ → ℕ → List ℕ → ClientStep
get_begins own moment name = all_requested (Open name ∷ Read 0 PIECE_SIZE ∷ []) (fresh_client own moment 1)

abbrev pub get_from : ClientStep → GetValue
get_from s = record { client = s.client; size = 0; outcome = None; last = None }

-- ---- what it did

-- The link was opened, and a client served that was asked to get the file; or, for want of memory, at most the clock was asked.
abbrev pub GetsFile : Config → List ℕ → Option Opening → Beside → NodeEnd → Option Opening → Beside → Type 0
GetsFile config name opened b end opened' b' =
    (moment : ℕ) × (begun : Beside) × AsksClock b moment begun
    × (OpensThen opened config role.Client begun end opened' b'
    ((last : GetValue) × NodeRuns get_rule (records_of (get_begins config.own moment name)) (get_from (get_begins config.own moment name)) config.turns begun end last b'))
