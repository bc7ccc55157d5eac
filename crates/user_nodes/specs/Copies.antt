-- What a put writes and a get reads, told by bytes and answers.
use Rattle.std.specs.Prelude.{⊤, ◌≡◌, ℕ, ◌+◌, ◌≤◌, true, List, [], ◌∷◌, ◌++◌, length, map, Option}
use Rattle.std.specs.List.{Contains, flat_map}
use Rattle.cluster_model.specs.declared.limits.TheConstants.{PIECE_SIZE}
use Rattle.cluster_model.specs.declared.ids.FileId.{FileId}
use Rattle.cluster_model.specs.declared.answer.UserAnswer.{UserAnswer}
use Rattle.cluster_model.specs.declared.answer.UserAnswer.TheVariants.{Opened, Committed, Bytes, Returned, Failed}
use Rattle.cluster_model.specs.declared.answer.FailCause.{FailCause}
use Rattle.client_state.specs.declared.request.UserRequest.{UserRequest}
use Rattle.client_state.specs.declared.request.UserRequest.TheVariants.{Write}
use Rattle.client_state.specs.ClientSends.{ClientStep}
use Rattle.node_config.specs.declared.config.Config.{Config}
use Rattle.ff_node.specs.Nodes.{NodeEvent}
use Rattle.ff_node.specs.Serve.{Beside, TakesFront, behind}
use Rattle.user_nodes.specs.Users.{client_does}
use Rattle.user_nodes.specs.Puts.{PutValue, ReadsAll, put_begins, put_from, put_rule}
use Rattle.user_nodes.specs.Gets.{GetValue, answered_bytes, get_begins, get_from, get_rule}

-- ---- what a put writes

-- the bytes that requests write, one after the other
abbrev pub request_bytes : UserRequest → List ℕ
request_bytes (Write at bytes) = bytes
request_bytes request = []

abbrev pub bytes_written : List UserRequest → List ℕ
bytes_written requests = flat_map request_bytes requests

-- Each write is of 1 to PIECE_SIZE bytes, and goes where those before it ended: the first at this place.
abbrev pub WritesOn : ℕ → List UserRequest → Type 0
WritesOn at [] = ⊤
WritesOn at (Write place bytes ∷ requests) = (place ≡ at) × (1 ≤ length bytes) × (length bytes ≤ PIECE_SIZE) × WritesOn (at + length bytes) requests
WritesOn at (request ∷ requests) = WritesOn at requests

-- ---- what clients answer

-- the answers that the client of a put gives over events, one after the other; and all of them, with those that it gave when it was asked
abbrev pub put_answers : PutValue → List NodeEvent → List UserAnswer
put_answers p [] = []
put_answers p (e ∷ events) = (client_does p.last e p.client).client.answers ++ put_answers (put_rule.step p e).state events

abbrev pub all_put_answers : ClientStep → List NodeEvent → List UserAnswer
all_put_answers s events = s.client.answers ++ put_answers (put_from s) events

-- the answers that the client of a get gives over events
abbrev pub answers_over : GetValue → List NodeEvent → List UserAnswer
answers_over g [] = []
answers_over g (e ∷ events) = (client_does g.last e g.client).client.answers ++ answers_over (get_rule.step g e).state events

-- no answer says that a request was not done
abbrev pub NeverFailed : List UserAnswer → Type 0
NeverFailed answers = (cause : FailCause) → ¬ Contains answers (Failed cause)

-- No request of a put failed, and the file was opened, all was committed and the layout was given back.
pub record IsPut (answers : List UserAnswer) : Type 0 where
  pub never_failed : NeverFailed answers
  pub opened : (file : FileId) × Contains answers (Opened file)
  pub committed : (writes : ℕ) × Contains answers (Committed writes)
  pub returned : Contains answers Returned

-- No request of a get failed, and the file's end was read.
pub record IsGot (answers : List UserAnswer) : Type 0 where
  pub never_failed : NeverFailed answers
  pub ended : (bytes : List ℕ) × Contains answers (Bytes true bytes)

-- ---- what ended well

-- A put: these are the bytes that were read, and over the events that came its client answered as for a put that is done.
pub record PutWell (config : Config) (name : List ℕ) (unread : Option (List ℕ)) (b : Beside) (left : Option (List ℕ)) (b' : Beside) : Type 0 where
  pub bytes : List ℕ
  pub read : ReadsAll unread bytes left
  pub moment : ℕ
  pub events : List NodeEvent
  pub came : TakesFront b.coming (map (λ (e : NodeEvent). e.arrival) events) b'.coming
  pub answered : IsPut (all_put_answers (put_begins config.own moment name bytes) events)

-- A get: over the events that came its client answered as for a get that is done, and the sink got the bytes of its answers.
pub record GotWell (config : Config) (name : List ℕ) (b b' : Beside) : Type 0 where
  pub moment : ℕ
  pub events : List NodeEvent
  pub came : TakesFront b.coming (map (λ (e : NodeEvent). e.arrival) events) b'.coming
  pub answered : IsGot (answers_over (get_from (get_begins config.own moment name)) events)
  pub written : b'.held ≡ behind b.held (answered_bytes (answers_over (get_from (get_begins config.own moment name)) events))
