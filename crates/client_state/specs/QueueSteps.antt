-- What the functions of a client do: the values of the rule, in place of what a client has and puts out.
use Rattle.std.specs.Prelude.{◌≡◌, ℕ, true, false, List, [], ◌∷◌, ◌++◌, length, map, Option, Some, None}
use Rattle.cluster_model.specs.declared.outbox.Outbox.{Outbox}
use Rattle.mirror_writer.specs.declared.step.WriteStart.{WriteStart}
use Rattle.mirror_writer.specs.declared.step.WriteStart.TheVariants.{Taken, Overlap, NoMemory}
use Rattle.mirror_writer.specs.Writers.{overlaps_taken, with_write}
use Rattle.client_file_calls.specs.declared.open.OpenFile.{OpenFile}
use Rattle.client_mds_calls.specs.declared.ask.MdsAsk.{MdsAsk}
use Rattle.client_state.specs.declared.layout.Layout.{Layout}
use Rattle.client_state.specs.declared.head.JudgedHead.{JudgedHead}
use Rattle.client_state.specs.declared.head.JudgedHead.TheVariants as head
use Rattle.client_state.specs.ClientStates.{ClientValue, ClientRun, unmoved}
use Rattle.client_state.specs.ClientQueue.{HeadStep, IsDone, IsWaiting, Asks, write_under, QueueRun}
use Rattle.client_state.specs.ClientSends.{ClientStep, spelled_send}

-- it is in the state of a run now, with the run's entries behind those that were there
pub record HasRun (r : ClientRun) (old : Outbox) (c : ClientValue) (new : Outbox) : Type 0 where
  pub client : c ≡ r.client
  pub entries : new.entries.items ≡ old.entries.items ++ r.entries
  pub sends : new.sends.items ≡ old.sends.items

-- it is in the state of a step now, with the entries and the records of the step behind those that were there
pub record HasStepped (s : ClientStep) (old : Outbox) (c : ClientValue) (new : Outbox) : Type 0 where
  pub client : c ≡ s.client
  pub entries : new.entries.items ≡ old.entries.items ++ s.entries
  pub sends : new.sends.items ≡ old.sends.items ++ map spelled_send s.sends

-- what the request at the head came to; the client was this before
abbrev pub HasJudged : HeadStep → ClientValue → Outbox → JudgedHead → ClientValue → Outbox → Type 0
HasJudged (IsDone r) was old judged c new = (judged ≡ head.Done) × HasRun r old c new
HasJudged (IsWaiting d) was old judged c new = (judged ≡ head.Waits) × HasRun (unmoved d) old c new
HasJudged (Asks kind) was old judged c new = (judged ≡ head.Asks kind) × HasRun (unmoved was) old c new

-- a write under the layout, if there is one
abbrev pub writes_under : ClientValue → OpenFile → Option Layout → ℕ → List ℕ → HeadStep
writes_under c file None at bytes = IsWaiting c
writes_under c file (Some l) at bytes = write_under c file l at bytes

-- what the queue came to, and what its head wants
abbrev pub HasRunQueue : QueueRun → Outbox → Option MdsAsk → ClientValue → Outbox → Type 0
HasRunQueue q old wants c new = (wants ≡ q.wants) × HasRun q.run old c new

-- a write that is taken under a layout is to be told
abbrev pub TakesUnder : Layout → ℕ → List ℕ → WriteStart → Layout → Type 0
TakesUnder old at bytes Taken new =
    (overlaps_taken old.writer at (length bytes) ≡ false)
    × (new ≡ record old { writer = with_write old.writer at bytes; untold = old.untold ++ length old.writer.taken ∷ [] })
TakesUnder old at bytes Overlap new = (overlaps_taken old.writer at (length bytes) ≡ true) × (new ≡ old)
TakesUnder old at bytes NoMemory new = Unit {0}

abbrev pub with_layout_at : ClientValue → Option Layout → ClientValue
with_layout_at c layout = record c { layout = layout }
