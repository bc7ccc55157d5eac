-- The requests of the queue, one after the other.
use Rattle.std.proofs.Common.{◌≡◌, List, [], ◌∷◌, ◌++◌, Option, Some, None, refl, sym, ap, ◌∙◌, subst, length, drop, arith, append-nil}
use Rattle.cluster_model.specs.declared.outbox.Outbox.{Outbox}
use Rattle.client_mds_calls.specs.declared.ask.MdsAsk.{MdsAsk}
use Rattle.client_state.specs.declared.request.UserRequest.{UserRequest}
use Rattle.client_state.specs.declared.head.JudgedHead.{JudgedHead}
use Rattle.client_state.specs.declared.head.JudgedHead.TheVariants as head
use Rattle.client_state.specs.ClientStates.{ClientValue, unmoved}
use Rattle.client_state.specs.ClientQueue.{HeadStep, IsDone, IsWaiting, Asks, QueueRun, head_step, with_rest, keeps_head, after_head, run_requests, run_queue}
use Rattle.client_state.specs.QueueSteps.{HasRun, HasJudged, HasRunQueue}

-- What is left to do comes to the whole, behind the entries that were made so far.
pub record GoesOn (whole : QueueRun) (old : Outbox) (c : ClientValue) (new : Outbox) : Type 0 where
  pub client : whole.run.client ≡ (run_queue c).run.client
  pub entries : new.entries.items ++ (run_queue c).run.entries ≡ old.entries.items ++ whole.run.entries
  pub wants : whole.wants ≡ (run_queue c).wants
  pub sends : new.sends.items ≡ old.sends.items

-- at the beginning
pub begins : (c : ClientValue) (out : Outbox) → GoesOn (run_queue c) out c out
begins c out = record { client = refl; entries = refl; wants = refl; sends = refl }

-- it ends: what is left makes the client become this, and no entries
ends_so : (whole : QueueRun) (old : Outbox) (c e : ClientValue) (mid new : Outbox) (wants : Option MdsAsk) → GoesOn whole old c mid → run_queue c ≡ record { run = unmoved e; wants = wants }
    → new.entries.items ≡ mid.entries.items → new.sends.items ≡ mid.sends.items → HasRunQueue whole old wants e new
ends_so whole old c e mid new wants on is entries sends = (
  sym (on.wants ∙ ap (λ (q : QueueRun). q.wants) is),
  record {
    client = sym (on.client ∙ ap (λ (q : QueueRun). q.run.client) is);
    entries = entries ∙ sym (append-nil mid.entries.items) ∙ ap (λ (q : QueueRun). mid.entries.items ++ q.run.entries) (sym is) ∙ on.entries;
    sends = sends ∙ on.sends;
  },
)

-- nothing is left
pub none_left : (whole : QueueRun) (old : Outbox) (c : ClientValue) (new : Outbox) → GoesOn whole old c new → c.queue ≡ [] → HasRunQueue whole old None c new
none_left whole old c new on empty = ends_so whole old c c new new None on (ap (λ q. run_requests q c) empty) refl refl

module _ (whole : QueueRun) (old mid : Outbox) (c : ClientValue) (request : UserRequest) (rest : List UserRequest) (on : GoesOn whole old c mid) (queue : c.queue ≡ request ∷ rest) where
  -- what the head came to
  run_is : (s : HeadStep) → head_step (with_rest c rest) c.file request ≡ s → run_queue c ≡ after_head request (with_rest c rest) s (run_requests rest)
  run_is s is = ap (λ q. run_requests q c) queue ∙ ap (λ x. after_head request (with_rest c rest) x (run_requests rest)) is

  -- the head waits
  stays_so : (e d : ClientValue) (new : Outbox) (wants : Option MdsAsk) → run_queue c ≡ record { run = unmoved (keeps_head request e); wants = wants } → HasRun (unmoved e) mid d new
      → HasRunQueue whole old wants (keeps_head request d) new
  stays_so e d new wants is has =
      subst (λ (x : ClientValue). HasRunQueue whole old wants (keeps_head request x) new) (sym has.client)
      (ends_so whole old c (keeps_head request e) mid new wants on is (has.entries ∙ append-nil mid.entries.items) has.sends)

  asked_kind : (a b : MdsAsk) → head.Asks a ≡ head.Asks b → a ≡ b
  asked_kind a b same = cc

  stays_asking : (kind : MdsAsk) (d : ClientValue) (new : Outbox) → HasJudged (head_step (with_rest c rest) c.file request) (with_rest c rest) mid (head.Asks kind) d new
      → HasRunQueue whole old (Some kind) (keeps_head request d) new
  stays_asking kind d new judged = by_step (head_step (with_rest c rest) c.file request) refl judged
    where
      by_step : (s : HeadStep) → head_step (with_rest c rest) c.file request ≡ s → HasJudged s (with_rest c rest) mid (head.Asks kind) d new
          → HasRunQueue whole old (Some kind) (keeps_head request d) new
      by_step (Asks wanted) is has = stays_so (with_rest c rest) d new (Some kind) (run_is (Asks wanted) is ∙ ap (λ k. record { run = unmoved (keeps_head request (with_rest c rest)); wants = Some k }) (sym (asked_kind kind wanted has.0))) has.1
      by_step (IsDone r) is has = absurd (cc (has.0))
      by_step (IsWaiting e) is has = absurd (cc (has.0))

-- ---- the same, as the code has it

empty_of : (xs ys : List UserRequest) → xs ≡ ys → ys ≡ drop 1 xs → xs ≡ []
empty_of [] ys same rest = refl
empty_of (x ∷ xs) ys same rest = let e : length (x ∷ xs) ≡ length xs = ap length (same ∙ rest) in absurd (omega (arith, e))

-- the queue was empty
pub none_there : (whole : QueueRun) (old : Outbox) (v c : ClientValue) (queue' : List UserRequest) (new : Outbox) → v ≡ c → v.queue ≡ queue' → queue' ≡ drop 1 v.queue → GoesOn whole old c new
    → HasRunQueue whole old None (record v { queue = queue' }) new
none_there whole old v c queue' new is same rest on =
    subst (λ q. HasRunQueue whole old None (record v { queue = q }) new) same
    (none_left whole old v new (subst (λ x. GoesOn whole old x new) (sym is) on) (empty_of v.queue queue' same rest))

-- the head waits for what it wants asked
pub turn_asks : (whole : QueueRun) (old mid : Outbox) (v c : ClientValue) (request : UserRequest) (rest : List UserRequest) (judged : JudgedHead) (d e : ClientValue) (kind : MdsAsk) (new : Outbox)
    → v ≡ c → v.queue ≡ request ∷ rest → HasJudged (head_step (with_rest v rest) v.file request) (with_rest v rest) mid judged d new → judged ≡ head.Asks kind → e ≡ keeps_head request d
    → GoesOn whole old c mid → HasRunQueue whole old (Some kind) e new
turn_asks whole old mid v c request rest judged d e kind new is queue has met pushed on =
    subst (λ (x : ClientValue). HasRunQueue whole old (Some kind) x new) (sym pushed)
    (stays_asking whole old mid v request rest (subst (λ x. GoesOn whole old x mid) (sym is) on) queue kind d new
    (subst (λ j. HasJudged (head_step (with_rest v rest) v.file request) (with_rest v rest) mid j d new) met has))
