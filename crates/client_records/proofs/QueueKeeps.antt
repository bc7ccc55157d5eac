-- What the queue keeps.
use Rattle.std.proofs.Common.{◌≡◌, ℕ, Bool, true, false, List, [], ◌∷◌, ◌++◌, length, Option, Some, None, refl, sym, subst}
use Rattle.std.specs.Prelude.{◌==◌, if◌then◌else◌}
use Rattle.client_state.specs.declared.head.TheConstants.{FBIG, INVAL, NOFILEHANDLE}
use Rattle.cluster_model.specs.declared.answer.UserAnswer.{UserAnswer}
use Rattle.cluster_model.specs.declared.answer.UserAnswer.TheVariants as answer
use Rattle.cluster_model.specs.declared.answer.FailCause.TheVariants as failing
use Rattle.cluster_model.specs.declared.entry.Entry.TheVariants.{Answer}
use Rattle.mirror_writer.specs.Writers.{overlaps_taken, commit_wanted}
use Rattle.client_file_calls.specs.declared.open.OpenFile.{OpenFile}
use Rattle.client_mds_calls.specs.declared.ask.MdsAsk.{MdsAsk}
use Rattle.client_mds_calls.specs.declared.ask.MdsAsk.TheVariants as ask
use Rattle.client_state.specs.declared.stage.LayoutStage.{LayoutStage}
use Rattle.client_state.specs.declared.stage.LayoutStage.TheVariants.{Writing, Ending, Deferred, Returning}
use Rattle.client_state.specs.declared.request.UserRequest.{UserRequest}
use Rattle.client_state.specs.declared.request.UserRequest.TheVariants.{Open, Write, Through, Commit, Read, Return}
use Rattle.client_state.specs.declared.layout.Layout.{Layout}
use Rattle.client_state.specs.declared.tie.Tie.{Tie}
use Rattle.client_state.specs.declared.tie.Tie.TheVariants.{NoClient, HasClient, HasSession}
use Rattle.client_state.specs.ClientStates.{ClientValue}
use Rattle.client_state.specs.ClientQueue.{HeadStep, IsDone, IsWaiting, Asks, refuses_request, answers_user, answers_committed, with_layout, with_writer, ending, is_writing, unknown_servers, is_past, taken_write, write_under, write_to, write_by, behind_return, is_all_told, layout_committing, on_open_file, opens_by, head_step, QueueRun, keeps_head, awake, after_head, with_rest, run_requests, run_queue}
use Rattle.client_laws.specs.ClientHistory.{ClientInput, HistoryItem, entered}
use Rattle.client_records.proofs.Joins.{RunKeeps, run_unmoved, run_follows}
use Rattle.client_records.proofs.Cases.{IsCounted, Wants, MayBeDone, Cases}

-- within an event of a client that has not left the protocol
abbrev pub Stays : (List HistoryItem → ClientValue → Type 0) → List HistoryItem → ClientValue → Type 0
Stays I past c = I past c × (c.has_left ≡ false)

-- what the head comes to, of a client with this queue
abbrev HeadKeeps : (List HistoryItem → ClientValue → Type 0) → (List HistoryItem → HistoryItem → Type 0) → List HistoryItem → ClientValue → UserRequest → List UserRequest → HeadStep → Type 0
HeadKeeps I P past c request rest (IsDone r) = RunKeeps (Stays I) P past (awake r) × (r.client.queue ≡ rest)
HeadKeeps I P past c request rest (IsWaiting d) = Stays I past (keeps_head request d)
HeadKeeps I P past c request rest (Asks kind) = Wants c.file (request ∷ rest) c.layout c.tie c.devices kind

-- what the head of the queue wants, where it wants something
abbrev pub WantsSome : ClientValue → Option MdsAsk → Type 0
WantsSome c None = Unit {0}
WantsSome c (Some kind) = Wants c.file c.queue c.layout c.tie c.devices kind

pub record QueueKeeps (I : List HistoryItem → ClientValue → Type 0) (P : List HistoryItem → HistoryItem → Type 0) (past : List HistoryItem) (q : QueueRun) : Type 0 where
  pub run : RunKeeps (Stays I) P past q.run
  pub wants : WantsSome q.run.client q.wants

is_stage : (stage : LayoutStage) → is_writing stage ≡ true → stage ≡ Writing
is_stage Writing is = refl
is_stage Ending is = absurd cc
is_stage Deferred is = absurd cc
is_stage Returning is = absurd cc

module _ (B : List HistoryItem → ClientValue → Type 0) (Q : ClientInput → Type 0) (I : List HistoryItem → ClientValue → Type 0) (P : List HistoryItem → HistoryItem → Type 0) (k : Cases B Q I P) where
  pub answer_keeps : (past : List HistoryItem) (c : ClientValue) (a : UserAnswer) (answers : List UserAnswer) (told : ℕ) → Stays I past c
      → RunKeeps (Stays I) P past (record { client = record c { answers = answers; told = told }; entries = Answer c.number a ∷ [] })
  answer_keeps past c a answers told i =
      let g = k.answers past c a answers told i.0 in
      record { entries = (g.0, tt); keeps = (g.1, i.1) }

  module _ (past : List HistoryItem) (c : ClientValue) (request : UserRequest) (rest : List UserRequest) (at : c.queue ≡ request ∷ rest) (i : Stays I past c) where
    -- the head is done, and the user gets this
    done_keeps : MayBeDone c.file request → (a : UserAnswer) (answers : List UserAnswer) (told : ℕ)
        → RunKeeps (Stays I) P past (record { client = record c { queue = rest; waits = false; answers = answers; told = told }; entries = Answer c.number a ∷ [] })
    done_keeps may a answers told = answer_keeps past (record c { queue = rest; waits = false }) a answers told (k.done past c request rest at may i.0, i.1)

    refuses_keeps : MayBeDone c.file request → (status : ℕ) → HeadKeeps I P past c request rest (IsDone (refuses_request status (with_rest c rest)))
    refuses_keeps may status = (done_keeps may (answer.Failed (failing.Refused status)) (c.answers ++ answer.Failed (failing.Refused status) ∷ []) c.told, refl)

    waits_keeps : HeadKeeps I P past c request rest (IsWaiting (with_rest c rest))
    waits_keeps = subst (λ (queue : List UserRequest). Stays I past (record c { queue = queue })) at i

    ends_keeps : (l : Layout) → c.layout ≡ Some l → HeadKeeps I P past c request rest (IsWaiting (with_layout (with_rest c rest) (ending l)))
    ends_keeps l there = subst (λ (queue : List UserRequest). Stays I past (record c { layout = Some (ending l); queue = queue })) at (k.ends past c l there i.0, i.1)

    return_keeps : (layout : Option Layout) (step : HeadStep) → c.layout ≡ layout → HeadKeeps I P past c request rest step → HeadKeeps I P past c request rest (behind_return step (with_rest c rest) layout)
    return_keeps None step there keeps = keeps
    return_keeps (Some l) step there keeps = ends_keeps l there

    commits_keep : (layout : Option Layout) → c.layout ≡ layout → Stays I past (keeps_head request (layout_committing (with_rest c rest) layout))
    commits_keep None there = waits_keeps
    commits_keep (Some l) there = subst (λ (queue : List UserRequest). Stays I past (record c { layout = Some (with_writer l (commit_wanted l.writer)); queue = queue })) at (k.commits past c l there i.0, i.1)

    by_test : (b : Bool) (x y : HeadStep) → (b ≡ true → HeadKeeps I P past c request rest x) → (b ≡ false → HeadKeeps I P past c request rest y) → HeadKeeps I P past c request rest (if b then x else y)
    by_test true x y first second = first refl
    by_test false x y first second = second refl

  -- a write
  write_keeps : (past : List HistoryItem) (c : ClientValue) (file : OpenFile) (at : ℕ) (bytes : List ℕ) (rest : List UserRequest) → c.queue ≡ Write at bytes ∷ rest → Stays I past c → c.file ≡ Some file → is_past at bytes ≡ false
      → (layout : Option Layout) → c.layout ≡ layout → HeadKeeps I P past c (Write at bytes) rest (write_by (with_rest c rest) file layout at bytes)
  write_keeps past c file at bytes rest queue i file_is within None there = there
  write_keeps past c file at bytes rest queue i file_is within (Some l) there =
      let c' : ClientValue = with_rest c rest in
      by_test past c (Write at bytes) rest queue i (is_writing l.stage) (write_to c' file l at bytes (length (unknown_servers c' l))) (IsWaiting c')
      (λ writing.
      by_test past c (Write at bytes) rest queue i (length (unknown_servers c' l) == 0) (write_under c' file l at bytes) (Asks (ask.DeviceInfo (length (unknown_servers c' l))))
      (λ known.
      by_test past c (Write at bytes) rest queue i (overlaps_taken l.writer at (length bytes)) (IsWaiting (with_layout c' (ending l))) (IsDone (taken_write c' file l at bytes))
      (λ over. ends_keeps past c (Write at bytes) rest queue i l there) (λ clear. taken (is_stage l.stage writing) clear))
      (λ unknown. subst (IsCounted c.devices (length (unknown_servers c l))) (sym there) refl))
      (λ returning. waits_keeps past c (Write at bytes) rest queue i)
    where
      taken : l.stage ≡ Writing → overlaps_taken l.writer at (length bytes) ≡ false → HeadKeeps I P past c (Write at bytes) rest (IsDone (taken_write (with_rest c rest) file l at bytes))
      taken stage clear =
          let g = k.takes past c file l at bytes rest (record { stays = i.1; queue = queue; file_is = file_is; layout = there; stage = stage; within = within; free = clear }) i.0 in
          (record { entries = (g.0, tt); keeps = (g.1, i.1) }, refl)

  -- a request for an open file
  file_keeps : (past : List HistoryItem) (c : ClientValue) (file : OpenFile) (request : UserRequest) (rest : List UserRequest) → c.queue ≡ request ∷ rest → Stays I past c → c.file ≡ Some file
      → HeadKeeps I P past c request rest (on_open_file (with_rest c rest) file request)
  file_keeps past c file (Open name) rest at i there = refuses_keeps past c (Open name) rest at i (subst (λ (o : Option OpenFile). MayBeDone o (Open name)) (sym there) tt) INVAL
  file_keeps past c file (Write place bytes) rest at i there =
      by_test past c (Write place bytes) rest at i (is_past place bytes) (IsDone (refuses_request FBIG (with_rest c rest))) (write_by (with_rest c rest) file c.layout place bytes)
      (λ over. refuses_keeps past c (Write place bytes) rest at i (subst (λ (o : Option OpenFile). MayBeDone o (Write place bytes)) (sym there) tt) FBIG)
      (λ within. write_keeps past c file place bytes rest at i there within c.layout refl)
  file_keeps past c file (Through place bytes) rest at i there =
      by_test past c (Through place bytes) rest at i (is_past place bytes) (IsDone (refuses_request FBIG (with_rest c rest))) (behind_return (Asks ask.Write) (with_rest c rest) c.layout)
      (λ over. refuses_keeps past c (Through place bytes) rest at i (subst (λ (o : Option OpenFile). MayBeDone o (Through place bytes)) (sym there) over) FBIG)
      (λ within. return_keeps past c (Through place bytes) rest at i c.layout (Asks ask.Write) refl (subst (λ (o : Option OpenFile). Wants o (Through place bytes ∷ rest) c.layout c.tie c.devices ask.Write) (sym there) within))
  file_keeps past c file Commit rest at i there =
      by_test past c Commit rest at i (is_all_told c.layout) (IsDone (answers_committed (with_rest c rest))) (IsWaiting (layout_committing (with_rest c rest) c.layout))
      (λ told. (done_keeps past c Commit rest at i (subst (λ (o : Option OpenFile). MayBeDone o Commit) (sym there) tt) (answer.Committed c.told) (c.answers ++ answer.Committed c.told ∷ []) 0, refl))
      (λ untold. commits_keep past c Commit rest at i c.layout refl)
  file_keeps past c file (Read place count) rest at i there = (rest, refl)
  file_keeps past c file Return rest at i there =
      return_keeps past c Return rest at i c.layout (IsDone (answers_user answer.Returned (with_rest c rest))) refl
      (done_keeps past c Return rest at i (subst (λ (o : Option OpenFile). MayBeDone o Return) (sym there) tt) answer.Returned (c.answers ++ answer.Returned ∷ []) c.told, refl)

  opens_keep : (past : List HistoryItem) (c : ClientValue) (name : List ℕ) (rest : List UserRequest) → c.file ≡ None → (tie : Tie) → c.tie ≡ tie → HeadKeeps I P past c (Open name) rest (Asks (opens_by tie))
  opens_keep past c name rest none NoClient is = (none, subst (λ (tie : Tie). opens_by tie ≡ ask.ExchangeId) (sym is) refl)
  opens_keep past c name rest none (HasClient clientid sequence) is = (none, subst (λ (tie : Tie). opens_by tie ≡ ask.CreateSession) (sym is) refl)
  opens_keep past c name rest none (HasSession s) is = by_flag s.is_complete refl
    where
      by_flag : (b : Bool) → s.is_complete ≡ b → HeadKeeps I P past c (Open name) rest (Asks (if b then ask.Open else ask.ReclaimComplete))
      by_flag true complete = (none, subst (λ (tie : Tie). opens_by tie ≡ ask.Open) (sym is) (subst (λ (b : Bool). (if b then ask.Open else ask.ReclaimComplete) ≡ ask.Open) (sym complete) refl))
      by_flag false complete = (none, subst (λ (tie : Tie). opens_by tie ≡ ask.ReclaimComplete) (sym is) (subst (λ (b : Bool). (if b then ask.Open else ask.ReclaimComplete) ≡ ask.ReclaimComplete) (sym complete) refl))

  no_file : (past : List HistoryItem) (c : ClientValue) (request : UserRequest) (rest : List UserRequest) → c.queue ≡ request ∷ rest → Stays I past c → c.file ≡ None
      → HeadKeeps I P past c request rest (IsDone (refuses_request NOFILEHANDLE (with_rest c rest)))
  no_file past c request rest at i none = refuses_keeps past c request rest at i (subst (λ (o : Option OpenFile). MayBeDone o request) (sym none) tt) NOFILEHANDLE

  head_keeps : (past : List HistoryItem) (c : ClientValue) (request : UserRequest) (rest : List UserRequest) → c.queue ≡ request ∷ rest → Stays I past c → (file : Option OpenFile) → c.file ≡ file
      → HeadKeeps I P past c request rest (head_step (with_rest c rest) file request)
  head_keeps past c (Open name) rest at i None there = opens_keep past c name rest there c.tie refl
  head_keeps past c (Write place bytes) rest at i None there = no_file past c (Write place bytes) rest at i there
  head_keeps past c (Through place bytes) rest at i None there = no_file past c (Through place bytes) rest at i there
  head_keeps past c Commit rest at i None there = no_file past c Commit rest at i there
  head_keeps past c (Read place count) rest at i None there = no_file past c (Read place count) rest at i there
  head_keeps past c Return rest at i None there = no_file past c Return rest at i there
  head_keeps past c request rest at i (Some file) there = file_keeps past c file request rest at i there

  head_then : (past : List HistoryItem) (c : ClientValue) (request : UserRequest) (rest : List UserRequest) → c.queue ≡ request ∷ rest → Stays I past c → (step : HeadStep) (next : ClientValue → QueueRun)
      → HeadKeeps I P past c request rest step → ((later : List HistoryItem) (d : ClientValue) → d.queue ≡ rest → Stays I later d → QueueKeeps I P later (next d)) → QueueKeeps I P past (after_head request (with_rest c rest) step next)
  head_then past c request rest at i (IsDone r) next keeps further =
      let more : QueueKeeps I P (past ++ entered r.entries) (next (awake r).client) = further (past ++ entered r.entries) (awake r).client keeps.1 keeps.0.keeps in
      record {
        run = run_follows (Stays I) P past (awake r) (λ d. (next d).run) keeps.0 more.run;
        wants = more.wants;
      }
  head_then past c request rest at i (IsWaiting d) next keeps further = record { run = run_unmoved (Stays I) P past (keeps_head request d) keeps; wants = tt }
  head_then past c request rest at i (Asks kind) next keeps further = record {
    run = run_unmoved (Stays I) P past (keeps_head request (with_rest c rest)) (subst (λ (queue : List UserRequest). Stays I past (record c { queue = queue })) at i);
    wants = keeps;
  }

  requests_keep : (requests : List UserRequest) (past : List HistoryItem) (c : ClientValue) → c.queue ≡ requests → Stays I past c → QueueKeeps I P past (run_requests requests c)
  requests_keep [] past c at i = record { run = run_unmoved (Stays I) P past c i; wants = tt }
  requests_keep (request ∷ rest) past c at i =
      head_then past c request rest at i (head_step (with_rest c rest) c.file request) (run_requests rest) (head_keeps past c request rest at i c.file refl) (λ later d queue stays. requests_keep rest later d queue stays)

  pub queue_keeps : (past : List HistoryItem) (c : ClientValue) → Stays I past c → QueueKeeps I P past (run_queue c)
  queue_keeps past c i = requests_keep c.queue past c refl i
