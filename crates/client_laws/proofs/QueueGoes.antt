-- The queue is run, and then the calls go out.
use Rattle.std.proofs.lemmas.Option.{none-some}
use Rattle.cluster_model.specs.declared.ids.FileId.{FileId}
use Rattle.client_mds_calls.specs.FittingCalls.{reports_server}
use Rattle.client_laws.proofs.Orders.{in_more, in_end, in_either}
use Rattle.client_laws.proofs.Silent.{silent_now, unsent_writing, free_now, unrecalled_now}
use Rattle.std.proofs.Common.{◌≡◌, ℕ, Bool, true, false, List, [], ◌∷◌, ◌++◌, length, Option, Some, None, refl, sym, subst, ◌∙◌, inl, inr, ◌⊎◌, ap}
use Rattle.std.specs.Prelude.{◌==◌, if◌then◌else◌}
use Rattle.cluster_model.specs.declared.answer.UserAnswer.{UserAnswer}
use Rattle.cluster_model.specs.declared.answer.UserAnswer.TheVariants as answer
use Rattle.cluster_model.specs.declared.entry.Entry.TheVariants.{Sent, Answer}
use Rattle.mirror_writer.specs.Writers.{with_write, commit_wanted, overlaps_taken}
use Rattle.client_file_calls.specs.declared.layout_return.FailedMirror.{FailedMirror}
use Rattle.client_file_calls.specs.declared.open.OpenFile.{OpenFile}
use Rattle.client_mds_calls.specs.declared.ask.MdsAsk.TheVariants as ask
use Rattle.client_state.specs.declared.stage.LayoutStage.{LayoutStage}
use Rattle.client_state.specs.declared.stage.LayoutStage.TheVariants.{Writing, Ending, Deferred, Returning}
use Rattle.client_state.specs.declared.request.UserRequest.{UserRequest}
use Rattle.client_state.specs.declared.request.UserRequest.TheVariants.{Open, Write, Through, Commit, Read, Return}
use Rattle.client_state.specs.declared.layout.Layout.{Layout}
use Rattle.client_state.specs.declared.tie.Tie.{Tie}
use Rattle.client_state.specs.declared.tie.Tie.TheVariants.{NoClient, HasClient, HasSession}
use Rattle.client_state.specs.ClientStates.{ClientValue, is_layout_return}
use Rattle.client_state.specs.ClientQueue.{HeadStep, IsDone, IsWaiting, Asks, answers_user, refuses_request, answers_committed, with_layout, with_writer, ends_layout, ending, is_writing, unknown_servers, is_past, taken_write, write_under, write_to, write_by, behind_return, is_all_told, layout_committing, on_open_file, opens_by, head_step, QueueRun, keeps_head, awake, after_head, with_rest, run_requests, run_queue}
use Rattle.client_calls.specs.ClientCalls.{calls_all, ends_event}
use Rattle.client_laws.specs.ClientHistory.{HistoryItem, Enters, entered, HasItem}
use Rattle.client_laws.proofs.Later.{stands_later, granted_later}
use Rattle.client_laws.proofs.LayoutMoves.{ending_stands, committing_stands, taking_stands}
use Rattle.client_laws.proofs.Goes.{RunGoes, StepGoes, run_unmoved, run_follows, run_calls, SameReturn, KeepsReturn, KeepsLayout, with_layout_stands, moved_stands}
use Rattle.client_laws.proofs.CompoundOut.{WantsFit, all_go}
use Rattle.client_laws.proofs.Stands.{Stands, LayoutStands, IfThere, reported_of, IdleAnswer, TakenUnder}

-- ---- answers to the user

pub answer_goes : (past : List HistoryItem) (a : UserAnswer) (c : ClientValue) → Stands past c → IdleAnswer a → RunGoes past (answers_user a c)
answer_goes past a c s idle = record { entries = ((tt, tt, tt, tt, tt, tt), tt); stands = stands_later past (Enters (Answer c.number a) ∷ []) c (idle, tt) s }

-- ---- the layout is to be given back

pub ending_keeps : (l : Layout) → KeepsReturn l (ending l)
ending_keeps l at = subst (λ (stage : LayoutStage). SameReturn l (ends_layout l stage)) (sym at) (record { stateid = refl; mirrors = refl; cred = refl; taken = refl; stage = at })

pub ended_stands : (past : List HistoryItem) (name : List ℕ) (l : Layout) → LayoutStands past name (reports_server (reported_of l)) l → LayoutStands past name (reports_server (reported_of (ending l))) (ending l)
ended_stands past name l old = subst (λ (failed : List FailedMirror). LayoutStands past name (reports_server failed) (ending l)) (same_report l.stage) (ending_stands past name (reports_server (reported_of l)) l old)
  where
    same_report : (stage : LayoutStage) → reported_of l ≡ reported_of (ends_layout l stage)
    same_report Writing = refl
    same_report Ending = refl
    same_report Deferred = refl
    same_report Returning = refl

pub ending_client : (past : List HistoryItem) (c : ClientValue) (l : Layout) → c.layout ≡ Some l → Stands past c → Stands past (with_layout c (ending l))
ending_client past c l at s =
    with_layout_stands past c (Some (ending l)) s (subst (λ (o : Option Layout). KeepsLayout o (Some (ending l))) (sym at) (ending_keeps l))
    (ended_stands past c.name l (subst (λ (o : Option Layout). IfThere o (λ l. LayoutStands past c.name (reports_server (reported_of l)) l)) at s.layout_stands))

-- ---- the request at the head

abbrev pub HeadGoes : List HistoryItem → Option Layout → HeadStep → Type 0
HeadGoes past layout (IsDone r) = RunGoes past r
HeadGoes past layout (IsWaiting c) = Stands past c
HeadGoes past layout (Asks kind) = (is_layout_return kind ≡ false) × (kind ≡ ask.LayoutGet → layout ≡ None)

by_if_of : (past : List HistoryItem) (layout : Option Layout) (b : Bool) (x y : HeadStep) → (b ≡ true → HeadGoes past layout x) → (b ≡ false → HeadGoes past layout y) → HeadGoes past layout (if b then x else y)
by_if_of past layout true x y first second = first refl
by_if_of past layout false x y first second = second refl

abbrev uid_of : HistoryItem → ℕ
uid_of (Enters (Sent file uid at bytes)) = uid.0
uid_of item = 0

module _ (past : List HistoryItem) (c : ClientValue) (s : Stands past c) where
  taken_goes : (file : OpenFile) (l : Layout) (at : ℕ) (bytes : List ℕ) → c.layout ≡ Some l → l.stage ≡ Writing → overlaps_taken l.writer at (length bytes) ≡ false → RunGoes past (taken_write c file l at bytes)
  taken_goes file l at bytes there writing free = record {
    entries = ((tt, tt, tt, silent_now past c.name (reports_server (reported_of l)) l old (unsent_writing past c.name (reports_server (reported_of l)) l old writing), free_now past c.name (reports_server (reported_of l)) l old at bytes s.taken_under free, unrecalled_now past c.name (reports_server (reported_of l)) l old writing), tt);
    stands =
        moved_stands past (item ∷ []) c (Some new) (tt, tt) (λ none. absurd (none-some new (sym none))) s (subst (λ (o : Option Layout). KeepsLayout o (Some new)) (sym there) (λ stage. absurd (not_both (sym writing ∙ stage))))
        (taking_stands past c.name (reports_server (reported_of l)) l old writing file.file at bytes (l.untold ++ length l.writer.taken ∷ [])) under;
  }
    where
      item : HistoryItem
      item = Enters (Sent file.file (record { 0 = l.writer.cred }) at bytes)

      new : Layout
      new = record l { writer = with_write l.writer at bytes; untold = l.untold ++ length l.writer.taken ∷ [] }

      not_both : Writing ≡ Returning → ⊥
      not_both e = absurd cc

      old : LayoutStands past c.name (reports_server (reported_of l)) l
      old = subst (λ (o : Option Layout). IfThere o (λ l. LayoutStands past c.name (reports_server (reported_of l)) l)) there s.layout_stands

      same_uid : (f : FileId) (cred a : ℕ) (b : List ℕ) → Enters (Sent f (record { 0 = cred }) a b) ≡ Enters (Sent file.file (record { 0 = l.writer.cred }) at bytes) → l.writer.cred ≡ cred
      same_uid f cred a b same = sym (ap uid_of same)

      under : (f : FileId) (cred a : ℕ) (b : List ℕ) → HasItem (past ++ Enters (Sent file.file (record { 0 = l.writer.cred }) at bytes) ∷ []) (Enters (Sent f (record { 0 = cred }) a b)) → TakenUnder (past ++ Enters (Sent file.file (record { 0 = l.writer.cred }) at bytes) ∷ []) cred f a b
      under f cred a b i = by_place (in_either past (Enters (Sent file.file (record { 0 = l.writer.cred }) at bytes) ∷ []) (Enters (Sent f (record { 0 = cred }) a b)) i)
        where
          further : TakenUnder past cred f a b → TakenUnder (past ++ Enters (Sent file.file (record { 0 = l.writer.cred }) at bytes) ∷ []) cred f a b
          further u = record {
            grant = u.grant;
            granted = granted_later past (Enters (Sent file.file (record { 0 = l.writer.cred }) at bytes) ∷ []) u.grant u.granted;
            uid = u.uid;
            since = in_more (Enters (Sent f (record { 0 = cred }) a b) ∷ []) u.granted.since (Enters (Sent file.file (record { 0 = l.writer.cred }) at bytes) ∷ []) u.since;
          }

          by_place : HasItem past (Enters (Sent f (record { 0 = cred }) a b)) ⊎ HasItem (Enters (Sent file.file (record { 0 = l.writer.cred }) at bytes) ∷ []) (Enters (Sent f (record { 0 = cred }) a b)) → TakenUnder (past ++ Enters (Sent file.file (record { 0 = l.writer.cred }) at bytes) ∷ []) cred f a b
          by_place (inl i) = further (s.taken_under f cred a b i)
          by_place (inr (inl (same, rest))) = record {
            grant = old.grant;
            granted = granted_later past (Enters (Sent file.file (record { 0 = l.writer.cred }) at bytes) ∷ []) old.grant old.granted;
            uid = sym old.uid ∙ same_uid f cred a b same;
            since = subst (λ x. HasItem (old.granted.since ++ Enters (Sent file.file (record { 0 = l.writer.cred }) at bytes) ∷ []) x) (sym same) (in_end old.granted.since (Enters (Sent file.file (record { 0 = l.writer.cred }) at bytes)));
          }
          by_place (inr (inr i)) = absurd i

  write_goes : (file : OpenFile) (layout : Option Layout) (at : ℕ) (bytes : List ℕ) → c.layout ≡ layout → HeadGoes past c.layout (write_by c file layout at bytes)
  write_goes file None at bytes there = (refl, λ is. there)
  write_goes file (Some l) at bytes there =
      by_if_of past c.layout (is_writing l.stage) (write_to c file l at bytes (length (unknown_servers c l))) (IsWaiting c)
      (λ writing. by_if_of past c.layout (length (unknown_servers c l) == 0) (write_under c file l at bytes) (Asks (ask.DeviceInfo (length (unknown_servers c l))))
      (λ known. by_if_of past c.layout (overlaps_taken l.writer at (length bytes)) (IsWaiting (with_layout c (ending l))) (IsDone (taken_write c file l at bytes)) (λ over. ending_client past c l there s) (λ free. taken_goes file l at bytes there (is_stage l.stage writing) free))
      (λ unknown. (refl, λ is. absurd (cc (is)))))
      (λ returning. s)
    where
      is_stage : (stage : LayoutStage) → is_writing stage ≡ true → stage ≡ Writing
      is_stage Writing is = refl
      is_stage Ending is = absurd cc
      is_stage Deferred is = absurd cc
      is_stage Returning is = absurd cc

  return_goes : (layout : Option Layout) (step : HeadStep) → c.layout ≡ layout → HeadGoes past c.layout step → HeadGoes past c.layout (behind_return step c layout)
  return_goes None step there goes = goes
  return_goes (Some l) step there goes = ending_client past c l there s

  committing_goes : (layout : Option Layout) → c.layout ≡ layout → Stands past (layout_committing c layout)
  committing_goes None there = s
  committing_goes (Some l) there =
      with_layout_stands past c (Some (with_writer l (commit_wanted l.writer))) s
      (subst (λ (o : Option Layout). KeepsLayout o (Some (with_writer l (commit_wanted l.writer)))) (sym there) (λ stage. record { stateid = refl; mirrors = refl; cred = refl; taken = refl; stage = stage }))
      (committing_stands past c.name (reports_server (reported_of l)) l (subst (λ (o : Option Layout). IfThere o (λ l. LayoutStands past c.name (reports_server (reported_of l)) l)) there s.layout_stands))

  file_goes : (file : OpenFile) (request : UserRequest) → HeadGoes past c.layout (on_open_file c file request)
  file_goes file (Open name) = answer_goes past _ c s tt
  file_goes file (Write at bytes) = by_if_of past c.layout (is_past at bytes) (IsDone (refuses_request 27 c)) (write_by c file c.layout at bytes) (λ over. answer_goes past _ c s tt) (λ within. write_goes file c.layout at bytes refl)
  file_goes file (Through at bytes) = by_if_of past c.layout (is_past at bytes) (IsDone (refuses_request 27 c)) (behind_return (Asks ask.Write) c c.layout) (λ over. answer_goes past _ c s tt) (λ within. return_goes c.layout (Asks ask.Write) refl (refl, λ is. absurd (cc (is))))
  file_goes file Commit = by_if_of past c.layout (is_all_told c.layout) (IsDone (answers_committed c)) (IsWaiting (layout_committing c c.layout)) (λ told. answer_goes past _ (record c { told = 0 }) s tt) (λ untold. committing_goes c.layout refl)
  file_goes file (Read at count) = (refl, λ is. absurd (cc (is)))
  file_goes file Return = return_goes c.layout (IsDone (answers_user answer.Returned c)) refl (answer_goes past answer.Returned c s tt)

  opens_goes : (tie : Tie) → HeadGoes past c.layout (Asks (opens_by tie))
  opens_goes NoClient = (refl, λ is. absurd (cc (is)))
  opens_goes (HasClient clientid sequence) = (refl, λ is. absurd (cc (is)))
  opens_goes (HasSession t) = by_test t.is_complete
    where
      by_test : (b : Bool) → HeadGoes past c.layout (Asks (if b then ask.Open else ask.ReclaimComplete))
      by_test true = (refl, λ is. absurd (cc (is)))
      by_test false = (refl, λ is. absurd (cc (is)))

  pub head_goes : (file : Option OpenFile) (request : UserRequest) → HeadGoes past c.layout (head_step c file request)
  head_goes None (Open name) = opens_goes c.tie
  head_goes None (Write at bytes) = answer_goes past _ c s tt
  head_goes None (Through at bytes) = answer_goes past _ c s tt
  head_goes None Commit = answer_goes past _ c s tt
  head_goes None (Read at count) = answer_goes past _ c s tt
  head_goes None Return = answer_goes past _ c s tt
  head_goes (Some file) request = file_goes file request

-- ---- the queue

pub record QueueGoes (past : List HistoryItem) (q : QueueRun) : Type 0 where
  pub run : RunGoes past q.run
  pub wants : WantsFit q.run.client.layout q.wants

head_then : (past : List HistoryItem) (request : UserRequest) (c : ClientValue) (step : HeadStep) (next : ClientValue → QueueRun) → Stands past c → HeadGoes past c.layout step
    → ((later : List HistoryItem) (d : ClientValue) → Stands later d → QueueGoes later (next d)) → QueueGoes past (after_head request c step next)
head_then past request c (IsDone r) next s goes further =
    let rest : QueueGoes (past ++ entered r.entries) (next (awake r).client) = further (past ++ entered r.entries) (awake r).client goes.stands in
    record {
      run = run_follows past (awake r) (λ d. (next d).run) (record { entries = goes.entries; stands = goes.stands }) rest.run;
      wants = rest.wants;
    }
head_then past request c (IsWaiting d) next s goes further = record { run = run_unmoved past (keeps_head request d) goes; wants = tt }
head_then past request c (Asks kind) next s goes further = record { run = run_unmoved past (keeps_head request c) s; wants = goes }

requests_go : (requests : List UserRequest) (past : List HistoryItem) (c : ClientValue) → Stands past c → QueueGoes past (run_requests requests c)
requests_go [] past c s = record { run = run_unmoved past c s; wants = tt }
requests_go (request ∷ rest) past c s =
    head_then past request (with_rest c rest) (head_step (with_rest c rest) c.file request) (run_requests rest) s (head_goes past (with_rest c rest) s c.file request) (λ later d stands. requests_go rest later d stands)

pub queue_goes : (past : List HistoryItem) (c : ClientValue) → Stands past c → QueueGoes past (run_queue c)
queue_goes past c s = requests_go c.queue past c s

pub event_ends : (past : List HistoryItem) (c : ClientValue) → Stands past c → StepGoes past (ends_event c)
event_ends past c s =
    let q : QueueGoes past (run_queue c) = queue_goes past c s in
    run_calls past (run_queue c).run (calls_all (run_queue c).wants) q.run (all_go (past ++ entered (run_queue c).run.entries) (run_queue c).run.client (run_queue c).wants q.run.stands q.wants)
