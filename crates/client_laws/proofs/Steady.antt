-- What a step leaves of a client's layout and session: a layout that is there stays, and takes no write again once it takes none; and where
-- there is a layout there is a session.
use Rattle.std.proofs.Common.{◌≡◌, ℕ, Bool, true, false, List, [], ◌∷◌, length, Option, Some, None, refl, sym, subst, ◌∙◌}
use Rattle.std.specs.Prelude.{◌==◌, ◌&&◌, if◌then◌else◌}
use Rattle.std.specs.Option.{option_or}
use Rattle.std.proofs.lemmas.Option.{none-some}
use Rattle.mirror_writer.specs.Writers.{overlaps_taken, WriterSends, next_sent}
use Rattle.cluster_model.specs.declared.answer.UserAnswer.TheVariants as answer
use Rattle.client_file_calls.specs.declared.open.OpenFile.{OpenFile}
use Rattle.client_mds_calls.specs.declared.ask.MdsAsk.{MdsAsk}
use Rattle.client_mds_calls.specs.declared.ask.MdsAsk.TheVariants as ask
use Rattle.client_mds_calls.specs.MdsCalls.{MdsCallValue, SlotCallValue}
use Rattle.client_state.specs.declared.stage.LayoutStage.{LayoutStage}
use Rattle.client_state.specs.declared.stage.LayoutStage.TheVariants.{Writing, Ending, Deferred, Returning}
use Rattle.client_state.specs.declared.request.UserRequest.{UserRequest}
use Rattle.client_state.specs.declared.request.UserRequest.TheVariants.{Open, Write, Through, Commit, Read, Return}
use Rattle.client_state.specs.declared.layout.Layout.{Layout}
use Rattle.client_state.specs.declared.asked.Asked.{Asked}
use Rattle.client_state.specs.declared.tie.Tie.{Tie}
use Rattle.client_state.specs.declared.tie.Tie.TheVariants.{NoClient, HasClient, HasSession}
use Rattle.client_state.specs.ClientStates.{ClientValue}
use Rattle.client_state.specs.ClientSends.{ClientStep, sends_none, and_then}
use Rattle.client_state.specs.ClientQueue.{HeadStep, IsDone, IsWaiting, Asks, answers_user, refuses_request, answers_committed, with_layout, ends_layout, ending, is_writing, unknown_servers, is_past, taken_write, write_under, write_to, write_by, behind_return, is_all_told, layout_committing, on_open_file, opens_by, head_step, QueueRun, after_head, awake, with_rest, run_requests, run_queue}
use Rattle.client_calls.specs.ClientCalls.{calls_next, calls_under, calls_mirror, calls_two, calls_mirrors, is_ending, is_settled, return_ask, due_ask, on_slot, slot_call, call_by_ask, layout_asked, returning, asks_as, asks, may_ask, calls_mds, calls_all, ends_event}
use Rattle.client_answers.specs.ClientAnswers.{has_session}
use Rattle.client_laws.proofs.Later.{every_append, there_later}
use Rattle.client_laws.proofs.Stands.{Every, IfThere, MuteSend}

-- ---- a layout stays

-- it is the same layout, and takes no write again once it takes none
pub record SameLayout (l new : Layout) : Type 0 where
  pub stateid : new.stateid ≡ l.stateid
  pub stage : is_writing l.stage ≡ false → is_writing new.stage ≡ false

abbrev pub Follows : Option Layout → Option Layout → Type 0
Follows None None = Unit {0}
Follows None (Some new) = ⊥
Follows (Some l) None = ⊥
Follows (Some l) (Some new) = SameLayout l new

pub follows_same : (layout : Option Layout) → Follows layout layout
follows_same None = tt
follows_same (Some l) = record { stateid = refl; stage = λ is. is }

pub follows_then : (a b d : Option Layout) → Follows a b → Follows b d → Follows a d
follows_then None None d first second = second
follows_then None (Some b) d first second = absurd first
follows_then (Some a) None d first second = absurd first
follows_then (Some a) (Some b) None first second = absurd second
follows_then (Some a) (Some b) (Some d) first second = record { stateid = second.stateid ∙ first.stateid; stage = λ is. second.stage (first.stage is) }

follows_there : (layout new : Option Layout) (P : Type 0) → Follows layout new → IfThere layout (λ l. P) → IfThere new (λ l. P)
follows_there None None P follows there = tt
follows_there None (Some new) P follows there = absurd follows
follows_there (Some l) None P follows there = tt
follows_there (Some l) (Some new) P follows there = there

pub ends_same : (l : Layout) → SameLayout l (ending l)
ends_same l = by_stage l.stage
  where
    by_stage : (stage : LayoutStage) → SameLayout l (ends_layout l stage)
    by_stage Writing = record { stateid = refl; stage = λ is. refl }
    by_stage Ending = record { stateid = refl; stage = λ is. is }
    by_stage Deferred = record { stateid = refl; stage = λ is. is }
    by_stage Returning = record { stateid = refl; stage = λ is. is }

-- ---- a session

-- an EXCHANGE_ID is asked for only where there is no session, and a LAYOUTGET is out only where there is one
abbrev pub KindTied : Bool → MdsAsk → Type 0
KindTied has ask.ExchangeId = has ≡ false
KindTied has ask.LayoutGet = has ≡ true
KindTied has kind = Unit {0}

abbrev pub WantTied : Bool → MdsAsk → Type 0
WantTied has ask.ExchangeId = has ≡ false
WantTied has kind = Unit {0}

abbrev pub kind_of : Option Asked → Option MdsAsk
kind_of None = None
kind_of (Some a) = Some a.ask

-- where there is a layout there is a session
pub record TiedOf (has : Bool) (layout : Option Layout) (asked again : Option MdsAsk) : Type 0 where
  pub held : IfThere layout (λ l. has ≡ true)
  pub out : IfThere asked (KindTied has)
  pub anew : IfThere again (KindTied has)

abbrev pub Tied : ClientValue → Type 0
Tied c = TiedOf (has_session c.tie) c.layout (kind_of c.asked) c.again

-- ---- a step that leaves all this

pub record SteadyOf (has has_now : Bool) (layout layout_now : Option Layout) (asked asked_now again again_now : Option MdsAsk) : Type 0 where
  pub session : has_now ≡ has
  pub follows : Follows layout layout_now
  pub out : asked_now ≡ asked
  pub anew : again_now ≡ again

abbrev pub Steady : ClientValue → ClientValue → Type 0
Steady c d = SteadyOf (has_session c.tie) (has_session d.tie) c.layout d.layout (kind_of c.asked) (kind_of d.asked) c.again d.again

pub steady_same : (c : ClientValue) → Steady c c
steady_same c = record { session = refl; follows = follows_same c.layout; out = refl; anew = refl }

pub steady_then : (a b d : ClientValue) → Steady a b → Steady b d → Steady a d
steady_then a b d first second = record {
  session = second.session ∙ first.session;
  follows = follows_then a.layout b.layout d.layout first.follows second.follows;
  out = second.out ∙ first.out;
  anew = second.anew ∙ first.anew;
}

pub tied_steady : (c d : ClientValue) → Steady c d → Tied c → Tied d
tied_steady c d s t = record {
  held = subst (λ (b : Bool). IfThere d.layout (λ l. b ≡ true)) (sym s.session) (follows_there c.layout d.layout (has_session c.tie ≡ true) s.follows t.held);
  out = subst (λ (b : Bool). IfThere (kind_of d.asked) (KindTied b)) (sym s.session) (subst (λ (o : Option MdsAsk). IfThere o (KindTied (has_session c.tie))) (sym s.out) t.out);
  anew = subst (λ (b : Bool). IfThere d.again (KindTied b)) (sym s.session) (subst (λ (o : Option MdsAsk). IfThere o (KindTied (has_session c.tie))) (sym s.anew) t.anew);
}

-- with another layout
pub steady_layout : (c : ClientValue) (l new : Layout) → c.layout ≡ Some l → SameLayout l new → Steady c (with_layout c new)
steady_layout c l new at same = record { session = refl; follows = subst (λ (o : Option Layout). Follows o (Some new)) (sym at) same; out = refl; anew = refl }

-- ---- the queue

abbrev HeadSteady : ClientValue → HeadStep → Type 0
HeadSteady c (IsDone r) = Steady c r.client
HeadSteady c (IsWaiting d) = Steady c d
HeadSteady c (Asks kind) = WantTied (has_session c.tie) kind

by_if : (c : ClientValue) (b : Bool) (x y : HeadStep) → HeadSteady c x → HeadSteady c y → HeadSteady c (if b then x else y)
by_if c true x y first second = first
by_if c false x y first second = second

write_steady : (c : ClientValue) (file : OpenFile) (layout : Option Layout) (at : ℕ) (bytes : List ℕ) → c.layout ≡ layout → HeadSteady c (write_by c file layout at bytes)
write_steady c file None at bytes there = tt
write_steady c file (Some l) at bytes there =
    by_if c (is_writing l.stage) (write_to c file l at bytes (length (unknown_servers c l))) (IsWaiting c)
    (by_if c (length (unknown_servers c l) == 0) (write_under c file l at bytes) (Asks (ask.DeviceInfo (length (unknown_servers c l))))
    (by_if c (overlaps_taken l.writer at (length bytes)) (IsWaiting (with_layout c (ending l))) (IsDone (taken_write c file l at bytes)) (steady_layout c l (ending l) there (ends_same l)) (steady_layout c l _ there (record { stateid = refl; stage = λ is. is }))) tt)
    (steady_same c)

return_steady : (c : ClientValue) (layout : Option Layout) (step : HeadStep) → c.layout ≡ layout → HeadSteady c step → HeadSteady c (behind_return step c layout)
return_steady c None step there steady = steady
return_steady c (Some l) step there steady = steady_layout c l (ending l) there (ends_same l)

commits_steady : (c : ClientValue) (layout : Option Layout) → c.layout ≡ layout → Steady c (layout_committing c layout)
commits_steady c None there = steady_same c
commits_steady c (Some l) there = steady_layout c l _ there (record { stateid = refl; stage = λ is. is })

file_steady : (c : ClientValue) (file : OpenFile) (request : UserRequest) → HeadSteady c (on_open_file c file request)
file_steady c file (Open name) = steady_same c
file_steady c file (Write at bytes) = by_if c (is_past at bytes) (IsDone (refuses_request 27 c)) (write_by c file c.layout at bytes) (steady_same c) (write_steady c file c.layout at bytes refl)
file_steady c file (Through at bytes) = by_if c (is_past at bytes) (IsDone (refuses_request 27 c)) (behind_return (Asks ask.Write) c c.layout) (steady_same c) (return_steady c c.layout (Asks ask.Write) refl tt)
file_steady c file Commit = by_if c (is_all_told c.layout) (IsDone (answers_committed c)) (IsWaiting (layout_committing c c.layout)) (steady_same c) (commits_steady c c.layout refl)
file_steady c file (Read at count) = tt
file_steady c file Return = return_steady c c.layout (IsDone (answers_user answer.Returned c)) refl (steady_same c)

opens_tied : (tie : Tie) → WantTied (has_session tie) (opens_by tie)
opens_tied NoClient = refl
opens_tied (HasClient clientid sequence) = tt
opens_tied (HasSession s) = by_test s.is_complete
  where
    by_test : (b : Bool) → WantTied true (if b then ask.Open else ask.ReclaimComplete)
    by_test true = tt
    by_test false = tt

head_steady : (c : ClientValue) (file : Option OpenFile) (request : UserRequest) → HeadSteady c (head_step c file request)
head_steady c None (Open name) = opens_tied c.tie
head_steady c None (Write at bytes) = steady_same c
head_steady c None (Through at bytes) = steady_same c
head_steady c None Commit = steady_same c
head_steady c None (Read at count) = steady_same c
head_steady c None Return = steady_same c
head_steady c (Some file) request = file_steady c file request

pub record QueueSteady (c : ClientValue) (q : QueueRun) : Type 0 where
  pub run : Steady c q.run.client
  pub wants : IfThere q.wants (WantTied (has_session q.run.client.tie))

after_steady : (request : UserRequest) (c : ClientValue) (step : HeadStep) (next : ClientValue → QueueRun) → HeadSteady c step → ((d : ClientValue) → QueueSteady d (next d)) → QueueSteady c (after_head request c step next)
after_steady request c (IsDone r) next steady further =
    let rest : QueueSteady (awake r).client (next (awake r).client) = further (awake r).client in
    record { run = steady_then c (awake r).client (next (awake r).client).run.client steady rest.run; wants = rest.wants }
after_steady request c (IsWaiting d) next steady further = record { run = steady; wants = tt }
after_steady request c (Asks kind) next steady further = record { run = steady_same c; wants = steady }

requests_steady : (requests : List UserRequest) (c : ClientValue) → QueueSteady c (run_requests requests c)
requests_steady [] c = record { run = steady_same c; wants = tt }
requests_steady (request ∷ rest) c =
    let q : QueueSteady (with_rest c rest) (after_head request (with_rest c rest) (head_step (with_rest c rest) c.file request) (run_requests rest)) =
    after_steady request (with_rest c rest) (head_step (with_rest c rest) c.file request) (run_requests rest) (head_steady (with_rest c rest) c.file request) (requests_steady rest) in
    record { run = q.run; wants = q.wants }

queue_steady : (c : ClientValue) → QueueSteady c (run_queue c)
queue_steady c = requests_steady c.queue c

-- ---- calls to data servers

pub record CallsSteady (c : ClientValue) (s : ClientStep) : Type 0 where
  pub kept : Steady c s.client
  pub mute : Every MuteSend s.sends

none_called : (c : ClientValue) → CallsSteady c (sends_none c)
none_called c = record { kept = steady_same c; mute = tt }

calls_then : (c : ClientValue) (s : ClientStep) (next : ClientValue → ClientStep) → CallsSteady c s → CallsSteady s.client (next s.client) → CallsSteady c (and_then s next)
calls_then c s next first second = record { kept = steady_then c s.client (next s.client).client first.kept second.kept; mute = every_append MuteSend s.sends (next s.client).sends first.mute second.mute }

next_called : (c : ClientValue) (l : Layout) (o : Option WriterSends) → c.layout ≡ Some l → CallsSteady c (calls_next c l o)
next_called c l None at = none_called c
next_called c l (Some s) at =
    let k : Steady c (with_layout c (record l { writer = s.writer })) = steady_layout c l (record l { writer = s.writer }) at (record { stateid = refl; stage = λ is. is }) in
    record { kept = k; mute = (tt, tt) }

under_called : (c : ClientValue) (layout : Option Layout) → c.layout ≡ layout → CallsSteady c (calls_under c layout)
under_called c None at = none_called c
under_called c (Some l) at = next_called c l (next_sent l.writer c.next_xid) at

mirror_called : (c : ClientValue) → CallsSteady c (calls_mirror c)
mirror_called c = by_test (c.next_xid == 0)
  where
    by_test : (b : Bool) → CallsSteady c (if b then sends_none c else calls_under c c.layout)
    by_test true = none_called c
    by_test false = under_called c c.layout refl

two_called : (c : ClientValue) → CallsSteady c (calls_two c)
two_called c = calls_then c (calls_mirror c) calls_mirror (mirror_called c) (mirror_called (calls_mirror c).client)

mirrors_called : (c : ClientValue) → CallsSteady c (calls_mirrors c)
mirrors_called c = calls_then c (calls_two c) calls_two (two_called c) (two_called (calls_two c).client)

-- ---- the compound

pub record CallsTied (c : ClientValue) (s : ClientStep) : Type 0 where
  pub follows : Follows c.layout s.client.layout
  pub tied : Tied s.client
  pub mute : Every MuteSend s.sends

asked_follows : (kind : MdsAsk) (layout : Option Layout) → Follows layout (layout_asked kind layout)
asked_follows ask.LayoutReturn layout = by_layout layout
  where
    by_layout : (layout : Option Layout) → Follows layout (returning layout)
    by_layout None = tt
    by_layout (Some l) = record { stateid = refl; stage = λ is. refl }
asked_follows ask.LayoutGet layout = follows_same layout
asked_follows ask.ExchangeId layout = follows_same layout
asked_follows ask.CreateSession layout = follows_same layout
asked_follows ask.ReclaimComplete layout = follows_same layout
asked_follows ask.Open layout = follows_same layout
asked_follows (ask.DeviceInfo count) layout = follows_same layout
asked_follows ask.Write layout = follows_same layout
asked_follows (ask.Read at count) layout = follows_same layout
asked_follows ask.Renew layout = follows_same layout

slot_session : (tie : Tie) (o : Option SlotCallValue) (call : MdsCallValue) → on_slot tie o ≡ Some call → has_session tie ≡ true
slot_session NoClient o call is = absurd (none-some call is)
slot_session (HasClient clientid sequence) o call is = absurd (none-some call is)
slot_session (HasSession s) o call is = refl

asked_tied : (c : ClientValue) (kind : MdsAsk) (call : MdsCallValue) → call_by_ask c kind ≡ Some call → WantTied (has_session c.tie) kind → KindTied (has_session c.tie) kind
asked_tied c ask.ExchangeId call is want = want
asked_tied c ask.LayoutGet call is want = slot_session c.tie (slot_call c ask.LayoutGet) call is
asked_tied c ask.CreateSession call is want = tt
asked_tied c ask.ReclaimComplete call is want = tt
asked_tied c ask.Open call is want = tt
asked_tied c (ask.DeviceInfo count) call is want = tt
asked_tied c ask.Write call is want = tt
asked_tied c (ask.Read at count) call is want = tt
asked_tied c ask.LayoutReturn call is want = tt
asked_tied c ask.Renew call is want = tt

kind_wants : (has : Bool) (kind : MdsAsk) → KindTied has kind → WantTied has kind
kind_wants has ask.ExchangeId is = is
kind_wants has ask.LayoutGet is = tt
kind_wants has ask.CreateSession is = tt
kind_wants has ask.ReclaimComplete is = tt
kind_wants has ask.Open is = tt
kind_wants has (ask.DeviceInfo count) is = tt
kind_wants has ask.Write is = tt
kind_wants has (ask.Read at count) is = tt
kind_wants has ask.LayoutReturn is = tt
kind_wants has ask.Renew is = tt

none_tied : (c : ClientValue) → Tied c → CallsTied c (sends_none c)
none_tied c t = record { follows = follows_same c.layout; tied = t; mute = tt }

as_tied : (c : ClientValue) (kind : MdsAsk) (o : Option MdsCallValue) → call_by_ask c kind ≡ o → WantTied (has_session c.tie) kind → Tied c → CallsTied c (asks_as c kind o)
as_tied c kind None is want t = none_tied c t
as_tied c kind (Some call) is want t = record {
  follows = asked_follows kind c.layout;
  tied = record { held = follows_there c.layout (layout_asked kind c.layout) (has_session c.tie ≡ true) (asked_follows kind c.layout) t.held; out = asked_tied c kind call is want; anew = tt };
  mute = (tt, tt);
}

pub asks_tied : (c : ClientValue) (kind : Option MdsAsk) → IfThere kind (WantTied (has_session c.tie)) → Tied c → CallsTied c (asks c kind)
asks_tied c None want t = none_tied c t
asks_tied c (Some kind) want t = as_tied c kind (call_by_ask c kind) refl want t

or_there : (P : MdsAsk → Type 0) (a b : Option MdsAsk) → IfThere a P → IfThere b P → IfThere (option_or a b) P
or_there P None b first second = second
or_there P (Some kind) b first second = first

return_wants : (has : Bool) (layout : Option Layout) → IfThere (return_ask layout) (WantTied has)
return_wants has None = tt
return_wants has (Some l) = by_tests (is_ending l.stage) (is_settled l.writer)
  where
    by_tests : (a b : Bool) → IfThere (if a && b then Some ask.LayoutReturn else None) (WantTied has)
    by_tests true true = tt
    by_tests true false = tt
    by_tests false b = tt

due_wants : (c : ClientValue) (wants : Option MdsAsk) → IfThere wants (WantTied (has_session c.tie)) → Tied c → IfThere (due_ask wants c) (WantTied (has_session c.tie))
due_wants c wants want t =
    or_there (WantTied (has_session c.tie)) c.again (option_or (return_ask c.layout) (if c.waits then None else wants)) (there_later c.again (KindTied (has_session c.tie)) (WantTied (has_session c.tie)) (kind_wants (has_session c.tie)) t.anew)
    (or_there (WantTied (has_session c.tie)) (return_ask c.layout) (if c.waits then None else wants) (return_wants (has_session c.tie) c.layout) (by_test c.waits))
  where
    by_test : (b : Bool) → IfThere (if b then None else wants) (WantTied (has_session c.tie))
    by_test true = tt
    by_test false = want

mds_tied : (c : ClientValue) (wants : Option MdsAsk) → IfThere wants (WantTied (has_session c.tie)) → Tied c → CallsTied c (calls_mds wants c)
mds_tied c wants want t = by_test (may_ask c c.asked)
  where
    by_test : (b : Bool) → CallsTied c (if b then asks c (due_ask wants c) else sends_none c)
    by_test true = asks_tied c (due_ask wants c) (due_wants c wants want t) t
    by_test false = none_tied c t

all_tied : (c : ClientValue) (wants : Option MdsAsk) → IfThere wants (WantTied (has_session c.tie)) → Tied c → CallsTied c (calls_all wants c)
all_tied c wants want t =
    let first : CallsSteady c (calls_mirrors c) = mirrors_called c in
    let then_tied : Tied (calls_mirrors c).client = tied_steady c (calls_mirrors c).client first.kept t in
    let last : CallsTied (calls_mirrors c).client (calls_mds wants (calls_mirrors c).client) = mds_tied (calls_mirrors c).client wants (subst (λ (b : Bool). IfThere wants (WantTied b)) (sym first.kept.session) want) then_tied in
    record {
      follows = follows_then c.layout (calls_mirrors c).client.layout (calls_mds wants (calls_mirrors c).client).client.layout first.kept.follows last.follows;
      tied = last.tied;
      mute = every_append MuteSend (calls_mirrors c).sends (calls_mds wants (calls_mirrors c).client).sends first.mute last.mute;
    }

pub ends_tied : (c : ClientValue) → Tied c → CallsTied c (ends_event c)
ends_tied c t =
    let q : QueueSteady c (run_queue c) = queue_steady c in
    let d : ClientValue = (run_queue c).run.client in
    let calls : CallsTied d (calls_all (run_queue c).wants d) = all_tied d (run_queue c).wants q.wants (tied_steady c d q.run t) in
    record { follows = follows_then c.layout d.layout (calls_all (run_queue c).wants d).client.layout q.run.follows calls.follows; tied = calls.tied; mute = calls.mute }
