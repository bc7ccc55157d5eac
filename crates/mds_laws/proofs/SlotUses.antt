-- Requests of a slot take effect once in a run: its table of clients is the one behind a list of calls of the table, with the same effects.
-- And a compound whose SEQUENCE does not take effect is answered alone.
use Rattle.std.proofs.Common.{◌≡◌, ℕ, List, [], ◌∷◌, ◌++◌, Option, Some, None, refl, sym, ap, subst, ◌∙◌}
use Rattle.std.specs.List.{list_any}
use Rattle.std.specs.Option.{option_map}
use Rattle.std.proofs.lemmas.Bool.{cond_both}
use Rattle.std.proofs.lemmas.List.{append_assoc, append-nil}
use Rattle.std.proofs.lemmas.Option.{same_Some, none-some}
use Rattle.ff_xdr.specs.Form.{Value}
use Rattle.device_addr.specs.Universal.{AddressValue}
use Rattle.cluster_model.specs.declared.ids.NodeId.{NodeId}
use Rattle.cluster_model.specs.declared.ids.NodeId.TheVariants.{Server}
use Rattle.cluster_model.specs.declared.ids.FileId.{FileId}
use Rattle.cluster_model.specs.declared.entry.Entry.{Entry}
use Rattle.file_rule.specs.FilePhases.{Answers as IsAnswer, TimesOut, Sees, phase}
use Rattle.file_rule.specs.MdsFiles.{FileStep}
use Rattle.mds_rows.specs.Draws.{drawn}
use Rattle.recall.specs.Recalls.{without_file}
use Rattle.nfs4_types.specs.declared.ids.SessionId.{SessionId}
use Rattle.nfs4_types.specs.declared.sequence.Sequence.{Sequence}
use Rattle.nfs4_types.specs.Sequences.{sequence4_args}
use Rattle.nfs4_compound.specs.Args.{argop4}
use Rattle.nfs4_compound.specs.Compounds.{CompoundValue}
use Rattle.nfs4_session.specs.Slots.{SlotAnswer, TakesEffect, Repeats, Refuses}
use Rattle.nfs4_session.specs.SlotsLaw.{AreNumbered, TakeEffectOnce}
use Rattle.nfs4_session.specs.Clients.{SessionsState}
use Rattle.nfs4_session.specs.Requests.{request_answer}
use Rattle.nfs4_session.specs.Bindings.{after_binding}
use Rattle.nfs4_session.specs.TableLaw.{TableMove, ExchangeId, CreateSession, BeginRequest, FinishRequest, Bind, CallBack, DestroySession, DestroyClient, Expire, table_after}
use Rattle.table_slots.specs.TableSlots.{effect_on, effect_of, table_from, effects_from, UsesSlotsOnce}
use Rattle.mds_receive.specs.MdsReceive.{incoming_of}
use Rattle.mds_rule.specs.Answers.{own_answer}
use Rattle.mds_rule.specs.MdsStates.{ServedFile, MdsSend, CallsServer, CallsBack, Replies, Answers, AwaitedCall, MdsValue, with_call, with_served, new_mds}
use Rattle.mds_rule.specs.declared.waiter.Waiter.TheVariants.{ForFile, ForRead, ForWrite, ForRecall}
use Rattle.mds_rule.specs.ServedFiles.{is_period_end, file_behind, file_stepped}
use Rattle.mds_rule.specs.Compounds.{sequenced, sequence_in, sequence_of, first_by, first_operation, new_run}
use Rattle.mds_walk.specs.MdsRuns.{MdsInput, MdsEvent, Hears, IsTimedOut, Ticks, RecallsFile, Resilvers, after_event}
use Rattle.mds_walk.specs.FirstRequests.{first_request, request_in}
use Rattle.mds_laws.specs.SlotUses.{effect_asked, effect_in, effects_in, RequestsTakeEffectOnce, OnlyEffectsChange, RepeatsChangeNothing}
use Rattle.mds_walk.proofs.Lists.{AllOf, all_push}
use Rattle.mds_laws.proofs.Keeping.{IsNoRequest, Cases}
use Rattle.mds_walk.proofs.Parts.{HeardAny}
use Rattle.mds_walk.proofs.Keeping.{hears_any}
use Rattle.mds_walk.proofs.Requested.{request_moves, begun_moves}
use Rattle.mds_laws.proofs.Numbers.{WereSent, sent_more, sent_with, sent_kept}
use Rattle.mds_laws.proofs.CasesOfEach.{each_case}
use Rattle.mds_laws.proofs.GoesWalk.{input_walk}

-- ---- lists of calls of a table

-- one list behind the other
table_joins : (s : SessionsState) (a b : List TableMove) → table_from s (a ++ b) ≡ table_from (table_from s a) b
table_joins s [] b = refl
table_joins s (move ∷ a) b = table_joins (table_after s move) a b

effects_join : (session : SessionId) (slot : ℕ) (s : SessionsState) (a b : List TableMove)
    → effects_from session slot s (a ++ b) ≡ effects_from session slot s a ++ effects_from session slot (table_from s a) b
effects_join session slot s [] b = refl
effects_join session slot s (move ∷ a) b =
    ap (λ l. effect_of session slot s move ++ l) (effects_join session slot (table_after s move) a b)
    ∙ sym (append_assoc (effect_of session slot s move) (effects_from session slot (table_after s move) a) (effects_from session slot (table_from (table_after s move) a) b))

-- nothing but requests has an effect
none_takes : (session : SessionId) (slot : ℕ) (s : SessionsState) (move : TableMove) → IsNoRequest move → effect_of session slot s move ≡ []
none_takes session slot s (BeginRequest request now) is = absurd is
none_takes session slot s (ExchangeId verifier owner now) is = refl
none_takes session slot s (CreateSession client sequence program node now) is = refl
none_takes session slot s (FinishRequest pass reply) is = refl
none_takes session slot s (Bind other node) is = refl
none_takes session slot s (CallBack client) is = refl
none_takes session slot s (DestroySession other) is = refl
none_takes session slot s (DestroyClient client) is = refl
none_takes session slot s (Expire now) is = refl

none_take : (session : SessionId) (slot : ℕ) (s : SessionsState) (moves : List TableMove) → AllOf IsNoRequest moves → effects_from session slot s moves ≡ []
none_take session slot s [] all = refl
none_take session slot s (move ∷ moves) all =
    ap (λ l. l ++ effects_from session slot (table_after s move) moves) (none_takes session slot s move all.0) ∙ none_take session slot (table_after s move) moves all.1

-- ---- from where an event's request has begun, the table goes on by calls that are no requests

pub record Behind (start table : SessionsState) (calls : List AwaitedCall) (ss : List MdsSend) : Type 0 where
  pub moves : List TableMove
  pub none : AllOf IsNoRequest moves
  pub is : table ≡ table_from start moves
  pub were : WereSent calls ss

module _ (start : SessionsState) where
  abbrev IsSo : MdsValue → List Entry → List MdsSend → Type 0
  IsSo m es ss = Behind start m.sessions m.calls ss

  sends : (table : SessionsState) (calls : List AwaitedCall) (ss : List MdsSend) (s : MdsSend) → Behind start table calls ss → Behind start table calls (ss ++ s ∷ [])
  sends table calls ss s i = record { moves = i.moves; none = i.none; is = i.is; were = sent_more calls ss s i.were }

  called : (table : SessionsState) (calls : List AwaitedCall) (ss : List MdsSend) (call : AwaitedCall) → Behind start table calls ss
      → Behind start table (with_call call calls) (ss ++ call.sent ∷ [])
  called table calls ss call i = record { moves = i.moves; none = i.none; is = i.is; were = sent_with calls ss call i.were }

  moves_on : (table : SessionsState) (calls : List AwaitedCall) (ss : List MdsSend) (move : TableMove) → IsNoRequest move → Behind start table calls ss → Behind start (table_after table move) calls ss
  moves_on table calls ss move none i = record {
    moves = i.moves ++ move ∷ [];
    none = all_push IsNoRequest i.moves move i.none none;
    is = ap (λ (t : SessionsState). table_after t move) i.is ∙ sym (table_joins start i.moves (move ∷ []));
    were = i.were;
  }

  inputs : (m : MdsValue) (file : FileId) (s : ServedFile) (step : FileStep) (es : List Entry) (ss : List MdsSend) → IsSo m es ss → IsSo (file_stepped m file s step).mds (es ++ step.entries) ss
  inputs m file s step es ss i =
      let n : MdsValue = with_served (record m { fresh = drawn m.fresh step }) file (file_behind s step) in
      cond_both (list_any is_period_end step.entries) (record n { recalls = without_file file n.recalls }) n (λ (x : MdsValue). Behind start x.sessions x.calls ss) (λ end. i) (λ other. i)

  cases : Cases IsSo HeardAny
  cases = record {
    quiet = λ m confirmed opens reclaimed recalls es ss i. i;
    tables = λ m move none es ss i. moves_on m.sessions m.calls ss move none i;
    replies = λ m node reply es ss i. sends m.sessions m.calls ss (Replies node reply) i;
    answers = λ m node bytes reply is es ss i. sends m.sessions m.calls ss (Answers node bytes) i;
    notes = λ m e is es ss i. i;
    puts = λ m file s t at same write es ss i. i;
    inputs = λ m file s input itself at fresh es ss i. inputs m file s (phase file s.file input m.fresh) es ss i;
    timeouts = λ m file s xid at fresh es ss i. inputs m file s (phase file s.file (TimesOut xid) m.fresh) es ss i;
    hears = λ m file s call server own uid c replies heard caller sent out at fresh es ss i. inputs m file s (phase file s.file (IsAnswer call.xid (own_answer c (replies c))) m.fresh) es ss i;
    learns = λ m file s call server own uid c replies fileid shown heard caller sent named shows at fresh es ss i. inputs m file s (phase file s.file (Sees (record { server = server; fileid = fileid }) shown.seen) m.fresh) es ss i;
    makes = λ m name may es ss i. i;
    calls_file = λ m file s c at has its es ss i.
        called m.sessions m.calls ss (record { node = Server c.server; xid = m.next_xid; caller = ForFile file; sent = CallsServer c.server m.next_xid c.uid c.call }) i;
    calls_write = λ m file s w c at has waits its is_write es ss i.
        called m.sessions m.calls ss (record { node = Server c.id.server; xid = m.next_xid; caller = ForWrite file; sent = CallsServer c.id.server m.next_xid w.writer.cred c.call }) i;
    calls_read = λ m file s t server call at has same write uid is_read es ss i.
        called m.sessions m.calls ss (record { node = Server server; xid = m.next_xid; caller = ForRead file; sent = CallsServer server m.next_xid 0 call }) i;
    calls_back = λ m node back file stateid has es ss i.
        called m.sessions m.calls ss (record { node = node; xid = m.next_xid; caller = ForRecall; sent = CallsBack m.next_xid back file stateid }) i;
    skips = λ m has es ss i. i;
    forgets = λ m test es ss i. record { moves = i.moves; none = i.none; is = i.is; were = sent_kept test m.calls ss i.were };
    was = λ m es ss i. i.were;
    again = λ m s es ss i inside. sends m.sessions m.calls ss s i;
  }

-- ---- an event

-- what takes effect with the calls that an event begins with is what takes effect with the event
asked_takes : (session : SessionId) (slot now : ℕ) (m : MdsValue) (from : NodeId) (o : Option Sequence) → effects_from session slot m.sessions (request_moves now from o) ≡ effect_asked session slot m from o
asked_takes session slot now m from None = refl
asked_takes session slot now m from (Some request) = append-nil (effect_on session slot (after_binding m.sessions request.session from) request)

begun_takes : (session : SessionId) (slot now : ℕ) (m : MdsValue) (input : MdsInput) → effects_from session slot m.sessions (begun_moves now input) ≡ effect_in session slot m input
begun_takes session slot now m (Hears from bytes) = asked_takes session slot now m from (request_in (incoming_of bytes))
begun_takes session slot now m (IsTimedOut to which) = refl
begun_takes session slot now m Ticks = refl
begun_takes session slot now m (RecallsFile file) = refl
begun_takes session slot now m (Resilvers file) = refl

-- the calls of the table that an event comes to
pub record EventMoves (e : MdsEvent) (m : MdsValue) (ss : List MdsSend) : Type 0 where
  pub moves : List TableMove
  pub is : (after_event e m).mds.sessions ≡ table_from m.sessions moves
  pub effects : (session : SessionId) (slot : ℕ) → effects_from session slot m.sessions moves ≡ effect_in session slot m e.input
  pub were : WereSent (after_event e m).mds.calls (ss ++ (after_event e m).sends)

event_moves : (e : MdsEvent) (m : MdsValue) (ss : List MdsSend) → WereSent m.calls ss → EventMoves e m ss
event_moves e m ss were =
    let begun : List TableMove = begun_moves e.now e.input in
    let start : SessionsState = table_from m.sessions begun in
    let b : Behind start (after_event e m).mds.sessions (after_event e m).mds.calls (ss ++ (after_event e m).sends) =
    input_walk (IsSo start) HeardAny (each_case (IsSo start) HeardAny (cases start)) e.now e.input m (hears_any (IsSo start) e.input) [] ss (record { moves = []; none = tt; is = refl; were = were }) in
    record {
      moves = begun ++ b.moves;
      is = b.is ∙ sym (table_joins m.sessions begun b.moves);
      effects = λ session slot.
          effects_join session slot m.sessions begun b.moves
          ∙ ap (λ l. effects_from session slot m.sessions begun ++ l) (none_take session slot start b.moves b.none)
          ∙ append-nil (effects_from session slot m.sessions begun)
          ∙ begun_takes session slot e.now m e.input;
      were = b.were;
    }

-- ---- a run

-- calls of the table with the effects of the run
pub record RunMoves (m : MdsValue) (events : List MdsEvent) : Type 0 where
  pub moves : List TableMove
  pub effects : (session : SessionId) (slot : ℕ) → effects_from session slot m.sessions moves ≡ effects_in session slot m events

run_moves : (events : List MdsEvent) (m : MdsValue) (ss : List MdsSend) → WereSent m.calls ss → RunMoves m events
run_moves [] m ss were = record { moves = []; effects = λ session slot. refl }
run_moves (e ∷ events) m ss were =
    let a : EventMoves e m ss = event_moves e m ss were in
    let n : MdsValue = (after_event e m).mds in
    let b : RunMoves n events = run_moves events n (ss ++ (after_event e m).sends) a.were in
    record {
      moves = a.moves ++ b.moves;
      effects = λ session slot.
          effects_join session slot m.sessions a.moves b.moves
          ∙ ap (λ l. l ++ effects_from session slot (table_from m.sessions a.moves) b.moves) (a.effects session slot)
          ∙ ap (λ (t : SessionsState). effect_in session slot m e.input ++ effects_from session slot t b.moves) (sym a.is)
          ∙ ap (λ l. effect_in session slot m e.input ++ l) (b.effects session slot);
    }

-- so what holds over every list of calls of a table holds of every run
pub requests_once : UsesSlotsOnce → (servers : List AddressValue) (mirrors : ℕ) (events : List MdsEvent) → RequestsTakeEffectOnce servers mirrors events
requests_once slots servers mirrors events session slot =
    let r : RunMoves (new_mds servers mirrors) events = run_moves events (new_mds servers mirrors) [] (λ call inside. absurd inside) in
    subst (λ (l : List ℕ). AreNumbered l × TakeEffectOnce l) (r.effects session slot) (slots 1 r.moves session slot)

-- ---- a request that does not take effect

module _ (now : ℕ) (m : MdsValue) (node : NodeId) (xid : ℕ) (v : CompoundValue) where
  answered_alone : (ops : List (Value argop4)) (s : Sequence) (a : SlotAnswer)
      → OnlyEffectsChange m node xid v s (sequenced now (record m { sessions = after_binding m.sessions s.session node }) (new_run node xid v) ops s a) a
  answered_alone ops s TakesEffect = tt
  answered_alone ops s (Repeats reply) = record { mds = refl; entries = refl; sends = refl }
  answered_alone ops s (Refuses status) = record { mds = refl; entries = refl; sends = refl }

  first_alone : (request : Sequence) (op : Value argop4) (ops : List (Value argop4)) (o : Option (Value sequence4_args)) → option_map sequence_in o ≡ Some request
      → OnlyEffectsChange m node xid v request (first_by now m (new_run node xid v) v.count op ops o) (request_answer (after_binding m.sessions request.session node) request)
  first_alone request op ops None is = absurd (none-some request is)
  first_alone request op ops (Some args) is =
      subst (λ (r : Sequence). OnlyEffectsChange m node xid v r (first_by now m (new_run node xid v) v.count op ops (Some args)) (request_answer (after_binding m.sessions r.session node) r))
      (same_Some (sequence_in args) request is) (answered_alone ops (sequence_in args) (request_answer (after_binding m.sessions (sequence_in args).session node) (sequence_in args)))

  ops_alone : (request : Sequence) (ops : List (Value argop4)) → first_request ops ≡ Some request
      → OnlyEffectsChange m node xid v request (first_operation now m (new_run node xid v) v.count ops) (request_answer (after_binding m.sessions request.session node) request)
  ops_alone request [] is = absurd (none-some request is)
  ops_alone request (op ∷ ops) is = first_alone request op ops (sequence_of op) is

pub repeats_change_nothing : RepeatsChangeNothing
repeats_change_nothing now m node xid v request is = ops_alone now m node xid v request v.ops.values is
