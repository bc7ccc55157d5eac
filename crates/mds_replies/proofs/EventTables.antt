-- What an event makes of the table of clients: the request that it brings begins, and behind that come calls of the table that are no requests.
use Rattle.std.proofs.Common.{◌≡◌, ℕ, Bool, true, false, cond, List, [], ◌∷◌, ◌++◌, Option, Some, None, refl, ap, ◌∙◌}
use Rattle.std.specs.Prelude.{◌==◌, ◌&&◌}
use Rattle.std.specs.List.{list_any}
use Rattle.std.proofs.lemmas.Bool.{cond_both}
use Rattle.cluster_model.specs.declared.ids.NodeId.{NodeId}
use Rattle.cluster_model.specs.declared.ids.NodeId.TheVariants.{Server}
use Rattle.cluster_model.specs.declared.ids.FileId.{FileId}
use Rattle.cluster_model.specs.declared.entry.Entry.{Entry}
use Rattle.file_rule.specs.FilePhases.{Answers as IsAnswer, TimesOut, Sees, phase}
use Rattle.file_rule.specs.MdsFiles.{FileStep}
use Rattle.mds_rows.specs.Draws.{drawn}
use Rattle.recall.specs.Recalls.{without_file}
use Rattle.nfs4_types.specs.declared.ids.SessionId.{SessionId}
use Rattle.nfs4_types.specs.declared.sequence.Sequence.{Sequence}
use Rattle.nfs4_compound.specs.Compounds.{CompoundValue}
use Rattle.nfs4_session.specs.Slots.{SlotAnswer, TakesEffect, Repeats, Refuses}
use Rattle.nfs4_session.specs.Clients.{SessionsState}
use Rattle.nfs4_session.specs.Requests.{request_answer, after_request}
use Rattle.nfs4_session.specs.Bindings.{after_binding}
use Rattle.nfs4_session.specs.Beginning.{table_begun}
use Rattle.nfs4_session.specs.TableLaw.{TableMove, table_after}
use Rattle.table_slots.specs.TableSlots.{is_of_session, is_of_slot, number_taken, effect_on, table_from}
use Rattle.client_mds_calls.specs.MdsCalls.{SlotCallValue, ExchangeId, CreateSession, OnSlot}
use Rattle.mds_receive.specs.MdsReceive.{IncomingValue, PassedOver, IsReply, IsAnswered, IsCompound, incoming_of}
use Rattle.mds_rule.specs.Answers.{own_answer}
use Rattle.mds_rule.specs.MdsStates.{ServedFile, MdsSend, CallsServer, CallsBack, Replies, Answers, AwaitedCall, MdsValue, with_call, with_served}
use Rattle.mds_rule.specs.declared.waiter.Waiter.TheVariants.{ForFile, ForRead, ForWrite, ForRecall}
use Rattle.mds_rule.specs.ServedFiles.{is_period_end, file_behind, file_stepped}
use Rattle.mds_walk.specs.MdsRuns.{MdsInput, MdsEvent, Hears, IsTimedOut, Ticks, RecallsFile, Resilvers, after_event}
use Rattle.mds_walk.specs.FirstRequests.{first_request, request_in}
use Rattle.mds_laws.specs.SlotUses.{effect_asked, effect_in}
use Rattle.mds_laws.proofs.Keeping.{IsNoRequest, Cases}
use Rattle.mds_walk.proofs.Parts.{HeardAny}
use Rattle.mds_walk.proofs.Keeping.{hears_any}
use Rattle.mds_walk.proofs.Requested.{request_moves, begun_moves}
use Rattle.mds_laws.proofs.Numbers.{WereSent, sent_more, sent_with, sent_kept}
use Rattle.mds_laws.proofs.CasesOfEach.{each_case}
use Rattle.mds_laws.proofs.GoesWalk.{input_walk}
use Rattle.mds_replies.specs.ClientCalls.{IsCallFrom}
use Rattle.mds_replies.specs.SlotReplies.{request_of}
use Rattle.mds_replies.proofs.PeriodKept.{sent_with_calls, in_sent}
use Rattle.mds_replies.proofs.CallEvents.{Brings, ACall, Nothing}

-- ---- what calls of the table keep that are no requests

module _ (P : SessionsState → Type 0) (keeps : (s : SessionsState) (move : TableMove) → IsNoRequest move → P s → P (table_after s move)) where
  record Stands (s : SessionsState) (calls : List AwaitedCall) (ss : List MdsSend) : Type 0 where
    pub table : P s
    pub were : WereSent calls ss

  abbrev IsSo : MdsValue → List Entry → List MdsSend → Type 0
  IsSo m es ss = Stands m.sessions m.calls ss

  sends : (s : SessionsState) (calls : List AwaitedCall) (ss : List MdsSend) (x : MdsSend) → Stands s calls ss → Stands s calls (ss ++ x ∷ [])
  sends s calls ss x i = record { table = i.table; were = sent_more calls ss x i.were }

  called : (s : SessionsState) (calls : List AwaitedCall) (ss : List MdsSend) (call : AwaitedCall) → Stands s calls ss → Stands s (with_call call calls) (ss ++ call.sent ∷ [])
  called s calls ss call i = record { table = i.table; were = sent_with calls ss call i.were }

  inputs : (m : MdsValue) (file : FileId) (s : ServedFile) (step : FileStep) (es : List Entry) (ss : List MdsSend) → IsSo m es ss → IsSo (file_stepped m file s step).mds (es ++ step.entries) ss
  inputs m file s step es ss i =
      let n : MdsValue = with_served (record m { fresh = drawn m.fresh step }) file (file_behind s step) in
      cond_both (list_any is_period_end step.entries) (record n { recalls = without_file file n.recalls }) n (λ (x : MdsValue). Stands x.sessions x.calls ss) (λ end. i) (λ other. i)

  cases : Cases IsSo HeardAny
  cases = record {
    quiet = λ m confirmed opens reclaimed recalls es ss i. i;
    tables = λ m move none es ss i. record { table = keeps m.sessions move none i.table; were = i.were };
    replies = λ m node reply es ss i. sends m.sessions m.calls ss (Replies node reply) i;
    answers = λ m node bytes reply is es ss i. sends m.sessions m.calls ss (Answers node bytes) i;
    notes = λ m e is es ss i. i;
    puts = λ m file s t at same write es ss i. i;
    inputs = λ m file s input itself at fresh es ss i. inputs m file s (phase file s.file input m.fresh) es ss i;
    timeouts = λ m file s xid at fresh es ss i. inputs m file s (phase file s.file (TimesOut xid) m.fresh) es ss i;
    hears = λ m file s call server own uid c replies heard caller sent out at fresh es ss i. inputs m file s (phase file s.file (IsAnswer call.xid (own_answer c (replies c))) m.fresh) es ss i;
    learns = λ m file s call server own uid c replies fileid shown heard caller sent named shows at fresh es ss i. inputs m file s (phase file s.file (Sees (record { server = server; fileid = fileid }) shown.seen) m.fresh) es ss i;
    makes = λ m name may es ss i. i;
    calls_file = λ m file s c at has its es ss i.
        called m.sessions m.calls ss (record { node = Server c.server; xid = m.next_xid; caller = ForFile file; sent = CallsServer c.server m.next_xid c.uid c.call }) i;
    calls_write = λ m file s w c at has waits its is_write es ss i.
        called m.sessions m.calls ss (record { node = Server c.id.server; xid = m.next_xid; caller = ForWrite file; sent = CallsServer c.id.server m.next_xid w.writer.cred c.call }) i;
    calls_read = λ m file s t server call at has same write uid is_read es ss i.
        called m.sessions m.calls ss (record { node = Server server; xid = m.next_xid; caller = ForRead file; sent = CallsServer server m.next_xid 0 call }) i;
    calls_back = λ m node back file stateid has es ss i.
        called m.sessions m.calls ss (record { node = node; xid = m.next_xid; caller = ForRecall; sent = CallsBack m.next_xid back file stateid }) i;
    skips = λ m has es ss i. i;
    forgets = λ m test es ss i. record { table = i.table; were = sent_kept test m.calls ss i.were };
    was = λ m es ss i. i.were;
    again = λ m s es ss i inside. sends m.sessions m.calls ss s i;
  }

  -- it is kept from where the event's request has begun
  pub event_table : (e : MdsEvent) (m : MdsValue) → P (table_from m.sessions (begun_moves e.now e.input)) → P (after_event e m).mds.sessions
  event_table e m p = walked.table
    where
      walked : Stands (after_event e m).mds.sessions (after_event e m).mds.calls (sent_with_calls m.calls ++ (after_event e m).sends)
      walked = input_walk IsSo HeardAny (each_case IsSo HeardAny cases) e.now e.input m (hears_any IsSo e.input) [] (sent_with_calls m.calls) (record { table = p; were = λ call inside. in_sent call m.calls inside })

-- ---- the request that an event brings

module _ (e : MdsEvent) (m : MdsValue) where
  -- none begins; one does not take effect; or one does
  pub data Turn : Type 0 where
    NoneBegins : table_from m.sessions (begun_moves e.now e.input) ≡ m.sessions → ((s : SessionId) → effect_in s 0 m e.input ≡ []) → Turn
    NoneTakes : (session : SessionId) (node : NodeId) → table_from m.sessions (begun_moves e.now e.input) ≡ after_binding m.sessions session node → ((s : SessionId) → effect_in s 0 m e.input ≡ []) → Turn
    Takes : (node : NodeId) (xid : ℕ) (name : List ℕ) (session : SessionId) (number : ℕ) (call : SlotCallValue) → IsCallFrom e node xid name (OnSlot session number call)
        → request_answer (after_binding m.sessions session node) (request_of session number call) ≡ TakesEffect
        → table_from m.sessions (begun_moves e.now e.input) ≡ after_request (after_binding m.sessions session node) (request_of session number call) e.now
        → ((s : SessionId) → is_of_session s session ≡ true → effect_in s 0 m e.input ≡ number ∷ []) → ((s : SessionId) → is_of_session s session ≡ false → effect_in s 0 m e.input ≡ []) → Turn

  -- what begins, by the request that comes
  module _ (node : NodeId) (bytes : List ℕ) (input : e.input ≡ Hears node bytes) (o : Option Sequence) (request : request_in (incoming_of bytes) ≡ o) where
    moves_are : table_from m.sessions (begun_moves e.now e.input) ≡ table_from m.sessions (request_moves e.now node o)
    moves_are = ap (λ (i : MdsInput). table_from m.sessions (begun_moves e.now i)) input ∙ ap (λ (x : Option Sequence). table_from m.sessions (request_moves e.now node x)) request

    effects_are : (s : SessionId) → effect_in s 0 m e.input ≡ effect_asked s 0 m node o
    effects_are s = ap (effect_in s 0 m) input ∙ ap (effect_asked s 0 m node) request

  no_request : (node : NodeId) (bytes : List ℕ) → e.input ≡ Hears node bytes → request_in (incoming_of bytes) ≡ None → Turn
  no_request node bytes input none = NoneBegins (moves_are node bytes input None none) (effects_are node bytes input None none)

  neither : (b : Bool) → cond {A = List ℕ} b [] [] ≡ []
  neither true = refl
  neither false = refl

  module _ (node : NodeId) (xid : ℕ) (name : List ℕ) (session : SessionId) (number : ℕ) (call : SlotCallValue) (came : IsCallFrom e node xid name (OnSlot session number call)) where
    asked : request_in (incoming_of came.bytes) ≡ Some (request_of session number call)
    asked = ap request_in came.compound ∙ ap first_request came.is.ops

    abbrev bound : SessionsState
    bound = after_binding m.sessions session node

    abbrev its : Sequence
    its = request_of session number call

    begins : table_from m.sessions (begun_moves e.now e.input) ≡ table_begun bound (after_request bound its e.now) (request_answer bound its)
    begins = moves_are node came.bytes came.input (Some (request_of session number call)) asked

    effects : (s : SessionId) → effect_in s 0 m e.input ≡ effect_on s 0 bound its
    effects s = effects_are node came.bytes came.input (Some (request_of session number call)) asked s

    by_answer : (a : SlotAnswer) → request_answer (after_binding m.sessions session node) (request_of session number call) ≡ a → (s : SessionId) → effect_in s 0 m e.input ≡ cond (is_of_slot s 0 its) (number_taken its a) []
    by_answer a is s = effects s ∙ ap (λ (x : SlotAnswer). cond (is_of_slot s 0 its) (number_taken its x) []) is

    and_one : (b : Bool) → (b && (0 == 0)) ≡ b
    and_one true = refl
    and_one false = refl

    on_turn : (a : SlotAnswer) → request_answer (after_binding m.sessions session node) (request_of session number call) ≡ a → Turn
    on_turn TakesEffect is =
        Takes node xid name session number call came is (begins ∙ ap (table_begun bound (after_request bound its e.now)) is)
        (λ s same. by_answer TakesEffect is s ∙ ap (λ (b : Bool). cond {A = List ℕ} b (number ∷ []) []) (and_one (is_of_session s session) ∙ same))
        (λ s other. by_answer TakesEffect is s ∙ ap (λ (b : Bool). cond {A = List ℕ} b (number ∷ []) []) (and_one (is_of_session s session) ∙ other))
    on_turn (Repeats reply) is = NoneTakes session node (begins ∙ ap (table_begun bound (after_request bound its e.now)) is) (λ s. by_answer (Repeats reply) is s ∙ neither (is_of_slot s 0 its))
    on_turn (Refuses status) is = NoneTakes session node (begins ∙ ap (table_begun bound (after_request bound its e.now)) is) (λ s. by_answer (Refuses status) is s ∙ neither (is_of_slot s 0 its))

  by_incoming : (node : NodeId) (bytes : List ℕ) → e.input ≡ Hears node bytes → (v : IncomingValue) → incoming_of bytes ≡ v → ((xid : ℕ) (c : CompoundValue) → incoming_of bytes ≡ IsCompound xid c → ⊥) → Turn
  by_incoming node bytes input PassedOver at none = no_request node bytes input (ap request_in at)
  by_incoming node bytes input (IsReply reply) at none = no_request node bytes input (ap request_in at)
  by_incoming node bytes input (IsAnswered given) at none = no_request node bytes input (ap request_in at)
  by_incoming node bytes input (IsCompound xid c) at none = absurd (none xid c at)

  silent : (i : MdsInput) → e.input ≡ i → table_from m.sessions (begun_moves e.now i) ≡ m.sessions → ((s : SessionId) → effect_in s 0 m i ≡ []) → Turn
  silent i at still none = NoneBegins (ap (λ (x : MdsInput). table_from m.sessions (begun_moves e.now x)) at ∙ still) (λ s. ap (effect_in s 0 m) at ∙ none s)

  by_input : (i : MdsInput) → e.input ≡ i → ((node : NodeId) (bytes : List ℕ) → e.input ≡ Hears node bytes → (xid : ℕ) (c : CompoundValue) → incoming_of bytes ≡ IsCompound xid c → ⊥) → Turn
  by_input (Hears node bytes) at none = by_incoming node bytes at (incoming_of bytes) refl (none node bytes at)
  by_input (IsTimedOut to which) at none = silent (IsTimedOut to which) at refl (λ s. refl)
  by_input Ticks at none = silent Ticks at refl (λ s. refl)
  by_input (RecallsFile file) at none = silent (RecallsFile file) at refl (λ s. refl)
  by_input (Resilvers file) at none = silent (Resilvers file) at refl (λ s. refl)

  pub turn : Brings e → Turn
  turn (ACall node xid name (ExchangeId verifier) came fits) = no_request node came.bytes came.input (ap request_in came.compound ∙ ap first_request came.is.ops)
  turn (ACall node xid name (CreateSession client sequence) came fits) = no_request node came.bytes came.input (ap request_in came.compound ∙ ap first_request came.is.ops)
  turn (ACall node xid name (OnSlot session number call) came fits) =
      on_turn node xid name session number call came (request_answer (after_binding m.sessions session node) (request_of session number call)) refl
  turn (Nothing none) = by_input e.input refl none
