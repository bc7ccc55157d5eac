-- The last number of each session's first slot is how many of the session's requests took effect, in every run.
use Rattle.std.proofs.Common.{◌≡◌, ◌≤◌, ◌<◌, ℕ, ◌+◌, Bool, true, false, cond, List, [], ◌∷◌, ◌++◌, length, Option, Some, None, refl, sym, ap, subst, ◌∙◌, arith, inl, inr, ◌⊎◌}
use Rattle.std.specs.Prelude.{◌==◌, ◌&&◌, nat_lt}
use Rattle.std.specs.List.{find}
use Rattle.std.proofs.lemmas.Bool.{cond_both, and_parts, eqb-true, eq-eqb}
use Rattle.std.proofs.lemmas.List.{append_assoc, append-nil, length-append}
use Rattle.device_addr.specs.Universal.{AddressValue}
use Rattle.cluster_model.specs.declared.ids.NodeId.{NodeId}
use Rattle.nfs4_types.specs.declared.ids.SessionId.{SessionId}
use Rattle.nfs4_types.specs.declared.sequence.Sequence.{Sequence}
use Rattle.nfs4_types.specs.declared.status.Stat4.{Stat4}
use Rattle.nfs4_types.specs.declared.status.Stat4.TheVariants.{BadSession}
use Rattle.nfs4_session.specs.declared.faults.IdFault.{IdFault}
use Rattle.nfs4_session.specs.declared.slot.TheConstants.{MAX_KEPT}
use Rattle.nfs4_session.specs.Slots.{SlotState, SlotReply, NoRequest, InProgress, Cached, Uncached as NotKept, TakesEffect, Refuses, is_in_progress, slot_begun, slot_finished, kept_as}
use Rattle.nfs4_session.specs.Clients.{ClientState, SessionState, SessionsState, has_id, client_in, number_in, change_session}
use Rattle.nfs4_session.specs.ExchangeIds.{ExchangeCase, IsKnown, IsAgain, ReplacesUnconfirmed, Restarts, IsNewOwner, exchange_case, exchange_fault, after_exchange}
use Rattle.nfs4_session.specs.CreateSessions.{CreateSessionCase, IsDue, IsReplay, IsMisordered, HasNoRoom, IsStale, create_session_case, after_creating}
use Rattle.nfs4_session.specs.Requests.{request_answer, change_slot, after_request}
use Rattle.nfs4_session.specs.Bindings.{after_binding, last_session}
use Rattle.nfs4_session.specs.Ends.{without_client, destroy_client_fault, has_ended}
use Rattle.nfs4_session.specs.TableLaw.{TableMove, ExchangeId, CreateSession, BeginRequest, FinishRequest, Bind, CallBack, DestroySession, DestroyClient, Expire, table_after, exchanged_unless, called_back_by, destroyed_unless, expired_by, KeepsTable}
use Rattle.table_slots.specs.TableSlots.{is_of_session, number_taken, effect_on, table_from}
use Rattle.client_mds_calls.specs.MdsCalls.{SlotCallValue, OnSlot}
use Rattle.mds_receive.specs.MdsReceive.{incoming_of}
use Rattle.mds_rule.specs.MdsStates.{MdsValue, new_mds}
use Rattle.mds_walk.specs.MdsRuns.{MdsInput, MdsEvent, Hears, IsTimedOut, Ticks, RecallsFile, Resilvers, after_event}
use Rattle.mds_walk.specs.FirstRequests.{request_in}
use Rattle.mds_laws.specs.SlotUses.{effect_asked, effect_in, effects_in}
use Rattle.mds_laws.proofs.Keeping.{IsNoRequest}
use Rattle.mds_walk.proofs.Requested.{begun_moves}
use Rattle.mds_replies.specs.ClientCalls.{IsCallFrom, server_after, IsEventOf}
use Rattle.mds_replies.specs.SlotReplies.{request_of, count_taken, EffectsAreNumbered}
use Rattle.mds_replies.specs.AnsweredRequests.{AreFitCalls, StaysRoomy}
use Rattle.mds_replies.proofs.Effects.{effects_behind}
use Rattle.mds_replies.proofs.TakenMeans.{are_calls, one_more}
use Rattle.mds_replies.proofs.CallEvents.{brings}
use Rattle.mds_replies.proofs.SlotTables.{TableSo, table_more, move_with, renewed_so, SlotJudged, NoSession, BySlot, judged}
use Rattle.mds_replies.proofs.FreeSlots.{run_table_on, run_table, is_table, change_one, kept_free}
use Rattle.mds_replies.proofs.RequestRuns.{fit_at}
use Rattle.mds_replies.proofs.EventTables.{event_table, Turn, NoneBegins, NoneTakes, Takes, turn}

-- ---- counts

-- of one session
pub key_same : (session asked : SessionId) → client_in asked ≡ client_in session → number_in asked ≡ number_in session → is_of_session session asked ≡ true
key_same session asked client number = both (client_in asked == client_in session) (number_in asked == number_in session) (eq-eqb (client_in asked) (client_in session) client) (eq-eqb (number_in asked) (number_in session) number)
  where
    both : (a b : Bool) → a ≡ true → b ≡ true → (a && b) ≡ true
    both true b first second = second
    both false b first second = absurd cc

pub its_key : (session asked : SessionId) → is_of_session session asked ≡ true → (client_in asked ≡ client_in session) × (number_in asked ≡ number_in session)
its_key session asked is =
    let parts = and_parts (client_in asked == client_in session) (number_in asked == number_in session) is in (eqb-true (client_in asked) (client_in session) parts.0, eqb-true (number_in asked) (number_in session) parts.1)

-- ids that the table reads as one have the same effects
module _ (s t : SessionId) (client : client_in t ≡ client_in s) (number : number_in t ≡ number_in s) where
  same_on : (x : SessionsState) (r : Sequence) → effect_on s 0 x r ≡ effect_on t 0 x r
  same_on x r =
      ap (λ (k : ℕ). cond {A = List ℕ} (((client_in r.session == k) && (number_in r.session == number_in s)) && (r.slot == 0)) (number_taken r (request_answer x r)) []) (sym client)
      ∙ ap (λ (j : ℕ). cond {A = List ℕ} (((client_in r.session == client_in t) && (number_in r.session == j)) && (r.slot == 0)) (number_taken r (request_answer x r)) []) (sym number)

  same_asked : (m : MdsValue) (from : NodeId) (o : Option Sequence) → effect_asked s 0 m from o ≡ effect_asked t 0 m from o
  same_asked m from None = refl
  same_asked m from (Some r) = same_on (after_binding m.sessions r.session from) r

  same_effect : (m : MdsValue) (input : MdsInput) → effect_in s 0 m input ≡ effect_in t 0 m input
  same_effect m (Hears from bytes) = same_asked m from (request_in (incoming_of bytes))
  same_effect m (IsTimedOut to which) = refl
  same_effect m Ticks = refl
  same_effect m (RecallsFile file) = refl
  same_effect m (Resilvers file) = refl

  same_effects : (m : MdsValue) (events : List MdsEvent) → effects_in s 0 m events ≡ effects_in t 0 m events
  same_effects m [] = refl
  same_effects m (e ∷ events) =
      ap (λ (l : List ℕ). l ++ effects_in s 0 (after_event e m).mds events) (same_effect m e.input) ∙ ap (λ (l : List ℕ). effect_in t 0 m e.input ++ l) (same_effects (after_event e m).mds events)

module _ (servers : List AddressValue) (mirrors : ℕ) where
  pub same_count : (session asked : SessionId) → is_of_session session asked ≡ true → (events : List MdsEvent) → count_taken servers mirrors events session ≡ count_taken servers mirrors events asked
  same_count session asked is events = let key = its_key session asked is in ap length (same_effects session asked key.0 key.1 (new_mds servers mirrors) events)

  pub count_grows : (past more : List MdsEvent) (s : SessionId) → count_taken servers mirrors past s ≤ count_taken servers mirrors (past ++ more) s
  count_grows past more s =
      let sum : count_taken servers mirrors (past ++ more) s ≡ count_taken servers mirrors past s + length (effects_in s 0 (server_after servers mirrors past) more) =
      ap length (effects_behind s 0 (new_mds servers mirrors) past more) ∙ length-append (effects_in s 0 (new_mds servers mirrors) past) (effects_in s 0 (server_after servers mirrors past) more) in
      omega (arith, sum)

  module _ (past : List MdsEvent) (e : MdsEvent) (s : SessionId) where
    count_behind : count_taken servers mirrors (past ++ e ∷ []) s ≡ count_taken servers mirrors past s + length (effect_in s 0 (server_after servers mirrors past) e.input)
    count_behind =
        ap length (effects_behind s 0 (new_mds servers mirrors) past (e ∷ [])) ∙ length-append (effects_in s 0 (new_mds servers mirrors) past) (effects_in s 0 (server_after servers mirrors past) (e ∷ []))
        ∙ ap (λ (l : List ℕ). length (effects_in s 0 (new_mds servers mirrors) past) + length l) (append-nil (effect_in s 0 (server_after servers mirrors past) e.input))

    pub none_counts : effect_in s 0 (server_after servers mirrors past) e.input ≡ [] → count_taken servers mirrors (past ++ e ∷ []) s ≡ count_taken servers mirrors past s
    none_counts none =
        let sum : count_taken servers mirrors (past ++ e ∷ []) s ≡ count_taken servers mirrors past s + length (effect_in s 0 (server_after servers mirrors past) e.input) = count_behind in
        let zero : length (effect_in s 0 (server_after servers mirrors past) e.input) ≡ 0 = ap length none in
        omega (arith, sum, zero)

    pub one_counts : (n : ℕ) → effect_in s 0 (server_after servers mirrors past) e.input ≡ n ∷ [] → count_taken servers mirrors (past ++ e ∷ []) s ≡ count_taken servers mirrors past s + 1
    one_counts n one =
        let sum : count_taken servers mirrors (past ++ e ∷ []) s ≡ count_taken servers mirrors past s + length (effect_in s 0 (server_after servers mirrors past) e.input) = count_behind in
        let its : length (effect_in s 0 (server_after servers mirrors past) e.input) ≡ 1 = ap length one in
        omega (arith, sum, its)

-- ---- sessions are numbered in the order in which they are made

abbrev GoesOn : SessionsState → SessionsState → Type 0
GoesOn s after = (after.numbers ≡ s.numbers) ⊎ (after.numbers ≡ s.numbers + 1)

numbers_exchanged : (s : SessionsState) (verifier owner : List ℕ) (now : ℕ) (case : ExchangeCase) (fault : Option IdFault) → GoesOn s (exchanged_unless s (after_exchange s verifier owner now case) fault)
numbers_exchanged s verifier owner now case (Some fault) = inl refl
numbers_exchanged s verifier owner now (IsKnown c) None = inl refl
numbers_exchanged s verifier owner now (IsAgain c) None = inl refl
numbers_exchanged s verifier owner now ReplacesUnconfirmed None = inl refl
numbers_exchanged s verifier owner now Restarts None = inl refl
numbers_exchanged s verifier owner now IsNewOwner None = inl refl

numbers_created : (s : SessionsState) (program : ℕ) (node : NodeId) (now : ℕ) (case : CreateSessionCase) → GoesOn s (after_creating s program node now case)
numbers_created s program node now (IsDue c) = inr refl
numbers_created s program node now (IsReplay session) = inl refl
numbers_created s program node now IsMisordered = inl refl
numbers_created s program node now HasNoRoom = inl refl
numbers_created s program node now IsStale = inl refl

numbers_back : (s : SessionsState) (client : ℕ) (o : Option SessionState) → GoesOn s (called_back_by s client o)
numbers_back s client None = inl refl
numbers_back s client (Some session) = inl refl

numbers_destroyed : (s : SessionsState) (client : ℕ) (fault : Option Stat4) → GoesOn s (destroyed_unless s (without_client s client) fault)
numbers_destroyed s client None = inl refl
numbers_destroyed s client (Some status) = inl refl

numbers_expired : (s : SessionsState) (o : Option ClientState) → GoesOn s (expired_by s o)
numbers_expired s None = inl refl
numbers_expired s (Some c) = inl refl

numbers_go : (s : SessionsState) (move : TableMove) → IsNoRequest move → GoesOn s (table_after s move)
numbers_go s (ExchangeId verifier owner now) is = numbers_exchanged s verifier owner now (exchange_case s.clients verifier owner) (exchange_fault s (exchange_case s.clients verifier owner))
numbers_go s (CreateSession client sequence program node now) is = numbers_created s program node now (create_session_case s client sequence)
numbers_go s (BeginRequest request now) is = absurd is
numbers_go s (FinishRequest pass reply) is = inl refl
numbers_go s (Bind session node) is = inl refl
numbers_go s (CallBack client) is = numbers_back s client (last_session (find (has_id client) s.clients))
numbers_go s (DestroySession session) is = inl refl
numbers_go s (DestroyClient client) is = numbers_destroyed s client (destroy_client_fault (find (has_id client) s.clients))
numbers_go s (Expire now) is = numbers_expired s (find (has_ended now) s.clients)

numbers_grow : (s after : SessionsState) → GoesOn s after → s.numbers ≤ after.numbers
numbers_grow s after (inl is) = let same : after.numbers ≡ s.numbers = is in omega (arith, same)
numbers_grow s after (inr is) = let more : after.numbers ≡ s.numbers + 1 = is in omega (arith, more)

kept_some : (reply : List ℕ) → kept_as reply ≡ NoRequest → ⊥
kept_some reply = cond_both (nat_lt MAX_KEPT (length reply)) NotKept (Cached reply) (λ (r : SlotReply). r ≡ NoRequest → ⊥) (λ long is. absurd cc) (λ short is. absurd cc)

not_begun : InProgress ≡ NoRequest → ⊥
not_begun is = absurd cc

-- ---- the slot counts

module _ (servers : List AddressValue) (mirrors : ℕ) where
  -- its session was made, and its last number is how many took effect; before any it is new
  pub record Counted (numbers : ℕ) (past : List MdsEvent) (client number : ℕ) (slot : SlotState) : Type 0 where
    pub given : number ≤ numbers
    pub fresh : slot.reply ≡ NoRequest → slot.last ≡ 0
    pub first : slot.last ≡ 0 → is_in_progress slot.reply ≡ false
    pub is : (s : SessionId) → client_in s ≡ client → number_in s ≡ number → slot.last ≡ count_taken servers mirrors past s

  -- so it is for each slot, and of a session that is not made yet no request took effect
  pub record CountedIn (past : List MdsEvent) (s : SessionsState) : Type 0 where
    pub slots : TableSo (Counted s.numbers past) s
    pub none : (x : SessionId) → s.numbers < number_in x → count_taken servers mirrors past x ≡ 0

  finished_counts : (past : List MdsEvent) (numbers client number sequence : ℕ) (reply : List ℕ) (slot : SlotState) → Counted numbers past client number slot → Counted numbers past client number (slot_finished sequence reply slot)
  finished_counts past numbers client number sequence reply slot p =
      cond_both ((slot.last == sequence) && is_in_progress slot.reply) (record { last = sequence; reply = kept_as reply }) slot (Counted numbers past client number)
      (λ on. record {
        given = p.given;
        fresh = λ new. absurd (kept_some reply new);
        first = λ zero. kept_free reply;
        is = λ s its so. sym (eqb-true slot.last sequence (and_parts (slot.last == sequence) (is_in_progress slot.reply) on).0) ∙ p.is s its so;
      })
      (λ off. p)

  pub counted_moves : (past : List MdsEvent) (s : SessionsState) (move : TableMove) → IsNoRequest move → CountedIn past s → CountedIn past (table_after s move)
  counted_moves past s move none i =
      let grow : s.numbers ≤ (table_after s move).numbers = numbers_grow s (table_after s move) (numbers_go s move none) in
      let on : TableSo (Counted (table_after s move).numbers past) s =
      table_more (Counted s.numbers past) (Counted (table_after s move).numbers past) (λ client number slot p. let low : number ≤ s.numbers = p.given in record { given = omega (arith, low, grow); fresh = p.fresh; first = p.first; is = p.is }) s i.slots in
      record {
        slots = move_with (Counted (table_after s move).numbers past) (λ client number sequence reply slot p. finished_counts past (table_after s move).numbers client number sequence reply slot p) s move
            (λ client due. let one : (table_after s move).numbers ≡ s.numbers + 1 = due in record { given = omega (arith, one); fresh = λ new. refl; first = λ zero. refl; is = λ x its so. sym (i.none x (above x so)) }) none on;
        none = λ x less. i.none x (let low : (table_after s move).numbers < number_in x = less in omega (arith, low, grow));
      }
    where
      above : (x : SessionId) → number_in x ≡ s.numbers + 1 → s.numbers < number_in x
      above x so = omega (arith, so)

  module _ (tables : KeepsTable) (numbered : EffectsAreNumbered) (events : List MdsEvent) (fit : AreFitCalls events) (roomy : StaysRoomy servers mirrors events) where
    -- ---- an event

    module _ (past after : List MdsEvent) (e : MdsEvent) (split : IsEventOf events past e after) where
      abbrev m : MdsValue
      m = server_after servers mirrors past

      abbrev now_past : List MdsEvent
      now_past = past ++ e ∷ []

      -- what it has of requests that took effect is what was before
      same_counts : ((x : SessionId) → effect_in x 0 (server_after servers mirrors past) e.input ≡ []) → (s : SessionsState) → CountedIn past s → CountedIn (past ++ e ∷ []) s
      same_counts none s i = record {
        slots = table_more (Counted s.numbers past) (Counted s.numbers (past ++ e ∷ [])) (λ client number slot p. record {
          given = p.given;
          fresh = p.fresh;
          first = p.first;
          is = λ x its so. p.is x its so ∙ sym (none_counts servers mirrors past e x (none x));
        }) s i.slots;
        none = λ x less. none_counts servers mirrors past e x (none x) ∙ i.none x less;
      }

      module _ (node : NodeId) (xid : ℕ) (name : List ℕ) (session : SessionId) (number : ℕ) (call : SlotCallValue) (came : IsCallFrom e node xid name (OnSlot session number call))
          (effect : request_answer (after_binding (server_after servers mirrors past).sessions session node) (request_of session number call) ≡ TakesEffect)
          (one : (x : SessionId) → is_of_session x session ≡ true → effect_in x 0 (server_after servers mirrors past) e.input ≡ number ∷ [])
          (others : (x : SessionId) → is_of_session x session ≡ false → effect_in x 0 (server_after servers mirrors past) e.input ≡ []) where
        abbrev bound : SessionsState
        bound = after_binding (server_after servers mirrors past).sessions session node

        pub number_is : number ≡ count_taken servers mirrors past session + 1
        number_is =
            (numbered servers mirrors events past after e session number (are_calls events fit) split (roomy.counts past (e ∷ after) split session)
            (record { node = node; xid = xid; name = name; call = call; came = came; effect = effect })).0

        its_count : (x : SessionId) → is_of_session x session ≡ true → number ≡ count_taken servers mirrors (past ++ e ∷ []) x
        its_count x same = number_is ∙ ap (λ (n : ℕ). n + 1) (sym (same_count servers mirrors x session same past)) ∙ sym (one_counts servers mirrors past e x number (one x same))

        is_given : (numbers : ℕ) → SlotJudged (Counted numbers past) session number (request_answer (after_binding (server_after servers mirrors past).sessions session node) (request_of session number call)) → number_in session ≤ numbers
        is_given numbers (NoSession off) = absurd (not_so (sym effect ∙ off))
          where
            not_so : TakesEffect ≡ Refuses BadSession → ⊥
            not_so is = absurd cc
        is_given numbers (BySlot slot p at) = p.given

        begun_counts : CountedIn past bound → CountedIn (past ++ e ∷ []) (after_request (after_binding (server_after servers mirrors past).sessions session node) (request_of session number call) e.now)
        begun_counts i =
            let made : number_in session ≤ bound.numbers = is_given bound.numbers (judged (Counted bound.numbers past) (request_of session number call) refl bound i.slots) in
            record {
              slots = renewed_so (Counted bound.numbers (past ++ e ∷ [])) (client_in session) e.now (change_session session (change_slot 0 (λ slot. slot_begun number)) bound.clients)
                  (change_one bound (is_table tables bound (run_table_on (server_after servers mirrors past).sessions (Bind session node) (run_table servers mirrors past))) session (λ slot. slot_begun number) (Counted bound.numbers past)
                  (Counted bound.numbers (past ++ e ∷ [])) here other i.slots);
              none = λ x less. by_key x less made (is_of_session x session) refl;
            }
          where
            not_first : number ≡ 0 → ⊥
            not_first zero = let next : number ≡ count_taken servers mirrors past session + 1 = number_is in omega (arith, zero, next)

            here : (slot : SlotState) → Counted bound.numbers past (client_in session) (number_in session) slot → Counted bound.numbers (past ++ e ∷ []) (client_in session) (number_in session) (slot_begun number)
            here slot p = record { given = p.given; fresh = λ new. absurd (not_begun new); first = λ zero. absurd (not_first zero); is = λ x its so. its_count x (key_same x session (sym its) (sym so)) }

            still : (x : SessionId) → (is_of_session x session ≡ true → ⊥) → (b : Bool) → is_of_session x session ≡ b → count_taken servers mirrors past x ≡ count_taken servers mirrors (past ++ e ∷ []) x
            still x apart true is = absurd (apart is)
            still x apart false is = sym (none_counts servers mirrors past e x (others x is))

            not_its : (client n : ℕ) → (client ≡ client_in session → n ≡ number_in session → ⊥) → (x : SessionId) → client_in x ≡ client → number_in x ≡ n → is_of_session x session ≡ true → ⊥
            not_its client n apart x its so is = let key = its_key x session is in apart (sym its ∙ sym key.0) (sym so ∙ sym key.1)

            other : (client n : ℕ) (slot : SlotState) → (client ≡ client_in session → n ≡ number_in session → ⊥) → Counted bound.numbers past client n slot → Counted bound.numbers (past ++ e ∷ []) client n slot
            other client n slot apart p = record { given = p.given; fresh = p.fresh; first = p.first; is = λ x its so. p.is x its so ∙ still x (not_its client n apart x its so) (is_of_session x session) refl }

            not_made : (x : SessionId) → bound.numbers < number_in x → number_in session ≤ bound.numbers → number_in session ≡ number_in x → ⊥
            not_made x less made same = omega (arith, less, made, same)

            by_key : (x : SessionId) → bound.numbers < number_in x → number_in session ≤ bound.numbers → (b : Bool) → is_of_session x session ≡ b → count_taken servers mirrors (past ++ e ∷ []) x ≡ 0
            by_key x less made true is = absurd (not_made x less made (its_key x session is).1)
            by_key x less made false is = none_counts servers mirrors past e x (others x is) ∙ i.none x less

      bound_counts : (session : SessionId) (node : NodeId) → CountedIn past (server_after servers mirrors past).sessions → CountedIn past (after_binding (server_after servers mirrors past).sessions session node)
      bound_counts session node i = counted_moves past (server_after servers mirrors past).sessions (Bind session node) tt i

      begun_so : CountedIn past (server_after servers mirrors past).sessions → Turn e (server_after servers mirrors past) → CountedIn (past ++ e ∷ []) (table_from (server_after servers mirrors past).sessions (begun_moves e.now e.input))
      begun_so i (NoneBegins is none) = subst (λ (s : SessionsState). CountedIn (past ++ e ∷ []) s) (sym is) (same_counts none (server_after servers mirrors past).sessions i)
      begun_so i (NoneTakes session node is none) =
          subst (λ (s : SessionsState). CountedIn (past ++ e ∷ []) s) (sym is) (same_counts none (after_binding (server_after servers mirrors past).sessions session node) (bound_counts session node i))
      begun_so i (Takes node xid name session number call came effect is one others) =
          subst (λ (s : SessionsState). CountedIn (past ++ e ∷ []) s) (sym is) (begun_counts node xid name session number call came effect one others (bound_counts session node i))

      pub turn_of : Turn e (server_after servers mirrors past)
      turn_of = turn e (server_after servers mirrors past) (brings e (fit_at past after e (subst AreFitCalls split fit)))

      event_counts : CountedIn past (server_after servers mirrors past).sessions → CountedIn (past ++ e ∷ []) (server_after servers mirrors (past ++ e ∷ [])).sessions
      event_counts i =
          subst (λ (x : MdsValue). CountedIn (past ++ e ∷ []) x.sessions) (sym (one_more servers mirrors past e))
          (event_table (λ (s : SessionsState). CountedIn (past ++ e ∷ []) s) (λ s move none its. counted_moves (past ++ e ∷ []) s move none its) e (server_after servers mirrors past) (begun_so i turn_of))

    -- ---- a run

    run_counts : (past before rest : List MdsEvent) → events ≡ past ++ (before ++ rest) → CountedIn past (server_after servers mirrors past).sessions → CountedIn (past ++ before) (server_after servers mirrors (past ++ before)).sessions
    run_counts past [] rest is i = subst (λ (l : List MdsEvent). CountedIn l (server_after servers mirrors l).sessions) (sym (append-nil past)) i
    run_counts past (e ∷ before) rest is i =
        subst (λ (l : List MdsEvent). CountedIn l (server_after servers mirrors l).sessions) (append_assoc past (e ∷ []) before)
        (run_counts (past ++ e ∷ []) before rest (is ∙ sym (append_assoc past (e ∷ []) (before ++ rest))) (event_counts past (before ++ rest) e is i))

    pub counted_run : (before rest : List MdsEvent) → events ≡ before ++ rest → CountedIn before (server_after servers mirrors before).sessions
    counted_run before rest is = run_counts [] before rest is (record { slots = tt; none = λ x less. refl })
