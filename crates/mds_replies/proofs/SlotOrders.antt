-- The order of the numbers of a session's requests, by how many of them took effect.
use Rattle.std.proofs.Common.{◌≡◌, ◌≤◌, ◌<◌, ℕ, ◌+◌, Bool, true, false, cond, List, [], ◌∷◌, ◌++◌, refl, sym, ap, subst, ◌∙◌, arith, inl, inr, ◌⊎◌}
use Rattle.std.specs.Prelude.{◌==◌, ◌&&◌, not}
use Rattle.std.proofs.lemmas.Bool.{eq-eqb, ne_eqb, cases_lt}
use Rattle.std.proofs.lemmas.List.{append_assoc, append-nil}
use Rattle.device_addr.specs.Universal.{AddressValue}
use Rattle.cluster_model.specs.declared.ids.NodeId.{NodeId}
use Rattle.nfs4_types.specs.declared.ids.SessionId.{SessionId}
use Rattle.nfs4_types.specs.declared.status.Stat4.{Stat4}
use Rattle.nfs4_types.specs.declared.status.Stat4.TheVariants as stat
use Rattle.nfs4_session.specs.Slots.{SlotState, SlotReply, NoRequest, InProgress, Cached, Uncached as NotKept, SlotAnswer, TakesEffect, Repeats, Refuses, answer_again, is_in_progress, sequence_after, slot_answer}
use Rattle.nfs4_session.specs.Clients.{SessionsState, client_in, number_in}
use Rattle.nfs4_session.specs.Requests.{request_answer}
use Rattle.nfs4_session.specs.Bindings.{after_binding}
use Rattle.nfs4_session.specs.TableLaw.{Bind, KeepsTable}
use Rattle.table_slots.specs.TableSlots.{is_of_session, table_from}
use Rattle.client_mds_calls.specs.MdsCalls.{SlotCallValue}
use Rattle.mds_rule.specs.MdsStates.{MdsValue}
use Rattle.mds_walk.specs.MdsRuns.{MdsEvent}
use Rattle.mds_walk.proofs.Requested.{begun_moves}
use Rattle.mds_replies.specs.ClientCalls.{server_after, IsEventOf}
use Rattle.mds_replies.specs.SlotReplies.{request_of, TookEffect, count_taken, EffectsAreNumbered}
use Rattle.mds_replies.specs.AnsweredRequests.{AreFitCalls, StaysRoomy, TookEffectAmong, IsFreeAt}
use Rattle.mds_replies.specs.SlotOrder.{SlotsStayFree, OrderIsByCount, CountsTookEffect, FirstIsFree, TakenAreCounted}
use Rattle.mds_replies.proofs.TakenMeans.{are_calls, one_more, split_behind}
use Rattle.mds_replies.proofs.CallEvents.{brings}
use Rattle.mds_replies.proofs.SlotTables.{SessionSo, ClientSo, TableSo, SlotJudged, NoSession, BySlot, judged}
use Rattle.mds_replies.proofs.OneOfAll.{all_both}
use Rattle.mds_replies.proofs.FreeSlots.{run_table, is_table, FreeFor, FreeIn, free_stays, free_begins, table_by_first, first_so}
use Rattle.mds_replies.proofs.RequestRuns.{fit_at}
use Rattle.mds_replies.proofs.EventTables.{event_table, Turn, NoneBegins, NoneTakes, Takes, turn}
use Rattle.mds_replies.proofs.CountedSlots.{key_same, same_count, count_grows, none_counts, one_counts, Counted, CountedIn, counted_moves, counted_run}

module _ (tables : KeepsTable) (numbered : EffectsAreNumbered) (servers : List AddressValue) (mirrors : ℕ) where
  module _ (events : List MdsEvent) (fit : AreFitCalls events) (roomy : StaysRoomy servers mirrors events) where
    -- the number of a request that takes effect is the next one
    module _ (past after : List MdsEvent) (e : MdsEvent) (split : IsEventOf events past e after) (session : SessionId) (number : ℕ) (took : TookEffect servers mirrors past e session number) where
      number_is : number ≡ count_taken servers mirrors past session + 1
      number_is = (numbered servers mirrors events past after e session number (are_calls events fit) split (roomy.counts past (e ∷ after) split session) took).0

      next_is : count_taken servers mirrors (past ++ e ∷ []) session ≡ count_taken servers mirrors past session + 1
      next_is = (numbered servers mirrors events past after e session number (are_calls events fit) split (roomy.counts past (e ∷ after) split session) took).1

    turn_at : (past after : List MdsEvent) (e : MdsEvent) → IsEventOf events past e after → Turn e (server_after servers mirrors past)
    turn_at past after e split = turn e (server_after servers mirrors past) (brings e (fit_at past after e (subst AreFitCalls split fit)))

  -- ---- it is among those that are counted

  taken_counts : (events more : List MdsEvent) → AreFitCalls (events ++ more) → StaysRoomy servers mirrors (events ++ more) → (session : SessionId) (number : ℕ) → TookEffectAmong servers mirrors events session number
      → number ≤ count_taken servers mirrors events session
  taken_counts events more fit roomy session number t =
      let split : IsEventOf (events ++ more) t.early t.f (t.late ++ more) = ap (λ (l : List MdsEvent). l ++ more) t.split ∙ append_assoc t.early (t.f ∷ t.late) more in
      let one : number ≡ count_taken servers mirrors t.early t.asked + 1 = number_is (events ++ more) fit roomy t.early (t.late ++ more) t.f split t.asked number t.took in
      let next : count_taken servers mirrors (t.early ++ t.f ∷ []) t.asked ≡ count_taken servers mirrors t.early t.asked + 1 = next_is (events ++ more) fit roomy t.early (t.late ++ more) t.f split t.asked number t.took in
      let grown : count_taken servers mirrors (t.early ++ t.f ∷ []) t.asked ≤ count_taken servers mirrors ((t.early ++ t.f ∷ []) ++ t.late) t.asked = count_grows servers mirrors (t.early ++ t.f ∷ []) t.late t.asked in
      let whole : count_taken servers mirrors events t.asked ≡ count_taken servers mirrors ((t.early ++ t.f ∷ []) ++ t.late) t.asked = ap (λ (l : List MdsEvent). count_taken servers mirrors l t.asked) (split_behind events t.early t.late t.f t.split) in
      let same : count_taken servers mirrors events session ≡ count_taken servers mirrors events t.asked = same_count servers mirrors session t.asked t.its events in
      omega (arith, one, next, grown, whole, same)

  -- ---- a slot that is free stays so

  module _ (events : List MdsEvent) (fit : AreFitCalls events) (roomy : StaysRoomy servers mirrors events) (session : SessionId) (number : ℕ) where
    module _ (past after : List MdsEvent) (e : MdsEvent) (split : IsEventOf events past e after) (counts : number ≤ count_taken servers mirrors past session) (free : FreeIn (server_after servers mirrors past).sessions session number) where
      other_number : (asked : SessionId) (n : ℕ) → TookEffect servers mirrors past e asked n → client_in asked ≡ client_in session → number_in asked ≡ number_in session → n ≡ number → ⊥
      other_number asked n took its so same =
          let next : n ≡ count_taken servers mirrors past asked + 1 = number_is events fit roomy past after e split asked n took in
          let one : count_taken servers mirrors past session ≡ count_taken servers mirrors past asked = same_count servers mirrors session asked (key_same session asked its so) past in
          omega (arith, counts, next, one, same)

      bound_free : (asked : SessionId) (node : NodeId) → FreeIn (after_binding (server_after servers mirrors past).sessions asked node) session number
      bound_free asked node = free_stays (server_after servers mirrors past).sessions (Bind asked node) tt session number free

      begun_free : Turn e (server_after servers mirrors past) → FreeIn (table_from (server_after servers mirrors past).sessions (begun_moves e.now e.input)) session number
      begun_free (NoneBegins is none) = subst (λ (s : SessionsState). FreeIn s session number) (sym is) free
      begun_free (NoneTakes asked node is none) = subst (λ (s : SessionsState). FreeIn s session number) (sym is) (bound_free asked node)
      begun_free (Takes node xid name asked n call came effect is one others) =
          subst (λ (s : SessionsState). FreeIn s session number) (sym is)
          (free_begins (after_binding (server_after servers mirrors past).sessions asked node) (request_of asked n call) e.now refl session number
          (λ its so same. absurd (other_number asked n (record { node = node; xid = xid; name = name; call = call; came = came; effect = effect }) its so same)) (bound_free asked node))

      event_free : FreeIn (server_after servers mirrors (past ++ e ∷ [])).sessions session number
      event_free =
          subst (λ (x : MdsValue). FreeIn x.sessions session number) (sym (one_more servers mirrors past e))
          (event_table (λ (s : SessionsState). FreeIn s session number) (λ s move none its. free_stays s move none session number its) e (server_after servers mirrors past) (begun_free (turn_at events fit roomy past after e split)))

    run_free : (past before rest : List MdsEvent) → events ≡ past ++ (before ++ rest) → number ≤ count_taken servers mirrors past session → FreeIn (server_after servers mirrors past).sessions session number
        → FreeIn (server_after servers mirrors (past ++ before)).sessions session number
    run_free past [] rest is counts free = subst (λ (l : List MdsEvent). FreeIn (server_after servers mirrors l).sessions session number) (sym (append-nil past)) free
    run_free past (e ∷ before) rest is counts free =
        subst (λ (l : List MdsEvent). FreeIn (server_after servers mirrors l).sessions session number) (append_assoc past (e ∷ []) before)
        (run_free (past ++ e ∷ []) before rest (is ∙ sym (append_assoc past (e ∷ []) (before ++ rest)))
        (let grown : count_taken servers mirrors past session ≤ count_taken servers mirrors (past ++ e ∷ []) session = count_grows servers mirrors past (e ∷ []) session in omega (arith, counts, grown))
        (event_free past (before ++ rest) e is counts free))

  free_in : (events : List MdsEvent) (session : SessionId) (number : ℕ) → IsFreeAt (server_after servers mirrors events) session number → FreeIn (server_after servers mirrors events).sessions session number
  free_in events session number free =
      table_by_first (server_after servers mirrors events).sessions (is_table tables (server_after servers mirrors events).sessions (run_table servers mirrors events)) session (λ (slot : SlotState). slot.last ≡ number → is_in_progress slot.reply ≡ false) free

  stays_free : (events more : List MdsEvent) → AreFitCalls (events ++ more) → StaysRoomy servers mirrors (events ++ more) → (session : SessionId) (number : ℕ) → TookEffectAmong servers mirrors events session number
      → IsFreeAt (server_after servers mirrors events) session number → IsFreeAt (server_after servers mirrors (events ++ more)) session number
  stays_free events more fit roomy session number t free = λ slot at same.
      first_so (FreeFor (client_in session) (number_in session) number) (server_after servers mirrors (events ++ more)).sessions session
      (run_free (events ++ more) fit roomy session number events more [] (ap (λ (l : List MdsEvent). events ++ l) (sym (append-nil more))) (taken_counts events more fit roomy session number t) (free_in events session number free)) slot at refl refl same

  -- ---- each number up to the count took effect

  module _ (events : List MdsEvent) (fit : AreFitCalls events) (roomy : StaysRoomy servers mirrors events) (session : SessionId) (number : ℕ) where
    module _ (past after : List MdsEvent) (e : MdsEvent) (split : IsEventOf events past e after) (before rest : List MdsEvent) (its : IsEventOf before past e rest) (less : count_taken servers mirrors past session < number)
        (further : count_taken servers mirrors (past ++ e ∷ []) session < number → TookEffectAmong servers mirrors before session number) where
      none_took : count_taken servers mirrors (past ++ e ∷ []) session ≡ count_taken servers mirrors past session → TookEffectAmong servers mirrors before session number
      none_took same = further (omega (arith, less, same))

      one_took : (asked : SessionId) (n : ℕ) → TookEffect servers mirrors past e asked n → is_of_session session asked ≡ true → count_taken servers mirrors (past ++ e ∷ []) session ≡ count_taken servers mirrors past session + 1
          → TookEffectAmong servers mirrors before session number
      one_took asked n took key counts = by_number (cases_lt n number)
        where
          next : n ≡ count_taken servers mirrors past session + 1
          next = number_is events fit roomy past after e split asked n took ∙ ap (λ (c : ℕ). c + 1) (sym (same_count servers mirrors session asked key past))

          below : n < number → n ≡ count_taken servers mirrors past session + 1 → count_taken servers mirrors (past ++ e ∷ []) session < number
          below low is = omega (arith, low, is, counts)

          equal : number ≤ n → n ≡ count_taken servers mirrors past session + 1 → n ≡ number
          equal high is = omega (arith, high, is, less)

          by_number : (n < number) ⊎ (number ≤ n) → TookEffectAmong servers mirrors before session number
          by_number (inl low) = further (below low next)
          by_number (inr high) = record { early = past; f = e; late = rest; split = its; asked = asked; its = key; took = subst (λ (k : ℕ). TookEffect servers mirrors past e asked k) (equal high next) took }

      by_turn : Turn e (server_after servers mirrors past) → TookEffectAmong servers mirrors before session number
      by_turn (NoneBegins is none) = none_took (none_counts servers mirrors past e session (none session))
      by_turn (NoneTakes asked node is none) = none_took (none_counts servers mirrors past e session (none session))
      by_turn (Takes node xid name asked n call came effect is one others) = on_key (is_of_session session asked) refl
        where
          took : TookEffect servers mirrors past e asked n
          took = record { node = node; xid = xid; name = name; call = call; came = came; effect = effect }

          on_key : (b : Bool) → is_of_session session asked ≡ b → TookEffectAmong servers mirrors before session number
          on_key true key = one_took asked n took key (one_counts servers mirrors past e session n (one session key))
          on_key false key = none_took (none_counts servers mirrors past e session (others session key))

    none_left : (before past : List MdsEvent) → before ≡ past ++ [] → number ≤ count_taken servers mirrors before session → count_taken servers mirrors past session < number → ⊥
    none_left before past is high less =
        let same : count_taken servers mirrors before session ≡ count_taken servers mirrors past session = ap (λ (l : List MdsEvent). count_taken servers mirrors l session) (is ∙ append-nil past) in
        omega (arith, high, less, same)

    run_took : (before more past rest : List MdsEvent) → events ≡ before ++ more → before ≡ past ++ rest → number ≤ count_taken servers mirrors before session → count_taken servers mirrors past session < number → TookEffectAmong servers mirrors before session number
    run_took before more past [] at is high less = absurd (none_left before past is high less)
    run_took before more past (e ∷ rest) at is high less =
        by_turn past (rest ++ more) e (at ∙ ap (λ (l : List MdsEvent). l ++ more) is ∙ append_assoc past (e ∷ rest) more) before rest is less
        (λ low. run_took before more (past ++ e ∷ []) rest at (is ∙ sym (append_assoc past (e ∷ []) rest)) high low)
        (turn_at events fit roomy past (rest ++ more) e (at ∙ ap (λ (l : List MdsEvent). l ++ more) is ∙ append_assoc past (e ∷ rest) more))

  -- ---- a number out of order

  abbrev status_of : SlotAnswer → Stat4
  status_of TakesEffect = stat.Ok
  status_of (Repeats reply) = stat.Ok
  status_of (Refuses status) = status

  module _ (slot : SlotState) (number count : ℕ) (last : slot.last ≡ count) (misordered : Refuses stat.SeqMisordered ≡ slot_answer slot number) where
    by_reply : (r : SlotReply) → slot.reply ≡ r → (slot.reply ≡ NoRequest → slot.last ≡ 0) → 1 ≤ number → number ≡ count → Refuses stat.SeqMisordered ≡ answer_again r → ⊥
    by_reply NoRequest at fresh low same is = let zero : slot.last ≡ 0 = fresh at in omega (arith, zero, low, same, last)
    by_reply InProgress at fresh low same is = not_so (ap status_of is)
      where
        not_so : stat.SeqMisordered ≡ stat.Delay → ⊥
        not_so e = absurd cc
    by_reply (Cached reply) at fresh low same is = absurd cc
    by_reply NotKept at fresh low same is = not_so (ap status_of is)
      where
        not_so : stat.SeqMisordered ≡ stat.RetryUncachedRep → ⊥
        not_so e = absurd cc

    not_last : (slot.reply ≡ NoRequest → slot.last ≡ 0) → 1 ≤ number → number ≡ count → ⊥
    not_last fresh low same =
        by_reply slot.reply refl fresh low same
        (misordered ∙ ap (λ (b : Bool). cond b (answer_again slot.reply) (cond ((number == sequence_after slot.last) && not (is_in_progress slot.reply)) TakesEffect (Refuses stat.SeqMisordered))) (eq-eqb number slot.last (same ∙ sym last)))

    not_next : count + 1 < 4294967296 → is_in_progress slot.reply ≡ false → number ≡ count + 1 → ⊥
    not_next few free next = not_so (misordered ∙ takes)
      where
        not_so : Refuses stat.SeqMisordered ≡ TakesEffect → ⊥
        not_so e = absurd cc

        other : number ≡ slot.last → ⊥
        other same = omega (arith, same, last, next)

        not_top : slot.last ≡ 4294967295 → ⊥
        not_top top = omega (arith, top, last, few)

        after : sequence_after slot.last ≡ slot.last + 1
        after = ap (λ (b : Bool). cond b 0 (slot.last + 1)) (ne_eqb slot.last 4294967295 not_top)

        is_after : (number == sequence_after slot.last) ≡ true
        is_after = eq-eqb number (sequence_after slot.last) (next ∙ ap (λ (n : ℕ). n + 1) (sym last) ∙ sym after)

        takes : slot_answer slot number ≡ TakesEffect
        takes =
            ap (λ (b : Bool). cond b (answer_again slot.reply) (cond ((number == sequence_after slot.last) && not (is_in_progress slot.reply)) TakesEffect (Refuses stat.SeqMisordered))) (ne_eqb number slot.last other)
            ∙ ap (λ (b : Bool). cond (b && not (is_in_progress slot.reply)) TakesEffect (Refuses stat.SeqMisordered)) is_after
            ∙ ap (λ (b : Bool). cond (true && not b) TakesEffect (Refuses stat.SeqMisordered)) free

  both_so : (P R : ℕ → ℕ → SlotState → Type 0) (s : SessionsState) → TableSo P s → TableSo R s → TableSo (λ client number slot. P client number slot × R client number slot) s
  both_so P R s first second =
      all_both (ClientSo P) (ClientSo R) (ClientSo (λ client number slot. P client number slot × R client number slot))
      (λ c p q. all_both (SessionSo P c.id) (SessionSo R c.id) (SessionSo (λ client number slot. P client number slot × R client number slot) c.id) (λ x one two. (one.0, λ slot at. (one.1 slot at, two.1 slot at))) c.sessions p q) s.clients first second

  module _ (before : List MdsEvent) (session : SessionId) (number : ℕ) (node : NodeId) (call : SlotCallValue)
      (refused : request_answer (after_binding (server_after servers mirrors before).sessions session node) (request_of session number call) ≡ Refuses stat.SeqMisordered) (counted : CountedIn servers mirrors before (server_after servers mirrors before).sessions) where
    abbrev bound : SessionsState
    bound = after_binding (server_after servers mirrors before).sessions session node

    bound_counted : CountedIn servers mirrors before bound
    bound_counted = counted_moves servers mirrors before (server_after servers mirrors before).sessions (Bind session node) tt counted

    no_session : request_answer (after_binding (server_after servers mirrors before).sessions session node) (request_of session number call) ≡ Refuses stat.BadSession → ⊥
    no_session off = not_so (ap status_of (sym refused ∙ off))
      where
        not_so : stat.SeqMisordered ≡ stat.BadSession → ⊥
        not_so e = absurd cc

    is_not_last : 1 ≤ number → number ≡ count_taken servers mirrors before session → ⊥
    is_not_last low same = by_slot (judged (Counted servers mirrors bound.numbers before) (request_of session number call) refl bound bound_counted.slots)
      where
        by_slot : SlotJudged (Counted servers mirrors bound.numbers before) session number (request_answer (after_binding (server_after servers mirrors before).sessions session node) (request_of session number call)) → ⊥
        by_slot (NoSession off) = no_session off
        by_slot (BySlot slot p at) = not_last slot number (count_taken servers mirrors before session) (p.is session refl refl) (sym refused ∙ at) p.fresh low same

    is_not_next : count_taken servers mirrors before session + 1 < 4294967296 → number ≡ count_taken servers mirrors before session + 1
        → IsFreeAt (server_after servers mirrors before) session (count_taken servers mirrors before session) → ⊥
    is_not_next few next free =
        by_slot (judged (λ client n slot. Counted servers mirrors bound.numbers before client n slot × FreeFor (client_in session) (number_in session) (count_taken servers mirrors before session) client n slot) (request_of session number call) refl bound
        (both_so (Counted servers mirrors bound.numbers before) (FreeFor (client_in session) (number_in session) (count_taken servers mirrors before session)) bound bound_counted.slots
        (free_stays (server_after servers mirrors before).sessions (Bind session node) tt session (count_taken servers mirrors before session) (free_in before session (count_taken servers mirrors before session) free))))
      where
        by_slot : SlotJudged (λ client n slot. Counted servers mirrors bound.numbers before client n slot × FreeFor (client_in session) (number_in session) (count_taken servers mirrors before session) client n slot) session number
            (request_answer (after_binding (server_after servers mirrors before).sessions session node) (request_of session number call)) → ⊥
        by_slot (NoSession off) = no_session off
        by_slot (BySlot slot p at) =
            not_next slot number (count_taken servers mirrors before session) (p.0.is session refl refl) (sym refused ∙ at) few (p.1 refl refl (p.0.is session refl refl)) next

pub slots_stay_free : KeepsTable → EffectsAreNumbered → SlotsStayFree
slots_stay_free tables numbered servers mirrors events more fit roomy session number t free = stays_free tables numbered servers mirrors events more fit roomy session number t free

pub order_is_by_count : KeepsTable → EffectsAreNumbered → OrderIsByCount
order_is_by_count tables numbered servers mirrors events before after e split fit roomy session number refused low =
    let counted : CountedIn servers mirrors before (server_after servers mirrors before).sessions = counted_run servers mirrors tables numbered events fit roomy before (e ∷ after) split in (
      is_not_last tables numbered servers mirrors before session number refused.0 refused.1 refused.2 counted low,
      is_not_next tables numbered servers mirrors before session number refused.0 refused.1 refused.2 counted (roomy.counts before (e ∷ after) split session),
    )

pub counts_took_effect : KeepsTable → EffectsAreNumbered → CountsTookEffect
counts_took_effect tables numbered servers mirrors before more fit roomy session number low high =
    run_took tables numbered servers mirrors (before ++ more) fit roomy session number before more [] before refl refl high low

pub first_is_free : KeepsTable → EffectsAreNumbered → FirstIsFree
first_is_free tables numbered servers mirrors before more fit roomy session none slot at zero =
    let counted : CountedIn servers mirrors before (server_after servers mirrors before).sessions = counted_run servers mirrors tables numbered (before ++ more) fit roomy before more refl in
    (first_so (Counted servers mirrors (server_after servers mirrors before).sessions.numbers before) (server_after servers mirrors before).sessions session counted.slots slot at).first zero

pub taken_are_counted : EffectsAreNumbered → TakenAreCounted
taken_are_counted numbered servers mirrors before more fit roomy session number t =
    let split : before ++ more ≡ t.early ++ t.f ∷ (t.late ++ more) = ap (λ (l : List MdsEvent). l ++ more) t.split ∙ append_assoc t.early (t.f ∷ t.late) more in
    let next : (number ≡ count_taken servers mirrors t.early t.asked + 1) × (count_taken servers mirrors (t.early ++ t.f ∷ []) t.asked ≡ count_taken servers mirrors t.early t.asked + 1) =
    numbered servers mirrors (before ++ more) t.early (t.late ++ more) t.f t.asked number (are_calls (before ++ more) fit) split (roomy.counts t.early (t.f ∷ (t.late ++ more)) split t.asked) t.took in
    let its = next.0 in
    let behind = next.1 in
    let grown : count_taken servers mirrors (t.early ++ t.f ∷ []) t.asked ≤ count_taken servers mirrors ((t.early ++ t.f ∷ []) ++ t.late) t.asked = count_grows servers mirrors (t.early ++ t.f ∷ []) t.late t.asked in
    let whole : count_taken servers mirrors before t.asked ≡ count_taken servers mirrors ((t.early ++ t.f ∷ []) ++ t.late) t.asked =
    ap (λ (l : List MdsEvent). count_taken servers mirrors l t.asked) (t.split ∙ sym (append_assoc t.early (t.f ∷ []) t.late)) in
    let key : count_taken servers mirrors before session ≡ count_taken servers mirrors before t.asked = same_count servers mirrors session t.asked t.its before in
    omega (arith, its, behind, grown, whole, key)
