-- Where a session that was given is gone, no record has its client's id, and none will have it.
use Rattle.std.proofs.Common.{◌≡◌, ◌≤◌, ℕ, ◌+◌, Bool, true, false, List, [], ◌∷◌, ◌++◌, Option, Some, None, refl, sym, ap, subst, ◌∙◌, inl, inr, ◌⊎◌, arith}
use Rattle.std.specs.Prelude.{◌==◌, ◌&&◌, not, slice_get, if◌then◌else◌}
use Rattle.std.specs.List.{find}
use Rattle.std.proofs.lemmas.Bool.{cond_both, eqb-true, eq-eqb, and_parts}
use Rattle.std.proofs.lemmas.Option.{same_Some, none-some}
use Rattle.ff_xdr.specs.Form.{long}
use Rattle.device_addr.specs.Universal.{AddressValue}
use Rattle.cluster_model.specs.declared.ids.NodeId.{NodeId}
use Rattle.cluster_model.specs.Members.{IsOneOf}
use Rattle.nfs4_types.specs.declared.ids.SessionId.{SessionId}
use Rattle.nfs4_types.specs.declared.status.Stat4.TheVariants as stat
use Rattle.nfs4_session.specs.Slots.{SlotState, SlotReply, NoRequest, InProgress, Cached, Uncached, SlotAnswer, TakesEffect, Refuses, sequence_after, answer_again, is_in_progress, slot_answer}
use Rattle.nfs4_session.specs.Clients.{ClientState, MadeSession, SessionState, SessionsState, client_id, client_in, number_in, has_id, has_number, session_of_client, remove_first}
use Rattle.nfs4_session.specs.CreateSessions.{CreateSessionCase, IsDue, create_session_case, after_creating, is_before_restart, with_new_session, created_session}
use Rattle.nfs4_session.specs.Requests.{answer_by_slot, answer_by_session, request_answer}
use Rattle.nfs4_session.specs.Bindings.{client_bound, after_binding}
use Rattle.nfs4_session.specs.TableLaw.{TableMove, CreateSession as Creates, Bind, table_after, KeepsTable}
use Rattle.client_session_calls.specs.SessionOps as asked
use Rattle.client_mds_calls.specs.MdsCalls.{SlotCallValue}
use Rattle.mds_rule.specs.MdsStates.{MdsValue, new_mds}
use Rattle.mds_walk.specs.MdsRuns.{MdsEvent, after_event}
use Rattle.mds_walk.proofs.Lists.{found_in, found_passes}
use Rattle.mds_replies.specs.ClientCalls.{HearsCall, AreCalls, server_after, IsEventOf}
use Rattle.mds_replies.specs.ClientIds.{GivesSession}
use Rattle.mds_replies.specs.SlotReplies.{request_of}
use Rattle.mds_replies.proofs.Periods.{run_behind}
use Rattle.mds_replies.proofs.TableRuns.{run_keeps}
use Rattle.mds_replies.proofs.ExchangeRuns.{IsGiven, OfOld, OfNew, Gave}
use Rattle.mds_replies.proofs.OneOwner.{gave_in}
use Rattle.mds_replies.proofs.SessionRuns.{GaveSession, Makes as MakesNow, Replays, gave_session, its_client}
use Rattle.mds_session_order.specs.SessionOrder.{IdsStayGone}
use Rattle.mds_session_order.proofs.Numbered.{HasKey, Hits, key_change, has_last, stays_or_passes, change_hits, is_found}
use Rattle.mds_session_order.proofs.TableSteps.{DestroysNone, HasSession, number_of, Came, Stood, Made, IsNew}
use Rattle.mds_session_order.proofs.TableFacts.{Facts, DueSo, ReplaySo, CaseSo, case_so, facts_keep, new_facts, facts_of_run, one_record, came, id_stays, not_new}
use Rattle.mds_session_order.proofs.TableWalk.{FilesWait, calls_keep, calls_out_keep, new_calls_keep}
use Rattle.mds_session_order.proofs.NewSessions.{due_number, replay_number}

-- ---- what stands while no session is destroyed

-- the session that was made last is among a record's sessions
abbrev MadeStand : SessionsState → Type 0
MadeStand s = (c : ClientState) → IsOneOf c s.clients → (made : MadeSession) → c.made ≡ Some made → HasSession made.number c.sessions

-- the record that has this id has this session
pub record HasGiven (id number : ℕ) (s : SessionsState) : Type 0 where
  pub given : id ≤ client_id 1 s.ids
  pub has : (c : ClientState) → IsOneOf c s.clients → c.id ≡ id → HasSession number c.sessions

abbrev Whole : SessionsState → Type 0
Whole s = Facts s × MadeStand s

module _ (s : SessionsState) (move : TableMove) (none : DestroysNone move) (f : Facts s) where
  made_stand : MadeStand s → MadeStand (table_after s move)
  made_stand m d inside made is = by_it (came s move d inside)
    where
      by_it : Came (DestroysNone move) s (table_after s move).ids (table_after s move).numbers d → HasSession made.number d.sessions
      by_it (Stood c there stays) = stays.stand none made.number (m c there made (sym stays.made ∙ is))
      by_it (Made c there makes one) =
          subst (λ (n : ℕ). HasSession n d.sessions) (ap (λ (x : MadeSession). x.number) (same_Some (record { sequence = c.sequence; number = s.numbers + 1 }) made (sym makes.made ∙ is))) makes.new
      by_it (IsNew id nothing more) = absurd (none-some made (sym nothing ∙ is))

  has_keeps : (id number : ℕ) → HasGiven id number s → HasGiven id number (table_after s move)
  has_keeps id number h = record { given = id_stays s move f id h.given; has = λ d inside is. by_it d (came s move d inside) is }
    where
      by_it : (d : ClientState) → Came (DestroysNone move) s (table_after s move).ids (table_after s move).numbers d → d.id ≡ id → HasSession number d.sessions
      by_it d (Stood c there stays) is = stays.stand none number (h.has c there (sym stays.id ∙ is))
      by_it d (Made c there makes one) is = makes.stand number (h.has c there (sym makes.id ∙ is))
      by_it d (IsNew new nothing more) is = absurd (not_new s move f id h.given d new is)

whole_keeps : (s : SessionsState) (move : TableMove) → DestroysNone move → Whole s → Whole (table_after s move)
whole_keeps s move none w = (facts_keep s move w.0, made_stand s move none w.0 w.1)

abbrev pub Has : ℕ → ℕ → SessionsState → Type 0
Has id number s = Facts s × HasGiven id number s

has_given_keeps : (id number : ℕ) (s : SessionsState) (move : TableMove) → DestroysNone move → Has id number s → Has id number (table_after s move)
has_given_keeps id number s move none h = (facts_keep s move h.0, has_keeps s move none h.0 id number h.1)

-- ---- a session that is given

module _ (s : SessionsState) (f : Facts s) (client : ℕ) where
  -- it was made before
  replayed_has : MadeStand s → (sequence number : ℕ) → ReplaySo s client sequence number → HasGiven client number s
  replayed_has m sequence number r = record {
    given = subst (λ (n : ℕ). n ≤ client_id 1 s.ids) r.id (f.table.ids r.c r.inside);
    has = λ c inside is.
        subst (λ (x : ClientState). HasSession number x.sessions) (one_record s f r.c c r.inside inside (r.id ∙ sym is))
        (subst (λ (n : ℕ). HasSession n r.c.sessions) r.number_is (m r.c r.inside r.made r.is));
  }

  own_restart : (c : ClientState) → is_before_restart c c ≡ true → ⊥
  own_restart c is = not_so (c.id == c.id) (eq-eqb c.id c.id refl) (and_parts _ (not (has_id c.id c)) is).1
    where
      not_so : (b : Bool) → b ≡ true → not b ≡ true → ⊥
      not_so true at off = absurd cc
      not_so false at off = absurd cc

  -- it is made now
  made_has : (sequence : ℕ) (node : NodeId) (now : ℕ) (c : ClientState) → create_session_case s client sequence ≡ IsDue c → DueSo s client c
      → HasGiven client (s.numbers + 1) (after_creating s asked.callback_program node now (IsDue c))
  made_has sequence node now c at due =
      subst (λ (case : CreateSessionCase). HasGiven client (s.numbers + 1) (after_creating s asked.callback_program node now case)) at behind
    where
      left : IsOneOf c (remove_first (is_before_restart c) s.clients)
      left = by_place (stays_or_passes (is_before_restart c) c s.clients due.inside)
        where
          by_place : IsOneOf c (remove_first (is_before_restart c) s.clients) ⊎ (is_before_restart c c ≡ true) → IsOneOf c (remove_first (is_before_restart c) s.clients)
          by_place (inl stays) = stays
          by_place (inr passes) = absurd (own_restart c passes)

      hit : Hits (has_id c.id) (with_new_session (created_session s asked.callback_program node) now) (remove_first (is_before_restart c) s.clients)
      hit = change_hits (has_id c.id) (with_new_session (created_session s asked.callback_program node) now) c (remove_first (is_before_restart c) s.clients) left (eq-eqb c.id c.id refl)

      behind : HasGiven client (s.numbers + 1) (after_creating s asked.callback_program node now (create_session_case s client sequence))
      behind =
          let t : SessionsState = table_after s (Creates client sequence asked.callback_program node now) in
          let facts : Facts t = facts_keep s (Creates client sequence asked.callback_program node now) f in
          let x : ClientState = with_new_session (created_session s asked.callback_program node) now hit.y in
          let inside : IsOneOf x t.clients = subst (λ (case : CreateSessionCase). IsOneOf x (after_creating s asked.callback_program node now case).clients) (sym at) hit.inside in
          let its : x.id ≡ client = eqb-true hit.y.id c.id hit.passes ∙ due.id in
          record {
            given = subst (λ (n : ℕ). n ≤ client_id 1 t.ids) its (facts.table.ids x inside);
            has = λ d there is.
                subst (λ (y : ClientState). HasSession (s.numbers + 1) y.sessions) (one_record t facts x d inside there (its ∙ sym is)) (has_last number_of (created_session s asked.callback_program node) hit.y.sessions);
          }

-- ---- a session that is not found

not_again : (reply : SlotReply) → answer_again reply ≡ Refuses stat.BadSession → ⊥
not_again NoRequest is = absurd cc
not_again InProgress is = absurd cc
not_again (Cached reply) is = absurd cc
not_again Uncached is = absurd cc

not_slot : (slot : SlotState) (number : ℕ) → slot_answer slot number ≡ Refuses stat.BadSession → ⊥
not_slot slot number =
    cond_both (number == slot.last) (answer_again slot.reply) (if (number == sequence_after slot.last) && not (is_in_progress slot.reply) then TakesEffect else Refuses stat.SeqMisordered)
    (λ (a : SlotAnswer). a ≡ Refuses stat.BadSession → ⊥) (λ again. not_again slot.reply)
    (λ other.
    cond_both ((number == sequence_after slot.last) && not (is_in_progress slot.reply)) TakesEffect (Refuses stat.SeqMisordered) (λ (a : SlotAnswer). a ≡ Refuses stat.BadSession → ⊥) (λ next is. absurd cc) (λ off is. absurd cc))

not_by_slot : (number : ℕ) (o : Option SlotState) → answer_by_slot number o ≡ Refuses stat.BadSession → ⊥
not_by_slot number None is = absurd cc
not_by_slot number (Some slot) is = not_slot slot number is

module _ (session : SessionId) (number : ℕ) (call : SlotCallValue) (s : SessionsState) (h : HasGiven (client_in session) (number_in session) s) where
  by_session : (c : ClientState) → HasSession (number_in session) c.sessions → (o : Option SessionState) → find (has_number (number_in session)) c.sessions ≡ o → answer_by_session (request_of session number call) o ≡ Refuses stat.BadSession → ⊥
  by_session c its None at is = is_found (has_number (number_in session)) its.x c.sessions its.inside (eq-eqb its.x.number (number_in session) its.is) at
  by_session c its (Some x) at is = not_by_slot number (slice_get x.slots 0) is

  by_client : (o : Option ClientState) → find (has_id (client_in session)) s.clients ≡ o → answer_by_session (request_of session number call) (session_of_client (number_in session) o) ≡ Refuses stat.BadSession → o ≡ None
  by_client None at is = refl
  by_client (Some c) at is =
      absurd (by_session c (h.has c (found_in (has_id (client_in session)) s.clients c at) (eqb-true c.id (client_in session) (found_passes (has_id (client_in session)) s.clients c at)))
      (find (has_number (number_in session)) c.sessions) refl is)

  none_found : request_answer s (request_of session number call) ≡ Refuses stat.BadSession → (c : ClientState) → IsOneOf c s.clients → c.id ≡ client_in session → ⊥
  none_found is c inside its = is_found (has_id (client_in session)) c s.clients inside (eq-eqb c.id (client_in session) its) (by_client (find (has_id (client_in session)) s.clients) refl is)

-- ---- an id that no record has

pub record IsGone (id : ℕ) (s : SessionsState) : Type 0 where
  pub given : id ≤ client_id 1 s.ids
  pub none : (c : ClientState) → IsOneOf c s.clients → c.id ≡ id → ⊥

abbrev pub Gone : ℕ → SessionsState → Type 0
Gone id s = Facts s × IsGone id s

pub gone_keeps : (id : ℕ) (s : SessionsState) (move : TableMove) → Gone id s → Gone id (table_after s move)
gone_keeps id s move g = (facts_keep s move g.0, record { given = id_stays s move g.0 id g.1.given; none = λ d inside is. by_it d (came s move d inside) is })
  where
    by_it : (d : ClientState) → Came (DestroysNone move) s (table_after s move).ids (table_after s move).numbers d → d.id ≡ id → ⊥
    by_it d (Stood c there stays) is = g.1.none c there (sym stays.id ∙ is)
    by_it d (Made c there makes one) is = g.1.none c there (sym makes.id ∙ is)
    by_it d (IsNew new nothing more) is = not_new s move g.0 id g.1.given d new is

-- a session that is refused with BADSESSION has no client
pub refused_gone : (s : SessionsState) (session : SessionId) (number : ℕ) (node : NodeId) (call : SlotCallValue) → Has (client_in session) (number_in session) s
    → request_answer (after_binding s session node) (request_of session number call) ≡ Refuses stat.BadSession → Gone (client_in session) s
refused_gone s session number node call h is = (h.0, record { given = h.1.given; none = λ c inside its. by_bound c its (key_change (λ (x : ClientState). x.id) (has_id (client_in session)) (client_bound (number_in session) node) (λ x. refl) c s.clients inside) })
  where
    by_bound : (c : ClientState) → c.id ≡ client_in session → HasKey (λ (x : ClientState). x.id) c.id (after_binding s session node).clients → ⊥
    by_bound c its k = none_found session number call (after_binding s session node) (has_keeps s (Bind session node) tt h.0 (client_in session) (number_in session) h.1) is k.x k.inside (k.is ∙ its)

-- and is not given
gone_not_given : (s : SessionsState) (id : ℕ) (verifier owner : List ℕ) (now ids : ℕ) (g : ClientState) → Gone id s → IsGiven s verifier owner now ids g → g.id ≡ id → ⊥
gone_not_given s id verifier owner now ids g gone (OfOld c inside own its number sequence) is = gone.1.none c inside (sym number ∙ is)
gone_not_given s id verifier owner now ids g gone (OfNew new more) is =
    let its : g.id ≡ client_id 1 (s.ids + 1) = ap (λ (c : ClientState). c.id) new ∙ ap (λ (n : ℕ). client_id n (s.ids + 1)) gone.0.table.boot in
    let given : id ≤ client_id 1 s.ids = gone.1.given in
    omega (arith, its, given, is)

-- ---- runs

pub calls_front : (xs ys : List MdsEvent) → AreCalls (xs ++ ys) → AreCalls xs
calls_front [] ys calls = tt
calls_front (x ∷ xs) ys calls = (calls.0, calls_front xs ys calls.1)

calls_rest : (xs ys : List MdsEvent) → AreCalls (xs ++ ys) → AreCalls ys
calls_rest [] ys calls = calls
calls_rest (x ∷ xs) ys calls = calls_rest xs ys calls.1

abbrev AnyTable : SessionsState → Type 0
AnyTable s = Unit {0}

any_keeps : (s : SessionsState) (move : TableMove) → DestroysNone move → AnyTable s → AnyTable (table_after s move)
any_keeps s move none i = tt

module _ (keeps : KeepsTable) (servers : List AddressValue) (mirrors : ℕ) where
  whole_of_run : (events : List MdsEvent) → AreCalls events → FilesWait (server_after servers mirrors events) × Whole (server_after servers mirrors events).sessions
  whole_of_run events calls = new_calls_keep Whole whole_keeps servers mirrors events calls (new_facts keeps servers mirrors, λ c inside made is. absurd inside)

  -- behind the event that gives it
  has_behind : (early : List MdsEvent) (d : MdsEvent) → AreCalls early → HearsCall d.input → (client : ℕ) (session : SessionId) → GivesSession servers mirrors early d client session
      → Has (client_in session) (number_in session) (after_event d (server_after servers mirrors early)).mds.sessions
  has_behind early d calls hears client session g = by_case (gave_session servers mirrors early d client session g)
    where
      as_given : (n : ℕ) → GaveSession d (server_after servers mirrors early) g.node client g.sequence session → number_in session ≡ n → Has client n (after_event d (server_after servers mirrors early)).mds.sessions
          → Has (client_in session) (number_in session) (after_event d (server_after servers mirrors early)).mds.sessions
      as_given n given number h =
          let f : Facts (server_after servers mirrors early).sessions = facts_of_run keeps servers mirrors early in
          let its : client_in session ≡ client = its_client d (server_after servers mirrors early) g.node client g.sequence session f.table given in
          subst (λ (k : ℕ). Has k (number_in session) (after_event d (server_after servers mirrors early)).mds.sessions) (sym its)
          (subst (λ (k : ℕ). Has client k (after_event d (server_after servers mirrors early)).mds.sessions) (sym number) h)

      by_case : GaveSession d (server_after servers mirrors early) g.node client g.sequence session → Has (client_in session) (number_in session) (after_event d (server_after servers mirrors early)).mds.sessions
      by_case (MakesNow c at known is behind sessions mds) =
          let s : SessionsState = (server_after servers mirrors early).sessions in
          let f : Facts s = facts_of_run keeps servers mirrors early in
          let due : DueSo s client c = subst (CaseSo s client g.sequence) at (case_so s client g.sequence) in
          let facts : Facts (after_creating s asked.callback_program g.node d.now (IsDue c)) =
          subst (λ (case : CreateSessionCase). Facts (after_creating s asked.callback_program g.node d.now case)) at (facts_keep s (Creates client g.sequence asked.callback_program g.node d.now) f) in
          let now : Has client (s.numbers + 1) behind.sessions = subst (Has client (s.numbers + 1)) (sym sessions) (facts, made_has s f client g.sequence g.node d.now c at due) in
          as_given (s.numbers + 1) (MakesNow c at known is behind sessions mds) (due_number s client c session f due is)
          (subst (λ (x : MdsValue). Has client (s.numbers + 1) x.sessions) (sym mds) (calls_out_keep (Has client (s.numbers + 1)) (has_given_keeps client (s.numbers + 1)) behind now))
      by_case (Replays number at known is) =
          let s : SessionsState = (server_after servers mirrors early).sessions in
          let w = whole_of_run early calls in
          let f : Facts s = w.1.0 in
          let r : ReplaySo s client g.sequence number = subst (CaseSo s client g.sequence) at (case_so s client g.sequence) in
          as_given number (Replays number at known is) (replay_number s client g.sequence number session f r is)
          (calls_keep (Has client number) (has_given_keeps client number) (server_after servers mirrors early) (d ∷ []) (hears, tt) w.0 (f, replayed_has s f client w.1.1 g.sequence number r)).1

  -- from then on
  pub has_later : (before early late : List MdsEvent) (d : MdsEvent) → IsEventOf before early d late → AreCalls before → (client : ℕ) (session : SessionId) → GivesSession servers mirrors early d client session
      → Has (client_in session) (number_in session) (server_after servers mirrors before).sessions
  has_later before early late d split calls client session g =
      let all : AreCalls (early ++ d ∷ late) = subst AreCalls split calls in
      let front : AreCalls early = calls_front early (d ∷ late) all in
      let rest : AreCalls (d ∷ late) = calls_rest early (d ∷ late) all in
      let m : MdsValue = server_after servers mirrors early in
      let waits : FilesWait (after_event d m).mds = (calls_keep AnyTable any_keeps m (d ∷ []) (rest.0, tt) (whole_of_run early front).0 tt).0 in
      subst (λ (l : List MdsEvent). Has (client_in session) (number_in session) (server_after servers mirrors l).sessions) (sym split)
      (subst (λ (x : MdsValue). Has (client_in session) (number_in session) x.sessions) (sym (run_behind (new_mds servers mirrors) early (d ∷ late)))
      (calls_keep (Has (client_in session) (number_in session)) (has_given_keeps (client_in session) (number_in session)) (after_event d m).mds late rest.1 waits (has_behind early d front rest.0 client session g)).1)

pub ids_stay_gone : KeepsTable → IdsStayGone
ids_stay_gone keeps servers mirrors before more f calls early late d split client session given number refused owner verifier other g is =
    let past : AreCalls before = calls_front before (more ++ f ∷ []) calls in
    let gone : Gone (client_in session) (server_after servers mirrors before).sessions =
    refused_gone (server_after servers mirrors before).sessions session number refused.0 refused.1 (has_later keeps servers mirrors before early late d split past client session given) refused.2 in
    let now : Gone (client_in session) (server_after servers mirrors (before ++ more)).sessions =
    subst (λ (x : MdsValue). Gone (client_in session) x.sessions) (sym (run_behind (new_mds servers mirrors) before more))
    (run_keeps (Gone (client_in session)) (gone_keeps (client_in session)) (server_after servers mirrors before) more gone) in
    let gave : Gave f (server_after servers mirrors (before ++ more)) owner verifier other g.sequence = gave_in servers mirrors (before ++ more) f owner verifier other g in
    gone_not_given (server_after servers mirrors (before ++ more)).sessions (client_in session) (long verifier) owner f.now _ gave.g now gave.is (gave.id ∙ is)
