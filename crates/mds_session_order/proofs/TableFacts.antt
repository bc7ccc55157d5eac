-- What holds of the table of clients in every run: no two records have one id, and no session that was made has a number above the last.
use Rattle.std.proofs.Common.{◌≡◌, ◌≤◌, ◌<◌, ℕ, ◌+◌, Bool, true, false, List, [], ◌∷◌, ◌++◌, length, Option, Some, None, refl, sym, ap, subst, ◌∙◌, arith}
use Rattle.std.specs.Prelude.{◌==◌, ◌&&◌, ◌^◌, not, nat_lt, fold, if◌then◌else◌}
use Rattle.std.specs.List.{find}
use Rattle.std.proofs.lemmas.Bool.{cond_both, eqb-true, eq-eqb, and_parts}
use Rattle.std.proofs.lemmas.Option.{same_Some, none-some}
use Rattle.cluster_model.specs.Members.{IsOneOf}
use Rattle.device_addr.specs.Universal.{AddressValue}
use Rattle.nfs4_session.specs.declared.client.TheConstants.{MAX_SESSIONS}
use Rattle.nfs4_session.specs.Slots.{SlotAnswer, TakesEffect, Repeats, Refuses, sequence_after}
use Rattle.nfs4_session.specs.Clients.{ClientState, MadeSession, SessionState, SessionsState, no_clients, client_id, has_id}
use Rattle.nfs4_session.specs.ExchangeIds.{ExchangeCase, IsKnown, IsAgain, ReplacesUnconfirmed, Restarts, IsNewOwner, exchange_case, exchange_fault, after_exchange}
use Rattle.nfs4_session.specs.declared.faults.IdFault.{IdFault}
use Rattle.nfs4_types.specs.declared.status.Stat4.{Stat4}
use Rattle.nfs4_session.specs.CreateSessions.{CreateSessionCase, IsDue, IsReplay, IsMisordered, HasNoRoom, IsStale, numbers_are_spent, case_by_next, case_by_last, case_by_client, create_session_case, after_creating}
use Rattle.nfs4_session.specs.Requests.{request_answer, after_request}
use Rattle.nfs4_session.specs.Beginning.{table_begun}
use Rattle.nfs4_session.specs.Bindings.{last_session}
use Rattle.nfs4_session.specs.Ends.{without_client, destroy_client_fault, has_ended}
use Rattle.nfs4_session.specs.TableLaw.{TableMove, ExchangeId, CreateSession, BeginRequest, FinishRequest, Bind, CallBack, DestroySession, DestroyClient, Expire, table_after, exchanged_unless, called_back_by, destroyed_unless, expired_by, TableRun, table_moved, KeepsTable, IsTable as StandsApart}
use Rattle.mds_rule.specs.MdsStates.{MdsValue, new_mds}
use Rattle.mds_walk.specs.MdsRuns.{MdsEvent, run_from}
use Rattle.mds_walk.proofs.Lists.{all_in, found_in, found_passes}
use Rattle.mds_replies.specs.ClientCalls.{server_after}
use Rattle.mds_replies.proofs.TableKeys.{grows_with}
use Rattle.mds_replies.proofs.TableRuns.{run_keeps}
use Rattle.mds_replies.proofs.ClientRecords.{IsTable, table_keeps}
use Rattle.mds_session_order.proofs.Numbered.{only_one}
use Rattle.mds_session_order.proofs.TableSteps.{DestroysNone, Stays, Makes, Came, Stood, Made, IsNew, came_with}

-- ---- what the case of a CREATE_SESSION says

-- the record is there, and numbers of sessions are left
pub record DueSo (s : SessionsState) (client : ℕ) (c : ClientState) : Type 0 where
  pub inside : IsOneOf c s.clients
  pub id : c.id ≡ client
  pub spare : s.numbers ≡ 18446744073709551615 → ⊥

-- the record is there, and the call of this number made the session
pub record ReplaySo (s : SessionsState) (client sequence number : ℕ) : Type 0 where
  pub c : ClientState
  pub inside : IsOneOf c s.clients
  pub id : c.id ≡ client
  pub made : MadeSession
  pub is : c.made ≡ Some made
  pub sequence_is : made.sequence ≡ sequence
  pub number_is : made.number ≡ number

abbrev pub CaseSo : SessionsState → ℕ → ℕ → CreateSessionCase → Type 0
CaseSo s client sequence (IsDue c) = DueSo s client c
CaseSo s client sequence (IsReplay number) = ReplaySo s client sequence number
CaseSo s client sequence IsMisordered = Unit {0}
CaseSo s client sequence HasNoRoom = Unit {0}
CaseSo s client sequence IsStale = Unit {0}

not_true : (b : Bool) → not b ≡ true → b ≡ true → ⊥
not_true true is same = absurd cc
not_true false is same = absurd cc

module _ (s : SessionsState) (client sequence : ℕ) where
  next_so : (c : ClientState) → IsOneOf c s.clients → c.id ≡ client → CaseSo s client sequence (case_by_next s c sequence)
  next_so c inside is =
      cond_both (not (sequence == c.sequence)) IsMisordered (if nat_lt (length c.sessions) MAX_SESSIONS && not (numbers_are_spent s) then IsDue c else HasNoRoom) (CaseSo s client sequence) (λ off. tt)
      (λ on.
      cond_both (nat_lt (length c.sessions) MAX_SESSIONS && not (numbers_are_spent s)) (IsDue c) HasNoRoom (CaseSo s client sequence)
      (λ room. record {
        inside = inside;
        id = is;
        spare = λ last. not_true (numbers_are_spent s) (and_parts (nat_lt (length c.sessions) MAX_SESSIONS) (not (numbers_are_spent s)) room).1 (eq-eqb s.numbers 18446744073709551615 last);
      }) (λ full. tt))

  last_so : (c : ClientState) → IsOneOf c s.clients → c.id ≡ client → (made : Option MadeSession) → c.made ≡ made → CaseSo s client sequence (case_by_last s c sequence made)
  last_so c inside is None at = next_so c inside is
  last_so c inside is (Some made) at =
      cond_both (sequence == made.sequence) (IsReplay made.number) (case_by_next s c sequence) (CaseSo s client sequence)
      (λ same. record { c = c; inside = inside; id = is; made = made; is = at; sequence_is = sym (eqb-true sequence made.sequence same); number_is = refl }) (λ other. next_so c inside is)

  client_so : (o : Option ClientState) → find (has_id client) s.clients ≡ o → CaseSo s client sequence (case_by_client s sequence o)
  client_so None is = tt
  client_so (Some c) is = last_so c (found_in (has_id client) s.clients c is) (eqb-true c.id client (found_passes (has_id client) s.clients c is)) c.made refl

  pub case_so : CaseSo s client sequence (create_session_case s client sequence)
  case_so = client_so (find (has_id client) s.clients) refl

-- ---- how many sessions were made

pub record MoreMade (s t : SessionsState) : Type 0 where
  pub more : s.numbers ≤ t.numbers
  pub fit : s.numbers ≤ 18446744073709551615 → t.numbers ≤ 18446744073709551615

same_made : (s t : SessionsState) → t.numbers ≡ s.numbers → MoreMade s t
same_made s t is = record { more = omega (arith, is); fit = λ fit. omega (arith, is, fit) }

one_made : (s t : SessionsState) → t.numbers ≡ s.numbers + 1 → (s.numbers ≡ 18446744073709551615 → ⊥) → MoreMade s t
one_made s t is spare = record { more = omega (arith, is); fit = λ fit. by_bound fit }
  where
    by_bound : s.numbers ≤ 18446744073709551615 → t.numbers ≤ 18446744073709551615
    by_bound fit = grind (arith, fit, is, spare)

pub more_with : (s : SessionsState) (move : TableMove) → MoreMade s (table_after s move)
more_with s (ExchangeId verifier owner now) = by_case (exchange_case s.clients verifier owner) (exchange_fault s (exchange_case s.clients verifier owner))
  where
    by_case : (case : ExchangeCase) (fault : Option IdFault) → MoreMade s (exchanged_unless s (after_exchange s verifier owner now case) fault)
    by_case case (Some fault) = same_made s s refl
    by_case (IsKnown client) None = same_made s _ refl
    by_case (IsAgain client) None = same_made s _ refl
    by_case ReplacesUnconfirmed None = same_made s _ refl
    by_case Restarts None = same_made s _ refl
    by_case IsNewOwner None = same_made s _ refl
more_with s (CreateSession client sequence program node now) = by_case (create_session_case s client sequence) (case_so s client sequence)
  where
    by_case : (case : CreateSessionCase) → CaseSo s client sequence case → MoreMade s (after_creating s program node now case)
    by_case (IsDue c) so = one_made s _ refl so.spare
    by_case (IsReplay session) so = same_made s s refl
    by_case IsMisordered so = same_made s s refl
    by_case HasNoRoom so = same_made s s refl
    by_case IsStale so = same_made s s refl
more_with s (BeginRequest request now) = by_case (request_answer s request)
  where
    by_case : (a : SlotAnswer) → MoreMade s (table_begun s (after_request s request now) a)
    by_case TakesEffect = same_made s _ refl
    by_case (Repeats reply) = same_made s s refl
    by_case (Refuses status) = same_made s s refl
more_with s (FinishRequest pass reply) = same_made s _ refl
more_with s (Bind session node) = same_made s _ refl
more_with s (CallBack client) = by_case (last_session (find (has_id client) s.clients))
  where
    by_case : (o : Option SessionState) → MoreMade s (called_back_by s client o)
    by_case None = same_made s s refl
    by_case (Some session) = same_made s _ refl
more_with s (DestroySession session) = same_made s _ refl
more_with s (DestroyClient client) = by_case (destroy_client_fault (find (has_id client) s.clients))
  where
    by_case : (fault : Option Stat4) → MoreMade s (destroyed_unless s (without_client s client) fault)
    by_case None = same_made s _ refl
    by_case (Some status) = same_made s s refl
more_with s (Expire now) = by_case (find (has_ended now) s.clients)
  where
    by_case : (o : Option ClientState) → MoreMade s (expired_by s o)
    by_case None = same_made s s refl
    by_case (Some c) = same_made s _ refl

-- ---- the table stays so

-- whatever calls come to it, its records stand apart
pub record StaysApart (s : SessionsState) : Type 0 where
  pub run : TableRun
  pub is : run.table ≡ s
  pub always : (moves : List TableMove) → StandsApart (fold table_moved run moves).table

-- a session that was made last has a number up to the last, and was made by a number that is not the next
pub record MadeSo (s : SessionsState) (c : ClientState) (made : MadeSession) : Type 0 where
  pub within : made.number ≤ s.numbers
  pub before : made.sequence ≡ c.sequence → ⊥

pub record Facts (s : SessionsState) : Type 0 where
  pub table : IsTable s
  pub apart : StaysApart s
  pub fit : s.numbers ≤ 18446744073709551615
  pub made : (c : ClientState) → IsOneOf c s.clients → (made : MadeSession) → c.made ≡ Some made → MadeSo s c made

-- records of one id are one
pub one_record : (s : SessionsState) → Facts s → (c d : ClientState) → IsOneOf c s.clients → IsOneOf d s.clients → c.id ≡ d.id → c ≡ d
one_record s f c d inside there same =
    let stands : StandsApart s = subst StandsApart f.apart.is (f.apart.always []) in
    only_one (λ (x : ClientState). x.id) s.clients stands.ids c d inside there same

pub came : (s : SessionsState) (move : TableMove) (d : ClientState) → IsOneOf d (table_after s move).clients → Came (DestroysNone move) s (table_after s move).ids (table_after s move).numbers d
came s move d inside = all_in (Came (DestroysNone move) s (table_after s move).ids (table_after s move).numbers) (table_after s move).clients d (came_with s move) inside

after_other : (n : ℕ) → n ≡ sequence_after n → ⊥
after_other n =
    cond_both (n == 4294967295) 0 (n + 1) (λ (k : ℕ). n ≡ k → ⊥)
    (λ last is. let at : n ≡ 4294967295 = eqb-true n 4294967295 last in omega (arith, at, is))
    (λ other is. omega (arith, is))

module _ (s : SessionsState) (move : TableMove) (f : Facts s) where
  made_keeps : (d : ClientState) → Came (DestroysNone move) s (table_after s move).ids (table_after s move).numbers d → (made : MadeSession) → d.made ≡ Some made → MadeSo (table_after s move) d made
  made_keeps d (Stood c inside stays) made is =
      let old : MadeSo s c made = f.made c inside made (sym stays.made ∙ is) in
      let within : made.number ≤ s.numbers = old.within in
      let more : s.numbers ≤ (table_after s move).numbers = (more_with s move).more in
      record { within = omega (arith, within, more); before = λ same. old.before (same ∙ stays.sequence) }
  made_keeps d (Made c inside makes one) made is =
      let it : record { sequence = c.sequence; number = s.numbers + 1 } ≡ made = same_Some (record { sequence = c.sequence; number = s.numbers + 1 }) made (sym makes.made ∙ is) in
      let number : s.numbers + 1 ≡ made.number = ap (λ (m : MadeSession). m.number) it in
      let sequence : c.sequence ≡ made.sequence = ap (λ (m : MadeSession). m.sequence) it in
      record { within = omega (arith, number, one); before = λ same. after_other c.sequence (sequence ∙ same ∙ makes.sequence) }
  made_keeps d (IsNew id none more) made is = absurd (none-some made (sym none ∙ is))

  pub facts_keep : Facts (table_after s move)
  facts_keep = record {
    table = table_keeps s move f.table;
    apart = record { run = table_moved f.apart.run move; is = ap (λ (x : SessionsState). table_after x move) f.apart.is; always = λ moves. f.apart.always (move ∷ moves) };
    fit = (more_with s move).fit f.fit;
    made = λ d inside made is. made_keeps d (came s move d inside) made is;
  }

  -- ---- ids that were given, and sessions' numbers

  pub id_stays : (id : ℕ) → id ≤ client_id 1 s.ids → id ≤ client_id 1 (table_after s move).ids
  id_stays id given = let more : s.ids ≤ (table_after s move).ids = (grows_with s move).more in omega (arith, more, given)

  pub not_new : (id : ℕ) → id ≤ client_id 1 s.ids → (d : ClientState) → d.id ≡ client_id s.boot (s.ids + 1) → d.id ≡ id → ⊥
  not_new id given d new same = let its : d.id ≡ client_id 1 (s.ids + 1) = new ∙ ap (λ (n : ℕ). client_id n (s.ids + 1)) f.table.boot in omega (arith, given, its, same)

-- ---- in every run

pub new_facts : KeepsTable → (servers : List AddressValue) (mirrors : ℕ) → Facts (new_mds servers mirrors).sessions
new_facts keeps servers mirrors = record {
  table = record { boot = refl; few = omega arith; ids = λ c inside. absurd inside; sequences = λ c inside. absurd inside; pairs = λ c d inside there one. absurd inside };
  apart = record { run = record { table = no_clients 1; ids = []; numbers = [] }; is = refl; always = λ moves. (keeps 1 moves).0 };
  fit = omega arith;
  made = λ c inside made is. absurd inside;
}

pub facts_of_run : KeepsTable → (servers : List AddressValue) (mirrors : ℕ) (events : List MdsEvent) → Facts (server_after servers mirrors events).sessions
facts_of_run keeps servers mirrors events = run_keeps Facts (λ s move i. facts_keep s move i) (new_mds servers mirrors) events (new_facts keeps servers mirrors)
