-- A session is new since the EXCHANGE_ID by whose number it is asked for, in every run.
use Rattle.std.proofs.Common.{◌≡◌, ◌≤◌, ◌<◌, ℕ, ◌+◌, Bool, true, List, [], ◌∷◌, ◌++◌, Option, Some, None, refl, sym, ap, subst, ◌∙◌, arith}
use Rattle.std.specs.Prelude.{◌==◌, ◌&&◌}
use Rattle.std.proofs.lemmas.Bool.{eqb-true, and_parts}
use Rattle.std.proofs.lemmas.Option.{same_Some, none-some}
use Rattle.ff_xdr.specs.Form.{long}
use Rattle.device_addr.specs.Universal.{AddressValue}
use Rattle.cluster_model.specs.declared.ids.NodeId.{NodeId}
use Rattle.cluster_model.specs.Members.{IsOneOf}
use Rattle.nfs4_types.specs.declared.ids.SessionId.{SessionId}
use Rattle.nfs4_session.specs.Clients.{ClientState, MadeSession, SessionsState, client_id, session_id, client_in, number_in}
use Rattle.nfs4_session.specs.ExchangeIds.{new_client}
use Rattle.nfs4_session.specs.CreateSessions.{CreateSessionCase, IsDue, IsReplay, create_session_case, after_creating}
use Rattle.nfs4_session.specs.TableLaw.{TableMove, ExchangeId as Exchanges, table_after, KeepsTable}
use Rattle.table_slots.specs.TableSlots.{is_of_session}
use Rattle.client_session_calls.specs.SessionOps as asked
use Rattle.mds_rule.specs.MdsStates.{MdsValue, new_mds}
use Rattle.mds_rule.specs.Goes.{calls_out}
use Rattle.mds_walk.specs.MdsRuns.{MdsEvent, after_event, run_from}
use Rattle.mds_replies.specs.ClientCalls.{AreCalls, server_after, IsEventOf}
use Rattle.mds_replies.specs.ClientIds.{GivesId, GivesSession}
use Rattle.mds_replies.proofs.Periods.{run_behind}
use Rattle.mds_replies.proofs.TableKeys.{grows_with}
use Rattle.mds_replies.proofs.TableRuns.{run_keeps, out_keeps}
use Rattle.mds_replies.proofs.ClientRecords.{IsTable}
use Rattle.mds_replies.proofs.ExchangeRuns.{IsGiven, OfOld, OfNew, Gave}
use Rattle.mds_replies.proofs.OneOwner.{gave_in}
use Rattle.mds_replies.proofs.CreateRuns.{session_number}
use Rattle.mds_replies.proofs.SessionRuns.{GaveSession, Makes as MakesNow, Replays, gave_session}
use Rattle.mds_session_order.specs.SessionOrder.{SessionsAreNew}
use Rattle.mds_session_order.proofs.TableSteps.{DestroysNone, Came, Stood, Made, IsNew}
use Rattle.mds_session_order.proofs.TableFacts.{Facts, MadeSo, DueSo, ReplaySo, CaseSo, case_so, more_with, facts_keep, facts_of_run, one_record, came, id_stays, not_new}

-- ---- the sessions' numbers that were given

abbrev HasGiven : ℕ → SessionsState → Type 0
HasGiven number s = number ≤ s.numbers

given_keeps : (number : ℕ) (s : SessionsState) (move : TableMove) → HasGiven number s → HasGiven number (table_after s move)
given_keeps number s move given = let more : s.numbers ≤ (table_after s move).numbers = (more_with s move).more in omega (arith, given, more)

-- the number of a session that was made now, and of one that was made before
pub due_number : (s : SessionsState) (client : ℕ) (c : ClientState) (session : SessionId) → Facts s → DueSo s client c → session ≡ session_id client (s.numbers + 1) → number_in session ≡ s.numbers + 1
due_number s client c session f due is = ap number_in is ∙ session_number client (s.numbers + 1) (by_fit f.fit due.spare)
  where
    by_fit : s.numbers ≤ 18446744073709551615 → (s.numbers ≡ 18446744073709551615 → ⊥) → s.numbers + 1 < 18446744073709551616
    by_fit fit spare = grind (arith, fit, spare)

replay_within : (s : SessionsState) (client sequence number : ℕ) → Facts s → ReplaySo s client sequence number → number ≤ s.numbers
replay_within s client sequence number f r = let within : r.made.number ≤ s.numbers = (f.made r.c r.inside r.made r.is).within in let is : r.made.number ≡ number = r.number_is in omega (arith, within, is)

pub replay_number : (s : SessionsState) (client sequence number : ℕ) (session : SessionId) → Facts s → ReplaySo s client sequence number → session ≡ session_id client number → number_in session ≡ number
replay_number s client sequence number session f r is =
    let within : number ≤ s.numbers = replay_within s client sequence number f r in
    let fit : s.numbers ≤ 18446744073709551615 = f.fit in
    ap number_in is ∙ session_number client number (omega (arith, within, fit))

module _ (keeps : KeepsTable) (servers : List AddressValue) (mirrors : ℕ) where
  -- a session that was given has a number up to the last
  given_behind : (before : List MdsEvent) (d : MdsEvent) (client : ℕ) (session : SessionId) → GivesSession servers mirrors before d client session
      → HasGiven (number_in session) (after_event d (server_after servers mirrors before)).mds.sessions
  given_behind before d client session g = by_case (gave_session servers mirrors before d client session g)
    where
      by_case : GaveSession d (server_after servers mirrors before) g.node client g.sequence session → HasGiven (number_in session) (after_event d (server_after servers mirrors before)).mds.sessions
      by_case (MakesNow c at known is behind sessions mds) =
          let s : SessionsState = (server_after servers mirrors before).sessions in
          let due : DueSo s client c = subst (CaseSo s client g.sequence) at (case_so s client g.sequence) in
          let number : number_in session ≡ s.numbers + 1 = due_number s client c session (facts_of_run keeps servers mirrors before) due is in
          let now : HasGiven (number_in session) behind.sessions = subst (λ (x : SessionsState). number_in session ≤ x.numbers) (sym sessions) (omega (arith, number)) in
          subst (λ (x : MdsValue). HasGiven (number_in session) x.sessions) (sym mds) (out_keeps (HasGiven (number_in session)) (given_keeps (number_in session)) behind now)
      by_case (Replays number at known is) =
          let s : SessionsState = (server_after servers mirrors before).sessions in
          let f : Facts s = facts_of_run keeps servers mirrors before in
          let r : ReplaySo s client g.sequence number = subst (CaseSo s client g.sequence) at (case_so s client g.sequence) in
          let its : number_in session ≡ number = replay_number s client g.sequence number session f r is in
          let within : number ≤ s.numbers = replay_within s client g.sequence number f r in
          run_keeps (HasGiven (number_in session)) (given_keeps (number_in session)) (server_after servers mirrors before) (d ∷ []) (omega (arith, its, within))

  given_later : (early before after : List MdsEvent) (d : MdsEvent) → IsEventOf early before d after → (client : ℕ) (session : SessionId) → GivesSession servers mirrors before d client session
      → number_in session ≤ (server_after servers mirrors early).sessions.numbers
  given_later early before after d split client session g =
      subst (λ (l : List MdsEvent). number_in session ≤ (server_after servers mirrors l).sessions.numbers) (sym split)
      (subst (λ (m : MdsValue). number_in session ≤ m.sessions.numbers) (sym (run_behind (new_mds servers mirrors) before (d ∷ after)))
      (run_keeps (HasGiven (number_in session)) (given_keeps (number_in session)) (after_event d (server_after servers mirrors before)).mds after (given_behind before d client session g)))

-- ---- since an EXCHANGE_ID

-- what this call of the id makes, or made, has a number above these
record IsSince (id sequence numbers : ℕ) (s : SessionsState) : Type 0 where
  few : numbers ≤ s.numbers
  given : id ≤ client_id 1 s.ids
  later : (c : ClientState) → IsOneOf c s.clients → c.id ≡ id → (made : MadeSession) → c.made ≡ Some made → made.sequence ≡ sequence → numbers < made.number

made_later : (s : SessionsState) (numbers : ℕ) (c : ClientState) (made : MadeSession) (x : Option MadeSession) → numbers ≤ s.numbers → x ≡ Some (record { sequence = c.sequence; number = s.numbers + 1 }) → x ≡ Some made → numbers < made.number
made_later s numbers c made x few first is =
    let number : s.numbers + 1 ≡ made.number = ap (λ (m : MadeSession). m.number) (same_Some (record { sequence = c.sequence; number = s.numbers + 1 }) made (sym first ∙ is)) in
    omega (arith, few, number)

module _ (id sequence numbers : ℕ) where
  abbrev Since : SessionsState → Type 0
  Since s = Facts s × IsSince id sequence numbers s

  since_keeps : (s : SessionsState) (move : TableMove) → Since s → Since (table_after s move)
  since_keeps s move i =
      (facts_keep s move i.0, record { few = given_keeps numbers s move i.1.few; given = id_stays s move i.0 id i.1.given; later = λ d inside same made is its. by_it d (came s move d inside) same made is its })
    where
      by_it : (d : ClientState) → Came (DestroysNone move) s (table_after s move).ids (table_after s move).numbers d → d.id ≡ id → (made : MadeSession) → d.made ≡ Some made → made.sequence ≡ sequence → numbers < made.number
      by_it d (Stood c inside stays) same made is its = i.1.later c inside (sym stays.id ∙ same) made (sym stays.made ∙ is) its
      by_it d (Made c inside makes one) same made is its = made_later s numbers c made d.made i.1.few makes.made is
      by_it d (IsNew new none more) same made is its = absurd (none-some made (sym none ∙ is))

  -- behind the call
  module _ (s : SessionsState) (f : Facts s) (verifier owner : List ℕ) (now : ℕ) (few : numbers ≤ s.numbers) where
    abbrev Behind : SessionsState
    Behind = table_after s (Exchanges verifier owner now)

    old_since : (c : ClientState) → IsOneOf c s.clients → c.id ≡ id → c.sequence ≡ sequence → IsSince id sequence numbers (table_after s (Exchanges verifier owner now))
    old_since c inside is at = record {
      few = given_keeps numbers s (Exchanges verifier owner now) few;
      given = id_stays s (Exchanges verifier owner now) f id (subst (λ (n : ℕ). n ≤ client_id 1 s.ids) is (f.table.ids c inside));
      later = λ d there same made its number. by_it d (came s (Exchanges verifier owner now) d there) same made its number;
    }
      where
        by_it : (d : ClientState) → Came (DestroysNone (Exchanges verifier owner now)) s (table_after s (Exchanges verifier owner now)).ids (table_after s (Exchanges verifier owner now)).numbers d → d.id ≡ id
            → (made : MadeSession) → d.made ≡ Some made → made.sequence ≡ sequence → numbers < made.number
        by_it d (Stood x there stays) same made its number =
            let one : x ≡ c = one_record s f x c there inside (sym stays.id ∙ same ∙ sym is) in
            absurd ((f.made x there made (sym stays.made ∙ its)).before (number ∙ sym at ∙ sym (ap (λ (y : ClientState). y.sequence) one)))
        by_it d (Made x there makes more) same made its number = made_later s numbers x made d.made few makes.made its
        by_it d (IsNew new none more) same made its number = absurd (none-some made (sym none ∙ its))

    new_since : id ≡ client_id 1 (s.ids + 1) → (table_after s (Exchanges verifier owner now)).ids ≡ s.ids + 1 → IsSince id sequence numbers (table_after s (Exchanges verifier owner now))
    new_since is more = record {
      few = given_keeps numbers s (Exchanges verifier owner now) few;
      given = omega (arith, is, more);
      later = λ d there same made its number. by_it d (came s (Exchanges verifier owner now) d there) same made its number;
    }
      where
        not_old : (c : ClientState) → IsOneOf c s.clients → c.id ≡ id → ⊥
        not_old c inside same = let within : c.id ≤ client_id 1 s.ids = f.table.ids c inside in omega (arith, within, same, is)

        by_it : (d : ClientState) → Came (DestroysNone (Exchanges verifier owner now)) s (table_after s (Exchanges verifier owner now)).ids (table_after s (Exchanges verifier owner now)).numbers d → d.id ≡ id
            → (made : MadeSession) → d.made ≡ Some made → made.sequence ≡ sequence → numbers < made.number
        by_it d (Stood x there stays) same made its number = absurd (not_old x there (sym stays.id ∙ same))
        by_it d (Made x there makes one) same made its number = absurd (not_old x there (sym makes.id ∙ same))
        by_it d (IsNew new none one) same made its number = absurd (none-some made (sym none ∙ its))

    given_since : (g : ClientState) → g.id ≡ id → g.sequence ≡ sequence → IsGiven s verifier owner now (table_after s (Exchanges verifier owner now)).ids g → Since (table_after s (Exchanges verifier owner now))
    given_since g is at (OfOld c inside own its number next) = (facts_keep s (Exchanges verifier owner now) f, old_since c inside (sym number ∙ is) (sym next ∙ at))
    given_since g is at (OfNew new more) =
        (facts_keep s (Exchanges verifier owner now) f, new_since (sym is ∙ ap (λ (c : ClientState). c.id) new ∙ ap (λ (n : ℕ). client_id n (s.ids + 1)) f.table.boot) more)

module _ (keeps : KeepsTable) (servers : List AddressValue) (mirrors : ℕ) where
  since_later : (early middle : List MdsEvent) (f : MdsEvent) (owner : List ℕ) (verifier client : ℕ) (i : GivesId servers mirrors early f owner verifier client)
      → Since client i.sequence (server_after servers mirrors early).sessions.numbers (server_after servers mirrors (early ++ f ∷ middle)).sessions
  since_later early middle f owner verifier client i =
      let m : MdsValue = server_after servers mirrors early in
      let g : Gave f m owner verifier client i.sequence = gave_in servers mirrors early f owner verifier client i in
      let now : Since client i.sequence m.sessions.numbers (table_after m.sessions (Exchanges (long verifier) owner f.now)) =
      given_since client i.sequence m.sessions.numbers m.sessions (facts_of_run keeps servers mirrors early) (long verifier) owner f.now (omega arith) g.g g.id g.number g.is in
      let behind : Since client i.sequence m.sessions.numbers (after_event f m).mds.sessions =
      subst (λ (x : MdsValue). Since client i.sequence m.sessions.numbers x.sessions) (sym g.mds)
      (out_keeps (Since client i.sequence m.sessions.numbers) (since_keeps client i.sequence m.sessions.numbers) (record m { sessions = table_after m.sessions (Exchanges (long verifier) owner f.now) }) now) in
      subst (λ (x : MdsValue). Since client i.sequence m.sessions.numbers x.sessions) (sym (run_behind (new_mds servers mirrors) early (f ∷ middle)))
      (run_keeps (Since client i.sequence m.sessions.numbers) (since_keeps client i.sequence m.sessions.numbers) (after_event f m).mds middle behind)

  -- what is given now has a number above
  above : (past : List MdsEvent) (e : MdsEvent) (client : ℕ) (session : SessionId) (g : GivesSession servers mirrors past e client session) (sequence numbers : ℕ) → g.sequence ≡ sequence
      → Since client sequence numbers (server_after servers mirrors past).sessions → numbers < number_in session
  above past e client session g sequence numbers same i = by_case (gave_session servers mirrors past e client session g)
    where
      by_case : GaveSession e (server_after servers mirrors past) g.node client g.sequence session → numbers < number_in session
      by_case (MakesNow c at known is behind sessions mds) =
          let s : SessionsState = (server_after servers mirrors past).sessions in
          let due : DueSo s client c = subst (CaseSo s client g.sequence) at (case_so s client g.sequence) in
          let number : number_in session ≡ s.numbers + 1 = due_number s client c session i.0 due is in
          let few : numbers ≤ s.numbers = i.1.few in
          omega (arith, number, few)
      by_case (Replays number at known is) =
          let s : SessionsState = (server_after servers mirrors past).sessions in
          let r : ReplaySo s client g.sequence number = subst (CaseSo s client g.sequence) at (case_so s client g.sequence) in
          let its : number_in session ≡ number = replay_number s client g.sequence number session i.0 r is in
          let later : numbers < r.made.number = i.1.later r.c r.inside r.id r.made r.is (r.sequence_is ∙ same) in
          let one : r.made.number ≡ number = r.number_is in
          omega (arith, its, later, one)

pub sessions_are_new : KeepsTable → SessionsAreNew
sessions_are_new keeps servers mirrors early middle f e calls owner verifier client i session g same before after d split other old h is =
    let past : number_in old ≤ (server_after servers mirrors early).sessions.numbers = given_later keeps servers mirrors early before after d split other old h in
    let now : (server_after servers mirrors early).sessions.numbers < number_in session =
    above keeps servers mirrors (early ++ f ∷ middle) e client session g i.sequence (server_after servers mirrors early).sessions.numbers same (since_later keeps servers mirrors early middle f owner verifier client i) in
    let one : number_in old ≡ number_in session = eqb-true (number_in old) (number_in session) (and_parts (client_in old == client_in session) (number_in old == number_in session) is).1 in
    omega (arith, past, now, one)
