-- An EXCHANGE_ID that is answered with an id: whose the record is that has it, and what the table of clients is behind it.
use Rattle.std.proofs.Common.{◌≡◌, ◌≤◌, ◌<◌, ℕ, ◌+◌, Bool, true, false, List, [], ◌∷◌, Option, Some, None, refl, sym, ap, subst, ◌∙◌, arith}
use Rattle.std.specs.Prelude.{◌&&◌, ◌^◌, not, IsTrue, if◌then◌else◌}
use Rattle.std.specs.Str.{bytes_eq, is_utf8}
use Rattle.std.proofs.lemmas.Str.{is_utf8-from_IsUtf8, IsUtf8-from_ascii}
use Rattle.std.specs.List.{find, list_any}
use Rattle.std.proofs.lemmas.Bool.{cond_both, and_parts}
use Rattle.std.proofs.lemmas.Slice.Eq.{bytes_eq-Decides}
use Rattle.ff_xdr.specs.Form.{Fits, long, spelling}
use Rattle.rpc_record.specs.Replies.{RpcReply}
use Rattle.cluster_model.specs.declared.ids.NodeId.{NodeId}
use Rattle.cluster_model.specs.Members.{IsOneOf}
use Rattle.nfs4_types.specs.declared.status.Stat4.TheVariants as stat
use Rattle.nfs4_compound.specs.declared.stop.Stop.TheVariants as stop
use Rattle.nfs4_compound.specs.Compounds.{compound4_res}
use Rattle.compound_reply.specs.Replied.{success_reply}
use Rattle.nfs4_session.specs.declared.faults.IdFault.{IdFault}
use Rattle.nfs4_session.specs.Clients.{ClientState, SessionsState, client_id, is_owned_by}
use Rattle.nfs4_session.specs.ExchangeIds.{ExchangeCase, ReplacesUnconfirmed, Restarts, IsNewOwner, is_by, is_unconfirmed_of, is_confirmed_of, case_of_others, case_of_unconfirmed, case_of_confirmed, exchange_case, exchange_fault, new_client, given_client, exchanged, after_exchange}
use Rattle.nfs4_session.specs.TableLaw.{ExchangeId as Exchanges, table_after, exchanged_unless}
use Rattle.client_mds_calls.specs.declared.ask.MdsAsk.TheVariants as ask
use Rattle.client_mds_calls.specs.MdsCalls.{ExchangeId}
use Rattle.client_mds_calls.specs.MdsReplies.{MdsAnswerValue, Client, reply_of_ask, MdsReplyValue}
use Rattle.mds_rule.specs.MdsStates.{CompoundRun, Replies, MdsValue, MdsStep, and_then}
use Rattle.mds_rule.specs.OpSteps.{refused_as}
use Rattle.mds_rule.specs.SessionOps.{exchange_flags, exchange_result, with_exchange}
use Rattle.mds_rule.specs.Compounds.{op_then, runs}
use Rattle.mds_rule.specs.Goes.{calls_out}
use Rattle.mds_walk.specs.MdsRuns.{MdsEvent, after_event}
use Rattle.mds_walk.proofs.Lists.{found_in, found_passes}
use Rattle.mds_replies.proofs.OutCalls.{AreCalled}
use Rattle.mds_replies.proofs.ReplySent.{run_of_call, reply_is, read_as}
use Rattle.mds_replies.proofs.ClientRecords.{IsTable}

-- ---- the record that is given

pub data IsGiven (s : SessionsState) (verifier owner : List ℕ) (now ids : ℕ) (g : ClientState) : Type 0 where
  OfOld : (c : ClientState) → IsOneOf c s.clients → c.owner ≡ owner → c.verifier ≡ verifier → g.id ≡ c.id → g.sequence ≡ c.sequence → IsGiven s verifier owner now ids g
  OfNew : g ≡ new_client s verifier owner now → ids ≡ s.ids + 1 → IsGiven s verifier owner now ids g

module _ (s : SessionsState) (verifier owner : List ℕ) (now : ℕ) where
  abbrev Given : ExchangeCase → Type 0
  Given case = IsGiven s verifier owner now (after_exchange s verifier owner now case).ids (given_client s verifier owner now case)

  by_it : (b : Bool) (c : ClientState) → is_by b verifier owner c ≡ true → (c.owner ≡ owner) × (c.verifier ≡ verifier)
  by_it b c is =
      let both = (and_parts (is_owned_by owner c && bytes_eq c.verifier verifier) (if b then c.confirmed else not c.confirmed) is).0 in
      let parts = and_parts (is_owned_by owner c) (bytes_eq c.verifier verifier) both in
      ((bytes_eq-Decides c.owner owner).0 parts.0, (bytes_eq-Decides c.verifier verifier).0 parts.1)

  others_given : Given (case_of_others s.clients owner)
  others_given =
      cond_both (list_any (is_unconfirmed_of owner) s.clients) ReplacesUnconfirmed (if list_any (is_confirmed_of owner) s.clients then Restarts else IsNewOwner) Given (λ is. OfNew refl refl)
      (λ off. cond_both (list_any (is_confirmed_of owner) s.clients) Restarts IsNewOwner Given (λ is. OfNew refl refl) (λ other. OfNew refl refl))

  unconfirmed_given : (o : Option ClientState) → find (is_by false verifier owner) s.clients ≡ o → Given (case_of_unconfirmed s.clients owner o)
  unconfirmed_given (Some c) is = let its = by_it false c (found_passes (is_by false verifier owner) s.clients c is) in OfOld c (found_in (is_by false verifier owner) s.clients c is) its.0 its.1 refl refl
  unconfirmed_given None is = others_given

  confirmed_given : (o : Option ClientState) → find (is_by true verifier owner) s.clients ≡ o → Given (case_of_confirmed s.clients verifier owner o)
  confirmed_given (Some c) is = let its = by_it true c (found_passes (is_by true verifier owner) s.clients c is) in OfOld c (found_in (is_by true verifier owner) s.clients c is) its.0 its.1 refl refl
  confirmed_given None is = unconfirmed_given (find (is_by false verifier owner) s.clients) refl

  pub given_is : Given (exchange_case s.clients verifier owner)
  given_is = confirmed_given (find (is_by true verifier owner) s.clients) refl

  -- its numbers fit their forms
  id_fits : IsTable s → (ids : ℕ) (g : ClientState) → IsGiven s verifier owner now ids g → g.id < 2 ^ 64
  id_fits t ids g (OfOld c inside own its id sequence) = let few : s.ids ≤ 4294967295 = t.few in let within : c.id ≤ client_id 1 s.ids = t.ids c inside in omega (arith, few, within, id)
  id_fits t ids g (OfNew is new) =
      let few : s.ids ≤ 4294967295 = t.few in
      let its : g.id ≡ client_id 1 (s.ids + 1) = ap (λ (c : ClientState). c.id) is ∙ ap (λ (n : ℕ). client_id n (s.ids + 1)) t.boot in
      omega (arith, few, its)

  sequence_fits : IsTable s → (ids : ℕ) (g : ClientState) → IsGiven s verifier owner now ids g → g.sequence < 2 ^ 32
  sequence_fits t ids g (OfOld c inside own its id sequence) = let less : c.sequence < 4294967296 = (t.sequences c inside).0 in omega (arith, less, sequence)
  sequence_fits t ids g (OfNew is new) = let one : g.sequence ≡ 1 = ap (λ (c : ClientState). c.sequence) is in omega (arith, one)

-- ---- the reply, and what it says

-- the empty tag is a text
pub no_tag : IsTrue (is_utf8 [])
no_tag = is_utf8-from_IsUtf8 [] (IsUtf8-from_ascii [] (λ i. omega arith))

flags_fit : (b : Bool) → exchange_flags b < 2 ^ 32
flags_fit true = omega arith
flags_fit false = omega arith

result_fits : (g : ClientState) → g.id < 2 ^ 64 → g.sequence < 2 ^ 32 → Fits compound4_res (0, ([], exchange_result (exchanged g) ∷ []))
result_fits g id sequence =
    (refl, ((omega arith, no_tag), (omega arith, ((id, (sequence, (flags_fit g.confirmed, (tt, (omega arith, (omega arith, (omega arith, (omega arith, tt)))))))), tt))))

refusal_fits : Fits compound4_res (10006, ([], refused_as 42 stat.ServerFault ∷ []))
refusal_fits = (refl, ((omega arith, no_tag), (omega arith, (refl, tt))))

-- ---- the event

-- the id and the number were given, of a record that is this owner's, and the table is the one behind the call when calls go out
pub record Gave (e : MdsEvent) (m : MdsValue) (owner : List ℕ) (verifier client sequence : ℕ) : Type 0 where
  pub g : ClientState
  pub id : g.id ≡ client
  pub number : g.sequence ≡ sequence
  pub is : IsGiven m.sessions (long verifier) owner e.now (table_after m.sessions (Exchanges (long verifier) owner e.now)).ids g
  pub mds : (after_event e m).mds ≡ (calls_out [] (record m { sessions = table_after m.sessions (Exchanges (long verifier) owner e.now) })).mds

abbrev client_in_answer : MdsAnswerValue → ℕ
client_in_answer (Client client sequence) = client
client_in_answer other = 0

abbrev number_in_answer : MdsAnswerValue → ℕ
number_in_answer (Client client sequence) = sequence
number_in_answer other = 0

abbrev is_client : MdsAnswerValue → Bool
is_client (Client client sequence) = true
is_client other = false

module _ (e : MdsEvent) (m : MdsValue) (node : NodeId) (xid : ℕ) (owner : List ℕ) (verifier client sequence : ℕ) (t : IsTable m.sessions) (called : AreCalled m.calls)
    (came : after_event e m ≡ and_then (run_of_call e.now m node xid owner (ExchangeId verifier)) (calls_out [])) where
  abbrev Case : ExchangeCase
  Case = exchange_case m.sessions.clients (long verifier) owner

  abbrev G : ClientState
  G = given_client m.sessions (long verifier) owner e.now (exchange_case m.sessions.clients (long verifier) owner)

  abbrev run : CompoundRun
  run = record { node = node; xid = xid; tag = []; ops = []; stop = stop.End None; results = []; slot = None; is_kept = false; current = None }

  abbrev stepped : Option IdFault → MdsStep
  stepped fault = op_then (with_exchange m (record { node = node; xid = xid; tag = []; ops = []; stop = stop.End None; results = []; slot = None; is_kept = false; current = None }) (long verifier) owner e.now (exchange_case m.sessions.clients (long verifier) owner) fault) (λ n d. runs e.now [] n d)

  not_refused : (reply : RpcReply) → reply ≡ success_reply xid (spelling compound4_res (10006, ([], refused_as 42 stat.ServerFault ∷ []))) → (reply_of_ask ask.ExchangeId reply).answer ≡ Client client sequence → ⊥
  not_refused reply is says =
      not_so (sym (ap (λ (r : RpcReply). is_client (reply_of_ask ask.ExchangeId r).answer) is
      ∙ ap (λ (r : MdsReplyValue). is_client r.answer) (read_as ask.ExchangeId xid (10006, ([], refused_as 42 stat.ServerFault ∷ [])) refusal_fits)) ∙ ap is_client says)
    where
      not_so : false ≡ true → ⊥
      not_so is = absurd cc

  by_fault : (fault : Option IdFault) → exchange_fault m.sessions (exchange_case m.sessions.clients (long verifier) owner) ≡ fault → after_event e m ≡ and_then (stepped fault) (calls_out []) → (reply : RpcReply) → IsOneOf (Replies node reply) (after_event e m).sends
      → (reply_of_ask ask.ExchangeId reply).answer ≡ Client client sequence → Gave e m owner verifier client sequence
  by_fault (Some fault) at is reply sent says =
      absurd (not_refused reply (reply_is e m (stepped (Some fault)) node node reply (success_reply xid (spelling compound4_res (10006, ([], refused_as 42 stat.ServerFault ∷ [])))) is refl called sent) says)
  by_fault None at is reply sent says =
      let own : reply ≡ success_reply xid (spelling compound4_res (0, ([], exchange_result (exchanged G) ∷ []))) =
      reply_is e m (stepped None) node node reply (success_reply xid (spelling compound4_res (0, ([], exchange_result (exchanged G) ∷ [])))) is refl called sent in
      let given : IsGiven m.sessions (long verifier) owner e.now (after_exchange m.sessions (long verifier) owner e.now (exchange_case m.sessions.clients (long verifier) owner)).ids G = given_is m.sessions (long verifier) owner e.now in
      let fits : Fits compound4_res (0, ([], exchange_result (exchanged G) ∷ [])) = result_fits G (id_fits m.sessions (long verifier) owner e.now t (after_exchange m.sessions (long verifier) owner e.now (exchange_case m.sessions.clients (long verifier) owner)).ids G given) (sequence_fits m.sessions (long verifier) owner e.now t (after_exchange m.sessions (long verifier) owner e.now (exchange_case m.sessions.clients (long verifier) owner)).ids G given) in
      record {
        g = G;
        id = sym (ap (λ (r : RpcReply). client_in_answer (reply_of_ask ask.ExchangeId r).answer) own
            ∙ ap (λ (r : MdsReplyValue). client_in_answer r.answer) (read_as ask.ExchangeId xid (0, ([], exchange_result (exchanged G) ∷ [])) fits)) ∙ ap client_in_answer says;
        number = sym (ap (λ (r : RpcReply). number_in_answer (reply_of_ask ask.ExchangeId r).answer) own
            ∙ ap (λ (r : MdsReplyValue). number_in_answer r.answer) (read_as ask.ExchangeId xid (0, ([], exchange_result (exchanged G) ∷ [])) fits)) ∙ ap number_in_answer says;
        is = subst (λ (f : Option IdFault). IsGiven m.sessions (long verifier) owner e.now (exchanged_unless m.sessions (after_exchange m.sessions (long verifier) owner e.now (exchange_case m.sessions.clients (long verifier) owner)) f).ids G) (sym at) given;
        mds = ap (λ (s : MdsStep). s.mds) is
            ∙ ap (λ (f : Option IdFault). (calls_out [] (record m { sessions = exchanged_unless m.sessions (after_exchange m.sessions (long verifier) owner e.now (exchange_case m.sessions.clients (long verifier) owner)) f })).mds) (sym at);
      }

  pub gave : (reply : RpcReply) → IsOneOf (Replies node reply) (after_event e m).sends → (reply_of_ask ask.ExchangeId reply).answer ≡ Client client sequence → Gave e m owner verifier client sequence
  gave = by_fault (exchange_fault m.sessions (exchange_case m.sessions.clients (long verifier) owner)) refl came
