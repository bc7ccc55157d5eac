-- A request takes its turn.
use Rattle.std.proofs.Common.{◌≡◌, ℕ, Bool, true, false, List, Option, Some, None, refl, sym, ap, ◌∙◌, subst}
use Rattle.std.specs.Prelude.{◌==◌, ◌&&◌, not, slice_get, if◌then◌else◌}
use Rattle.nfs4_types.specs.declared.sequence.Sequence.{Sequence}
use Rattle.nfs4_types.specs.declared.status.Stat4.TheVariants.{SeqMisordered}
use Rattle.nfs4_session.specs.declared.begin.Begin.{Begin}
use Rattle.nfs4_session.specs.declared.slot.Turn.{Turn}
use Rattle.nfs4_session.specs.declared.slot.Turn.TheVariants as turn
use Rattle.nfs4_session.specs.declared.change.Change.TheVariants as change
use Rattle.nfs4_session.specs.Slots.{SlotReply, NoRequest, InProgress, Cached, Uncached, SlotState, SlotAnswer, TakesEffect, Repeats, Refuses, slot_answer, answer_again, is_in_progress, sequence_after}
use Rattle.nfs4_session.specs.Clients.{ClientState, SessionState, SessionsState, has_id, client_in, number_in, change_first, with_clients, renewed_at, with_sessions, session_of}
use Rattle.nfs4_session.specs.Requests.{after_request, answer_by_slot, answer_by_session, request_answer, IsReplayOf, BeginsRequest, BeginsBy}
use Rattle.nfs4_session.specs.Changes.{changed, sessions_begun}
use Rattle.nfs4_session.specs.Beginning.{table_begun, AnswersTurn}
use Rattle.nfs4_session.specs.Turns.{turn_of, kept_bytes, kept_at_slot, kept_in_session}
use Rattle.nfs4_session.proofs.FirstLemmas.{change_twice}

pub takes_turn : (s after : SessionsState) (a : SlotAnswer) → turn_of a ≡ turn.TakesEffect → after ≡ table_begun s after a
takes_turn s after TakesEffect is = refl
takes_turn s after (Repeats reply) is = absurd (cc (is))
takes_turn s after (Refuses status) is = absurd (cc (is))

pub no_turn : (s after : SessionsState) (a : SlotAnswer) (t : Turn) → t ≡ turn_of a → (t ≡ turn.TakesEffect → ⊥) → s ≡ table_begun s after a
no_turn s after TakesEffect t is none = absurd (none is)
no_turn s after (Repeats reply) t is none = refl
no_turn s after (Refuses status) t is none = refl

-- one change of the record is the renewal and the change of its session
pub one_change : (s : SessionsState) (r : Sequence) (now : ℕ)
    → with_clients s (change_first (has_id (client_in r.session)) (changed (change.Begin (number_in r.session) r.slot r.sequence now)) s.clients) ≡ after_request s r now
one_change s r now = ap (with_clients s) (sym (change_twice (has_id (client_in r.session)) (renewed_at now) (λ (c : ClientState). with_sessions c (sessions_begun (number_in r.session) r.slot r.sequence c.sessions)) (λ c. refl) s.clients))

-- what a slot repeats is what it keeps
again_kept : (reply : SlotReply) (bytes : List ℕ) → answer_again reply ≡ Repeats bytes → kept_bytes reply ≡ bytes
again_kept NoRequest bytes is = absurd (cc (is))
again_kept InProgress bytes is = absurd (cc (is))
again_kept (Cached reply) bytes is = cc (is)
again_kept Uncached bytes is = absurd (cc (is))

slot_kept : (slot : SlotState) (number : ℕ) (bytes : List ℕ) → slot_answer slot number ≡ Repeats bytes → kept_bytes slot.reply ≡ bytes
slot_kept slot number bytes is = by_case (number == slot.last) ((number == sequence_after slot.last) && not (is_in_progress slot.reply)) is
  where
    by_case : (a b : Bool) → (if a then answer_again slot.reply else (if b then TakesEffect else Refuses SeqMisordered)) ≡ Repeats bytes → kept_bytes slot.reply ≡ bytes
    by_case true b is = again_kept slot.reply bytes is
    by_case false true is = absurd (cc (is))
    by_case false false is = absurd (cc (is))

kept_on : (number : ℕ) (slot : Option SlotState) (bytes : List ℕ) → answer_by_slot number slot ≡ Repeats bytes → kept_at_slot slot ≡ bytes
kept_on number None bytes is = absurd (cc (is))
kept_on number (Some slot) bytes is = slot_kept slot number bytes is

kept_is : (r : Sequence) (session : Option SessionState) (bytes : List ℕ) → answer_by_session r session ≡ Repeats bytes → kept_in_session r.slot session ≡ bytes
kept_is r None bytes is = absurd (cc (is))
kept_is r (Some session) bytes is = kept_on r.sequence (slice_get session.slots r.slot) bytes is

pub begins : (s s' : SessionsState) (r : Sequence) (now : ℕ) (t : Turn) (result : Begin)
    → t ≡ turn_of (request_answer s r) → s' ≡ table_begun s (after_request s r now) (request_answer s r) → AnswersTurn s' r t result → BeginsRequest s r now result s'
begins s s' r now t result turned after answered = by_case (request_answer s r) refl turned after
  where
    by_case : (a : SlotAnswer) → request_answer s r ≡ a → t ≡ turn_of a → s' ≡ table_begun s (after_request s r now) a → BeginsBy s r now result s' a
    by_case TakesEffect is turned after = (subst (λ (u : Turn). AnswersTurn s' r u result) turned answered, after)
    by_case (Repeats reply) is turned after =
        let kept : kept_in_session r.slot (session_of s'.clients r.session) ≡ reply =
        ap (λ (u : SessionsState). kept_in_session r.slot (session_of u.clients r.session)) after ∙ kept_is r (session_of s.clients r.session) reply is in
        (subst (λ bytes. IsReplayOf bytes result) kept (subst (λ (u : Turn). AnswersTurn s' r u result) turned answered), after)
    by_case (Refuses status) is turned after = (subst (λ (u : Turn). AnswersTurn s' r u result) turned answered, after)
