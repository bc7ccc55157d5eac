-- What slots keep agrees, as long as what is given to them to keep does.
use Rattle.std.proofs.Common.{◌≡◌, ℕ, cond, List, length, Option, Some, None, refl}
use Rattle.std.specs.Prelude.{◌==◌, ◌&&◌, not, nat_lt}
use Rattle.std.proofs.lemmas.Bool.{cond_both}
use Rattle.compound_reply.specs.Replied.{success_reply}
use Rattle.nfs4_session.specs.declared.begin.SlotPass.{SlotPass}
use Rattle.nfs4_session.specs.declared.slot.TheConstants.{MAX_KEPT}
use Rattle.nfs4_session.specs.Slots.{SlotState, SlotReply, NoRequest, InProgress, Cached, Uncached as NotKept, SlotAnswer, TakesEffect, Repeats, Refuses, sequence_after, answer_again, is_in_progress, kept_as, slot_answer, slot_finished}
use Rattle.nfs4_session.specs.Clients.{SessionsState}
use Rattle.nfs4_session.specs.TableLaw.{TableMove, ExchangeId, CreateSession, BeginRequest, FinishRequest, Bind, CallBack, DestroySession, DestroyClient, Expire, table_after}
use Rattle.nfs4_types.specs.declared.status.Stat4.{Stat4}
use Rattle.nfs4_types.specs.declared.status.Stat4.TheVariants as stat
use Rattle.mds_rule.specs.Compounds.{kept_in_slot}
use Rattle.mds_laws.proofs.Keeping.{IsNoRequest, plain_no_request}
use Rattle.mds_walk.proofs.Parts.{IsPlainMove}
use Rattle.mds_replies.proofs.SlotTables.{TableSo, KeepsEnds, move_by}
use Rattle.mds_reports.specs.SlotReports.{AgreesRead}

abbrev pub AgreesBytes : List ℕ → Type 0
AgreesBytes bytes = (xid : ℕ) → AgreesRead (success_reply xid bytes)

abbrev pub KeptAgrees : SlotReply → Type 0
KeptAgrees NoRequest = Unit {0}
KeptAgrees InProgress = Unit {0}
KeptAgrees (Cached reply) = AgreesBytes reply
KeptAgrees NotKept = Unit {0}

abbrev pub SlotAgrees : ℕ → ℕ → SlotState → Type 0
SlotAgrees client number slot = KeptAgrees slot.reply

kept_agrees : (reply : List ℕ) → AgreesBytes reply → KeptAgrees (kept_as reply)
kept_agrees reply agrees = cond_both (nat_lt MAX_KEPT (length reply)) NotKept (Cached reply) KeptAgrees (λ long. tt) (λ short. agrees)

finished : (client number sequence : ℕ) (reply : List ℕ) (slot : SlotState) → AgreesBytes reply → SlotAgrees client number slot → SlotAgrees client number (slot_finished sequence reply slot)
finished client number sequence reply slot agrees p =
    cond_both ((slot.last == sequence) && is_in_progress slot.reply) (record { last = sequence; reply = kept_as reply }) slot (SlotAgrees client number) (λ is. kept_agrees reply agrees) (λ off. p)

-- what the call gives a slot to keep agrees
abbrev GivesAgreed : TableMove → Type 0
GivesAgreed (FinishRequest pass reply) = AgreesBytes reply
GivesAgreed move = Unit {0}

keeps_ends : (move : TableMove) → GivesAgreed move → KeepsEnds SlotAgrees move
keeps_ends (FinishRequest pass reply) given = λ client number sequence slot p. finished client number sequence reply slot given p
keeps_ends (BeginRequest request now) given = tt
keeps_ends (DestroySession session) given = tt
keeps_ends (ExchangeId verifier owner now) given = tt
keeps_ends (CreateSession client sequence program node now) given = tt
keeps_ends (Bind session node) given = tt
keeps_ends (CallBack client) given = tt
keeps_ends (DestroyClient client) given = tt
keeps_ends (Expire now) given = tt

moved_by : (s : SessionsState) (move : TableMove) → IsNoRequest move → GivesAgreed move → TableSo SlotAgrees s → TableSo SlotAgrees (table_after s move)
moved_by s move is given i = move_by SlotAgrees s move (keeps_ends move given) (λ client due. tt) is i

plain_given : (move : TableMove) → IsPlainMove move → GivesAgreed move
plain_given (BeginRequest request now) is = tt
plain_given (FinishRequest pass reply) is = absurd is
plain_given (DestroySession session) is = tt
plain_given (ExchangeId verifier owner now) is = tt
plain_given (CreateSession client sequence program node now) is = tt
plain_given (Bind session node) is = tt
plain_given (CallBack client) is = tt
plain_given (DestroyClient client) is = tt
plain_given (Expire now) is = tt

pub plain_agrees : (s : SessionsState) (move : TableMove) → IsPlainMove move → TableSo SlotAgrees s → TableSo SlotAgrees (table_after s move)
plain_agrees s move is i = moved_by s move (plain_no_request move is) (plain_given move is) i

pub ended_agrees : (s : SessionsState) (slot : Option SlotPass) (bytes : List ℕ) → AgreesBytes bytes → TableSo SlotAgrees s → TableSo SlotAgrees (kept_in_slot s slot bytes)
ended_agrees s None bytes agrees i = i
ended_agrees s (Some slot) bytes agrees i = moved_by s (FinishRequest slot bytes) tt agrees i

-- ---- what a slot answers

-- the statuses by which a SEQUENCE is refused
pub data IsSequenceRefusal (status : Stat4) : Type 0 where
  IsGone : status ≡ stat.BadSession → IsSequenceRefusal status
  IsMisordered : status ≡ stat.SeqMisordered → IsSequenceRefusal status
  IsDelayed : status ≡ stat.Delay → IsSequenceRefusal status
  IsUncached : status ≡ stat.RetryUncachedRep → IsSequenceRefusal status

-- what is repeated agrees, and what is refused is refused by one of these
abbrev pub AnswerAgrees : SlotAnswer → Type 0
AnswerAgrees TakesEffect = Unit {0}
AnswerAgrees (Repeats reply) = AgreesBytes reply
AnswerAgrees (Refuses status) = IsSequenceRefusal status

again_agrees : (r : SlotReply) → KeptAgrees r → AnswerAgrees (answer_again r)
again_agrees NoRequest p = IsMisordered refl
again_agrees InProgress p = IsDelayed refl
again_agrees (Cached reply) p = p
again_agrees NotKept p = IsUncached refl

pub slot_agrees : (slot : SlotState) (number : ℕ) → KeptAgrees slot.reply → AnswerAgrees (slot_answer slot number)
slot_agrees slot number p =
    cond_both (number == slot.last) (answer_again slot.reply) (cond ((number == sequence_after slot.last) && not (is_in_progress slot.reply)) TakesEffect (Refuses stat.SeqMisordered)) AnswerAgrees (λ again. again_agrees slot.reply p)
    (λ other. cond_both ((number == sequence_after slot.last) && not (is_in_progress slot.reply)) TakesEffect (Refuses stat.SeqMisordered) AnswerAgrees (λ next. tt) (λ off. IsMisordered refl))
