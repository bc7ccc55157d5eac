-- What a request that does not take effect is answered with, by what its slot keeps.
use Rattle.std.proofs.Common.{◌≡◌, ℕ, Bool, true, false, cond, List, [], ◌∷◌, refl, sym, ap, subst, ◌∙◌, arith}
use Rattle.std.specs.Prelude.{◌==◌, ◌&&◌, not}
use Rattle.std.proofs.lemmas.Bool.{eqb-true, eq-eqb}
use Rattle.ff_xdr.specs.Form.{spelling}
use Rattle.compound_reply.specs.Replied.{success_reply}
use Rattle.device_addr.specs.Universal.{AddressValue}
use Rattle.nfs4_types.specs.declared.ids.SessionId.{SessionId}
use Rattle.nfs4_types.specs.declared.status.Stat4.{Stat4}
use Rattle.nfs4_types.specs.declared.status.Stat4.TheVariants as stat
use Rattle.nfs4_types.specs.Status.{stat4_number}
use Rattle.nfs4_compound.specs.Compounds.{compound4_res}
use Rattle.nfs4_session.specs.Slots.{SlotState, SlotReply, NoRequest, InProgress, Cached, Uncached as NotKept, SlotAnswer, TakesEffect, Repeats, Refuses, answer_again, is_in_progress, sequence_after, slot_answer}
use Rattle.nfs4_session.specs.Clients.{client_in, number_in}
use Rattle.table_slots.specs.TableSlots.{is_of_session}
use Rattle.client_mds_calls.specs.declared.reply.SlotReport.{SlotReport}
use Rattle.client_mds_calls.specs.FittingCalls.{FitsRequest}
use Rattle.client_mds_calls.specs.MdsCalls.{SlotCallValue, OnSlot, ask_on_slot}
use Rattle.client_mds_calls.specs.MdsCalls as slot
use Rattle.client_mds_calls.specs.MdsReplies.{MdsAnswerValue, Refused, MdsReplyValue, slot_status, slot_told, results_of_ask, reply_of_ask}
use Rattle.mds_rule.specs.OpSteps.{refused_as}
use Rattle.mds_walk.specs.MdsRuns.{MdsEvent}
use Rattle.mds_replies.specs.AnsweredRequests.{TookEffectAmong, IsRefusedWith, HasNoSession, IsOutOfOrder}
use Rattle.mds_replies.proofs.ReplyForms.{IsRefusal, reply_fits}
use Rattle.mds_replies.proofs.ReplySent.{read_as}
use Rattle.mds_replies.proofs.SlotHistories.{get_event, event_of_get, IsTaken, KeptSo, SlotBy, SlotSo, ByReport, StandsWith}

-- ---- how a refusal of a SEQUENCE is read

told_by : (c : SlotCallValue) (status : Stat4) → slot_told (ask_on_slot c) (refused_as 53 status ∷ []) ≡ slot_status (stat4_number status)
told_by slot.ReclaimComplete status = refl
told_by (slot.Open name) status = refl
told_by (slot.LayoutGet file) status = refl
told_by (slot.DeviceInfo servers) status = refl
told_by (slot.Write file at bytes) status = refl
told_by (slot.Read file at count) status = refl
told_by (slot.LayoutReturn file stateid failed) status = refl
told_by slot.Renew status = refl

pub refusal_read : (c : SlotCallValue) (xid : ℕ) (status : Stat4) → IsRefusal 53 status
    → reply_of_ask (ask_on_slot c) (success_reply xid (spelling compound4_res (stat4_number status, ([], refused_as 53 status ∷ [])))) ≡ record { slot = slot_status (stat4_number status); answer = Refused (stat4_number status) }
refusal_read c xid status r =
    read_as (ask_on_slot c) xid (stat4_number status, ([], refused_as 53 status ∷ [])) (reply_fits (stat4_number status) (refused_as 53 status ∷ []) r.its_number (omega arith) (r.fits, tt))
    ∙ ap (λ (s : SlotReport). record { slot = s; answer = cond {A = MdsAnswerValue} (stat4_number status == 0) (results_of_ask (ask_on_slot c) (refused_as 53 status ∷ [])) (Refused (stat4_number status)) }) (told_by c status)
    ∙ ap (λ (b : Bool). record { slot = slot_status (stat4_number status); answer = cond {A = MdsAnswerValue} b (results_of_ask (ask_on_slot c) (refused_as 53 status ∷ [])) (Refused (stat4_number status)) }) r.some

module _ (servers : List AddressValue) (mirrors : ℕ) (past : List MdsEvent) (F : SessionId → ℕ → Type 0) where
  -- ---- what is kept

  abbrev Kept : ℕ → ℕ → ℕ → List ℕ → Type 0
  Kept client number sequence bytes = (t : IsTaken servers mirrors past client number sequence) × KeptSo servers mirrors past client number sequence t bytes

  abbrev kept_bytes : SlotAnswer → List ℕ
  kept_bytes TakesEffect = []
  kept_bytes (Repeats reply) = reply
  kept_bytes (Refuses status) = []

  repeats_again : (client number last : ℕ) (r : SlotReply) (bytes : List ℕ) → SlotBy servers mirrors past client number last r → Repeats bytes ≡ answer_again r → Kept client number last bytes
  repeats_again client number last NoRequest bytes p is = absurd cc
  repeats_again client number last InProgress bytes p is = absurd cc
  repeats_again client number last (Cached reply) bytes p is = subst (λ (b : List ℕ). Kept client number last b) (sym (ap kept_bytes is)) p
  repeats_again client number last NotKept bytes p is = absurd cc

  not_other : (b : Bool) (bytes : List ℕ) → Repeats bytes ≡ cond b TakesEffect (Refuses stat.SeqMisordered) → ⊥
  not_other true bytes is = absurd cc
  not_other false bytes is = absurd cc

  pub repeats_kept : (client number : ℕ) (s : SlotState) (sequence : ℕ) (bytes : List ℕ) → SlotSo servers mirrors past client number s → Repeats bytes ≡ slot_answer s sequence → Kept client number sequence bytes
  repeats_kept client number s sequence bytes p is = by_test (sequence == s.last) refl is
    where
      by_test : (b : Bool) → (sequence == s.last) ≡ b → Repeats bytes ≡ cond b (answer_again s.reply) (cond ((sequence == sequence_after s.last) && not (is_in_progress s.reply)) TakesEffect (Refuses stat.SeqMisordered))
          → Kept client number sequence bytes
      by_test true at its = subst (λ (n : ℕ). Kept client number n bytes) (sym (eqb-true sequence s.last at)) (repeats_again client number s.last s.reply bytes p its)
      by_test false at its = absurd (not_other ((sequence == sequence_after s.last) && not (is_in_progress s.reply)) bytes its)

  not_get : false ≡ true → ⊥
  not_get is = absurd cc

  -- ---- why it is refused

  pub data RefusedAs (client number sequence : ℕ) (status : Stat4) : Type 0 where
    AsMisordered : status ≡ stat.SeqMisordered → RefusedAs client number sequence status
    AsDelayed : status ≡ stat.Delay → RefusedAs client number sequence status
    AsUncached : status ≡ stat.RetryUncachedRep → (t : IsTaken servers mirrors past client number sequence) → get_event t.f ≡ false → RefusedAs client number sequence status

  abbrev status_in : SlotAnswer → Stat4
  status_in TakesEffect = stat.Ok
  status_in (Repeats reply) = stat.Ok
  status_in (Refuses status) = status

  refused_again : (client number last : ℕ) (r : SlotReply) (status : Stat4) → SlotBy servers mirrors past client number last r → Refuses status ≡ answer_again r → RefusedAs client number last status
  refused_again client number last NoRequest status p is = AsMisordered (ap status_in is)
  refused_again client number last InProgress status p is = AsDelayed (ap status_in is)
  refused_again client number last (Cached reply) status p is = absurd cc
  refused_again client number last NotKept status p is = AsUncached (ap status_in is) p.0 p.1

  misordered_or : (client number sequence : ℕ) (b : Bool) (status : Stat4) → Refuses status ≡ cond b TakesEffect (Refuses stat.SeqMisordered) → RefusedAs client number sequence status
  misordered_or client number sequence true status is = absurd cc
  misordered_or client number sequence false status is = AsMisordered (ap status_in is)

  pub refused_by : (client number : ℕ) (s : SlotState) (sequence : ℕ) (status : Stat4) → SlotSo servers mirrors past client number s → Refuses status ≡ slot_answer s sequence → RefusedAs client number sequence status
  refused_by client number s sequence status p is = by_test (sequence == s.last) refl is
    where
      by_test : (b : Bool) → (sequence == s.last) ≡ b → Refuses status ≡ cond b (answer_again s.reply) (cond ((sequence == sequence_after s.last) && not (is_in_progress s.reply)) TakesEffect (Refuses stat.SeqMisordered))
          → RefusedAs client number sequence status
      by_test true at its = subst (λ (n : ℕ). RefusedAs client number n status) (sym (eqb-true sequence s.last at)) (refused_again client number s.last s.reply status p its)
      by_test false at its = misordered_or client number sequence ((sequence == sequence_after s.last) && not (is_in_progress s.reply)) status its

  -- ---- what the replies stand on

  of_session : (session asked : SessionId) → client_in asked ≡ client_in session → number_in asked ≡ number_in session → is_of_session session asked ≡ true
  of_session session asked client number = both (client_in asked == client_in session) (number_in asked == number_in session) (eq-eqb (client_in asked) (client_in session) client) (eq-eqb (number_in asked) (number_in session) number)
    where
      both : (a b : Bool) → a ≡ true → b ≡ true → (a && b) ≡ true
      both true b first second = second
      both false b first second = absurd cc

  among : (session : SessionId) (sequence : ℕ) → IsTaken servers mirrors past (client_in session) (number_in session) sequence → TookEffectAmong servers mirrors past session sequence
  among session sequence t = record { early = t.early; f = t.f; late = t.late; split = t.split; asked = t.asked; its = of_session session t.asked t.its_client t.its_number; took = t.took }

  pub stands_kept : (before : List MdsEvent) (session : SessionId) (sequence xid : ℕ) (bytes : List ℕ) (c : SlotCallValue) → FitsRequest (OnSlot session sequence c) → Kept (client_in session) (number_in session) sequence bytes → F session sequence
      → StandsWith servers mirrors F past before session sequence c (reply_of_ask (ask_on_slot c) (success_reply xid bytes))
  stands_kept before session sequence xid bytes c fits k free =
      subst (λ (r : SlotReport). ByReport servers mirrors F past before session sequence c (reply_of_ask (ask_on_slot c) (success_reply xid bytes)).answer r) (sym (k.1.1 c xid)) (
        record {
          early = k.0.early;
          f = k.0.f;
          late = k.0.late;
          split = k.0.split;
          asked = k.0.asked;
          its = of_session session k.0.asked k.0.its_client k.0.its_number;
          took = k.0.took;
        },
        λ name came. k.1.0 name session sequence c came fits,
        free,
      )

  abbrev Says : List MdsEvent → SessionId → ℕ → SlotCallValue → Stat4 → Type 0
  Says before session sequence c status = StandsWith servers mirrors F past before session sequence c (record { slot = slot_status (stat4_number status); answer = Refused (stat4_number status) })

  read_refusal : (before : List MdsEvent) (session : SessionId) (sequence xid : ℕ) (c : SlotCallValue) (given status : Stat4) → status ≡ given → IsRefusal 53 given → Says before session sequence c given
      → StandsWith servers mirrors F past before session sequence c (reply_of_ask (ask_on_slot c) (success_reply xid (spelling compound4_res (stat4_number status, ([], refused_as 53 status ∷ [])))))
  read_refusal before session sequence xid c given status is r says =
      subst (λ (s : Stat4). StandsWith servers mirrors F past before session sequence c (reply_of_ask (ask_on_slot c) (success_reply xid (spelling compound4_res (stat4_number s, ([], refused_as 53 s ∷ [])))))) (sym is)
      (subst (λ (v : MdsReplyValue). StandsWith servers mirrors F past before session sequence c v) (sym (refusal_read c xid given r)) says)

  pub stands_no_session : (before : List MdsEvent) (session : SessionId) (sequence xid : ℕ) (c : SlotCallValue) (status : Stat4) → status ≡ stat.BadSession → IsRefusedWith servers mirrors before session sequence status
      → StandsWith servers mirrors F past before session sequence c (reply_of_ask (ask_on_slot c) (success_reply xid (spelling compound4_res (stat4_number status, ([], refused_as 53 status ∷ [])))))
  stands_no_session before session sequence xid c status is w = read_refusal before session sequence xid c stat.BadSession status is (record { some = refl; its_number = refl; fits = refl }) (HasNoSession refl (subst (λ (s : Stat4). IsRefusedWith servers mirrors before session sequence s) is w))

  pub stands_refused : (before : List MdsEvent) (session : SessionId) (sequence xid : ℕ) (c : SlotCallValue) (status : Stat4) → RefusedAs (client_in session) (number_in session) sequence status → IsRefusedWith servers mirrors before session sequence status
      → (status ≡ stat.RetryUncachedRep → F session sequence)
      → StandsWith servers mirrors F past before session sequence c (reply_of_ask (ask_on_slot c) (success_reply xid (spelling compound4_res (stat4_number status, ([], refused_as 53 status ∷ [])))))
  unfolding among
  stands_refused before session sequence xid c status (AsMisordered is) w free = read_refusal before session sequence xid c stat.SeqMisordered status is (record { some = refl; its_number = refl; fits = refl }) (IsOutOfOrder refl (subst (λ (s : Stat4). IsRefusedWith servers mirrors before session sequence s) is w))
  stands_refused before session sequence xid c status (AsDelayed is) w free = read_refusal before session sequence xid c stat.Delay status is (record { some = refl; its_number = refl; fits = refl }) tt
  stands_refused before session sequence xid c status (AsUncached is t other) w free = read_refusal before session sequence xid c stat.RetryUncachedRep status is (record { some = refl; its_number = refl; fits = refl }) (among session sequence t, λ name file came. absurd (not_get (sym other ∙ event_of_get t.f t.took.node t.took.xid name session sequence file came)), free is)
