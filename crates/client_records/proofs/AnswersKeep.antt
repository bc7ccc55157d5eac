-- What an answer of the metadata server keeps.
use Rattle.std.proofs.Common.{◌≡◌, ℕ, Bool, true, false, List, [], ◌∷◌, ◌++◌, Option, Some, None, refl, sym, ap, subst, ◌∙◌, inl, inr}
use Rattle.std.specs.Prelude.{◌==◌, ◌&&◌, drop, if◌then◌else◌}
use Rattle.std.proofs.lemmas.Bool.{eqb-true}
use Rattle.rpc_record.specs.Replies.{RpcReply}
use Rattle.device_addr.specs.declared.net_addr.NetAddr.{NetAddr}
use Rattle.cluster_model.specs.declared.answer.UserAnswer.{UserAnswer}
use Rattle.cluster_model.specs.declared.answer.UserAnswer.TheVariants as answer
use Rattle.cluster_model.specs.declared.answer.FailCause.TheVariants as failing
use Rattle.cluster_model.specs.declared.entry.Entry.TheVariants.{Answer}
use Rattle.client_file_calls.specs.declared.open.OpenFile.{OpenFile}
use Rattle.client_mds_calls.specs.declared.ask.MdsAsk.{MdsAsk}
use Rattle.client_mds_calls.specs.declared.ask.MdsAsk.TheVariants as ask
use Rattle.client_mds_calls.specs.declared.reply.SlotReport.{SlotReport}
use Rattle.client_mds_calls.specs.declared.reply.SlotReport.TheVariants.{Taken, Uncached, Delayed, Unknown}
use Rattle.client_mds_calls.specs.MdsReplies.{MdsAnswerValue, Client, Session, Complete, Opened, Granted, Devices, Written, Bytes, Returned, Renewed, Refused, MdsReplyValue}
use Rattle.client_state.specs.declared.request.UserRequest.{UserRequest}
use Rattle.client_state.specs.declared.request.UserRequest.TheVariants.{Open, Write, Through, Commit, Read, Return}
use Rattle.client_state.specs.declared.layout.Layout.{Layout}
use Rattle.client_state.specs.declared.asked.Asked.{Asked}
use Rattle.client_state.specs.declared.tie.Tie.{Tie}
use Rattle.client_state.specs.ClientStates.{ClientValue, ClientRun, unmoved, ends_as, as_new, is_layout_return}
use Rattle.client_state.specs.ClientQueue.{revoked_layout, without_commit}
use Rattle.client_answers.specs.ClientMirrors.{tells}
use Rattle.client_answers.specs.ClientAnswers.{moved_tie, without_head, learns_devices, layout_returned, head_refused, has_session, deferred, defers, after_refusal, refused_otherwise, is_for_later, asks_later, session_lost, refused_by_mds, by_answer, delayed, mds_answered}
use Rattle.client_laws.specs.ClientHistory.{ClientInput, HistoryItem}
use Rattle.client_records.proofs.Joins.{RunKeeps, run_unmoved}
use Rattle.client_records.proofs.Cases.{IsAnswered, said, heard_mds, IsTieBehind, free, Shortens, IsServed, IsIdle, IsRefused, StartsOver, Cases}
use Rattle.client_records.proofs.QueueKeeps.{Stays, answer_keeps}

-- ---- what becomes of a client by what was asked

defers_so : (X : ClientValue → Type 0) (kind : MdsAsk) (d : ClientValue) → (kind ≡ ask.LayoutReturn → X (record d { layout = deferred d.layout })) → X d → X (defers kind d)
defers_so X ask.LayoutReturn d back same = back refl
defers_so X ask.ExchangeId d back same = same
defers_so X ask.CreateSession d back same = same
defers_so X ask.ReclaimComplete d back same = same
defers_so X ask.Open d back same = same
defers_so X ask.LayoutGet d back same = same
defers_so X (ask.DeviceInfo count) d back same = same
defers_so X ask.Write d back same = same
defers_so X (ask.Read at count) d back same = same
defers_so X ask.Renew d back same = same

later_so : (X : ClientValue → Type 0) (kind : MdsAsk) (d : ClientValue) → (kind ≡ ask.LayoutReturn → X (record d { layout = deferred d.layout })) → X d → X (record d { waits = true }) → X (asks_later kind d)
later_so X ask.LayoutReturn d back same waits = back refl
later_so X ask.Renew d back same waits = same
later_so X ask.ExchangeId d back same waits = waits
later_so X ask.CreateSession d back same waits = waits
later_so X ask.ReclaimComplete d back same waits = waits
later_so X ask.Open d back same waits = waits
later_so X ask.LayoutGet d back same waits = waits
later_so X (ask.DeviceInfo count) d back same waits = waits
later_so X ask.Write d back same waits = waits
later_so X (ask.Read at count) d back same waits = waits

is_return : (kind : MdsAsk) → is_layout_return kind ≡ true → kind ≡ ask.LayoutReturn
is_return ask.LayoutReturn is = refl
is_return ask.ExchangeId is = absurd cc
is_return ask.CreateSession is = absurd cc
is_return ask.ReclaimComplete is = absurd cc
is_return ask.Open is = absurd cc
is_return ask.LayoutGet is = absurd cc
is_return (ask.DeviceInfo count) is = absurd cc
is_return ask.Write is = absurd cc
is_return (ask.Read at count) is = absurd cc
is_return ask.Renew is = absurd cc

commit_shortens : (queue : List UserRequest) → Shortens (without_commit queue) queue
commit_shortens [] = inl refl
commit_shortens (Commit ∷ rest) = inr refl
commit_shortens (Open name ∷ rest) = inl refl
commit_shortens (Write at bytes ∷ rest) = inl refl
commit_shortens (Through at bytes ∷ rest) = inl refl
commit_shortens (Read at count ∷ rest) = inl refl
commit_shortens (Return ∷ rest) = inl refl

learns_left : (layout : Option Layout) (addresses : List NetAddr) (d : ClientValue) → (learns_devices layout addresses d).has_left ≡ d.has_left
learns_left None addresses d = refl
learns_left (Some l) addresses d = refl

both : (a b : Bool) → (a && b) ≡ true → (a ≡ true) × (b ≡ true)
both true b is = (refl, is)
both false b is = absurd cc

module _ (B : List HistoryItem → ClientValue → Type 0) (Q : ClientInput → Type 0) (I : List HistoryItem → ClientValue → Type 0) (P : List HistoryItem → HistoryItem → Type 0) (k : Cases B Q I P) where
  -- a run that leaves this, where the user is answered once
  told_keeps : (past : List HistoryItem) (r : ClientRun) → RunKeeps I P past r → r.client.has_left ≡ false → RunKeeps (Stays I) P past r
  told_keeps past r keeps stays = record { entries = keeps.entries; keeps = (keeps.keeps, stays) }

  module _ (h : List HistoryItem) (c : ClientValue) (a : Asked) (bytes : List ℕ) (now : ℕ) (reply : RpcReply) (s : IsAnswered B Q h c a bytes now reply) (i : I h c) where
    module _ (tie : Tie) (behind : IsTieBehind now (said a reply).slot c.tie tie) where
      -- ---- it is refused

      over_keeps : (queue : List UserRequest) → StartsOver (said a reply) tie → Shortens queue c.queue → Stays I (heard_mds h bytes now) (as_new (record (free tie c) { queue = queue }))
      over_keeps queue over shorter = (k.starts_over h c a bytes now reply tie s behind i queue over shorter, s.stays)

      lost_keeps : (said a reply).answer ≡ Refused 10052 → (layout : Option Layout) → RunKeeps (Stays I) P (heard_mds h bytes now) (session_lost layout (free tie c))
      lost_keeps is (Some l) =
          answer_keeps B Q I P k (heard_mds h bytes now) (as_new (record (free tie c) { queue = without_commit c.queue })) (answer.Failed failing.Revoked) (c.answers ++ answer.Failed failing.Revoked ∷ []) 0
          (over_keeps (without_commit c.queue) (inl is) (commit_shortens c.queue))
      lost_keeps is None = by_queue c.queue
        where
          by_queue : (queue : List UserRequest) → RunKeeps (Stays I) P (heard_mds h bytes now) (ends_as (head_refused 10052 queue (free tie c)) as_new)
          by_queue [] = run_unmoved (Stays I) P (heard_mds h bytes now) (as_new (free tie c)) (over_keeps c.queue (inl is) (inl refl))
          by_queue (request ∷ rest) =
              answer_keeps B Q I P k (heard_mds h bytes now) (as_new (record (free tie c) { queue = drop 1 c.queue })) (answer.Failed (failing.Refused 10052)) (c.answers ++ answer.Failed (failing.Refused 10052) ∷ []) 0
              (over_keeps (drop 1 c.queue) (inl is) (inr refl))

      gone_keeps : (status : ℕ) → (said a reply).answer ≡ Refused status → (status == 10025) ≡ true → a.ask ≡ ask.LayoutReturn → RunKeeps (Stays I) P (heard_mds h bytes now) (revoked_layout (free tie c))
      gone_keeps status is bad kind =
          answer_keeps B Q I P k (heard_mds h bytes now) (record (free tie c) { layout = None; queue = without_commit c.queue }) (answer.Failed failing.Revoked) (c.answers ++ answer.Failed failing.Revoked ∷ []) c.told
          (k.gone h c a bytes now reply tie s behind i status is bad kind, s.stays)

      later_keeps : (status : ℕ) → IsRefused (said a reply) tie status → RunKeeps (Stays I) P (heard_mds h bytes now) (unmoved (asks_later a.ask (free tie c)))
      later_keeps status refused =
          later_so (λ d. RunKeeps (Stays I) P (heard_mds h bytes now) (unmoved d)) a.ask (free tie c)
          (λ back. run_unmoved (Stays I) P (heard_mds h bytes now) (record (free tie c) { layout = deferred c.layout }) (k.refused h c a bytes now reply tie s behind i status c.queue c.waits (deferred c.layout) refused (inl refl) (inr (back, refl)), s.stays))
          (run_unmoved (Stays I) P (heard_mds h bytes now) (free tie c) (k.refused h c a bytes now reply tie s behind i status c.queue c.waits c.layout refused (inl refl) (inl refl), s.stays))
          (run_unmoved (Stays I) P (heard_mds h bytes now) (record (free tie c) { waits = true }) (k.refused h c a bytes now reply tie s behind i status c.queue true c.layout refused (inl refl) (inl refl), s.stays))

      otherwise_keeps : (status : ℕ) → (said a reply).answer ≡ Refused status → (status == 10052) ≡ false → (queue : List UserRequest) → RunKeeps (Stays I) P (heard_mds h bytes now) (ends_as (head_refused status queue (free tie c)) (after_refusal a.ask))
      otherwise_keeps status is other [] = no_head (has_session tie) refl
        where
          no_head : (b : Bool) → has_session tie ≡ b → RunKeeps (Stays I) P (heard_mds h bytes now) (unmoved (if b then defers a.ask (free tie c) else as_new (free tie c)))
          no_head true has =
              defers_so (λ d. RunKeeps (Stays I) P (heard_mds h bytes now) (unmoved d)) a.ask (free tie c)
              (λ back. run_unmoved (Stays I) P (heard_mds h bytes now) (record (free tie c) { layout = deferred c.layout }) (k.refused h c a bytes now reply tie s behind i status c.queue c.waits (deferred c.layout) (is, other, inr has) (inl refl) (inr (back, refl)), s.stays))
              (run_unmoved (Stays I) P (heard_mds h bytes now) (free tie c) (k.refused h c a bytes now reply tie s behind i status c.queue c.waits c.layout (is, other, inr has) (inl refl) (inl refl), s.stays))
          no_head false has = run_unmoved (Stays I) P (heard_mds h bytes now) (as_new (free tie c)) (over_keeps c.queue (inr (status, is, has)) (inl refl))
      otherwise_keeps status is other (request ∷ rest) = by_session (has_session tie) refl
        where
          -- the head is answered
          head_keeps : (waits : Bool) (layout : Option Layout) → Stays I (heard_mds h bytes now) (record (free tie c) { queue = drop 1 c.queue; waits = waits; layout = layout })
              → RunKeeps (Stays I) P (heard_mds h bytes now) (record { client = record (free tie c) { queue = drop 1 c.queue; waits = waits; layout = layout; answers = c.answers ++ answer.Failed (failing.Refused status) ∷ [] }; entries = Answer c.number (answer.Failed (failing.Refused status)) ∷ [] })
          head_keeps waits layout keeps =
              answer_keeps B Q I P k (heard_mds h bytes now) (record (free tie c) { queue = drop 1 c.queue; waits = waits; layout = layout }) (answer.Failed (failing.Refused status)) (c.answers ++ answer.Failed (failing.Refused status) ∷ []) c.told keeps

          by_session : (b : Bool) → has_session tie ≡ b → RunKeeps (Stays I) P (heard_mds h bytes now) (record {
            client = if b then defers a.ask (head_refused status (request ∷ rest) (free tie c)).client else as_new (head_refused status (request ∷ rest) (free tie c)).client;
            entries = Answer c.number (answer.Failed (failing.Refused status)) ∷ [];
          })
          by_session true has =
              defers_so (λ d. RunKeeps (Stays I) P (heard_mds h bytes now) (record { client = d; entries = Answer c.number (answer.Failed (failing.Refused status)) ∷ [] })) a.ask (head_refused status (request ∷ rest) (free tie c)).client
              (λ back. head_keeps false (deferred c.layout) (k.refused h c a bytes now reply tie s behind i status (drop 1 c.queue) false (deferred c.layout) (is, other, inr has) (inr refl) (inr (back, refl)), s.stays))
              (head_keeps false c.layout (k.refused h c a bytes now reply tie s behind i status (drop 1 c.queue) false c.layout (is, other, inr has) (inr refl) (inl refl), s.stays))
          by_session false has =
              answer_keeps B Q I P k (heard_mds h bytes now) (as_new (record (free tie c) { queue = drop 1 c.queue })) (answer.Failed (failing.Refused status)) (c.answers ++ answer.Failed (failing.Refused status) ∷ []) 0
              (over_keeps (drop 1 c.queue) (inr (status, is, has)) (inr refl))

      refused_keeps : (status : ℕ) → (said a reply).answer ≡ Refused status → RunKeeps (Stays I) P (heard_mds h bytes now) (refused_by_mds a.ask status (free tie c))
      refused_keeps status is = by_tests (status == 10052) (is_for_later status) ((status == 10025) && is_layout_return a.ask) refl refl refl
        where
          by_tests : (x y z : Bool) → (status == 10052) ≡ x → is_for_later status ≡ y → ((status == 10025) && is_layout_return a.ask) ≡ z
              → RunKeeps (Stays I) P (heard_mds h bytes now) (if x then session_lost c.layout (free tie c) else if y then unmoved (asks_later a.ask (free tie c)) else if z then revoked_layout (free tie c) else refused_otherwise a.ask status (free tie c))
          by_tests true y z lost later bad = lost_keeps (is ∙ ap Refused (eqb-true status 10052 lost)) c.layout
          by_tests false true z lost later bad = later_keeps status (is, lost, inl later)
          by_tests false false true lost later bad = gone_keeps status is (both (status == 10025) (is_layout_return a.ask) bad).0 (is_return a.ask (both (status == 10025) (is_layout_return a.ask) bad).1)
          by_tests false false false lost later bad = otherwise_keeps status is lost c.queue

      -- ---- what was asked is done

      back_keeps : (said a reply).answer ≡ Returned → (file : Option OpenFile) (layout : Option Layout) → c.file ≡ file → c.layout ≡ layout → RunKeeps (Stays I) P (heard_mds h bytes now) (layout_returned file layout (free tie c))
      back_keeps is (Some file) (Some l) there at = told_keeps (heard_mds h bytes now) (tells file l.writer l.untold (record (free tie c) { layout = None })) (k.returned h c a bytes now reply tie s behind i file l is there at) s.stays
      back_keeps is (Some file) None there at = run_unmoved (Stays I) P (heard_mds h bytes now) (free tie c) (k.idle h c a bytes now reply tie s behind i (subst IsIdle (sym is) tt), s.stays)
      back_keeps is None layout there at = run_unmoved (Stays I) P (heard_mds h bytes now) (free tie c) (k.idle h c a bytes now reply tie s behind i (subst IsIdle (sym is) tt), s.stays)

      served_keeps : IsServed (said a reply).answer → (answer : UserAnswer) → RunKeeps (Stays I) P (heard_mds h bytes now) (record { client = record (without_head (free tie c)) { answers = c.answers ++ answer ∷ [] }; entries = Answer c.number answer ∷ [] })
      served_keeps is answer = answer_keeps B Q I P k (heard_mds h bytes now) (without_head (free tie c)) answer (c.answers ++ answer ∷ []) c.told (k.served h c a bytes now reply tie s behind i is, s.stays)

      pub comes_keeps : (says : MdsAnswerValue) → (said a reply).answer ≡ says → RunKeeps (Stays I) P (heard_mds h bytes now) (by_answer a.ask says (free tie c))
      comes_keeps (Refused status) is = refused_keeps status is
      comes_keeps (Client clientid sequence) is = run_unmoved (Stays I) P (heard_mds h bytes now) _ (k.client h c a bytes now reply tie s behind i clientid sequence is, s.stays)
      comes_keeps (Session session) is = run_unmoved (Stays I) P (heard_mds h bytes now) _ (k.session h c a bytes now reply tie s behind i session is, s.stays)
      comes_keeps Complete is = run_unmoved (Stays I) P (heard_mds h bytes now) _ (k.complete h c a bytes now reply tie s behind i is, s.stays)
      comes_keeps (Opened file) is =
          answer_keeps B Q I P k (heard_mds h bytes now) (record (without_head (free tie c)) { file = Some file }) (answer.Opened file.file) (c.answers ++ answer.Opened file.file ∷ []) c.told (k.opened h c a bytes now reply tie s behind i file is, s.stays)
      comes_keeps (Granted grant) is = run_unmoved (Stays I) P (heard_mds h bytes now) _ (k.granted h c a bytes now reply tie s behind i grant is, s.stays)
      comes_keeps (Devices addresses) is =
          run_unmoved (Stays I) P (heard_mds h bytes now) (learns_devices c.layout addresses (free tie c)) (k.learns h c a bytes now reply tie s behind i addresses is, learns_left c.layout addresses (free tie c) ∙ s.stays)
      comes_keeps Written is = served_keeps (subst IsServed (sym is) tt) answer.Written
      comes_keeps (Bytes eof data_of) is = served_keeps (subst IsServed (sym is) tt) (answer.Bytes eof data_of)
      comes_keeps Returned is = back_keeps is c.file c.layout refl refl
      comes_keeps Renewed is = run_unmoved (Stays I) P (heard_mds h bytes now) _ (k.idle h c a bytes now reply tie s behind i (subst IsIdle (sym is) tt), s.stays)

    pub mds_answer_keeps : RunKeeps (Stays I) P (heard_mds h bytes now) (mds_answered a.ask (said a reply) now c)
    mds_answer_keeps = by_report (said a reply) refl
      where
        delayed_keeps : (said a reply).slot ≡ Delayed → RunKeeps (Stays I) P (heard_mds h bytes now) (unmoved (record c { asked = delayed c.asked }))
        delayed_keeps is =
            subst (λ (o : Option Asked). RunKeeps (Stays I) P (heard_mds h bytes now) (unmoved (record c { asked = delayed o }))) (sym s.out)
            (run_unmoved (Stays I) P (heard_mds h bytes now) (record c { asked = Some (record a { is_late = true }) }) (k.delays h c a bytes now reply s is i, s.stays))

        by_slot : (slot : SlotReport) (says : MdsAnswerValue) → (said a reply).slot ≡ slot → (said a reply).answer ≡ says → RunKeeps (Stays I) P (heard_mds h bytes now) (mds_answered a.ask (record { slot = slot; answer = says }) now c)
        by_slot Taken says at is = comes_keeps (moved_tie now c.tie) (subst (λ (r : SlotReport). IsTieBehind now r c.tie (moved_tie now c.tie)) (sym at) refl) says is
        by_slot Unknown says at is = comes_keeps c.tie (subst (λ (r : SlotReport). IsTieBehind now r c.tie c.tie) (sym at) refl) says is
        by_slot Uncached says at is = run_unmoved (Stays I) P (heard_mds h bytes now) _ (k.again h c a bytes now reply s at i, s.stays)
        by_slot Delayed says at is = delayed_keeps at

        by_report : (r : MdsReplyValue) → said a reply ≡ r → RunKeeps (Stays I) P (heard_mds h bytes now) (mds_answered a.ask r now c)
        by_report r is = by_slot r.slot r.answer (ap (λ k. k.slot) is) (ap (λ k. k.answer) is)
