-- A recall that is answered OK leaves a layout that is being given back.
use Rattle.std.proofs.Common.{◌≡◌, ℕ, Bool, true, false, List, [], ◌∷◌, ◌++◌, take, Option, Some, None, Result, Ok, refl, sym, ap, subst, ◌∙◌, inl, inr, ◌⊎◌, arith}
use Rattle.std.specs.Prelude.{◌==◌, ◌+◌, ◌*◌, nat_lt, bytes_eq, if◌then◌else◌}
use Rattle.std.proofs.lemmas.Option.{same_Some}
use Rattle.std.proofs.lemmas.Bool.{eqb-true}
use Rattle.std.proofs.lemmas.Slice.Eq.{bytes_eq-Decides}
use Rattle.ff_xdr.specs.declared.error.XdrError.{XdrError}
use Rattle.ff_xdr.specs.Form.{Value, word}
use Rattle.rpc_record.specs.declared.call.CallFault.{CallFault}
use Rattle.rpc_record.specs.Calls.{RpcCall, call_at}
use Rattle.rpc_record.specs.Replies.{proc_unavail, prog_unavail, prog_mismatch}
use Rattle.nfs4_types.specs.declared.stateid.Stateid.{Stateid}
use Rattle.nfs4_types.specs.declared.status.Stat4.{Stat4}
use Rattle.nfs4_types.specs.declared.status.Stat4.TheVariants as stat
use Rattle.nfs4_types.specs.Status.{stat4_number}
use Rattle.nfs4_session_ops.specs.CbSequence.{cb_sequence4_args}
use Rattle.nfs4_session.specs.declared.cb_slot.CbBegin.{CbBegin}
use Rattle.nfs4_session.specs.declared.cb_slot.CbBegin.TheVariants.{New, Again, Misordered}
use Rattle.nfs4_session.specs.CallbackSlot.{CbSlotState, cb_begin, cb_again}
use Rattle.nfs4_session.specs.Slots.{sequence_after}
use Rattle.nfs4_compound.specs.declared.stop.Stop.{Stop}
use Rattle.nfs4_compound.specs.CbArgs.{cb_argop4}
use Rattle.nfs4_compound.specs.Compounds.{CbCompoundValue, cb_compound_at}
use Rattle.nfs4_compound.specs.Operations.{rest_of_stop}
use Rattle.client_state.specs.declared.stage.LayoutStage.{LayoutStage}
use Rattle.client_state.specs.declared.stage.LayoutStage.TheVariants.{Writing, Ending, Deferred, Returning}
use Rattle.client_state.specs.declared.layout.Layout.{Layout}
use Rattle.client_state.specs.declared.tie.OwnSession.{OwnSession}
use Rattle.client_state.specs.declared.tie.Tie.{Tie}
use Rattle.client_state.specs.declared.tie.Tie.TheVariants.{NoClient, HasClient, HasSession}
use Rattle.client_state.specs.ClientStates.{ClientValue}
use Rattle.client_state.specs.ClientQueue.{with_layout, ends_layout, ending, is_writing}
use Rattle.client_callbacks.specs.Callbacks.{CbJudged, Recall, CbAnswer, CbReply, is_state_of, recall_of, recalled_state, recall_step, is_ok, cb_behind, cb_begun, cb_in_session, cb_first, cb_walked, cb_compound_answer, cb_null_answer, cb_procedure_answer, cb_call_answer, cb_results, cb_refused, callback_of, cb_reply, leaves, behind_result, sequence_refused, given, cb_recall_result, refused_result}
use Rattle.client_laws.specs.ClientHistory.{HistoryItem}
use Rattle.client_laws.specs.RecallLaws.{IsCallback, AsksBack, sequence_of}
use Rattle.client_laws.proofs.SlotKept.{slot_of, HeardCallback, SlotStands}

-- there is a layout, which is being given back
pub record IsEnding (layout : Option Layout) : Type 0 where
  pub held : Layout
  pub there : layout ≡ Some held
  pub stage : is_writing held.stage ≡ false

pub ends_so : (l : Layout) → is_writing (ending l).stage ≡ false
ends_so l = by_stage l.stage refl
  where
    by_stage : (stage : LayoutStage) → l.stage ≡ stage → is_writing (ends_layout l stage).stage ≡ false
    by_stage Writing at = refl
    by_stage Ending at = ap is_writing at
    by_stage Deferred at = ap is_writing at
    by_stage Returning at = ap is_writing at

pub ending_is : (l : Layout) → IsEnding (Some (ending l))
ending_is l = record { held = ending l; there = refl; stage = ends_so l }

not_both : false ≡ true → ⊥
not_both e = absurd cc

-- the layout of this state is there, and is being given back
pub record IsRecalled (layout : Option Layout) (state : List ℕ) : Type 0 where
  pub held : Layout
  pub there : layout ≡ Some held
  pub its_state : held.stateid.other ≡ state
  pub stage : is_writing held.stage ≡ false

pub recalled_ending : (layout : Option Layout) (state : List ℕ) → IsRecalled layout state → IsEnding layout
recalled_ending layout state r = record { held = r.held; there = r.there; stage = r.stage }

ending_recalled : (l : Layout) (state : List ℕ) → l.stateid.other ≡ state → IsRecalled (Some (ending l)) state
ending_recalled l state its = record { held = ending l; there = refl; its_state = ap (λ (k : Stateid). k.other) (same_stateid l.stage) ∙ its; stage = ends_so l }
  where
    same_stateid : (stage : LayoutStage) → (ends_layout l stage).stateid ≡ l.stateid
    same_stateid Writing = refl
    same_stateid Ending = refl
    same_stateid Deferred = refl
    same_stateid Returning = refl

-- ---- the operations

recalled_keeps : (layout : Option Layout) (asked : Option (List ℕ)) (c : ClientValue) (state : List ℕ) → c.layout ≡ layout → IsRecalled c.layout state → IsRecalled (recall_of layout asked c).client.layout state
recalled_keeps None asked c state at e = e
recalled_keeps (Some l) asked c state at e = by_test (is_state_of asked l.stateid)
  where
    by_test : (b : Bool)
        → (let r : Recall = if b then record { status = stat.Ok; client = with_layout c (ending l) } else record { status = stat.NoMatchingLayout; client = c } in IsRecalled r.client.layout state)
    by_test true = ending_recalled l state (ap (λ (k : Layout). k.stateid.other) (sym (same_Some e.held l (sym e.there ∙ at))) ∙ e.its_state)
    by_test false = e

recalled_so : (layout : Option Layout) (state : List ℕ) (c : ClientValue) → is_ok (recall_of layout (Some state) c).status ≡ true → IsRecalled (recall_of layout (Some state) c).client.layout state
recalled_so None state c ok = absurd (not_both ok)
recalled_so (Some l) state c ok = by_test (bytes_eq state l.stateid.other) refl ok
  where
    by_test : (b : Bool) → bytes_eq state l.stateid.other ≡ b
        → (let r : Recall = if b then record { status = stat.Ok; client = with_layout c (ending l) } else record { status = stat.NoMatchingLayout; client = c } in is_ok r.status ≡ true → IsRecalled r.client.layout state)
    by_test true same ok = ending_recalled l state (sym ((bytes_eq-Decides state l.stateid.other).0 same))
    by_test false same ok = absurd (not_both ok)

step_keeps : (r : Recall) (next : ClientValue → CbJudged) (state : List ℕ) → IsRecalled r.client.layout state → ((d : ClientValue) → IsRecalled d.layout state → IsRecalled (next d).client.layout state) → IsRecalled (recall_step r next).client.layout state
step_keeps r next state e further = by_test (is_ok r.status)
  where
    by_test : (b : Bool)
        → (let j : CbJudged = if b then behind_result (cb_recall_result r.status) (next r.client) else leaves (refused_result r.status (cb_recall_result r.status)) r.client in IsRecalled j.client.layout state)
    by_test true = further r.client e
    by_test false = e

behind_keeps : (ops : List (Value cb_argop4)) (st : Stop) (c : ClientValue) (state : List ℕ) → IsRecalled c.layout state → IsRecalled (cb_behind ops st c).client.layout state
behind_keeps [] st c state e = e
behind_keeps (inl (kind, (iomode, (changed, recall))) ∷ ops) st c state e =
    step_keeps (recall_of c.layout (recalled_state recall) c) (λ d. cb_behind ops st d) state (recalled_keeps c.layout (recalled_state recall) c state refl e) (λ d. behind_keeps ops st d state)
behind_keeps (inr (inl sequence) ∷ ops) st c state e = e
behind_keeps (inr (inr v) ∷ ops) st c state e = absurd v

step_so : (r : Recall) (next : ClientValue → CbJudged) (state : List ℕ) → (is_ok r.status ≡ true → is_ok (next r.client).status ≡ true → IsRecalled (next r.client).client.layout state) → is_ok (recall_step r next).status ≡ true
    → IsRecalled (recall_step r next).client.layout state
step_so r next state further = by_test (is_ok r.status) refl
  where
    by_test : (b : Bool) → is_ok r.status ≡ b
        → (let j : CbJudged = if b then behind_result (cb_recall_result r.status) (next r.client) else leaves (refused_result r.status (cb_recall_result r.status)) r.client in is_ok j.status ≡ true → IsRecalled j.client.layout state)
    by_test true is ok = further is ok
    by_test false is ok = absurd (not_both (sym is ∙ ok))

behind_so : (ops : List (Value cb_argop4)) (st : Stop) (c : ClientValue) (state : List ℕ) → AsksBack ops state → is_ok (cb_behind ops st c).status ≡ true → IsRecalled (cb_behind ops st c).client.layout state
behind_so [] st c state asks ok = absurd asks
behind_so (inl (kind, (iomode, (changed, recall))) ∷ ops) st c state asks ok =
    step_so (recall_of c.layout (recalled_state recall) c) (λ d. cb_behind ops st d) state (by_asks (λ d later. behind_so ops st d state later) asks) ok
  where
    by_asks : ((d : ClientValue) → AsksBack ops state → is_ok (cb_behind ops st d).status ≡ true → IsRecalled (cb_behind ops st d).client.layout state) → (recalled_state recall ≡ Some state) ⊎ AsksBack ops state → is_ok (recall_of c.layout (recalled_state recall) c).status ≡ true → is_ok (cb_behind ops st (recall_of c.layout (recalled_state recall) c).client).status ≡ true
        → IsRecalled (cb_behind ops st (recall_of c.layout (recalled_state recall) c).client).client.layout state
    by_asks further (inl its) is more =
        behind_keeps ops st (recall_of c.layout (recalled_state recall) c).client state
        (subst (λ (o : Option (List ℕ)). is_ok (recall_of c.layout o c).status ≡ true → IsRecalled (recall_of c.layout o c).client.layout state) (sym its) (recalled_so c.layout state c) is)
    by_asks further (inr later) is more = further (recall_of c.layout (recalled_state recall) c).client later more
behind_so (inr (inl sequence) ∷ ops) st c state asks ok = absurd (not_both ok)
behind_so (inr (inr v) ∷ ops) st c state asks ok = absurd v

-- ---- CB_SEQUENCE

pub record IsAgain (slot : CbSlotState) (number : ℕ) (status : Stat4) : Type 0 where
  pub last : number ≡ slot.last
  pub kept : slot.kept ≡ Some status

again_so : (slot : CbSlotState) (number : ℕ) (status : Stat4) → cb_begin slot number ≡ Again status → IsAgain slot number status
again_so slot number status is = by_test (number == slot.last) refl is
  where
    by_kept : (kept : Option Stat4) → slot.kept ≡ kept → number ≡ slot.last → cb_again kept ≡ Again status → IsAgain slot number status
    by_kept None at last is = absurd cc
    by_kept (Some s) at last is = record { last = last; kept = at ∙ ap Some (cc (is)) }

    by_next : (b : Bool) → (if b then New else Misordered) ≡ Again status → ⊥
    by_next true is = absurd cc
    by_next false is = absurd cc

    by_test : (b : Bool) → (number == slot.last) ≡ b → (if b then cb_again slot.kept else (if number == sequence_after slot.last then New else Misordered)) ≡ Again status → IsAgain slot number status
    by_test true at is = by_kept slot.kept refl (eqb-true number slot.last at) is
    by_test false at is = absurd (by_next (number == sequence_after slot.last) is)

judged_if : (state : List ℕ) (b : Bool) (x y : CbJudged) → (b ≡ true → is_ok x.status ≡ true → IsRecalled x.client.layout state) → (is_ok y.status ≡ true → IsRecalled y.client.layout state)
    → (let j : CbJudged = if b then x else y in is_ok j.status ≡ true → IsRecalled j.client.layout state)
judged_if state true x y first second = first refl
judged_if state false x y first second = second

module _ (h : List HistoryItem) (c : ClientValue) (slot : SlotStands h c.tie) (state : List ℕ) where
  -- it was not heard before
  abbrev IsFirst : List (Value cb_argop4) → Type 0
  IsFirst ops = (session : List ℕ) (number : ℕ) → sequence_of ops ≡ Some (session, number) → HeardCallback h session number → ⊥

  begun_so : (s : OwnSession) (number : ℕ) (begin : CbBegin) (ops : List (Value cb_argop4)) (st : Stop) → c.tie ≡ HasSession s → cb_begin s.callbacks number ≡ begin → (HeardCallback h s.id.0 number → ⊥) → AsksBack ops state
      → is_ok (cb_begun s number begin ops st c).status ≡ true → IsRecalled (cb_begun s number begin ops st c).client.layout state
  begun_so s number New ops st at is first asks ok = behind_so ops st c state asks ok
  begun_so s number (Again status) ops st at is first asks ok =
      let again : IsAgain s.callbacks number status = again_so s.callbacks number status is in
      absurd (first (subst (λ k. HeardCallback h s.id.0 k) (sym again.last) (slot (record { session = s.id.0; last = s.callbacks.last; kept = s.callbacks.kept }) status (ap slot_of at) again.kept)))
  begun_so s number Misordered ops st at is first asks ok = absurd (not_both ok)

  session_so : (tie : Tie) (args : Value cb_sequence4_args) (ops : List (Value cb_argop4)) (st : Stop) → c.tie ≡ tie → IsFirst (inr (inl args) ∷ ops) → AsksBack ops state
      → is_ok (cb_in_session tie args ops st c).status ≡ true → IsRecalled (cb_in_session tie args ops st c).client.layout state
  session_so (HasSession s) (session, (number, (place, rest))) ops st at first asks =
      judged_if state (bytes_eq session s.id.0) _ (leaves (sequence_refused stat.BadSession) c)
      (λ same. judged_if state (place == 0) (cb_begun s number (cb_begin s.callbacks number) ops st c) (leaves (sequence_refused stat.BadSlot) c)
      (λ zero. begun_so s number (cb_begin s.callbacks number) ops st at refl (λ heard. first session number refl (subst (λ k. HeardCallback h k number) (sym ((bytes_eq-Decides session s.id.0).0 same)) heard)) asks)
      (λ ok. absurd (not_both ok)))
      (λ ok. absurd (not_both ok))
  session_so NoClient args ops st at first asks = λ ok. absurd (not_both ok)
  session_so (HasClient clientid sequence) args ops st at first asks = λ ok. absurd (not_both ok)

  first_so : (ops : List (Value cb_argop4)) (st : Stop) → IsFirst ops → AsksBack ops state → is_ok (cb_first ops st c).status ≡ true → IsRecalled (cb_first ops st c).client.layout state
  first_so [] st first asks ok = absurd asks
  first_so (inl recall ∷ ops) st first asks ok = absurd (not_both ok)
  first_so (inr (inl sequence) ∷ ops) st first asks ok = session_so c.tie sequence ops st refl first asks ok
  first_so (inr (inr v) ∷ ops) st first asks ok = absurd v

-- ---- the reply says OK

first_word : List ℕ → ℕ
first_word (a ∷ (b ∷ (d ∷ (e ∷ rest)))) = a * 16777216 + (b * 65536 + (d * 256 + e))
first_word bytes = 1

ok_status : (status : Stat4) (rest : List ℕ) → take 4 (word (stat4_number status) ++ rest) ≡ word 0 → is_ok status ≡ true
unfolding word first_word
ok_status stat.Ok rest is = refl
ok_status status rest is = absurd (omega (arith, ap first_word is))

no_word : take 4 [] ≡ word 0 → ⊥
unfolding word first_word
no_word is = omega (arith, ap first_word is)

answer_if : (state : List ℕ) (b : Bool) (x y : CbAnswer) → (take 4 x.results ≡ word 0 → IsRecalled x.client.layout state) → (take 4 y.results ≡ word 0 → IsRecalled y.client.layout state)
    → (let a : CbAnswer = if b then x else y in take 4 a.results ≡ word 0 → IsRecalled a.client.layout state)
answer_if state true x y first second = first
answer_if state false x y first second = second

judged_ok : (tag : List ℕ) (j : CbJudged) → take 4 (cb_results tag j).results ≡ word 0 → is_ok j.status ≡ true
judged_ok tag j is = ok_status j.status _ is

walked_so : (h : List HistoryItem) (c : ClientValue) (slot : SlotStands h c.tie) (state : List ℕ) (cb : CbCompoundValue) (rest : Option ℕ) → IsFirst h c slot state cb.ops.values → AsksBack cb.ops.values state
    → take 4 (cb_walked cb rest c).results ≡ word 0 → IsRecalled (cb_walked cb rest c).client.layout state
walked_so h c slot state cb (Some rest) first asks ok = absurd (no_word ok)
walked_so h c slot state cb None first asks ok = first_so h c slot state cb.ops.values cb.ops.stop first asks (judged_ok cb.tag (cb_first cb.ops.values cb.ops.stop c) ok)

compound_so : (h : List HistoryItem) (c : ClientValue) (slot : SlotStands h c.tie) (state : List ℕ) (cb : CbCompoundValue) → IsFirst h c slot state cb.ops.values → AsksBack cb.ops.values state
    → take 4 (cb_compound_answer (Ok cb) c).results ≡ word 0 → IsRecalled (cb_compound_answer (Ok cb) c).client.layout state
compound_so h c slot state cb first asks =
    answer_if state (cb.minorversion == 1) _ (cb_results cb.tag (leaves (given stat.MinorVersMismatch []) c))
    (answer_if state (nat_lt 16 cb.count) (cb_results cb.tag (leaves (given stat.TooManyOps []) c)) (cb_walked cb (rest_of_stop cb.ops.stop) c)
    (λ ok. absurd (not_both (judged_ok cb.tag (leaves (given stat.TooManyOps []) c) ok))) (walked_so h c slot state cb (rest_of_stop cb.ops.stop) first asks))
    (λ ok. absurd (not_both (judged_ok cb.tag (leaves (given stat.MinorVersMismatch []) c) ok)))

null_none : (args : List ℕ) (c : ClientValue) → take 4 (cb_null_answer args c).results ≡ word 0 → ⊥
null_none [] c ok = no_word ok
null_none (b ∷ bs) c ok = no_word ok

call_so : (h : List HistoryItem) (c : ClientValue) (slot : SlotStands h c.tie) (state : List ℕ) (call : RpcCall) (cb : CbCompoundValue) → cb_compound_at call.args ≡ Ok cb → IsFirst h c slot state cb.ops.values → AsksBack cb.ops.values state
    → take 4 (cb_call_answer call c).results ≡ word 0 → IsRecalled (cb_call_answer call c).client.layout state
call_so h c slot state call cb compound first asks =
    answer_if state (call.program == 1073741824) _ (cb_refused prog_unavail c)
    (answer_if state (call.version == 1) (cb_procedure_answer call c) (cb_refused (prog_mismatch 1 1) c)
    (answer_if state (call.procedure == 0) (cb_null_answer call.args c) _ (λ ok. absurd (null_none call.args c ok))
    (answer_if state (call.procedure == 1) (cb_compound_answer (cb_compound_at call.args) c) (cb_refused proc_unavail c)
    (subst (λ (r : Result CbCompoundValue XdrError). take 4 (cb_compound_answer r c).results ≡ word 0 → IsRecalled (cb_compound_answer r c).client.layout state) (sym compound) (compound_so h c slot state cb first asks)) (λ ok. absurd (no_word ok))))
    (λ ok. absurd (no_word ok))) (λ ok. absurd (no_word ok))

-- A callback that was not heard before and is answered OK, where it asks a layout back, leaves that one, which is being given back.
pub callback_so : (h : List HistoryItem) (c : ClientValue) (bytes : List ℕ) (k : CbReply) (state session : List ℕ) (number : ℕ) → SlotStands h c.tie → callback_of (call_at bytes) c ≡ Some k → (i : IsCallback bytes session number)
    → AsksBack i.cb.ops.values state → (HeardCallback h session number → ⊥) → take 4 k.reply.results ≡ word 0 → IsRecalled k.client.layout state
callback_so h c bytes k state session number slot is i asks first ok =
    subst (λ (x : CbReply). take 4 x.reply.results ≡ word 0 → IsRecalled x.client.layout state) its (call_so h c slot state i.call i.cb i.compound its_first asks) ok
  where
    its : cb_reply i.call.xid (cb_call_answer i.call c) ≡ k
    its = same_Some _ k (ap (λ (r : Result RpcCall CallFault). callback_of r c) (sym i.call_is) ∙ is)

    its_first : (other : List ℕ) (n : ℕ) → sequence_of i.cb.ops.values ≡ Some (other, n) → HeardCallback h other n → ⊥
    its_first other n sequence heard =
        let same : ◌≡◌ {A = List ℕ × ℕ} (session, number) (other, n) = same_Some _ _ (sym i.sequence ∙ sequence) in
        first (subst (λ (p : List ℕ × ℕ). HeardCallback h p.0 p.1) (sym same) heard)
