-- Callbacks: what is still to come of a compound, and how long its parts are.
use Rattle.std.proofs.Common.{◌≡◌, ℕ, zero, suc, ◌+◌, ◌≤◌, ◌<◌, cond, eqb, bytes_eq, List, [], ◌∷◌, ◌++◌, length, take, drop, ltb, Ok, Err, inl, inr, ap, subst, arith}
use Rattle.std.proofs.lemmas.Bool.{ltb-false, cond_both}
use Rattle.std.proofs.lemmas.List.{length-take}
use Rattle.std.specs.Int.{w32}
use Rattle.std.specs.Str.Lossy.{utf8_valid_len}
use Rattle.ff_xdr.specs.declared.error.XdrError.{XdrError}
use Rattle.ff_xdr.specs.declared.error.XdrWhy.TheVariants.{Short, TooLong, NotUtf8}
use Rattle.ff_xdr.specs.Form.{Form, Number32, Pair, Value, pad_len}
use Rattle.ff_xdr.specs.Reading.{Read, ◌>>=◌, number_at, padding_at, fixed_at, length_at, text_at, may_begin_text, reading}
use Rattle.ff_xdr.proofs.Places.{bind_ok, guard_ok, passed, ok_is}
use Rattle.nfs4_types.specs.declared.status.Stat4.{Stat4}
use Rattle.nfs4_types.specs.declared.status.Stat4.TheVariants as stat
use Rattle.nfs4_session.specs.declared.cb_slot.CbBegin.{CbBegin}
use Rattle.nfs4_session.specs.declared.cb_slot.CbBegin.TheVariants.{New, Again, Misordered}
use Rattle.nfs4_session.specs.CallbackSlot.{cb_begin}
use Rattle.nfs4_session_ops.specs.CbSequence.{cb_sequence4_args}
use Rattle.nfs4_compound.specs.declared.stop.Stop.{Stop}
use Rattle.nfs4_compound.specs.declared.stop.Stop.TheVariants as stop
use Rattle.nfs4_compound.specs.CbArgs.{cb_argop4}
use Rattle.nfs4_compound.specs.Operations.{OpList, stop_at, with_first, operations}
use Rattle.nfs4_compound.specs.Compounds.{CbCompoundValue, cb_compound_head, cb_compound_of, cb_compound_at}
use Rattle.client_state.specs.declared.tie.OwnSession.{OwnSession}
use Rattle.client_state.specs.declared.tie.Tie.{Tie}
use Rattle.client_state.specs.declared.tie.Tie.TheVariants.{NoClient, HasClient, HasSession}
use Rattle.client_state.specs.ClientStates.{ClientValue}
use Rattle.client_callbacks.specs.Callbacks.{CbJudged, Recall, is_ok, cb_recall_result, behind_result, refused_result, leaves, recalls, recall_step, stopped, cb_behind, cb_repeated, sequence_refused, cb_begun, cb_in_session, cb_first}
use Rattle.client_callbacks.specs.CallbackSteps.{CbResultList, HasJudgedCb}

-- ---- what is still to come

-- behind what there is, and behind what there was, it comes to the same
abbrev pub GoesOnJudged : CbResultList → CbJudged → CbResultList → CbJudged → Type 0
GoesOnJudged now j before all = (now ++ j.results ≡ before ++ all.results) × (j.status ≡ all.status) × (j.client ≡ all.client)

-- ---- a tag that was read is no longer than its form lets it be

length_within : (max : ℕ) (bytes : List ℕ) (at : ℕ) (n : ℕ × ℕ) → length_at max bytes at ≡ Ok n → n.0 ≤ max
unfolding length_at
length_within max bytes at n e =
    let a = bind_ok (number_at w32 bytes at) (λ k. cond (ltb max k.0) (Err (record { place = at; why = TooLong })) (Ok k)) n e in
    let g = guard_ok (ltb max a.0.0) (record { place = at; why = TooLong }) (Ok a.0) n a.2 in
    subst (λ (p : ℕ × ℕ). p.0 ≤ max) (ok_is a.0 n g.1) (ltb-false _ _ g.0)

fixed_within : (n : ℕ) (bytes : List ℕ) (at : ℕ) (text : List ℕ × ℕ) → fixed_at n bytes at ≡ Ok text → length text.0 ≤ n
unfolding fixed_at
fixed_within n bytes at text e =
    let g = guard_ok (ltb (length bytes) (at + n)) (record { place = length bytes; why = Short }) (padding_at (pad_len n) bytes (at + n) >>= λ to. Ok (take n (drop at bytes), to)) text e in
    let b = bind_ok (padding_at (pad_len n) bytes (at + n)) (λ to. Ok (take n (drop at bytes), to)) text g.1 in
    subst (λ (p : List ℕ × ℕ). length p.0 ≤ n) (ok_is (take n (drop at bytes), b.0) text b.2) (omega (arith, length-take n (drop at bytes)))

text_within : (max : ℕ) (bytes : List ℕ) (at : ℕ) (text : List ℕ × ℕ) → text_at max bytes at ≡ Ok text → length text.0 ≤ max
unfolding text_at
text_within max bytes at text e =
    let a = bind_ok (length_at max bytes at) (λ n. cond (may_begin_text n.0 (take n.0 (drop n.1 bytes))) (fixed_at n.0 bytes n.1) (Err (record { place = n.1 + utf8_valid_len (take n.0 (drop n.1 bytes)); why = NotUtf8 }))) text e in
    let p = passed (may_begin_text a.0.0 (take a.0.0 (drop a.0.1 bytes))) (record { place = a.0.1 + utf8_valid_len (take a.0.0 (drop a.0.1 bytes)); why = NotUtf8 }) (fixed_at a.0.0 bytes a.0.1) text a.2 in
    omega (arith, length_within max bytes at a.0 a.1, fixed_within a.0.0 bytes a.0.1 text p.1)

abbrev behind_tag : Form
behind_tag = Pair Number32 (Pair Number32 Number32)

head_within : (args : List ℕ) (head : Value cb_compound_head × ℕ) → reading cb_compound_head args 0 ≡ Ok head → length head.0.0 ≤ 1024
head_within args head e =
    let a = bind_ok (text_at 1024 args 0) (λ tag. reading behind_tag args tag.1 >>= λ b. Ok ((tag.0, b.0), b.1)) head e in
    let b = bind_ok (reading behind_tag args a.0.1) (λ b. Ok ((a.0.0, b.0), b.1)) head a.2 in
    subst (λ (p : Value cb_compound_head × ℕ). length p.0.0 ≤ 1024) (ok_is ((a.0.0, b.0.0), b.0.1) head b.2) (text_within 1024 args 0 a.0 a.1)

pub tag_within : (args : List ℕ) (cb : CbCompoundValue) → cb_compound_at args ≡ Ok cb → length cb.tag ≤ 1024
tag_within args cb e =
    let h = bind_ok (reading cb_compound_head args 0) (λ head. Ok (cb_compound_of args head)) cb e in
    subst (λ (c : CbCompoundValue). length c.tag ≤ 1024) (ok_is (cb_compound_of args h.0) cb h.2) (head_within args h.0 h.1)

-- ---- no more operations stand there than are to be

first_within : {form : Form} (r : Read (Value form)) (refused_as : XdrError → Stop) (others : ℕ → OpList form) (n : ℕ)
    → ((to : ℕ) → length (others to).values ≤ n) → length (with_first r refused_as others).values ≤ suc n
first_within (Ok v) refused_as others n h = omega (arith, h v.1)
first_within (Err e) refused_as others n h = omega arith

ops_within : (form : Form) (n : ℕ) (bytes : List ℕ) (at : ℕ) → length (operations form n bytes at).values ≤ n
ops_within form zero bytes at = omega arith
ops_within form (suc n) bytes at =
    first_within (reading form bytes at) (λ e. stop_at form bytes at e) (λ to. operations form n bytes to) n (λ to. ops_within form n bytes to)

pub count_within : (args : List ℕ) (cb : CbCompoundValue) → cb_compound_at args ≡ Ok cb → length cb.ops.values ≤ cb.count
count_within args cb e =
    let h = bind_ok (reading cb_compound_head args 0) (λ head. Ok (cb_compound_of args head)) cb e in
    subst (λ (c : CbCompoundValue). length c.ops.values ≤ c.count) (ok_is (cb_compound_of args h.0) cb h.2) (ops_within cb_argop4 h.0.0.1.1.1 args h.0.1)

-- ---- at most one result more than operations

stop_within : (s : Stop) (n : ℕ) → length (stopped s).results ≤ suc n
stop_within (stop.End rest) n = omega arith
stop_within (stop.Unread number) n = omega arith
stop_within (stop.Bad e) n = omega arith

recall_within : (r : Recall) (next : ClientValue → CbJudged) (n : ℕ) → length (next r.client).results ≤ n → length (recall_step r next).results ≤ suc n
recall_within r next n h =
    cond_both (is_ok r.status) (behind_result (cb_recall_result r.status) (next r.client)) (leaves (refused_result r.status (cb_recall_result r.status)) r.client)
    (λ (j : CbJudged). length j.results ≤ suc n) (λ ok. omega (arith, h)) (λ not_ok. omega arith)

behind_within : (ops : List (Value cb_argop4)) (s : Stop) (c : ClientValue) → length (cb_behind ops s c).results ≤ suc (length ops)
behind_within [] s c = stop_within s zero
behind_within (inl recall ∷ ops) s c = recall_within (recalls recall c) (λ d. cb_behind ops s d) (suc (length ops)) (behind_within ops s (recalls recall c).client)
behind_within (inr (inl sequence) ∷ ops) s c = omega arith
behind_within (inr (inr none) ∷ ops) s c = absurd none

repeated_within : (status : Stat4) (ops : List (Value cb_argop4)) (s : Stop) → length (cb_repeated status ops s).results ≤ suc (length ops)
repeated_within status [] s = stop_within s zero
repeated_within status (inl recall ∷ ops) s = omega arith
repeated_within status (inr (inl sequence) ∷ ops) s = omega arith
repeated_within status (inr (inr none) ∷ ops) s = absurd none

begun_within : (session : OwnSession) (number : ℕ) (begin : CbBegin) (ops : List (Value cb_argop4)) (s : Stop) (c : ClientValue)
    → length (cb_begun session number begin ops s c).results ≤ suc (suc (length ops))
begun_within session number New ops s c = omega (arith, behind_within ops s c)
begun_within session number (Again status) ops s c = omega (arith, repeated_within status ops s)
begun_within session number Misordered ops s c = omega arith

in_session_within : (tie : Tie) (sequence : Value cb_sequence4_args) (ops : List (Value cb_argop4)) (s : Stop) (c : ClientValue)
    → length (cb_in_session tie sequence ops s c).results ≤ suc (suc (length ops))
in_session_within NoClient sequence ops s c = omega arith
in_session_within (HasClient clientid number) sequence ops s c = omega arith
in_session_within (HasSession own) (session, (number, (slot, rest))) ops s c =
    cond_both (bytes_eq session own.id.0) (cond (eqb slot 0) (cb_begun own number (cb_begin own.callbacks number) ops s c) (leaves (sequence_refused stat.BadSlot) c)) (leaves (sequence_refused stat.BadSession) c)
    (λ (j : CbJudged). length j.results ≤ suc (suc (length ops)))
    (λ same. cond_both (eqb slot 0) (cb_begun own number (cb_begin own.callbacks number) ops s c) (leaves (sequence_refused stat.BadSlot) c)
    (λ (j : CbJudged). length j.results ≤ suc (suc (length ops))) (λ first. begun_within own number (cb_begin own.callbacks number) ops s c) (λ other. omega arith))
    (λ other. omega arith)

results_within : (ops : List (Value cb_argop4)) (s : Stop) (c : ClientValue) → length (cb_first ops s c).results ≤ suc (length ops)
results_within [] s c = stop_within s zero
results_within (inl recall ∷ ops) s c = omega arith
results_within (inr (inl sequence) ∷ ops) s c = in_session_within c.tie sequence ops s c
results_within (inr (inr none) ∷ ops) s c = absurd none

pub few_results : (old new : CbResultList) (end : Stat4) (d : ClientValue) (ops : OpList cb_argop4) (all : OpList cb_argop4) (c : ClientValue)
    → HasJudgedCb (cb_first ops.values ops.stop c) old new end d → old ≡ [] → ops ≡ all → length all.values ≤ 16 → length new < 4294967296
few_results old new end d ops all c h none same few =
    let there : length new ≡ length (old ++ (cb_first ops.values ops.stop c).results) = ap (λ (l : CbResultList). length l) h.results in
    let size : length new ≡ length (cb_first ops.values ops.stop c).results =
    subst (λ (l : CbResultList). length new ≡ length (l ++ (cb_first ops.values ops.stop c).results)) none there in
    let short : length ops.values ≡ length all.values = ap (λ (l : OpList cb_argop4). length l.values) same in
    omega (arith, size, results_within ops.values ops.stop c, short, few)
