-- Recalls that expire, one after the other. Each turn takes one out, and an input may end further ones, so there are turns enough.
use Rattle.std.proofs.Common.{◌≡◌, ℕ, zero, suc, ◌<◌, ◌≤◌, Bool, true, false, not, cond, eqb, List, [], ◌∷◌, length, filter, Option, Some, None, refl, sym, ap, subst, ◌∙◌, arith}
use Rattle.std.specs.Prelude.{find, ◌&&◌}
use Rattle.std.specs.List.{list_any}
use Rattle.std.proofs.lemmas.Bool.{eq-eqb}
use Rattle.std.proofs.lemmas.List.{length-map}
use Rattle.std.proofs.lemmas.Option.{none-some}
use Rattle.cluster_model.specs.declared.ids.FileId.{FileId}
use Rattle.cluster_model.specs.declared.ids.Cred.{Cred}
use Rattle.cluster_model.specs.declared.outbox.Outbox.{Outbox}
use Rattle.cluster_model.specs.declared.entry.Entry.{Entry}
use Rattle.cluster_model.specs.declared.phase.EndCause.TheVariants.{Recalled}
use Rattle.file_rule.specs.MdsFiles.{FileStep}
use Rattle.file_rule.specs.FilePhases.{FileInput, Revokes, phase}
use Rattle.recall.specs.declared.recall.Recall.{Recall}
use Rattle.recall.specs.Recalls.{RecallsTick, is_of, is_of_file, at_tick, has_expired, without_found, told_found, after_tick, without_file}
use Rattle.mds_rule.specs.MdsStates.{ServedFile, MdsValue, sends_none, served}
use Rattle.mds_rule.specs.ServedFiles.{has_fresh, is_period_end, recalls_behind, file_stepped, input_at, takes_input}
use Rattle.mds_rule.specs.Events.{recall_expires, recalls_expire}
use Rattle.compound_run.specs.CompoundRuns.{HasMadeStep}
use Rattle.mds_state.proofs.StepLemmas.{stepped_then, stepped_none}

-- ---- an input makes no recall

fewer_left : {A : Type 0} (test : A → Bool) (xs : List A) → length (filter test xs) ≤ length xs
fewer_left test [] = omega arith
fewer_left test (x ∷ xs) = by_test (test x) (fewer_left test xs)
  where
    by_test : (b : Bool) → length (filter test xs) ≤ length xs → length (cond b (x ∷ filter test xs) (filter test xs)) ≤ suc (length xs)
    by_test true rest = omega (arith, rest)
    by_test false rest = omega (arith, rest)

behind_fewer : (m : MdsValue) (file : FileId) (entries : List Entry) → length (recalls_behind m file entries).recalls ≤ length m.recalls
behind_fewer m file entries = by_end (list_any is_period_end entries)
  where
    by_end : (b : Bool) → length (cond b (record m { recalls = without_file file m.recalls }) m).recalls ≤ length m.recalls
    by_end true = fewer_left (λ (r : Recall). not (is_of_file file r)) m.recalls
    by_end false = omega arith

input_fewer : (m : MdsValue) (file : FileId) (input : FileInput) → length (takes_input m file input).mds.recalls ≤ length m.recalls
input_fewer m file input = by_file (served m file)
  where
    by_step : (s : ServedFile) (step : FileStep) (b : Bool) → length (cond b (file_stepped m file s step) (sends_none m)).mds.recalls ≤ length m.recalls
    by_step s step true = behind_fewer _ file step.entries
    by_step s step false = omega arith

    by_file : (s : Option ServedFile) → length (input_at m file input s).mds.recalls ≤ length m.recalls
    by_file None = omega arith
    by_file (Some s) = by_step s (phase file s.file input m.fresh) (has_fresh m.fresh)

-- ---- one recall less

one_gone : {A : Type 0} (test keep : A → Bool) (r : A) (xs : List A) → keep r ≡ false → find test xs ≡ Some r → suc (length (filter keep xs)) ≤ length xs
one_gone test keep r [] gone found = absurd (none-some r found)
one_gone {A = A} test keep r (x ∷ xs) gone found = by_test (test x) found (one_gone test keep r xs gone)
  where
    by_keep : (b : Bool) → suc (length (filter keep xs)) ≤ length xs → suc (length (cond b (x ∷ filter keep xs) (filter keep xs))) ≤ suc (length xs)
    by_keep true rest = omega (arith, rest)
    by_keep false rest = omega (arith, rest)

    by_gone : (b : Bool) → b ≡ false → suc (length (cond b (x ∷ filter keep xs) (filter keep xs))) ≤ suc (length xs)
    by_gone true is = absurd cc
    by_gone false is = omega (arith, fewer_left keep xs)

    by_test : (b : Bool) → cond b (Some x) (find test xs) ≡ Some r → (find test xs ≡ Some r → suc (length (filter keep xs)) ≤ length xs)
        → suc (length (cond (keep x) (x ∷ filter keep xs) (filter keep xs))) ≤ suc (length xs)
    by_test true is rest = let same : x ≡ r = cc in by_gone (keep x) (ap keep same ∙ gone)
    by_test false is rest = by_keep (keep x) (rest is)

own_grant : (r : Recall) → not (is_of r.file r.cred r) ≡ false
own_grant r =
    let file : eqb r.file.0 r.file.0 ≡ true = eq-eqb r.file.0 r.file.0 refl in
    let cred : eqb r.cred.0 r.cred.0 ≡ true = eq-eqb r.cred.0 r.cred.0 refl in
    ap (λ b. not (b && eqb r.cred.0 r.cred.0)) file ∙ ap not cred

told_fewer : (now : ℕ) (grant : FileId × Cred) (old new : List Recall) → record { recalls = new; expired = Some grant } ≡ after_tick old now → suc (length new) ≤ length old
told_fewer now grant old new is =
    let so_many : length new ≡ length (without_found (find (has_expired now) old) old) =
    ap (λ (t : RecallsTick). length t.recalls) is ∙ length-map (without_found (find (has_expired now) old) old) at_tick in
    by_found (find (has_expired now) old) refl (ap (λ (t : RecallsTick). t.expired) is) so_many
  where
    by_found : (found : Option Recall) → find (has_expired now) old ≡ found → Some grant ≡ told_found found → length new ≡ length (without_found found old) → suc (length new) ≤ length old
    by_found None there tells so_many = absurd (none-some grant (sym tells))
    by_found (Some r) there tells so_many = omega (arith, so_many, one_gone (has_expired now) (λ (x : Recall). not (is_of r.file r.cred x)) r old (own_grant r) there)

-- ---- one turn

behind_input : (m n : MdsValue) (file : FileId) (input : FileInput) (old new : Outbox) → HasMadeStep (takes_input m file input) old n new → length n.recalls ≤ length m.recalls
behind_input m n file input old new h = subst (λ (x : MdsValue). length x.recalls ≤ length m.recalls) (sym h.mds) (input_fewer m file input)

turn : (now i : ℕ) (grant : FileId × Cred) (recalls : List Recall) (m k n : MdsValue) (old mid new : Outbox) → record { recalls = recalls; expired = Some grant } ≡ after_tick m.recalls now
    → HasMadeStep (takes_input (record m { recalls = recalls }) grant.0 (Revokes Recalled)) old k mid → HasMadeStep (recalls_expire now i k) mid n new → HasMadeStep (recalls_expire now (suc i) m) old n new
turn now i grant recalls m k n old mid new is first rest =
    subst (λ (t : RecallsTick). HasMadeStep (recall_expires (record m { recalls = t.recalls }) t.expired (recalls_expire now i)) old n new) is
    (stepped_then (takes_input (record m { recalls = recalls }) grant.0 (Revokes Recalled)) (recalls_expire now i) old mid new k n first rest)

no_turn : (now i : ℕ) (recalls : List Recall) (m : MdsValue) (out : Outbox) → record { recalls = recalls; expired = None } ≡ after_tick m.recalls now
    → HasMadeStep (recalls_expire now i m) out (record m { recalls = recalls }) out
no_turn now zero recalls m out is = subst (λ (t : RecallsTick). HasMadeStep (sends_none (record m { recalls = t.recalls })) out (record m { recalls = recalls }) out) is (stepped_none (record m { recalls = recalls }) out)
no_turn now (suc i) recalls m out is =
    subst (λ (t : RecallsTick). HasMadeStep (recall_expires (record m { recalls = t.recalls }) t.expired (recalls_expire now i)) out (record m { recalls = recalls }) out) is (stepped_none (record m { recalls = recalls }) out)

-- ---- the same of a state that is this one

-- so many turns are enough, and what they come to is what comes of all
abbrev pub ComesOn : ℕ → MdsValue → Outbox → MdsValue → Outbox → Type 0
ComesOn now m out start before =
    (k : ℕ) × (length m.recalls ≤ k) × ((n : MdsValue) (new : Outbox) → HasMadeStep (recalls_expire now k m) out n new → HasMadeStep (recalls_expire now (length start.recalls) start) before n new)

pub recall_fewer : (now : ℕ) (grant : FileId × Cred) (recalls : List Recall) (m seen k : MdsValue) (old mid : Outbox) → m ≡ seen → record { recalls = recalls; expired = Some grant } ≡ after_tick m.recalls now
    → HasMadeStep (takes_input (record m { recalls = recalls }) grant.0 (Revokes Recalled)) old k mid → length k.recalls < length seen.recalls
recall_fewer now grant recalls m seen k old mid is tells first =
    let fewer = told_fewer now grant m.recalls recalls tells in
    let left = behind_input (record m { recalls = recalls }) k grant.0 (Revokes Recalled) old mid first in
    subst (λ (x : MdsValue). length k.recalls < length x.recalls) is (omega (arith, fewer, left))

pub recall_turn : (now : ℕ) (grant : FileId × Cred) (recalls : List Recall) (m seen k start : MdsValue) (old mid before : Outbox) → m ≡ seen → record { recalls = recalls; expired = Some grant } ≡ after_tick m.recalls now
    → HasMadeStep (takes_input (record m { recalls = recalls }) grant.0 (Revokes Recalled)) old k mid → ComesOn now seen old start before → ComesOn now k mid start before
recall_turn now grant recalls m seen k start old mid before is tells first (zero, enough, goes) =
    let fewer = recall_fewer now grant recalls m seen k old mid is tells first in absurd (omega (arith, fewer, enough))
recall_turn now grant recalls m seen k start old mid before is tells first (suc i, enough, goes) =
    let fewer = recall_fewer now grant recalls m seen k old mid is tells first in (
      i,
      omega (arith, fewer, enough),
      λ n new rest. goes n new (subst (λ (x : MdsValue). HasMadeStep (recalls_expire now (suc i) x) old n new) is (turn now i grant recalls m k n old mid new tells first rest)),
    )

pub recall_none : (now : ℕ) (recalls : List Recall) (m seen start : MdsValue) (out before : Outbox) → m ≡ seen → record { recalls = recalls; expired = None } ≡ after_tick m.recalls now → ComesOn now seen out start before
    → HasMadeStep (recalls_expire now (length start.recalls) start) before (record m { recalls = recalls }) out
recall_none now recalls m seen start out before is tells goes =
    goes.2 (record m { recalls = recalls }) out
    (subst (λ (x : MdsValue). HasMadeStep (recalls_expire now goes.0 x) out (record m { recalls = recalls }) out) is (no_turn now goes.0 recalls m out tells))
