-- Steps of numbers that follow one another, one after the other.
use Rattle.std.proofs.Common.{◌≡◌, ℕ, suc, ◌+◌, List, [], ◌∷◌, Result, Ok, Err, OnOk, sym, subst}
use Rattle.std.specs.List.{range_with_len}
use Rattle.ff_xdr.specs.declared.error.NoMemory.{NoMemory}
use Rattle.cluster_model.specs.declared.outbox.Outbox.{Outbox}
use Rattle.mds_rule.specs.MdsStates.{MdsValue, MdsStep, and_then}
use Rattle.mds_rule.specs.Goes.{each}
use Rattle.compound_run.specs.CompoundRuns.{HasMadeStep}
use Rattle.mds_state.proofs.StepLemmas.{stepped_then, stepped_none}

-- so many numbers from one on are this one and those behind it
pub each_turn : (step : ℕ → MdsValue → MdsStep) (i len left : ℕ) (old mid new : Outbox) (m k n : MdsValue) → len ≡ suc left → HasMadeStep (step i m) old k mid
    → HasMadeStep (each step (range_with_len (i + 1) left) k) mid n new → HasMadeStep (each step (range_with_len i len) m) old n new
each_turn step i len left old mid new m k n more first rest =
    subst (λ (l : ℕ). HasMadeStep (each step (range_with_len i l) m) old n new) (sym more) (stepped_then (step i m) (λ x. each step (range_with_len (i + 1) left) x) old mid new k n first rest)

pub each_none : (step : ℕ → MdsValue → MdsStep) (i len : ℕ) (m : MdsValue) (out : Outbox) → len ≡ 0 → HasMadeStep (each step (range_with_len i len) m) out m out
each_none step i len m out none = subst (λ (l : ℕ). HasMadeStep (each step (range_with_len i l) m) out m out) (sym none) (stepped_none m out)

each_then : (step : ℕ → MdsValue → MdsStep) (a : ℕ) (list : List ℕ) (old mid new : Outbox) (m k n : MdsValue) → HasMadeStep (step a m) old k mid → HasMadeStep (each step list k) mid n new
    → HasMadeStep (each step (a ∷ list) m) old n new
each_then step a list old mid new m k n first rest = stepped_then (step a m) (λ x. each step list x) old mid new k n first rest

-- five, of which the last one is done or fails
pub five_turns : (step : ℕ → MdsValue → MdsStep) (a b c d e f : Outbox) (k l m n o p : MdsValue) (result : Result (Unit {0}) NoMemory) → HasMadeStep (step 0 k) a l b → HasMadeStep (step 1 l) b m c
    → HasMadeStep (step 2 m) c n d → HasMadeStep (step 3 n) d o e → OnOk result (HasMadeStep (step 4 o) e p f) → OnOk result (HasMadeStep (each step (0 ∷ 1 ∷ 2 ∷ 3 ∷ 4 ∷ []) k) a p f)
five_turns step a b c d e f k l m n o p (Err fault) h0 h1 h2 h3 h4 = tt
five_turns step a b c d e f k l m n o p (Ok done) h0 h1 h2 h3 h4 =
    each_then step 0 (1 ∷ 2 ∷ 3 ∷ 4 ∷ []) a b f k l p h0
    (each_then step 1 (2 ∷ 3 ∷ 4 ∷ []) b c f l m p h1 (each_then step 2 (3 ∷ 4 ∷ []) c d f m n p h2 (each_then step 3 (4 ∷ []) d e f n o p h3 (each_then step 4 [] e f f o p p h4 (stepped_none p f)))))

-- three steps
pub three_steps : (s : MdsStep) (second third : MdsValue → MdsStep) (a b c d : Outbox) (m n k : MdsValue) → HasMadeStep s a m b → HasMadeStep (second m) b n c → HasMadeStep (third n) c k d
    → HasMadeStep (and_then (and_then s second) third) a k d
three_steps s second third a b c d m n k h0 h1 h2 = stepped_then (and_then s second) third a c d n k (stepped_then s second a b c m n h0 h1) h2
