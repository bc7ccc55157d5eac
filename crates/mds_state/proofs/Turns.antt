-- Files whose periods end, one after the other.
use Rattle.std.proofs.Common.{◌≡◌, ℕ, ◌+◌, ◌<◌, ◌≤◌, List, [], ◌∷◌, length, drop, get_or, drop-cons, add-one, sym, ap, subst, ◌∙◌}
use Rattle.std.proofs.lemmas.List.{drop_all}
use Rattle.cluster_model.specs.declared.ids.FileId.{FileId}
use Rattle.cluster_model.specs.declared.outbox.Outbox.{Outbox}
use Rattle.mds_rule.specs.MdsStates.{MdsValue, MdsStep}
use Rattle.mds_rule.specs.ServedFiles.{one_by_one}
use Rattle.compound_run.specs.CompoundRuns.{HasMadeStep}
use Rattle.mds_state.proofs.StepLemmas.{stepped_then, stepped_none}

pub turn : (step : MdsValue → FileId → MdsStep) (files : List FileId) (i : ℕ) (d : FileId) (old mid new : Outbox) (m k n : MdsValue) → i < length files → HasMadeStep (step m (get_or files i d)) old k mid
    → HasMadeStep (one_by_one step (drop (i + 1) files) k) mid n new → HasMadeStep (one_by_one step (drop i files) m) old n new
turn step files i d old mid new m k n within first rest =
    subst (λ l. HasMadeStep (one_by_one step l m) old n new) (sym (drop-cons files i d within ∙ ap (λ x. get_or files i d ∷ drop x files) (sym (add-one i))))
    (stepped_then (step m (get_or files i d)) (λ x. one_by_one step (drop (i + 1) files) x) old mid new k n first rest)

pub no_turn : (step : MdsValue → FileId → MdsStep) (files : List FileId) (i : ℕ) (m : MdsValue) (out : Outbox) → length files ≤ i → HasMadeStep (one_by_one step (drop i files) m) out m out
no_turn step files i m out over = subst (λ l. HasMadeStep (one_by_one step l m) out m out) (sym (drop_all i files over)) (stepped_none m out)
