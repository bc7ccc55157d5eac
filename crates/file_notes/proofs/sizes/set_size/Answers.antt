use Rattle.std.proofs.Common.{rules, ◌++◌, ◌∷◌, [], not, ap, ◌∙◌, ℕ, List}
use Rattle.std.proofs.lemmas.Fn.{filter_same}
use Rattle.cluster_model.specs.declared.ids.MirrorId.{MirrorId}
use Rattle.mds_rule.specs.MdsStates.{is_size_of}
use Rattle.file_notes.proofs.sizes.set_size.Goals as goal

pub returns : goal.returns
returns c =
    c.in_ok-push.ensures.items
    ∙ ap (λ (sizes : List (MirrorId × ℕ)). sizes ++ (c.args.id, c.args.size) ∷ []) (filter_same _ (λ s. not (is_size_of c.args.id s)) _ (λ x b f' k. search rules) _ _ c.retain.ensures.filtered)
