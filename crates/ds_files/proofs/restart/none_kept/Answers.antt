use Rattle.std.proofs.Common.{◌≡◌, length, replicate, Option, None, arith, ap, ◌∙◌}
use Rattle.cluster_model.specs.Content.{Content}
use Rattle.ds_files.proofs.Keeping.{none_bounded, none_kept}
use Rattle.ds_files.proofs.restart.none_kept.Goals as goal

pub returns-clause-bounded : goal.returns-clause-bounded
returns-clause-bounded c =
    let all : c.loop.index ≡ length c.args.files.now = omega (arith, c.loop.auto.index-end, c.loop-test.false) in
    none_bounded c.args.files.now c.loop.kept.items (c.loop.invariant ∙ ap (λ n. replicate {A = Option Content} n None) all)

pub returns-clause-kept : goal.returns-clause-kept
returns-clause-kept c =
    let all : c.loop.index ≡ length c.args.files.now = omega (arith, c.loop.auto.index-end, c.loop-test.false) in
    none_kept c.args.files.now c.loop.kept.items (c.loop.invariant ∙ ap (λ n. replicate {A = Option Content} n None) all)
