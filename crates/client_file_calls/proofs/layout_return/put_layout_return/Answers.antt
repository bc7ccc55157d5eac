use Rattle.std.proofs.Common.{◌≡◌, ◌<◌, ◌^◌, List, ℕ, ◌++◌, [], ◌∷◌, length, sym, ap, subst, ◌∙◌}
use Rattle.ff_xdr.specs.Arms.{arm}
use Rattle.nfs4_compound.specs.Args.{argop4}
use Rattle.client_compounds.specs.MdsArguments.{compound_args}
use Rattle.client_file_calls.specs.FileOps.{layout_return_of, return_body}
use Rattle.client_file_calls.proofs.Reports.{report_size}
use Rattle.client_file_calls.proofs.layout_return.put_layout_return.Goals as goal

pub layout_return_op-l-requires : goal.layout_return_op-l-requires
layout_return_op-l-requires c =
    let body = return_body c.args.stateid c.args.failed.now in
    let twelve : length c.args.stateid.other ≡ 12 = search in
    let is : c.bytes-body.result.now ≡ body = c.bytes-body.ensures ∙ c.in_ok-put_report.ensures ∙ ap (λ (xs : List ℕ). xs ++ body) c.new-report.ensures in
    subst (λ (xs : List ℕ). length xs < 2 ^ 32) (sym is) (report_size c.args.stateid c.args.failed.now twelve c.requires)

pub returns : goal.returns
returns c =
    let body = return_body c.args.stateid c.args.failed.now in
    let is : c.bytes-body.result.now ≡ body = c.bytes-body.ensures ∙ c.in_ok-put_report.ensures ∙ ap (λ (xs : List ℕ). xs ++ body) c.new-report.ensures in
    let last = c.layout_return_op-l.ensures.value ∙ ap (layout_return_of c.args.stateid) is in
    c.in_ok-put_ops.ensures ∙ (λ i. c.args.out.now ++ compound_args (c.sequence_op-s.ensures.value i ∷ arm 22 argop4 (c.handle_of-handle.ensures i) ∷ last i ∷ []))
