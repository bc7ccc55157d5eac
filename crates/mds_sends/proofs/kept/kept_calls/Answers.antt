use Rattle.std.proofs.Common.{◌+◌, ◌++◌, List, Option, Some, None, length, sym, ap, subst, ◌∙◌, append-nil, arith}
use Rattle.std.proofs.lemmas.List.{append_assoc}
use Rattle.cluster_model.specs.declared.ids.FileId.{FileId}
use Rattle.mds_rule.specs.MdsStates.{ServedFile, MdsValue}
use Rattle.mds_rule.specs.Events.{kept_call_of}
use Rattle.mds_rule.specs.MdsStates.{served_in}
use Rattle.served_files.specs.Quiet.{NextRestless}
use Rattle.mds_sends.specs.declared.kept.NumberedCall.{NumberedCall}
use Rattle.mds_sends.specs.Kept.{kept_as}
use Rattle.mds_sends.proofs.GoesKept.{left_from, left_at, left_none}
use Rattle.mds_sends.proofs.kept.kept_calls.Goals as goal

pub loop-file-preserved : goal.loop-file-preserved
loop-file-preserved c =
    let files : List ServedFile = c.args.state.now.files in
    let seen = ap (λ (m : MdsValue). m.files) c.state.view_is in
    let file = c.in-Some.file in
    let from = c.loop-file.from in
    let next = subst (λ (l : List ServedFile). NextRestless l from (Some file)) seen c.in-Some.ensures.next in
    let before = c.loop-file.kept.items in
    let own = kept_as file.0 (kept_call_of (served_in files file)) in (
      omega arith,
      ap (λ (l : List NumberedCall). l ++ left_from files (file.0 + 1)) c.in_ok-note_kept.ensures ∙ append_assoc before own (left_from files (file.0 + 1))
          ∙ ap (λ (l : List NumberedCall). before ++ l) (sym (left_at files from file c.loop-file.invariant.0 next.0 next.2)) ∙ c.loop-file.invariant.1,
    )

pub loop-file-smaller : goal.loop-file-smaller
loop-file-smaller c =
    let seen = ap (λ (m : MdsValue). length m.files) c.state.view_is in
    omega (arith, c.in-Some.ensures.next.0, c.in-Some.ensures.next.1, seen)

pub returns : goal.returns
returns c =
    let files : List ServedFile = c.args.state.now.files in
    let seen = ap (λ (m : MdsValue). m.files) c.state.view_is in
    let from = c.loop-file.from in
    let still = subst (λ (l : List ServedFile). NextRestless l from None) seen (subst (λ (o : Option FileId). NextRestless c.state.inside.files from o) c.in_default.is c.next_restless.ensures.next) in
    sym (append-nil c.loop-file.kept.items) ∙ ap (λ (l : List NumberedCall). c.loop-file.kept.items ++ l) (sym (left_none files from c.loop-file.invariant.0 still)) ∙ c.loop-file.invariant.1
