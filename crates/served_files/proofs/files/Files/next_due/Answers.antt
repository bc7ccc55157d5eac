use Rattle.std.proofs.Common.{◌+◌, arith, length, List, Option, refl, sym, ap, subst}
use Rattle.cluster_model.specs.declared.ids.FileId.{FileId}
use Rattle.mds_rule.specs.MdsStates.{ServedFile}
use Rattle.served_files.specs.Quiet.{IsFileQuiet, AreAll, NextBut}
use Rattle.served_files.proofs.QuietLemmas.{all_from, all_before}
use Rattle.served_files.proofs.files.Files.next_due.Goals as goal

pub returns-in_err-place : goal.returns-in_err-place
returns-in_err-place c =
    let files = c.self.inside.files.items in
    subst (λ (o : Option FileId). NextBut IsFileQuiet c.args.self.now c.args.from o) (sym c.from_residual.ensures)
    (subst (λ (l : List ServedFile). AreAll IsFileQuiet l c.args.from (length l + 1)) c.self.view_is
    (all_from IsFileQuiet c.self.inside.touched.due.keys files c.args.from c.saturating_sub-first.result (length files + 1) c.saturating_sub-first.ensures c.in_err-place.ensures c.self.invariant.2))

pub returns-then-place-len : goal.returns-then-place-len
returns-then-place-len c =
    let files = c.self.inside.files.items in
    subst (λ (l : List ServedFile). AreAll IsFileQuiet l c.args.from (length l + 1)) c.self.view_is
    (all_before IsFileQuiet c.self.inside.touched.due.keys files c.args.from c.saturating_sub-first.result c.in_ok-place.place (length files + 1) c.saturating_sub-first.ensures c.in_ok-place.ensures
    (omega (arith, c.if-place-len.true, c.len.ensures)) c.self.invariant.2)

pub returns : goal.returns
returns c =
    let files = c.self.inside.files.items in
    let first = c.in_ok-place.ensures in
    let same = ap (λ (l : List ServedFile). length l) c.self.view_is in (
      omega (arith, first.behind, c.saturating_sub-first.ensures),
      omega (arith, c.if-place-len.false, c.len.ensures, same),
      subst (λ (l : List ServedFile). AreAll IsFileQuiet l c.args.from (c.in_ok-place.place + 1)) c.self.view_is
          (all_before IsFileQuiet c.self.inside.touched.due.keys files c.args.from c.saturating_sub-first.result c.in_ok-place.place (c.in_ok-place.place + 1) c.saturating_sub-first.ensures first (omega arith) c.self.invariant.2),
    )
