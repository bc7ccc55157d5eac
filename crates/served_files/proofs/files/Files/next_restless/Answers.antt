use Rattle.std.proofs.Common.{◌+◌, arith, length, List, Option, refl, sym, ap, subst}
use Rattle.cluster_model.specs.declared.ids.FileId.{FileId}
use Rattle.mds_rule.specs.MdsStates.{ServedFile}
use Rattle.served_files.specs.Quiet.{IsFileStill, AreAll, NextBut}
use Rattle.served_files.proofs.QuietLemmas.{all_from, all_before}
use Rattle.served_files.proofs.files.Files.next_restless.Goals as goal

pub returns-in_err-place-clause-next : goal.returns-in_err-place-clause-next
returns-in_err-place-clause-next c =
    let files = c.self.inside.files.items in
    subst (λ (o : Option FileId). NextBut IsFileStill c.args.self.now c.args.from o) (sym c.from_residual.ensures)
    (subst (λ (l : List ServedFile). AreAll IsFileStill l c.args.from (length l + 1)) c.self.view_is
    (all_from IsFileStill c.self.inside.touched.restless.keys files c.args.from c.saturating_sub-first.result (length files + 1) c.saturating_sub-first.ensures c.in_err-place.ensures c.self.invariant.3))

pub returns-then-place-len-clause-next : goal.returns-then-place-len-clause-next
returns-then-place-len-clause-next c =
    let files = c.self.inside.files.items in
    subst (λ (l : List ServedFile). AreAll IsFileStill l c.args.from (length l + 1)) c.self.view_is
    (all_before IsFileStill c.self.inside.touched.restless.keys files c.args.from c.saturating_sub-first.result c.in_ok-place.place (length files + 1) c.saturating_sub-first.ensures c.in_ok-place.ensures
    (omega (arith, c.if-place-len.true, c.len.ensures)) c.self.invariant.3)

pub returns-clause-next : goal.returns-clause-next
returns-clause-next c =
    let files = c.self.inside.files.items in
    let first = c.in_ok-place.ensures in
    let same = ap (λ (l : List ServedFile). length l) c.self.view_is in (
      omega (arith, first.behind, c.saturating_sub-first.ensures),
      omega (arith, c.if-place-len.false, c.len.ensures, same),
      subst (λ (l : List ServedFile). AreAll IsFileStill l c.args.from (c.in_ok-place.place + 1)) c.self.view_is
          (all_before IsFileStill c.self.inside.touched.restless.keys files c.args.from c.saturating_sub-first.result c.in_ok-place.place (c.in_ok-place.place + 1) c.saturating_sub-first.ensures first (omega arith) c.self.invariant.3),
    )
