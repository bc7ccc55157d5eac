use Rattle.std.proofs.Common.{List, refl, sym, ap, subst, ◌∙◌}
use Rattle.std.specs.Prelude.{insert}
use Rattle.recall.specs.declared.recall.Recall.{Recall}
use Rattle.recall.specs.declared.kept_recall.KeptRecall.{KeptRecall}
use Rattle.recall.specs.Recalls.{new_recall, with_recall}
use Rattle.recall.specs.Entries.{recalls_of, IsRecallTable}
use Rattle.recall.proofs.Inserted.{inserted}
use Rattle.recall.proofs.Standing.{asked_stands}
use Rattle.recall.proofs.Asked.{is_known, holder_is, place_is, was_ok}
use Rattle.recall.proofs.recalls.Recalls.ask.Goals as goal

pub returns-then-is_under_way : goal.returns-then-is_under_way
returns-then-is_under_way c =
    (is_known c.args.file c.args.cred c.self.inside.entries.items c.args.self.now _ c.self.view_is c.as_slice.ensures.value ∙ sym c.is_under_way.ensures ∙ c.if-is_under_way.true, refl)

pub invariant_of-self-2 : goal.invariant_of-self-2
invariant_of-self-2 c =
    let items = c.self.inside.entries.items in
    let r : Recall = new_recall c.args.file c.args.cred c.args.client c.args.now in
    let e : KeptRecall = record { recall = r; held_by = c.holder-held_by.result } in
    let held = holder_is c.args.client items _ c.holder-held_by.result c.as_slice-2.ensures.value c.holder-held_by.ensures in
    let place = place_is r items _ c.place_for-place.result c.as_slice-3.ensures.value c.place_for-place.ensures.exact in
    subst (λ (l : List KeptRecall). IsRecallTable l) (sym (was_ok c.insert.result c.in_default.not-Err c.insert.ensures.ok ∙ ap (λ k. insert items k e) place))
    (asked_stands e items c.self.invariant refl held)

pub returns : goal.returns
returns c =
    let items = c.self.inside.entries.items in
    let r : Recall = new_recall c.args.file c.args.cred c.args.client c.args.now in
    let e : KeptRecall = record { recall = r; held_by = c.holder-held_by.result } in
    let place = place_is r items _ c.place_for-place.result c.as_slice-3.ensures.value c.place_for-place.ensures.exact in (
      is_known c.args.file c.args.cred items c.args.self.now _ c.self.view_is c.as_slice.ensures.value ∙ sym c.is_under_way.ensures ∙ c.if-is_under_way.false,
      ap recalls_of (was_ok c.insert.result c.in_default.not-Err c.insert.ensures.ok ∙ ap (λ k. insert items k e) place) ∙ inserted e items ∙ ap (with_recall r) c.self.view_is,
    )
