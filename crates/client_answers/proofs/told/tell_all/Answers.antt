use Rattle.std.proofs.Common.{◌+◌, ◌<◌, ◌≤◌, length, subst, ◌++◌, drop, get_or, sym, ap, ◌∙◌, append_assoc, append-nil}
use Rattle.std.specs.Prelude.{slice_get}
use Rattle.std.proofs.lemmas.List.{drop_all}
use Rattle.client_answers.specs.ClientMirrors.{told_entry, told_entries}
use Rattle.client_answers.proofs.OverAnswers.{told_here}
use Rattle.client_answers.proofs.told.tell_all.Goals as goal

pub loop-number-preserved : goal.loop-number-preserved
loop-number-preserved c =
    let file = c.args.file in
    let w = c.args.writer.now in
    let ns = c.args.numbers.now in
    let i = c.loop-number.number-index in
    let told = told_entry file w.cred (slice_get w.taken (get_or c.numbers-number-items.result.now i 0)) in
    let rest = told_entries file w (drop (i + 1) ns) in
    let within : i < length ns = subst (λ xs. i < length xs) c.numbers-number-items.ensures c.loop-number-test.true in (
      ap (λ e. e ++ rest) c.in_ok-tell.ensures.0 ∙ append_assoc c.loop-number.out.entries.items told rest
          ∙ ap (λ e. c.loop-number.out.entries.items ++ e) (sym (told_here file w ns i 0 within ∙ ap (λ xs. told_entry file w.cred (slice_get w.taken (get_or xs i 0)) ++ rest) (sym c.numbers-number-items.ensures))) ∙ c.loop-number.invariant.0,
      c.in_ok-tell.ensures.1 ∙ c.loop-number.invariant.1,
    )

pub returns : goal.returns
returns c =
    let w = c.args.writer.now in
    let e = c.loop-number.out.entries.items in
    let past : length c.args.numbers.now ≤ c.loop-number.number-index = subst (λ xs. length xs ≤ c.loop-number.number-index) c.numbers-number-items.ensures c.loop-number-test.false in (
      sym (append-nil e) ∙ ap (λ ns. e ++ told_entries c.args.file w ns) (sym (drop_all c.loop-number.number-index c.args.numbers.now past)) ∙ c.loop-number.invariant.0,
      c.loop-number.invariant.1,
    )
