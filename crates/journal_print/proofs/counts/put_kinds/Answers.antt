use Rattle.std.proofs.Common.{◌≡◌, ◌∙◌, ap, sym, ◌++◌, length, arith, append-nil, append_assoc, take, length-append, ◌∷◌, [], ◌+◌, rules}
use Rattle.std.specs.Slice.Iter.{iter_rest}
use Rattle.std.specs.Iterator.Adapters.{zip_first, zip_second}
use Rattle.std.proofs.lemmas.Slice.Zip.{zip_turn, zip_end}
use Rattle.journal_print.specs.Counts.{kind_line, kind_lines}
use Rattle.journal_print.proofs.CountLemmas.{texts, no_lines, lines_more, lines_all}
use Rattle.journal_print.proofs.counts.put_kinds.Goals as goal

pub loop-word-init : goal.loop-word-init
loop-word-init c = sym (append-nil c.args.out.now) ∙ ap (λ t. c.args.out.now ++ t) (sym no_lines)

pub loop-word-preserved : goal.loop-word-preserved
loop-word-preserved c =
    let first : iter_rest (zip_first c.into_iter-word-iterator.result) ≡ c.args.words.now = search rules in
    let second : iter_rest (zip_second c.into_iter-word-iterator.result) ≡ c.args.counts.now = search rules in
    let turn = zip_turn c.args.words.now c.args.counts.now c.loop-word.yielded c.into_iter-word-iterator.result c.loop-word.word-iterator c.next.new.self c.next.result first second c.loop-word.yielded_by (c.in-Some.word, c.in-Some.count) c.in-Some.is c.next.ensures.steps in
    let more = lines_more c.args.words.now c.args.counts.now (length c.loop-word.yielded) c.in-Some.word.now c.in-Some.count.now turn.0 turn.1 (turn.2 c.in-Some.word.now) (turn.3 c.in-Some.count.now) in
    let longer : length (c.loop-word.yielded ++ (c.in-Some.word, c.in-Some.count) ∷ []) ≡ length c.loop-word.yielded + 1 = length-append c.loop-word.yielded _ in
    c.in_ok-put_kind.ensures
    ∙ ap (λ t. t ++ kind_line c.in-Some.word.now.now c.in-Some.count.now) c.loop-word.invariant
    ∙ append_assoc c.args.out.now _ _
    ∙ ap (λ t. c.args.out.now ++ t) (sym more ∙ ap (λ k. kind_lines (texts (take k c.args.words.now)) (take k c.args.counts.now)) (sym longer))

pub returns : goal.returns
returns c =
    let first : iter_rest (zip_first c.into_iter-word-iterator.result) ≡ c.args.words.now = search rules in
    let second : iter_rest (zip_second c.into_iter-word-iterator.result) ≡ c.args.counts.now = search rules in
    let last = zip_end c.args.words.now c.args.counts.now c.loop-word.yielded c.into_iter-word-iterator.result c.loop-word.word-iterator c.next.new.self c.next.result first second c.loop-word.yielded_by c.in-None.is c.next.ensures.steps in
    c.loop-word.invariant ∙ ap (λ t. c.args.out.now ++ t) (lines_all c.args.words.now c.args.counts.now (length c.loop-word.yielded) (omega (arith, last)))
