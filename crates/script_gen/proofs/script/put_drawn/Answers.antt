use Rattle.std.proofs.Common.{◌≡◌, ◌+◌, ◌-◌, suc, sym, ap, ◌∙◌, ◌++◌, arith}
use Rattle.std.proofs.lemmas.List.{append_assoc, append-nil}
use Rattle.script_gen.specs.Generated.{line_text, drawn_text}
use Rattle.script_gen.specs.DrawnValue.{drawn_value}
use Rattle.script_gen.proofs.DrawLemmas.{no_text, text_on}
use Rattle.script_gen.proofs.script.put_drawn.Goals as goal

pub loop-preserved : goal.loop-preserved
loop-preserved c =
    let invariant = c.loop.invariant in
    let line = line_text (drawn_value c.line.result) in
    let left : c.args.count - c.loop.counter ≡ suc (c.args.count - (c.loop.counter + 1)) = omega arith in
    let next = text_on (c.args.count - c.loop.counter) (c.args.count - (c.loop.counter + 1)) c.loop.draws c.line.new.self (drawn_value c.line.result) left c.line.ensures.drawn c.line.ensures.on in (
      invariant.0 ++ line,
      c.in_ok-put_line.ensures ∙ ap (λ t. t ++ line) invariant.1 ∙ append_assoc c.args.out.now invariant.0 line,
      append_assoc invariant.0 line (drawn_text (c.args.count - (c.loop.counter + 1)) c.line.new.self) ∙ ap (λ t. invariant.0 ++ t) (sym next) ∙ invariant.2,
    )

pub returns : goal.returns
returns c =
    let invariant = c.loop.invariant in
    let none : c.args.count - c.loop.counter ≡ 0 = omega arith in
    let all = sym (append-nil invariant.0) ∙ ap (λ t. invariant.0 ++ t) (sym (ap (λ n. drawn_text n c.loop.draws) none ∙ no_text c.loop.draws)) ∙ invariant.2 in
    invariant.1 ∙ ap (λ t. c.args.out.now ++ t) all
