use Rattle.std.proofs.Common.{ℕ, ◌+◌, ◌*◌, ◌/◌, List, length, ap, ◌∙◌}
use Rattle.granted_layouts.proofs.LayoutSizes.{layout_size_is}
use Rattle.granted_layouts.proofs.layout_answer.layout_size.Goals as goal

pub returns : goal.returns
returns c mirrors many =
    ap (λ (text : List ℕ). 48 + c.args.count * (56 + 2 * (4 + (length text + 3) / 4 * 4))) c.format.ensures.text
    ∙ layout_size_is c.args.cred.0 c.args.count mirrors many c.requires
