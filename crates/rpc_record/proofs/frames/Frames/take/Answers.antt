use Rattle.std.proofs.Common.{◌≡◌, ◌∙◌, List, ℕ, [], ap, sym, Vec, Global}
use Rattle.rpc_record.specs.declared.frames.Stage.{Stage}
use Rattle.rpc_record.specs.Frames.{Whole, front_of}
use Rattle.rpc_record.specs.FramesView.{front_at}
use Rattle.rpc_record.proofs.FrameCalls.{front_start, given_taken}
use Rattle.rpc_record.proofs.frames.Frames.take.Goals as goal

was_whole : (c : goal.After-replace) → c.args.self.now ≡ Whole c.replace.result.items []
was_whole c =
    sym c.self.view_is
    ∙ ap (λ (s : Stage). front_at c.self.inside.gathered.items s) c.in-Whole.is
    ∙ ap (λ (v : Vec ℕ Global). Whole v.items []) (sym c.replace.ensures.value)

is_fresh : (c : goal.After-replace) → front_at c.replace.new.dest.items c.at_header-self-inside.result ≡ front_of []
is_fresh c =
    ap (λ (v : Vec ℕ Global). front_at v.items c.at_header-self-inside.result) c.replace.ensures.after
    ∙ ap (λ (g : List ℕ). front_at g c.at_header-self-inside.result) c.new-empty.ensures.items
    ∙ c.at_header-self-inside.ensures.front []
    ∙ sym front_start

pub returns-in-Whole-clause-told : goal.returns-in-Whole-clause-told
returns-in-Whole-clause-told c = (was_whole c, is_fresh c)

pub returns-in-Whole-clause-goes_on : goal.returns-in-Whole-clause-goes_on
returns-in-Whole-clause-goes_on c stream messages given =
    given_taken stream messages c.args.self.now c.replace.result.items (front_at c.replace.new.dest.items c.at_header-self-inside.result) given (was_whole c) (is_fresh c)
