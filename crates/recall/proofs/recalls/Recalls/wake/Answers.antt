use Rattle.std.proofs.Common.{List, map, length, sym, ap, subst, ◌∙◌}
use Rattle.std.proofs.lemmas.List.{length-map}
use Rattle.recall.specs.declared.kept_recall.KeptRecall.{KeptRecall}
use Rattle.recall.specs.Recalls.{at_tick}
use Rattle.recall.specs.Entries.{recalls_of, ticked, IsRecallTable}
use Rattle.recall.proofs.Loops.{written}
use Rattle.recall.proofs.Standing.{ticked_in, ticked_stands}
use Rattle.recall.proofs.recalls.Recalls.wake.Goals as goal

pub invariant_of-self : goal.invariant_of-self
invariant_of-self c =
    let items = c.self.inside.entries.items in
    subst (λ (l : List KeptRecall). IsRecallTable l)
    (sym (written _ _ c.tick_all.new.entries (ap length c.tick_all.ensures ∙ length-map c.as_mut_slice.result.now ticked ∙ c.as_mut_slice.ensures.len) ∙ c.tick_all.ensures ∙ ap (map ticked) c.as_mut_slice.ensures.value))
    (ticked_stands items c.self.invariant)

pub returns : goal.returns
returns c =
    ap recalls_of (written _ _ c.tick_all.new.entries (ap length c.tick_all.ensures ∙ length-map c.as_mut_slice.result.now ticked ∙ c.as_mut_slice.ensures.len) ∙ c.tick_all.ensures ∙ ap (map ticked) c.as_mut_slice.ensures.value)
    ∙ ticked_in c.self.inside.entries.items ∙ ap (map at_tick) c.self.view_is
