use Rattle.std.proofs.Common.{◌≡◌, List, None, map, set, length, sym, ap, subst, ◌∙◌}
use Rattle.std.specs.Prelude.{slice_get, Some}
use Rattle.std.proofs.lemmas.List.{length-map}
use Rattle.recall.specs.declared.recall.Recall.{Recall}
use Rattle.recall.specs.declared.kept_recall.KeptRecall.{KeptRecall}
use Rattle.recall.specs.Recalls.{at_stage}
use Rattle.recall.specs.Entries.{recalls_of, held_as, IsRecallTable}
use Rattle.recall.proofs.Loops.{written}
use Rattle.recall.proofs.Standing.{put_in, rest_stands}
use Rattle.recall.proofs.recalls.Recalls.rest.Goals as goal

pub invariant_of-self : goal.invariant_of-self
invariant_of-self c =
    let items = c.self.inside.entries.items in
    let r = c.args.recall in
    let at : slice_get (recalls_of items) c.args.place ≡ Some r = subst (λ (l : List Recall). slice_get l c.args.place ≡ Some r) (sym c.self.view_is) c.requires.at in
    subst (λ (l : List KeptRecall). IsRecallTable l)
    (sym (written _ _ c.hold.new.entries (ap length c.hold.ensures ∙ length-map c.as_mut_slice.result.now (held_as r.client None) ∙ c.as_mut_slice.ensures.len) ∙ c.hold.ensures ∙ ap (map (held_as r.client None)) c.as_mut_slice.ensures.value))
    (rest_stands items c.self.invariant c.args.place r at c.args.stage c.requires.over c.requires.out)

pub returns : goal.returns
returns c =
    let r = c.args.recall in
    ap recalls_of (written _ _ c.hold.new.entries (ap length c.hold.ensures ∙ length-map c.as_mut_slice.result.now (held_as r.client None) ∙ c.as_mut_slice.ensures.len) ∙ c.hold.ensures ∙ ap (map (held_as r.client None)) c.as_mut_slice.ensures.value)
    ∙ put_in r.client None c.self.inside.entries.items c.args.place (record { recall = at_stage c.args.stage r; held_by = None })
    ∙ ap (λ (l : List Recall). set l c.args.place (at_stage c.args.stage r)) c.self.view_is
