use Rattle.std.proofs.Common.{◌≡◌, ◌≤◌, length, true, sym, ap, subst, ◌∙◌}
use Rattle.std.specs.List.{list_all, flat_map}
use Rattle.std.specs.Option.{option_to_list}
use Rattle.cluster_model.specs.Fences.{is_over}
use Rattle.file_rule.specs.MdsFiles.{Creations}
use Rattle.mds_creations.proofs.MakingLemmas.{all_over, made_some, made_none}
use Rattle.mds_creations.proofs.creations.Creations.made.Goals as goal

pub returns-in-Some-clause-some : goal.returns-in-Some-clause-some
returns-in-Some-clause-some c =
    let items = c.self.inside.items.items in
    let over = subst (λ (v : Creations). list_all (λ x. is_over x.stage) v.items ≡ true) (sym c.self.view_is) c.requires.done in
    let made = c.as_slice-2.ensures.value ∙ c.made_of.ensures ∙ ap (flat_map (λ x. option_to_list x.made)) c.as_slice.ensures.value in
    subst (λ l. 1 ≤ length l) (sym (made_some items c.as_slice-2.result.now c.in-Some.live c.of.result c.self.invariant over made c.of.ensures c.in-Some.is)) (all_over items c.self.invariant over).some

pub returns-in-Some-clause-few : goal.returns-in-Some-clause-few
returns-in-Some-clause-few c =
    let items = c.self.inside.items.items in
    let over = subst (λ (v : Creations). list_all (λ x. is_over x.stage) v.items ≡ true) (sym c.self.view_is) c.requires.done in
    let made = c.as_slice-2.ensures.value ∙ c.made_of.ensures ∙ ap (flat_map (λ x. option_to_list x.made)) c.as_slice.ensures.value in
    rw (← c.self.view_is) (subst (λ l. length l ≤ length items) (sym (made_some items c.as_slice-2.result.now c.in-Some.live c.of.result c.self.invariant over made c.of.ensures c.in-Some.is)) (all_over items c.self.invariant over).few)

pub returns-in-None-clause-made : goal.returns-in-None-clause-made
returns-in-None-clause-made c =
    let items = c.self.inside.items.items in
    let over = subst (λ (v : Creations). list_all (λ x. is_over x.stage) v.items ≡ true) (sym c.self.view_is) c.requires.done in
    let made = c.as_slice-2.ensures.value ∙ c.made_of.ensures ∙ ap (flat_map (λ x. option_to_list x.made)) c.as_slice.ensures.value in
    absurd (made_none items c.as_slice-2.result.now c.of.result c.self.invariant over made c.of.ensures c.in-None.is)

pub returns-in-None-clause-some : goal.returns-in-None-clause-some
returns-in-None-clause-some c =
    let items = c.self.inside.items.items in
    let over = subst (λ (v : Creations). list_all (λ x. is_over x.stage) v.items ≡ true) (sym c.self.view_is) c.requires.done in
    let made = c.as_slice-2.ensures.value ∙ c.made_of.ensures ∙ ap (flat_map (λ x. option_to_list x.made)) c.as_slice.ensures.value in
    absurd (made_none items c.as_slice-2.result.now c.of.result c.self.invariant over made c.of.ensures c.in-None.is)
