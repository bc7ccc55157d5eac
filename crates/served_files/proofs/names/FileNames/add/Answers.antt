use Rattle.std.proofs.Common.{◌≡◌, false, sym, ap, ◌∙◌, ◌∷◌, [], ◌++◌}
use Rattle.std.specs.Prelude.{None, vec_items, bytes_eq, map, position}
use Rattle.std.specs.List.{list_any}
use Rattle.std.proofs.lemmas.Bool.{cond-false}
use Rattle.served_files.proofs.NameLists.{position-map, none_there, map-push}
use Rattle.served_files.proofs.names.FileNames.add.Goals as goal

pub returns-clause-ok : goal.returns-clause-ok
returns-clause-ok c =
    let ks = c.self.inside.names.keys in
    let absent : position (bytes_eq c.args.name.now) (map vec_items ks) ≡ None = rw (c.self.view_is) c.requires.absent in
    let none : list_any (λ k. bytes_eq c.args.name.now (vec_items k)) ks ≡ false = none_there _ ks (sym (position-map (bytes_eq c.args.name.now) vec_items ks) ∙ absent) in
    let other : list_any (λ k. bytes_eq c.in_ok-name.name.items (vec_items k)) ks ≡ false = rw (c.in_ok-name.ensures.items) none in
    rw (← c.self.view_is) (ap (map vec_items) (c.in_ok-insert.ensures.keys ∙ cond-false _ _ _ other) ∙ map-push vec_items ks c.in_ok-name.name ∙ ap (λ x. map vec_items ks ++ x ∷ []) c.in_ok-name.ensures.items)
