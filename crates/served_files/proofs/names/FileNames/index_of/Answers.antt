use Rattle.std.proofs.Common.{sym, ◌∙◌}
use Rattle.std.specs.Prelude.{vec_items, bytes_eq}
use Rattle.served_files.proofs.NameLists.{position-map}
use Rattle.served_files.proofs.names.FileNames.index_of.Goals as goal

pub returns-clause-exact : goal.returns-clause-exact
returns-clause-exact c = rw (← c.self.view_is) (c.get_index_of.ensures.index ∙ sym (position-map (bytes_eq c.args.name.now) vec_items c.self.inside.names.keys))
