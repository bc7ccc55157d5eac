use Rattle.std.proofs.Common.{◌++◌, ◌∷◌, [], ap, sym, ◌∙◌}
use Rattle.cluster_model.proofs.MirrorLists.{one_more}
use Rattle.cluster_model.proofs.mirrors.Mirrors.add.Goals as goal

pub invariant_of-self : goal.invariant_of-self
invariant_of-self c =
    (one_more c.self.inside.items c.args.mirror c.filled-len.result c.self.invariant c.filled-len.ensures c.if-len-eq4.false (sym c.has_server.ensures ∙ c.if-has_server.false)).kept

pub returns-clause-list : goal.returns-clause-list
returns-clause-list c =
    (one_more c.self.inside.items c.args.mirror c.filled-len.result c.self.invariant c.filled-len.ensures c.if-len-eq4.false (sym c.has_server.ensures ∙ c.if-has_server.false)).list
    ∙ ap (λ ms. ms ++ c.args.mirror ∷ []) c.self.view_is
