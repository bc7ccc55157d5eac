use Rattle.std.proofs.Common.{◌++◌, [], ◌∷◌, ap, ◌∙◌}
use Rattle.nfs4_compound.specs.Results.{op_res_value}
use Rattle.compound_reply.proofs.ResultLemmas.{results_more, view_more}
use Rattle.compound_reply.proofs.results.Results.push.Goals as goal

pub invariant_of-self-2 : goal.invariant_of-self-2
invariant_of-self-2 c = results_more c.self.inside.bytes c.write.new.out c.self.inside.count (op_res_value c.args.res.now) c.self.invariant c.requires.fits c.in_ok-write.ensures

pub returns-clause-pushed : goal.returns-clause-pushed
returns-clause-pushed c =
    view_more c.self.inside.bytes c.write.new.out c.self.inside.count (op_res_value c.args.res.now) c.self.invariant c.requires.fits c.in_ok-write.ensures
    ∙ ap (λ vs. vs ++ op_res_value c.args.res.now ∷ []) c.self.view_is
