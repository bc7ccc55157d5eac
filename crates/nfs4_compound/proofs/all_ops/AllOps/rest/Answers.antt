use Rattle.std.proofs.Common.{◌≡◌, None, sym, subst}
use Rattle.nfs4_compound.specs.AllOps.{nfs_argop4}
use Rattle.nfs4_compound.specs.Operations.{rest_now}
use Rattle.nfs4_compound.proofs.Steps.{rest_before}
use Rattle.nfs4_compound.proofs.all_ops.AllOps.rest.Goals as goal

pub returns-then-self-gt0 : goal.returns-then-self-gt0
returns-then-self-gt0 c =
    let o = c.self.inside in
    sym (subst (λ v. rest_now v.values v.stop ≡ None) c.self.view_is (rest_before nfs_argop4 o.left o.bytes.now o.at c.if-self-gt0.true))
