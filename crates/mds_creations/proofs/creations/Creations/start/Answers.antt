use Rattle.std.proofs.Common.{arith}
use Rattle.mds_creations.proofs.MakingLemmas.{started}
use Rattle.mds_creations.proofs.creations.Creations.start.Goals as goal

pub invariant_of-result : goal.invariant_of-result
invariant_of-result c =
    let over = c.loop-server-test.false in
    started c.loop-server.items.items c.args.name c.args.servers.now c.loop-server.server-index c.loop-server.invariant.items (omega (arith, over)) c.requires.some c.requires.few c.requires.apart
