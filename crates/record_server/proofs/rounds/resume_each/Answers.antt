use Rattle.std.proofs.Common.{◌∙◌, arith, ap, sym, set}
use Rattle.std.proofs.lemmas.List.Edits.{map_over_more}
use Rattle.record_link.specs.Peers.{PeerState, resumed}
use Rattle.record_server.proofs.rounds.resume_each.Goals as goal

pub loop-peer-preserved : goal.loop-peer-preserved
loop-peer-preserved g c =
    let l = c.loop-peer in
    ap (λ (y : PeerState). set l.peer-items l.peer-index y) (c.resume.ensures ∙ ap resumed (sym c.peer-item.is))
    ∙ map_over_more resumed c.args.peers.now l.peer-items l.peer-index c.peer-item.result (omega (arith, c.loop-peer-test.true)) l.invariant c.peer-item.is
