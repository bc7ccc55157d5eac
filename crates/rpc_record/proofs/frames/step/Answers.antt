use Rattle.rpc_record.proofs.FrameTakes.{takes_body}
use Rattle.rpc_record.proofs.frames.step.Goals as goal

pub returns-in_ok-extend_from_slice-in-Body-clause-ok :
    goal.returns-in_ok-extend_from_slice-in-Body-clause-ok
returns-in_ok-extend_from_slice-in-Body-clause-ok c =
    takes_body c.args.gathered.now.items c.args.stage c.args.piece.now c.min-count.result c.extend_from_slice.new.self.items c.settled.result c.in-Body.headers c.in-Body.left c.in-Body.last
    c.in-Body.is c.requires.stage c.requires.some c.min-count.ensures (rw c.reserve.ensures.items at c.in_ok-extend_from_slice-in-Body.ensures.items) c.settled.ensures.front c.settled.ensures.stage c.settled.ensures.limit
