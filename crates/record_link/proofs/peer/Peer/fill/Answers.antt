use Rattle.std.proofs.Common.{Ok, ap, subst}
use Rattle.record_link.specs.Peers.{PeerState, FillsPeer}
use Rattle.record_link.proofs.peer.Peer.fill.Goals as goal

pub returns-in_ok-settle-in-Ok : goal.returns-in_ok-settle-in-Ok
returns-in_ok-settle-in-Ok g c =
    let line = c.fill.new.self in
    let inside = c.self.inside in
    let old : PeerState = record {
      number = inside.number;
      connection = inside.line.connection;
      heard = inside.heard;
      stalled = inside.stalled;
      readable = inside.readable;
      writable = inside.writable;
      lost = inside.lost;
      coming = g.S.Stream.coming inside.line.stream;
      gone = g.S.Stream.gone inside.line.stream;
      faults = g.S.Stream.faults inside.line.stream;
    } in
    let new : PeerState = record old { connection = c.settle.new.connection; heard = c.args.now; coming = g.S.Stream.coming line.stream; gone = g.S.Stream.gone line.stream; faults = g.S.Stream.faults line.stream } in
    subst (λ (e : PeerState). FillsPeer c.args.now e (Ok tt) new) c.self.view_is (
      c.in-Ok.field-0,
      line.connection,
      c.in-Ok.ensures.told,
      c.in_ok-settle-in-Ok.ensures.ok,
      (λ i. record new { gone = c.in-Ok.ensures.gone i; faults = c.in-Ok.ensures.faults i }),
    )
