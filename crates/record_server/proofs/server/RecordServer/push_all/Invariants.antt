use Rattle.record_server.proofs.EndLemmas.{IsPushing}
use Rattle.record_server.proofs.server.RecordServer.push_all.Given as goal

abbrev pub invariant-loop-place : goal.invariant-loop-place
invariant-loop-place g l = IsPushing l.fn.self (record {
  peers = l.self-inside.peers.items;
  given = l.self-inside.given;
  time = l.self-inside.time;
  place = l.self-inside.place;
  handed = l.self-inside.handed;
  waiting = g.N.Network.waiting l.self-inside.network;
  made = g.N.Network.made l.self-inside.network;
  reported = g.N.Network.reported l.self-inside.network;
  moment = g.N.Network.moment l.self-inside.network;
  faults = g.N.Network.faults l.self-inside.network;
}) l.time l.place
