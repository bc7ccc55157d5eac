use Rattle.std.proofs.Common.{ℕ, inr, refl, subst}
use Rattle.record_server.specs.Server.{ExcusesCall}
use Rattle.node_link.proofs.network_link.NodeLinkLink.excuse.Goals as goal

pub returns-clause-excuses : goal.returns-clause-excuses
returns-clause-excuses g c = rw (← c.self.view_is) (inr (c.in-Some.server, c.excuse.new.self, c.in-Some.is, refl, subst (λ (number : ℕ). ExcusesCall number c.in-Some.server c.excuse.new.self) c.get.ensures c.excuse.ensures))
