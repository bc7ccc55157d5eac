use Rattle.std.proofs.Common.{◌≡◌, ◌≢◌, None, sym, ap, subst}
use Rattle.ff_replay.specs.declared.world.World.TheVariants.{Bare}
use Rattle.ff_replay.specs.Player.{spent_by}
use Rattle.ff_replay.proofs.world.World.play_event.Goals as goal

pub returns-in-Bare-event-clause-spent : goal.returns-in-Bare-event-clause-spent
returns-in-Bare-event-clause-spent c = subst (λ s. spent_by s ≢ None → Bare c.happen.new.world ≡ s) (sym c.in-Bare.is) (λ some. ap Bare (c.happen.ensures.spent some))
