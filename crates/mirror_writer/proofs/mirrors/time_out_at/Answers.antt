use Rattle.mirror_writer.specs.MirrorSteps.{late_there}
use Rattle.mirror_writer.proofs.Shown.{steps_at}
use Rattle.mirror_writer.proofs.mirrors.time_out_at.Goals as goal

pub returns : goal.returns
returns c = steps_at (λ m. late_there m m.call) c.args.mirrors.now c.args.place c.index-mirrors-place.result c.time_out.new.self c.id-id.result c.time_out.result c.requires c.id-id.ensures c.time_out.ensures
