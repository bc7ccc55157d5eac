use Rattle.cluster_model.specs.DsCalls.{plain_ds_reply}
use Rattle.mirror_writer.specs.MirrorSteps.{answered_there}
use Rattle.mirror_writer.proofs.Shown.{steps_at}
use Rattle.mirror_writer.proofs.mirrors.answer_at.Goals as goal

pub returns : goal.returns
returns c = steps_at (λ m. answered_there m (plain_ds_reply c.args.reply.now) m.call) c.args.mirrors.now c.args.place c.index-mirrors-place.result c.answer.new.self c.id-id.result c.answer.result c.requires c.id-id.ensures c.answer.ensures
