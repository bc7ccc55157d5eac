use Rattle.mirror_writer.specs.Writers.{with_out}
use Rattle.mirror_writer.proofs.Shown.{sets_at}
use Rattle.mirror_writer.proofs.mirrors.send_at.Goals as goal

pub returns : goal.returns
returns c = sets_at (with_out c.args.xid c.args.next) c.args.mirrors.now c.args.place c.index-mirrors-place.result c.send.new.self c.requires.within c.send.ensures
