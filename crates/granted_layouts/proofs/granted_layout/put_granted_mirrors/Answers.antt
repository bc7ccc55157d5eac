use Rattle.std.proofs.Common.{sym, ◌∙◌}
use Rattle.granted_layouts.proofs.Bodies.{mirrors_more}
use Rattle.granted_layouts.proofs.granted_layout.put_granted_mirrors.Goals as goal

pub loop-place-preserved : goal.loop-place-preserved
loop-place-preserved c =
    mirrors_more c.args.cred.0 c.loop-place.place c.args.mirrors c.in-Some.mirror c.args.out.now c.loop-place.out c.put_granted_mirror.new.out (sym c.get.ensures ∙ c.in-Some.is) c.loop-place.invariant c.in_ok-put_granted_mirror.ensures
