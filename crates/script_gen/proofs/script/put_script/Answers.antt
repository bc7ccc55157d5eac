use Rattle.script_gen.proofs.DrawLemmas.{closes}
use Rattle.script_gen.proofs.script.put_script.Goals as goal

pub returns : goal.returns
returns c =
    closes c.args.seed c.new.result c.args.out.now c.raw.new.self c.put_drawn.new.out c.raw-2.new.self c.raw-2.result c.new.ensures c.in_ok-raw.ensures c.in_ok-put_drawn.ensures c.raw-2.ensures
