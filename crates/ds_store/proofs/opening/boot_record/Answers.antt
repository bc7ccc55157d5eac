use Rattle.std.proofs.lemmas.Result.{IfOk-weaker}
use Rattle.ds_store.proofs.Booting.{boot_front, boot_short, says_boot}
use Rattle.ds_store.proofs.opening.boot_record.Goals as goal

pub framed-requires-clause-short : goal.framed-requires-clause-short
framed-requires-clause-short c = boot_short c.args.boot c.raw.new.self c.put.new.out (boot_front c.new-out.result c.raw.new.self c.new-out.ensures c.in_ok-raw.ensures) c.in_ok-put.ensures

pub returns : goal.returns
returns c =
    IfOk-weaker c.framed.result _ _
    (λ gated is. says_boot c.args.boot c.raw.new.self c.put.new.out gated c.ranges.boot.fits (boot_front c.new-out.result c.raw.new.self c.new-out.ensures c.in_ok-raw.ensures) c.in_ok-put.ensures is) c.framed.ensures
