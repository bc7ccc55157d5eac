use Rattle.std.proofs.Common.{[], ◌∷◌}
use Rattle.std.proofs.lemmas.Result.{IfOk-weaker}
use Rattle.ds_log.specs.Bodies.{Logged, HoldsBytes}
use Rattle.ds_changes.specs.HeldRanges.{plain_held}
use Rattle.ds_snapshot.proofs.Written.{framed_body, framed_short, framed_text, range_fits, range_short}
use Rattle.ds_snapshot.proofs.chunk.range_held.Goals as goal

pub framed-requires-clause-short : goal.framed-requires-clause-short
framed-requires-clause-short c =
    let a = c.args in
    let w = plain_held a.range in
    let body : Logged = HoldsBytes a.fileid a.times.mtime a.times.ctime (w ∷ []) in
    framed_short body c.in_ok-out.out c.put_held.new.out (range_short a.fileid a.times w c.requires.few) c.in_ok-out.ensures.1 c.in_ok-put_held.ensures

pub returns-clause-read : goal.returns-clause-read
returns-clause-read c =
    let a = c.args in
    let w = plain_held a.range in
    let body : Logged = HoldsBytes a.fileid a.times.mtime a.times.ctime (w ∷ []) in
    let fits = range_fits a.fileid a.times w c.requires.few c.ranges.fileid.fits c.requires.times in
    IfOk-weaker c.framed.result _ _ (λ gated is. framed_body body c.in_ok-out.out c.put_held.new.out gated fits c.in_ok-out.ensures.0 c.in_ok-put_held.ensures is) c.framed.ensures

pub returns-clause-text : goal.returns-clause-text
returns-clause-text c =
    let a = c.args in
    let body : Logged = HoldsBytes a.fileid a.times.mtime a.times.ctime (plain_held a.range ∷ []) in
    IfOk-weaker c.framed.result _ _ (λ gated is. framed_text body c.in_ok-out.out c.put_held.new.out gated c.in_ok-out.ensures.0 c.in_ok-put_held.ensures is) c.framed.ensures
