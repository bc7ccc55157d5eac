use Rattle.std.proofs.Common.{arith}
use Rattle.ds_snapshot.proofs.Left.{left}
use Rattle.ds_snapshot.proofs.Sizing.{file_bodies_size}
use Rattle.ds_snapshot.proofs.size.file_size.Goals as goal

pub returns : goal.returns
returns c = λ fileid.
    let all = file_bodies_size fileid (left c.args.file.now) c.args.name.now in
    rw (c.padded_size.ensures.exact, c.padded_size-2.ensures.exact, c.chunk_count.ensures, c.stable_size-size.ensures.exact) (omega (arith, all))
