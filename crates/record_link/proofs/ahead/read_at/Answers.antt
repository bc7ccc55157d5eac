use Rattle.std.proofs.Common.{◌-◌, length, arith}
use borrow.Rule.Slice.PartMut.{post_of, same_len_mid}
use Rattle.record_link.proofs.OutgoingLemmas.{reads_at}
use Rattle.record_link.proofs.ahead.read_at.Goals as goal

pub returns-clause-told : goal.returns-clause-told
returns-clause-told g c =
    let count = length c.args.buffer.now - c.args.mark in
    reads_at c.args.mark c.args.buffer.now c.read.new.piece (post_of c.args.mark count c.args.buffer.now) (omega (arith, c.requires))
    (same_len_mid c.args.mark count c.args.buffer.now c.read.new.piece c.read.auto.piece)
    (g.S.Stream.coming c.args.stream.now) (g.S.Stream.coming c.read.new.self) c.read.result c.read.ensures.within c.read.ensures.told
