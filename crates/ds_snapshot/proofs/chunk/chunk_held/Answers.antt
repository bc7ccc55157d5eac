use Rattle.ds_snapshot.proofs.Written.{chunk_few}
use Rattle.ds_snapshot.proofs.chunk.chunk_held.Goals as goal

pub range_held-requires-clause-few : goal.range_held-requires-clause-few
range_held-requires-clause-few c = rw c.stable_part-part.ensures (chunk_few c.args.file.now.content.stable c.args.chunk c.requires.there c.requires.size)

pub returns-clause-read : goal.returns-clause-read
returns-clause-read c = rw (c.stable_part-part.ensures, c.stable_times-times.ensures) at c.range_held.ensures.read

pub returns-clause-text : goal.returns-clause-text
returns-clause-text c = rw (c.stable_part-part.ensures, c.stable_times-times.ensures) at c.range_held.ensures.text
