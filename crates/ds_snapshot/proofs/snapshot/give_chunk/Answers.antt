use Rattle.std.proofs.Common.{◌+◌, List, sym, subst}
use Rattle.ds_log.specs.Bodies.{Logged}
use Rattle.ds_log.specs.Durable.{durable}
use Rattle.ds_snapshot.specs.Snapshots.{chunk_at}
use Rattle.ds_snapshot.specs.NextBodies.{GivesBodyThen}
use Rattle.ds_snapshot.proofs.Chunks.{holds}
use Rattle.ds_snapshot.proofs.Left.{left, no_chunk_left, file_done, chunk_left}
use Rattle.ds_snapshot.proofs.snapshot.give_chunk.Goals as goal

pub returns-in_default : goal.returns-in_default
returns-in_default c = no_chunk_left c.args.server.now c.args.index c.args.chunk c.in_default.ensures.exact

pub returns-then-chunk-chunk_count : goal.returns-then-chunk-chunk_count
returns-then-chunk-chunk_count c =
    let s = c.args.server.now in
    let done = rw (c.chunk_count.ensures, c.stable_size.ensures.exact) at c.if-chunk-chunk_count.true in
    subst (λ (old : List Logged). GivesBodyThen old (durable s) c.give_file.result) (sym (file_done s c.args.index c.in-Some.file.now c.in-Some.ensures.exact c.args.chunk done)) c.give_file.ensures

pub returns : goal.returns
returns c =
    let f = c.in-Some.file.now in
    let there = rw (c.chunk_count.ensures, c.stable_size.ensures.exact) at c.if-chunk-chunk_count.false in
    (holds (c.args.index + 2) (left f) (chunk_at f.content.stable c.args.chunk), chunk_left c.args.server.now c.args.index f c.in-Some.ensures.exact c.args.chunk there, record { text = c.in_ok-gated.ensures.text; read = c.in_ok-gated.ensures.read })
