use Rattle.std.proofs.Common.{get_or, ap, arith}
use Rattle.cluster_model.specs.File.{StoredFile}
use Rattle.ds_files.proofs.Carried.{bounded_after, writes}
use Rattle.ds_files.proofs.carry.write_file.Goals as goal

pub count_write-requires-clause-bounded : goal.count_write-requires-clause-bounded
count_write-requires-clause-bounded c =
    let x = get_or c.args.files.now c.args.index c.index-files-index.result in
    let is = ap (λ (y : StoredFile). get_or c.args.files.now c.args.index y) c.index-files-index.is in
    let made = rw c.next.ensures at c.in_ok-put.ensures.ok in
    let room = bounded_after c.args.head.now c.args.files.now c.args.index x c.args.at c.args.synced c.args.bytes.now c.requires.server is c.requires.ready c.put.new.file made in
    omega (arith, room, c.size-before.ensures.exact, c.size.ensures.exact)

pub returns-clause-ok : goal.returns-clause-ok
returns-clause-ok c =
    let x = get_or c.args.files.now c.args.index c.index-files-index.result in
    let is = ap (λ (y : StoredFile). get_or c.args.files.now c.args.index y) c.index-files-index.is in
    let made = rw c.next.ensures at c.in_ok-put.ensures.ok in
    rw (c.count_write.ensures, c.size-before.ensures.exact, c.size.ensures.exact) (writes c.args.head.now c.args.files.now c.args.index x c.args.at c.args.synced c.args.bytes.now c.requires.server is c.requires.ready c.put.new.file made)
