use Rattle.std.proofs.Common.{◌<◌, length, arith}
use Rattle.std.proofs.lemmas.Grind.{common_steps}
use Rattle.data_file.proofs.Paging.{paged_taken}
use Rattle.data_file.proofs.content.FileContent.put_pending.Goals as goal

pub invariant_of-self-in_default : goal.invariant_of-self-in_default
invariant_of-self-in_default c =
    let f = c.self.inside in
    let some : 0 < length c.args.bytes.now = grind (arith, common_steps) in
    rw (c.in_ok-push.ensures.items, c.in_ok-new.ensures) (paged_taken f.stable f.dirty c.put_over.new.stable c.put_over.new.dirty f.pending.items c.args.at c.args.bytes.now some c.put_over.ensures.stable c.in_default.ensures.ok c.in_default.ensures.room c.self.invariant)
