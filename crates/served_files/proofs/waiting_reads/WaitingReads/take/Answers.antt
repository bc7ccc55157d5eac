use Rattle.std.proofs.Common.{◌<◌, List, length, sym, subst, ◌∙◌, arith}
use Rattle.mds_rule.specs.MdsStates.{WaitingRead}
use Rattle.served_files.specs.Tickets.{AreReadsFound}
use Rattle.served_files.proofs.FoundReads.{found_without}
use Rattle.served_files.proofs.waiting_reads.WaitingReads.take.Goals as goal

pub invariant_of-self-else-is_empty : goal.invariant_of-self-else-is_empty
invariant_of-self-else-is_empty c = λ whole.
    let reads = c.self.inside.reads.items in
    let left = c.remove.new.self in
    let old = c.self.invariant (sym c.remove.ensures.was ∙ whole) in
    let within : c.args.place < length reads = subst (λ (l : List WaitingRead). c.args.place < length l) (sym c.self.view_is) c.requires in (
      omega (arith, old.0, c.remove.ensures.len whole, c.remove-waiting.ensures.len),
      subst (λ (l : List WaitingRead). AreReadsFound l left) (sym c.remove-waiting.ensures.items)
          (found_without reads c.self.inside.tickets old.1 left c.args.place within (c.remove.ensures.before whole) (c.remove.ensures.behind whole)),
    )
