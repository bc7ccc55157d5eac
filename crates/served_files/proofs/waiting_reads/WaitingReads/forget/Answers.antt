use Rattle.std.proofs.Common.{◌≡◌, false, List, sym, subst, ◌∙◌}
use Rattle.std.specs.List.{list_any}
use Rattle.mds_rule.specs.MdsStates.{WaitingRead}
use Rattle.mds_rule.specs.Answers.{is_read_out}
use Rattle.served_files.proofs.FoundReads.{found_but}
use Rattle.served_files.proofs.waiting_reads.WaitingReads.forget.Goals as goal

pub invariant_of-self : goal.invariant_of-self
invariant_of-self c = λ whole.
    let reads = c.self.inside.reads.items in
    let old = c.self.invariant (sym c.forget.ensures.was ∙ whole) in
    let none : list_any (is_read_out c.args.xid) reads ≡ false =
    subst (λ (l : List WaitingRead). list_any (is_read_out c.args.xid) l ≡ false) (sym c.self.view_is) (sym c.if-not-has_out.ensures) in
    (c.forget.ensures.len ∙ old.0, found_but reads c.self.inside.tickets old.1 c.forget.new.self c.args.xid none c.forget.ensures.others)
