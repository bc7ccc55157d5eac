use Rattle.std.proofs.Common.{◌≡◌, List, length, map, refl, sym, ap, subst, ◌∙◌, arith}
use Rattle.std.proofs.lemmas.List.{length-map}
use Rattle.mds_rule.specs.MdsStates.{WaitingRead}
use Rattle.mds_rule.specs.ServedFiles.{begins_again}
use Rattle.served_files.specs.Tickets.{AreReadsFound}
use Rattle.served_files.proofs.ReadLists.{all_new}
use Rattle.served_files.proofs.FoundReads.{found_again}
use Rattle.served_files.proofs.waiting_reads.WaitingReads.restart_behind.Goals as goal

pub invariant_of-self : goal.invariant_of-self
invariant_of-self c = λ whole.
    let reads = c.self.inside.reads.items in
    let t = c.forget_all.new.self in
    let old = c.self.invariant (sym c.forget_all.ensures.was ∙ whole) in
    let again = c.restart.ensures ∙ ap (map (begins_again c.args.live)) c.deref_mut.ensures.value in
    let long : length c.restart.new.reads ≡ length reads = ap length again ∙ length-map reads (begins_again c.args.live) in
    let seen : length c.deref_mut.result.now ≡ length reads = ap length c.deref_mut.ensures.value in
    let all = all_new c.self.inside.reads.len c.restart.new.reads reads (omega (arith, long)) (omega (arith, long, seen, c.deref_mut.ensures.len)) ∙ again in
    subst (λ (l : List WaitingRead). (length t.tickets ≡ length l) × AreReadsFound l t) (sym all)
    (c.forget_all.ensures.len ∙ old.0 ∙ sym (length-map reads (begins_again c.args.live)), found_again (begins_again c.args.live) reads t (λ xid r. refl))
