use Rattle.std.proofs.Common.{ℕ, List, Option, Ok, refl, ap, subst, ◌∙◌}
use Rattle.std.proofs.lemmas.Result.{err_from_is_err_and}
use Rattle.twin_log.specs.KeptLogs.{KeptLogState}
use Rattle.twin_log.proofs.Sides.{tell_both}
use Rattle.ds_log.specs.Durable.{durable}
use Rattle.ds_snapshot.specs.NextBodies.{GivesBody, bodies_from}
use Rattle.ds_store.proofs.Snapshots.{none_left, put_fails, puts_all, puts_fails, puts_none, puts_on, tell_none}
use Rattle.ds_store.proofs.renewing.put_snapshot.Goals as goal

pub loop-next-init : goal.loop-next-init
loop-next-init g c = record {
  same = refl;
  renews = c.requires.renews;
  tells = tell_none (g.D.Disk.told c.args.disk.now) (g.D.Disk.told c.args.spare.now);
  faults = refl;
  spare_faults = refl;
  puts = λ says renews. puts_none c.args.server.now c.args.log.now (g.D.Disk.told c.args.disk.now) (g.D.Disk.told c.args.spare.now) says c.new-snapshot.result (c.new-snapshot.ensures (durable c.args.server.now)) renews;
}

pub returns-in_default-clause-puts : goal.returns-in_default-clause-puts
returns-in_default-clause-puts g c = λ says renews.
    puts_fails c.args.server.now c.args.log.now (g.D.Disk.told c.args.disk.now) (g.D.Disk.told c.args.spare.now) says c.loop-next.snapshot c.loop-next.log (g.D.Disk.told c.loop-next.disk) (g.D.Disk.told c.loop-next.spare)
    (c.loop-next.invariant.puts says renews) _ _ refl c.loop-next.log

pub returns-in_default-next-clause-puts : goal.returns-in_default-next-clause-puts
returns-in_default-next-clause-puts g c = λ says renews.
    let none = none_left (bodies_from c.loop-next.snapshot (durable c.args.server.now)) (bodies_from c.next.new.self (durable c.args.server.now)) c.in-Ok.next c.in-Ok.ensures.next c.in_default-next.not-Some in
    puts_all c.args.server.now c.args.log.now (g.D.Disk.told c.args.disk.now) (g.D.Disk.told c.args.spare.now) says c.loop-next.snapshot c.loop-next.log (g.D.Disk.told c.loop-next.disk) (g.D.Disk.told c.loop-next.spare)
    (c.loop-next.invariant.puts says renews) none tt

pub returns-in_err-put-clause-puts : goal.returns-in_err-put-clause-puts
returns-in_err-put-clause-puts g c = λ says renews.
    let p = err_from_is_err_and c.from_residual.result c.from_residual.ensures.1 in
    put_fails c.args.server.now c.args.log.now (g.D.Disk.told c.args.disk.now) (g.D.Disk.told c.args.spare.now) says c.loop-next.snapshot c.loop-next.log (g.D.Disk.told c.loop-next.disk) (g.D.Disk.told c.loop-next.spare)
    (c.loop-next.invariant.puts says renews) c.loop-next.invariant.same c.in-Some.body c.put.result c.put.new.self (g.D.Disk.told c.put.new.disk) (g.D.Disk.told c.put.new.spare) c.put.ensures.puts c.from_residual.result p.0 p.1 c.put.new.self

pub loop-next-preserved : goal.loop-next-preserved
loop-next-preserved g c = record {
  same = c.put.ensures.keeps ∙ ap (λ (k : KeptLogState). let log : KeptLogState = record k { renewed = c.put.new.self.renewed } in log) c.loop-next.invariant.same;
  renews = c.in_ok-put.ensures.renews;
  tells =
      tell_both (g.D.Disk.told c.args.disk.now) (g.D.Disk.told c.args.spare.now) (g.D.Disk.told c.loop-next.disk) (g.D.Disk.told c.loop-next.spare) (g.D.Disk.told c.put.new.disk) (g.D.Disk.told c.put.new.spare)
      c.loop-next.invariant.tells c.put.ensures.tells;
  faults = c.in_ok-put.ensures.faults.0 ∙ c.loop-next.invariant.faults;
  spare_faults = c.in_ok-put.ensures.faults.1 ∙ c.loop-next.invariant.spare_faults;
  puts = λ says renews.
      puts_on c.args.server.now c.args.log.now (g.D.Disk.told c.args.disk.now) (g.D.Disk.told c.args.spare.now) says c.loop-next.snapshot c.loop-next.log (g.D.Disk.told c.loop-next.disk) (g.D.Disk.told c.loop-next.spare)
      (c.loop-next.invariant.puts says renews) c.loop-next.invariant.same c.in-Some.body c.put.result c.put.new.self (g.D.Disk.told c.put.new.disk) (g.D.Disk.told c.put.new.spare) c.put.ensures.puts c.in_ok-put.field-0 c.in_ok-put.was
      c.next.new.self
      (subst (λ (o : Option (List ℕ)). GivesBody (bodies_from c.loop-next.snapshot (durable c.args.server.now)) (Ok o) (bodies_from c.next.new.self (durable c.args.server.now))) c.in-Some.is c.in-Ok.ensures.next);
}
