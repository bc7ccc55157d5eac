use Rattle.std.proofs.Common.{sym, ◌∙◌}
use Rattle.cluster_model.specs.declared.ids.Mirror.{Mirror}
use Rattle.world_rule.specs.Machines.{audit_of}
use Rattle.cluster_machines.proofs.Auditing.{entered_next}
use Rattle.cluster_machines.proofs.machines.Machines.audit_each.Goals as goal

pub loop-place-preserved : goal.loop-place-preserved
loop-place-preserved c = record {
  entries = entered_next (λ (mirror : Mirror). audit_of c.args.self.now c.args.file mirror.id) c.args.live c.loop-place.place c.in-Some.mirror c.in_ok-audit_of.field-0 c.args.out.now.entries.items c.loop-place.out.entries.items c.push.new.self.items (sym c.get.ensures ∙ c.in-Some.is) c.in_ok-audit_of.ensures c.loop-place.invariant.entries c.in_ok-push.ensures.items;
  sends = c.loop-place.invariant.sends;
}
