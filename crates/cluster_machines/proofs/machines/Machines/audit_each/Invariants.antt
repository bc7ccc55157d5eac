use Rattle.std.proofs.Common.{◌≡◌, ◌++◌, map, take}
use Rattle.cluster_model.specs.declared.ids.Mirror.{Mirror}
use Rattle.world_rule.specs.Machines.{audit_of}
use Rattle.cluster_machines.proofs.machines.Machines.audit_each.Given as goal

abbrev pub invariant-loop-place : goal.invariant-loop-place
invariant-loop-place l = record {
  entries : l.out.entries.items ≡ l.fn.out.entries.items ++ map (λ (mirror : Mirror). audit_of l.self l.file mirror.id) (take l.place l.live);
  sends : l.out.sends.items ≡ l.fn.out.sends.items;
}
