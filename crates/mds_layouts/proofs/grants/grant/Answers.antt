use Rattle.std.proofs.Common.{Bool, refl, sym, subst}
use Rattle.std.proofs.lemmas.List.{append-nil}
use Rattle.mds_rule.specs.MdsStates.{sends_none, confirmed_node}
use Rattle.mds_rule.specs.FileOps.{client_of}
use Rattle.mds_rule.specs.LayoutOps.{grants_to}
use Rattle.compound_run.specs.CompoundRuns.{HasOperated}
use Rattle.mds_layouts.proofs.grants.grant.Goals as goal

pub returns-then-is_granted-clause-op : goal.returns-then-is_granted-clause-op
returns-then-is_granted-clause-op c =
    let m = c.args.state.now in
    let run = c.args.run.now in
    let out = c.args.out.now in
    subst (λ (b : Bool). HasOperated (grants_to m run c.args.file b (confirmed_node m (client_of run))) out c.give_granted.result c.give_granted.new.state c.give_granted.new.run out) c.if-is_granted.ensures
    (c.give_granted.ensures.op (sends_none m) out out (record { mds = refl; entries = sym (append-nil out.entries.items); sends = refl }))
