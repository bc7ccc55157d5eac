use Rattle.std.proofs.Common.{◌≡◌, Option, Some, refl, rules, sym, subst, inl}
use Rattle.ff_xdr.specs.Arms.{arm}
use Rattle.nfs4_types.specs.declared.status.Stat4.{Stat4}
use Rattle.nfs4_compound.specs.Results.{resop4}
use Rattle.mds_refusals.specs.Orders.{refusal}
use Rattle.mds_refusals.specs.Lookup.{lookup_order}
use Rattle.mds_refusals.specs.declared.object.Object.TheVariants.{File}
use Rattle.mds_rule.specs.MdsStates.{file_named}
use Rattle.mds_rule.specs.OpSteps.{refused_or, gives, at_object}
use Rattle.mds_rule.specs.FileOps.{file_or_none}
use Rattle.compound_run.specs.CompoundRuns.{HasOperated}
use Rattle.mds_state.proofs.OpLemmas.{refusal_so}
use Rattle.mds_names.proofs.handles.lookup.Goals as goal

pub returns-in-Err-clause-op : goal.returns-in-Err-clause-op
returns-in-Err-clause-op c out =
    let m = c.args.state.now in
    let run = c.args.run.now in
    let found = file_named m c.args.name.now in
    let is : refusal (lookup_order run.current c.args.name.now found) ≡ Some c.in-Err.status = search rules in
    subst (λ (r : Option Stat4). HasOperated (refused_or m run 15 r (gives m (at_object run (File (file_or_none found))) (arm 15 resop4 (inl tt)))) out c.refuse.result m c.refuse.new.self out)
    (sym is) (refusal_so m m run c.refuse.new.self 15 c.in-Err.status c.refuse.result out refl c.refuse.ensures.ends c.refuse.ensures.run)
