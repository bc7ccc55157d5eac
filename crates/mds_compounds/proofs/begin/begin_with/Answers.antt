use Rattle.std.proofs.Common.{sym, subst, ◌∙◌}
use Rattle.nfs4_compound.specs.Args.{op_value}
use Rattle.mds_rule.specs.MdsStates.{MdsStep}
use Rattle.compound_run.specs.CompoundRuns.{HasMadeStep}
use Rattle.mds_compounds.proofs.BeginLemmas.{alone_is, no_sequence}
use Rattle.mds_compounds.proofs.WalkLemmas.{adds_left, adds_room, op_goes, on_ok}
use Rattle.mds_compounds.specs.Walks.{alone_step}
use Rattle.mds_compounds.proofs.begin.begin_with.Goals as goal

pub go_on-requires : goal.go_on-requires
go_on-requires c is = adds_room c.args.run.now c.begin_alone.new.run c.in_ok-end.end c.in_ok-end.ensures.on c.requires.room c.requires.first is

pub returns : goal.returns
returns c =
    let m = c.args.state.now in
    let run = c.args.run.now in
    rw (no_sequence _ (sym c.sequence_of.ensures ∙ c.in_default.is))
    (on_ok c.go_on.result c.go_on.ensures
    (λ made.
    subst (λ (s : MdsStep). HasMadeStep s c.args.out.now c.go_on.new.state c.go_on.new.out) (sym (alone_is c.args.now c.args.count (op_value c.args.op.now) m run))
    (op_goes c.args.now run.ops (alone_step c.args.now m run c.args.count (op_value c.args.op.now)) c.in_ok-end.end c.args.out.now c.begin_alone.new.out c.go_on.new.out c.begin_alone.new.state c.go_on.new.state c.begin_alone.new.run c.in_ok-end.ensures.op
    (adds_left run c.begin_alone.new.run c.in_ok-end.end c.in_ok-end.ensures.on) made)))
