use Rattle.std.proofs.Common.{◌≡◌, ◌-◌, [], ◌∷◌, List, sym, ap, subst, ◌∙◌}
use Rattle.std.specs.Prelude.{slice_get}
use Rattle.mds_rule.specs.MdsStates.{ServedFile, MdsValue, MdsStep, numbered}
use Rattle.mds_rule.specs.Goes.{each, recall_call, repeats, place_calls, file_calls}
use Rattle.compound_run.specs.CompoundRuns.{HasMadeStep}
use Rattle.mds_state.specs.contracts.state.State as state
use Rattle.mds_sends.proofs.GoesEach.{three_steps}
use Rattle.mds_sends.proofs.GoesKept.{repeats_as}
use Rattle.mds_sends.proofs.all.call_file.Goals as goal

pub returns : goal.returns
returns c = λ list is.
    let file = numbered c.args.number in
    let m : MdsValue = state.the_view c.state.inside in
    let settled : record m { files = c.settle.new.self } ≡ c.call_places.new.state = ap (λ (files : List ServedFile). record m { files = files }) c.settle.ensures ∙ c.state.view_is in
    let second = subst (λ (s : MdsStep). HasMadeStep s c.call_recall.new.out c.repeat.new.state c.repeat.new.out) (repeats_as (slice_get list (c.args.number - 1)) c.args.kept c.call_recall.new.state is) c.in_ok-repeat.ensures in
    subst (λ (x : MdsValue). HasMadeStep (file_calls list c.args.number c.args.state.now) c.args.out.now x c.call_places.new.out) (sym settled)
    (three_steps (recall_call file c.args.state.now) (repeats (slice_get list (c.args.number - 1))) (each (place_calls file) (0 ∷ 1 ∷ 2 ∷ 3 ∷ 4 ∷ [])) c.args.out.now c.call_recall.new.out c.repeat.new.out c.call_places.new.out
    c.call_recall.new.state c.repeat.new.state c.call_places.new.state c.in_ok-call_recall.ensures second c.in_ok-call_places.ensures)
