use Rattle.std.proofs.Common.{◌≡◌, ◌≤◌, suc, ◌+◌, ◌-◌, List, Option, Some, None, ℕ, length, refl, sym, ap, subst, ◌∙◌, arith}
use Rattle.std.specs.List.{range_with_len}
use Rattle.cluster_model.specs.declared.ids.FileId.{FileId}
use Rattle.file_rule.specs.FilePhases.{Ticks}
use Rattle.mds_rule.specs.MdsStates.{ServedFile, MdsValue, MdsStep, numbered}
use Rattle.mds_rule.specs.ServedFiles.{takes_input}
use Rattle.mds_rule.specs.Goes.{each}
use Rattle.compound_run.specs.CompoundRuns.{HasMadeStep}
use Rattle.served_files.specs.Quiet.{NextRestless, AreStill}
use Rattle.mds_sends.proofs.GoesEach.{each_turn, each_none}
use Rattle.mds_sends.proofs.GoesQuiet.{passed}
use Rattle.mds_core.proofs.FilesTick.{still_ticks, input_length}
use Rattle.mds_core.proofs.ticks.tick_files.Goals as goal

pub loop-file-init : goal.loop-file-init
loop-file-init c =
    let all : length c.args.state.now.files + 1 - 1 ≡ length c.args.state.now.files = omega arith in (
      omega arith,
      omega arith,
      refl,
      λ m new rest. subst (λ (n : ℕ). HasMadeStep (each (λ n k. takes_input k (numbered n) Ticks) (range_with_len 1 n) c.args.state.now) c.args.out.now m new) all rest,
    )

pub loop-file-preserved : goal.loop-file-preserved
loop-file-preserved c =
    let state = c.loop-file.state in
    let all = length c.args.state.now.files in
    let from = c.loop-file.from in
    let n = c.in-Some.file.0 in
    let step : ℕ → MdsValue → MdsStep = λ i k. takes_input k (numbered i) Ticks in
    let next = subst (λ (l : List ServedFile). NextRestless l from (Some c.in-Some.file)) (ap (λ (m : MdsValue). m.files) c.state.view_is) c.in-Some.ensures.next in
    let same : length state.files ≡ all = c.loop-file.invariant.2 in
    let within : n ≤ all = omega (arith, next.1, same) in
    let on : from + (n - from) ≡ n = omega (arith, next.0) in
    let left : all + 1 - from ≡ n - from + (all + 1 - n) = omega (arith, next.0, within) in
    let more : all + 1 - n ≡ suc (all + 1 - (n + 1)) = omega (arith, within) in (
      omega arith,
      omega (arith, within),
      ap (λ (m : MdsValue). length m.files) c.in_ok-take_input.ensures.steps.mds ∙ input_length state c.in-Some.file Ticks ∙ same,
      λ m new rest.
          c.loop-file.invariant.3 m new
          (passed step state from n (all + 1 - from) (all + 1 - n) (n - from) c.loop-file.out new m on left (still_ticks state from n next.2)
          (each_turn step n (all + 1 - n) (all + 1 - (n + 1)) c.loop-file.out c.take_input.new.out new state c.take_input.new.state m more c.in_ok-take_input.ensures.steps rest)),
    )

pub loop-file-smaller : goal.loop-file-smaller
loop-file-smaller c =
    let next = subst (λ (l : List ServedFile). NextRestless l c.loop-file.from (Some c.in-Some.file)) (ap (λ (m : MdsValue). m.files) c.state.view_is) c.in-Some.ensures.next in
    omega (arith, next.0, next.1, c.loop-file.invariant.2)

pub returns : goal.returns
returns c =
    let state = c.loop-file.state in
    let all = length c.args.state.now.files in
    let from = c.loop-file.from in
    let step : ℕ → MdsValue → MdsStep = λ i k. takes_input k (numbered i) Ticks in
    let none = subst (λ (o : Option FileId). NextRestless c.state.inside.files from o) c.in_default.is c.next_restless.ensures.next in
    let still : AreStill state.files from (length state.files + 1) = subst (λ (l : List ServedFile). AreStill l from (length l + 1)) (ap (λ (m : MdsValue). m.files) c.state.view_is) none in
    let end : length state.files + 1 ≡ all + 1 = ap (λ (n : ℕ). n + 1) c.loop-file.invariant.2 in
    let up : from ≤ all + 1 = c.loop-file.invariant.1 in
    let on : from + (all + 1 - from) ≡ all + 1 = omega (arith, up) in
    let left : all + 1 - from ≡ all + 1 - from + 0 = omega arith in
    c.loop-file.invariant.3 state c.loop-file.out
    (passed step state from (all + 1) (all + 1 - from) 0 (all + 1 - from) c.loop-file.out c.loop-file.out state on left (still_ticks state from (all + 1) (subst (AreStill state.files from) end still))
    (each_none step (all + 1) 0 state c.loop-file.out refl))
