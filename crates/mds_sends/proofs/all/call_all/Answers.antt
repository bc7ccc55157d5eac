use Rattle.std.proofs.Common.{◌≡◌, suc, ◌+◌, ◌-◌, ◌≤◌, length, List, Option, Some, ℕ, refl, sym, ap, subst, ◌∙◌, arith}
use Rattle.std.specs.List.{range_with_len}
use Rattle.mds_rule.specs.MdsStates.{MdsValue}
use Rattle.mds_rule.specs.Goes.{each, file_calls}
use Rattle.compound_run.specs.CompoundRuns.{HasMadeStep}
use Rattle.mds_sends.specs.declared.kept.NumberedCall.{NumberedCall}
use Rattle.mds_sends.specs.Kept.{numbered_kept, first_number, FirstKept}
use Rattle.mds_sends.specs.Visits.{NextFile}
use Rattle.mds_sends.proofs.GoesEach.{each_turn, each_none}
use Rattle.mds_sends.proofs.GoesKept.{KeptList, IsLeft, first_kept, kept_after, kept_here, left_behind}
use Rattle.mds_sends.proofs.GoesQuiet.{passed}
use Rattle.mds_sends.proofs.all.call_all.Goals as goal

pub loop-number-init : goal.loop-number-init
loop-number-init c =
    let all : c.len-end.result ≡ length c.args.state.now.files = c.len-end.ensures.exact ∙ ap (λ (m : MdsValue). length m.files) c.state.view_is in
    let so_many : c.len-end.result + 1 - 1 ≡ length c.args.state.now.files = omega (arith, all) in (
      omega arith,
      omega arith,
      λ list is. is,
      λ list is m new rest. subst (λ (n : ℕ). HasMadeStep (each (file_calls list) (range_with_len 1 n) c.args.state.now) c.args.out.now m new) so_many rest,
    )

pub loop-number-preserved : goal.loop-number-preserved
loop-number-preserved c =
    let end = c.len-end.result + 1 in
    let from = c.loop-number.from in
    let rest = c.loop-number.rest.now in
    let some : 1 ≤ from = c.loop-number.invariant.0 in
    let n = c.in-Some.number in
    let within = c.in-Some.ensures.within in
    let on : from + (n - from) ≡ n = omega (arith, within.0) in
    let left : end - from ≡ n - from + (end - n) = omega (arith, within.0, within.1) in
    let more : end - n ≡ suc (end - (n + 1)) = omega (arith, within.1) in
    let is_left : (list : KeptList) → c.args.kept.now ≡ numbered_kept 1 list → IsLeft list from rest = c.loop-number.invariant.2 in
    let first : (list : KeptList) → c.args.kept.now ≡ numbered_kept 1 list → FirstKept list from c.first_number.result =
    λ list is. subst (FirstKept list from) (sym c.first_number.ensures) (first_kept list from rest some (is_left list is)) in
    let least : (list : KeptList) → c.args.kept.now ≡ numbered_kept 1 list → (k : ℕ) → first_number rest ≡ Some k → n ≤ k = λ list is k at. c.in-Some.ensures.kept n k refl (c.first_number.ensures ∙ at) (kept_after list from rest some (is_left list is) k at) in (
      omega arith,
      omega (arith, within.1),
      λ list is. subst (λ (l : List NumberedCall). IsLeft list (n + 1) l) (sym c.rest_behind-rest.ensures) (left_behind list from n rest some (is_left list is) within.0 (least list is)),
      λ list is m new others.
          c.loop-number.invariant.3 list is m new
          (passed (file_calls list) c.loop-number.state from n (end - from) (end - n) (n - from) c.loop-number.out new m on left (c.in-Some.ensures.next list (first list is))
          (each_turn (file_calls list) n (end - n) (end - (n + 1)) c.loop-number.out c.call_file.new.out new c.loop-number.state c.call_file.new.state m more
          (c.in_ok-call_file.ensures list (kept_here list from n rest some (is_left list is) within.0 (least list is) ∙ sym c.kept_for.ensures)) others)),
    )

pub returns : goal.returns
returns c = λ list is.
    let end = c.len-end.result + 1 in
    let from = c.loop-number.from in
    let rest = c.loop-number.rest.now in
    let up : from ≤ end = c.loop-number.invariant.1 in
    let on : from + (end - from) ≡ end = omega (arith, up) in
    let left : end - from ≡ end - from + 0 = omega arith in
    let first : FirstKept list from c.first_number.result = subst (FirstKept list from) (sym c.first_number.ensures) (first_kept list from rest c.loop-number.invariant.0 (c.loop-number.invariant.2 list is)) in
    let silent = subst (λ (o : Option ℕ). NextFile list c.loop-number.state from end o) c.in_default.is (c.next_file.ensures.next list first) in
    c.loop-number.invariant.3 list is c.loop-number.state c.loop-number.out
    (passed (file_calls list) c.loop-number.state from end (end - from) 0 (end - from) c.loop-number.out c.loop-number.out c.loop-number.state on left silent
    (each_none (file_calls list) end 0 c.loop-number.state c.loop-number.out refl))
