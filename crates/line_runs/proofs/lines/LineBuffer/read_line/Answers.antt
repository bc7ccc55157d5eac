use Rattle.std.proofs.Common.{rules, ◌≡◌, ◌-◌, ◌<◌, ◌≤◌, Bool, length, Option, Ok, refl, sym, subst, arith}
use Rattle.std.proofs.lemmas.Result.{err_from_is_err_and}
use Rattle.line_runs.specs.declared.lines.Ended.{Ended}
use Rattle.line_runs.specs.Lines.{HoldsLine, Refills, TakesLine}
use Rattle.line_runs.proofs.LineLemmas.{begun_at_first, begun_refilled, begun_taken, reads_line, reads_last, reads_fault, reads_none, is_within, taken_length, last_holds_none, unasked_again, refill_holds, taking_is_no_fault}
use Rattle.line_runs.proofs.lines.LineBuffer.read_line.Goals as goal

pub pieces-init : goal.pieces-init
pieces-init g c = record {
  room = omega arith;
  faults = search rules;
  unasked = λ h. (refl, refl);
  told = rw c.clear.ensures.items (begun_at_first c.args.budget c.args.self.now (g.S.Source.left c.args.source.now));
}

pub returns-in_err-refill-clause-told : goal.returns-in_err-refill-clause-told
returns-in_err-refill-clause-told g c =
    let left = g.S.Source.left in
    let p = err_from_is_err_and c.from_residual.result c.from_residual.ensures.1 in
    reads_fault c.args.budget c.args.self.now (left c.args.source.now) c.pieces.line.items c.pieces.self (left c.pieces.source) c.refill.new.self (left c.refill.new.source) c.refill.result _ c.from_residual.result p.0 c.in_err-refill.was p.1 c.pieces.invariant.told c.refill.ensures.told

pub returns-in_err-ended-clause-told : goal.returns-in_err-ended-clause-told
returns-in_err-ended-clause-told g c =
    let left = g.S.Source.left in
    let line = c.pieces.line in
    let p = err_from_is_err_and c.from_residual-in_err-ended.result c.from_residual-in_err-ended.ensures.1 in
    let read = subst (λ (some : Bool). Refills c.pieces.self (left c.pieces.source) (Ok some) c.refill.new.self (left c.refill.new.source)) c.if-branch.true c.in_ok-refill.ensures.told in
    let begun = begun_refilled c.args.budget c.args.self.now (left c.args.source.now) line.items c.pieces.self (left c.pieces.source) c.refill.new.self (left c.refill.new.source) c.pieces.invariant.told read in
    reads_none c.args.budget (c.args.budget - c.len.result) c.args.self.now (left c.args.source.now) line.items c.refill.new.self (left c.refill.new.source) c.take_line.new.self c.take_line.new.line.items c.take_line.result _ c.from_residual-in_err-ended.result p.0 c.in_err-ended.was p.1 p.2 begun c.take_line.ensures

pub returns-in-Some-clause-told : goal.returns-in-Some-clause-told
returns-in-Some-clause-told g c =
    let left = g.S.Source.left in
    let line = c.pieces.line in
    let room : c.args.budget - c.len.result ≡ c.args.budget - length line.items = omega (arith, line.ok.0, c.len.ensures) in
    let read = subst (λ (some : Bool). Refills c.pieces.self (left c.pieces.source) (Ok some) c.refill.new.self (left c.refill.new.source)) c.if-branch.true c.in_ok-refill.ensures.told in
    let begun = begun_refilled c.args.budget c.args.self.now (left c.args.source.now) line.items c.pieces.self (left c.pieces.source) c.refill.new.self (left c.refill.new.source) c.pieces.invariant.told read in
    let takes = subst (λ (ended : Option Ended). TakesLine (c.args.budget - c.len.result) c.refill.new.self line.items (Ok ended) c.take_line.new.self c.take_line.new.line.items) c.in-Some.is c.in_ok-ended.ensures in
    reads_line c.args.budget (c.args.budget - c.len.result) c.args.self.now (left c.args.source.now) line.items c.refill.new.self (left c.refill.new.source) c.in-Some.ended c.take_line.new.self c.take_line.new.line.items room begun takes

pub returns-in-Some-clause-within : goal.returns-in-Some-clause-within
returns-in-Some-clause-within g c =
    let line = c.pieces.line in
    let room : c.args.budget - c.len.result ≡ c.args.budget - length line.items = omega (arith, line.ok.0, c.len.ensures) in
    let within : length line.items ≤ c.args.budget = omega (arith, line.ok.0, c.pieces.invariant.room) in
    let takes = subst (λ (ended : Option Ended). TakesLine (c.args.budget - c.len.result) c.refill.new.self line.items (Ok ended) c.take_line.new.self c.take_line.new.line.items) c.in-Some.is c.in_ok-ended.ensures in
    is_within c.args.budget (c.args.budget - c.len.result) line.items c.refill.new.self c.in-Some.ended c.take_line.new.self c.take_line.new.line.items room within takes

pub pieces-smaller : goal.pieces-smaller
pieces-smaller g c =
    let line = c.pieces.line in
    let room : c.args.budget - c.len.result ≡ c.args.budget - length line.items = omega (arith, line.ok.0, c.len.ensures) in
    let within : length line.items ≤ c.args.budget = omega (arith, line.ok.0, c.pieces.invariant.room) in
    let takes = subst (λ (ended : Option Ended). TakesLine (c.args.budget - c.len.result) c.refill.new.self line.items (Ok ended) c.take_line.new.self c.take_line.new.line.items) c.in_default.is c.in_ok-ended.ensures in
    let taken = taken_length c.args.budget (c.args.budget - c.len.result) line.items c.refill.new.self c.take_line.new.self c.take_line.new.line.items room within takes in
    let some : 0 < length c.refill.new.self = c.in_ok-refill.ensures.held.0 c.if-branch.true in
    omega (arith, taken.0, taken.1, line.ok.0, c.take_line.new.line.ok.0)

pub pieces-preserved : goal.pieces-preserved
pieces-preserved g c =
    let left = g.S.Source.left in
    let line = c.pieces.line in
    let room : c.args.budget - c.len.result ≡ c.args.budget - length line.items = omega (arith, line.ok.0, c.len.ensures) in
    let within : length line.items ≤ c.args.budget = omega (arith, line.ok.0, c.pieces.invariant.room) in
    let read = subst (λ (some : Bool). Refills c.pieces.self (left c.pieces.source) (Ok some) c.refill.new.self (left c.refill.new.source)) c.if-branch.true c.in_ok-refill.ensures.told in
    let begun = begun_refilled c.args.budget c.args.self.now (left c.args.source.now) line.items c.pieces.self (left c.pieces.source) c.refill.new.self (left c.refill.new.source) c.pieces.invariant.told read in
    let takes = subst (λ (ended : Option Ended). TakesLine (c.args.budget - c.len.result) c.refill.new.self line.items (Ok ended) c.take_line.new.self c.take_line.new.line.items) c.in_default.is c.in_ok-ended.ensures in
    let taken = taken_length c.args.budget (c.args.budget - c.len.result) line.items c.refill.new.self c.take_line.new.self c.take_line.new.line.items room within takes in
    record {
      unasked = λ h.
          let same = unasked_again c.args.self.now c.pieces.self c.refill.new.self c.args.source.now c.pieces.source c.refill.new.source c.pieces.invariant.unasked c.refill.ensures.unasked h in
          absurd (last_holds_none (c.args.budget - c.len.result) c.refill.new.self c.refill.new.self takes.0 (subst HoldsLine (sym same.0) h));
      room = omega (arith, taken.0, c.take_line.new.line.ok.0);
      faults = cc (c.in_ok-refill.ensures.faults, c.pieces.invariant.faults);
      told = begun_taken c.args.budget (c.args.budget - c.len.result) c.args.self.now (left c.args.source.now) line.items c.refill.new.self (left c.refill.new.source) c.take_line.new.self c.take_line.new.line.items room begun takes;
    }

pub returns-clause-told : goal.returns-clause-told
returns-clause-told g c =
    let left = g.S.Source.left in
    let read = subst (λ (some : Bool). Refills c.pieces.self (left c.pieces.source) (Ok some) c.refill.new.self (left c.refill.new.source)) c.if-branch.false c.in_ok-refill.ensures.told in
    reads_last c.args.budget c.args.self.now (left c.args.source.now) c.pieces.line.items c.pieces.self (left c.pieces.source) c.refill.new.self (left c.refill.new.source) c.pieces.invariant.told read

pub returns-in_err-refill-clause-unasked : goal.returns-in_err-refill-clause-unasked
returns-in_err-refill-clause-unasked g c =
    λ h. (unasked_again c.args.self.now c.pieces.self c.refill.new.self c.args.source.now c.pieces.source c.refill.new.source c.pieces.invariant.unasked c.refill.ensures.unasked h).1

pub returns-in_err-ended-clause-unasked : goal.returns-in_err-ended-clause-unasked
returns-in_err-ended-clause-unasked g c =
    λ h. (unasked_again c.args.self.now c.pieces.self c.refill.new.self c.args.source.now c.pieces.source c.refill.new.source c.pieces.invariant.unasked c.refill.ensures.unasked h).1

pub returns-in-Some-clause-unasked : goal.returns-in-Some-clause-unasked
returns-in-Some-clause-unasked g c =
    λ h. (unasked_again c.args.self.now c.pieces.self c.refill.new.self c.args.source.now c.pieces.source c.refill.new.source c.pieces.invariant.unasked c.refill.ensures.unasked h).1

pub returns-clause-unasked : goal.returns-clause-unasked
returns-clause-unasked g c =
    λ h. (unasked_again c.args.self.now c.pieces.self c.refill.new.self c.args.source.now c.pieces.source c.refill.new.source c.pieces.invariant.unasked c.refill.ensures.unasked h).1

pub returns-in_err-refill-clause-asks : goal.returns-in_err-refill-clause-asks
returns-in_err-refill-clause-asks g c =
    λ h. absurd (refill_holds c.args.self.now c.pieces.self c.args.source.now c.pieces.source c.refill.result _ c.in_err-refill.was c.pieces.invariant.unasked c.refill.ensures.holds h)

pub returns-in_err-ended-clause-asks : goal.returns-in_err-ended-clause-asks
returns-in_err-ended-clause-asks g c =
    let p = err_from_is_err_and c.from_residual-in_err-ended.result c.from_residual-in_err-ended.ensures.1 in
    λ h. taking_is_no_fault (c.args.budget - c.len.result) c.refill.new.self c.pieces.line.items c.take_line.new.self c.take_line.new.line.items c.take_line.result _ c.from_residual-in_err-ended.result p.0 c.in_err-ended.was p.1 p.2 c.take_line.ensures
