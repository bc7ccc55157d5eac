use Rattle.std.proofs.Common.{arith, ◌≡◌, ◌+◌, ◌∙◌, subst, sym, ap, false, cond, ℕ, List, Some, None}
use Rattle.std.specs.Ordering.{nat_cmp}
use Rattle.std.specs.BTreeMap.{is_at}
use Rattle.mirror_writer.specs.Extents.{SharesPlace}
use Rattle.mirror_writer.specs.Runs.{run_at, BeginsAt}
use Rattle.mirror_writer.proofs.InsertLemmas.{window_joins}
use Rattle.mirror_writer.proofs.extents.Extents.insert.Goals as goal

pub returns-then-count-eq0-clause-apart : goal.returns-then-count-eq0-clause-apart
returns-then-count-eq0-clause-apart c = rw (← c.self.view_is) c.self.invariant.0

pub invariant_of-self-2 : goal.invariant_of-self-2
invariant_of-self-2 c =
    let es = c.self.inside.runs.entries in
    let fresh = subst (λ (l : List (ℕ × ℕ)). SharesPlace l c.args.at c.args.count false) (sym c.self.view_is) c.requires.fresh in
    let begins = subst (λ (l : List (ℕ × ℕ)). BeginsAt l c.args.at c.begins-first.result) (sym c.self.view_is) c.begins-first.ensures in
    let gets : (q : ℕ) → run_at c.remove.new.self.entries q ≡ cond (is_at (nat_cmp (c.args.at + c.args.count)) q) None (cond (is_at (nat_cmp c.begins-first.result) q) (Some c.ends-upto.result) (run_at es q))
    = λ q. c.remove.ensures.updates.0 q ∙ ap (λ o. cond (is_at (nat_cmp (c.args.at + c.args.count)) q) None o) (c.in_ok-insert.ensures.updates.0 q) in
    let joined = window_joins es c.remove.new.self c.args.at c.args.count c.begins-first.result c.ends-upto.result c.self.invariant.0 c.self.invariant.1 (omega (arith, c.if-count-eq0.false)) c.requires.within fresh begins c.ends-upto.ensures gets c.remove.ensures.ordered in
    (joined.apart, joined.by)

pub returns-clause-ok : goal.returns-clause-ok
returns-clause-ok c =
    let es = c.self.inside.runs.entries in
    let fresh = subst (λ (l : List (ℕ × ℕ)). SharesPlace l c.args.at c.args.count false) (sym c.self.view_is) c.requires.fresh in
    let begins = subst (λ (l : List (ℕ × ℕ)). BeginsAt l c.args.at c.begins-first.result) (sym c.self.view_is) c.begins-first.ensures in
    let gets : (q : ℕ) → run_at c.remove.new.self.entries q ≡ cond (is_at (nat_cmp (c.args.at + c.args.count)) q) None (cond (is_at (nat_cmp c.begins-first.result) q) (Some c.ends-upto.result) (run_at es q))
    = λ q. c.remove.ensures.updates.0 q ∙ ap (λ o. cond (is_at (nat_cmp (c.args.at + c.args.count)) q) None o) (c.in_ok-insert.ensures.updates.0 q) in
    let joined = window_joins es c.remove.new.self c.args.at c.args.count c.begins-first.result c.ends-upto.result c.self.invariant.0 c.self.invariant.1 (omega (arith, c.if-count-eq0.false)) c.requires.within fresh begins c.ends-upto.ensures gets c.remove.ensures.ordered in
    rw (← c.self.view_is) joined.adds

pub returns-clause-apart : goal.returns-clause-apart
returns-clause-apart c =
    let es = c.self.inside.runs.entries in
    let fresh = subst (λ (l : List (ℕ × ℕ)). SharesPlace l c.args.at c.args.count false) (sym c.self.view_is) c.requires.fresh in
    let begins = subst (λ (l : List (ℕ × ℕ)). BeginsAt l c.args.at c.begins-first.result) (sym c.self.view_is) c.begins-first.ensures in
    let gets : (q : ℕ) → run_at c.remove.new.self.entries q ≡ cond (is_at (nat_cmp (c.args.at + c.args.count)) q) None (cond (is_at (nat_cmp c.begins-first.result) q) (Some c.ends-upto.result) (run_at es q))
    = λ q. c.remove.ensures.updates.0 q ∙ ap (λ o. cond (is_at (nat_cmp (c.args.at + c.args.count)) q) None o) (c.in_ok-insert.ensures.updates.0 q) in
    let joined = window_joins es c.remove.new.self c.args.at c.args.count c.begins-first.result c.ends-upto.result c.self.invariant.0 c.self.invariant.1 (omega (arith, c.if-count-eq0.false)) c.requires.within fresh begins c.ends-upto.ensures gets c.remove.ensures.ordered in
    joined.apart
