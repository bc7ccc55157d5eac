-- One input of a file draws a uid and four names at most, in each run of the machine: what is there for them can be drawn.
use Rattle.std.proofs.Common.{◌≡◌, ◌≤◌, ℕ, ◌+◌, ◌^◌, true, List, Some, sym, ap, subst, ◌∙◌, arith}
use Rattle.std.specs.Prelude.{nat_lt, ◌&&◌}
use Rattle.std.proofs.lemmas.Bool.{and_parts, and_from}
use Rattle.std.proofs.lemmas.Bool.Decides.{nat_tests}
use Rattle.file_rule.specs.MdsFiles.{MdsFile, FileStep}
use Rattle.file_rule.specs.declared.fresh.Fresh.{Fresh}
use Rattle.file_rule.specs.FilePhases.{FileInput, end_of_uids, phase}
use Rattle.cluster_laws.specs.Machine.{Machine, Move, numbered_at, file_id, fresh_of, can_draw}
use Rattle.cluster_laws.specs.RunBounds.{DrawsFew, StepsDrawFew}
use Rattle.mds_rule.specs.ServedFiles.{has_fresh}
use Rattle.mds_moves.specs.MdsMoves.{IsReached}

-- the law of each run
abbrev pub DrawFew : Type 0
DrawFew = (boots : List ℕ) (moves : List Move) → StepsDrawFew boots moves

pub few_at : DrawFew → (mc : Machine) → IsReached mc → (n : ℕ) (f : MdsFile) (input : FileInput) → numbered_at mc.files n ≡ Some f → DrawsFew (phase (file_id n) f input (fresh_of mc))
few_at few mc reached n f input =
    subst (λ (x : Machine). numbered_at x.files n ≡ Some f → DrawsFew (phase (file_id n) f input (fresh_of x))) reached.2 (few reached.0 reached.1 n f input)

-- what is there for so few
enough : (uid name uids names : ℕ) → uids ≤ 1 → names ≤ 4 → (nat_lt uid end_of_uids && nat_lt (name + 4) (2 ^ 64)) ≡ true → (nat_lt (uid + uids) (end_of_uids + 1) && nat_lt (name + names) 18446744073709551616) ≡ true
enough uid name uids names one four there =
    let parts = and_parts (nat_lt uid end_of_uids) (nat_lt (name + 4) (2 ^ 64)) there in
    let a = parts.0 in
    let b = parts.1 in
    and_from (nat_lt (uid + uids) (end_of_uids + 1)) (nat_lt (name + names) 18446744073709551616) (grind (arith, nat_tests, a, one)) (grind (arith, nat_tests, b, four))

pub can : (mc : Machine) (s : FileStep) → DrawsFew s → (fresh : Fresh) → fresh ≡ fresh_of mc → has_fresh fresh ≡ true → can_draw mc s.uids s.names ≡ true
can mc s few fresh is there = enough mc.next_uid mc.next_name s.uids s.names few.uids few.names (ap has_fresh (sym is) ∙ there)
