use Rattle.std.proofs.Common.{◌≡◌, true, [], ◌∷◌, refl, sym}
use Rattle.nfs4_compound.specs.AllOps.{nfs_argop4}
use Rattle.nfs4_compound.specs.Operations.{arm_has_enum}
use Rattle.nfs4_compound.proofs.Unbuilt.{stop_none, stop_unread, stop_bad, no_enum, one_of_numbers}
use Rattle.nfs4_compound.proofs.refused.unbuilt_op.Goals as goal

pub returns-in_err-number : goal.returns-in_err-number
returns-in_err-number c =
    rw c.from_residual.ensures (stop_none nfs_argop4 c.args.bytes.now c.args.at c.args.error refl c.requires.refused c.in_err-number.ensures)

pub returns-then-has_enum : goal.returns-then-has_enum
returns-then-has_enum c =
    let n = c.in_ok-number.number in
    let enum = one_of_numbers (λ k. arm_has_enum k nfs_argop4 ≡ true) n (38 ∷ 41 ∷ 52 ∷ []) (refl, (refl, (refl, tt))) (sym c.if-has_enum.ensures) in
    stop_bad nfs_argop4 c.args.bytes.now c.args.at n c.args.error refl c.requires.refused c.in_ok-number.ensures enum

pub returns : goal.returns
returns c =
    let n = c.in_ok-number.number in
    stop_unread nfs_argop4 c.args.bytes.now c.args.at n c.args.error refl c.requires.refused c.in_ok-number.ensures (no_enum nfs_argop4 n (sym c.if-has_enum.ensures))
