use Rattle.std.proofs.Common.{◌≡◌, List, length, take, arith, ap, subst, ◌∙◌}
use Rattle.std.proofs.Math.Seq.{take-length}
use Rattle.cluster_model.specs.declared.piece.Piece.{Piece}
use Rattle.ds_files.specs.Kept.{AreKept}
use Rattle.ds_files.proofs.restart.keep_pieces.Goals as goal

pub returns-clause-kept : goal.returns-clause-kept
returns-clause-kept c =
    let all : c.loop-piece.piece-index ≡ length c.args.pieces.now = omega (arith, c.loop-piece.auto.piece-index-end, c.loop-piece-test.false) in
    subst (λ (ps : List Piece). AreKept c.args.files.now ps c.loop-piece.kept.items) (ap (λ n. take n c.args.pieces.now) all ∙ take-length c.args.pieces.now) c.loop-piece.invariant.1
