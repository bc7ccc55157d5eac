use Rattle.std.proofs.Common.{◌≡◌, length, ◌-◌, rules, arith, ◌∙◌, subst, ℕ, Ok}
use Rattle.std.proofs.lemmas.List.{places}
use Rattle.std.proofs.lemmas.Slice.{take-put_mid_below}
use borrow.Rule.Slice.PartMut.{put_mid}
use Rattle.rpc_record.specs.Stream.{Reads}
use Rattle.line_runs.specs.Lines.{all_left}
use Rattle.user_nodes.proofs.PieceLemmas.{fills_more, filled_to_end}
use Rattle.user_nodes.proofs.pieces.read_piece.Goals as goal

-- src/pieces.rt:28:13
pub returns-then-count-eq0-clause-told : goal.returns-then-count-eq0-clause-told
returns-then-count-eq0-clause-told g c =
    let k = length c.reads.piece - c.reads.filled in
    let same = take-put_mid_below c.reads.filled k c.reads.piece c.read.new.piece c.reads.filled (omega arith) (omega arith) in
    let long : length (put_mid c.reads.filled k c.reads.piece c.read.new.piece) ≡ length c.reads.piece = search (rules, places) in
    let end = subst (λ (n : ℕ). Reads (all_left c.reads.buffer (g.S.Source.left c.reads.source)) c.read.new.piece (Ok n) (all_left c.read.new.self (g.S.Source.left c.read.new.source))) c.if-count-eq0.true c.in_ok-count.ensures.told in
    filled_to_end (all_left c.args.buffer.now (g.S.Source.left c.args.source.now)) c.reads.piece c.read.new.piece (put_mid c.reads.filled k c.reads.piece c.read.new.piece) c.reads.filled
    (all_left c.reads.buffer (g.S.Source.left c.reads.source)) (all_left c.read.new.self (g.S.Source.left c.read.new.source)) (omega arith) long c.reads.invariant.within same c.reads.invariant.told end

-- src/pieces.rt:25:5
pub reads-preserved : goal.reads-preserved
reads-preserved g c = record {
  within =
      let k = length c.reads.piece - c.reads.filled in
      let long : length (put_mid c.reads.filled k c.reads.piece c.read.new.piece) ≡ length c.reads.piece = search (rules, places) in
      omega (arith, long, c.in_ok-count.ensures.within, c.reads.invariant.within);
  told =
      fills_more (all_left c.args.buffer.now (g.S.Source.left c.args.source.now)) c.reads.piece c.read.new.piece c.reads.filled (length c.reads.piece - c.reads.filled) c.in_ok-count.count
      (all_left c.reads.buffer (g.S.Source.left c.reads.source)) (all_left c.read.new.self (g.S.Source.left c.read.new.source)) c.reads.invariant.within c.in_ok-count.ensures.within c.reads.invariant.told c.in_ok-count.ensures.told;
  faults = c.in_ok-count.ensures.faults ∙ c.reads.invariant.faults;
}
