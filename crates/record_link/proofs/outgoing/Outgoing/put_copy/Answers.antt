use Rattle.std.proofs.Common.{◌≡◌, ℕ, ◌+◌, ◌++◌, true, length, arith}
use Rattle.std.proofs.lemmas.List.{length-append}
use Rattle.ff_xdr.proofs.Fields.{length-word}
use Rattle.rpc_record.specs.Frames.{header_word}
use Rattle.ff_xdr.specs.Form.{word}
use Rattle.record_link.proofs.PieceLemmas.{copied}
use Rattle.record_link.proofs.outgoing.Outgoing.put_copy.Goals as goal

pub invariant_of-self-2 : goal.invariant_of-self-2
invariant_of-self-2 c =
    let header : ℕ = header_word (length c.args.message.now) true in
    let more : c.in_ok-waiting.waiting ≡ c.self.inside.waiting + length (word header ++ c.args.message.now) = omega (arith, c.in_ok-waiting.ensures, length-append (word header) c.args.message.now, length-word header) in
    rw c.in_ok-copy_record.ensures (copied c.self.inside.pieces.items c.self.inside.tail.items (word header ++ c.args.message.now) c.self.inside.start c.self.inside.waiting c.in_ok-waiting.waiting c.self.invariant more)
