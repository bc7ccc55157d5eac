use Rattle.std.proofs.Common.{◌≡◌, ◌+◌, ◌++◌, ◌∷◌, [], ◌<◌, ◌∙◌, ap, true, length, arith}
use Rattle.ff_xdr.proofs.Fields.{length-word}
use Rattle.rpc_record.specs.Frames.{header_word}
use Rattle.ff_xdr.specs.Form.{word}
use Rattle.record_link.proofs.PieceLemmas.{kept, shown}
use Rattle.record_link.proofs.outgoing.Outgoing.put_piece.Goals as goal

pub invariant_of-self-2 : goal.invariant_of-self-2
invariant_of-self-2 c =
    let made : c.push_back_reserved-2.new.self.items ≡ (c.self.inside.pieces.items ++ (c.self.inside.tail.items ++ c.header_of-header.result) ∷ []) ++ c.args.message ∷ []
    = cc (c.push_back_reserved-2.ensures.items, c.push_back_reserved.ensures.items, c.from_vec.ensures, c.replace-tail.ensures.value, c.in_ok-extend_from_slice.ensures.items, c.in_ok-reserve.ensures.items) in
    let empty : c.replace-tail.new.dest.items ≡ [] = cc (c.replace-tail.ensures.after, c.new.ensures.items) in
    let long : length c.header_of-header.result ≡ 4 = ap length c.header_of-header.ensures ∙ length-word (header_word (length c.bytes.result.now) true) in
    let some : 0 < length c.header_of-header.result = omega (arith, long) in
    let more : c.in_ok-waiting.waiting ≡ c.self.inside.waiting + (length c.header_of-header.result + length c.args.message) = omega (arith, long, c.in_ok-waiting.ensures, ap length c.bytes-2.ensures) in
    kept c.self.inside.pieces.items c.self.inside.tail.items c.header_of-header.result c.args.message c.push_back_reserved-2.new.self.items c.replace-tail.new.dest.items made empty
    c.self.inside.start c.self.inside.waiting c.in_ok-waiting.waiting c.self.invariant some c.requires.filled more

pub returns : goal.returns
returns c =
    let made : c.push_back_reserved-2.new.self.items ≡ (c.self.inside.pieces.items ++ (c.self.inside.tail.items ++ c.header_of-header.result) ∷ []) ++ c.args.message ∷ []
    = cc (c.push_back_reserved-2.ensures.items, c.push_back_reserved.ensures.items, c.from_vec.ensures, c.replace-tail.ensures.value, c.in_ok-extend_from_slice.ensures.items, c.in_ok-reserve.ensures.items) in
    let empty : c.replace-tail.new.dest.items ≡ [] = cc (c.replace-tail.ensures.after, c.new.ensures.items) in
    let header : c.header_of-header.result ≡ word (header_word (length c.args.message) true) = c.header_of-header.ensures ∙ ap (λ l. word (header_word (length l) true)) c.bytes.ensures in
    shown c.self.inside.pieces.items c.self.inside.tail.items c.header_of-header.result c.args.message c.push_back_reserved-2.new.self.items c.replace-tail.new.dest.items made empty
    c.args.self.now c.self.inside.start c.self.inside.waiting c.self.invariant c.self.view_is
    ∙ ap (λ h. c.args.self.now ++ (h ++ c.args.message)) header
