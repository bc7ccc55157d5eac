use Rattle.std.proofs.Common.{◌+◌, ◌-◌, ◌++◌, ◌∙◌, List, ℕ, take, drop, length, ap, sym, subst, Some}
use Rattle.record_link.specs.Stream.{Comes}
use Rattle.record_link.proofs.OutgoingLemmas.{given_at, piece_is}
use Rattle.record_link.proofs.memory_stream.MemoryStreamStream.read.Goals as goal

pub returns-clause-told : goal.returns-clause-told
returns-clause-told c =
    let bytes = c.self.inside.bytes.items in
    let taken = c.self.inside.taken in
    let count = c.next_size-count.result in
    let copied = c.copy_from_slice.ensures.after ∙ ap (λ l. take ((taken + count) - taken) (drop taken l)) c.deref.ensures.value in
    let piece = take count (c.copy_from_slice.new.self ++ drop count c.args.piece.now) in
    let same = piece_is bytes c.copy_from_slice.new.self (drop count c.args.piece.now) c.self.inside.sizes.items (length c.args.piece.now) (c.len.result - taken) c.min.result taken count c.next_size-count.ensures.size c.min.ensures (ap (λ (n : ℕ). n - taken) (c.len.ensures ∙ sym c.deref.ensures.len ∙ ap length c.deref.ensures.value)) copied in
    subst (λ (l : List ℕ). Comes (Some l) piece (Some (drop (taken + count) bytes))) (ap (λ m. m.coming) c.self.view_is) (given_at bytes piece taken count same)
