use Rattle.std.proofs.Common.{◌≡◌, [], ◌++◌, sym, ap, ◌∙◌, append_assoc, append-nil, refl}
use Rattle.std.proofs.lemmas.List.{take-append-drop}
use Rattle.hex.specs.Hex.{encode_with}
use Rattle.journal_print.proofs.Joins.{encode_with-append}
use Rattle.journal_print.proofs.hex_text.put_chunks.Goals as goal

pub loop-rest-init : goal.loop-rest-init
unfolding encode_with
loop-rest-init c = ([], refl, sym (append-nil _))

pub loop-rest-preserved : goal.loop-rest-preserved
loop-rest-preserved c =
    let done = c.loop-rest.invariant.0 in
    let chunk = c.split_at.result.0.now in
    let whole : chunk ++ c.split_at.result.1.now ≡ c.loop-rest.rest.now =
    rw (c.split_at.ensures.front, c.split_at.ensures.back) (take-append-drop _ _) in (
      done ++ chunk,
      c.loop-rest.invariant.1 ∙ ap (λ s. done ++ s) (sym whole) ∙ sym (append_assoc done chunk _),
      rw (c.in_ok-put_chunk.ensures, c.loop-rest.invariant.2, encode_with-append, append_assoc) refl,
    )
