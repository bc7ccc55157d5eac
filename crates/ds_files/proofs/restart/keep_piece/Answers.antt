use Rattle.std.proofs.Common.{◌≡◌, set, length, arith, sym, ap, refl, Some, ◌∙◌}
use Rattle.std.specs.Prelude.{slice_get}
use Rattle.std.proofs.lemmas.List.{length-set}
use Rattle.std.proofs.lemmas.Option.{slice_get_read}
use Rattle.cluster_model.proofs.Elements.{slice_get-set_same}
use Rattle.cluster_model.proofs.Elements.{slice_get-set_other}
use Rattle.ds_files.proofs.Keeping.{keeps_none, keeps_one}
use Rattle.ds_files.proofs.restart.keep_piece.Goals as goal

pub returns-in_default : goal.returns-in_default
returns-in_default c = keeps_none c.args.files.now c.args.piece.now c.args.kept.now.items c.requires c.in_default.ensures

pub keep-requires : goal.keep-requires
keep-requires c =
    let files = c.args.files.now in
    let kept = c.args.kept.now.items in
    let j = c.in-Some.index in
    let lt = c.in-Some.ensures.0 in
    let g = c.index-files-index.result in
    let b = c.index_mut.result.now in
    let file : slice_get files j ≡ Some g = slice_get_read files (length files) j g refl lt c.index-files-index.is in
    let was : slice_get kept j ≡ Some b = slice_get_read kept (length kept) j b refl (omega (arith, lt, c.requires.size)) c.index_mut.ensures.value in
    rw (c.take-before.ensures.value) (c.requires.each j g b file was)

pub returns : goal.returns
returns c =
    let files = c.args.files.now in
    let kept = c.args.kept.now.items in
    let j = c.in-Some.index in
    let lt = c.in-Some.ensures.0 in
    let g = c.index-files-index.result in
    let b = c.index_mut.result.now in
    let x = c.take-before.new.self in
    let after = c.in_ok-kept.field-0 in
    let file : slice_get files j ≡ Some g = slice_get_read files (length files) j g refl lt c.index-files-index.is in
    let was : slice_get kept j ≡ Some b = slice_get_read kept (length kept) j b refl (omega (arith, lt, c.requires.size)) c.index_mut.ensures.value in
    keeps_one files c.args.piece.now kept (set (set kept j x) j after) j g c.take-before.result after c.requires c.in-Some.ensures.1 file (was ∙ ap (λ k. Some k) (sym c.take-before.ensures.value))
    (length-set (set kept j x) j after ∙ length-set kept j x)
    (slice_get-set_same (set kept j x) j x after (slice_get-set_same kept j b x was))
    (λ i other. slice_get-set_other (set kept j x) j i after other ∙ slice_get-set_other kept j i x other)
    c.in_ok-kept.ensures.bytes c.in_ok-kept.ensures.bounded
