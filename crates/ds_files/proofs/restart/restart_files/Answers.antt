use Rattle.std.proofs.Common.{◌≡◌, ◌+◌, [], ◌∷◌, length, get_or, arith, ap, ◌∙◌}
use Rattle.std.specs.Prelude.{Some, slice_get}
use Rattle.std.proofs.lemmas.Grind.{common_steps}
use Rattle.std.proofs.lemmas.List.{length-append}
use Rattle.std.proofs.lemmas.Option.{slice_get-get_or}
use Rattle.ds_files.proofs.Keeping.{begins, ends, one_more, bounded_next}
use Rattle.ds_files.proofs.restart.restart_files.Goals as goal

pub loop-bytes-init : goal.loop-bytes-init
loop-bytes-init c = begins c.args.files.now c.args.kept.items c.requires.size

pub offset_bounds-files-index : goal.offset_bounds-files-index
offset_bounds-files-index c =
    let long : length c.loop-bytes.kept.items ≡ length c.pop.new.self.items + 1 = ap length c.in-Some.ensures.items ∙ length-append c.pop.new.self.items (c.in-Some.bytes ∷ []) in
    let within = c.loop-bytes.invariant.within in
    let size = c.loop-bytes.invariant.size in
    grind (arith, common_steps)

pub bounds-files-index : goal.bounds-files-index
bounds-files-index c =
    let long : length c.loop-bytes.kept.items ≡ length c.pop.new.self.items + 1 = ap length c.in-Some.ensures.items ∙ length-append c.pop.new.self.items (c.in-Some.bytes ∷ []) in
    let within = c.loop-bytes.invariant.within in
    let size = c.loop-bytes.invariant.size in
    grind (arith, common_steps)

pub restart-requires : goal.restart-requires
restart-requires c =
    let files = c.loop-bytes.files in
    let rest = c.pop.new.self.items in
    let n : c.len-index.result ≡ length rest = grind (arith, common_steps) in
    let long : length c.loop-bytes.kept.items ≡ length rest + 1 = ap length c.in-Some.ensures.items ∙ length-append rest (c.in-Some.bytes ∷ []) in
    let within = c.loop-bytes.invariant.within in
    let size = c.loop-bytes.invariant.size in
    let f = get_or files (length rest) c.index-files-index.result in
    let there : slice_get files (length rest) ≡ Some f = slice_get-get_or files (length rest) c.index-files-index.result (omega (arith, long, within, size)) in
    rw n (bounded_next c.args.files.now c.args.kept.items files c.loop-bytes.kept.items rest f c.in-Some.bytes c.loop-bytes.invariant c.in-Some.ensures.items c.requires there)

pub loop-bytes-smaller : goal.loop-bytes-smaller
loop-bytes-smaller c =
    let long : length c.loop-bytes.kept.items ≡ length c.pop.new.self.items + 1 = ap length c.in-Some.ensures.items ∙ length-append c.pop.new.self.items (c.in-Some.bytes ∷ []) in
    omega (arith, long)

pub loop-bytes-preserved : goal.loop-bytes-preserved
loop-bytes-preserved c =
    let files = c.loop-bytes.files in
    let rest = c.pop.new.self.items in
    let n : c.len-index.result ≡ length rest = grind (arith, common_steps) in
    let long : length c.loop-bytes.kept.items ≡ length rest + 1 = ap length c.in-Some.ensures.items ∙ length-append rest (c.in-Some.bytes ∷ []) in
    let within = c.loop-bytes.invariant.within in
    let size = c.loop-bytes.invariant.size in
    let f = get_or files (length rest) c.index-files-index.result in
    let there : slice_get files (length rest) ≡ Some f = slice_get-get_or files (length rest) c.index-files-index.result (omega (arith, long, within, size)) in
    rw (c.restart.ensures, n) (one_more c.args.files.now c.args.kept.items files c.loop-bytes.kept.items rest f c.in-Some.bytes c.loop-bytes.invariant c.in-Some.ensures.items there)

pub returns : goal.returns
returns c = ends c.args.files.now c.args.kept.items c.loop-bytes.files c.loop-bytes.kept.items (grind (arith, common_steps)) c.loop-bytes.invariant
