use Rattle.std.proofs.Common.{◌≡◌, ◌<◌, true, false, length, refl, sym, ◌∙◌, arith}
use Rattle.std.specs.Prelude.{slice_get}
use Rattle.std.proofs.lemmas.List.{take-append-drop}
use Rattle.file_pages.specs.Steps.{end_touched, is_below}
use Rattle.file_pages.proofs.WriteLemmas.{written_before, goes_on, ends, long_as_before, touched_here, rise_on, one_more_written}
use Rattle.file_pages.proofs.write.write_kept.Goals as goal

pub loop-pages-init : goal.loop-pages-init
loop-pages-init c =
    let old = c.args.pages.now.items in
    let place = c.args.place in
    record {
      within = c.requires.place.within;
      rise = c.requires.place.behind;
      items = rw (written_before c.args.at c.args.bytes.now _ c.requires.place.below, take-append-drop place old) refl;
      capacity = refl;
    }

pub index_mut-requires : goal.index_mut-requires
index_mut-requires c =
    let i = c.loop-pages.invariant in
    let below : is_below (end_touched c.args.at (length c.args.bytes.now)) (slice_get c.loop-pages.pages.items c.loop-pages.place) ≡ true = rw (c.end_of-end.ensures, c.deref.ensures.value) at (sym c.is_below.ensures ∙ c.loop-pages-test.true) in
    let inside : c.loop-pages.place < length c.args.pages.now.items = goes_on c.args.at c.args.bytes.now c.args.pages.now.items c.loop-pages.pages.items c.loop-pages.place i.within i.items _ below in
    let size = long_as_before c.args.at c.args.bytes.now c.args.pages.now.items c.loop-pages.pages.items c.loop-pages.place i.within i.items in
    let long = c.loop-pages.pages.ok.0 in
    omega (arith, inside, size, long)

pub write-requires-clause-touched : goal.write-requires-clause-touched
write-requires-clause-touched c =
    let i = c.loop-pages.invariant in
    let below : is_below (end_touched c.args.at (length c.args.bytes.now)) (slice_get c.loop-pages.pages.items c.loop-pages.place) ≡ true = rw (c.end_of-end.ensures, c.deref.ensures.value) at (sym c.is_below.ensures ∙ c.loop-pages-test.true) in
    let inside : c.loop-pages.place < length c.args.pages.now.items = goes_on c.args.at c.args.bytes.now c.args.pages.now.items c.loop-pages.pages.items c.loop-pages.place i.within i.items _ below in
    touched_here c.args.at c.args.bytes.now c.args.pages.now.items c.loop-pages.pages.items c.loop-pages.place i.within i.items c.index_mut.result.now c.index_mut.ensures.value inside c.requires.some i.rise below

pub loop-pages-smaller : goal.loop-pages-smaller
loop-pages-smaller c =
    let i = c.loop-pages.invariant in
    let below : is_below (end_touched c.args.at (length c.args.bytes.now)) (slice_get c.loop-pages.pages.items c.loop-pages.place) ≡ true = rw (c.end_of-end.ensures, c.deref.ensures.value) at (sym c.is_below.ensures ∙ c.loop-pages-test.true) in
    let inside : c.loop-pages.place < length c.args.pages.now.items = goes_on c.args.at c.args.bytes.now c.args.pages.now.items c.loop-pages.pages.items c.loop-pages.place i.within i.items _ below in
    omega (arith, inside)

pub loop-pages-preserved : goal.loop-pages-preserved
loop-pages-preserved c =
    let i = c.loop-pages.invariant in
    let old = c.args.pages.now.items in
    let items = c.loop-pages.pages.items in
    let place = c.loop-pages.place in
    let below : is_below (end_touched c.args.at (length c.args.bytes.now)) (slice_get items place) ≡ true = rw (c.end_of-end.ensures, c.deref.ensures.value) at (sym c.is_below.ensures ∙ c.loop-pages-test.true) in
    let inside : place < length old = goes_on c.args.at c.args.bytes.now old items place i.within i.items _ below in
    let page = c.index_mut.result.now in
    let there = c.index_mut.ensures.value in
    let touched = touched_here c.args.at c.args.bytes.now old items place i.within i.items page there inside c.requires.some i.rise below in
    record {
      within = omega (arith, inside);
      rise = rise_on c.args.at c.args.bytes.now old items place i.within i.items page there inside i.rise;
      items = one_more_written c.args.at c.args.bytes.now old items place i.within i.items page there inside c.write.new.self touched c.write.ensures;
      capacity = i.capacity;
    }

pub returns-clause-items : goal.returns-clause-items
returns-clause-items c =
    let i = c.loop-pages.invariant in
    let below : is_below (end_touched c.args.at (length c.args.bytes.now)) (slice_get c.loop-pages.pages.items c.loop-pages.place) ≡ false = rw (c.end_of-end.ensures, c.deref.ensures.value) at (sym c.is_below.ensures ∙ c.loop-pages-test.false) in
    ends c.args.at c.args.bytes.now c.args.pages.now.items c.loop-pages.pages.items c.loop-pages.place i.within i.items i.rise below
