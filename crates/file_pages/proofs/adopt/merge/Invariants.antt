use Rattle.std.proofs.Common.{◌≡◌, ℕ, ◌+◌, ◌≤◌, take, reverse}
use Rattle.std.specs.Vec.{vec_len, vec_capacity}
use Rattle.file_pages.specs.Pages.{page_over}
use Rattle.file_pages.specs.Places.{AreSoundPages, AreNumberedBelowFirst}
use Rattle.file_pages.proofs.adopt.merge.Given as goal

abbrev pub invariant-loop-page : goal.invariant-loop-page
invariant-loop-page l = record {
  kept : AreSoundPages l.pages.items;
  left : AreSoundPages (reverse l.dirty.items);
  within : l.next ≤ vec_len l.pages;
  below : AreNumberedBelowFirst (take l.next l.pages.items) (reverse l.dirty.items);
  room : vec_len l.pages + vec_len l.dirty ≤ vec_capacity l.pages;
  over : (number : ℕ) → page_over l.pages.items (reverse l.dirty.items) number ≡ page_over l.fn.pages.items l.fn.dirty.items number;
  len : vec_len l.pages + vec_len l.dirty ≤ vec_len l.fn.pages + vec_len l.fn.dirty;
}

abbrev pub decreases-loop-page : goal.decreases-loop-page
decreases-loop-page l = vec_len l.dirty
