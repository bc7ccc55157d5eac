use Rattle.std.proofs.Common.{◌≡◌, ◌-◌, ◌≤◌, ◌++◌, length, take, drop}
use Rattle.std.specs.Vec.{vec_capacity}
use Rattle.file_pages.specs.Pages.{RiseFrom}
use Rattle.file_pages.specs.Steps.{first_touched, written_in}
use Rattle.file_pages.proofs.write.write_kept.Given as goal

abbrev pub invariant-loop-pages : goal.invariant-loop-pages
invariant-loop-pages l = record {
  within : l.place ≤ length l.fn.pages.items;
  rise : RiseFrom (first_touched l.at) (drop l.place l.fn.pages.items);
  items : l.pages.items ≡ written_in l.at l.bytes (take l.place l.fn.pages.items) ++ drop l.place l.fn.pages.items;
  capacity : vec_capacity l.pages ≡ vec_capacity l.fn.pages;
}

abbrev pub decreases-loop-pages : goal.decreases-loop-pages
decreases-loop-pages l = length l.fn.pages.items - l.place
