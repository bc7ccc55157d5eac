use Rattle.std.proofs.Common.{◌≡◌, ℕ, ◌+◌, ◌*◌, ◌<◌, length, get_or}
use Rattle.file_pages.specs.Pages.{byte_at}
use Rattle.file_pages.specs.Places.{IsPagePlace}
use Rattle.file_pages.proofs.read.read_pages.Given as goal

abbrev pub invariant-loop-number : goal.invariant-loop-number
invariant-loop-number l = record {
  place : IsPagePlace l.number l.pages l.place;
  long : length l.piece ≡ length l.fn.piece;
  bytes : (i : ℕ) → i < length l.piece → l.at + i < l.number * 4096 → get_or l.piece i 0 ≡ byte_at l.pages (l.at + i);
}
