use Rattle.file_pages.specs.Places.{IsPagePlace}
use Rattle.file_pages.specs.Steps.{AreFresh}
use Rattle.file_pages.proofs.write.fresh_pages.Given as goal

abbrev pub invariant-loop-number : goal.invariant-loop-number
invariant-loop-number l = record {
  place : IsPagePlace l.number l.pages l.place;
  fresh : AreFresh l.base l.pages l.at l.bytes l.number l.fresh.items;
}
