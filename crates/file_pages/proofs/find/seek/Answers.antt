use Rattle.std.proofs.Common.{nat_lt, rules, of_calls, arith}
use Rattle.std.proofs.lemmas.Fn.{always_returns_same}
use Rattle.std.proofs.lemmas.List.Sorted.{IsPartitionedBy-ltb}
use Rattle.file_pages.proofs.PlaceLemmas.{Numbered, point_is, place_last, rise_between}
use Rattle.file_pages.proofs.find.seek.Goals as goal

pub returns-in-Some : goal.returns-in-Some
returns-in-Some c =
    let looked = c.in-Some.ensures.item in
    place_last c.args.number c.args.pages.now c.in-Some.page.now c.requires looked.3.0 looked.1 (omega arith)

pub returns-in_default : goal.returns-in_default
returns-in_default c =
    let pages = c.args.pages.now in
    let facts = c.partition_point.ensures in
    point_is c.args.number pages c.partition_point.result c.requires facts.bound
    (facts.partitioned (λ (page : Numbered). nat_lt page.0 c.args.number) (always_returns_same _ _ _ (λ a r f k. search (rules, of_calls))) (IsPartitionedBy-ltb (λ (page : Numbered). page.0) pages c.args.number (rise_between 0 pages c.requires)))
