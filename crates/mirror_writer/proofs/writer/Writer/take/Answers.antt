use Rattle.std.proofs.Common.{◌≡◌, ◌∷◌, [], ◌++◌, subst, sym, ap, ◌∙◌, ◌<◌, ℕ, false, List, length}
use Rattle.mirror_writer.specs.declared.call.TakenWrite.{TakenWrite}
use Rattle.mirror_writer.specs.Extents.{AddsPlaces, SharesPlace}
use Rattle.mirror_writer.specs.Places.{ArePlacesOf}
use Rattle.mirror_writer.specs.Writers.{WriterValue, overlaps_taken}
use Rattle.mirror_writer.proofs.PlaceLemmas.{none_shared, one_more}
use Rattle.mirror_writer.proofs.writer.Writer.take.Goals as goal

pub insert-requires-clause-fresh : goal.insert-requires-clause-fresh
insert-requires-clause-fresh c =
    let w = c.self.inside in
    subst (λ (n : ℕ). SharesPlace w.places c.args.at n false) (ap length (sym c.bytes.ensures.bytes))
    (none_shared w.taken.items w.places c.args.at (length c.args.bytes.now) c.self.invariant
    (subst (λ (s : WriterValue). overlaps_taken s c.args.at (length c.args.bytes.now) ≡ false) (sym c.self.view_is) c.requires.apart))

pub invariant_of-self-2 : goal.invariant_of-self-2
invariant_of-self-2 c =
    let w = c.self.inside in
    let new : TakenWrite = record { at = c.args.at; bytes = c.in_ok-share.field-0 } in
    let same : new.bytes ≡ c.args.bytes.now = c.in_ok-share.ensures in
    let adds = subst (λ (n : ℕ). AddsPlaces w.places c.args.at n c.insert.new.self) (ap length (c.bytes.ensures.bytes ∙ sym same)) c.in_ok-insert.ensures.ok in
    subst (λ (l : List TakenWrite). ArePlacesOf l c.insert.new.self) (ap (λ l. l ++ new ∷ []) (sym c.reserve.ensures.items) ∙ sym c.push_reserved.ensures.items)
    (one_more w.taken.items w.places c.insert.new.self new c.self.invariant (subst (λ (n : ℕ). 0 < n) (ap length (sym same)) c.bytes.ensures.some) adds)
