use Rattle.std.proofs.Common.{◌≡◌, ℕ, refl, ap, subst, true, false, Bool, length}
use Rattle.mirror_writer.specs.Writers.{WriterValue, overlaps_taken}
use Rattle.mirror_writer.specs.Extents.{SharesPlace}
use Rattle.mirror_writer.proofs.PlaceLemmas.{overlap_found, overlap_none}
use Rattle.mirror_writer.proofs.writer.Writer.write.Goals as goal

pub returns-then-overlaps : goal.returns-then-overlaps
returns-then-overlaps c =
    let w = c.self.inside in
    let shares =
    subst (λ (n : ℕ). SharesPlace w.places c.args.at n true) (ap length c.bytes.ensures.bytes)
    (subst (λ (b : Bool). SharesPlace w.places c.args.at (length c.bytes.result.now) b) c.if-overlaps.true c.overlaps.ensures) in
    rw (← c.self.view_is) ((overlap_found w.taken.items w.places c.args.at (length c.args.bytes.now) c.self.invariant shares, refl))

pub take-requires-clause-apart : goal.take-requires-clause-apart
take-requires-clause-apart c =
    let w = c.self.inside in
    let shares =
    subst (λ (n : ℕ). SharesPlace w.places c.args.at n false) (ap length c.bytes.ensures.bytes)
    (subst (λ (b : Bool). SharesPlace w.places c.args.at (length c.bytes.result.now) b) c.if-overlaps.false c.overlaps.ensures) in
    rw (← c.self.view_is) (overlap_none w.taken.items w.places c.args.at (length c.args.bytes.now) c.bytes.ensures.some c.self.invariant shares)

pub returns-in-Ok : goal.returns-in-Ok
returns-in-Ok c =
    let w = c.self.inside in
    let shares =
    subst (λ (n : ℕ). SharesPlace w.places c.args.at n false) (ap length c.bytes.ensures.bytes)
    (subst (λ (b : Bool). SharesPlace w.places c.args.at (length c.bytes.result.now) b) c.if-overlaps.false c.overlaps.ensures) in
    let apart = overlap_none w.taken.items w.places c.args.at (length c.args.bytes.now) c.bytes.ensures.some c.self.invariant shares in
    (subst (λ (s : WriterValue). overlaps_taken s c.args.at (length c.args.bytes.now) ≡ false) c.self.view_is apart, c.in-Ok.ensures.ok)
