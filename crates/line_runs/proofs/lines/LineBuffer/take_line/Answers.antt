use Rattle.std.proofs.Common.{◌≡◌, ℕ, ◌<◌, List, ◌++◌, length, slice_range, take, refl, ap, subst, ◌∙◌, arith}
use Rattle.std.proofs.lemmas.Grind.{common_steps}
use Rattle.line_runs.specs.Lines.{Line}
use Rattle.line_runs.proofs.LineLemmas.{found_within, found_beyond, not_found_within, not_found_beyond, taken_rest}
use Rattle.line_runs.proofs.lines.LineBuffer.take_line.Goals as goal

-- the bytes that were searched are those that are held
searched : (piece buffer : List ℕ) (start end : ℕ) (held : List ℕ) → buffer ≡ piece → slice_range piece start end ≡ held → slice_range buffer start end ≡ held
searched piece buffer start end held same is = ap (λ bs. slice_range bs start end) same ∙ is

pub returns-in_ok-append-in-Some : goal.returns-in_ok-append-in-Some
returns-in_ok-append-in-Some c =
    let at = c.in-Some.at in
    let inside = c.self.inside in
    let same = searched inside.piece.items c.deref.result.now inside.start inside.end c.args.self.now c.deref.ensures.value c.self.view_is in
    let found = c.in-Some.ensures in
    let moved : List ℕ = take at (slice_range c.deref.result.now inside.start inside.end) in
    let within : at < length c.args.self.now = subst (λ (bs : List ℕ). at < length bs) same found.0.high in (
      moved,
      c.in_ok-append-in-Some.ensures.line,
      found_within c.args.room at _ c.args.self.now same c.if-at-room.true found
          ∙ ap (Line moved) (taken_rest inside.piece.items inside.start inside.end at c.args.self.now c.self.view_is within),
    )

pub returns-in-Some-2 : goal.returns-in-Some-2
returns-in-Some-2 c =
    let inside = c.self.inside in
    let same = searched inside.piece.items c.deref.result.now inside.start inside.end c.args.self.now c.deref.ensures.value c.self.view_is in
    (found_beyond c.args.room c.in-Some.at _ c.args.self.now same c.if-at-room.false c.in-Some.ensures, refl, refl)

pub returns-in_ok-append-in-None : goal.returns-in_ok-append-in-None
returns-in_ok-append-in-None c =
    let inside = c.self.inside in
    let same = searched inside.piece.items c.deref.result.now inside.start inside.end c.args.self.now c.deref.ensures.value c.self.view_is in (
      not_found_within c.args.room _ c.args.self.now same c.if-held-room.true c.in-None.ensures,
      grind (arith, common_steps),
      c.in_ok-append-in-None.ensures.line ∙ ap (λ bs. c.args.line.now.items ++ bs) same,
    )

pub returns-in-None-2 : goal.returns-in-None-2
returns-in-None-2 c =
    let inside = c.self.inside in
    let same = searched inside.piece.items c.deref.result.now inside.start inside.end c.args.self.now c.deref.ensures.value c.self.view_is in
    (not_found_beyond c.args.room _ c.args.self.now same c.if-held-room.false c.in-None.ensures, refl, refl)
