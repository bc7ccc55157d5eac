-- What the steps of `Frames` take of a piece.
use Rattle.std.proofs.Common.{◌≡◌, ℕ, ◌+◌, ◌-◌, ◌<◌, ◌≤◌, min, Bool, true, List, [], ◌++◌, length, take, drop, refl, sym, ap, subst, ◌∙◌, append_assoc, arith}
use Rattle.std.proofs.lemmas.List.{append-nil, length-append, length-take-le, length-drop, drop_all}
use Rattle.std.proofs.Math.Seq.{take-add}
use Rattle.rpc_record.specs.declared.frames.Stage.{Stage}
use Rattle.rpc_record.specs.declared.frames.Stage.TheVariants as stage
use Rattle.rpc_record.specs.Frames.{max_record, Front}
use Rattle.rpc_record.specs.FramesView.{front_at, IsStage, IsInLimit, is_more, front_settled, resume, Steps, TakesSome, Gathers}
use Rattle.rpc_record.proofs.FrameSteps.{body_steps}

pub takes_body : (old : List ℕ) (start : Stage) (piece : List ℕ) (n : ℕ) (new : List ℕ) (end : Stage) (h left : ℕ) (last : Bool)
    → start ≡ stage.Body h left last → IsStage start → 0 < length piece → n ≡ min left (length piece) → new ≡ old ++ take n piece
    → ((g : List ℕ) → front_at g end ≡ front_settled g h (left - n) last) → IsStage end → ((m : ℕ) → m + (left - n) ≤ max_record → IsInLimit m end) → TakesSome old start piece n new end
takes_body old start piece n new end h left last is stands some count grows front ends within =
    let some_left : 0 < left = subst IsStage is stands in
    let size : length (take n piece) ≡ n = length-take-le n piece (omega arith) in
    let steps : Steps (front_at old (stage.Body h left last)) (take n piece) (front_settled (old ++ take n piece) h (left - length (take n piece)) last) = body_steps h old left last (take n piece) (omega (arith, size)) in
    let there : front_settled (old ++ take n piece) h (left - length (take n piece)) last ≡ front_at new end = rw (size, ← grows) (sym (front new)) in
    record {
      some = omega arith;
      within = omega arith;
      steps = subst (λ (f : Front). Steps (front_at old start) (take n piece) f) there (subst (λ (s : Stage). Steps (front_at old s) (take n piece) (front_settled (old ++ take n piece) h (left - length (take n piece)) last)) (sym is) steps);
      stage = ends;
      limit = λ low.
          let before : length old + left ≤ max_record = subst (λ (s : Stage). IsInLimit (length old) s) is low in
          let now : length new ≡ length old + n = ap (λ (g : List ℕ). length g) grows ∙ length-append old (take n piece) ∙ ap (λ (k : ℕ). length old + k) size in
          within (length new) (omega (arith, before, now, size));
      added = take n piece;
      grows = grows;
    }

-- so many bytes of a piece were taken, and what was gathered before it stays
pub record Underway (old : List ℕ) (start : Stage) (piece : List ℕ) (taken : ℕ) (new : List ℕ) (now : Stage) : Type 0 where
  pub within : taken ≤ length piece
  pub steps : Steps (front_at old start) (take taken piece) (front_at new now)
  pub stage : IsStage now
  pub limit : IsInLimit (length old) start → IsInLimit (length new) now
  pub added : List ℕ
  pub grows : new ≡ old ++ added
  pub more : is_more now ≡ true → is_more start ≡ true

pub underway_first : (old : List ℕ) (start : Stage) (piece : List ℕ) → IsStage start → Underway old start piece 0 old start
underway_first old start piece stands = record {
  within = omega arith;
  steps = λ more. refl;
  stage = stands;
  limit = λ low. low;
  added = [];
  grows = sym (append-nil old);
  more = λ e. e;
}

steps_join : (f g h : Front) (a b : List ℕ) → Steps f a g → Steps g b h → Steps f (a ++ b) h
steps_join f g h a b first second more = ap (λ (t : List ℕ). resume f t) (append_assoc a b more) ∙ first (b ++ more) ∙ second more

pub underway_more : (old : List ℕ) (start : Stage) (piece : List ℕ) (taken : ℕ) (mid : List ℕ) (now : Stage) (n : ℕ) (new : List ℕ) (end : Stage)
    → Underway old start piece taken mid now → is_more now ≡ true → TakesSome mid now (drop taken piece) n new end → Underway old start piece (taken + n) new end
underway_more old start piece taken mid now n new end u more t =
    let join = steps_join (front_at old start) (front_at mid now) (front_at new end) (take taken piece) (take n (drop taken piece)) u.steps t.steps in
    record {
      within = omega (arith, length-drop taken piece, u.within, t.within);
      steps = rw (take-add taken n piece) join;
      stage = t.stage;
      limit = λ low. t.limit (u.limit low);
      added = u.added ++ t.added;
      grows = t.grows ∙ ap (λ (g : List ℕ). g ++ t.added) u.grows ∙ append_assoc old u.added t.added;
      more = λ e. u.more more;
    }

pub gathers_from : (old : List ℕ) (start : Stage) (piece : List ℕ) (taken : ℕ) (new : List ℕ) (end : Stage) → Underway old start piece taken new end → (is_more end ≡ true → length piece ≤ taken) → Gathers old start piece taken new end
gathers_from old start piece taken new end u stops = record {
  within = u.within;
  steps = u.steps;
  stage = u.stage;
  limit = u.limit;
  stops = λ more. drop_all taken piece (stops more);
}
