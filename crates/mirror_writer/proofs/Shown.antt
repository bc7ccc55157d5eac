-- What the mirrors show.
use Rattle.std.proofs.Common.{◌≡◌, ℕ, ◌+◌, ◌<◌, false, List, [], ◌∷◌, ◌++◌, length, map, take, drop, replicate, get_or, set, Some, refl, sym, ap, ◌∙◌, arith}
use Rattle.std.specs.Prelude.{slice_get, option_map}
use Rattle.std.proofs.lemmas.List.{map-set, get_or-map, length-map}
use Rattle.std.proofs.lemmas.List.Edits.{map_over_more}
use Rattle.std.proofs.Math.Seq.{map-set_same}
use Rattle.std.proofs.lemmas.Option.{slice_get-map, slice_get-get_or}
use Rattle.mirror_writer.specs.Writers.{WriterMirror, queued}
use Rattle.mirror_writer.specs.Rooms.{RoomyMirror, mirrors_shown, has_failed_in}
use Rattle.mirror_writer.specs.MirrorSteps.{MirrorAfter, StepsAt, SetsAt}
use Rattle.mirror_writer.specs.declared.call.MirrorOutcome.{MirrorOutcome}
use Rattle.cluster_model.specs.declared.ids.MirrorId.{MirrorId}

-- the first four places
pub four_places : (rs : List RoomyMirror)
    → take 4 (map (λ m. m.has_failed) (mirrors_shown rs) ++ replicate 4 false)
    ≡ has_failed_in (slice_get rs 0) ∷ has_failed_in (slice_get rs 1) ∷ has_failed_in (slice_get rs 2) ∷ has_failed_in (slice_get rs 3) ∷ []
four_places [] = refl
four_places (a ∷ []) = refl
four_places (a ∷ b ∷ []) = refl
four_places (a ∷ b ∷ c ∷ []) = refl
four_places (a ∷ b ∷ c ∷ d ∷ rs) = refl

-- the mirror at a place, and what is set there
shown_at : (rs : List RoomyMirror) (place : ℕ) (d : RoomyMirror) → place < length rs → slice_get (mirrors_shown rs) place ≡ Some (get_or rs place d).mirror
shown_at rs place d within = slice_get-map (λ r. r.mirror) rs place ∙ ap (option_map (λ r. r.mirror)) (slice_get-get_or rs place d within)

shown_set : (rs : List RoomyMirror) (place : ℕ) (new : RoomyMirror) (m : WriterMirror) → new.mirror ≡ m → mirrors_shown (set rs place new) ≡ set (mirrors_shown rs) place m
shown_set rs place new m is = map-set (λ r. r.mirror) rs place new ∙ ap (set (mirrors_shown rs) place) is

pub sets_at : (change : WriterMirror → WriterMirror) (rs : List RoomyMirror) (place : ℕ) (d new : RoomyMirror) → place < length rs
    → new.mirror ≡ change (get_or rs place d).mirror → SetsAt (mirrors_shown rs) place change (mirrors_shown (set rs place new))
sets_at change rs place d new within does = record {
  mirror = (get_or rs place d).mirror;
  found = shown_at rs place d within;
  set = shown_set rs place new (change (get_or rs place d).mirror) does;
}

pub steps_at : (step : WriterMirror → MirrorAfter) (rs : List RoomyMirror) (place : ℕ) (d new : RoomyMirror) (id : MirrorId) (outcome : MirrorOutcome) → place < length rs
    → id ≡ (get_or rs place d).mirror.id → record { mirror = new.mirror; outcome = outcome } ≡ step (get_or rs place d).mirror
    → StepsAt step (mirrors_shown rs) place id outcome (mirrors_shown (set rs place new))
steps_at step rs place d new id outcome within named does = record {
  mirror = (get_or rs place d).mirror;
  found = shown_at rs place d within;
  id_is = named;
  outcome_is = ap (λ (a : MirrorAfter). a.outcome) does;
  set = shown_set rs place new (step (get_or rs place d).mirror).mirror (ap (λ (a : MirrorAfter). a.mirror) does);
}

-- a mirror that shows the same
pub same_shown : (rs : List RoomyMirror) (place : ℕ) (d new : RoomyMirror) → new.mirror ≡ (get_or rs place d).mirror → mirrors_shown (set rs place new) ≡ mirrors_shown rs
same_shown rs place d new is = map-set_same (λ r. r.mirror) rs place new d is

-- a write waits at one mirror more
pub queued_more : (n : ℕ) (rs xs : List RoomyMirror) (i : ℕ) (d new : RoomyMirror) → i < length xs → length rs ≡ length xs
    → mirrors_shown rs ≡ map (queued n) (take i (mirrors_shown xs)) ++ drop i (mirrors_shown xs) → new.mirror ≡ queued n (get_or rs i d).mirror
    → mirrors_shown (set rs i new) ≡ map (queued n) (take (i + 1) (mirrors_shown xs)) ++ drop (i + 1) (mirrors_shown xs)
queued_more n rs xs i d new within same so_far does =
    let m : WriterMirror = (get_or rs i d).mirror in
    let size : length (mirrors_shown xs) ≡ length xs = length-map xs (λ (r : RoomyMirror). r.mirror) in
    let here : get_or (mirrors_shown rs) i m ≡ m = get_or-map (λ r. r.mirror) rs i d m (omega (arith, within, same)) in
    shown_set rs i new (queued n m) does ∙ map_over_more (queued n) (mirrors_shown xs) (mirrors_shown rs) i m (omega (arith, size, within)) so_far (sym here)
