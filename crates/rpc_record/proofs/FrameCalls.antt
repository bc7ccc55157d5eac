-- What the calls of `Frames` say.
use Rattle.std.proofs.Common.{◌≡◌, ℕ, ◌-◌, ◌<◌, true, ltb, List, [], ◌∷◌, ◌++◌, length, take, drop, refl, sym, ap, subst, ◌∙◌, arith, Err, IfOk}
use Rattle.std.proofs.lemmas.Bool.{lt-ltb}
use Rattle.std.proofs.lemmas.List.{append-nil, length-take, take-append-drop}
use Rattle.rpc_record.specs.declared.frames.Stage.{Stage}
use Rattle.rpc_record.specs.declared.frames.Stage.TheVariants as stage
use Rattle.rpc_record.specs.declared.frames.RecordFault.TheVariants as fault
use Rattle.rpc_record.specs.Frames.{max_fragments, Header, Front, Open, Whole, TooLong, TooManyFragments, front_from, front_of, HasGiven, StopsAt, Feeds}
use Rattle.rpc_record.specs.FramesView.{front_at, IsStage, is_more, resume, resume_part, Gathers, answers}
use Rattle.rpc_record.proofs.FrameSteps.{is_short, resume_of}

-- the front of no bytes
pub front_start : front_of [] ≡ Open (record { gathered = []; headers = max_fragments; coming = Header [] })
unfolding front_of
front_start = is_short max_fragments [] [] (omega arith)

-- nothing changes without a byte
pub resume_nil : (g : List ℕ) (s : Stage) → IsStage s → resume (front_at g s) [] ≡ front_at g s
unfolding resume resume_part
resume_nil g (stage.Header h bytes count) stands =
    let none : take count bytes ++ [] ≡ take count bytes = append-nil (take count bytes) in
    let short : length (take count bytes) < 4 = omega (arith, length-take count bytes, stands.0) in
    ap (λ (t : List ℕ). front_from h g t) none ∙ is_short h g (take count bytes) short
resume_nil g (stage.Body h left last) stands =
    let some : ltb 0 left ≡ true = lt-ltb _ _ stands in
    let same : left - 0 ≡ left = omega arith in
    rw (some, same, append-nil g) refl
resume_nil g stage.Whole stands = refl
resume_nil g stage.TooLong stands = refl
resume_nil g stage.TooManyFragments stands = refl

-- ---- records that were given

pub given_more : (stream : List ℕ) (messages : List (List ℕ)) (front : Front) (more : List ℕ) (front' : Front) → HasGiven stream messages front → front' ≡ resume front more → HasGiven (stream ++ more) messages front'
unfolding resume
given_more stream [] front more front' given e = e ∙ ap (λ (f : Front). resume f more) given ∙ sym (resume_of stream more)
given_more stream (message ∷ messages) front more front' given e = (given.0 ++ more, resume_of stream more ∙ ap (λ (f : Front). resume f more) given.1, given_more given.0 messages front more front' given.2 e)

pub given_taken : (stream : List ℕ) (messages : List (List ℕ)) (front : Front) (message : List ℕ) (new : Front) → HasGiven stream messages front → front ≡ Whole message [] → new ≡ front_of [] → HasGiven stream (messages ++ message ∷ []) new
given_taken stream [] front message new given whole e = ([], sym given ∙ whole, e)
given_taken stream (first ∷ messages) front message new given whole e = (given.0, given.1, given_taken given.0 messages front message new given.2 whole e)

-- ---- a piece

taken_is : (old : List ℕ) (start : Stage) (piece : List ℕ) (taken : ℕ) (new : List ℕ) (end : Stage) → Gathers old start piece taken new end → front_at new end ≡ resume (front_at old start) (take taken piece)
taken_is old start piece taken new end g = sym (ap (λ (t : List ℕ). resume (front_at old start) t) (sym (append-nil (take taken piece))) ∙ g.steps [] ∙ resume_nil new end g.stage)

piece_is : (old : List ℕ) (start : Stage) (piece : List ℕ) (taken : ℕ) (new : List ℕ) (end : Stage) (fed : List ℕ) → front_at old start ≡ front_of fed → Gathers old start piece taken new end → front_of (fed ++ piece) ≡ resume (front_at new end) (drop taken piece)
piece_is old start piece taken new end fed e g =
    resume_of fed piece
    ∙ ap (λ (f : Front). resume f piece) (sym e)
    ∙ ap (λ (t : List ℕ). resume (front_at old start) t) (sym (take-append-drop taken piece))
    ∙ g.steps (drop taken piece)

now_is : (old : List ℕ) (start : Stage) (piece : List ℕ) (taken : ℕ) (new : List ℕ) (end : Stage) (fed : List ℕ) → front_at old start ≡ front_of fed → Gathers old start piece taken new end → front_at new end ≡ front_of (fed ++ take taken piece)
now_is old start piece taken new end fed e g =
    taken_is old start piece taken new end g
    ∙ ap (λ (f : Front). resume f (take taken piece)) e
    ∙ sym (resume_of fed (take taken piece))

-- where more is to come all was taken
open_is : (old : List ℕ) (start : Stage) (piece : List ℕ) (taken : ℕ) (new : List ℕ) (end : Stage) (fed : List ℕ) → front_at old start ≡ front_of fed → Gathers old start piece taken new end → is_more end ≡ true → front_of (fed ++ piece) ≡ front_at new end
open_is old start piece taken new end fed e g more =
    piece_is old start piece taken new end fed e g
    ∙ ap (λ (t : List ℕ). resume (front_at new end) t) (g.stops more)
    ∙ resume_nil new end g.stage

pub feeds_is : (old : List ℕ) (start : Stage) (piece : List ℕ) (taken : ℕ) (new : List ℕ) (end : Stage) (fed : List ℕ) → front_at old start ≡ front_of fed → Gathers old start piece taken new end → Feeds fed piece (answers end taken) (front_at new end)
unfolding resume
feeds_is old start piece taken new (stage.Header h bytes count) fed e g = record {
  within = g.within;
  now = now_is old start piece taken new (stage.Header h bytes count) fed e g;
  stops = subst (λ (f : Front). StopsAt f (drop taken piece)) (sym (open_is old start piece taken new (stage.Header h bytes count) fed e g refl)) (g.stops refl);
}
feeds_is old start piece taken new (stage.Body h left last) fed e g = record {
  within = g.within;
  now = now_is old start piece taken new (stage.Body h left last) fed e g;
  stops = subst (λ (f : Front). StopsAt f (drop taken piece)) (sym (open_is old start piece taken new (stage.Body h left last) fed e g refl)) (g.stops refl);
}
feeds_is old start piece taken new stage.Whole fed e g =
    let all : front_of (fed ++ piece) ≡ Whole new (drop taken piece) = piece_is old start piece taken new stage.Whole fed e g in
    record {
      within = g.within;
      now = now_is old start piece taken new stage.Whole fed e g;
      stops = subst (λ (f : Front). StopsAt f (drop taken piece)) (sym all) refl;
    }
feeds_is old start piece taken new stage.TooLong fed e g = (piece_is old start piece taken new stage.TooLong fed e g, refl)
feeds_is old start piece taken new stage.TooManyFragments fed e g = (piece_is old start piece taken new stage.TooManyFragments fed e g, refl)

answers_ok : (end : Stage) (taken : ℕ) (P : ℕ → Type 0) → P taken → IfOk (answers end taken) P
answers_ok (stage.Header h bytes count) taken P p = p
answers_ok (stage.Body h left last) taken P p = p
answers_ok stage.Whole taken P p = p
answers_ok stage.TooLong taken P p = tt
answers_ok stage.TooManyFragments taken P p = tt

pub goes_on_is : (old : List ℕ) (start : Stage) (piece : List ℕ) (taken : ℕ) (new : List ℕ) (end : Stage) (stream : List ℕ) (messages : List (List ℕ)) → Gathers old start piece taken new end → HasGiven stream messages (front_at old start) → IfOk (answers end taken) (λ n. HasGiven (stream ++ take n piece) messages (front_at new end))
goes_on_is old start piece taken new end stream messages g given =
    answers_ok end taken (λ n. HasGiven (stream ++ take n piece) messages (front_at new end))
    (given_more stream messages (front_at old start) (take taken piece) (front_at new end) given (taken_is old start piece taken new end g))

-- ---- streams that were refused

answers_long : (g : List ℕ) (s : Stage) (taken : ℕ) → front_at g s ≡ TooLong → answers s taken ≡ Err fault.TooLong
answers_long g (stage.Header h bytes count) taken e = absurd (cc e)
answers_long g (stage.Body h left last) taken e = absurd (cc e)
answers_long g stage.Whole taken e = absurd (cc e)
answers_long g stage.TooLong taken e = refl
answers_long g stage.TooManyFragments taken e = absurd (cc e)

answers_many : (g : List ℕ) (s : Stage) (taken : ℕ) → front_at g s ≡ TooManyFragments → answers s taken ≡ Err fault.TooManyFragments
answers_many g (stage.Header h bytes count) taken e = absurd (cc e)
answers_many g (stage.Body h left last) taken e = absurd (cc e)
answers_many g stage.Whole taken e = absurd (cc e)
answers_many g stage.TooLong taken e = absurd (cc e)
answers_many g stage.TooManyFragments taken e = refl

pub too_long_is : (old : List ℕ) (start : Stage) (piece : List ℕ) (taken : ℕ) (new : List ℕ) (end : Stage) → Gathers old start piece taken new end → front_at old start ≡ TooLong → answers end taken ≡ Err fault.TooLong
unfolding resume
too_long_is old start piece taken new end g e = answers_long new end taken (taken_is old start piece taken new end g ∙ ap (λ (f : Front). resume f (take taken piece)) e)

pub too_many_is : (old : List ℕ) (start : Stage) (piece : List ℕ) (taken : ℕ) (new : List ℕ) (end : Stage) → Gathers old start piece taken new end → front_at old start ≡ TooManyFragments → answers end taken ≡ Err fault.TooManyFragments
unfolding resume
too_many_is old start piece taken new end g e = answers_many new end taken (taken_is old start piece taken new end g ∙ ap (λ (f : Front). resume f (take taken piece)) e)
