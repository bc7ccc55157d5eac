-- What the calls of a connection do.
use Rattle.std.proofs.Common.{◌≡◌, ℕ, Bool, true, false, List, [], ◌∷◌, ◌++◌, take, drop, refl, sym, ap, subst, ◌∙◌, arith, Option, Some, None, append_assoc}
use Rattle.std.specs.Option.{is_some}
use Rattle.std.proofs.lemmas.List.{append-nil, take-append-drop}
use Rattle.rpc_record.specs.Frames.{Front, Open, Whole, TooLong, TooManyFragments, front_of, is_whole, HasGiven, StopsAt, Takes, TakesOut}
use Rattle.rpc_record.specs.FramesView.{resume}
use Rattle.rpc_record.proofs.FrameSteps.{resume_of}
use Rattle.rpc_record.proofs.FrameCalls.{front_start, given_taken}
use Rattle.record_link.specs.Connection.{ConnectionState, is_refused, with_front, HasCome}
use Rattle.record_link.specs.Kept.{front_with, HoldsFront, IsKept}

pub starts : (f : Front) → f ≡ front_of [] → IsKept f None false
starts f e = record {
  fed = [];
  front = e;
  behind = ap is_whole (e ∙ front_start);
  marked = sym (ap is_refused (e ∙ front_start));
}

-- a record was handed out
pub handed_kept : (frames : Front) (whole whole' : Option (List ℕ)) (message : List ℕ) (refused : Bool) → whole ≡ Some message → IsKept frames whole refused → whole' ≡ None → IsKept frames whole' refused
handed_kept frames whole whole' message refused is kept after =
    let same : IsKept frames (Some message) refused = subst (λ w. IsKept frames w refused) is kept in
    subst (λ w. IsKept frames w refused) (sym after) (subst (λ b. IsKept frames None b) (sym same.marked) (starts frames same.behind))

pub handed_on : (came : List ℕ) (messages : List (List ℕ)) (s s' : ConnectionState) (message : List ℕ) → s.front ≡ Whole message [] → s'.front ≡ front_of [] → s'.ahead ≡ s.ahead → HasCome came messages s
    → HasCome came (messages ++ message ∷ []) s'
handed_on came messages s s' message whole front ahead come = record {
  read = come.read;
  all = ap (λ l. come.read ++ l) ahead ∙ come.all;
  given = given_taken come.read messages s.front message s'.front come.given whole front;
}

-- nothing is read behind a record that is whole
pub whole_stays : (s : ConnectionState) (message fed : List ℕ) → s.front ≡ Whole message [] → s.front ≡ front_of fed → (n : ℕ) × Takes fed s.ahead n s.front × (s ≡ with_front s s.front (drop n s.ahead))
unfolding resume
whole_stays s message fed whole is =
    let all : front_of (fed ++ s.ahead) ≡ Whole message s.ahead = resume_of fed s.ahead ∙ ap (λ f. resume f s.ahead) (sym is ∙ whole) in
    let takes : Takes fed s.ahead 0 s.front = record {
      within = omega arith;
      now = is ∙ ap front_of (sym (append-nil fed));
      stops = subst (λ f. StopsAt f s.ahead) (sym all) refl;
    } in
    (0, takes, refl)

pub not_refused : (fed piece left : List ℕ) (f : Front) → f ≡ front_of fed → StopsAt (front_of (fed ++ piece)) left → is_refused f ≡ false
unfolding resume
not_refused fed piece left (Open part) e stops = refl
not_refused fed piece left (Whole message rest) e stops = refl
not_refused fed piece left TooLong e stops = absurd (subst (λ f. StopsAt f left) (resume_of fed piece ∙ ap (λ f. resume f piece) (sym e)) stops)
not_refused fed piece left TooManyFragments e stops = absurd (subst (λ f. StopsAt f left) (resume_of fed piece ∙ ap (λ f. resume f piece) (sym e)) stops)

-- a record that is whole is kept beside the frames
pub kept_front : (f g : Front) (r : Option (List ℕ)) → TakesOut f r g → front_with g r ≡ f
kept_front f g None takes = takes.1
kept_front f g (Some message) takes = sym takes.0

kept_behind : (f g : Front) (r : Option (List ℕ)) → TakesOut f r g → HoldsFront g r
kept_behind f g None takes = ap is_whole takes.1 ∙ takes.0
kept_behind f g (Some message) takes = takes.1

pub none_of : (w : Option (List ℕ)) → is_some w ≡ false → w ≡ None
none_of None e = refl
none_of (Some message) e = absurd (cc (e))

pub some_of : (w : Option (List ℕ)) → is_some w ≡ true → (message : List ℕ) × (w ≡ Some message)
some_of None e = absurd (cc (e))
some_of (Some message) e = (message, refl)

-- more was read
pub read_kept : (fed piece : List ℕ) (n : ℕ) (old f g : Front) (r : Option (List ℕ)) (refused : Bool) → old ≡ front_of fed → refused ≡ is_refused old → Takes fed piece n f → TakesOut f r g → IsKept g r refused
read_kept fed piece n old f g r refused is marked takes out =
    let whole : (fed ++ take n piece) ++ drop n piece ≡ fed ++ piece = append_assoc fed (take n piece) (drop n piece) ∙ ap (λ l. fed ++ l) (take-append-drop n piece) in
    let front : front_with g r ≡ f = kept_front f g r out in
    let new : is_refused f ≡ false = not_refused (fed ++ take n piece) (drop n piece) (drop n piece) f takes.now (subst (λ l. StopsAt (front_of l) (drop n piece)) (sym whole) takes.stops) in
    record {
      fed = fed ++ take n piece;
      front = front ∙ takes.now;
      behind = kept_behind f g r out;
      marked = marked ∙ not_refused fed piece (drop n piece) old is takes.stops ∙ sym new ∙ ap is_refused (sym front);
    }

pub read_on : (came : List ℕ) (messages : List (List ℕ)) (s s' : ConnectionState) (piece : List ℕ) (n : ℕ) → s.ahead ≡ piece → s'.ahead ≡ drop n piece
    → ((stream : List ℕ) → HasGiven stream messages s.front → HasGiven (stream ++ take n piece) messages s'.front) → HasCome came messages s → HasCome came messages s'
read_on came messages s s' piece n before after goes come = record {
  read = come.read ++ take n piece;
  all = ap (λ l. (come.read ++ take n piece) ++ l) after ∙ append_assoc come.read (take n piece) (drop n piece) ∙ ap (λ l. come.read ++ l) (take-append-drop n piece ∙ sym before) ∙ come.all;
  given = goes come.read come.given;
}
