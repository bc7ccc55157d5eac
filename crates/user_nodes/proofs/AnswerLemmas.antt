-- Answers that are taken one by one.
use Rattle.std.proofs.Common.{◌≡◌, ℕ, Bool, true, false, ◌||◌, List, [], ◌∷◌, drop, Option, Some, None, refl, sym, ap, ◌∙◌}
use Rattle.std.specs.Prelude.{slice_get}
use Rattle.std.specs.List.{list_any}
use Rattle.cluster_model.specs.declared.answer.UserAnswer.{UserAnswer}
use Rattle.cluster_model.specs.declared.answer.UserAnswer.TheVariants.{Opened, Written, Committed, Bytes, Returned, Failed}
use Rattle.cluster_model.specs.declared.answer.FailCause.{FailCause}
use Rattle.client_state.specs.ClientStates.{ClientValue}
use Rattle.client_state.specs.ClientSends.{ClientStep}
use Rattle.user_nodes.specs.declared.put.Progress.{Progress}
use Rattle.user_nodes.specs.Users.{says_opened, says_committed, says_returned, first_failure, first_of_two, answers_taken}
use Rattle.user_nodes.specs.Puts.{PutValue, put_after, with_answers}

pub first_is : {X : Type 0} (xs : List X) (x : X) → slice_get xs 0 ≡ Some x → xs ≡ x ∷ drop 1 xs
first_is [] x is = absurd (cc)
first_is (y ∷ xs) x is = let same : y ≡ x = cc in ap (λ z. z ∷ xs) same

pub none_is : {X : Type 0} (xs : List X) → slice_get xs 0 ≡ None → xs ≡ []
none_is [] is = refl
none_is (y ∷ xs) is = absurd (cc)

any_after : (one others : Bool) → ((one || false) || others) ≡ (one || others)
any_after true others = refl
any_after false others = refl

pub any_more : {X : Type 0} (test : X → Bool) (was : Bool) (x : X) (xs : List X) → ((was || list_any test (x ∷ [])) || list_any test xs) ≡ (was || list_any test (x ∷ xs))
any_more test true x xs = refl
any_more test false x xs = any_after (test x) (list_any test xs)

pub failed_more : (was : Option FailCause) (a : UserAnswer) (answers : List UserAnswer) → first_of_two (first_of_two was (first_failure (a ∷ []))) (first_failure answers) ≡ first_of_two was (first_failure (a ∷ answers))
failed_more (Some cause) a answers = refl
failed_more None (Failed cause) answers = refl
failed_more None (Opened file) answers = refl
failed_more None Written answers = refl
failed_more None (Committed writes) answers = refl
failed_more None (Bytes eof bytes) answers = refl
failed_more None Returned answers = refl

pub with_more : (p : Progress) (a : UserAnswer) (answers : List UserAnswer) → with_answers (with_answers p (a ∷ [])) answers ≡ with_answers p (a ∷ answers)
with_more p a answers = λ i. record {
  opened = any_more says_opened p.opened a answers i;
  committed = any_more says_committed p.committed a answers i;
  returned = any_more says_returned p.returned a answers i;
  failed = failed_more p.failed a answers i;
}

-- the first is taken, and counts
pub counts_first : (p p' : Progress) (a : UserAnswer) (answers : List UserAnswer) → slice_get answers 0 ≡ Some a → p' ≡ with_answers p (a ∷ []) → with_answers p' (drop 1 answers) ≡ with_answers p answers
counts_first p p' a answers first noted = ap (λ q. with_answers q (drop 1 answers)) noted ∙ with_more p a (drop 1 answers) ∙ ap (with_answers p) (sym (first_is answers a first))

-- all were taken from the client of a step
pub after_answers : (s : ClientStep) (p : Progress) (last : Option ℕ) (c : ClientValue) (n : PutValue) → c ≡ s.client → n.client ≡ answers_taken c → n.progress ≡ with_answers p c.answers → n.last ≡ last → n ≡ put_after s p last
after_answers s p last c n stepped taken counted given = λ i. record {
  client = (taken ∙ ap answers_taken stepped) i;
  progress = (counted ∙ ap (λ (d : ClientValue). with_answers p d.answers) stepped) i;
  last = given i;
}
