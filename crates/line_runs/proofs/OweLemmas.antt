-- What a sink owes: the text that it has taken, and the text to come.
use Rattle.std.proofs.Common.{◌≡◌, ℕ, List, [], ◌++◌, Option, Some, None, Result, Ok, Err, refl, sym, ap, subst, ◌∙◌}
use Rattle.std.proofs.lemmas.List.{append-nil, append_assoc}
use Rattle.rpc_record.specs.declared.stream.Failed.{Failed}
use Rattle.line_runs.specs.Writing.{IsBeginningOf, WritesText}
use Rattle.line_runs.specs.Runs.{RunEffect, whole_text}
use Rattle.line_runs.specs.Playback.{Owes, OwesPart}

pub owes_same : (held : Option (List ℕ)) (text : List ℕ) → Owes held text held text
owes_same None text = refl
owes_same (Some h) text = ([], ap (λ x. Some x) (sym (append-nil h)), refl)

-- the same of another spelling of the texts
pub owes_as : (old new : Option (List ℕ)) (t u t' u' : List ℕ) → t ≡ u → t' ≡ u' → Owes old t new t' → Owes old u new u'
owes_as old new t u t' u' e e' owes = subst (λ x. Owes old x new u') e (subst (λ x. Owes old t new x) e' owes)

pub owes_more : (old new : Option (List ℕ)) (t t' more : List ℕ) → Owes old t new t' → Owes old (t ++ more) new (t' ++ more)
owes_more None new t t' more owes = owes
owes_more (Some held) new t t' more owes = (owes.0, owes.1, sym (append_assoc owes.0 t' more) ∙ ap (λ x. x ++ more) owes.2)

pub some_is : {x y : List ℕ} → Some x ≡ Some y → x ≡ y
some_is e = cc

-- A sink that tells nothing goes on so.
owes_none : (b c : Option (List ℕ)) (u v : List ℕ) → b ≡ None → Owes b u c v → c ≡ None
owes_none None c u v is two = two
owes_none (Some h) c u v is two = absurd (cc)

pub owes_again : (a b c : Option (List ℕ)) (t u v : List ℕ) → Owes a t b u → Owes b u c v → Owes a t c v
owes_again None b c t u v one two = owes_none b c u v one two
owes_again (Some held) None c t u v one two = let no : Some (held ++ one.0) ≡ None = sym one.1 in absurd (cc)
owes_again (Some held) (Some h) c t u v one two =
    let same : h ≡ held ++ one.0 = some_is one.1 in (
      one.0 ++ two.0,
      two.1 ∙ ap (λ x. Some (x ++ two.0)) same ∙ ap (λ x. Some x) (append_assoc held one.0 two.0),
      append_assoc one.0 two.0 v ∙ ap (λ x. one.0 ++ x) two.2 ∙ one.2,
    )

pub owes_part : (held : Option (List ℕ)) (text trace rest : List ℕ) → trace ++ rest ≡ text → OwesPart held text held trace
owes_part held text trace rest is = (rest, owes_as held held text text text (trace ++ rest) refl (sym is) (owes_same held text))

pub owes_all : (held : Option (List ℕ)) (text trace : List ℕ) → trace ≡ text → Owes held text held trace
owes_all held text trace is = owes_as held held text text text trace refl (sym is) (owes_same held text)

-- what is owed is a part of itself
pub whole_part : (old new : Option (List ℕ)) (t u : List ℕ) → Owes old t new u → OwesPart old t new u
whole_part old new t u owes = ([], subst (λ x. Owes old t new x) (sym (append-nil u)) owes)

-- A write of what was owed: all of it, or a beginning.
pub wrote_owes : (b c : Option (List ℕ)) (u rest : List ℕ) (x : Unit {0}) → WritesText b u (Ok x) c → Owes b (u ++ rest) c rest
wrote_owes None c u rest x wrote = wrote
wrote_owes (Some h) c u rest x wrote = (u, wrote, refl)

pub wrote_all : (a b c : Option (List ℕ)) (t u : List ℕ) (x : Unit {0}) → Owes a t b u → WritesText b u (Ok x) c → Owes a t c []
wrote_all a b c t u x owes wrote = owes_again a b c t u [] owes (subst (λ y. Owes b y c []) (append-nil u) (wrote_owes b c u [] x wrote))

wrote_first : (a b c : Option (List ℕ)) (t u : List ℕ) (x : Unit {0}) → OwesPart a t b u → WritesText b u (Ok x) c → OwesPart a t c []
wrote_first a b c t u x owes wrote = (owes.0, owes_again a b c t (u ++ owes.0) owes.0 owes.1 (wrote_owes b c u owes.0 x wrote))

pub broke_off : (b c : Option (List ℕ)) (u rest : List ℕ) (e : Failed) → WritesText b u (Err e) c → OwesPart b (u ++ rest) c []
broke_off None c u rest e wrote = ([], wrote)
broke_off (Some h) c u rest e wrote =
    (wrote.1.rest ++ rest, (wrote.0, wrote.2, sym (append_assoc wrote.0 wrote.1.rest rest) ∙ ap (λ y. y ++ rest) wrote.1.whole))

pub wrote_part : (a b c : Option (List ℕ)) (t u : List ℕ) (e : Failed) → OwesPart a t b u → WritesText b u (Err e) c → OwesPart a t c []
wrote_part a b c t u e owes wrote =
    let part = broke_off b c u owes.0 e wrote in (part.0, owes_again a b c t (u ++ owes.0) part.0 owes.1 part.1)

pub wrote_some : (a b c : Option (List ℕ)) (t u : List ℕ) (r : Result (Unit {0}) Failed) → OwesPart a t b u → WritesText b u r c → OwesPart a t c []
wrote_some a b c t u (Ok x) owes wrote = wrote_first a b c t u x owes wrote
wrote_some a b c t u (Err e) owes wrote = wrote_part a b c t u e owes wrote

pub part_again : (a b c : Option (List ℕ)) (t u v : List ℕ) → Owes a t b u → OwesPart b u c v → OwesPart a t c v
part_again a b c t u v one two = (two.0, owes_again a b c t u (v ++ two.0) one two.1)

-- a sink goes on behind text that was added
pub owes_on : (a b c : Option (List ℕ)) (t more u x y owed : List ℕ) → Owes a (t ++ more) b u → more ++ x ≡ y → Owes b (u ++ x) c owed → Owes a (t ++ y) c owed
owes_on a b c t more u x y owed one is two =
    owes_again a b c _ _ owed (owes_as a b _ _ _ _ (append_assoc t more x ∙ ap (λ z. t ++ z) is) refl (owes_more a b (t ++ more) u x one)) two

pub part_on : (a b c : Option (List ℕ)) (t more u x y owed : List ℕ) → Owes a (t ++ more) b u → more ++ x ≡ y → OwesPart b (u ++ x) c owed → OwesPart a (t ++ y) c owed
part_on a b c t more u x y owed one is two = (two.0, owes_on a b c t more u x y (owed ++ two.0) one is two.1)

-- what is owed of a beginning is owed of all
pub part_more : (a b : Option (List ℕ)) (t x y owed : List ℕ) → IsBeginningOf x y → OwesPart a (t ++ x) b owed → OwesPart a (t ++ y) b owed
part_more a b t x y owed begins owes = (
  owes.0 ++ begins.rest,
  owes_as a b _ _ _ _ (append_assoc t x begins.rest ∙ ap (λ z. t ++ z) begins.whole) (append_assoc owed owes.0 begins.rest) (owes_more a b (t ++ x) (owed ++ owes.0) begins.rest owes.1),
)

-- a beginning of what is owed
pub part_less : (a b : Option (List ℕ)) (t x y owed : List ℕ) → IsBeginningOf x y → OwesPart a t b (owed ++ y) → OwesPart a t b (owed ++ x)
part_less a b t x y owed begins owes = (
  begins.rest ++ owes.0,
  owes_as a b _ _ _ _ refl (ap (λ z. (owed ++ z) ++ owes.0) (sym begins.whole) ∙ ap (λ z. z ++ owes.0) (sym (append_assoc owed x begins.rest)) ∙ append_assoc (owed ++ x) begins.rest owes.0) owes.1,
)

pub begins_more : (x y more : List ℕ) → IsBeginningOf x y → IsBeginningOf x (y ++ more)
begins_more x y more begins = record { rest = begins.rest ++ more; whole = sym (append_assoc x begins.rest more) ∙ ap (λ z. z ++ more) begins.whole }

pub begins_whole : (e : RunEffect) → IsBeginningOf e.text (whole_text e)
begins_whole e = record { rest = e.closing; whole = refl }

-- what lines come to is owed whole, with the closing text behind what they added
pub owes_whole : (a b : Option (List ℕ)) (t u more closing : List ℕ) (e : RunEffect) → e.text ≡ more → e.closing ≡ closing → Owes a (t ++ more) b u → Owes a (t ++ whole_text e) b (u ++ closing)
owes_whole a b t u more closing e text_is closing_is owes =
    owes_as a b _ _ _ _ (append_assoc t more closing ∙ ap (λ z. t ++ z) (λ i. sym text_is i ++ sym closing_is i)) refl (owes_more a b (t ++ more) u closing owes)
