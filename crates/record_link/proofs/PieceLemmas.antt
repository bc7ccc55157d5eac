-- Pieces that wait, with a tail behind them.
use Rattle.std.proofs.Common.{◌≡◌, ℕ, ◌+◌, ◌-◌, ◌≤◌, ◌<◌, true, false, List, [], ◌∷◌, ◌++◌, length, take, drop, slice_index_or, refl, sym, ap, ◌∙◌, arith, append_assoc, Option, Result, Ok, Err, IfOk}
use Rattle.std.proofs.lemmas.List.{append-nil, length-append, length-drop, drop-append-le, take-append-le}
use Rattle.std.proofs.lemmas.List.Folds.{concat-append}
use Rattle.std.proofs.Math.Seq.{drop-append-add, take-length}
use Rattle.std.specs.List.{concat, AllByRecursion}
use Rattle.std.proofs.lemmas.Result.{IfOk-weaker}
use Rattle.record_link.specs.declared.stream.Halt.{Halt}
use Rattle.record_link.specs.Stream.{WritesStream, gone_more}
use Rattle.record_link.proofs.OutgoingLemmas.{drop_add}

-- the invariant of `Outgoing`
abbrev pub IsHeld : List (List ℕ) → List ℕ → ℕ → ℕ → Type 0
IsHeld pieces tail start waiting =
    (start + waiting ≡ length (concat pieces ++ tail)) × AllByRecursion (λ piece. 0 < length piece) pieces × (0 < length pieces → start < length (slice_index_or pieces 0 []))

-- there is no piece
pub no_piece : (n : ℕ) (pieces : List (List ℕ)) → n ≡ length pieces → (0 < n → false ≡ true) → pieces ≡ []
no_piece n [] size none = refl
no_piece n (x ∷ xs) size none = let some : 0 < n = omega (arith, size) in absurd (cc (none some))

-- the second piece, with what stands behind it
pub second_is : (pieces : List (List ℕ)) (tail piece : List ℕ) → 1 < length pieces → piece ≡ slice_index_or pieces 1 piece → (rest : List ℕ) × (concat (drop 1 pieces) ++ tail ≡ piece ++ rest)
second_is [] tail piece some is = absurd (omega (arith, some))
second_is (x ∷ []) tail piece some is = absurd (omega (arith, some))
second_is (x ∷ y ∷ pieces) tail piece some is = (concat pieces ++ tail, append_assoc y (concat pieces) tail ∙ ap (λ l. l ++ (concat pieces ++ tail)) (sym is))

-- so many bytes of the tail went, where there is no piece
pub tail_dropped : (pieces : List (List ℕ)) (old new value : List ℕ) (start waiting count start' : ℕ) → pieces ≡ [] → IsHeld pieces old start waiting → drop start (concat pieces ++ old) ≡ value → count ≤ length value → drop start' new ≡ drop (start + count) old → start' ≤ length new
    → IsHeld pieces new start' (waiting - count)
tail_dropped [] old new value start waiting count start' none held is within stays inside =
    (omega (arith, held.0, ap length is, within, ap length stays, inside, length-drop start old, length-drop start' new, length-drop (start + count) old), tt, λ some. absurd (omega (arith, some)))
tail_dropped (x ∷ xs) old new value start waiting count start' none held is within stays inside = absurd (cc (none))

-- the first piece went
pub piece_dropped : (pieces pieces' : List (List ℕ)) (first tail value : List ℕ) (start waiting count : ℕ) → 0 < length pieces → first ≡ slice_index_or pieces 0 first → pieces' ≡ drop 1 pieces → IsHeld pieces tail start waiting → drop start (concat pieces ++ tail) ≡ value → length first - start ≤ count
    → drop (count - (length first - start)) (concat pieces' ++ tail) ≡ drop count value
piece_dropped [] pieces' first tail value start waiting count some one rest held is many = absurd (omega (arith, some))
piece_dropped (x ∷ xs) pieces' first tail value start waiting count some one rest held is many =
    let size : length first ≡ length x = ap length one in
    let below : start < length x = held.2 some in
    let sum : start + count ≡ length x + (count - (length first - start)) = omega (arith, size, below, many) in
    ap (λ l. drop (count - (length first - start)) (concat l ++ tail)) rest
    ∙ sym (drop-append-add x (concat xs ++ tail) (count - (length first - start)))
    ∙ ap (λ (n : ℕ). drop n (x ++ (concat xs ++ tail))) (sym sum)
    ∙ ap (λ l. drop (start + count) l) (sym (append_assoc x (concat xs) tail))
    ∙ drop_add start count (concat (x ∷ xs) ++ tail)
    ∙ ap (drop count) is

-- a text stands behind the tail
pub copied : (pieces : List (List ℕ)) (tail text : List ℕ) (start waiting waiting' : ℕ) → IsHeld pieces tail start waiting → waiting' ≡ waiting + length text → IsHeld pieces (tail ++ text) start waiting'
copied pieces tail text start waiting waiting' held more =
    (omega (arith, held.0, more, length-append (concat pieces) tail, length-append (concat pieces) (tail ++ text), length-append tail text), held.1, held.2)

both : (pieces : List (List ℕ)) (a b : List ℕ) → AllByRecursion (λ piece. 0 < length piece) pieces → 0 < length a → 0 < length b → AllByRecursion (λ piece. 0 < length piece) ((pieces ++ a ∷ []) ++ b ∷ [])
both [] a b all first last = (first, (last, tt))
both (x ∷ xs) a b all first last = (all.0, both xs a b all.1 first last)

first_of : (pieces : List (List ℕ)) (tail header message : List ℕ) (start : ℕ) → start ≤ length (concat pieces ++ tail) → 0 < length header → (0 < length pieces → start < length (slice_index_or pieces 0 [])) → start < length (slice_index_or ((pieces ++ (tail ++ header) ∷ []) ++ message ∷ []) 0 [])
first_of [] tail header message start within some below = omega (arith, within, some, length-append tail header)
first_of (x ∷ xs) tail header message start within some below = below (omega arith)

-- the tail with a header, and a message, became pieces
module _ (pieces : List (List ℕ)) (tail header message : List ℕ) where
  joined : concat ((pieces ++ (tail ++ header) ∷ []) ++ message ∷ []) ++ [] ≡ (concat pieces ++ tail) ++ (header ++ message)
  joined =
      append-nil (concat ((pieces ++ (tail ++ header) ∷ []) ++ message ∷ []))
      ∙ concat-append (pieces ++ (tail ++ header) ∷ []) (message ∷ [])
      ∙ ap (λ l. l ++ (message ++ [])) (concat-append pieces ((tail ++ header) ∷ []))
      ∙ simp (append_assoc, append-nil) refl

  module _ (pieces' : List (List ℕ)) (tail' : List ℕ) (made : pieces' ≡ (pieces ++ (tail ++ header) ∷ []) ++ message ∷ []) (empty : tail' ≡ []) where
    whole : concat pieces' ++ tail' ≡ (concat pieces ++ tail) ++ (header ++ message)
    whole = ap (λ l. concat l ++ tail') made ∙ ap (λ l. concat ((pieces ++ (tail ++ header) ∷ []) ++ message ∷ []) ++ l) empty ∙ joined

    pub kept : (start waiting waiting' : ℕ) → IsHeld pieces tail start waiting → 0 < length header → 0 < length message → waiting' ≡ waiting + (length header + length message) → IsHeld pieces' tail' start waiting'
    kept start waiting waiting' held some filled more =
        let first : 0 < length (tail ++ header) = omega (arith, some, length-append tail header) in (
          omega (arith, held.0, more, ap length whole, length-append (concat pieces ++ tail) (header ++ message), length-append header message),
          rw made (both pieces (tail ++ header) message held.1 first filled),
          rw made (λ any. first_of pieces tail header message start (omega (arith, held.0)) some held.2),
        )

    pub shown : (value : List ℕ) (start waiting : ℕ) → IsHeld pieces tail start waiting → drop start (concat pieces ++ tail) ≡ value → drop start (concat pieces' ++ tail') ≡ value ++ (header ++ message)
    shown value start waiting held is =
        ap (drop start) whole ∙ drop-append-le start (concat pieces ++ tail) (header ++ message) (omega (arith, held.0)) ∙ ap (λ l. l ++ (header ++ message)) is

rest_is : (bytes : List ℕ) (start : ℕ) → take (length bytes - start) (drop start bytes) ≡ drop start bytes
rest_is bytes start = ap (λ (n : ℕ). take n (drop start bytes)) (sym (length-drop start bytes)) ∙ take-length (drop start bytes)

-- the rest of the tail is what waits, where there is no piece
pub tail_waits : (pieces : List (List ℕ)) (tail bytes value : List ℕ) (start : ℕ) → pieces ≡ [] → bytes ≡ tail → drop start (concat pieces ++ tail) ≡ value → take (length bytes - start) (drop start bytes) ++ [] ≡ value
tail_waits pieces tail bytes value start none same is =
    append-nil (take (length bytes - start) (drop start bytes)) ∙ rest_is bytes start ∙ ap (drop start) same ∙ ap (λ l. drop start (concat l ++ tail)) (sym none) ∙ is

-- the rest of the first piece, and a second slice, are the front of what waits
front_waits : (pieces : List (List ℕ)) (first tail second rest value : List ℕ) (start waiting : ℕ) → 0 < length pieces → first ≡ slice_index_or pieces 0 first → IsHeld pieces tail start waiting → concat (drop 1 pieces) ++ tail ≡ second ++ rest → drop start (concat pieces ++ tail) ≡ value
    → value ≡ (take (length first - start) (drop start first) ++ second) ++ rest
front_waits [] first tail second rest value start waiting some one held behind is = absurd (omega (arith, some))
front_waits (x ∷ xs) first tail second rest value start waiting some one held behind is =
    let below : start ≤ length x = omega (arith, held.2 some) in
    sym is
    ∙ ap (drop start) (append_assoc x (concat xs) tail)
    ∙ drop-append-le start x (concat xs ++ tail) below
    ∙ ap (λ l. drop start l ++ (concat xs ++ tail)) (sym one)
    ∙ ap (λ l. drop start first ++ l) behind
    ∙ sym (append_assoc (drop start first) second rest)
    ∙ ap (λ l. (l ++ second) ++ rest) (sym (rest_is first start))

-- what went of the front of a list went of the list
front_went : (front rest value : List ℕ) (old new : Option (List ℕ)) (r : Result ℕ Halt) → value ≡ front ++ rest → IfOk r (λ n. n ≤ length front) → WritesStream old front r new → WritesStream old value r new
front_went front rest value old new (Ok n) is within told = told ∙ ap (λ l. gone_more old l) (sym (take-append-le n front rest within) ∙ ap (take n) (sym is))
front_went front rest value old new (Err e) is within told = told

-- a stream took some of what waits
pub some_went : (pieces : List (List ℕ)) (first bytes tail second value : List ℕ) (start waiting : ℕ) (old new : Option (List ℕ)) (r : Result ℕ Halt) → 0 < length pieces → first ≡ slice_index_or pieces 0 first → bytes ≡ first → IsHeld pieces tail start waiting
    → ((rest : List ℕ) × (concat (drop 1 pieces) ++ tail ≡ second ++ rest)) → drop start (concat pieces ++ tail) ≡ value → IfOk r (λ n. n ≤ length (take (length bytes - start) (drop start bytes)) + length second)
    → WritesStream old (take (length bytes - start) (drop start bytes) ++ second) r new → WritesStream old value r new
some_went pieces first bytes tail second value start waiting old new r some one same held behind is within told =
    front_went (take (length bytes - start) (drop start bytes) ++ second) behind.0 value old new r
    (front_waits pieces first tail second behind.0 value start waiting some one held behind.1 is ∙ ap (λ l. (take (length l - start) (drop start l) ++ second) ++ behind.0) (sym same))
    (IfOk-weaker r (λ n. n ≤ length (take (length bytes - start) (drop start bytes)) + length second) (λ n. n ≤ length (take (length bytes - start) (drop start bytes) ++ second)) (λ n h. omega (arith, h, length-append (take (length bytes - start) (drop start bytes)) second)) within) told
