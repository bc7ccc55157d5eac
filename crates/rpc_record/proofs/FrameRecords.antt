-- The laws of record marking.
use Rattle.std.proofs.Common.{◌≡◌, ℕ, zero, suc, ◌+◌, ◌^◌, ◌<◌, ◌≤◌, Bool, true, false, cond, ltb, leb, List, [], ◌∷◌, ◌++◌, length, drop, refl, sym, ap, ◌∙◌, append_assoc, arith}
use Rattle.std.proofs.lemmas.Bool.{le-ltb, le-leb, lt-leb, leb-true}
use Rattle.std.proofs.lemmas.List.{length-append, append-nil, take_at, drop_at}
use Rattle.std.proofs.lemmas.Nat.{from_be_bytes-to_be_bytes_4}
use Rattle.ff_xdr.specs.Form.{word}
use Rattle.rpc_record.specs.Calls.{word_of}
use Rattle.rpc_record.specs.Frames.{max_record, max_fragments, header_word, length_in, is_last, record_bytes, Whole, front_from, front_of}
use Rattle.rpc_record.specs.FrameLaws.{Fragment, fragment_bytes, stream_of, message_of, AreInner, AreRecord, IsRecordRead, IsMarkedRead}
use Rattle.rpc_record.proofs.FrameSteps.{is_header, after_header}

-- ---- words

pub length_word : (n : ℕ) → length (word n) ≡ 4
unfolding word
length_word n = refl

pub word_stands : (n : ℕ) (rest : List ℕ) → n < 2 ^ 32 → word_of (word n ++ rest) 0 ≡ n
unfolding word word_of
word_stands n rest lt = from_be_bytes-to_be_bytes_4 n lt

pub drop_word : (n : ℕ) (rest : List ℕ) → drop 4 (word n ++ rest) ≡ rest
drop_word n rest = drop_at (word n) rest 4 (length_word n)

small_header : (len : ℕ) (last : Bool) → len ≤ max_record → header_word len last < 2 ^ 32
small_header len true le = omega arith
small_header len false le = omega arith

length_again : (len : ℕ) (last : Bool) → len ≤ max_record → length_in (header_word len last) ≡ len
length_again len true le =
    let high : leb (2 ^ 31) (2 ^ 31 + len) ≡ true = le-leb _ _ (omega arith) in
    rw high (omega arith)
length_again len false le =
    let low : leb (2 ^ 31) len ≡ false = lt-leb _ _ (omega arith) in
    rw low refl

last_again : (len : ℕ) (last : Bool) → len ≤ max_record → is_last (header_word len last) ≡ last
last_again len true le = le-leb _ _ (omega arith)
last_again len false le = lt-leb _ _ (omega arith)

pub header_again : (w : ℕ) → header_word (length_in w) (is_last w) ≡ w
header_again w = of_test (leb (2 ^ 31) w) refl
  where
    of_test : (high : Bool) → leb (2 ^ 31) w ≡ high → header_word (length_in w) (is_last w) ≡ w
    of_test true e =
        let le : 2 ^ 31 ≤ w = leb-true _ _ e in
        rw e (omega arith)
    of_test false e = rw e refl

-- ---- a whole fragment

pub over_fragment : (n m : ℕ) (g : List ℕ) (f : Fragment) (rest : List ℕ) → n ≡ suc m → length g + length f.bytes ≤ max_record → front_from n g (fragment_bytes f ++ rest) ≡ cond f.last (Whole (g ++ f.bytes) rest) (front_from m (g ++ f.bytes) rest)
over_fragment n m g f rest e le =
    let w = header_word (length f.bytes) f.last in
    let small : length f.bytes ≤ max_record = omega arith in
    let room : 4 ≤ length (word w ++ (f.bytes ++ rest)) = omega (arith, length-append (word w) (f.bytes ++ rest), length_word w) in
    let number : word_of (word w ++ (f.bytes ++ rest)) 0 ≡ w = word_stands w (f.bytes ++ rest) (small_header (length f.bytes) f.last small) in
    let fits : ltb max_record (length g + length f.bytes) ≡ false = le-ltb _ _ le in
    let all : ltb (length (f.bytes ++ rest)) (length f.bytes) ≡ false = le-ltb _ _ (omega (arith, length-append f.bytes rest)) in
    ap (λ (t : List ℕ). front_from n g t) (append_assoc (word w) f.bytes rest)
    ∙ ap (λ (i : ℕ). front_from i g (word w ++ (f.bytes ++ rest))) e
    ∙ is_header (suc m) g (word w ++ (f.bytes ++ rest)) room
    ∙ ap (λ (i : ℕ). after_header (suc m) g i (drop 4 (word w ++ (f.bytes ++ rest)))) number
    ∙ ap (λ (t : List ℕ). after_header (suc m) g w t) (drop_word w (f.bytes ++ rest))
    ∙ rw (length_again (length f.bytes) f.last small, last_again (length f.bytes) f.last small, fits, all, take_at f.bytes rest (length f.bytes) refl, drop_at f.bytes rest (length f.bytes) refl) refl

-- ---- fragments that are read

regroup : (a b c : List ℕ) → (a ++ b) ++ c ≡ a ++ (b ++ c)
regroup a b c = append_assoc a b c

pub through : (fs : List Fragment) (n k : ℕ) (g rest : List ℕ) → AreInner fs → n ≡ length fs + k → length g + length (message_of fs) ≤ max_record → front_from n g (stream_of fs ++ rest) ≡ front_from k (g ++ message_of fs) rest
through [] n k g rest inner e le =
    let same : n ≡ k = omega arith in
    ap (λ (i : ℕ). front_from i g rest) same ∙ ap (λ (t : List ℕ). front_from k t rest) (sym (append-nil g))
through (f ∷ fs) zero k g rest inner e le = absurd (omega arith)
through (f ∷ fs) (suc n) k g rest inner e le =
    let size = length-append f.bytes (message_of fs) in
    ap (λ (t : List ℕ). front_from (suc n) g t) (regroup (fragment_bytes f) (stream_of fs) rest)
    ∙ over_fragment (suc n) n g f (stream_of fs ++ rest) refl (omega (arith, size))
    ∙ ap (λ (b : Bool). cond b (Whole (g ++ f.bytes) (stream_of fs ++ rest)) (front_from n (g ++ f.bytes) (stream_of fs ++ rest))) inner.0
    ∙ through fs n k (g ++ f.bytes) rest inner.1 (omega arith) (omega (arith, size, length-append g f.bytes))
    ∙ ap (λ (t : List ℕ). front_from k t rest) (append_assoc g f.bytes (message_of fs))

pub record_read : (fs : List Fragment) (n : ℕ) (g rest : List ℕ) → AreRecord fs → length fs ≤ n → length g + length (message_of fs) ≤ max_record → front_from n g (stream_of fs ++ rest) ≡ Whole (g ++ message_of fs) rest
record_read [] n g rest are few le = absurd are
record_read (f ∷ []) zero g rest are few le = absurd (omega arith)
record_read (f ∷ h ∷ fs) zero g rest are few le = absurd (omega arith)
record_read (f ∷ []) (suc n) g rest are few le =
    ap (λ (t : List ℕ). front_from (suc n) g (t ++ rest)) (append-nil (fragment_bytes f))
    ∙ over_fragment (suc n) n g f rest refl (omega (arith, length-append f.bytes []))
    ∙ ap (λ (b : Bool). cond b (Whole (g ++ f.bytes) rest) (front_from n (g ++ f.bytes) rest)) are
    ∙ ap (λ (t : List ℕ). Whole (g ++ t) rest) (sym (append-nil f.bytes))
record_read (f ∷ h ∷ fs) (suc n) g rest are few le =
    let size = length-append f.bytes (message_of (h ∷ fs)) in
    ap (λ (t : List ℕ). front_from (suc n) g t) (regroup (fragment_bytes f) (stream_of (h ∷ fs)) rest)
    ∙ over_fragment (suc n) n g f (stream_of (h ∷ fs) ++ rest) refl (omega (arith, size))
    ∙ ap (λ (b : Bool). cond b (Whole (g ++ f.bytes) (stream_of (h ∷ fs) ++ rest)) (front_from n (g ++ f.bytes) (stream_of (h ∷ fs) ++ rest))) are.0
    ∙ record_read (h ∷ fs) n (g ++ f.bytes) rest are.1 (omega arith) (omega (arith, size, length-append g f.bytes))
    ∙ ap (λ (t : List ℕ). Whole t rest) (append_assoc g f.bytes (message_of (h ∷ fs)))

pub front_is : (bytes : List ℕ) → front_of bytes ≡ front_from max_fragments [] bytes
unfolding front_of
front_is bytes = refl

pub record_is_read : (fragments : List Fragment) (rest : List ℕ) → IsRecordRead fragments rest
record_is_read fragments rest are within = front_is (stream_of fragments ++ rest) ∙ record_read fragments max_fragments [] rest are within.few (omega (arith, within.short))

pub marked : (message rest : List ℕ) → IsMarkedRead message rest
marked message rest le = front_is (record_bytes message ++ rest) ∙ over_fragment max_fragments 1023 [] (record { bytes = message; last = true }) rest refl (omega arith)
