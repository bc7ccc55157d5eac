-- What stands where a stream is read as a record, and where it is refused.
use Rattle.std.proofs.Common.{◌≡◌, ℕ, zero, suc, ◌+◌, ◌-◌, ◌^◌, ◌<◌, ◌≤◌, Bool, true, false, cond, ltb, List, [], ◌∷◌, ◌++◌, length, take, drop, get_or, refl, sym, ap, subst, ◌∙◌, append_assoc, arith, inl, inr}
use Rattle.std.specs.Int.{w32, from_be_bytes}
use Rattle.std.proofs.lemmas.Bool.{le-ltb, lt-ltb, cases_lt}
use Rattle.std.proofs.lemmas.List.{length-append, length-take-le, append-nil, take-append-drop, get_or-take, get_or-drop, get_or_past}
use Rattle.std.proofs.lemmas.Nat.{be_bytes_4}
use Rattle.ff_xdr.specs.Form.{word}
use Rattle.ff_xdr.specs.Laws.{IsBytes}
use Rattle.rpc_record.specs.Calls.{word_of}
use Rattle.rpc_record.specs.Frames.{max_record, max_fragments, header_word, length_in, is_last, Header, FragmentBody, Part, Open, Whole, TooLong, TooManyFragments, front_from, behind_header}
use Rattle.rpc_record.specs.FrameLaws.{Fragment, fragment_bytes, stream_of, message_of, AreRecord, IsRecordSpelled}
use Rattle.rpc_record.proofs.FrameSteps.{is_short, is_header}
use Rattle.rpc_record.proofs.FrameRecords.{header_again, front_is}

-- ---- words

bytes_taken : (bytes : List ℕ) (n : ℕ) → n ≤ length bytes → IsBytes bytes → (i : ℕ) → get_or (take n bytes) i 0 < 256
bytes_taken bytes n le are i =
    elim (cases_lt i n) [
      | inl lt ↦ rw (get_or-take n bytes i 0 lt) (are i)
      | inr past ↦ rw (get_or_past (take n bytes) i 0 (omega (arith, length-take-le n bytes le))) (omega arith)
    ]

bytes_left : (bytes : List ℕ) (n : ℕ) → IsBytes bytes → IsBytes (drop n bytes)
bytes_left bytes n are i = rw (get_or-drop n bytes i 0) (are (n + i))

small_sum : (bs : List ℕ) → ((i : ℕ) → get_or bs i 0 < 256) → from_be_bytes w32 bs < 2 ^ 32
small_sum bs are = omega (arith, are 0, are 1, are 2, are 3)

small_word : (bytes : List ℕ) → 4 ≤ length bytes → IsBytes bytes → word_of bytes 0 < 2 ^ 32
unfolding word_of
small_word bytes le are = small_sum (take 4 bytes) (bytes_taken bytes 4 le are)

word_is : (bytes : List ℕ) → 4 ≤ length bytes → IsBytes bytes → word (word_of bytes 0) ≡ take 4 bytes
unfolding word word_of
word_is bytes le are = be_bytes_4 (take 4 bytes) (from_be_bytes w32 (take 4 bytes)) (length-take-le 4 bytes le) (bytes_taken bytes 4 le are) refl

begins : (bytes : List ℕ) → 4 ≤ length bytes → IsBytes bytes → bytes ≡ word (word_of bytes 0) ++ drop 4 bytes
begins bytes le are = sym (take-append-drop 4 bytes) ∙ ap (λ (t : List ℕ). t ++ drop 4 bytes) (sym (word_is bytes le are))

-- ---- what stands first

-- a header stands first
pub record HeaderFirst (bytes : List ℕ) (number : ℕ) : Type 0 where
  pub more : List ℕ
  pub small : number < 2 ^ 32
  pub stands : bytes ≡ word number ++ more

-- a fragment stands first
pub record FragmentFirst (n : ℕ) (g bytes : List ℕ) (f : Fragment) (m : ℕ) (rest : List ℕ) : Type 0 where
  pub one : n ≡ suc m
  pub short : length g + length f.bytes ≤ max_record
  pub stands : bytes ≡ fragment_bytes f ++ rest
  pub are : IsBytes rest

-- what stands first, and what the front is
pub data Kind (n : ℕ) (g bytes : List ℕ) : Type 0 where
  Cut : (part : Part) → front_from n g bytes ≡ Open part → Kind n g bytes
  Long : (number : ℕ) → HeaderFirst bytes number → max_record < length g + length_in number → front_from n g bytes ≡ TooLong → Kind n g bytes
  Many : (number : ℕ) → HeaderFirst bytes number → n ≡ 0 → length g + length_in number ≤ max_record → front_from n g bytes ≡ TooManyFragments → Kind n g bytes
  Last : (f : Fragment) (m : ℕ) (rest : List ℕ) → FragmentFirst n g bytes f m rest → f.last ≡ true → front_from n g bytes ≡ Whole (g ++ f.bytes) rest → Kind n g bytes
  Next : (f : Fragment) (m : ℕ) (rest : List ℕ) → FragmentFirst n g bytes f m rest → f.last ≡ false → front_from n g bytes ≡ front_from m (g ++ f.bytes) rest → Kind n g bytes

first_header : (bytes : List ℕ) → 4 ≤ length bytes → IsBytes bytes → HeaderFirst bytes (word_of bytes 0)
first_header bytes le are = record { more = drop 4 bytes; small = small_word bytes le are; stands = begins bytes le are }

-- the fragment whose header stands first
abbrev first_fragment : List ℕ → Fragment
first_fragment bytes = record { bytes = take (length_in (word_of bytes 0)) (drop 4 bytes); last = is_last (word_of bytes 0) }

abbrev first_rest : List ℕ → List ℕ
first_rest bytes = drop (length_in (word_of bytes 0)) (drop 4 bytes)

fragment_first : (n : ℕ) (g bytes : List ℕ) (m : ℕ) → 4 ≤ length bytes → IsBytes bytes → n ≡ suc m → length g + length_in (word_of bytes 0) ≤ max_record → length_in (word_of bytes 0) ≤ length (drop 4 bytes) → FragmentFirst n g bytes (first_fragment bytes) m (first_rest bytes)
fragment_first n g bytes m le are e short room =
    let len = length_in (word_of bytes 0) in
    let size : length (take len (drop 4 bytes)) ≡ len = length-take-le len (drop 4 bytes) room in
    let header : header_word (length (take len (drop 4 bytes))) (is_last (word_of bytes 0)) ≡ word_of bytes 0 = ap (λ (k : ℕ). header_word k (is_last (word_of bytes 0))) size ∙ header_again (word_of bytes 0) in
    let joined : (word (word_of bytes 0) ++ take len (drop 4 bytes)) ++ drop len (drop 4 bytes) ≡ bytes =
    append_assoc (word (word_of bytes 0)) (take len (drop 4 bytes)) (drop len (drop 4 bytes))
    ∙ ap (λ (t : List ℕ). word (word_of bytes 0) ++ t) (take-append-drop len (drop 4 bytes))
    ∙ sym (begins bytes le are) in
    record {
      one = e;
      short = omega (arith, size, short);
      stands = sym (ap (λ (w : ℕ). (word w ++ take len (drop 4 bytes)) ++ drop len (drop 4 bytes)) header ∙ joined);
      are = bytes_left (drop 4 bytes) len (bytes_left bytes 4 are);
    }

kind_of_fragment : (n : ℕ) (g bytes : List ℕ) (m : ℕ) (last : Bool) → FragmentFirst n g bytes (first_fragment bytes) m (first_rest bytes) → is_last (word_of bytes 0) ≡ last
    → front_from n g bytes ≡ cond last (Whole (g ++ (first_fragment bytes).bytes) (first_rest bytes)) (front_from m (g ++ (first_fragment bytes).bytes) (first_rest bytes)) → Kind n g bytes
kind_of_fragment n g bytes m true first is e = Last (first_fragment bytes) m (first_rest bytes) first is e
kind_of_fragment n g bytes m false first is e = Next (first_fragment bytes) m (first_rest bytes) first is e

kind_behind : (n : ℕ) (g bytes : List ℕ) (m : ℕ) → 4 ≤ length bytes → IsBytes bytes → n ≡ suc m → length g + length_in (word_of bytes 0) ≤ max_record
    → front_from n g bytes ≡ behind_header m g (length_in (word_of bytes 0)) (is_last (word_of bytes 0)) (drop 4 bytes) (front_from m) → Kind n g bytes
kind_behind n g bytes m le are e short is =
    let len = length_in (word_of bytes 0) in
    elim (cases_lt (length (drop 4 bytes)) len) [
      | inl lt ↦
          let cut : ltb (length (drop 4 bytes)) len ≡ true = lt-ltb _ _ lt in
          Cut (record { gathered = g ++ drop 4 bytes; headers = m; coming = FragmentBody (len - length (drop 4 bytes)) (is_last (word_of bytes 0)) }) (is ∙ rw cut refl)
      | inr room ↦
          let all : ltb (length (drop 4 bytes)) len ≡ false = le-ltb _ _ room in
          kind_of_fragment n g bytes m (is_last (word_of bytes 0)) (fragment_first n g bytes m le are e short room) refl (is ∙ rw all refl)
    ]

kind_of_header : (n : ℕ) (g bytes : List ℕ) → 4 ≤ length bytes → IsBytes bytes → length g + length_in (word_of bytes 0) ≤ max_record → Kind n g bytes
kind_of_header zero g bytes le are short =
    let fits : ltb max_record (length g + length_in (word_of bytes 0)) ≡ false = le-ltb _ _ short in
    Many (word_of bytes 0) (first_header bytes le are) refl short (is_header zero g bytes le ∙ rw fits refl)
kind_of_header (suc n) g bytes le are short =
    let fits : ltb max_record (length g + length_in (word_of bytes 0)) ≡ false = le-ltb _ _ short in
    kind_behind (suc n) g bytes n le are refl short (is_header (suc n) g bytes le ∙ rw fits refl)

pub long_is : (n : ℕ) (g bytes : List ℕ) → 4 ≤ length bytes → max_record < length g + length_in (word_of bytes 0) → front_from n g bytes ≡ TooLong
long_is zero g bytes le long =
    let over : ltb max_record (length g + length_in (word_of bytes 0)) ≡ true = lt-ltb _ _ long in
    is_header zero g bytes le ∙ rw over refl
long_is (suc n) g bytes le long =
    let over : ltb max_record (length g + length_in (word_of bytes 0)) ≡ true = lt-ltb _ _ long in
    is_header (suc n) g bytes le ∙ rw over refl

pub kind_of : (n : ℕ) (g bytes : List ℕ) → IsBytes bytes → Kind n g bytes
kind_of n g bytes are =
    elim (cases_lt (length bytes) 4) [
      | inl lt ↦ Cut (record { gathered = g; headers = n; coming = Header bytes }) (is_short n g bytes lt)
      | inr le ↦
          elim (cases_lt max_record (length g + length_in (word_of bytes 0))) [
            | inl long ↦ Long (word_of bytes 0) (first_header bytes le are) long (long_is n g bytes le long)
            | inr short ↦ kind_of_header n g bytes le are short
          ]
    ]

-- ---- records that are read

record Spelled (n : ℕ) (g bytes message rest : List ℕ) : Type 0 where
  pub fragments : List Fragment
  pub are : AreRecord fragments
  pub few : length fragments ≤ n
  pub short : length g + length (message_of fragments) ≤ max_record
  pub stands : bytes ≡ stream_of fragments ++ rest
  pub whole : message ≡ g ++ message_of fragments

abbrev SpelledFrom : ℕ → Type 0
SpelledFrom n = (g bytes message rest : List ℕ) → IsBytes bytes → front_from n g bytes ≡ Whole message rest → Spelled n g bytes message rest

-- a fragment before those of a record
are_more : (f : Fragment) (fs : List Fragment) → f.last ≡ false → AreRecord fs → AreRecord (f ∷ fs)
are_more f [] e are = absurd are
are_more f (h ∷ fs) e are = (e, are)

spelled_more : (n : ℕ) (g bytes : List ℕ) (f : Fragment) (m : ℕ) (left message rest : List ℕ) → FragmentFirst n g bytes f m left → f.last ≡ false → Spelled m (g ++ f.bytes) left message rest → Spelled n g bytes message rest
spelled_more n g bytes f m left message rest first e s = record {
  fragments = f ∷ s.fragments;
  are = are_more f s.fragments e s.are;
  few = omega (arith, s.few, first.one);
  short = omega (arith, s.short, length-append g f.bytes, length-append f.bytes (message_of s.fragments));
  stands = first.stands ∙ ap (λ (t : List ℕ). fragment_bytes f ++ t) s.stands ∙ sym (append_assoc (fragment_bytes f) (stream_of s.fragments) rest);
  whole = s.whole ∙ append_assoc g f.bytes (message_of s.fragments);
}

spelled_last : (n : ℕ) (g bytes : List ℕ) (f : Fragment) (m : ℕ) (left message rest : List ℕ) → FragmentFirst n g bytes f m left → f.last ≡ true → Whole (g ++ f.bytes) left ≡ Whole message rest → Spelled n g bytes message rest
spelled_last n g bytes f m left message rest first e is =
    let same : left ≡ rest = cc is in
    let whole : g ++ f.bytes ≡ message = cc is in
    record {
      fragments = f ∷ [];
      are = e;
      few = omega (arith, first.one);
      short = omega (arith, first.short, length-append f.bytes []);
      stands = first.stands ∙ ap (λ (t : List ℕ). fragment_bytes f ++ t) same ∙ ap (λ (t : List ℕ). t ++ rest) (sym (append-nil (fragment_bytes f)));
      whole = sym whole ∙ ap (λ (t : List ℕ). g ++ t) (sym (append-nil f.bytes));
    }

spelled_by : (n : ℕ) (g bytes message rest : List ℕ) → ((m : ℕ) → n ≡ suc m → SpelledFrom m) → Kind n g bytes → front_from n g bytes ≡ Whole message rest → Spelled n g bytes message rest
spelled_by n g bytes message rest rec (Cut part is) e = absurd (cc (is, e))
spelled_by n g bytes message rest rec (Long number first long is) e = absurd (cc (is, e))
spelled_by n g bytes message rest rec (Many number first none short is) e = absurd (cc (is, e))
spelled_by n g bytes message rest rec (Last f m left first last is) e = spelled_last n g bytes f m left message rest first last (sym is ∙ e)
spelled_by n g bytes message rest rec (Next f m left first last is) e = spelled_more n g bytes f m left message rest first last (rec m first.one (g ++ f.bytes) left message rest first.are (sym is ∙ e))

spelled_from : (n : ℕ) → SpelledFrom n
spelled_from zero g bytes message rest are e = spelled_by zero g bytes message rest (λ m none. absurd (omega arith)) (kind_of zero g bytes are) e
spelled_from (suc n) g bytes message rest are e =
    spelled_by (suc n) g bytes message rest (λ m one. let same : n ≡ m = omega arith in subst SpelledFrom same (spelled_from n)) (kind_of (suc n) g bytes are) e

pub spelled : (bytes message rest : List ℕ) → IsRecordSpelled bytes message rest
spelled bytes message rest are e =
    let s = spelled_from max_fragments [] bytes message rest are (sym (front_is bytes) ∙ e) in
    record {
      fragments = s.fragments;
      are = s.are;
      within = record { few = s.few; short = omega (arith, s.short) };
      stands = s.stands;
      whole = s.whole;
    }
