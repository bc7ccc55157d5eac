-- Where a stream is refused, and that it has one reading.
use Rattle.std.proofs.Common.{◌≡◌, ℕ, zero, suc, ◌+◌, ◌-◌, ◌^◌, ◌<◌, ◌≤◌, true, false, ltb, List, [], ◌∷◌, ◌++◌, length, take, refl, sym, ap, subst, ◌∙◌, append_assoc, arith}
use Rattle.std.proofs.lemmas.Bool.{le-ltb, both_ways}
use Rattle.std.proofs.lemmas.List.{length-append, length-take}
use Rattle.ff_xdr.specs.Form.{word}
use Rattle.ff_xdr.specs.Laws.{IsBytes}
use Rattle.rpc_record.specs.Calls.{word_of}
use Rattle.rpc_record.specs.Frames.{max_record, max_fragments, length_in, Front, Open, Whole, TooLong, TooManyFragments, front_from, front_of, is_whole, HasGiven}
use Rattle.rpc_record.specs.FrameLaws.{Fragment, fragment_bytes, stream_of, message_of, AreInner, AreWithin, IsOpen, HeaderAt, HasLongHeader, HasHeaderTooMany, IsLongJustWhere, IsTooManyJustWhere, with_more, StandsBefore, HasOneReading}
use Rattle.rpc_record.specs.FramesView.{resume}
use Rattle.rpc_record.proofs.FrameSteps.{is_short, is_header, resume_of}
use Rattle.rpc_record.proofs.FrameRecords.{length_word, word_stands, through, front_is}
use Rattle.rpc_record.proofs.FrameReadings.{HeaderFirst, FragmentFirst, Kind, Cut, Long, Many, Last, Next, kind_of, long_is}

-- ---- a header behind fragments

-- behind fragments, of which none is the last, stands this header
record Found (n : ℕ) (g bytes : List ℕ) (fragments : List Fragment) (number : ℕ) : Type 0 where
  pub more : List ℕ
  pub inner : AreInner fragments
  pub few : length fragments ≤ n
  pub short : length g + length (message_of fragments) ≤ max_record
  pub small : number < 2 ^ 32
  pub stands : bytes ≡ stream_of fragments ++ (word number ++ more)

found_first : (n : ℕ) (g bytes : List ℕ) (number : ℕ) → length g ≤ max_record → HeaderFirst bytes number → Found n g bytes [] number
found_first n g bytes number le h = record { more = h.more; inner = tt; few = omega arith; short = omega arith; small = h.small; stands = h.stands }

found_more : (n : ℕ) (g bytes : List ℕ) (f : Fragment) (m : ℕ) (left : List ℕ) (fs : List Fragment) (number : ℕ) → FragmentFirst n g bytes f m left → f.last ≡ false → Found m (g ++ f.bytes) left fs number → Found n g bytes (f ∷ fs) number
found_more n g bytes f m left fs number first e s = record {
  more = s.more;
  inner = (e, s.inner);
  few = omega (arith, s.few, first.one);
  short = omega (arith, s.short, length-append g f.bytes, length-append f.bytes (message_of fs));
  small = s.small;
  stands = first.stands ∙ ap (λ (t : List ℕ). fragment_bytes f ++ t) s.stands ∙ sym (append_assoc (fragment_bytes f) (stream_of fs) (word number ++ s.more));
}

-- behind fragments within both limits the front is that of what follows, with as many headers fewer
behind_inner : (fs : List Fragment) (rest : List ℕ) → AreInner fs → AreWithin fs → front_of (stream_of fs ++ rest) ≡ front_from (max_fragments - length fs) (message_of fs) rest
behind_inner fs rest inner within =
    front_is (stream_of fs ++ rest) ∙ through fs max_fragments (max_fragments - length fs) [] rest inner (omega (arith, within.few)) (omega (arith, within.short))

inner_open : (fs : List Fragment) → AreInner fs → AreWithin fs → (number i : ℕ) → i < 4 → IsOpen (front_of (stream_of fs ++ take i (word number)))
inner_open fs inner within number i lt =
    let short : length (take i (word number)) < 4 = omega (arith, length-take i (word number), lt) in
    let is = behind_inner fs (take i (word number)) inner within ∙ is_short (max_fragments - length fs) (message_of fs) (take i (word number)) short in
    subst (λ (f : Front). IsOpen f) (sym is) tt

header_at : (bytes : List ℕ) (fs : List Fragment) (number : ℕ) → Found max_fragments [] bytes fs number → HeaderAt bytes fs number
header_at bytes fs number s =
    let within : AreWithin fs = record { few = s.few; short = omega (arith, s.short) } in
    record {
      more = s.more;
      inner = s.inner;
      within = within;
      small = s.small;
      stands = s.stands;
      before = inner_open fs s.inner within number;
    }

front_at_header : (bytes : List ℕ) (fs : List Fragment) (number : ℕ) → (h : HeaderAt bytes fs number) → front_of bytes ≡ front_from (max_fragments - length fs) (message_of fs) (word number ++ h.more)
front_at_header bytes fs number h = ap front_of h.stands ∙ behind_inner fs (word number ++ h.more) h.inner h.within

header_room : (number : ℕ) (more : List ℕ) → 4 ≤ length (word number ++ more)
header_room number more = omega (arith, length-append (word number) more, length_word number)

-- ---- a header that passes the limit of the length

record LongAt (n : ℕ) (g bytes : List ℕ) : Type 0 where
  pub fragments : List Fragment
  pub number : ℕ
  pub header : Found n g bytes fragments number
  pub long : max_record < length g + length (message_of fragments) + length_in number

abbrev LongFrom : ℕ → Type 0
LongFrom n = (g bytes : List ℕ) → IsBytes bytes → length g ≤ max_record → front_from n g bytes ≡ TooLong → LongAt n g bytes

long_more : (n : ℕ) (g bytes : List ℕ) (f : Fragment) (m : ℕ) (left : List ℕ) → FragmentFirst n g bytes f m left → f.last ≡ false → LongAt m (g ++ f.bytes) left → LongAt n g bytes
long_more n g bytes f m left first e s = record {
  fragments = f ∷ s.fragments;
  number = s.number;
  header = found_more n g bytes f m left s.fragments s.number first e s.header;
  long = omega (arith, s.long, length-append g f.bytes, length-append f.bytes (message_of s.fragments));
}

long_by : (n : ℕ) (g bytes : List ℕ) → ((m : ℕ) → n ≡ suc m → LongFrom m) → length g ≤ max_record → Kind n g bytes → front_from n g bytes ≡ TooLong → LongAt n g bytes
long_by n g bytes rec le (Cut part is) e = absurd (cc (is, e))
long_by n g bytes rec le (Long number first long is) e = record { fragments = []; number = number; header = found_first n g bytes number le first; long = omega (arith, long) }
long_by n g bytes rec le (Many number first none short is) e = absurd (cc (is, e))
long_by n g bytes rec le (Last f m left first last is) e = absurd (cc (is, e))
long_by n g bytes rec le (Next f m left first last is) e =
    long_more n g bytes f m left first last (rec m first.one (g ++ f.bytes) left first.are (omega (arith, first.short, length-append g f.bytes)) (sym is ∙ e))

long_from : (n : ℕ) → LongFrom n
long_from zero g bytes are le e = long_by zero g bytes (λ m none. absurd (omega arith)) le (kind_of zero g bytes are) e
long_from (suc n) g bytes are le e =
    long_by (suc n) g bytes (λ m one. let same : n ≡ m = omega arith in subst LongFrom same (long_from n)) le (kind_of (suc n) g bytes are) e

long_there : (bytes : List ℕ) → IsBytes bytes → front_of bytes ≡ TooLong → HasLongHeader bytes
long_there bytes are e =
    let s = long_from max_fragments [] bytes are (omega arith) (sym (front_is bytes) ∙ e) in
    record { fragments = s.fragments; number = s.number; header = header_at bytes s.fragments s.number s.header; long = omega (arith, s.long) }

long_back : (bytes : List ℕ) → HasLongHeader bytes → front_of bytes ≡ TooLong
long_back bytes h =
    let same : word_of (word h.number ++ h.header.more) 0 ≡ h.number = word_stands h.number h.header.more h.header.small in
    let long : max_record < length (message_of h.fragments) + length_in (word_of (word h.number ++ h.header.more) 0) = subst (λ (w : ℕ). max_record < length (message_of h.fragments) + length_in w) (sym same) h.long in
    front_at_header bytes h.fragments h.number h.header
    ∙ long_is (max_fragments - length h.fragments) (message_of h.fragments) (word h.number ++ h.header.more) (header_room h.number h.header.more) long

pub long : (bytes : List ℕ) → IsLongJustWhere bytes
long bytes are = (long_there bytes are, long_back bytes)

-- ---- a header more than a record may have

record ManyAt (n : ℕ) (g bytes : List ℕ) : Type 0 where
  pub fragments : List Fragment
  pub number : ℕ
  pub header : Found n g bytes fragments number
  pub full : length fragments ≡ n
  pub fits : length g + length (message_of fragments) + length_in number ≤ max_record

abbrev ManyFrom : ℕ → Type 0
ManyFrom n = (g bytes : List ℕ) → IsBytes bytes → length g ≤ max_record → front_from n g bytes ≡ TooManyFragments → ManyAt n g bytes

many_more : (n : ℕ) (g bytes : List ℕ) (f : Fragment) (m : ℕ) (left : List ℕ) → FragmentFirst n g bytes f m left → f.last ≡ false → ManyAt m (g ++ f.bytes) left → ManyAt n g bytes
many_more n g bytes f m left first e s = record {
  fragments = f ∷ s.fragments;
  number = s.number;
  header = found_more n g bytes f m left s.fragments s.number first e s.header;
  full = omega (arith, s.full, first.one);
  fits = omega (arith, s.fits, length-append g f.bytes, length-append f.bytes (message_of s.fragments));
}

many_by : (n : ℕ) (g bytes : List ℕ) → ((m : ℕ) → n ≡ suc m → ManyFrom m) → length g ≤ max_record → Kind n g bytes → front_from n g bytes ≡ TooManyFragments → ManyAt n g bytes
many_by n g bytes rec le (Cut part is) e = absurd (cc (is, e))
many_by n g bytes rec le (Long number first long is) e = absurd (cc (is, e))
many_by n g bytes rec le (Many number first none short is) e = record { fragments = []; number = number; header = found_first n g bytes number le first; full = sym none; fits = omega (arith, short) }
many_by n g bytes rec le (Last f m left first last is) e = absurd (cc (is, e))
many_by n g bytes rec le (Next f m left first last is) e =
    many_more n g bytes f m left first last (rec m first.one (g ++ f.bytes) left first.are (omega (arith, first.short, length-append g f.bytes)) (sym is ∙ e))

many_from : (n : ℕ) → ManyFrom n
many_from zero g bytes are le e = many_by zero g bytes (λ m none. absurd (omega arith)) le (kind_of zero g bytes are) e
many_from (suc n) g bytes are le e =
    many_by (suc n) g bytes (λ m one. let same : n ≡ m = omega arith in subst ManyFrom same (many_from n)) le (kind_of (suc n) g bytes are) e

many_there : (bytes : List ℕ) → IsBytes bytes → front_of bytes ≡ TooManyFragments → HasHeaderTooMany bytes
many_there bytes are e =
    let s = many_from max_fragments [] bytes are (omega arith) (sym (front_is bytes) ∙ e) in
    record { fragments = s.fragments; number = s.number; header = header_at bytes s.fragments s.number s.header; full = s.full; short = omega (arith, s.fits) }

many_is : (g bytes : List ℕ) → 4 ≤ length bytes → length g + length_in (word_of bytes 0) ≤ max_record → front_from 0 g bytes ≡ TooManyFragments
many_is g bytes le short =
    let fits : ltb max_record (length g + length_in (word_of bytes 0)) ≡ false = le-ltb _ _ short in
    is_header 0 g bytes le ∙ rw fits refl

many_back : (bytes : List ℕ) → HasHeaderTooMany bytes → front_of bytes ≡ TooManyFragments
many_back bytes h =
    let same : word_of (word h.number ++ h.header.more) 0 ≡ h.number = word_stands h.number h.header.more h.header.small in
    let short : length (message_of h.fragments) + length_in (word_of (word h.number ++ h.header.more) 0) ≤ max_record = subst (λ (w : ℕ). length (message_of h.fragments) + length_in w ≤ max_record) (sym same) h.short in
    let none : max_fragments - length h.fragments ≡ 0 = omega (arith, h.full) in
    front_at_header bytes h.fragments h.number h.header
    ∙ ap (λ (n : ℕ). front_from n (message_of h.fragments) (word h.number ++ h.header.more)) none
    ∙ many_is (message_of h.fragments) (word h.number ++ h.header.more) (header_room h.number h.header.more) short

pub many : (bytes : List ℕ) → IsTooManyJustWhere bytes
many bytes are = (many_there bytes are, many_back bytes)

-- ---- more bytes, and other cuttings

stands_resumed : (front : Front) (more : List ℕ) → with_more front more (resume front more)
unfolding resume
stands_resumed (Open part) more = tt
stands_resumed (Whole message rest) more = refl
stands_resumed TooLong more = refl
stands_resumed TooManyFragments more = refl

pub stands : (bytes more : List ℕ) → StandsBefore bytes more
stands bytes more = subst (λ (f : Front). with_more (front_of bytes) more f) (sym (resume_of bytes more)) (stands_resumed (front_of bytes) more)

whole_not : (stream message rest : List ℕ) (front : Front) → front ≡ front_of stream → front_of stream ≡ Whole message rest → is_whole front ≡ false → ⊥
whole_not stream message rest front is whole ends =
    let same : is_whole front ≡ true = ap is_whole (is ∙ whole) in
    both_ways (is_whole front) ends same

pub one : (stream : List ℕ) → HasOneReading stream
one stream [] [] front front' given given' ends ends' = (refl, given ∙ sym given')
one stream [] (m' ∷ messages') front front' given given' ends ends' = absurd (whole_not stream m' given'.0 front given given'.1 ends)
one stream (m ∷ messages) [] front front' given given' ends ends' = absurd (whole_not stream m given.0 front' given' given.1 ends')
one stream (m ∷ messages) (m' ∷ messages') front front' given given' ends ends' =
    let whole : Whole m given.0 ≡ Whole m' given'.0 = sym given.1 ∙ given'.1 in
    let first : m ≡ m' = cc whole in
    let rest : given.0 ≡ given'.0 = cc whole in
    let next = one given.0 messages messages' front front' given.2 (subst (λ (r : List ℕ). HasGiven r messages' front') (sym rest) given'.2) ends ends' in
    let same : messages ≡ messages' = next.0 in
    (cc (first, same), next.1)
