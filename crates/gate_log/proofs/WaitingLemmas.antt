-- The bytes of records that wait, and the log that they become.
use Rattle.std.proofs.Common.{◌≡◌, ℕ, ◌+◌, ◌-◌, ◌^◌, ◌<◌, ◌≤◌, List, [], ◌∷◌, ◌++◌, length, take, drop, min, ◌⊎◌, inl, inr, refl, sym, ap, ◌∙◌, arith}
use Rattle.std.proofs.lemmas.List.{append_assoc, append-nil, length-append, length-drop, length-take-le, take-take, take_at, drop-take, drop-drop}
use Rattle.cluster_model.specs.Content.{overlay}
use Rattle.cluster_model.proofs.Placing.{take-drop-overlay, length-overlay-ge}
use Rattle.ff_xdr.specs.Form.{word}
use Rattle.ff_xdr.proofs.Fields.{length-word}
use Rattle.store_disk.specs.Disks.{Torn}
use Rattle.store_disk.proofs.Placed.{torn_whole}
use Rattle.gate_log.specs.Logs.{Closed, Opens, gate_of, gated, gated_all, log_from, log_size, with_body}
use Rattle.gate_log.specs.Appends.{whole_log}
use Rattle.gate_log.specs.Bodies.{with_gates}
use Rattle.gate_log.specs.Staging.{AreShort, waiting_bytes}
use Rattle.gate_log.proofs.BodyLemmas.{length-gated}
use Rattle.gate_log.proofs.FrontLemmas.{take_plus}
use Rattle.gate_log.proofs.GateLemmas.{IsRecord, record_gate}
use Rattle.gate_log.proofs.LogLemmas.{log_by_gate, with_bodies}
use Rattle.gate_log.proofs.TornLogs.{word_again}

pub length-gated_all : (bodies : List (List ℕ)) → length (gated_all bodies) ≡ log_size bodies
length-gated_all [] = refl
length-gated_all (body ∷ bodies) = omega (arith, length-append (gated body) (gated_all bodies), length-gated body, length-gated_all bodies)

pub gated_push : (bodies : List (List ℕ)) (body : List ℕ) → gated_all (bodies ++ body ∷ []) ≡ gated_all bodies ++ gated body
gated_push [] body = append-nil (gated body)
gated_push (first ∷ bodies) body =
    ap (λ (xs : List ℕ). gated first ++ xs) (gated_push bodies body) ∙ sym (append_assoc (gated first) (gated_all bodies) (gated body))

pub log_size_both : (bodies staged : List (List ℕ)) → log_size (bodies ++ staged) ≡ log_size bodies + log_size staged
log_size_both [] staged = omega arith
log_size_both (body ∷ bodies) staged = omega (arith, log_size_both bodies staged)

pub with_bodies_both : (bodies staged : List (List ℕ)) → with_bodies bodies (whole_log staged) ≡ whole_log (bodies ++ staged)
with_bodies_both [] staged = refl
with_bodies_both (body ∷ bodies) staged = ap (with_body body) (with_bodies_both bodies staged)

pub short_push : (staged : List (List ℕ)) (body : List ℕ) → AreShort staged → length body < 2 ^ 32 → AreShort (staged ++ body ∷ [])
short_push [] body all short = (short, tt)
short_push (first ∷ staged) body all short = (all.0, short_push staged body all.1 short)

-- ---- one record more waits

-- before it the closed gate alone, or records
rests_more : (front old : List ℕ) (from : ℕ) (piece : List ℕ) → ((front ≡ []) × (from ≡ 1)) ⊎ ((0 < length front) × (from ≡ 0)) → take (length (drop 1 (front ++ 0 ∷ []))) old ≡ drop 1 (front ++ 0 ∷ [])
    → take (length front + from - 1) old ++ drop from piece ≡ drop 1 (front ++ piece)
rests_more front old from piece (inl none) same =
    ap (λ (n : ℕ). take (length front + n - 1) old ++ drop n piece) none.1
    ∙ ap (λ (xs : List ℕ). take (length xs + 1 - 1) old ++ drop 1 piece) none.0
    ∙ ap (λ (xs : List ℕ). drop 1 (xs ++ piece)) (sym none.0)
rests_more [] old from piece (inr some) same = absurd (omega (arith, some.0))
rests_more (byte ∷ front) old from piece (inr some) same =
    let all : length (front ++ 0 ∷ []) ≡ length front + 1 = length-append front (0 ∷ []) in
    let count : length (byte ∷ front) + 0 - 1 ≡ length front = omega arith in
    let before : take (length front) old ≡ front =
    sym (take-take (length front) (length (front ++ 0 ∷ [])) old (omega (arith, all))) ∙ ap (take (length front)) same ∙ take_at front (0 ∷ []) (length front) refl in
    ap (λ (n : ℕ). take (length (byte ∷ front) + n - 1) old ++ drop n piece) some.1 ∙ ap (λ (n : ℕ). take n old ++ piece) count ∙ ap (λ (xs : List ℕ). xs ++ piece) before

module _ (bytes : List ℕ) (staged : List (List ℕ)) (end at from : ℕ) (at_is : at ≡ end + log_size staged) (within : at < length bytes) (kind : ((staged ≡ []) × (from ≡ 1)) ⊎ ((0 < log_size staged) × (from ≡ 0)))
    (waiting : take (length (waiting_bytes staged)) (drop (end + 1) bytes) ≡ waiting_bytes staged) (body : List ℕ) where
  abbrev pub piece : List ℕ
  piece = drop from (with_gates body)

  abbrev pub more : List ℕ
  more = overlay bytes (at + from) piece

  -- how many bytes wait before it
  abbrev count : ℕ
  count = length (gated_all staged) + from - 1

  from_kind : ((gated_all staged ≡ []) × (from ≡ 1)) ⊎ ((0 < length (gated_all staged)) × (from ≡ 0))
  from_kind = elim kind [
    | inl none ↦ inl (ap (λ (bs : List (List ℕ)). gated_all bs) none.0, none.1)
    | inr some ↦ inr (omega (arith, some.0, length-gated_all staged), some.1)
  ]

  place : (end + 1) + count ≡ at + from
  place = elim kind [
    | inl none ↦ omega (arith, at_is, none.1, length-gated_all staged)
    | inr some ↦ omega (arith, at_is, some.0, some.1, length-gated_all staged)
  ]

  near : at + from ≤ length bytes
  near = elim kind [ inl none ↦ omega (arith, within, none.1) | inr some ↦ omega (arith, within, some.1) ]

  before_same : take count (drop (end + 1) more) ≡ take count (drop (end + 1) bytes)
  before_same =
      let torn : Torn (at + from) (length piece) bytes more = torn_whole bytes (at + from) piece in
      let first : min (at + from) (length bytes) ≡ at + from = omega (arith, near) in
      let same : take (at + from) more ≡ take (at + from) bytes = ap (λ (n : ℕ). take n more) (sym first) ∙ torn.before in
      sym (drop-take (end + 1) count more)
      ∙ ap (λ (n : ℕ). drop (end + 1) (take n more)) place ∙ ap (drop (end + 1)) same ∙ ap (λ (n : ℕ). drop (end + 1) (take n bytes)) (sym place)
      ∙ drop-take (end + 1) count bytes

  here : take (length piece) (drop count (drop (end + 1) more)) ≡ piece
  here =
      ap (take (length piece)) (drop-drop count (end + 1) more) ∙ ap (λ (n : ℕ). take (length piece) (drop n more)) place ∙ take-drop-overlay bytes (at + from) piece

  rests : take count (drop (end + 1) bytes) ++ piece ≡ drop 1 (gated_all staged ++ with_gates body)
  rests = rests_more (gated_all staged) (drop (end + 1) bytes) from (with_gates body) from_kind waiting

  both : take (count + length piece) (drop (end + 1) more) ≡ drop 1 (gated_all staged ++ with_gates body)
  both =
      take_plus count (length piece) (drop (end + 1) more) ∙ ap (λ (xs : List ℕ). xs ++ take (length piece) (drop count (drop (end + 1) more))) before_same
      ∙ ap (λ (xs : List ℕ). take count (drop (end + 1) bytes) ++ xs) here ∙ rests

  now : waiting_bytes (staged ++ body ∷ []) ≡ drop 1 (gated_all staged ++ with_gates body)
  now = ap (λ (xs : List ℕ). drop 1 (xs ++ 0 ∷ [])) (gated_push staged body) ∙ ap (drop 1) (append_assoc (gated_all staged) (gated body) (0 ∷ []))

  long : length (take count (drop (end + 1) more)) ≡ count
  long = length-take-le count (drop (end + 1) more) (omega (arith, place, near, length-drop (end + 1) more, length-overlay-ge bytes (at + from) piece))

  size : length (waiting_bytes (staged ++ body ∷ [])) ≡ count + length piece
  size =
      ap length (now ∙ sym rests) ∙ length-append (take count (drop (end + 1) bytes)) piece ∙ ap (λ (xs : List ℕ). length xs + length piece) (sym before_same) ∙ ap (λ (n : ℕ). n + length piece) long

  pub waits_more : take (length (waiting_bytes (staged ++ body ∷ []))) (drop (end + 1) more) ≡ waiting_bytes (staged ++ body ∷ [])
  waits_more = ap (λ (n : ℕ). take n (drop (end + 1) more)) size ∙ both ∙ sym now

-- ---- the gate before them is opened

record_here : (body rest : List ℕ) → length body < 2 ^ 32 → IsRecord (gated body ++ rest) body rest
record_here body rest short = record {
  head = word (length body);
  is = append_assoc (1 ∷ word (length body)) body rest;
  four = length-word (length body);
  counts = word_again (length body) short;
}

pub opened_log : (staged : List (List ℕ)) (rest : List ℕ) → AreShort staged → gate_of rest ≡ Closed → log_from (gated_all staged ++ rest) ≡ whole_log staged
opened_log [] rest all closed = log_by_gate rest Closed closed
opened_log (body ∷ staged) rest all closed =
    let behind : List ℕ = gated_all staged ++ rest in
    ap (λ (xs : List ℕ). log_from xs) (append_assoc (gated body) (gated_all staged) rest)
    ∙ log_by_gate (gated body ++ behind) (Opens body behind) (record_gate (gated body ++ behind) body behind (record_here body behind all.0))
    ∙ ap (with_body body) (opened_log staged rest all.1 closed)

-- an open gate before what waits makes records of it
pub opened_bytes : (staged : List (List ℕ)) → 0 < log_size staged → 1 ∷ waiting_bytes staged ≡ gated_all staged ++ 0 ∷ []
opened_bytes [] some = absurd (omega (arith, some))
opened_bytes (body ∷ staged) some = refl
