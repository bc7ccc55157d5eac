-- Ids of 16 bytes with the same client and the same number are one.
use Rattle.std.proofs.Common.{◌≡◌, ℕ, Bool, true, false, List, ◌++◌, length, take, drop, refl, sym, ap, ◌∙◌, arith, take-append-drop}
use Rattle.std.specs.Prelude.{◌==◌, ◌&&◌}
use Rattle.std.specs.Int.{w64, from_be_bytes, to_be_bytes}
use Rattle.std.proofs.lemmas.Bool.{eqb-true}
use Rattle.std.proofs.lemmas.List.{length-take-le, length-drop}
use Rattle.std.proofs.lemmas.Nat.{be_bytes_8}
use Rattle.ff_xdr.specs.Laws.{IsBytes}
use Rattle.ff_xdr.proofs.Places.{IsBytes-drop, IsBytes-take}
use Rattle.nfs4_types.specs.declared.ids.SessionId.{SessionId}
use Rattle.nfs4_session.specs.Clients.{client_in, number_in}
use Rattle.table_slots.specs.TableSlots.{IsSessionId, ReadsEachId}

-- eight bytes of one number
same_eight : (xs ys : List ℕ) → length xs ≡ 8 → length ys ≡ 8 → IsBytes xs → IsBytes ys → from_be_bytes w64 xs ≡ from_be_bytes w64 ys → xs ≡ ys
same_eight xs ys eight more first second same =
    sym (be_bytes_8 xs (from_be_bytes w64 xs) eight first refl) ∙ ap (to_be_bytes w64) same ∙ be_bytes_8 ys (from_be_bytes w64 ys) more second refl

front_eight : (id : SessionId) → IsSessionId id → length (take 8 id.0) ≡ 8
front_eight id whole = let sixteen : length id.0 ≡ 16 = whole.0 in length-take-le 8 id.0 (omega (arith, sixteen))

back_eight : (id : SessionId) → IsSessionId id → length (drop 8 id.0) ≡ 8
back_eight id whole = let sixteen : length id.0 ≡ 16 = whole.0 in omega (arith, sixteen, length-drop 8 id.0)

both_true : (a b : Bool) → (a && b) ≡ true → (a ≡ true) × (b ≡ true)
both_true true true is = (refl, refl)
both_true true false is = absurd (cc (is))
both_true false b is = absurd (cc (is))

pub reads_each_id : ReadsEachId
reads_each_id session other whole so is =
    let both = both_true (client_in other == client_in session) (number_in other == number_in session) is in
    let fronts : take 8 other.0 ≡ take 8 session.0 =
    same_eight (take 8 other.0) (take 8 session.0) (front_eight other so) (front_eight session whole) (IsBytes-take 8 other.0 so.1) (IsBytes-take 8 session.0 whole.1) (eqb-true (client_in other) (client_in session) both.0) in
    let backs : drop 8 other.0 ≡ drop 8 session.0 =
    same_eight (drop 8 other.0) (drop 8 session.0) (back_eight other so) (back_eight session whole) (IsBytes-drop 8 other.0 so.1) (IsBytes-drop 8 session.0 whole.1) (eqb-true (number_in other) (number_in session) both.1) in
    sym (take-append-drop 8 other.0) ∙ ap (λ front. front ++ drop 8 other.0) fronts ∙ ap (λ back. take 8 session.0 ++ back) backs ∙ take-append-drop 8 session.0
