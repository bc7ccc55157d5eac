-- What calls come to: a union by the status (RFC 1813, section 2.6).
use Rattle.std.specs.Prelude.{◌^◌, ◌&&◌, nat_lt, IsTrue, refl}
use Rattle.std.proofs.Common.{inl, inr}
use Rattle.ff_xdr.specs.Form.{Form, Value, Pair, Arm, is_sound, avoids}
use Rattle.ff_xdr.specs.Laws.{is_filled}
use Rattle.ff_xdr.specs.Proper.{is_proper, both, proper_parts, pair_is_proper}
use Rattle.nfs3_wire.specs.declared.outcome.Outcome.{Outcome}
use Rattle.nfs3_wire.specs.declared.outcome.Outcome.TheVariants.{Done, Refused}
use Rattle.nfs3_wire.specs.Status.{refusal, stat_number}

abbrev pub outcome_value : {D R : Type 0} (done fields : Form) → (D → Value done) → (R → Value fields) → Outcome D R → Value (Arm 0 done (Pair refusal fields))
outcome_value done fields done_value fields_value (Done d) = inl (done_value d)
outcome_value done fields done_value fields_value (Refused status r) = inr (stat_number status, fields_value r)

pub outcome_is_proper : (done fields : Form) → IsTrue (is_proper done) → IsTrue (is_proper fields) → IsTrue (is_proper (Arm 0 done (Pair refusal fields)))
outcome_is_proper done fields p q =
    let d = proper_parts done p in
    let others = proper_parts (Pair refusal fields) (pair_is_proper refusal fields refl q) in
    both (nat_lt 0 (2 ^ 32) && avoids 0 (Pair refusal fields) && is_sound done && is_sound (Pair refusal fields)) (is_filled done && is_filled (Pair refusal fields))
    (both (nat_lt 0 (2 ^ 32) && avoids 0 (Pair refusal fields) && is_sound done) (is_sound (Pair refusal fields)) d.0 others.0)
    (both (is_filled done) (is_filled (Pair refusal fields)) d.1 others.1)
