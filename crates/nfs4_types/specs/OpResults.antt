-- What operations come to: a union by the status (RFC 8881, section 16.2.3).
use Rattle.std.specs.Prelude.{ℕ, ◌^◌, ◌&&◌, not, nat_eq, nat_lt, List, filter, IsTrue, refl}
use Rattle.std.proofs.Common.{inl, inr}
use Rattle.ff_xdr.specs.Form.{Form, Value, Arm, is_sound, avoids}
use Rattle.ff_xdr.specs.Laws.{is_filled}
use Rattle.ff_xdr.specs.Proper.{is_proper, both, proper_parts}
use Rattle.nfs4_types.specs.Status.{refusal4, stat4_number}
use Rattle.nfs4_types.specs.declared.op_result.OpResult.{OpResult}
use Rattle.nfs4_types.specs.declared.op_result.OpResult.TheVariants.{Done, Refused}

-- NFS4_OK with its fields; any other status has none
abbrev pub result4 : Form → Form
result4 done = Arm 0 done refusal4

abbrev pub result4_value : {D : Type 0} (done : Form) → (D → Value done) → OpResult D → Value (result4 done)
result4_value done done_value (Done d) = inl (done_value d)
result4_value done done_value (Refused status) = inr (stat4_number status)

pub result4_is_proper : (done : Form) → IsTrue (is_proper done) → IsTrue (is_proper (result4 done))
result4_is_proper done p =
    let d = proper_parts done p in
    both (nat_lt 0 (2 ^ 32) && avoids 0 refusal4 && is_sound done && is_sound refusal4) (is_filled done && is_filled refusal4)
    (both (nat_lt 0 (2 ^ 32) && avoids 0 refusal4 && is_sound done) (is_sound refusal4) d.0 refl)
    (both (is_filled done) (is_filled refusal4) d.1 refl)

-- all of these numbers but one
abbrev pub but : ℕ → List ℕ → List ℕ
but number numbers = filter (λ n. not (nat_eq n number)) numbers
