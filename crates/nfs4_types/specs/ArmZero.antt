-- Unions of which one arm is built (RFC 4506, section 4.15).
use Rattle.std.specs.Prelude.{IsTrue, true, ◌&&◌, refl}
use Rattle.ff_xdr.specs.Form.{Form, Arm, NoArm, is_sound}
use Rattle.ff_xdr.specs.Laws.{is_filled}
use Rattle.ff_xdr.specs.Proper.{is_proper, both, proper_parts}

-- the arm of number 0 alone
abbrev pub arm_zero : Form → Form
arm_zero body = Arm 0 body NoArm

pub arm_zero_is_proper : (body : Form) → IsTrue (is_proper body) → IsTrue (is_proper (arm_zero body))
arm_zero_is_proper body p =
    let b = proper_parts body p in
    both (is_sound body && true) (is_filled body && true) (both (is_sound body) true b.0 refl) (both (is_filled body) true b.1 refl)
