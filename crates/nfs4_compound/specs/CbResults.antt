-- The results of callbacks by number (RFC 8881, sections 20.2 and 20): nfs_cb_resop4.
use Rattle.std.specs.Prelude.{ℕ, List, [], ◌∷◌}
use Rattle.ff_xdr.specs.Form.{Form, Void, Pair, Arm, Default, Value}
use Rattle.ff_xdr.specs.Arms.{arm}
use Rattle.nfs4_types.specs.Status.{refusal4, stat4_number}
use Rattle.nfs4_types.specs.OpResults.{result4, result4_value}
use Rattle.nfs4_session_ops.specs.CbSequence.{cb_sequence4_ok, cb_sequence4_ok_value}
use Rattle.nfs4_compound.specs.Behind.{behind_arms}
use Rattle.nfs4_compound.specs.declared.cb_res.CbRes.{CbRes}
use Rattle.nfs4_compound.specs.declared.cb_res.CbRes.TheVariants as res

-- the numbers that are built
abbrev pub cb_op_numbers : List ℕ
cb_op_numbers = 5 ∷ 11 ∷ []

-- The result of each that is built, by its number. Under any other number stands a status other than OK, and nothing more.
abbrev pub cb_resop4 : Form
cb_resop4 =
    Arm 5 (result4 Void)
    (Arm 11 (result4 cb_sequence4_ok) (Pair (Default cb_op_numbers) refusal4))

abbrev pub cb_res_value : CbRes → Value cb_resop4
cb_res_value (res.LayoutRecall r) = arm 5 cb_resop4 (result4_value Void (λ nothing. tt) r)
cb_res_value (res.Sequence r) = arm 11 cb_resop4 (result4_value cb_sequence4_ok cb_sequence4_ok_value r)
cb_res_value (res.Unbuilt number status) = behind_arms cb_resop4 (number, stat4_number status)
