use Rattle.std.proofs.Common.{◌≡◌, refl, Some, None}
use Rattle.std.specs.Prelude.{Option, ℕ, List}
use Rattle.ff_xdr.specs.declared.error.XdrError.{XdrError}
use Rattle.std.specs.Prelude.{Err}
use Rattle.ff_xdr.specs.Reading.{reading}
use Rattle.nfs4_compound.specs.CbArgs.{cb_argop4}
use Rattle.nfs4_compound.specs.Operations.{stop_at, stop_by, IsRefusedNumber}
use Rattle.nfs4_compound.proofs.Unbuilt.{stop_none, stop_unread, no_enum}
use Rattle.nfs4_compound.proofs.refused.unbuilt_cb_op.Goals as goal

by_number : (bytes : List ℕ) (at : ℕ) (e : XdrError) (number : Option ℕ) → reading cb_argop4 bytes at ≡ Err e → IsRefusedNumber bytes at e number
    → stop_at cb_argop4 bytes at e ≡ stop_by e number
by_number bytes at e None refused h = stop_none cb_argop4 bytes at e refl refused h
by_number bytes at e (Some n) refused h = stop_unread cb_argop4 bytes at n e refl refused h (no_enum cb_argop4 n refl)

pub returns : goal.returns
returns c = by_number c.args.bytes.now c.args.at c.args.error c.refused_number.result c.requires.refused c.refused_number.ensures
