-- OPEN_DOWNGRADE: less access by an open (RFC 8881, section 18.18). Its result is a stateid.
use Rattle.ff_xdr.specs.Form.{Form, Number32, Pair, Value}
use Rattle.nfs4_types.specs.Stateids.{stateid4, stateid4_value}
use Rattle.nfs4_unserved_ops.specs.declared.open_downgrade.OpenDowngradeArgs.{OpenDowngradeArgs}

-- OPEN_DOWNGRADE4args: open_stateid, seqid, share_access, share_deny
abbrev pub open_downgrade4_args : Form
open_downgrade4_args = Pair stateid4 (Pair Number32 (Pair Number32 Number32))

abbrev pub open_downgrade4_args_value : OpenDowngradeArgs → Value open_downgrade4_args
open_downgrade4_args_value a = (stateid4_value a.stateid, (a.seqid, (a.share_access, a.share_deny)))
