-- CLOSE: a file is closed (RFC 8881, section 18.2).
use Rattle.ff_xdr.specs.Form.{Form, Number32, Pair, Value}
use Rattle.nfs4_types.specs.Stateids.{stateid4, stateid4_value}
use Rattle.nfs4_file_ops.specs.declared.close.CloseArgs.{CloseArgs}

-- CLOSE4args: seqid, open_stateid
abbrev pub close4_args : Form
close4_args = Pair Number32 stateid4

abbrev pub close4_args_value : CloseArgs → Value close4_args
close4_args_value a = (a.seqid, stateid4_value a.stateid)
