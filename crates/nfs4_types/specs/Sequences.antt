-- Where a request stands in its session (RFC 8881, section 18.46).
use Rattle.ff_xdr.specs.Form.{Form, Number32, Boolean, Pair, Value}
use Rattle.nfs4_types.specs.declared.sequence.Sequence.{Sequence}
use Rattle.nfs4_types.specs.Ids.{sessionid4}

-- SEQUENCE4args: sessionid, sequenceid, slotid, highest_slotid, cachethis
abbrev pub sequence4_args : Form
sequence4_args = Pair sessionid4 (Pair Number32 (Pair Number32 (Pair Number32 Boolean)))

abbrev pub sequence4_args_value : Sequence → Value sequence4_args
sequence4_args_value s = (s.session.0, (s.sequence, (s.slot, (s.highest, s.cachethis))))
