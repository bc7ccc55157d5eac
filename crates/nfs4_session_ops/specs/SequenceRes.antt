-- SEQUENCE: where a compound stands in its session (RFC 8881, section 18.46).
use Rattle.ff_xdr.specs.Form.{Form, Number32, Pair, Value}
use Rattle.nfs4_types.specs.Ids.{sessionid4}
use Rattle.nfs4_session_ops.specs.declared.sequence_res.SequenceOk.{SequenceOk}

-- SEQUENCE4resok: sessionid, sequenceid, slotid, highest_slotid, target_highest_slotid, status_flags
abbrev pub sequence4_ok : Form
sequence4_ok = Pair sessionid4 (Pair Number32 (Pair Number32 (Pair Number32 (Pair Number32 Number32))))

abbrev pub sequence4_ok_value : SequenceOk → Value sequence4_ok
sequence4_ok_value a = (a.session.0, (a.sequence, (a.slot, (a.highest, (a.target_highest, a.status_flags)))))
