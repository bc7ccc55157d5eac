-- CB_SEQUENCE: where a callback stands in its session (RFC 8881, section 20.9).
use Rattle.ff_xdr.specs.Items.{contents}
use Rattle.ff_xdr.specs.Form.{Form, Array, Boolean, Number32, Pair, Value}
use Rattle.nfs4_types.specs.Ids.{sessionid4}
use Rattle.nfs4_session_ops.specs.declared.cb_sequence.CbSequenceArgs.{CbSequenceArgs}
use Rattle.nfs4_session_ops.specs.declared.cb_sequence.CbSequenceOk.{CbSequenceOk}
use Rattle.nfs4_session_ops.specs.ReferringCalls.{referring_call_list4, referring_call_list4_value}

-- CB_SEQUENCE4args: sessionid, sequenceid, slotid, highest_slotid, cachethis, as those of SEQUENCE; referring_call_lists<>
abbrev pub cb_sequence4_args : Form
cb_sequence4_args = Pair sessionid4 (Pair Number32 (Pair Number32 (Pair Number32 (Pair Boolean (Array 4294967295 referring_call_list4)))))

abbrev pub cb_sequence4_args_value : CbSequenceArgs → Value cb_sequence4_args
cb_sequence4_args_value a = (a.session.0, (a.sequence, (a.slot, (a.highest, (a.cachethis, contents referring_call_list4 referring_call_list4_value a.referring.items.place)))))

-- CB_SEQUENCE4resok: sessionid, sequenceid, slotid, highest_slotid, target_highest_slotid
abbrev pub cb_sequence4_ok : Form
cb_sequence4_ok = Pair sessionid4 (Pair Number32 (Pair Number32 (Pair Number32 Number32)))

abbrev pub cb_sequence4_ok_value : CbSequenceOk → Value cb_sequence4_ok
cb_sequence4_ok_value a = (a.session.0, (a.sequence, (a.slot, (a.highest, a.target_highest))))
