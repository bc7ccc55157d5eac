-- A data server of a mirror (RFC 8435, section 5.1).
use Rattle.ff_xdr.specs.Items.{contents}
use Rattle.ff_xdr.specs.Form.{Form, Array, Number32, Pair, Value}
use Rattle.nfs4_types.specs.Ids.{deviceid4}
use Rattle.nfs4_types.specs.Stateids.{stateid4, stateid4_value}
use Rattle.nfs4_types.specs.Handles.{nfs_fh4}
use Rattle.nfs4_types.specs.Texts.{free_text}
use Rattle.ff_layout.specs.declared.data_server.FfDataServer.{FfDataServer}

-- ff_data_server4: deviceid, efficiency, stateid, fh_vers<>, user, group
abbrev pub ff_data_server4 : Form
ff_data_server4 = Pair deviceid4 (Pair Number32 (Pair stateid4 (Pair (Array 4294967295 nfs_fh4) (Pair free_text free_text))))

abbrev pub ff_data_server4_value : FfDataServer → Value ff_data_server4
ff_data_server4_value s =
    (s.device.0, (s.efficiency, (stateid4_value s.stateid, (contents nfs_fh4 (λ handle. handle.bytes.now) s.handles.place, (s.user.now, s.group.now)))))
