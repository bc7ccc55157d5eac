-- A mirror of a file (RFC 8435, section 5.1).
use Rattle.ff_xdr.specs.Items.{contents}
use Rattle.ff_xdr.specs.Form.{Form, Array, Value}
use Rattle.ff_layout.specs.DataServer.{ff_data_server4, ff_data_server4_value}
use Rattle.ff_layout.specs.declared.mirror.FfMirror.{FfMirror}

-- ff_mirror4: data_servers<>
abbrev pub ff_mirror4 : Form
ff_mirror4 = Array 4294967295 ff_data_server4

abbrev pub ff_mirror4_value : FfMirror → Value ff_mirror4
ff_mirror4_value m = contents ff_data_server4 ff_data_server4_value m.servers.place
