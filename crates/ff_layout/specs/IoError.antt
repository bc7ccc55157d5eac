-- What went wrong at a part of a file (RFC 8435, section 9.1.1).
use Rattle.ff_xdr.specs.Items.{contents}
use Rattle.ff_xdr.specs.Form.{Form, Array, Number64, Pair, Value}
use Rattle.nfs4_types.specs.Stateids.{stateid4, stateid4_value}
use Rattle.ff_layout.specs.DeviceError.{device_error4, device_error4_value}
use Rattle.ff_layout.specs.declared.io_error.IoErr.{IoErr}

-- ff_ioerr4: offset, length, stateid, errors<>
abbrev pub ff_ioerr4 : Form
ff_ioerr4 = Pair Number64 (Pair Number64 (Pair stateid4 (Array 4294967295 device_error4)))

abbrev pub ff_ioerr4_value : IoErr → Value ff_ioerr4
ff_ioerr4_value e = (e.offset, (e.length, (stateid4_value e.stateid, contents device_error4 device_error4_value e.errors.place)))
