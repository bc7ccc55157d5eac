-- What a client reports with a layout that it gives back (RFC 8435, section 9.3).
use Rattle.ff_xdr.specs.Items.{contents}
use Rattle.ff_xdr.specs.Form.{Form, Array, Pair, Value}
use Rattle.ff_layout.specs.IoError.{ff_ioerr4, ff_ioerr4_value}
use Rattle.ff_layout.specs.IoStats.{ff_iostats4, ff_iostats4_value}
use Rattle.ff_layout.specs.declared.return_body.LayoutReturnBody.{LayoutReturnBody}

-- ff_layoutreturn4: ioerr_report<>, iostats_report<>
abbrev pub ff_layoutreturn4 : Form
ff_layoutreturn4 = Pair (Array 4294967295 ff_ioerr4) (Array 4294967295 ff_iostats4)

abbrev pub ff_layoutreturn4_value : LayoutReturnBody → Value ff_layoutreturn4
ff_layoutreturn4_value b = (contents ff_ioerr4 ff_ioerr4_value b.errors.place, contents ff_iostats4 ff_iostats4_value b.stats.place)
