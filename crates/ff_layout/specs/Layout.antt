-- The body of a layout (RFC 8435, section 5.1).
use Rattle.ff_xdr.specs.Items.{contents}
use Rattle.ff_xdr.specs.Form.{Form, Array, Number32, Number64, Pair, Value}
use Rattle.ff_layout.specs.Mirror.{ff_mirror4, ff_mirror4_value}
use Rattle.ff_layout.specs.declared.layout.FfLayout.{FfLayout}

-- ff_layout4: stripe_unit, mirrors<>, flags, stats_collect_hint
abbrev pub ff_layout4 : Form
ff_layout4 = Pair Number64 (Pair (Array 4294967295 ff_mirror4) (Pair Number32 Number32))

abbrev pub ff_layout4_value : FfLayout → Value ff_layout4
ff_layout4_value l = (l.stripe_unit, (contents ff_mirror4 ff_mirror4_value l.mirrors.place, (l.flags, l.hint)))
