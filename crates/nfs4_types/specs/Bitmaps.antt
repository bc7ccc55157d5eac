-- Sets of numbers, as of attributes (RFC 8881, section 3.2).
use Rattle.ff_xdr.specs.Form.{Form, Number32, Array, Value}
use Rattle.ff_xdr.specs.Items.{contents}
use Rattle.nfs4_types.specs.declared.bitmap.Bitmap.{Bitmap}

-- bitmap4: words of 32 bits, as many as a list can have
abbrev pub bitmap4 : Form
bitmap4 = Array 4294967295 Number32

abbrev pub bitmap4_value : Bitmap → Value bitmap4
bitmap4_value b = contents Number32 (λ n. n) b.words.place
