-- Stateids (RFC 8881, section 3.3.12).
use Rattle.std.specs.Prelude.{ℕ, List, ◌++◌}
use Rattle.ff_xdr.specs.Form.{Form, Number32, Fixed, Pair, Value, word}
use Rattle.nfs4_types.specs.declared.stateid.Stateid.{Stateid}

-- stateid4: seqid, other
abbrev pub stateid4 : Form
stateid4 = Pair Number32 (Fixed 12)

abbrev pub stateid4_value : Stateid → Value stateid4
stateid4_value s = (s.seqid, s.other)

abbrev pub three_words : ℕ → ℕ → ℕ → List ℕ
three_words first second third = word first ++ (word second ++ word third)

-- The stateid of a layout names the file, the uid that it was granted under, and 0; that of an open names the file, 0, and
-- the open's number; that of a layout for reading names the file, the uid that the file belongs to, and 1. Which words these are is the
-- project's own.
abbrev pub layout_stateid_of : (file uid seqid : ℕ) → Stateid
layout_stateid_of file uid seqid = record { seqid = seqid; other = three_words file uid 0 }

abbrev pub open_stateid_of : (file n : ℕ) → Stateid
open_stateid_of file n = record { seqid = 1; other = three_words file 0 n }

abbrev pub read_stateid_of : (file uid seqid : ℕ) → Stateid
read_stateid_of file uid seqid = record { seqid = seqid; other = three_words file uid 1 }
