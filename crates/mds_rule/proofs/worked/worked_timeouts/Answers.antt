use Rattle.std.proofs.Common.{refl}
use lib.Utf8.{encode}
use Rattle.std.specs.Str.{is_utf8, chars}
use Rattle.ff_xdr.specs.Form.{long, word, padded, pad_len}
use Rattle.ff_xdr.specs.Reading.{number_at, length_at, fixed_at, opaque_at}
use Rattle.std.specs.Fmt.{digits}
use Rattle.mds_rule.proofs.worked.worked_timeouts.Goals as goal

pub returns-clause-naming : goal.returns-clause-naming
unfolding long word is_utf8 chars encode padded pad_len digits number_at length_at fixed_at opaque_at
returns-clause-naming c = refl

pub returns-clause-none : goal.returns-clause-none
unfolding long word is_utf8 chars encode padded pad_len digits number_at length_at fixed_at opaque_at
returns-clause-none c = refl

pub returns-clause-nobody : goal.returns-clause-nobody
unfolding long word is_utf8 chars encode padded pad_len digits number_at length_at fixed_at opaque_at
returns-clause-nobody c = refl

pub returns-clause-stands : goal.returns-clause-stands
unfolding long word is_utf8 chars encode padded pad_len digits number_at length_at fixed_at opaque_at
returns-clause-stands c = refl

pub returns-clause-forgotten : goal.returns-clause-forgotten
unfolding long word is_utf8 chars encode padded pad_len digits number_at length_at fixed_at opaque_at
returns-clause-forgotten c = refl
