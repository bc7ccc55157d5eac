use Rattle.std.proofs.Common.{refl}
use lib.Utf8.{encode}
use Rattle.std.specs.Str.{is_utf8, chars}
use Rattle.ff_xdr.specs.Form.{long, word, padded, pad_len}
use Rattle.ff_xdr.specs.Reading.{number_at, length_at, fixed_at, opaque_at}
use Rattle.std.specs.Fmt.{digits}
use Rattle.mds_rule.proofs.worked.worked_conversations.Goals as goal

pub returns-clause-opening : goal.returns-clause-opening
unfolding long word is_utf8 chars encode padded pad_len digits number_at length_at fixed_at opaque_at
returns-clause-opening c = refl

pub returns-clause-period : goal.returns-clause-period
unfolding long word is_utf8 chars encode padded pad_len digits number_at length_at fixed_at opaque_at
returns-clause-period c = refl

pub returns-clause-read_through : goal.returns-clause-read_through
unfolding long word is_utf8 chars encode padded pad_len digits number_at length_at fixed_at opaque_at
returns-clause-read_through c = refl

pub returns-clause-write_through : goal.returns-clause-write_through
unfolding long word is_utf8 chars encode padded pad_len digits number_at length_at fixed_at opaque_at
returns-clause-write_through c = refl

pub returns-clause-reporting : goal.returns-clause-reporting
unfolding long word is_utf8 chars encode padded pad_len digits number_at length_at fixed_at opaque_at
returns-clause-reporting c = refl

pub returns-clause-lease_ending : goal.returns-clause-lease_ending
unfolding long word is_utf8 chars encode padded pad_len digits number_at length_at fixed_at opaque_at
returns-clause-lease_ending c = refl

pub returns-clause-recalling : goal.returns-clause-recalling
unfolding long word is_utf8 chars encode padded pad_len digits number_at length_at fixed_at opaque_at
returns-clause-recalling c = refl

pub returns-clause-denying : goal.returns-clause-denying
unfolding long word is_utf8 chars encode padded pad_len digits number_at length_at fixed_at opaque_at
returns-clause-denying c = refl

pub returns-clause-placing : goal.returns-clause-placing
unfolding long word is_utf8 chars encode padded pad_len digits number_at length_at fixed_at opaque_at
returns-clause-placing c = refl
