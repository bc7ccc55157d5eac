use Rattle.std.proofs.Common.{refl}
use lib.Utf8.{encode}
use Rattle.std.specs.Str.{is_utf8, chars}
use Rattle.ff_xdr.specs.Form.{long, word, padded, pad_len}
use Rattle.ff_xdr.specs.Reading.{number_at, length_at, fixed_at, opaque_at}
use Rattle.std.specs.Fmt.{digits}
use Rattle.mds_rule.proofs.worked.more_conversations.Goals as goal

pub returns-clause-taking_turns : goal.returns-clause-taking_turns
unfolding long word is_utf8 chars encode padded pad_len digits number_at length_at fixed_at opaque_at
returns-clause-taking_turns c = refl

pub returns-clause-writing_while_held : goal.returns-clause-writing_while_held
unfolding long word is_utf8 chars encode padded pad_len digits number_at length_at fixed_at opaque_at
returns-clause-writing_while_held c = refl

pub returns-clause-restarting : goal.returns-clause-restarting
unfolding long word is_utf8 chars encode padded pad_len digits number_at length_at fixed_at opaque_at
returns-clause-restarting c = refl

pub returns-clause-returning_all : goal.returns-clause-returning_all
unfolding long word is_utf8 chars encode padded pad_len digits number_at length_at fixed_at opaque_at
returns-clause-returning_all c = refl

pub returns-clause-reading_past_the_lease : goal.returns-clause-reading_past_the_lease
unfolding long word is_utf8 chars encode padded pad_len digits number_at length_at fixed_at opaque_at
returns-clause-reading_past_the_lease c = refl

pub returns-clause-misplacing : goal.returns-clause-misplacing
unfolding long word is_utf8 chars encode padded pad_len digits number_at length_at fixed_at opaque_at
returns-clause-misplacing c = refl
