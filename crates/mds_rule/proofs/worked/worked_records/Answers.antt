use Rattle.std.proofs.Common.{refl}
use Rattle.std.specs.Str.{is_utf8, chars}
use Rattle.ff_xdr.specs.Form.{long, word, padded, pad_len}
use Rattle.ff_xdr.specs.Reading.{number_at, length_at, fixed_at, opaque_at, flag_at, text_at, may_begin_text}
use Rattle.rpc_record.specs.Calls.{word_of, body_at, call_at}
use Rattle.mds_rule.proofs.worked.worked_records.Goals as goal

pub returns-clause-null : goal.returns-clause-null
unfolding long word padded pad_len number_at length_at fixed_at opaque_at flag_at text_at may_begin_text is_utf8 chars word_of body_at call_at
returns-clause-null c = refl

pub returns-clause-procedure : goal.returns-clause-procedure
unfolding long word padded pad_len number_at length_at fixed_at opaque_at flag_at text_at may_begin_text is_utf8 chars word_of body_at call_at
returns-clause-procedure c = refl

pub returns-clause-empty : goal.returns-clause-empty
unfolding long word padded pad_len number_at length_at fixed_at opaque_at flag_at text_at may_begin_text is_utf8 chars word_of body_at call_at
returns-clause-empty c = refl

pub returns-clause-session : goal.returns-clause-session
unfolding long word padded pad_len number_at length_at fixed_at opaque_at flag_at text_at may_begin_text is_utf8 chars word_of body_at call_at
returns-clause-session c = refl

pub returns-clause-write : goal.returns-clause-write
unfolding long word padded pad_len
returns-clause-write c = refl
