-- The words that a journal's text has for phases, for why something happened, and for what a client answers.
use Rattle.std.specs.Prelude.{ℕ, Bool, true, false, List, [], ◌∷◌, codes, decimal}
use Rattle.hex.specs.Hex.{encode_lower}
use Rattle.cluster_model.specs.declared.phase.Phase.{Phase}
use Rattle.cluster_model.specs.declared.phase.Phase.TheVariants as phase
use Rattle.cluster_model.specs.declared.phase.EndCause.{EndCause}
use Rattle.cluster_model.specs.declared.phase.EndCause.TheVariants as ending
use Rattle.cluster_model.specs.declared.phase.LeftCause.{LeftCause}
use Rattle.cluster_model.specs.declared.phase.LeftCause.TheVariants as leaving
use Rattle.cluster_model.specs.declared.answer.FailCause.{FailCause}
use Rattle.cluster_model.specs.declared.answer.FailCause.TheVariants as failing
use Rattle.cluster_model.specs.declared.answer.UserAnswer.{UserAnswer}
use Rattle.cluster_model.specs.declared.answer.UserAnswer.TheVariants as answer

-- bytes: lower case hexadecimal digits in pairs, and `-` for none
abbrev pub text_of_bytes : List ℕ → List ℕ
text_of_bytes [] = codes "-"
text_of_bytes (byte ∷ rest) = encode_lower (byte ∷ rest)

abbrev pub flag_text : Bool → List ℕ
flag_text false = codes "0"
flag_text true = codes "1"

abbrev pub phase_text : Phase → List ℕ
phase_text phase.Making = codes "making"
phase_text phase.Free = codes "free"
phase_text phase.Held = codes "held"
phase_text phase.Fencing = codes "fencing"
phase_text phase.Settling = codes "settling"
phase_text phase.Copying = codes "copying"

-- why a period ended
abbrev pub end_text : EndCause → List ℕ
end_text ending.Returned = codes "returned"
end_text ending.Own = codes "own"
end_text ending.AllReported = codes "allreported"
end_text ending.Recalled = codes "recalled"
end_text ending.Lease = codes "lease"
end_text ending.NoLayout = codes "nolayout"
end_text ending.ClientGone = codes "clientgone"
end_text ending.ReturnedAll = codes "returnedall"

-- why a mirror left
abbrev pub left_words : LeftCause → List (List ℕ)
left_words leaving.Reported = codes "reported" ∷ []
left_words (leaving.Error status) = codes "error" ∷ decimal status ∷ []
left_words leaving.Timeouts = codes "timeouts" ∷ []
left_words leaving.Unsynced = codes "unsynced" ∷ []

-- why a request was not done
abbrev pub fail_words : FailCause → List (List ℕ)
fail_words failing.Revoked = codes "revoked" ∷ []
fail_words failing.AllMirrors = codes "allmirrors" ∷ []
fail_words (failing.Refused status) = codes "refused" ∷ decimal status ∷ []

-- what a client answers
abbrev pub answer_words : UserAnswer → List (List ℕ)
answer_words (answer.Opened file) = codes "opened" ∷ decimal file.0 ∷ []
answer_words answer.Written = codes "written" ∷ []
answer_words (answer.Committed writes) = codes "committed" ∷ decimal writes ∷ []
answer_words (answer.Bytes eof bytes) = codes "bytes" ∷ flag_text eof ∷ text_of_bytes bytes ∷ []
answer_words answer.Returned = codes "returned" ∷ []
answer_words (answer.Failed why) = codes "failed" ∷ fail_words why
