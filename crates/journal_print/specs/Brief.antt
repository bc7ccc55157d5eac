-- The brief trace: what passes between machines and time have no lines, and of long data the first 64 bytes stand.
use Rattle.std.specs.Prelude.{ℕ, ◌-◌, Bool, true, false, List, [], ◌∷◌, ◌++◌, length, take, codes, decimal, flat_map, nat_le, if◌then◌else◌}
use Rattle.cluster_model.specs.declared.ids.NodeId.TheVariants.{Client}
use Rattle.cluster_model.specs.declared.answer.UserAnswer.{UserAnswer}
use Rattle.cluster_model.specs.declared.answer.UserAnswer.TheVariants.{Bytes}
use Rattle.cluster_model.specs.declared.entry.Entry.{Entry}
use Rattle.cluster_model.specs.declared.entry.Entry.TheVariants.{Packet, Delivered, TimedOut, Hold, Pass, Tick, Sent, Rogue, Told, Applied, ReadAnswer, Answer, Audit}
use Rattle.cluster_model.specs.Wordings.{text_of_bytes, flag_text, answer_words}
use Rattle.cluster_model.specs.Print.{words, words_of, node_text, mirror_text}

-- it has a line
abbrev pub is_brief : Entry → Bool
is_brief (Packet number from to bytes) = false
is_brief (Delivered number) = false
is_brief (TimedOut node xid) = false
is_brief (Hold from to) = false
is_brief (Pass from to) = false
is_brief (Tick seconds) = false
is_brief e = true

-- of more than 64 bytes the first 64, then `+` and how many the others are
abbrev pub brief_bytes : List ℕ → List ℕ
brief_bytes bytes = if nat_le (length bytes) 64 then text_of_bytes bytes else text_of_bytes (take 64 bytes) ++ codes "+" ++ decimal (length bytes - 64)

-- the words of an answer, and of an entry but for a packet, with their data shown by `show`
abbrev pub answer_by : (List ℕ → List ℕ) → UserAnswer → List (List ℕ)
answer_by show (Bytes eof bytes) = codes "bytes" ∷ flag_text eof ∷ show bytes ∷ []
answer_by show said = answer_words said

abbrev pub words_by : (List ℕ → List ℕ) → Entry → List (List ℕ)
words_by show (Sent file cred at bytes) = codes "sent" ∷ decimal file.0 ∷ decimal cred.0 ∷ decimal at ∷ show bytes ∷ []
words_by show (Rogue file cred at bytes) = codes "rogue" ∷ decimal file.0 ∷ decimal cred.0 ∷ decimal at ∷ show bytes ∷ []
words_by show (Told file cred at bytes) = codes "told" ∷ decimal file.0 ∷ decimal cred.0 ∷ decimal at ∷ show bytes ∷ []
words_by show (Applied mirror cred at bytes) = codes "applied" ∷ mirror_text mirror ∷ decimal cred.0 ∷ decimal at ∷ show bytes ∷ []
words_by show (ReadAnswer file status bytes) = codes "read" ∷ decimal file.0 ∷ decimal status ∷ show bytes ∷ []
words_by show (Audit file mirror size bytes) = codes "audit" ∷ decimal file.0 ∷ mirror_text mirror ∷ decimal size ∷ show bytes ∷ []
words_by show (Answer client said) = codes "answer" ∷ node_text (Client client) ∷ answer_by show said
words_by show e = words_of e

abbrev pub brief_words : Entry → List (List ℕ)
brief_words e = words_by brief_bytes e

abbrev pub brief_line : Entry → List ℕ
brief_line e = if is_brief e then words (brief_words e) else []

-- the brief text of a journal
abbrev pub brief : List Entry → List ℕ
brief entries = flat_map brief_line entries
