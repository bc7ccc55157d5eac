-- The text of a journal: a line for each entry, of words with one space between.
--
--   packet K FROM TO HEX    delivered K             timedout NODE XID       hold FROM TO       pass FROM TO
--   tick S                  granted F U HOLDER      sent F U AT HEX         rogue F U AT HEX   turned C
--   told F U AT HEX         ended F U CAUSE         left F M CAUSE          swapped F OLD NEW  fenced F U V LIVE
--   free F LIVE             applied M U AT HEX      committed M             owner M U          restarted D PIECES
--   read F STATUS HEX       failed M XID            later F PHASE           answer C ANSWER    audit F M LENGTH HEX
--   rebooted C
--
-- K, XID, S, AT, STATUS, LENGTH, the file F and the users U and V are decimal numbers. FROM, TO, NODE, HOLDER, the data
-- server D and the client C are machines. M, OLD and NEW are mirrors, with `-` for no OLD. LIVE are mirrors, PIECES
-- pieces of pending writes, and HEX bytes, each with `-` for none.
use Rattle.std.specs.Prelude.{ℕ, List, [], ◌∷◌, ◌++◌, length, map, codes, decimal, sum_by, Option, Some, None}
use Rattle.std.specs.List.{flat_map}
use Rattle.cluster_model.specs.declared.ids.NodeId.{NodeId}
use Rattle.cluster_model.specs.declared.ids.NodeId.TheVariants.{Mds, Server, Client}
use Rattle.cluster_model.specs.declared.ids.MirrorId.{MirrorId}
use Rattle.cluster_model.specs.declared.piece.Piece.{Piece}
use Rattle.cluster_model.specs.declared.answer.UserAnswer.{UserAnswer}
use Rattle.cluster_model.specs.declared.answer.UserAnswer.TheVariants.{Bytes}
use Rattle.cluster_model.specs.declared.entry.Entry.{Entry}
use Rattle.cluster_model.specs.declared.entry.Entry.TheVariants.{Packet, Delivered, TimedOut, Hold, Pass, Tick, Granted, Sent, Rogue, Turned, Told, Ended, Left, Swapped, Fenced, Free, Applied, Committed, Owner, Restarted, ReadAnswer, Failed, Later, Answer, Audit, Rebooted}
use Rattle.cluster_model.specs.Wordings.{text_of_bytes, phase_text, end_text, left_words, answer_words}

-- a machine: `m`, or a letter and a number
abbrev pub node_text : NodeId → List ℕ
node_text Mds = codes "m"
node_text (Server n) = codes "d" ++ decimal n
node_text (Client n) = codes "c" ++ decimal n

-- a mirror: its server and its file, as d1.2
abbrev pub mirror_text : MirrorId → List ℕ
mirror_text m = node_text (Server m.server) ++ codes "." ++ decimal m.fileid

-- a line of words: a space (32) between two, and a newline (10) at the end
abbrev pub words : List (List ℕ) → List ℕ
words [] = 10 ∷ []
words (last ∷ []) = last ++ 10 ∷ []
words (word ∷ next ∷ rest) = word ++ 32 ∷ words (next ∷ rest)

-- texts with a byte between two
abbrev pub joined : ℕ → List (List ℕ) → List ℕ
joined sep [] = []
joined sep (last ∷ []) = last
joined sep (text ∷ next ∷ rest) = text ++ sep ∷ joined sep (next ∷ rest)

-- texts with commas (44) between, and `-` for none
abbrev pub list_text : List (List ℕ) → List ℕ
list_text [] = codes "-"
list_text (text ∷ rest) = joined 44 (text ∷ rest)

-- a piece: its file, the write's index, the first byte and how many, with colons (58) between
abbrev pub piece_text : Piece → List ℕ
piece_text p = joined 58 (decimal p.fileid ∷ decimal p.index ∷ decimal p.from ∷ decimal p.count ∷ [])

abbrev pub pieces_text : List Piece → List ℕ
pieces_text pieces = list_text (map piece_text pieces)

abbrev pub mirrors_text : List MirrorId → List ℕ
mirrors_text mirrors = list_text (map mirror_text mirrors)

-- the mirror that another replaces, if there is one
abbrev pub old_text : Option MirrorId → List ℕ
old_text None = codes "-"
old_text (Some m) = mirror_text m

-- the words of an entry
abbrev pub words_of : Entry → List (List ℕ)
words_of (Packet number from to bytes) = codes "packet" ∷ decimal number ∷ node_text from ∷ node_text to ∷ text_of_bytes bytes ∷ []
words_of (Delivered number) = codes "delivered" ∷ decimal number ∷ []
words_of (TimedOut node xid) = codes "timedout" ∷ node_text node ∷ decimal xid ∷ []
words_of (Hold from to) = codes "hold" ∷ node_text from ∷ node_text to ∷ []
words_of (Pass from to) = codes "pass" ∷ node_text from ∷ node_text to ∷ []
words_of (Tick seconds) = codes "tick" ∷ decimal seconds ∷ []
words_of (Granted file cred holder) = codes "granted" ∷ decimal file.0 ∷ decimal cred.0 ∷ node_text holder ∷ []
words_of (Sent file cred at bytes) = codes "sent" ∷ decimal file.0 ∷ decimal cred.0 ∷ decimal at ∷ text_of_bytes bytes ∷ []
words_of (Rogue file cred at bytes) = codes "rogue" ∷ decimal file.0 ∷ decimal cred.0 ∷ decimal at ∷ text_of_bytes bytes ∷ []
words_of (Turned client) = codes "turned" ∷ node_text (Client client) ∷ []
words_of (Told file cred at bytes) = codes "told" ∷ decimal file.0 ∷ decimal cred.0 ∷ decimal at ∷ text_of_bytes bytes ∷ []
words_of (Ended file cred cause) = codes "ended" ∷ decimal file.0 ∷ decimal cred.0 ∷ end_text cause ∷ []
words_of (Left file mirror cause) = codes "left" ∷ decimal file.0 ∷ mirror_text mirror ∷ left_words cause
words_of (Swapped file old new) = codes "swapped" ∷ decimal file.0 ∷ old_text old ∷ mirror_text new ∷ []
words_of (Fenced file old new live) = codes "fenced" ∷ decimal file.0 ∷ decimal old.0 ∷ decimal new.0 ∷ mirrors_text live ∷ []
words_of (Free file live) = codes "free" ∷ decimal file.0 ∷ mirrors_text live ∷ []
words_of (Applied mirror cred at bytes) = codes "applied" ∷ mirror_text mirror ∷ decimal cred.0 ∷ decimal at ∷ text_of_bytes bytes ∷ []
words_of (Committed mirror) = codes "committed" ∷ mirror_text mirror ∷ []
words_of (Owner mirror cred) = codes "owner" ∷ mirror_text mirror ∷ decimal cred.0 ∷ []
words_of (Restarted server pieces) = codes "restarted" ∷ node_text (Server server) ∷ pieces_text pieces ∷ []
words_of (ReadAnswer file status bytes) = codes "read" ∷ decimal file.0 ∷ decimal status ∷ text_of_bytes bytes ∷ []
words_of (Failed mirror xid) = codes "failed" ∷ mirror_text mirror ∷ decimal xid ∷ []
words_of (Later file phase) = codes "later" ∷ decimal file.0 ∷ phase_text phase ∷ []
words_of (Answer client said) = codes "answer" ∷ node_text (Client client) ∷ answer_words said
words_of (Audit file mirror size bytes) = codes "audit" ∷ decimal file.0 ∷ mirror_text mirror ∷ decimal size ∷ text_of_bytes bytes ∷ []
words_of (Rebooted client) = codes "rebooted" ∷ node_text (Client client) ∷ []

-- the line of an entry
abbrev pub line_of : Entry → List ℕ
line_of entry = words (words_of entry)

-- the text of a journal
abbrev pub print : List Entry → List ℕ
print entries = flat_map line_of entries

-- how many bytes stand as hexadecimal in an answer, in the line of an entry, and in the lines of entries
abbrev pub answer_hex_len : UserAnswer → ℕ
answer_hex_len (Bytes eof bytes) = length bytes
answer_hex_len _ = 0

abbrev pub hex_len : Entry → ℕ
hex_len (Packet number from to bytes) = length bytes
hex_len (Sent file cred at bytes) = length bytes
hex_len (Rogue file cred at bytes) = length bytes
hex_len (Told file cred at bytes) = length bytes
hex_len (Applied mirror cred at bytes) = length bytes
hex_len (ReadAnswer file status bytes) = length bytes
hex_len (Answer client said) = answer_hex_len said
hex_len (Audit file mirror size bytes) = length bytes
hex_len _ = 0

abbrev pub hex_of : List Entry → ℕ
hex_of entries = sum_by hex_len entries
