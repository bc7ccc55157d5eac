-- READs through the metadata server that are worked out: journals with their packets that obey the read law, and journals that break it.
use Rattle.std.specs.Prelude.{ℕ, List, [], ◌∷◌, ◌++◌, Some}
use Rattle.cluster_model.specs.declared.ids.NodeId.TheVariants.{Mds, Server, Client}
use Rattle.cluster_model.specs.declared.ids.FileId.{FileId}
use Rattle.cluster_model.specs.declared.ids.MirrorId.{MirrorId}
use Rattle.cluster_model.specs.declared.entry.Entry.{Entry}
use Rattle.cluster_model.specs.declared.entry.Entry.TheVariants.{Packet, Delivered, TimedOut, Free, Applied, Swapped, ReadAnswer, Failed}
use Rattle.file_rule.specs.MdsFiles.{a_uid}
use Rattle.ff_laws.specs.declared.read_call.ReadCall.{ReadCall}
use Rattle.ff_laws.specs.WorkedRecords.{client_record, server_record, letter_record, io_error_record, nfs_reply, answer_words, failure_words}
use Rattle.ff_laws.specs.ReadLaw.{ObeysReads}

abbrev pub BreaksReads : List Entry → Type 0
BreaksReads journal = ObeysReads journal → ⊥

-- ---- entries

-- File 1 has the handle 1. Its mirror on each data server has fileid 2.
abbrev pub the_file : FileId
the_file = record { 0 = 1 }

abbrev pub on : ℕ → MirrorId
on server = record { server = server; fileid = 2 }

-- what the client 1 asks for: the first byte of the file
abbrev pub the_read : ReadCall
the_read = record { xid = 7; handle = 1; offset = 0; count = 1 }

abbrev pub asks : ℕ → Entry
asks number = Packet number (Client 1) Mds (client_record 7 1 0 1)

-- the metadata server's answers to it
abbrev pub answers : ℕ → Entry
answers number = Packet number Mds (Client 1) (nfs_reply 7 answer_words)

abbrev pub fails : ℕ → Entry
fails number = Packet number Mds (Client 1) (nfs_reply 7 failure_words)

-- the metadata server's READ of the same byte of a mirror, what it asks for, and a data server's replies
abbrev pub asks_server : ℕ → ℕ → ℕ → Entry
asks_server number server xid = Packet number Mds (Server server) (server_record xid 2 0 1)

abbrev pub of_server : ℕ → ReadCall
of_server xid = record { xid = xid; handle = 2; offset = 0; count = 1 }

abbrev pub server_gives : ℕ → ℕ → ℕ → Entry
server_gives number server xid = Packet number (Server server) Mds (letter_record xid)

abbrev pub server_fails : ℕ → ℕ → ℕ → Entry
server_fails number server xid = Packet number (Server server) Mds (io_error_record xid)

-- the mirror takes one byte at the file's beginning
abbrev pub takes : ℕ → ℕ → Entry
takes server byte = Applied (on server) (a_uid 65536) 0 (byte ∷ [])

-- one mirror, and three, that show "A"
abbrev pub one_mirror : List Entry
one_mirror = Free the_file (on 1 ∷ []) ∷ takes 1 65 ∷ []

abbrev pub three_mirrors : List Entry
three_mirrors = Free the_file (on 1 ∷ on 2 ∷ on 3 ∷ []) ∷ takes 1 65 ∷ takes 2 65 ∷ takes 3 65 ∷ []

-- ---- journals that obey the law

-- Two mirrors fail the READ, and the third gives the byte.
abbrev pub tries_three : List Entry
tries_three =
    asks_server 2 1 10 ∷ Delivered 2 ∷ server_fails 3 1 10 ∷ Delivered 3 ∷ Failed (on 1) 10
    ∷ asks_server 4 2 11 ∷ Delivered 4 ∷ server_fails 5 2 11 ∷ Delivered 5 ∷ Failed (on 2) 11
    ∷ asks_server 6 3 12 ∷ Delivered 6 ∷ server_gives 7 3 12 ∷ Delivered 7 ∷ []

abbrev pub given_by_the_third : List Entry
given_by_the_third = three_mirrors ++ asks 1 ∷ Delivered 1 ∷ (tries_three ++ ReadAnswer the_file 0 (65 ∷ []) ∷ answers 8 ∷ Delivered 8 ∷ [])

-- All three fail it, the first one by giving no answer.
abbrev pub tries_all : List Entry
tries_all =
    asks_server 2 1 13 ∷ TimedOut Mds 13 ∷ asks_server 3 1 13 ∷ TimedOut Mds 13 ∷ asks_server 4 1 13 ∷ TimedOut Mds 13 ∷ Failed (on 1) 13
    ∷ asks_server 5 2 14 ∷ Delivered 5 ∷ server_fails 6 2 14 ∷ Delivered 6 ∷ Failed (on 2) 14
    ∷ asks_server 7 3 15 ∷ Delivered 7 ∷ server_fails 8 3 15 ∷ Delivered 8 ∷ Failed (on 3) 15 ∷ []

abbrev pub failed_by_all : List Entry
failed_by_all = three_mirrors ++ asks 1 ∷ Delivered 1 ∷ (tries_all ++ ReadAnswer the_file 5 [] ∷ fails 9 ∷ Delivered 9 ∷ [])

-- While the READ waits for the first mirror a copied one comes in its place, and gives the byte.
abbrev pub waits_for_swap : List Entry
waits_for_swap = asks_server 2 1 10 ∷ takes 4 65 ∷ Swapped the_file (Some (on 1)) (on 4) ∷ []

abbrev pub tries_new : List Entry
tries_new = asks_server 3 4 11 ∷ Delivered 3 ∷ server_gives 4 4 11 ∷ Delivered 4 ∷ []

abbrev pub given_behind_a_swap : List Entry
given_behind_a_swap =
    three_mirrors ++ asks 1 ∷ Delivered 1 ∷ (waits_for_swap ++ (tries_new ++ ReadAnswer the_file 0 (65 ∷ []) ∷ answers 5 ∷ Delivered 5 ∷ []))

-- The first mirror gives no answer in time. The client sends its request again, and the second mirror gives the byte. The first one's
-- reply comes behind that.
abbrev pub tries_second : List Entry
tries_second =
    asks_server 2 1 10 ∷ Delivered 2 ∷ server_gives 3 1 10
    ∷ TimedOut Mds 10 ∷ asks_server 4 1 10 ∷ TimedOut Mds 10 ∷ asks_server 5 1 10 ∷ TimedOut Mds 10 ∷ Failed (on 1) 10
    ∷ asks_server 6 2 11 ∷ TimedOut (Client 1) 7 ∷ asks 7 ∷ Delivered 7
    ∷ Delivered 6 ∷ server_gives 8 2 11 ∷ Delivered 8 ∷ []

abbrev pub given_before_a_late_reply : List Entry
given_before_a_late_reply =
    three_mirrors ++ asks 1 ∷ Delivered 1 ∷ (tries_second ++ ReadAnswer the_file 0 (65 ∷ []) ∷ answers 9 ∷ Delivered 3 ∷ Delivered 9 ∷ [])

-- ---- journals that break it

-- The first of three mirrors fails the READ, and the others are not asked.
abbrev pub tries_one : List Entry
tries_one = asks_server 2 1 10 ∷ Delivered 2 ∷ server_fails 3 1 10 ∷ Delivered 3 ∷ Failed (on 1) 10 ∷ []

abbrev pub given_up_at_the_first : List Entry
given_up_at_the_first = three_mirrors ++ asks 1 ∷ Delivered 1 ∷ (tries_one ++ ReadAnswer the_file 5 [] ∷ fails 4 ∷ Delivered 4 ∷ [])

-- The mirror shows "B" (66) since before the request came, and the answer is what it showed earlier.
abbrev pub changed_mirror : List Entry
changed_mirror = one_mirror ++ takes 1 66 ∷ []

abbrev pub kept_from_earlier : List Entry
kept_from_earlier = changed_mirror ++ asks 1 ∷ Delivered 1 ∷ ReadAnswer the_file 0 (65 ∷ []) ∷ answers 2 ∷ Delivered 2 ∷ []

-- The READ that fails was sent before the request came, and only repeated behind it.
abbrev pub asked_mirror : List Entry
asked_mirror = one_mirror ++ asks_server 2 1 10 ∷ []

abbrev pub repeats_one : List Entry
repeats_one = asks_server 3 1 10 ∷ Delivered 3 ∷ server_fails 4 1 10 ∷ Delivered 4 ∷ []

abbrev pub failed_by_an_earlier_read : List Entry
failed_by_an_earlier_read =
    asked_mirror ++ asks 1 ∷ Delivered 1 ∷ (repeats_one ++ Failed (on 1) 10 ∷ ReadAnswer the_file 5 [] ∷ fails 5 ∷ Delivered 5 ∷ [])
