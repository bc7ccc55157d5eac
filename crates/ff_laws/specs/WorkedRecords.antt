-- The records of the worked journals, word by word in the forms of the standards.
use Rattle.std.specs.Prelude.{ℕ, List, [], ◌∷◌, ◌++◌}
use Rattle.ff_xdr.specs.Form.{word, long}

-- ---- calls

-- A call of NFS by nobody: its number, CALL 0, RPC version 2, the program, its version, the procedure, AUTH_NONE twice without a body, and
-- the arguments (RFC 5531, sections 8.2 and 9).
unfoldable pub nfs_call : ℕ → ℕ → ℕ → List ℕ → List ℕ
nfs_call xid version procedure args =
    word xid ++ (word 0 ++ (word 2 ++ (word 100003 ++ (word version ++ (word procedure ++ (word 0 ++ (word 0 ++ (word 0 ++ (word 0 ++ args)))))))))

-- the session of the client: sixteen bytes (RFC 8881, section 3.1)
unfoldable pub session_words : List ℕ
session_words = word 0 ++ (word 0 ++ (word 0 ++ word 9))

-- SEQUENCE 53: sessionid, sequenceid, slotid, highest_slotid, cachethis (section 18.46)
unfoldable pub sequence_words : List ℕ
sequence_words = word 53 ++ (session_words ++ (word 1 ++ (word 0 ++ (word 0 ++ word 0))))

-- PUTFH 22: a handle of eight bytes (section 18.19)
unfoldable pub put_fh_words : ℕ → List ℕ
put_fh_words file = word 22 ++ (word 8 ++ long file)

-- READ 25: a stateid of a number and twelve bytes, the offset, the count (section 18.22)
unfoldable pub read_words : ℕ → ℕ → List ℕ
read_words offset count = word 25 ++ (word 1 ++ (word 0 ++ (word 0 ++ (word 3 ++ (long offset ++ word count)))))

-- A client's READ: COMPOUND 1 of version 4, with no tag, minor version 1 and three operations (section 16.2.3).
unfoldable pub client_record : ℕ → ℕ → ℕ → ℕ → List ℕ
client_record xid file offset count = nfs_call xid 4 1 (word 0 ++ (word 1 ++ (word 3 ++ (sequence_words ++ (put_fh_words file ++ read_words offset count)))))

-- A READ to a data server: procedure 6 of version 3, a handle of eight bytes, the offset, the count (RFC 1813, section 3.3.6).
unfoldable pub server_record : ℕ → ℕ → ℕ → ℕ → List ℕ
server_record xid fileid offset count = nfs_call xid 3 6 (word 8 ++ (long fileid ++ (long offset ++ word count)))

-- ---- records that are no such calls

-- the client's READ, and four bytes behind it
unfoldable pub bytes_behind : List ℕ
bytes_behind = client_record 7 1 0 1 ++ word 0

-- the client's READ, and a GETATTR 9 of no attributes behind it (RFC 8881, section 18.7)
unfoldable pub operation_behind : List ℕ
operation_behind = nfs_call 7 4 1 (word 0 ++ (word 1 ++ (word 4 ++ (sequence_words ++ (put_fh_words 1 ++ (read_words 0 1 ++ (word 9 ++ word 0)))))))

-- the client's READ without a PUTFH
unfoldable pub no_put_fh : List ℕ
no_put_fh = nfs_call 7 4 1 (word 0 ++ (word 1 ++ (word 2 ++ (sequence_words ++ read_words 0 1))))

-- COMMIT 21 to a data server, which has the same arguments (RFC 1813, section 3.3.21)
unfoldable pub commit_record : List ℕ
commit_record = nfs_call 10 3 21 (word 8 ++ (long 2 ++ (long 0 ++ word 1)))

-- a READ to a data server of a handle of four bytes
unfoldable pub short_handle : List ℕ
short_handle = nfs_call 10 3 6 (word 4 ++ (word 2 ++ (long 0 ++ word 1)))

-- ---- replies

-- A reply that is a success: the number, REPLY 1, MSG_ACCEPTED 0, AUTH_NONE without a body, SUCCESS 0, and the results (RFC 5531,
-- section 9).
unfoldable pub nfs_reply : ℕ → List ℕ → List ℕ
nfs_reply xid results = word xid ++ (word 1 ++ (word 0 ++ (word 0 ++ (word 0 ++ (word 0 ++ results)))))

-- "A", as the data of a READ: its length, the byte, and padding
unfoldable pub letter_words : List ℕ
letter_words = word 1 ++ (65 ∷ 0 ∷ 0 ∷ 0 ∷ [])

-- a data server's reply to a READ: NFS3_OK 0, no attributes, the count, the end of the file, "A"; or NFS3ERR_IO 5, no attributes
unfoldable pub letter_record : ℕ → List ℕ
letter_record xid = nfs_reply xid (word 0 ++ (word 0 ++ (word 1 ++ (word 1 ++ letter_words))))

unfoldable pub io_error_record : ℕ → List ℕ
io_error_record xid = nfs_reply xid (word 5 ++ word 0)

-- What a compound of SEQUENCE, PUTFH and READ comes to: the status of the last, no tag, three results; of SEQUENCE its five numbers too
-- (RFC 8881, sections 16.2.3 and 18.46).
unfoldable pub compound_words : ℕ → List ℕ → List ℕ
compound_words status read =
    word status ++ (word 0 ++ (word 3 ++ (word 53 ++ (word 0 ++ (session_words ++ (word 1 ++ (word 0 ++ (word 0 ++ (word 0 ++ (word 0
    ++ (word 22 ++ (word 0 ++ (word 25 ++ (word status ++ read))))))))))))))

-- the metadata server's answer to a client: NFS4_OK 0, the end of the file and "A"; or NFS4ERR_IO 5
unfoldable pub answer_words : List ℕ
answer_words = compound_words 0 (word 1 ++ letter_words)

unfoldable pub failure_words : List ℕ
failure_words = compound_words 5 []
