-- What a record that names another procedure than SETATTR and CREATE does to a data server (RFC 5531, section 9; RFC 1813, section 3.3).
use Rattle.std.specs.Prelude.{◌≡◌, ◌≢◌, ℕ, true, List, [], take, drop}
use Rattle.ff_xdr.specs.Form.{word}
use Rattle.cluster_model.specs.Server.{ServerState}
use Rattle.cluster_model.specs.DsCalls.{DsCallValue, ds_step}
use Rattle.cluster_laws.specs.Machine.{may_use, caller_by}
use Rattle.ds_files.specs.Receive.{Outcome, outcome_of}

-- the word at which a call names its procedure (RFC 5531, section 9)
abbrev pub procedure_word : List ℕ → List ℕ
procedure_word bytes = take 4 (drop 20 bytes)

-- it is not SETATTR 2 and not CREATE 8 (RFC 1813, sections 3.3.2 and 3.3.8)
abbrev pub IsUserRecord : List ℕ → Type 0
IsUserRecord bytes = (procedure_word bytes ≢ word 2) × (procedure_word bytes ≢ word 8)

-- the server stays as it is and nothing is entered, or both are those of a user's WRITE, COMMIT or READ
pub data DoesAsUser (s : ServerState) (o : Outcome) : Type 0 where
  DoesNothing : o.server ≡ s → o.entries ≡ [] → DoesAsUser s o
  DoesCall : (uid gid : ℕ) (call : DsCallValue) → may_use call ≡ true → o.server ≡ (ds_step s (caller_by uid gid) call).server
      → o.entries ≡ (ds_step s (caller_by uid gid) call).entries → DoesAsUser s o

-- of any record, whatever numbers are in it
abbrev pub UsersDoNoMore : ServerState → List ℕ → Type 0
UsersDoNoMore s bytes = IsUserRecord bytes → DoesAsUser s (outcome_of s bytes)

-- nor is it WRITE 7 or COMMIT 21 (RFC 1813, sections 3.3.7 and 3.3.21)
abbrev pub IsReaderRecord : List ℕ → Type 0
IsReaderRecord bytes = IsUserRecord bytes × (procedure_word bytes ≢ word 7) × (procedure_word bytes ≢ word 21)

-- the server stays as it is, and nothing is entered
pub record LeavesAll (s : ServerState) (o : Outcome) : Type 0 where
  pub server : o.server ≡ s
  pub entries : o.entries ≡ []

abbrev pub ReadersDoNothing : ServerState → List ℕ → Type 0
ReadersDoNothing s bytes = IsReaderRecord bytes → LeavesAll s (outcome_of s bytes)
