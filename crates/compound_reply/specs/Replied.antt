-- The results of a compound as they come, and the reply that bears them (RFC 8881, section 16.2.4; RFC 5531, section 9).
use Rattle.std.specs.Prelude.{◌≡◌, ℕ, List, length}
use Rattle.std.specs.List.{AllByRecursion, flat_map}
use Rattle.ff_xdr.specs.Form.{Value, Fits, spelling}
use Rattle.ff_xdr.specs.Items.{values_of}
use Rattle.ff_xdr.specs.Reading.{many_at, reading}
use Rattle.rpc_record.specs.Replies.{RpcReply, auth_none, success}
use Rattle.nfs4_compound.specs.Results.{resop4}

-- the results of operations, in their order
abbrev pub ResultList : Type 0
ResultList = List (Value resop4)

-- their bytes alone, one behind the other
abbrev pub results_text : ResultList → List ℕ
results_text results = flat_map (λ v. spelling resop4 v) results

-- a call that was accepted and done, with a verifier that says nothing, and these bytes as its results
abbrev pub success_reply : ℕ → List ℕ → RpcReply
success_reply xid results = record { xid = xid; verf = auth_none; stat = success; results = results }

-- ---- what the code keeps

-- so many results, as they are read in the bytes
abbrev pub results_in : List ℕ → ℕ → ResultList
results_in bytes count = values_of (many_at (λ place. reading resop4 bytes place) count 0)

-- the bytes are those of so many results, each of which has a spelling
pub record AreResults (bytes : List ℕ) (count : ℕ) : Type 0 where
  pub many : length (results_in bytes count) ≡ count
  pub fit : AllByRecursion (Fits resop4) (results_in bytes count)
  pub text : bytes ≡ results_text (results_in bytes count)
