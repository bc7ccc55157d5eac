-- What the functions that answer callbacks do: the values of the rule, in place of what there is.
use Rattle.std.specs.Prelude.{◌≡◌, ℕ, List, ◌++◌, Option, Some, None}
use Rattle.ff_xdr.specs.Form.{Value}
use Rattle.rpc_record.specs.Replies.{RpcReply, ReplyStat, auth_none, reply_bytes}
use Rattle.nfs4_types.specs.declared.status.Stat4.{Stat4}
use Rattle.nfs4_compound.specs.CbResults.{cb_resop4}
use Rattle.client_state.specs.ClientStates.{ClientValue}
use Rattle.client_callbacks.specs.Callbacks.{CbGiven, CbJudged, Recall, CbAnswer, CbReply, cb_reply}

-- the results of a callback compound
abbrev pub CbResultList : Type 0
CbResultList = List (Value cb_resop4)

-- a recall came to this status, and the client is this
pub record HasRecalled (r : Recall) (end : Stat4) (c : ClientValue) : Type 0 where
  pub status : end ≡ r.status
  pub client : c ≡ r.client

-- the results came behind those that were there, and the compound has this status
pub record HasGivenResults (g : CbGiven) (old new : CbResultList) (end : Stat4) : Type 0 where
  pub results : new ≡ old ++ g.results
  pub status : end ≡ g.status

-- the same, and the client is this
pub record HasJudgedCb (j : CbJudged) (old new : CbResultList) (end : Stat4) (c : ClientValue) : Type 0 where
  pub results : new ≡ old ++ j.results
  pub status : end ≡ j.status
  pub client : c ≡ j.client

-- a reply without a verifier
abbrev pub bare_reply : ℕ → ReplyStat → List ℕ → RpcReply
bare_reply xid stat results = record { xid = xid; verf = auth_none; stat = stat; results = results }

-- the call of this number is answered so, and the client is this
pub record HasAnswered (xid : ℕ) (a : CbAnswer) (bytes : List ℕ) (c : ClientValue) : Type 0 where
  pub reply : bytes ≡ reply_bytes (cb_reply xid a).reply
  pub client : c ≡ a.client

-- a record was answered, where it is a call
abbrev pub HasCalledBack : Option CbReply → Option (List ℕ) → ClientValue → ClientValue → Type 0
HasCalledBack None reply new old = (reply ≡ None) × (new ≡ old)
HasCalledBack (Some k) reply new old = (reply ≡ Some (reply_bytes k.reply)) × (new ≡ k.client)
