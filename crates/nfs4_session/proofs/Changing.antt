-- One record is changed.
use Rattle.std.proofs.Common.{◌≡◌, ℕ, List, set, get_or, Some, refl, ap, ◌∙◌, OnOk, OnErr}
use Rattle.std.specs.Prelude.{Result, Ok, Err}
use Rattle.std.specs.List.{position}
use Rattle.ff_xdr.specs.declared.error.NoMemory.{NoMemory}
use Rattle.nfs4_session.specs.declared.change.Change.{Change}
use Rattle.nfs4_session.specs.declared.change.Change.TheVariants as change
use Rattle.nfs4_session.specs.Clients.{ClientState, SessionState, has_id}
use Rattle.nfs4_session.specs.CreateSessions.{with_new_session}
use Rattle.nfs4_session.specs.Changes.{changed}
use Rattle.nfs4_session.specs.Standing.{IsStanding}
use Rattle.nfs4_session.proofs.FirstLemmas.{FoundAt, found, first_is}
use Rattle.nfs4_session.proofs.Kept.{kept_set}

pub same_id : (ch : Change) (c : ClientState) → (changed ch c).id ≡ c.id
same_id (change.Renew now) c = refl
same_id (change.Begin session slot number now) c = refl
same_id (change.Finish session slot number reply) c = refl
same_id (change.Bind session node) c = refl
same_id (change.CallBack session) c = refl
same_id (change.Destroy session) c = refl

pub same_owner : (ch : Change) (c : ClientState) → (changed ch c).owner ≡ c.owner
same_owner (change.Renew now) c = refl
same_owner (change.Begin session slot number now) c = refl
same_owner (change.Finish session slot number reply) c = refl
same_owner (change.Bind session node) c = refl
same_owner (change.CallBack session) c = refl
same_owner (change.Destroy session) c = refl

-- of a session that was added or was not, its record keeps what it is known by
pub added_id : (r : Result (Unit {0}) NoMemory) (session : SessionState) (now : ℕ) (x new : ClientState)
    → OnOk r (new ≡ with_new_session session now x) → OnErr r (new ≡ x) → new.id ≡ x.id
added_id (Ok u) session now x new ok err = ap (λ (c : ClientState). c.id) ok
added_id (Err e) session now x new ok err = ap (λ (c : ClientState). c.id) err

pub added_owner : (r : Result (Unit {0}) NoMemory) (session : SessionState) (now : ℕ) (x new : ClientState)
    → OnOk r (new ≡ with_new_session session now x) → OnErr r (new ≡ x) → new.owner ≡ x.owner
added_owner (Ok u) session now x new ok err = ap (λ (c : ClientState). c.owner) ok
added_owner (Err e) session now x new ok err = ap (λ (c : ClientState). c.owner) err

-- the table stands where the record that was read there keeps what it is known by
pub stands_set : (client : ℕ) (keys : List ℕ) (cs : List ClientState) (boot given known place : ℕ) (x new : ClientState)
    → position (has_id client) cs ≡ Some place → x ≡ get_or cs place x → new.id ≡ x.id → new.owner ≡ x.owner
    → IsStanding keys cs boot given known → IsStanding keys (set cs place new) boot given known
stands_set client keys cs boot given known place x new is read id owner stands =
    let there : FoundAt (has_id client) cs place = found (has_id client) cs place is in
    let same : x ≡ there.item = read ∙ first_is (has_id client) cs place x there read in
    kept_set keys cs boot given known place there.item new there.at (id ∙ ap (λ (c : ClientState). c.id) same) (owner ∙ ap (λ (c : ClientState). c.owner) same) stands
