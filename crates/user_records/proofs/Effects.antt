-- What each call of NFSv3 but SETATTR and CREATE comes to: nothing, or what a user's call comes to.
use Rattle.std.proofs.Common.{◌≡◌, ◌≢◌, ℕ, Bool, true, false, cond, eqb, List, length, Option, Some, None, refl, inl, inr}
use Rattle.std.specs.Prelude.{not}
use Rattle.std.specs.Int.{w64, from_be_bytes}
use Rattle.std.proofs.lemmas.Bool.{cond_both}
use Rattle.ff_xdr.specs.Form.{Value, arm_of}
use Rattle.nfs3_wire.specs.declared.stable_how.StableHow.{StableHow}
use Rattle.nfs3_wire.specs.declared.status.Stat3.TheVariants as stat
use Rattle.nfs3_wire.specs.Stability.{stable_how_of}
use Rattle.nfs3_wire.specs.Calls.{calls, call_of}
use Rattle.cluster_model.specs.File.{StoredFile, Writes, Commits}
use Rattle.cluster_model.specs.Server.{ServerState, Caller, Refusal, Acces, Inval, Effect, NoEffect, OnFile, Named, named, write_refusal, commit_refusal, may_write}
use Rattle.cluster_model.specs.Server as model
use Rattle.cluster_model.specs.DsCalls.{DsCallValue, DsReplyValue, Write, Commit, unless, ds_plan}
use Rattle.cluster_laws.specs.Machine.{may_use, caller_by}
use Rattle.ds_procedures.specs.Objects.{Object, Missing, object_by, object_of}
use Rattle.ds_procedures.specs.Write.{is_synced, write_unless, write_plan}
use Rattle.ds_procedures.specs.Commit.{commit_unless, commit_plan}
use Rattle.ds_procedures.specs.Steps.{plan_of}

-- nothing, or the effect of a user's call
pub data UsersEffect (s : ServerState) (uid : ℕ) (effect : Effect) : Type 0 where
  NoneOf : effect ≡ NoEffect → UsersEffect s uid effect
  OfCall : (call : DsCallValue) → may_use call ≡ true → effect ≡ (ds_plan s (caller_by uid uid) call).effect → UsersEffect s uid effect

module _ (s : ServerState) (caller : Caller) where
  -- the caller by the user alone
  user : Caller
  user = caller_by caller.uid caller.uid

  -- ---- WRITE

  write_does : (index : ℕ) (f : StoredFile) (offset : ℕ) (stability : StableHow) (bytes : List ℕ) (reply : DsReplyValue) (r : Option Refusal)
      → (write_unless s index f offset stability bytes r).effect ≡ (unless f r reply (OnFile index (Writes offset (is_synced stability) bytes))).effect
  write_does index f offset stability bytes reply None = refl
  write_does index f offset stability bytes reply (Some refusal) = refl

  write_refused : (index : ℕ) (f : StoredFile) (offset : ℕ) (stability : StableHow) (bytes : List ℕ) (may : Bool) → (write_unless s index f offset stability bytes (cond (not may) (Some Acces) (Some Inval))).effect ≡ NoEffect
  write_refused index f offset stability bytes true = refl
  write_refused index f offset stability bytes false = refl

  -- where the count is that of the bytes it is the user's write; where it is not nothing is done
  write_counted : (fileid index : ℕ) (f : StoredFile) (offset : ℕ) (stability : StableHow) (bytes : List ℕ) (is : named s.files fileid ≡ model.File index f) (agree : Bool)
      → UsersEffect s caller.uid (write_unless s index f offset stability bytes (write_refusal s index f caller agree offset bytes)).effect
  write_counted fileid index f offset stability bytes is true = OfCall (Write fileid offset (is_synced stability) bytes) refl (rw is (write_does index f offset stability bytes _ (write_refusal s index f caller true offset bytes)))
  write_counted fileid index f offset stability bytes is false = NoneOf (write_refused index f offset stability bytes (may_write f caller))

  write_named : (fileid offset count : ℕ) (stability : StableHow) (bytes : List ℕ) (n : Named) → named s.files fileid ≡ n → UsersEffect s caller.uid (write_plan s (object_by n) offset count stability bytes caller).effect
  write_named fileid offset count stability bytes model.Nothing is = NoneOf refl
  write_named fileid offset count stability bytes model.Root is = NoneOf refl
  write_named fileid offset count stability bytes (model.File index f) is = write_counted fileid index f offset stability bytes is (eqb count (length bytes))

  -- ---- COMMIT

  commit_does : (index : ℕ) (f : StoredFile) (reply : DsReplyValue) (r : Option Refusal) → (commit_unless s index f r).effect ≡ (unless f r reply (OnFile index Commits)).effect
  commit_does index f reply None = refl
  commit_does index f reply (Some refusal) = refl

  commit_named : (fileid : ℕ) (n : Named) → named s.files fileid ≡ n → UsersEffect s caller.uid (commit_plan s (object_by n) caller).effect
  commit_named fileid model.Nothing is = NoneOf refl
  commit_named fileid model.Root is = NoneOf refl
  commit_named fileid (model.File index f) is = OfCall (Commit fileid) refl (rw is (commit_does index f _ (commit_refusal f caller)))

  -- ---- whatever the handle is

  at_handle : (P : Object → Type 0) → P (Missing stat.BadHandle) → ((fileid : ℕ) → P (object_by (named s.files fileid))) → (handle : List ℕ) → P (object_of s.files handle)
  at_handle P none there handle =
      cond_both (eqb (length handle) 8) (object_by (named s.files (from_be_bytes w64 handle))) (Missing stat.BadHandle) P (λ e. there (from_be_bytes w64 handle)) (λ e. none)

  written : (handle : List ℕ) (offset count : ℕ) (stability : StableHow) (bytes : List ℕ) → UsersEffect s caller.uid (write_plan s (object_of s.files handle) offset count stability bytes caller).effect
  written handle offset count stability bytes =
      at_handle (λ (o : Object). UsersEffect s caller.uid (write_plan s o offset count stability bytes caller).effect) (NoneOf refl) (λ fileid. write_named fileid offset count stability bytes (named s.files fileid) refl) handle

  committed : (handle : List ℕ) → UsersEffect s caller.uid (commit_plan s (object_of s.files handle) caller).effect
  committed handle = at_handle (λ (o : Object). UsersEffect s caller.uid (commit_plan s o caller).effect) (NoneOf refl) (λ fileid. commit_named fileid (named s.files fileid) refl) handle

  -- ---- each call, by the arm of its procedure

  pub users_effect : (v : Value calls) → arm_of calls v ≢ 2 → arm_of calls v ≢ 8 → UsersEffect s caller.uid (plan_of s (call_of v) caller).effect
  users_effect (inl nothing) other another = NoneOf refl
  users_effect (inr (inl handle)) other another = NoneOf refl
  users_effect (inr (inr (inl a))) other another = absurd (other refl)
  users_effect (inr (inr (inr (inl a)))) other another = NoneOf refl
  users_effect (inr (inr (inr (inr (inl a))))) other another = NoneOf refl
  users_effect (inr (inr (inr (inr (inr (inl a)))))) other another = written a.0 a.1.0 a.1.1.0 (stable_how_of a.1.1.1.0) a.1.1.1.1
  users_effect (inr (inr (inr (inr (inr (inr (inl a))))))) other another = absurd (another refl)
  users_effect (inr (inr (inr (inr (inr (inr (inr (inl root)))))))) other another = NoneOf refl
  users_effect (inr (inr (inr (inr (inr (inr (inr (inr (inl a))))))))) other another = committed a.0
  users_effect (inr (inr (inr (inr (inr (inr (inr (inr (inr none))))))))) other another = absurd none

  -- and of each that neither writes nor commits
  pub quiet_effect : (v : Value calls) → arm_of calls v ≢ 2 → arm_of calls v ≢ 8 → arm_of calls v ≢ 7 → arm_of calls v ≢ 21 → (plan_of s (call_of v) caller).effect ≡ NoEffect
  quiet_effect (inl nothing) other another no_write no_commit = refl
  quiet_effect (inr (inl handle)) other another no_write no_commit = refl
  quiet_effect (inr (inr (inl a))) other another no_write no_commit = absurd (other refl)
  quiet_effect (inr (inr (inr (inl a)))) other another no_write no_commit = refl
  quiet_effect (inr (inr (inr (inr (inl a))))) other another no_write no_commit = refl
  quiet_effect (inr (inr (inr (inr (inr (inl a)))))) other another no_write no_commit = absurd (no_write refl)
  quiet_effect (inr (inr (inr (inr (inr (inr (inl a))))))) other another no_write no_commit = absurd (another refl)
  quiet_effect (inr (inr (inr (inr (inr (inr (inr (inl root)))))))) other another no_write no_commit = refl
  quiet_effect (inr (inr (inr (inr (inr (inr (inr (inr (inl a))))))))) other another no_write no_commit = absurd (no_commit refl)
  quiet_effect (inr (inr (inr (inr (inr (inr (inr (inr (inr none))))))))) other another no_write no_commit = absurd none
