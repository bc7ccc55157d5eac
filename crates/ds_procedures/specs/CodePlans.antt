-- What the code's plans say, and what is known of them.
use Rattle.std.specs.Prelude.{◌≡◌, ℕ, ◌+◌, ◌-◌, ◌<◌, ◌≤◌, ◌^◌, List, length, Some, None, max, slice_get}
use Rattle.nfs3_wire.specs.declared.create.CreateArgs.{CreateArgs}
use Rattle.rpc_record.specs.declared.auth.AuthSys.{AuthSys}
use Rattle.cluster_model.specs.File.{StoredFile, FileOp, Writes, Commits, Sets, Restarts, shown}
use Rattle.cluster_model.specs.Server.{Effect as Effected, NoEffect, OnFile, NewFile, max_total, max_file, max_ticks, index_of}
use Rattle.ds_procedures.specs.declared.server_base.ServerBase.{ServerBase}
use Rattle.ds_procedures.specs.declared.plan.Effect.{Effect}
use Rattle.ds_procedures.specs.declared.plan.Effect.TheVariants as effect
use Rattle.ds_procedures.specs.declared.plan.Plan.{Plan as DeclaredPlan}
use Rattle.ds_procedures.specs.declared.create.CreateCase.{CreateCase as DeclaredCreation}
use Rattle.ds_procedures.specs.declared.create.CreateCase.TheVariants as declared
use Rattle.ds_procedures.specs.Plans.{Plan}
use Rattle.ds_procedures.specs.Objects.{caller}
use Rattle.ds_procedures.specs.Create.{CreateCase, NotMade, IsThere, Makes, create_case}
use Rattle.ds_procedures.specs.ServerBases.{Refuses}

abbrev pub plain_effect : Effect → Effected
plain_effect effect.Nothing = NoEffect
plain_effect (effect.Writes index at synced bytes) = OnFile index (Writes at synced bytes.now)
plain_effect (effect.Commits index) = OnFile index Commits
plain_effect (effect.Sets index changes) = OnFile index (Sets changes)
plain_effect (effect.Makes name owner group mode) = NewFile name.now owner group mode

abbrev pub plain_plan : DeclaredPlan → Plan
plain_plan p = record { reply = p.response; effect = plain_effect p.effect }

-- ---- what can be carried out

-- there is room and a tick for a WRITE of so many bytes to a file of this size
pub record HasRoom (h : ServerBase) (size at len : ℕ) : Type 0 where
  pub short : 0 < len → at + len ≤ max_file
  pub room : 0 < len → h.total - size + max size (at + len) ≤ max_total
  pub tick : 0 < len → h.clock.count < max_ticks

abbrev pub HasRoomFor : ServerBase → StoredFile → FileOp → Type 0
HasRoomFor h f (Writes at synced bytes) = HasRoom h (length (shown f)) at (length bytes)
HasRoomFor h f Commits = Unit {0}
HasRoomFor h f (Sets changes) = Unit {0}
HasRoomFor h f (Restarts pieces) = ⊥

-- there is a tick for a SETATTR
abbrev pub HasTickFor : ServerBase → FileOp → Type 0
HasTickFor h (Writes at synced bytes) = Unit {0}
HasTickFor h Commits = Unit {0}
HasTickFor h (Sets changes) = h.clock.count < max_ticks
HasTickFor h (Restarts pieces) = ⊥

abbrev pub IsReady : ServerBase → List StoredFile → Effected → Type 0
IsReady h files NoEffect = Unit {0}
IsReady h files (OnFile index op) = (index < length files) × ((f : StoredFile) → slice_get files index ≡ Some f → HasRoomFor h f op) × HasTickFor h op
IsReady h files (NewFile name owner group mode) = (h.clock.count < max_ticks) × (index_of h.names name ≡ None)

-- the plan of a call on the file at an index, by the file
abbrev pub IsPlanOn : List StoredFile → ℕ → (StoredFile → Plan) → DeclaredPlan → Type 0
IsPlanOn files index plan p = (f : StoredFile) → slice_get files index ≡ Some f → plain_plan p ≡ plan f

-- ---- CREATE

abbrev pub plain_create_case : DeclaredCreation → CreateCase
plain_create_case (declared.Refuses status) = NotMade status
plain_create_case (declared.IsThere index) = IsThere index
plain_create_case (declared.Makes attributes) = Makes attributes

abbrev pub create_case_of : ServerBase → CreateArgs → AuthSys → CreateCase
create_case_of h a cred = create_case h.clock h.names a.name.now a.how (caller cred)

-- A refusal is one, what is there has an index, and what is to be made has a free name and a tick.
abbrev pub CreateCaseFits : ServerBase → List ℕ → DeclaredCreation → Type 0
CreateCaseFits h name (declared.Refuses status) = Refuses status
CreateCaseFits h name (declared.IsThere index) = index + 2 < 2 ^ 64
CreateCaseFits h name (declared.Makes attributes) = (h.clock.count < max_ticks) × (index_of h.names name ≡ None)
