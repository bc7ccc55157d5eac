-- What one data server by itself enters.
use Rattle.std.proofs.Common.{◌≡◌, ℕ, ◌+◌, Bool, true, false, cond, List, [], ◌∷◌, Option, Some, None, refl, subst}
use Rattle.cluster_model.specs.declared.piece.Piece.{Piece}
use Rattle.cluster_model.specs.declared.ids.NodeId.{NodeId}
use Rattle.cluster_model.specs.declared.ids.NodeId.TheVariants.{Server}
use Rattle.cluster_model.specs.declared.ids.MirrorId.{MirrorId}
use Rattle.cluster_model.specs.Event.{EventValue, Deliver, Restart}
use Rattle.cluster_model.specs.File.{FileOp, Writes, Commits, Sets, Restarts}
use Rattle.cluster_model.specs.Server.{ServerState, Effect, NoEffect, OnFile, NewFile, applied_entries, committed_entries, owner_entries, op_entries, entries_of, mirror_of, restart_of}
use Rattle.ds_files.specs.Receive.{Received, Silent, Refused, Asked, outcome_by, outcome_of, received}
use Rattle.world_journal.specs.Journal.{is_within}
use Rattle.world_journal.specs.SentPackets.{packets_of}
use Rattle.ff_world.specs.World.{WorldState, WorldStep, Run, effect_of, restart_effect, sends_of, step_by_effect, world_step, with_step, run_of}
use Rattle.script_laws.proofs.PlainJournals.{ArePlain, plain_both}

applied_plain : (m : MirrorId) (uid at : ℕ) (bytes : List ℕ) → ArePlain (applied_entries m uid at bytes)
applied_plain m uid at [] = tt
applied_plain m uid at (b ∷ bytes) = (refl, tt)

committed_plain : (m : MirrorId) (synced : Bool) → ArePlain (committed_entries m synced)
committed_plain m true = (refl, tt)
committed_plain m false = tt

owner_plain : (m : MirrorId) (owner : Option ℕ) → ArePlain (owner_entries m owner)
owner_plain m None = tt
owner_plain m (Some uid) = (refl, tt)

op_plain : (m : MirrorId) (uid : ℕ) (op : FileOp) → ArePlain (op_entries m uid op)
op_plain m uid (Writes at synced bytes) = plain_both (applied_entries m uid at bytes) (committed_entries m synced) (applied_plain m uid at bytes) (committed_plain m synced)
op_plain m uid Commits = (refl, tt)
op_plain m uid (Sets changes) = owner_plain m changes.owner
op_plain m uid (Restarts pieces) = tt

effect_plain : (s : ServerState) (uid : ℕ) (effect : Effect) → ArePlain (entries_of s uid effect)
effect_plain s uid NoEffect = tt
effect_plain s uid (OnFile index op) = op_plain (mirror_of s index) uid op
effect_plain s uid (NewFile name owner group mode) = (refl, tt)

received_plain : (s : ServerState) (r : Received) → ArePlain (outcome_by s r).entries
received_plain s Silent = tt
received_plain s (Refused reply) = tt
received_plain s (Asked xid call cred) = effect_plain s cred.uid _

packets_plain : (from : NodeId) (sent : ℕ) (sends : List (NodeId × List ℕ)) → ArePlain (packets_of from sent sends)
packets_plain from sent [] = tt
packets_plain from sent ((to, bytes) ∷ sends) = (refl, packets_plain from (sent + 1) sends)

restart_plain : (w : WorldState) (pieces : List Piece) (o : Option ServerState) → ArePlain (restart_effect w pieces o).entries
restart_plain w pieces None = tt
restart_plain w pieces (Some s) = (refl, tt)

event_plain : (w : WorldState) (event : EventValue) → ArePlain (effect_of w event).entries
event_plain w (Deliver bytes) =
    (refl, (refl, plain_both (outcome_of w.server bytes).entries (packets_of (Server 1) (w.sent + 1) (sends_of (outcome_of w.server bytes))) (received_plain w.server (received bytes)) (packets_plain (Server 1) (w.sent + 1) (sends_of (outcome_of w.server bytes)))))
event_plain w (Restart server pieces) = restart_plain w pieces (restart_of w.server pieces)
event_plain w event = tt

step_plain : (o : Option WorldStep) → ((step : WorldStep) → o ≡ Some step → ArePlain step.entries) → (rest : WorldState → Run) → ((next : WorldState) → ArePlain (rest next).entries) → ArePlain (with_step o rest).entries
step_plain None all rest more = tt
step_plain (Some step) all rest more = plain_both step.entries (rest step.world).entries (all step refl) (more step.world)

within_step : (b : Bool) (made step : WorldStep) → cond b (Some made) None ≡ Some step → ArePlain made.entries → ArePlain step.entries
within_step true made step is plain = let same : made ≡ step = cc is in subst (λ (s : WorldStep). ArePlain s.entries) same plain
within_step false made step is plain = absurd cc

pub run_plain : (events : List EventValue) (w : WorldState) → ArePlain (run_of w events).entries
run_plain [] w = tt
run_plain (event ∷ events) w =
    step_plain (world_step w event)
    (λ step is. within_step (is_within (step_by_effect w (effect_of w event)).world.journal) (step_by_effect w (effect_of w event)) step is (event_plain w event)) (λ next. run_of next events) (run_plain events)

-- an event leaves a plain journal
made_plain : (b : Bool) (made step : WorldStep) → cond b (Some made) None ≡ Some step → ArePlain made.world.journal → ArePlain step.world.journal
made_plain true made step is plain = let same : made ≡ step = cc is in subst (λ (s : WorldStep). ArePlain s.world.journal) same plain
made_plain false made step is plain = absurd cc

pub step_plain_journal : (w : WorldState) (event : EventValue) (step : WorldStep) → world_step w event ≡ Some step → ArePlain w.journal → ArePlain step.world.journal
step_plain_journal w event step is plain =
    let made : WorldStep = step_by_effect w (effect_of w event) in
    made_plain (is_within made.world.journal) made step is (plain_both w.journal made.entries plain (event_plain w event))
