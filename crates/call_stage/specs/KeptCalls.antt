-- A call that is kept outstanding until the next tick, when its record is sent again.
use Rattle.std.specs.Prelude.{ℕ, Bool, true, false, Option, Some, None}
use Rattle.cluster_model.specs.declared.call_stage.CallStage.{CallStage}
use Rattle.cluster_model.specs.declared.call_stage.CallStage.TheVariants.{Waits, Out, KeptOut, KeptBack, Done, GivenUp}

abbrev pub is_kept_out : CallStage → Bool
is_kept_out Waits = false
is_kept_out (Out xid timeouts) = false
is_kept_out (KeptOut xid) = true
is_kept_out KeptBack = false
is_kept_out Done = false
is_kept_out GivenUp = false

-- by its server and its number
abbrev pub kept_out_to : ℕ → CallStage → Option (ℕ × ℕ)
kept_out_to server Waits = None
kept_out_to server (Out xid timeouts) = None
kept_out_to server (KeptOut xid) = Some (server, xid)
kept_out_to server KeptBack = None
kept_out_to server Done = None
kept_out_to server GivenUp = None
