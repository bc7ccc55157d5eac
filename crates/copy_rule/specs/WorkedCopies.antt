-- Copies that are worked out by hand: what goes out in turn, and what comes of it.
use Rattle.std.specs.Prelude.{ℕ, true, false, List, [], ◌∷◌, Option, Some, None}
use Rattle.cluster_model.specs.declared.tick.Tick.{Tick}
use Rattle.cluster_model.specs.declared.ids.MirrorId.{MirrorId}
use Rattle.cluster_model.specs.declared.phase.LeftCause.TheVariants.{Error, Timeouts}
use Rattle.cluster_model.specs.declared.ds_call.Shown.{Shown}
use Rattle.cluster_model.specs.DsCalls.{DsCallValue, Create, Write, Read, DsReplyValue, Created, Written, Bytes, Failed}
use Rattle.cluster_model.specs.declared.targets.SwappedIn.{SwappedIn}
use Rattle.copy_rule.specs.declared.copy_target.CopyStep.{CopyStep}
use Rattle.copy_rule.specs.declared.copy_target.CopyStep.TheVariants.{Stranger, Waiting, SourceFailed, TargetFailed, Done as AllHold}
use Rattle.copy_rule.specs.Copies.{CopyState, new_copy, CopyCall, on_reply, on_timeout, after_tick, next_call, outcome}

-- ---- turns of a copy

pub data CopyInput : Type 0 where
  -- the next call goes out under this number
  Calls : (xid : ℕ) → CopyInput
  Replies : (xid : ℕ) (reply : DsReplyValue) → CopyInput
  Waits : (xid : ℕ) → CopyInput
  Ticks : CopyInput

-- what a turn shows: a call, to which server and by whom, or what an answer or a timeout comes to
pub data CopyShown : Type 0 where
  Nothing : CopyShown
  Goes : (server uid : ℕ) (call : DsCallValue) → CopyShown
  Comes : CopyStep → CopyShown

pub record CopyTurn : Type 0 where
  pub copy : CopyState
  pub shows : CopyShown

abbrev pub called : CopyState → Option CopyCall → CopyTurn
called c None = record { copy = c; shows = Nothing }
called c (Some call) = record { copy = call.copy; shows = Goes call.server call.uid call.call }

abbrev pub after_input : CopyState → CopyInput → CopyTurn
after_input c (Calls xid) = called c (next_call c xid)
after_input c (Replies xid reply) = record { copy = (on_reply c xid reply).copy; shows = Comes (on_reply c xid reply).step }
after_input c (Waits xid) = record { copy = (on_timeout c xid).copy; shows = Comes (on_timeout c xid).step }
after_input c Ticks = record { copy = after_tick c; shows = Nothing }

-- what a list of turns shows, and the copy's outcome then
pub record Worked : Type 0 where
  pub shows : List CopyShown
  pub outcome : Option (List SwappedIn)

abbrev pub shown_before : CopyShown → Worked → Worked
shown_before shows w = record { shows = shows ∷ w.shows; outcome = w.outcome }

abbrev pub worked : CopyState → List CopyInput → Worked
worked c [] = record { shows = []; outcome = outcome c }
worked c (turn ∷ turns) = shown_before (after_input c turn).shows (worked (after_input c turn).copy turns)

-- ---- what is copied

abbrev at_server : ℕ → ℕ → MirrorId
at_server server fileid = record { server = server; fileid = fileid }

abbrev tick : ℕ → Tick
tick count = record { boot = 1; count = count }

abbrev showing : ℕ → Shown
showing count = record { owner = record { 0 = 70000 }; seen = tick count; size = 0 }

-- from server 1 to fresh files at servers 2 and 3, which replace one mirror and join the others
abbrev two_targets : CopyState
two_targets = new_copy (at_server 1 2) (record { server = 2; name = 8; replaced = Some (at_server 2 2) } ∷ record { server = 3; name = 9; replaced = None } ∷ []) 70000

-- ---- two pieces

-- The second piece ends the source. Each target's ctime last seen is that of its last WRITE.
abbrev pub two_pieces : Worked
two_pieces =
    worked two_targets
    (Calls 1 ∷ Calls 2 ∷ Calls 3 ∷ Replies 1 (Created 5 (showing 1)) ∷ Calls 3 ∷ Replies 2 (Created 6 (showing 11)) ∷ Calls 3 ∷ Replies 3 (Bytes None false (65 ∷ 66 ∷ []))
    ∷ Calls 4 ∷ Calls 5 ∷ Replies 4 (Written (Some (showing 2)) 1) ∷ Calls 6 ∷ Replies 5 (Written (Some (showing 12)) 1) ∷ Calls 6 ∷ Replies 6 (Bytes None true (67 ∷ []))
    ∷ Calls 7 ∷ Calls 8 ∷ Replies 8 (Written (Some (showing 13)) 1) ∷ Replies 7 (Written (Some (showing 3)) 1) ∷ [])

abbrev pub two_pieces_shown : Worked
two_pieces_shown = record {
  shows =
      Goes 2 0 (Create 8 70000) ∷ Goes 3 0 (Create 9 70000) ∷ Nothing ∷ Comes Waiting ∷ Nothing ∷ Comes Waiting ∷ Goes 1 0 (Read 2 0 65536) ∷ Comes Waiting
      ∷ Goes 2 70000 (Write 5 0 true (65 ∷ 66 ∷ [])) ∷ Goes 3 70000 (Write 6 0 true (65 ∷ 66 ∷ [])) ∷ Comes Waiting ∷ Nothing ∷ Comes Waiting ∷ Goes 1 0 (Read 2 2 65536) ∷ Comes Waiting
      ∷ Goes 2 70000 (Write 5 2 true (67 ∷ [])) ∷ Goes 3 70000 (Write 6 2 true (67 ∷ [])) ∷ Comes Waiting ∷ Comes AllHold ∷ [];
  outcome = Some (record { new = record { id = at_server 2 5; seen = tick 3 }; old = Some (at_server 2 2) } ∷ record { new = record { id = at_server 3 6; seen = tick 13 }; old = None } ∷ []);
}

-- ---- targets that fail

-- One is not made, and a WRITE to the other is refused: none is left, before the source said that it ends, and nothing goes out then.
abbrev pub none_left : Worked
none_left =
    worked two_targets
    (Calls 1 ∷ Calls 2 ∷ Waits 1 ∷ Waits 1 ∷ Replies 2 (Created 6 (showing 11)) ∷ Calls 3 ∷ Waits 1 ∷ Replies 1 (Created 5 (showing 1)) ∷ Calls 3 ∷ Replies 3 (Bytes None false (65 ∷ []))
    ∷ Calls 4 ∷ Replies 4 (Failed 28 None) ∷ Calls 5 ∷ [])

abbrev pub none_left_shown : Worked
none_left_shown = record {
  shows =
      Goes 2 0 (Create 8 70000) ∷ Goes 3 0 (Create 9 70000) ∷ Comes Waiting ∷ Comes Waiting ∷ Comes Waiting ∷ Nothing ∷ Comes (TargetFailed 2 (Some (at_server 2 2)) Timeouts) ∷ Comes Stranger
      ∷ Goes 1 0 (Read 2 0 65536) ∷ Comes Waiting ∷ Goes 3 70000 (Write 6 0 true (65 ∷ [])) ∷ Comes (TargetFailed 3 None (Error 28)) ∷ Nothing ∷ [];
  outcome = Some [];
}

-- ---- a source that fails, and is kept

-- Three timeouts: the READ is outstanding still, and with the tick its count begins again. An error: at the tick another READ waits. The
-- source has no bytes, so no WRITE is needed.
abbrev pub kept_source : Worked
kept_source =
    worked (new_copy (at_server 1 2) (record { server = 2; name = 8; replaced = None } ∷ []) 70000)
    (Calls 1 ∷ Replies 1 (Created 5 (showing 1)) ∷ Calls 2 ∷ Waits 2 ∷ Waits 2 ∷ Waits 2 ∷ Waits 2 ∷ Calls 3 ∷ Ticks ∷ Calls 3 ∷ Waits 2 ∷ Waits 2 ∷ Waits 2 ∷ Replies 2 (Failed 10006 None) ∷ Calls 3 ∷ Ticks ∷ Calls 3
    ∷ Replies 2 (Bytes None true []) ∷ Replies 3 (Bytes None true []) ∷ [])

abbrev pub kept_source_shown : Worked
kept_source_shown = record {
  shows =
      Goes 2 0 (Create 8 70000) ∷ Comes Waiting ∷ Goes 1 0 (Read 2 0 65536) ∷ Comes Waiting ∷ Comes Waiting ∷ Comes (SourceFailed Timeouts) ∷ Comes Waiting ∷ Nothing ∷ Nothing ∷ Nothing
      ∷ Comes Waiting ∷ Comes Waiting ∷ Comes (SourceFailed Timeouts) ∷ Comes (SourceFailed (Error 10006)) ∷ Nothing ∷ Nothing ∷ Goes 1 0 (Read 2 0 65536)
      ∷ Comes Stranger ∷ Comes AllHold ∷ [];
  outcome = Some (record { new = record { id = at_server 2 5; seen = tick 1 }; old = None } ∷ []);
}
