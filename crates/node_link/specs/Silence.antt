-- How long a node bears that nothing comes: behind each pause it is told that time passes.
use Rattle.std.specs.Prelude.{ℕ, ◌+◌, ◌*◌, ◌^◌, ◌-◌, nat_le, min, Bool, false, if◌then◌else◌, Option, None, Some}
use Rattle.node_link.specs.declared.link.Role.{Role}
use Rattle.node_link.specs.declared.link.Role.TheVariants.{Mds, Server, Client}
use Rattle.node_link.specs.declared.silence.Silence.{Silence}
use Rattle.node_link.specs.declared.silence.TheConstants.{SHORTEST_PAUSE, LONGEST_PAUSE}

-- The first pause of a node in this role, in milliseconds: a client's is short, a metadata server's is always the longest; a data server has none.
abbrev pub first_pause : Role → Option ℕ
first_pause Mds = Some LONGEST_PAUSE
first_pause Server = None
first_pause Client = Some SHORTEST_PAUSE

abbrev pub new_silence : Option ℕ → Silence
new_silence first = record { first = first; pause = first; quiet = 0; came = 0 }

-- twice as long, up to the longest
abbrev pub next_pause : Option ℕ → Option ℕ
next_pause None = None
next_pause (Some pause) = Some (min (2 * pause) LONGEST_PAUSE)

-- a record came: the second one since time passed makes the pause short again
abbrev pub behind_arrival : ℕ → Silence → Silence
behind_arrival now s = record s { quiet = now; came = min (s.came + 1) 2; pause = if nat_le 1 s.came then s.first else s.pause }

-- a call was given up
abbrev pub behind_timeout : ℕ → Silence → Silence
behind_timeout now s = record s { quiet = now }

-- time passed
abbrev pub behind_pause : ℕ → Silence → Silence
behind_pause now s = record s { quiet = now; came = 0; pause = next_pause s.pause }

-- until when it is borne that nothing comes
abbrev pub pause_end : ℕ → Option ℕ → ℕ
pause_end quiet None = 2 ^ 64 - 1
pause_end quiet (Some pause) = min (quiet + pause) (2 ^ 64 - 1)

abbrev pub silence_end : Silence → ℕ
silence_end s = pause_end s.quiet s.pause

-- it was borne long enough by this moment
abbrev pub is_pause_over : ℕ → ℕ → Option ℕ → Bool
is_pause_over now quiet None = false
is_pause_over now quiet (Some pause) = nat_le pause (now - quiet)

abbrev pub is_silence_over : ℕ → Silence → Bool
is_silence_over now s = is_pause_over now s.quiet s.pause
