-- What a restart keeps of a file (RFC 1813, section 3.3.7: what is not stable may be lost).
use Rattle.std.specs.Prelude.{⊤, ◌≡◌, ℕ, ◌≤◌, List, [], length, Option, Some, None}
use Rattle.cluster_model.specs.Content.{Content}
use Rattle.cluster_model.specs.File.{StoredFile, shown}

-- What the disk has and the writes of which pieces may reach it, before a restart: what was kept so far, or the stable bytes and
-- the pending writes.
abbrev pub kept_content : Content → Option Content → Content
kept_content content None = content
kept_content content (Some kept) = kept

-- It was kept of this file: its disk has no more bytes than the file shows, and its writes are the pending ones.
abbrev pub IsKeptOf : StoredFile → Option Content → Type 0
IsKeptOf f None = ⊤
IsKeptOf f (Some kept) = (length kept.stable ≤ length (shown f)) × (kept.pending ≡ f.content.pending)

-- a file after a restart that left these bytes on its disk
abbrev pub crashed : StoredFile → List ℕ → StoredFile
crashed f bytes = record f { content = record { stable = bytes; pending = [] }; times = f.stable_times }
