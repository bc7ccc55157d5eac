-- The room for numbers that a run of a metadata server has at each moment, where it has some left at its end (RFC 8881, section 2.10.6.1; RFC
-- 1813, section 2.5).
use Rattle.std.specs.Prelude.{◌≡◌, ℕ, ◌+◌, ◌<◌, ◌≤◌, ◌^◌, true, List, [], ◌∷◌, length}
use Rattle.std.specs.List.{AllByRecursion}
use Rattle.cluster_model.specs.declared.ids.MirrorId.{MirrorId}
use Rattle.cluster_model.specs.declared.entry.Entry.{Entry}
use Rattle.cluster_model.specs.declared.entry.Entry.TheVariants.{Free, Swapped}
use Rattle.device_addr.specs.Universal.{AddressValue}
use Rattle.mds_rule.specs.ServedFiles.{has_fresh}
use Rattle.mds_walk.specs.MdsRuns.{MdsInput, Hears, MdsEvent, mds_run}
use Rattle.mds_replies.specs.ClientCalls.{server_after}
use Rattle.mds_replies.specs.AnsweredRequests.{StaysRoomy}

-- the fileids of mirrors that come into a live list have eight bytes (RFC 1813, section 2.5)
abbrev pub IsLiveInRange : Entry → Type 0
IsLiveInRange (Free file live) = AllByRecursion (λ (m : MirrorId). m.fileid < 2 ^ 64) live
IsLiveInRange (Swapped file old new) = new.fileid < 2 ^ 64
IsLiveInRange e = Unit {0}

-- the records that an input brings: one, or none
abbrev pub heard_with : MdsInput → ℕ
heard_with (Hears from bytes) = 1
heard_with input = 0

-- how many of these events brought a record
abbrev pub records_heard : List MdsEvent → ℕ
records_heard [] = 0
records_heard (e ∷ events) = heard_with e.input + records_heard events

-- A run that has uids and names left at its end, of which no file is made with more than four mirrors, and to which fewer records came than a
-- slot has numbers, has room for numbers at each moment.
abbrev pub RunsHaveRoom : Type 0
RunsHaveRoom =
    (servers : List AddressValue) (mirrors : ℕ) (events : List MdsEvent) → mirrors ≤ 4 → length servers < 2 ^ 32 → records_heard events + 1 < 4294967296
    → AllByRecursion IsLiveInRange (mds_run servers mirrors events).entries → has_fresh (server_after servers mirrors events).fresh ≡ true → StaysRoomy servers mirrors events

-- Uids are drawn no faster than entries are made, one more for each file. So a run of few entries, of which no file is made with more than four
-- mirrors, and to which fewer records came than a slot has numbers, has room for numbers at each moment.
abbrev pub ShortRunsHaveRoom : Type 0
ShortRunsHaveRoom =
    (servers : List AddressValue) (mirrors : ℕ) (events : List MdsEvent) → mirrors ≤ 4 → length servers < 2 ^ 32 → records_heard events + 1 < 4294967296 → length (mds_run servers mirrors events).entries ≤ 4000000000
    → AllByRecursion IsLiveInRange (mds_run servers mirrors events).entries → StaysRoomy servers mirrors events

-- the data servers that a metadata server knows, and how many mirrors it wants for a file, stay as they were set up
abbrev pub SetupStays : Type 0
SetupStays = (servers : List AddressValue) (mirrors : ℕ) (events : List MdsEvent) → ((mds_run servers mirrors events).mds.servers ≡ servers) × ((mds_run servers mirrors events).mds.mirrors ≡ mirrors)
