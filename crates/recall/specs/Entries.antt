-- What the code keeps beside each recall: the grant of the callback that is outstanding to its client.
use Rattle.std.specs.Prelude.{◌≡◌, ℕ, Bool, true, false, not, ◌==◌, ◌&&◌, List, [], ◌∷◌, filter, find, map, Option, Some, None, option_map, if◌then◌else◌, ⊤}
use Rattle.std.specs.List.{AllByRecursion}
use Rattle.cluster_model.specs.declared.ids.FileId.{FileId}
use Rattle.cluster_model.specs.declared.ids.Cred.{Cred}
use Rattle.recall.specs.declared.recall.Recall.{Recall}
use Rattle.recall.specs.declared.kept_recall.KeptRecall.{KeptRecall}
use Rattle.recall.specs.declared.kept_recall.Ended.{Ended}
use Rattle.recall.specs.declared.kept_recall.Ended.TheVariants.{Grant, File}
use Rattle.recall.specs.Recalls.{waits, is_out, at_tick, grant_of}

abbrev pub recall_in : KeptRecall → Recall
recall_in e = e.recall

abbrev pub grant_in : KeptRecall → FileId × Cred
grant_in e = grant_of e.recall

abbrev pub recalls_of : List KeptRecall → List Recall
recalls_of entries = map recall_in entries

-- ---- which grant's callback is outstanding to a client

abbrev pub is_out_to : ℕ → Recall → Bool
is_out_to client r = (r.client == client) && is_out r.stage

abbrev pub holder : List Recall → ℕ → Option (FileId × Cred)
holder recalls client = option_map grant_of (find (is_out_to client) recalls)

abbrev pub is_free : Option (FileId × Cred) → Bool
is_free None = true
is_free (Some grant) = false

-- it waits, and no callback is outstanding to its client
abbrev pub is_ready : KeptRecall → Bool
is_ready e = waits e.recall.stage && is_free e.held_by

abbrev pub held_as : ℕ → Option (FileId × Cred) → KeptRecall → KeptRecall
held_as client grant e = if e.recall.client == client then record { recall = e.recall; held_by = grant } else e

abbrev pub ticked : KeptRecall → KeptRecall
ticked e = record { recall = at_tick e.recall; held_by = e.held_by }

-- ---- what ends

abbrev pub is_ended : Ended → FileId × Cred → Bool
is_ended (Grant file cred) grant = (grant.0.0 == file.0) && (grant.1.0 == cred.0)
is_ended (File file) grant = grant.0.0 == file.0

abbrev pub goes_on : Ended → Recall → Bool
goes_on ended r = not (is_ended ended (grant_of r))

abbrev pub goes_on_in : Ended → KeptRecall → Bool
goes_on_in ended e = goes_on ended e.recall

abbrev pub unless_ended : Ended → Option (FileId × Cred) → Option (FileId × Cred)
unless_ended ended None = None
unless_ended ended (Some grant) = if is_ended ended grant then None else Some grant

abbrev pub released : Ended → KeptRecall → KeptRecall
released ended e = record { recall = e.recall; held_by = unless_ended ended e.held_by }

abbrev pub entries_after : Ended → List KeptRecall → List KeptRecall
entries_after ended entries = map (released ended) (filter (goes_on_in ended) entries)

-- ---- what holds of the entries

-- no second passes
abbrev pub IsAtMostOne : {X : Type 0} → (X → Bool) → List X → Type 0
IsAtMostOne test [] = ⊤
IsAtMostOne test (x ∷ xs) = (test x ≡ true → find test xs ≡ None) × IsAtMostOne test xs

abbrev pub IsHeld : List Recall → KeptRecall → Type 0
IsHeld recalls e = e.held_by ≡ holder recalls e.recall.client

pub record IsRecallTable (entries : List KeptRecall) : Type 0 where
  pub held : AllByRecursion (IsHeld (recalls_of entries)) entries
  pub alone : (client : ℕ) → IsAtMostOne (is_out_to client) (recalls_of entries)
