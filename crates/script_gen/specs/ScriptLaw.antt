-- Each line of a generated script is one of a script: the first sets up its machines, and the others are events of theirs.
use Rattle.std.specs.Prelude.{⊤, ◌≡◌, ℕ, List, [], ◌∷◌, Some}
use Rattle.cluster_model.specs.Event.{EventValue}
use Rattle.cluster_script.specs.declared.sizes.ClusterSizes.{ClusterSizes}
use Rattle.cluster_script.specs.ClusterLines.{cluster_at, event_at}

-- four data servers, three mirrors a file and four clients
abbrev pub generated_sizes : ClusterSizes
generated_sizes = record { servers = 4; mirrors = 3; clients = 4 }

-- the line is an event of such a cluster
abbrev pub SaysEvent : List ℕ → Type 0
SaysEvent line = (event : EventValue) × (event_at generated_sizes line ≡ Some event)

abbrev pub AllSayEvents : List (List ℕ) → Type 0
AllSayEvents [] = ⊤
AllSayEvents (line ∷ lines) = SaysEvent line × AllSayEvents lines

-- the first line sets such a cluster up
abbrev pub IsScriptOfEvents : List (List ℕ) → Type 0
IsScriptOfEvents [] = ⊥
IsScriptOfEvents (line ∷ lines) = (cluster_at line ≡ Some generated_sizes) × AllSayEvents lines
