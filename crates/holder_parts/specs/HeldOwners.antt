-- While a period goes on each mirror that was live when it began belongs to its uid (RFC 8435, section 2.2).
use Rattle.std.specs.Prelude.{◌≡◌, ℕ, List, [], ◌∷◌, ◌++◌, Some}
use Rattle.std.specs.List.{AllByRecursion}
use Rattle.cluster_model.specs.declared.ids.NodeId.{NodeId}
use Rattle.cluster_model.specs.declared.ids.FileId.{FileId}
use Rattle.cluster_model.specs.declared.ids.MirrorId.{MirrorId}
use Rattle.cluster_model.specs.declared.entry.Entry.{Entry}
use Rattle.cluster_model.specs.declared.entry.Entry.TheVariants.{Granted}
use Rattle.cluster_model.specs.Journal.{content_of}
use Rattle.cluster_laws.specs.FenceLaw.{live_in}
use Rattle.cluster_laws.specs.Agreement.{causes_of}

abbrev pub BelongTo : List Entry → ℕ → List MirrorId → Type 0
BelongTo journal uid live = AllByRecursion (λ m. (content_of journal m).owner ≡ uid) live

-- so far: the journal has not entered since that the period ended
abbrev pub DoHoldersOwn : List Entry → Type 0
DoHoldersOwn journal =
    (before since : List Entry) (f : FileId) (uid : ℕ) (holder : NodeId) (live : List MirrorId) → journal ≡ before ++ Granted f (record { 0 = uid }) holder ∷ since → live_in before f ≡ Some live → causes_of uid since ≡ []
    → BelongTo journal uid live
