-- The body that is logged of a step, as bytes.
use Rattle.std.specs.Prelude.{◌≡◌, ℕ, ◌+◌, ◌*◌, ◌<◌, ◌≤◌, ◌^◌, List, [], ◌∷◌, length, Option, Some, None}
use Rattle.std.specs.List.{AllByRecursion}
use Rattle.cluster_model.specs.declared.tick.Times.{Times}
use Rattle.cluster_model.specs.Content.{Pending}
use Rattle.cluster_model.specs.Server.{ServerState, Effect, max_file}
use Rattle.ff_xdr.specs.Form.{Fits, spelling}
use Rattle.ds_log.specs.declared.range.Range.{Range}
use Rattle.ds_log.specs.PlainRanges.{plain_range}
use Rattle.ds_log.specs.Bodies.{Logged, tick_form, tick_value, body_form, body_value, body_in}
use Rattle.ds_changes.specs.Changes.{BodyOf}

-- the bytes spell a body, and are read as it
pub record Spelled (body : Logged) (bytes : List ℕ) : Type 0 where
  pub is : bytes ≡ spelling body_form (body_value body)
  pub again : body_in bytes ≡ Some body

-- The bytes spell a body of a step, are read as it, and are fewer than a record may have.
pub record Spells (Is : Logged → Type 0) (bytes : List ℕ) : Type 0 where
  pub body : Logged
  pub of : Is body
  pub spelled : Spelled body bytes
  pub short : length bytes < 2 ^ 32

-- the bytes of a body where there is one, else none
abbrev pub LogsBy : (Option Logged → Type 0) → Option (List ℕ) → Type 0
LogsBy Is None = Is None
LogsBy Is (Some bytes) = Spells (λ body. Is (Some body)) bytes

abbrev pub Logs : ServerState → Effect → Option (List ℕ) → Type 0
Logs s effect bytes = LogsBy (BodyOf s effect) bytes

-- ---- ranges that fit a body

-- a range has bytes, and a file may have bytes there
pub record IsRange (r : Pending) : Type 0 where
  pub some : 0 < length r.bytes
  pub ends : r.at + length r.bytes ≤ max_file

-- the bytes of all ranges
abbrev pub range_sizes : List Pending → ℕ
range_sizes [] = 0
range_sizes (r ∷ rs) = length r.bytes + range_sizes rs

-- no more bytes than two files may have
pub record AreFewRanges (rs : List Pending) : Type 0 where
  pub each : AllByRecursion IsRange rs
  pub few : range_sizes rs ≤ 2 * max_file

-- ---- what becomes stable

-- a write's own range as the code has it
abbrev pub own_of : Option Range → List Pending
own_of None = []
own_of (Some r) = plain_range r ∷ []

-- it is within a file
pub record IsOwn (own : List Pending) : Type 0 where
  pub each : AllByRecursion IsRange own
  pub few : range_sizes own ≤ max_file

-- mtime and ctime have a spelling
abbrev pub TimesFit : Times → Type 0
TimesFit times = Fits tick_form (tick_value times.mtime) × Fits tick_form (tick_value times.ctime)
