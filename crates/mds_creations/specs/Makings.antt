-- The creations of a new file as the code has them.
use Rattle.std.specs.Prelude.{◌≡◌, ◌≤◌, ℕ, Bool, true, false, not, ◌==◌, ◌&&◌, List, [], ◌∷◌, length, map, filter, Option, Some, None, nat_lt, if◌then◌else◌, slice_get}
use Rattle.std.specs.List.{list_any, list_all, find}
use Rattle.cluster_model.specs.declared.ids.Cred.{Cred}
use Rattle.cluster_model.specs.declared.ids.Mirror.{Mirror}
use Rattle.cluster_model.specs.declared.call_stage.CallStage.{CallStage}
use Rattle.cluster_model.specs.declared.call_stage.CallStage.TheVariants.{Waits, Out, KeptOut, KeptBack, Done, GivenUp}
use Rattle.cluster_model.specs.DsCalls.{DsReplyValue, Created, Set, Written, Committed, Bytes, NotSync, Failed}
use Rattle.cluster_model.specs.Fences.{waits}
use Rattle.call_stage.specs.KeptCalls.{is_kept_out, kept_out_to}
use Rattle.copy_rule.specs.Copies.{is_given_up}
use Rattle.file_rule.specs.declared.creation.Creation.{Creation}
use Rattle.file_rule.specs.MdsFiles.{Creations, in_stage, made_as, with_creation, stage_behind}
use Rattle.file_rule.specs.FilePhases.{creation_waiting}

-- no two of them are one
abbrev pub are_different : List ℕ → Bool
are_different [] = true
are_different (n ∷ servers) = not (list_any (λ k. k == n) servers) && are_different servers

-- ---- what holds of creations

-- a file is made just where its CREATE is done, on its server
abbrev pub is_made_so : ℕ → CallStage → Option Mirror → Bool
is_made_so server Waits None = true
is_made_so server (Out xid timeouts) None = true
is_made_so server (KeptOut xid) None = true
is_made_so server KeptBack None = true
is_made_so server Done None = false
is_made_so server GivenUp None = true
is_made_so server Waits (Some m) = false
is_made_so server (Out xid timeouts) (Some m) = false
is_made_so server (KeptOut xid) (Some m) = false
is_made_so server KeptBack (Some m) = false
is_made_so server Done (Some m) = m.id.server == server
is_made_so server GivenUp (Some m) = false

abbrev pub is_sound : Creation → Bool
is_sound c = is_made_so c.server c.stage c.made

abbrev pub stands : Creation → Bool
stands c = not (is_given_up c.stage)

abbrev pub servers_of : List Creation → List ℕ
servers_of items = map (λ c. c.server) items

-- at most four, on different servers, each of them sound, and one of them is not given up
pub record AreCreations (items : List Creation) : Type 0 where
  pub few : length items ≤ 4
  pub apart : are_different (servers_of items) ≡ true
  pub sound : list_all is_sound items ≡ true
  pub some : list_any stands items ≡ true

-- ---- steps

-- what an answer and a timeout make of one, where there is another that stands or not
abbrev pub failed_with : Bool → CallStage → CallStage
failed_with spare kept = if spare then GivenUp else kept

abbrev pub answered_with : Bool → Creation → DsReplyValue → Creation
answered_with spare c (Created fileid shown) = made_as c fileid shown.seen
answered_with spare c (Set shown) = in_stage c (failed_with spare KeptBack)
answered_with spare c (Written shown verifier) = in_stage c (failed_with spare KeptBack)
answered_with spare c (Committed shown verifier) = in_stage c (failed_with spare KeptBack)
answered_with spare c (Bytes shown eof bytes) = in_stage c (failed_with spare KeptBack)
answered_with spare c (NotSync shown) = in_stage c (failed_with spare KeptBack)
answered_with spare c (Failed status shown) = in_stage c (failed_with spare KeptBack)

abbrev pub late_with : Bool → Creation → Creation
late_with spare c = in_stage c (stage_behind c.stage (λ xid. failed_with spare (KeptOut xid)))

abbrev pub has_spare : Creations → Bool
has_spare all = nat_lt 1 (length (filter stands all.items))

abbrev pub put_there : Creations → (Creation → Creation) → ℕ → Option Creation → Creations
put_there all step place None = all
put_there all step place (Some c) = with_creation all place (step c)

abbrev pub put_at : Creations → (Creation → Creation) → Option ℕ → Creations
put_at all step None = all
put_at all step (Some place) = put_there all step place (slice_get all.items place)

-- the creations behind an answer to the one at a place, and behind a timeout of it
abbrev pub answered_at : Creations → DsReplyValue → Option ℕ → Creations
answered_at all reply place = put_at all (λ c. answered_with (has_spare all) c reply) place

abbrev pub late_at : Creations → Option ℕ → Creations
late_at all place = put_at all (late_with (has_spare all)) place

-- the CREATE that goes out, or none
abbrev pub create_there : Option Creation → Option (ℕ × ℕ × Cred) → ℕ → Type 0
create_there None sent owner = sent ≡ None
create_there (Some c) sent owner = sent ≡ Some (c.server, c.name, record { 0 = owner })

abbrev pub create_at : Creations → Option (ℕ × ℕ × Cred) → Option ℕ → Type 0
create_at all sent None = sent ≡ None
create_at all sent (Some place) = create_there (slice_get all.items place) sent all.owner

pub record SendsCreate (old : Creations) (xid : ℕ) (sent : Option (ℕ × ℕ × Cred)) (new : Creations) : Type 0 where
  pub call : create_at old sent (creation_waiting old)
  pub file : new ≡ put_at old (λ c. in_stage c (Out xid 0)) (creation_waiting old)

-- ---- what is under way

-- the servers to which a CREATE waits, in order
abbrev pub servers_waiting : Creations → List ℕ
servers_waiting all = map (λ c. c.server) (filter (λ c. waits c.stage) all.items)

-- the first that is kept outstanding until the next tick, by its server and number
abbrev pub kept_create : Option Creation → Option (ℕ × ℕ)
kept_create None = None
kept_create (Some c) = kept_out_to c.server c.stage

abbrev pub kept_out : Creations → Option (ℕ × ℕ)
kept_out all = kept_create (find (λ c. is_kept_out c.stage) all.items)
