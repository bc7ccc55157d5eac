-- The call of a file that goes out is out to one of its places, and the others are as they were.
use Rattle.std.proofs.Common.{◌≡◌, ℕ, suc, Bool, true, false, List, [], ◌∷◌, Option, Some, None, refl, ap, subst}
use Rattle.std.specs.Prelude.{◌&&◌, map, slice_get, slice_set, if◌then◌else◌}
use Rattle.cluster_model.specs.declared.limits.TheConstants.{PIECE_SIZE}
use Rattle.cluster_model.specs.declared.ids.Mirror.{Mirror}
use Rattle.cluster_model.specs.declared.call_stage.CallStage.{CallStage}
use Rattle.cluster_model.specs.declared.call_stage.CallStage.TheVariants.{Out}
use Rattle.cluster_model.specs.declared.fence_mirror.FenceMirror.{FenceMirror}
use Rattle.cluster_model.specs.DsCalls.{Read}
use Rattle.cluster_model.specs.Fences.{waits, FenceState, with_stage, waiting_at, fence_call_at, call_from}
use Rattle.copy_rule.specs.declared.copy_target.CopyTarget.{CopyTarget}
use Rattle.copy_rule.specs.Copies.{CopyState, may_read_on}
use Rattle.copy_rule.specs.Copies as copy
use Rattle.file_rule.specs.declared.creation.Creation.{Creation}
use Rattle.file_rule.specs.MdsFiles.{Creations, Activity, Idle, Makes, Fences, Settles, Copies, MdsFile, in_stage}
use Rattle.file_rule.specs.FilePhases.{CallOut, creation_waiting, create_out_at, create_out, fence_out, settle_out, copy_out, call_out_of, call_out}
use Rattle.standing_calls.proofs.Spots.{Spot, map_set}
use Rattle.standing_calls.proofs.OwnSpots.{creation_spot, mirror_spot, target_spot, settle_spots, copy_spots, spots_in, own_spots, Kind, number_of}

-- the places then, and that the file is of the kind that it was
pub record GoesTo (xid : ℕ) (spots : List Spot) (f : MdsFile) (c : CallOut) : Type 0 where
  pub place : ℕ
  pub set : own_spots c.file ≡ slice_set spots place (c.server, Some xid)
  pub kind : Kind f.activity f.layout.phase → Kind c.file.activity c.file.layout.phase

abbrev pub MayGo : ℕ → List Spot → MdsFile → Option CallOut → Type 0
MayGo xid spots f None = Unit {0}
MayGo xid spots f (Some c) = GoesTo xid spots f c

module _ (f : MdsFile) (xid : ℕ) where
  create_goes : (all : Creations) (place : ℕ) (o : Option Creation) → MayGo xid (map creation_spot all.items) f (create_out_at f all xid place o)
  create_goes all place None = tt
  create_goes all place (Some c) = record { place = place; set = map_set creation_spot all.items place (in_stage c (Out xid 0)); kind = λ kind. tt }

  creates_go : (all : Creations) (o : Option ℕ) → MayGo xid (map creation_spot all.items) f (create_out f all xid o)
  creates_go all None = tt
  creates_go all (Some place) = create_goes all place (slice_get all.items place)

  mirror_goes : (g : FenceState) (place : ℕ) (o : Option FenceMirror) → MayGo xid (map mirror_spot g.mirrors) f (fence_out f (fence_call_at g xid place o))
  mirror_goes g place None = tt
  mirror_goes g place (Some m) = record { place = place; set = map_set mirror_spot g.mirrors place (with_stage m (Out xid 0)); kind = λ kind. tt }

  fence_goes : (g : FenceState) (o : Option ℕ) → MayGo xid (map mirror_spot g.mirrors) f (fence_out f (call_from g xid o))
  fence_goes g None = tt
  fence_goes g (Some place) = mirror_goes g place (slice_get g.mirrors place)

  settle_goes : (stage : CallStage) → Kind (Settles stage) f.layout.phase → (live : List Mirror) → f.layout.live ≡ live → (b : Bool) → MayGo xid (settle_spots live stage) f (if b then settle_out f xid live else None)
  settle_goes stage kind [] is true = tt
  settle_goes stage kind (m ∷ live) is true = record { place = 0; set = ap (λ (l : List Mirror). settle_spots l (Out xid 0)) is; kind = λ any. kind }
  settle_goes stage kind live is false = tt

  target_goes : (c : CopyState) → Kind (Copies c) f.layout.phase → (place : ℕ) (o : Option CopyTarget) → MayGo xid (copy_spots c) f (copy_out f (copy.target_call_at c xid place o))
  target_goes c kind place None = tt
  target_goes c kind place (Some t) = record {
    place = suc place;
    set = ap (λ (l : List Spot). (c.source.server, number_of c.read) ∷ l) (map_set target_spot c.targets place (copy.at_stage t (Out xid 0)));
    kind = λ any. kind;
  }

  copy_goes : (c : CopyState) → Kind (Copies c) f.layout.phase → (o : Option ℕ) → MayGo xid (copy_spots c) f (copy_out f (copy.call_from c xid o))
  copy_goes c kind None = by_test (waits c.read && may_read_on c)
    where
      by_test : (b : Bool) → MayGo xid (copy_spots c) f (copy_out f (if b then Some (record { copy = copy.with_read c (Out xid 0); server = c.source.server; uid = 0; call = Read c.source.fileid c.at PIECE_SIZE }) else None))
      by_test true = record { place = 0; set = refl; kind = λ any. kind }
      by_test false = tt
  copy_goes c kind (Some place) = target_goes c kind place (slice_get c.targets place)

  call_goes : (a : Activity) → Kind a f.layout.phase → MayGo xid (spots_in f.layout.live a) f (call_out_of f xid a)
  call_goes Idle kind = tt
  call_goes (Makes all) kind = creates_go all (creation_waiting all)
  call_goes (Fences g) kind = fence_goes g (waiting_at g)
  call_goes (Settles stage) kind = settle_goes stage kind f.layout.live refl (waits stage)
  call_goes (Copies c) kind = copy_goes c kind (copy.waiting_at c)

pub goes_to : (f : MdsFile) (xid : ℕ) (c : CallOut) → Kind f.activity f.layout.phase → call_out f xid ≡ Some c → GoesTo xid (own_spots f) f c
goes_to f xid c kind is = subst (λ (o : Option CallOut). MayGo xid (own_spots f) f o) is (call_goes f xid f.activity kind)
