-- That the first server to which a call waits is that of the next call.
use Rattle.std.proofs.Common.{◌≡◌, ℕ, suc, ◌+◌, Bool, true, false, cond, List, [], ◌∷◌, map, filter, Option, Some, None, refl, sym, ap, subst, ◌∙◌, arith}
use Rattle.std.specs.Prelude.{slice_get, ◌&&◌}
use Rattle.std.specs.List.{position, position_from}
use Rattle.std.proofs.lemmas.Iterator.Adapters.{position_from-zero}
use Rattle.cluster_model.specs.declared.ids.Mirror.{Mirror}
use Rattle.cluster_model.specs.declared.fence_mirror.FenceMirror.{FenceMirror}
use Rattle.cluster_model.specs.declared.call_stage.CallStage.TheVariants.{Out}
use Rattle.cluster_model.specs.declared.limits.TheConstants.{PIECE_SIZE}
use Rattle.cluster_model.specs.DsCalls.{Read}
use Rattle.cluster_model.specs.Fences.{FenceState, waits, waiting_at, call_from, fence_call_at}
use Rattle.copy_rule.specs.declared.copy_target.CopyTarget.{CopyTarget}
use Rattle.copy_rule.specs.Copies.{CopyState, CopyCall, may_read_on, with_read, target_call_at}
use Rattle.copy_rule.specs.Copies as copy
use Rattle.file_rule.specs.declared.creation.Creation.{Creation}
use Rattle.file_rule.specs.MdsFiles.{Creations, Activity, Idle, Makes, Fences, Settles, Copies, MdsFile}
use Rattle.file_rule.specs.FilePhases.{CallOut, call_out, call_out_of, creation_waiting, create_out, create_out_at, fence_out, settle_out, copy_out}
use Rattle.resilver.specs.Calls.{servers_from}
use Rattle.mds_activity.specs.FileCalls.{first_server, servers_by, servers_waiting, GoesFirst}

-- ---- a list, and the first of it that passes a test

-- what stands at a place, if it is one, has the first of the servers
abbrev FoundFirst : {X : Type 0} → (X → ℕ) → List X → Option ℕ → List ℕ → Type 0
FoundFirst server all None servers = servers ≡ []
FoundFirst {X = X} server all (Some place) servers = (x : X) × (rest : List ℕ) × (slice_get all place ≡ Some x) × (servers ≡ server x ∷ rest)

module _ {X : Type 0} (server : X → ℕ) (test : X → Bool) (all : List X) where
  first_from : (xs : List X) (i : ℕ) → ((k : ℕ) → slice_get all (i + k) ≡ slice_get xs k) → FoundFirst server all (position_from test i xs) (map server (filter test xs))
  first_from [] i at = refl
  first_from (x ∷ xs) i at = by_test (test x) (first_from xs (i + 1) (λ k. ap (slice_get all) (shift k) ∙ at (suc k)))
    where
      shift : (k : ℕ) → i + 1 + k ≡ i + suc k
      shift k = omega arith

      here : i ≡ i + 0
      here = omega arith

      by_test : (b : Bool) → FoundFirst server all (position_from test (i + 1) xs) (map server (filter test xs)) → FoundFirst server all (cond b (Some i) (position_from test (i + 1) xs)) (map server (cond b (x ∷ filter test xs) (filter test xs)))
      by_test true rest = (x, map server (filter test xs), ap (slice_get all) here ∙ at 0, refl)
      by_test false rest = rest

pub first_of : {X : Type 0} (server : X → ℕ) (test : X → Bool) (all : List X) → FoundFirst server all (position test all) (map server (filter test all))
first_of server test all = subst (λ (o : Option ℕ). FoundFirst server all o (map server (filter test all))) (sym (position_from-zero test all)) (first_from server test all all 0 (λ k. ap (slice_get all) (same k)))
  where
    same : (k : ℕ) → 0 + k ≡ k
    same k = omega arith

-- ---- by what is under way

goes_first : (c : CallOut) (n : ℕ) (rest servers : List ℕ) → servers ≡ n ∷ rest → c.server ≡ n → GoesFirst (Some c) servers
goes_first c n rest servers is same = subst (GoesFirst (Some c)) (sym is) same

none_first : (servers : List ℕ) → servers ≡ [] → GoesFirst None servers
none_first servers is = subst (GoesFirst None) (sym is) tt

creates_first : (f : MdsFile) (all : Creations) (xid : ℕ) (o : Option ℕ) (servers : List ℕ) → FoundFirst (λ (c : Creation). c.server) all.items o servers → GoesFirst (create_out f all xid o) servers
creates_first f all xid None servers found = none_first servers found
creates_first f all xid (Some place) servers (x, rest, there, is) =
    subst (λ (o : Option Creation). GoesFirst (create_out_at f all xid place o) servers) (sym there) (subst (GoesFirst (create_out_at f all xid place (Some x))) (sym is) refl)

sets_first : (f : MdsFile) (fence : FenceState) (xid : ℕ) (o : Option ℕ) (servers : List ℕ) → FoundFirst (λ (m : FenceMirror). m.id.server) fence.mirrors o servers → GoesFirst (fence_out f (call_from fence xid o)) servers
sets_first f fence xid None servers found = none_first servers found
sets_first f fence xid (Some place) servers (x, rest, there, is) =
    subst (λ (o : Option FenceMirror). GoesFirst (fence_out f (fence_call_at fence xid place o)) servers) (sym there) (subst (GoesFirst (fence_out f (fence_call_at fence xid place (Some x)))) (sym is) refl)

copies_first : (f : MdsFile) (c : CopyState) (xid : ℕ) (o : Option ℕ) → FoundFirst (λ (t : CopyTarget). t.server) c.targets o (map (λ (t : CopyTarget). t.server) (filter (λ (t : CopyTarget). waits t.stage) c.targets)) → GoesFirst (copy_out f (copy.call_from c xid o)) (servers_from c o)
copies_first f c xid None found = by_test (waits c.read && may_read_on c)
  where
    by_test : (b : Bool) → GoesFirst (copy_out f (cond {A = Option CopyCall} b (Some (record { copy = with_read c (Out xid 0); server = c.source.server; uid = 0; call = Read c.source.fileid c.at PIECE_SIZE })) None)) (cond b (c.source.server ∷ []) [])
    by_test true = refl
    by_test false = tt
copies_first f c xid (Some place) (x, rest, there, is) =
    subst (λ (o : Option CopyTarget). GoesFirst (copy_out f (target_call_at c xid place o)) (map (λ (t : CopyTarget). t.server) (filter (λ (t : CopyTarget). waits t.stage) c.targets))) (sym there) (subst (GoesFirst (copy_out f (target_call_at c xid place (Some x)))) (sym is) refl)

commit_first : (f : MdsFile) (xid : ℕ) (live : List Mirror) (b : Bool) → GoesFirst (cond b (settle_out f xid live) None) (cond b (first_server live) [])
commit_first f xid [] true = tt
commit_first f xid (m ∷ live) true = refl
commit_first f xid live false = tt

first_by : (f : MdsFile) (xid : ℕ) (a : Activity) → GoesFirst (call_out_of f xid a) (servers_by f.layout.live a)
first_by f xid Idle = tt
first_by f xid (Makes all) = creates_first f all xid (creation_waiting all) _ (first_of (λ (c : Creation). c.server) (λ (c : Creation). waits c.stage) all.items)
first_by f xid (Fences fence) = sets_first f fence xid (waiting_at fence) _ (first_of (λ (m : FenceMirror). m.id.server) (λ (m : FenceMirror). waits m.stage) fence.mirrors)
first_by f xid (Settles stage) = commit_first f xid f.layout.live (waits stage)
first_by f xid (Copies c) = copies_first f c xid (copy.waiting_at c) (first_of (λ (t : CopyTarget). t.server) (λ (t : CopyTarget). waits t.stage) c.targets)

pub first_goes : (f : MdsFile) (xid : ℕ) → GoesFirst (call_out f xid) (servers_waiting f)
first_goes f xid = first_by f xid f.activity
