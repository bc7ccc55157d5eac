-- What a call does to a server, seen from what was asked of it.
use Rattle.std.proofs.Common.{◌≡◌, ℕ, suc, ◌+◌, ◌-◌, ◌<◌, ◌≤◌, Bool, true, false, eqb, ltb, cond, List, [], ◌∷◌, ◌++◌, length, set, Option, Some, None, refl, sym, ap, subst, ◌∙◌, arith, ◌⊎◌, inl, inr, get_or}
use Rattle.std.specs.Prelude.{not, slice_get}
use Rattle.std.specs.List.{position_from}
use Rattle.std.specs.Str.{bytes_eq}
use Rattle.std.proofs.lemmas.Bool.{cases_eq, and_parts, cases_lt, eqb-true, cond_both, ltb-false}
use Rattle.std.proofs.lemmas.Option.{same_Some, slice_get_within, slice_get_past, slice_get_cases}
use Rattle.std.proofs.lemmas.Iterator.Adapters.{position_from-zero}
use Rattle.std.proofs.lemmas.Slice.Eq.{bytes_eq-Decides}
use Rattle.cluster_model.specs.declared.tick.Tick.{Tick}
use Rattle.cluster_model.specs.Ticks.{IsBefore, IsUpTo, next_tick}
use Rattle.cluster_model.specs.File.{StoredFile, FileOp, Writes, Commits, Sets, Restarts, file_after, clock_after, new_file}
use Rattle.cluster_model.specs.Server.{ServerState, Caller, Named, Nothing, Root, File, file_at, named, Refusal, Acces, Inval, NotSync as OutOfSync, Fbig, NoSpc, Jukebox, tick_refusal, read_refusal, write_refusal, commit_refusal, set_refusal, differs, index_of, Effect, NoEffect, OnFile, NewFile, with_file, on_file, server_after, entries_of}
use Rattle.cluster_model.specs.DsCalls.{DsCallValue, Create, SetAttr, Write, Commit, Read, DsReplyValue, Created, Set, DsPlan, refusal_reply, unless, owner_changes, ds_plan, ds_step, write_at, commit_at, set_at, read_at, bytes_reply, made_unless, created_by, created_before, mirror_name, shown_by, shown_after}
use Rattle.cluster_model.specs.ServerLaws.{Does}
use Rattle.cluster_model.specs.GuardLaws.{IsInOrder, WasAsked, MayCome, Came, Stayed, WasGiven, WasMade, target, Shows, CallLaws}
use Rattle.cluster_model.proofs.Moments.{keeps_times, up_to_same}
use Rattle.cluster_model.proofs.Elements.{slice_get-set_other, slice_get-set_same, slice_get-push, Pushed, Old, New, pushed}
use Rattle.cluster_model.proofs.Permitted.{permitted, stops}
use Rattle.cluster_model.proofs.GuardLemmas.{before_up, not_before_itself, Rises, effect_follows, effect_own, effect_of}
use Rattle.cluster_model.proofs.Runs.{turn_tells, told_turn}

-- ---- what a call may come to

-- the owner stays
abbrev pub LeavesOwner : FileOp → Type 0
LeavesOwner (Writes at synced bytes) = Unit {0}
LeavesOwner Commits = Unit {0}
LeavesOwner (Sets c) = ⊥
LeavesOwner (Restarts pieces) = Unit {0}

leaves_owner : (f : StoredFile) (clock : Tick) (op : FileOp) → LeavesOwner op → (file_after f clock op).owner ≡ f.owner
leaves_owner f clock (Writes at true bytes) h = refl
leaves_owner f clock (Writes at false bytes) h = refl
leaves_owner f clock Commits h = refl
leaves_owner f clock (Sets c) h = absurd h
leaves_owner f clock (Restarts pieces) h = refl

-- Nothing is done; or what leaves the owner of a file; or a file is given to the user that a SETATTR names, under a guard that is its
-- ctime; or a file is made.
pub data PlanIs (s : ServerState) (call : DsCallValue) (plan : DsPlan) : Type 0 where
  Only : plan.effect ≡ NoEffect → Shows s call plan.reply → PlanIs s call plan
  Keeps : (index : ℕ) (f : StoredFile) (op : FileOp) → slice_get s.files index ≡ Some f → LeavesOwner op → plan.effect ≡ OnFile index op
      → Shows (with_file s index (file_after f s.clock op) (clock_after s.clock op)) call plan.reply → PlanIs s call plan
  Gives : (index : ℕ) (f : StoredFile) (owner : ℕ) (guard : Tick) → slice_get s.files index ≡ Some f → call ≡ SetAttr (index + 2) owner guard → guard ≡ f.times.ctime
      → plan.effect ≡ OnFile index (Sets (owner_changes owner)) → plan.reply ≡ Set (shown_after s f (Sets (owner_changes owner))) → PlanIs s call plan
  Makes : (name owner : ℕ) → call ≡ Create name owner → plan.effect ≡ NewFile (mirror_name name) owner owner 416
      → plan.reply ≡ Created (length s.files + 2) (shown_by (new_file owner owner 416 (next_tick s.clock))) → PlanIs s call plan

-- ---- by what a fileid names

module _ (files : List StoredFile) (fileid : ℕ) (P : Named → Type 0) (nothing : P Nothing) (root : P Root) (file : (index : ℕ) (f : StoredFile) → fileid ≡ index + 2 → slice_get files index ≡ Some f → P (File index f)) where
  found_at : (index : ℕ) (found : Option StoredFile) → fileid ≡ index + 2 → slice_get files index ≡ found → P (file_at index found)
  found_at index None place e = nothing
  found_at index (Some f) place e = file index f place e

  pub by_fileid : P (named files fileid)
  by_fileid =
      cond_both (eqb fileid 1) Root (cond (ltb fileid 2) Nothing (file_at (fileid - 2) (slice_get files (fileid - 2)))) P (λ e. root) (λ e.
      cond_both (ltb fileid 2) Nothing (file_at (fileid - 2) (slice_get files (fileid - 2))) P (λ e2. nothing) (λ e2.
      let le = ltb-false _ _ e2 in
      found_at (fileid - 2) (slice_get files (fileid - 2)) (omega (arith, le)) refl))

-- ---- refusals

seen_file : (s : ServerState) (o : IsInOrder s) (index : ℕ) (f : StoredFile) → slice_get s.files index ≡ Some f → IsUpTo f.times.ctime s.clock
seen_file s o index f there = (o.files index f there).shown

refused_shows : (s : ServerState) (o : IsInOrder s) (call : DsCallValue) (index : ℕ) (f : StoredFile) (refusal : Refusal) → target call ≡ index + 2 → slice_get s.files index ≡ Some f → Shows s call (refusal_reply refusal (shown_by f))
refused_shows s o call index f OutOfSync place there = record { index = index; place = place; file = f; there = there; owner = refl; seen = seen_file s o index f there }
refused_shows s o call index f Acces place there = seen_file s o index f there
refused_shows s o call index f Inval place there = seen_file s o index f there
refused_shows s o call index f Fbig place there = seen_file s o index f there
refused_shows s o call index f NoSpc place there = seen_file s o index f there
refused_shows s o call index f Jukebox place there = seen_file s o index f there

-- ---- WRITE, COMMIT, READ

keeping : (s : ServerState) (o : IsInOrder s) (call : DsCallValue) (index : ℕ) (f : StoredFile) (op : FileOp) (refusal : Option Refusal) (reply : DsReplyValue) → target call ≡ index + 2 → slice_get s.files index ≡ Some f → LeavesOwner op
    → (IsUpTo (file_after f s.clock op).times.ctime (clock_after s.clock op) → Shows (with_file s index (file_after f s.clock op) (clock_after s.clock op)) call reply) → PlanIs s call (unless f refusal reply (OnFile index op))
keeping s o call index f op (Some refusal) reply place there leaves shows = Only refl (refused_shows s o call index f refusal place there)
keeping s o call index f op None reply place there leaves shows = Keeps index f op there leaves refl (shows (keeps_times f s.clock op (o.files index f there)).clocked.shown)

asking : (s : ServerState) (o : IsInOrder s) (call : DsCallValue) (index : ℕ) (f : StoredFile) (refusal : Option Refusal) (at : ℕ) (bytes : List ℕ) → target call ≡ index + 2 → slice_get s.files index ≡ Some f → PlanIs s call (unless f refusal (bytes_reply f at bytes) NoEffect)
asking s o call index f (Some refusal) at bytes place there = Only refl (refused_shows s o call index f refusal place there)
asking s o call index f None at bytes place there = Only refl (seen_file s o index f there)

-- ---- SETATTR

same_tick : (guard ctime : Tick) → differs (Some guard) ctime ≡ false → guard ≡ ctime
same_tick guard ctime e =
    let parts = and_parts (eqb guard.boot ctime.boot) (eqb guard.count ctime.count) (not_not _ e) in
    let boot = eqb-true _ _ parts.0 in
    let count = eqb-true _ _ parts.1 in
    let make : ℕ → ℕ → Tick = λ b n. record { boot = b; count = n } in
    ap (λ b. make b guard.count) boot ∙ ap (λ n. make ctime.boot n) count
  where
    not_not : (b : Bool) → not b ≡ false → b ≡ true
    not_not true h = refl
    not_not false h = absurd cc

guard_met : (s : ServerState) (f : StoredFile) (caller : Caller) (guard : Tick) → set_refusal s f caller true (Some guard) ≡ None → guard ≡ f.times.ctime
guard_met s f caller guard e =
    let access = stops (not (eqb caller.uid 0)) Acces _ e in
    let good = stops (not true) Inval _ access.1 in
    same_tick guard f.times.ctime (stops (differs (Some guard) f.times.ctime) OutOfSync _ good.1).0

giving : (s : ServerState) (o : IsInOrder s) (fileid owner : ℕ) (guard : Tick) (index : ℕ) (f : StoredFile) (refusal : Option Refusal) → fileid ≡ index + 2 → slice_get s.files index ≡ Some f → (refusal ≡ None → guard ≡ f.times.ctime)
    → PlanIs s (SetAttr fileid owner guard) (unless f refusal (Set (shown_after s f (Sets (owner_changes owner)))) (OnFile index (Sets (owner_changes owner))))
giving s o fileid owner guard index f (Some refusal) place there met = Only refl (refused_shows s o (SetAttr fileid owner guard) index f refusal place there)
giving s o fileid owner guard index f None place there met = Gives index f owner guard there (ap (λ (n : ℕ). SetAttr n owner guard) place) (met refl) refl refl

-- ---- CREATE

search_found : (name : List ℕ) (k : ℕ) (names : List (List ℕ)) (i : ℕ) → position_from (bytes_eq name) k names ≡ Some i → (j : ℕ) × (i ≡ k + j) × (slice_get names j ≡ Some name)
search_found name k [] i e = absurd cc
search_found name k (x ∷ names) i e = by_test (bytes_eq name x) refl e (search_found name (k + 1) names i)
  where
    by_test : (b : Bool) → bytes_eq name x ≡ b → cond b (Some k) (position_from (bytes_eq name) (k + 1) names) ≡ Some i
        → (position_from (bytes_eq name) (k + 1) names ≡ Some i → (j : ℕ) × (i ≡ k + 1 + j) × (slice_get names j ≡ Some name)) → (j : ℕ) × (i ≡ k + j) × (slice_get (x ∷ names) j ≡ Some name)
    by_test true is f more = let at : k ≡ i = same_Some k i f in (0, omega (arith, at), ap Some (sym ((bytes_eq-Decides name x).0 is)))
    by_test false is f more =
        let rest = more f in
        let at = rest.1 in
        (suc rest.0, omega (arith, at), rest.2)

name_found : (names : List (List ℕ)) (name : List ℕ) (i : ℕ) → index_of names name ≡ Some i → slice_get names i ≡ Some name
name_found names name i e =
    let found = search_found name 0 names i (sym (position_from-zero (bytes_eq name) names) ∙ e) in
    let same : found.0 ≡ i = omega (arith, found.1) in
    rw (← same) found.2

creating : (s : ServerState) (o : IsInOrder s) (name owner : ℕ) (index : ℕ) (found : Option StoredFile) → slice_get s.names index ≡ Some (mirror_name name) → slice_get s.files index ≡ found → PlanIs s (Create name owner) (created_before index found)
creating s o name owner index None bears there = Only refl tt
creating s o name owner index (Some f) bears there =
    Only refl (record { name = name; owner = owner; asked = refl; at = record { index = index; place = refl; file = f; there = there; owner = refl; seen = seen_file s o index f there }; named = bears })

making : (s : ServerState) (name owner : ℕ) (refusal : Option Refusal) → PlanIs s (Create name owner) (made_unless s (mirror_name name) owner refusal)
making s name owner (Some refusal) = Only refl tt
making s name owner None = Makes name owner refl refl refl

by_name : (s : ServerState) (o : IsInOrder s) (name owner : ℕ) (found : Option ℕ) → index_of s.names (mirror_name name) ≡ found → PlanIs s (Create name owner) (created_by s (mirror_name name) owner found)
by_name s o name owner (Some index) e = creating s o name owner index (slice_get s.files index) (name_found s.names (mirror_name name) index e) refl
by_name s o name owner None e = making s name owner (tick_refusal s.clock)

-- ---- any call

pub plan_is : (s : ServerState) (caller : Caller) (call : DsCallValue) → IsInOrder s → PlanIs s call (ds_plan s caller call)
plan_is s caller (Create name owner) o =
    cond_both (not (eqb caller.uid 0)) _ (created_by s (mirror_name name) owner (index_of s.names (mirror_name name))) (λ (p : DsPlan). PlanIs s (Create name owner) p) (λ e. Only refl tt) (λ e. by_name s o name owner (index_of s.names (mirror_name name)) refl)
plan_is s caller (SetAttr fileid owner guard) o =
    by_fileid s.files fileid (λ (n : Named). PlanIs s (SetAttr fileid owner guard) (set_at s caller owner guard n)) (Only refl tt) (Only refl o.root)
    (λ index f place there. giving s o fileid owner guard index f (set_refusal s f caller true (Some guard)) place there (guard_met s f caller guard))
plan_is s caller (Write fileid at synced bytes) o =
    by_fileid s.files fileid (λ (n : Named). PlanIs s (Write fileid at synced bytes) (write_at s caller at synced bytes n)) (Only refl tt) (Only refl o.root)
    (λ index f place there. keeping s o (Write fileid at synced bytes) index f (Writes at synced bytes) (write_refusal s index f caller true at bytes) _ place there tt (λ seen. seen))
plan_is s caller (Commit fileid) o =
    by_fileid s.files fileid (λ (n : Named). PlanIs s (Commit fileid) (commit_at s caller n)) (Only refl tt) (Only refl o.root)
    (λ index f place there. keeping s o (Commit fileid) index f Commits (commit_refusal f caller) _ place there tt (λ seen. seen))
plan_is s caller (Read fileid at count) o =
    by_fileid s.files fileid (λ (n : Named). PlanIs s (Read fileid at count) (read_at s caller at count n)) (Only refl tt) (Only refl o.root)
    (λ index f place there. asking s o (Read fileid at count) index f (read_refusal f caller) at _ place there)

-- ---- what holds of it

record Facts (s : ServerState) (call : DsCallValue) (effect : Effect) (reply : DsReplyValue) : Type 0 where
  rises : MayCome s call → Rises s effect
  came : (index : ℕ) (file : StoredFile) → slice_get (server_after s effect).files index ≡ Some file → Came s call (server_after s effect) index file
  shows : Shows (server_after s effect) call reply

facts_only : (s : ServerState) (call : DsCallValue) (reply : DsReplyValue) → Shows s call reply → Facts s call NoEffect reply
facts_only s call reply shows = record { rises = λ may. tt; came = λ index file there. Stayed file there refl refl; shows = shows }

-- of a file that was changed, and of the others
came_by : (s : ServerState) (call : DsCallValue) (index : ℕ) (f file : StoredFile) (clock : Tick) → slice_get s.files index ≡ Some f → Came s call (with_file s index file clock) index file
    → (i : ℕ) (g : StoredFile) → slice_get (set s.files index file) i ≡ Some g → Came s call (with_file s index file clock) i g
came_by s call index f file clock there here i g is =
    elim (cases_eq i index) [
      | inl same ↦
          let g_is : file ≡ g = same_Some file g (sym (slice_get-set_same s.files index f file there) ∙ sym (ap (slice_get (set s.files index file)) same) ∙ is) in
          rw (← g_is, same) here
      | inr other ↦ Stayed g (sym (slice_get-set_other s.files index i file other) ∙ is) refl refl
    ]

facts_file : (s : ServerState) (call : DsCallValue) (index : ℕ) (op : FileOp) (f : StoredFile) (reply : DsReplyValue) → slice_get s.files index ≡ Some f → (MayCome s call → f.owner ≤ (file_after f s.clock op).owner)
    → Came s call (with_file s index (file_after f s.clock op) (clock_after s.clock op)) index (file_after f s.clock op)
    → Shows (with_file s index (file_after f s.clock op) (clock_after s.clock op)) call reply → Facts s call (OnFile index op) reply
facts_file s call index op f reply there rises came shows = record {
  rises = λ may g is. subst (λ (x : StoredFile). x.owner ≤ (file_after x s.clock op).owner) (same_Some f g (sym there ∙ is)) (rises may);
  came = subst (λ (found : Option StoredFile). (i : ℕ) (g : StoredFile) → slice_get (on_file s index op found).files i ≡ Some g → Came s call (on_file s index op found) i g) (sym there)
      (came_by s call index f (file_after f s.clock op) (clock_after s.clock op) there came);
  shows = subst (λ (found : Option StoredFile). Shows (on_file s index op found) call reply) (sym there) shows;
}

at_place : (a b : ℕ) → a + 2 ≡ b + 2 → a ≡ b
at_place a b e = omega (arith, e)

-- a SETATTR that was asked never gives a file to an earlier user
not_earlier : (s : ServerState) (o : IsInOrder s) (index : ℕ) (f : StoredFile) (owner : ℕ) (guard : Tick) → slice_get s.files index ≡ Some f → guard ≡ f.times.ctime → WasAsked s (index + 2) owner guard → f.owner ≤ owner
not_earlier s o index f owner guard there met a =
    let file_is : a.file ≡ f = same_Some a.file f (sym a.there ∙ ap (slice_get s.files) (sym (at_place index a.index a.place)) ∙ there) in
    elim (cases_lt owner f.owner) [
      | inl less ↦
          let shut : IsBefore guard f.stable_times.ctime = subst (λ (x : StoredFile). owner < x.owner → IsBefore guard x.stable_times.ctime) file_is a.shut less in
          let before : IsBefore guard f.times.ctime = before_up guard f.stable_times.ctime f.times.ctime shut (o.files index f there).stable in
          absurd (not_before_itself f.times.ctime (subst (λ (t : Tick). IsBefore t f.times.ctime) met before))
      | inr up ↦ up
    ]

facts_gives : (s : ServerState) (o : IsInOrder s) (index : ℕ) (f : StoredFile) (owner : ℕ) (guard : Tick) → slice_get s.files index ≡ Some f → guard ≡ f.times.ctime
    → Facts s (SetAttr (index + 2) owner guard) (OnFile index (Sets (owner_changes owner))) (Set (shown_after s f (Sets (owner_changes owner))))
facts_gives s o index f owner guard there met =
    let op : FileOp = Sets (owner_changes owner) in
    let file = file_after f s.clock op in
    facts_file s (SetAttr (index + 2) owner guard) index op f _ there (λ may. not_earlier s o index f owner guard there met may) (WasGiven f guard there refl refl)
    (record { fileid = index + 2; uid = owner; guard = guard; asked = refl; index = index; place = refl; file = file; there = slice_get-set_same s.files index f file there; owner = refl }, up_to_same (next_tick s.clock))

facts_makes : (s : ServerState) (o : IsInOrder s) (name owner : ℕ) → Facts s (Create name owner) (NewFile (mirror_name name) owner owner 416) (Created (length s.files + 2) (shown_by (new_file owner owner 416 (next_tick s.clock))))
facts_makes s o name owner =
    let file = new_file owner owner 416 (next_tick s.clock) in
    record {
      rises = λ may. tt;
      came = λ index g is. by_place index g (pushed s.files file index g is);
      shows = record {
        name = name;
        owner = owner;
        asked = refl;
        at = record { index = length s.files; place = refl; file = file; there = last s.files file; owner = refl; seen = up_to_same (next_tick s.clock) };
        named = ap (slice_get (s.names ++ mirror_name name ∷ [])) (sym o.names) ∙ last s.names (mirror_name name);
      };
    }
  where
    last : {X : Type 0} (xs : List X) (x : X) → slice_get (xs ++ x ∷ []) (length xs) ≡ Some x
    last [] x = refl
    last (y ∷ xs) x = last xs x

    same_name : (i : ℕ) → ((x : List ℕ) × (i < length s.names) × (slice_get s.names i ≡ Some x) × (get_or s.names i x ≡ x)) ⊎ ((length s.names ≤ i) × (slice_get s.names i ≡ None)) → i < length s.names
        → slice_get (s.names ++ mirror_name name ∷ []) i ≡ slice_get s.names i
    same_name i (inl there) less = slice_get-push s.names i there.0 (mirror_name name) there.2 ∙ sym there.2
    same_name i (inr past) less = absurd (let le = past.0 in omega (arith, le, less))

    by_place : (index : ℕ) (g : StoredFile) → Pushed s.files (new_file owner owner 416 (next_tick s.clock)) index g
        → Came s (Create name owner) (server_after s (NewFile (mirror_name name) owner owner 416)) index g
    by_place index g (Old old) =
        let within = slice_get_within s.files index g old in
        Stayed g old refl (same_name index (slice_get_cases s.names index).1 (omega (arith, within, o.names)))
    by_place index g (New at is) =
        let names : slice_get (s.names ++ mirror_name name ∷ []) index ≡ Some (mirror_name name) = ap (slice_get (s.names ++ mirror_name name ∷ [])) (at ∙ sym o.names) ∙ last s.names (mirror_name name) in
        WasMade name (ap (λ (x : StoredFile). Create name x.owner) (sym is)) names (slice_get_past s.files index (omega (arith, at)))

facts_of : (s : ServerState) (call : DsCallValue) (plan : DsPlan) → IsInOrder s → PlanIs s call plan → Facts s call plan.effect plan.reply
facts_of s call plan o (Only e shows) = subst (λ (x : Effect). Facts s call x plan.reply) (sym e) (facts_only s call plan.reply shows)
facts_of s call plan o (Keeps index f op there leaves e shows) =
    let same = leaves_owner f s.clock op leaves in
    let clock : Tick = clock_after s.clock op in
    subst (λ (x : Effect). Facts s call x plan.reply) (sym e)
    (facts_file s call index op f plan.reply there (λ may. omega (arith, same)) (Stayed f there same refl) shows)
facts_of s call plan o (Gives index f owner guard there c met e r) =
    subst (λ (x : Effect). Facts s call x plan.reply) (sym e)
    (subst (λ (x : DsReplyValue). Facts s call (OnFile index (Sets (owner_changes owner))) x) (sym r)
    (subst (λ (x : DsCallValue). Facts s x (OnFile index (Sets (owner_changes owner))) (Set (shown_after s f (Sets (owner_changes owner))))) (sym c) (facts_gives s o index f owner guard there met)))
facts_of s call plan o (Makes name owner c e r) =
    subst (λ (x : Effect). Facts s call x plan.reply) (sym e)
    (subst (λ (x : DsReplyValue). Facts s call (NewFile (mirror_name name) owner owner 416) x) (sym r)
    (subst (λ (x : DsCallValue). Facts s x (NewFile (mirror_name name) owner owner 416) (Created (length s.files + 2) (shown_by (new_file owner owner 416 (next_tick s.clock))))) (sym c) (facts_makes s o name owner)))

pub call_laws : (s : ServerState) (caller : Caller) (call : DsCallValue) → IsInOrder s → CallLaws s caller call (ds_step s caller call).server (ds_step s caller call).reply (ds_step s caller call).entries
call_laws s caller call o =
    let plan = ds_plan s caller call in
    let facts = facts_of s call plan o (plan_is s caller call o) in
    let may = permitted s caller call in
    record {
      follows = λ came. effect_follows s caller plan.effect may o (facts.rises came);
      came = facts.came;
      shows = facts.shows;
      owners = effect_own s caller plan.effect may;
      of_server = effect_of s caller.uid plan.effect;
      told = λ journal t. told_turn s (server_after s plan.effect) journal (entries_of s caller.uid plan.effect) t (turn_tells s (Does caller plan.effect) may);
    }
