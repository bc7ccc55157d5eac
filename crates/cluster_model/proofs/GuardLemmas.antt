-- What is done to a server keeps what was asked of it shut out.
use Rattle.std.proofs.Common.{◌≡◌, ◌≢◌, ℕ, ◌+◌, ◌<◌, ◌≤◌, Bool, true, false, eqb, cond, List, [], ◌∷◌, set, Option, Some, None, refl, sym, ap, subst, ◌∙◌, arith, ◌⊎◌, inl, inr, unwrap_or}
use Rattle.std.specs.Prelude.{◌&&◌, slice_get}
use Rattle.std.specs.List.{AllByRecursion}
use Rattle.std.proofs.lemmas.Bool.{cases_eq, or_cases, and_parts, eqb-true, eqb-false}
use Rattle.std.proofs.lemmas.List.{length-set, length-append}
use Rattle.std.proofs.lemmas.Option.{same_Some}
use Rattle.cluster_model.specs.declared.tick.Tick.{Tick}
use Rattle.cluster_model.specs.declared.piece.Piece.{Piece}
use Rattle.cluster_model.specs.Ticks.{IsBefore, IsUpTo, next_tick, rebooted}
use Rattle.cluster_model.specs.File.{StoredFile, FileOp, Writes, Commits, Sets, Restarts, file_after, clock_after, new_file, restarted}
use Rattle.cluster_model.specs.Content.{pieces_of}
use Rattle.cluster_model.specs.Laws.{IsClocked}
use Rattle.cluster_model.specs.Server.{ServerState, Caller, may_write, allows, mirror_of, Effect, NoEffect, OnFile, NewFile, with_file, on_file, server_after, op_entries, entries_of, committed_entries, server_restarted, restart_of, max_boot}
use Rattle.cluster_model.specs.ServerLaws.{MayDo, IsPermitted, AreClocked}
use Rattle.cluster_model.specs.declared.entry.Entry.TheVariants.{Restarted}
use Rattle.cluster_model.specs.declared.ids.MirrorId.{MirrorId}
use Rattle.cluster_model.specs.ServerLaws.{StartsAgain}
use Rattle.cluster_model.specs.GuardLaws.{IsInOrder, WasAsked, Follows, IsByOwner, IsOfServer, RestartLaws}
use Rattle.cluster_model.proofs.Moments.{keeps_times, up_to_up_to, up_to_same, before_up_to, next_before, passes}
use Rattle.cluster_model.proofs.Elements.{slice_get-set_other, slice_get-set_same, slice_get-push}
use Rattle.cluster_model.proofs.Servers.{clocked}
use Rattle.cluster_model.proofs.ServerRestarts.{at_index, from_index, same_count, restarted_law, some_is}
use Rattle.cluster_model.proofs.Runs.{turn_tells, told_turn}

-- ---- moments

pub before_up : (a b c : Tick) → IsBefore a b → IsUpTo b c → IsBefore a c
before_up a b c (inl h) (inl k) = inl (omega (arith, h, k))
before_up a b c (inl h) (inr k) = inl (omega (arith, h, k.0))
before_up a b c (inr h) (inl k) = inl (omega (arith, h.0, k))
before_up a b c (inr h) (inr k) = inr (omega (arith, h.0, k.0), omega (arith, h.1, k.1))

pub not_before_itself : (a : Tick) → IsBefore a a → ⊥
not_before_itself a (inl h) = absurd (omega (arith, h))
not_before_itself a (inr h) = absurd (omega (arith, h.1))

-- ---- one file

-- the owner after an operation
abbrev owner_after : ℕ → FileOp → ℕ
owner_after owner (Writes at synced bytes) = owner
owner_after owner Commits = owner
owner_after owner (Sets c) = unwrap_or c.owner owner
owner_after owner (Restarts pieces) = owner

owner_is : (f : StoredFile) (clock : Tick) (op : FileOp) → (file_after f clock op).owner ≡ owner_after f.owner op
owner_is f clock (Writes at true bytes) = refl
owner_is f clock (Writes at false bytes) = refl
owner_is f clock Commits = refl
owner_is f clock (Sets c) = refl
owner_is f clock (Restarts pieces) = refl

-- A file stays shut out to a guard that was given: what leaves its owner leaves its stable ctime no lower, and what gives it away leaves a
-- stable ctime above every tick that was given.
pub shut_by : (f : StoredFile) (clock : Tick) (op : FileOp) (uid : ℕ) (guard : Tick) → IsClocked f clock → IsUpTo guard clock → (uid < f.owner → IsBefore guard f.stable_times.ctime) → uid < (file_after f clock op).owner → IsBefore guard (file_after f clock op).stable_times.ctime
shut_by f clock (Writes at true bytes) uid guard k given shut less = before_up guard f.stable_times.ctime _ (shut less) (keeps_times f clock (Writes at true bytes) k).rises
shut_by f clock (Writes at false bytes) uid guard k given shut less = before_up guard f.stable_times.ctime _ (shut less) (keeps_times f clock (Writes at false bytes) k).rises
shut_by f clock Commits uid guard k given shut less = before_up guard f.stable_times.ctime _ (shut less) (keeps_times f clock Commits k).rises
shut_by f clock (Sets c) uid guard k given shut less = passes f clock c guard given
shut_by f clock (Restarts pieces) uid guard k given shut less = before_up guard f.stable_times.ctime _ (shut less) (keeps_times f clock (Restarts pieces) k).rises

-- ---- a server

pub clock_up : (clock : Tick) (op : FileOp) (f : StoredFile) → IsClocked f clock → IsUpTo clock (clock_after clock op)
clock_up clock op f k = (keeps_times f clock op k).ticks

asked_here : (s : ServerState) (index : ℕ) (f : StoredFile) (op : FileOp) → slice_get s.files index ≡ Some f → IsInOrder s
    → (fileid uid : ℕ) (guard : Tick) → WasAsked s fileid uid guard → WasAsked (with_file s index (file_after f s.clock op) (clock_after s.clock op)) fileid uid guard
asked_here s index f op there o fileid uid guard a =
    let file = file_after f s.clock op in
    let k = o.files index f there in
    let up = clock_up s.clock op f k in
    elim (cases_eq a.index index) [
      | inl same ↦
          let g_is : a.file ≡ f = same_Some a.file f (sym a.there ∙ ap (slice_get s.files) same ∙ there) in
          record {
            index = a.index;
            place = a.place;
            file = file;
            there = ap (slice_get (set s.files index file)) same ∙ slice_get-set_same s.files index f file there;
            given = up_to_up_to guard s.clock _ a.given up;
            shut = shut_by f s.clock op uid guard k a.given (subst (λ (x : StoredFile). uid < x.owner → IsBefore guard x.stable_times.ctime) g_is a.shut);
          }
      | inr other ↦ record {
        index = a.index;
        place = a.place;
        file = a.file;
        there = slice_get-set_other s.files index a.index file other ∙ a.there;
        given = up_to_up_to guard s.clock _ a.given up;
        shut = a.shut;
      }
    ]

owners_here : (s : ServerState) (index : ℕ) (f : StoredFile) (op : FileOp) → slice_get s.files index ≡ Some f → f.owner ≤ (file_after f s.clock op).owner
    → (i : ℕ) (g : StoredFile) → slice_get s.files i ≡ Some g → (later : StoredFile) × (slice_get (set s.files index (file_after f s.clock op)) i ≡ Some later) × (g.owner ≤ later.owner)
owners_here s index f op there up i g old =
    let file = file_after f s.clock op in
    elim (cases_eq i index) [
      | inl same ↦
          let g_is : f ≡ g = same_Some f g (sym there ∙ sym (ap (slice_get s.files) same) ∙ old) in
          (file, ap (slice_get (set s.files index file)) same ∙ slice_get-set_same s.files index f file there, subst (λ (x : StoredFile). x.owner ≤ file.owner) g_is up)
      | inr other ↦ (g, slice_get-set_other s.files index i file other ∙ old, omega arith)
    ]

pub root_up : (s : ServerState) (clock : Tick) → IsInOrder s → IsUpTo s.clock clock → IsUpTo s.root.ctime clock
root_up s clock o up = up_to_up_to s.root.ctime s.clock clock o.root up

file_follows : (s : ServerState) (caller : Caller) (index : ℕ) (op : FileOp) (f : StoredFile) → slice_get s.files index ≡ Some f → MayDo s.clock f caller op → IsInOrder s → f.owner ≤ (file_after f s.clock op).owner
    → Follows s (with_file s index (file_after f s.clock op) (clock_after s.clock op))
file_follows s caller index op f there may o up =
    let file = file_after f s.clock op in
    let rises = clock_up s.clock op f (o.files index f there) in
    let after : AreClocked (server_after s (OnFile index op)) = clocked s caller (OnFile index op) (f, there, may) o.files in
    record {
      number = refl;
      clock = rises;
      in_order = record {
        files = subst (λ (x : Option StoredFile). AreClocked (on_file s index op x)) there after;
        root = root_up s (clock_after s.clock op) o rises;
        names = o.names ∙ sym (length-set s.files index file);
      };
      names = λ i name is. is;
      owners = owners_here s index f op there up;
      asked = asked_here s index f op there o;
    }

pub follows_itself : (s : ServerState) → IsInOrder s → Follows s s
follows_itself s o = record {
  number = refl;
  clock = up_to_same s.clock;
  in_order = o;
  names = λ i name is. is;
  owners = λ i f there. (f, there, omega arith);
  asked = λ fileid uid guard a. a;
}

new_follows : (s : ServerState) (caller : Caller) (name : List ℕ) (owner group mode : ℕ) → IsPermitted s caller (NewFile name owner group mode) → IsInOrder s → Follows s (server_after s (NewFile name owner group mode))
new_follows s caller name owner group mode may o =
    let next = next_tick s.clock in
    let file = new_file owner group mode next in
    let rises : IsUpTo s.clock next = before_up_to s.clock next (next_before s.clock) in
    record {
      number = refl;
      clock = rises;
      in_order = record {
        files = clocked s caller (NewFile name owner group mode) may o.files;
        root = up_to_same next;
        names = length-append s.names (name ∷ []) ∙ ap (λ n. n + 1) o.names ∙ sym (length-append s.files (file ∷ []));
      };
      names = λ i old is. slice_get-push s.names i old name is;
      owners = λ i f there. (f, slice_get-push s.files i f file there, omega arith);
      asked = λ fileid uid guard a. record { index = a.index; place = a.place; file = a.file; there = slice_get-push s.files a.index a.file file a.there; given = up_to_up_to guard s.clock next a.given rises; shut = a.shut };
    }

-- no owner falls by it
abbrev pub Rises : ServerState → Effect → Type 0
Rises s NoEffect = Unit {0}
Rises s (OnFile index op) = (f : StoredFile) → slice_get s.files index ≡ Some f → f.owner ≤ (file_after f s.clock op).owner
Rises s (NewFile name owner group mode) = Unit {0}

pub effect_follows : (s : ServerState) (caller : Caller) (effect : Effect) → IsPermitted s caller effect → IsInOrder s → Rises s effect → Follows s (server_after s effect)
effect_follows s caller NoEffect may o up = follows_itself s o
effect_follows s caller (OnFile index op) may o up = rw may.1 (file_follows s caller index op may.0 may.1 may.2 o (up may.0 may.1))
effect_follows s caller (NewFile name owner group mode) may o up = new_follows s caller name owner group mode may o

-- ---- who writes

may_own : (f : StoredFile) (caller : Caller) → may_write f caller ≡ true → (caller.uid ≡ 0) ⊎ (caller.uid ≡ f.owner)
may_own f caller may =
    elim (or_cases (eqb caller.uid 0) (eqb caller.uid f.owner && allows f.mode 128) may) [
      | inl root ↦ inl (eqb-true _ _ root)
      | inr owner ↦ inr (eqb-true _ _ (and_parts _ _ owner).0)
    ]

committed_own : (s : ServerState) (caller : Caller) (index : ℕ) (synced : Bool) → AllByRecursion (IsByOwner s caller) (committed_entries (mirror_of s index) synced)
committed_own s caller index true = (tt, tt)
committed_own s caller index false = tt

op_own : (s : ServerState) (caller : Caller) (index : ℕ) (f : StoredFile) (op : FileOp) → slice_get s.files index ≡ Some f → MayDo s.clock f caller op → AllByRecursion (IsByOwner s caller) (op_entries (mirror_of s index) caller.uid op)
op_own s caller index f (Writes at synced []) there may = committed_own s caller index synced
op_own s caller index f (Writes at synced (b ∷ bytes)) there may = (record { index = index; is = refl; file = f; there = there; uid = refl; owner = may_own f caller may.0 }, committed_own s caller index synced)
op_own s caller index f Commits there may = (tt, tt)
op_own s caller index f (Sets c) there may = named c.owner
  where
    named : (owner : Option ℕ) → AllByRecursion (IsByOwner s caller) (op_entries (mirror_of s index) caller.uid (Sets (record c { owner = owner })))
    named None = tt
    named (Some uid) = (tt, tt)
op_own s caller index f (Restarts pieces) there may = absurd may

pub effect_own : (s : ServerState) (caller : Caller) (effect : Effect) → IsPermitted s caller effect → AllByRecursion (IsByOwner s caller) (entries_of s caller.uid effect)
effect_own s caller NoEffect may = tt
effect_own s caller (OnFile index op) may = op_own s caller index may.0 op may.1 may.2
effect_own s caller (NewFile name owner group mode) may = (tt, tt)

-- ---- a restart

restart_up : (s : ServerState) → IsUpTo s.clock (rebooted s.clock)
restart_up s = inl (omega arith)

restarted_follows : (s : ServerState) (pieces : List Piece) → IsInOrder s → Follows s (server_restarted s pieces)
restarted_follows s pieces o = record {
  number = refl;
  clock = restart_up s;
  in_order = record {
    files = (restarted_law s pieces).clocked o.files;
    root = root_up s (rebooted s.clock) o (restart_up s);
    names = o.names ∙ sym (same_count 2 s.files pieces);
  };
  names = λ i name is. is;
  owners = λ i f there. (restarted f (pieces_of (i + 2) pieces), at_index 2 s.files pieces i f there, omega arith);
  asked = λ fileid uid guard a. record {
    index = a.index;
    place = a.place;
    file = restarted a.file (pieces_of (a.index + 2) pieces);
    there = at_index 2 s.files pieces a.index a.file a.there;
    given = up_to_up_to guard s.clock (rebooted s.clock) a.given (restart_up s);
    shut = a.shut;
  };
}

restarted_laws : (s : ServerState) (pieces : List Piece) → s.clock.boot ≢ max_boot → IsInOrder s → RestartLaws s pieces (server_restarted s pieces)
restarted_laws s pieces left o = record {
  follows = restarted_follows s pieces o;
  owners = λ i g there.
      let old = from_index 2 s.files pieces i g there in
      let same = same_Some _ g (sym (at_index 2 s.files pieces i old.0 old.1) ∙ there) in
      (old.0, old.1, ap (λ (x : StoredFile). x.owner) (sym same));
  names = refl;
  told = λ journal t. told_turn s (server_restarted s pieces) journal (Restarted s.number pieces ∷ []) t (turn_tells s (StartsAgain pieces) left);
}

boot_left : (b : Bool) (x y : ServerState) → cond b None (Some x) ≡ Some y → b ≡ false
boot_left true x y e = absurd cc
boot_left false x y e = refl

pub restart_laws : (s : ServerState) (pieces : List Piece) (new : ServerState) → restart_of s pieces ≡ Some new → IsInOrder s → RestartLaws s pieces new
restart_laws s pieces new e o =
    subst (λ (x : ServerState). RestartLaws s pieces x) (some_is (eqb s.clock.boot max_boot) (server_restarted s pieces) new e)
    (restarted_laws s pieces (eqb-false _ _ (boot_left (eqb s.clock.boot max_boot) (server_restarted s pieces) new e)) o)

-- ---- whose entries they are

committed_of : (m : MirrorId) (synced : Bool) → AllByRecursion (IsOfServer m.server) (committed_entries m synced)
committed_of m true = (refl, tt)
committed_of m false = tt

op_of : (m : MirrorId) (uid : ℕ) (op : FileOp) → AllByRecursion (IsOfServer m.server) (op_entries m uid op)
op_of m uid (Writes at synced []) = committed_of m synced
op_of m uid (Writes at synced (b ∷ bytes)) = (refl, committed_of m synced)
op_of m uid Commits = (refl, tt)
op_of m uid (Sets c) = named c.owner
  where
    named : (owner : Option ℕ) → AllByRecursion (IsOfServer m.server) (op_entries m uid (Sets (record c { owner = owner })))
    named None = tt
    named (Some owner) = (refl, tt)
op_of m uid (Restarts pieces) = tt

pub effect_of : (s : ServerState) (uid : ℕ) (effect : Effect) → AllByRecursion (IsOfServer s.number) (entries_of s uid effect)
effect_of s uid NoEffect = tt
effect_of s uid (OnFile index op) = op_of (mirror_of s index) uid op
effect_of s uid (NewFile name owner group mode) = (refl, tt)
