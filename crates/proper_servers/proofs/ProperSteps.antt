-- A new server is proper, and stays so over calls and restarts.
use Rattle.std.proofs.Common.{◌≡◌, ℕ, ◌+◌, ◌^◌, ◌<◌, ◌≤◌, Bool, true, false, eqb, ltb, cond, List, [], ◌∷◌, length, Option, Some, None, refl, sym, ap, subst, ◌∙◌, arith, ◌*◌, ◌⊎◌, inl, inr}
use Rattle.std.specs.Prelude.{not, slice_get}
use Rattle.std.specs.List.{AllByRecursion}
use Rattle.std.proofs.lemmas.Bool.{cond_both, eqb-false, ltb-false}
use Rattle.std.proofs.lemmas.List.{length-append, length-set}
use Rattle.cluster_model.specs.declared.limits.TheConstants.{FILE_MODE}
use Rattle.cluster_model.specs.declared.piece.Piece.{Piece}
use Rattle.cluster_model.specs.Content.{pieces_of}
use Rattle.cluster_model.specs.File.{StoredFile, new_file, file_after}
use Rattle.cluster_model.specs.Ticks.{next_tick}
use Rattle.cluster_model.specs.Server.{ServerState, Named, Caller, Refusal, Acces, Inval, Fbig, max_boot, max_file, max_ticks, may_write, tick_refusal, index_of, write_refusal, set_refusal, commit_refusal, read_refusal, Effect, NoEffect, OnFile, NewFile, on_file, server_after, new_server, files_restarted, server_restarted, restart_of}
use Rattle.cluster_model.specs.ServerLaws.{IsPermitted, IsTimed}
use Rattle.cluster_model.specs.DsCalls.{DsCallValue, Create, SetAttr, Write, Commit, Read, DsReplyValue, DsPlan, unless, write_at, commit_at, set_at, read_at, mirror_name, created_before, made_unless, created_by, ds_plan, ds_step}
use Rattle.cluster_model.proofs.Permitted.{stops, at_fileid, permitted}
use Rattle.cluster_model.proofs.Servers.{timed}
use Rattle.cluster_model.proofs.ServerRestarts.{same_count}
use Rattle.ds_calls.specs.DsCallLaws.{IsSpeakable}
use Rattle.proper_servers.specs.ProperServers.{IsProperTick, IsProperFile, IsProper, is_of_bytes}
use Rattle.proper_servers.proofs.ProperFiles.{all_append, each_at, all_set, all_proper, new_proper, OpFits, op_proper, restarted_proper}

-- the tick that comes next has room
pub next_proper : (s : ServerState) → IsProper s → IsProperTick (next_tick s.clock)
next_proper s i = let boot = i.boot in let count = i.count in record { boot = omega (arith, boot); count = omega (arith, count) }

-- no more files than ticks: of the next tick, of the same or the next one behind a change, and of the next boot
abbrev IsFew : ℕ → ℕ → ℕ → Type 0
IsFew files boot count = files ≤ boot * max_ticks + count

few_kept : (files boot count files' boot' count' : ℕ) → files' ≡ files → boot' ≡ boot → (count' ≡ count) ⊎ (count' ≡ count + 1) → IsFew files boot count → IsFew files' boot' count'
few_kept files boot count files' boot' count' size same (inl stays) few = omega (arith, size, same, stays, few)
few_kept files boot count files' boot' count' size same (inr next) few = omega (arith, size, same, next, few)

few_rebooted : (files boot count : ℕ) → count ≤ max_ticks → IsFew files boot count → IsFew files (boot + 1) 0
few_rebooted files boot count most few = omega (arith, most, few)

-- ---- what is done to a server

abbrev EffectFits : Effect → Type 0
EffectFits NoEffect = Unit {0}
EffectFits (OnFile index op) = OpFits op
EffectFits (NewFile name owner group mode) = (owner < 2 ^ 32) × (group < 2 ^ 32) × (mode ≡ FILE_MODE)

effect_proper : (s : ServerState) (caller : Caller) (effect : Effect) → IsPermitted s caller effect → EffectFits effect → IsProper s → IsProper (server_after s effect)
effect_proper s caller NoEffect may fits i = i
effect_proper s caller (OnFile index op) may fits i =
    let f : StoredFile = may.0 in
    let time = subst (λ (o : Option StoredFile). IsTimed s (on_file s index op o)) may.1 (timed s caller (OnFile index op) may) in
    let same = time.boot in
    let boot = i.boot in
    subst (λ (o : Option StoredFile). IsProper (on_file s index op o)) (sym may.1) (record {
      number = i.number;
      boot = omega (arith, same, boot);
      count = time.bounded i.count;
      root = i.root;
      named = i.named ∙ sym (length-set s.files index _);
      few = few_kept (length s.files) s.clock.boot s.clock.count _ _ _ (length-set s.files index (file_after f s.clock op)) same time.ticks i.few;
      files = all_set IsProperFile s.files index _ i.files (op_proper f s.clock op (next_proper s i) fits (each_at IsProperFile s.files index f i.files may.1));
    })
effect_proper s caller (NewFile name owner group mode) may fits i =
    let next = next_proper s i in
    let file : StoredFile = new_file owner group mode (next_tick s.clock) in
    record {
      number = i.number;
      boot = i.boot;
      count = (timed s caller (NewFile name owner group mode) may).bounded i.count;
      root = record { atime = i.root.atime; mtime = next; ctime = next };
      named = length-append s.names (name ∷ []) ∙ ap (λ n. n + 1) i.named ∙ sym (length-append s.files (file ∷ []));
      few = subst (λ n. IsFew n s.clock.boot (s.clock.count + 1)) (sym (length-append s.files (file ∷ []))) (let few = i.few in omega (arith, few));
      files = all_append IsProperFile s.files (file ∷ []) i.files (new_proper owner group mode (next_tick s.clock) fits.0 fits.1 fits.2 next, tt);
    }

-- ---- calls

-- a WRITE that is done ends within the longest file
pub write_ends : (s : ServerState) (index : ℕ) (f : StoredFile) (caller : Caller) (agree : Bool) (at : ℕ) (bytes : List ℕ) → write_refusal s index f caller agree at bytes ≡ None → 0 < length bytes → at + length bytes ≤ max_file
write_ends s index f caller agree at [] e some = absurd (omega (arith, some))
write_ends s index f caller agree at (b ∷ bytes) e some =
    let access = stops (not (may_write f caller)) Acces _ e in
    let good = stops (not agree) Inval _ access.1 in
    let short = stops (ltb max_file (at + length (b ∷ bytes))) Fbig _ good.1 in
    let most = ltb-false max_file (at + length (b ∷ bytes)) short.0 in
    omega (arith, most)

done_fits : (f : StoredFile) (r : Option Refusal) (reply : DsReplyValue) (does : Effect) → (r ≡ None → EffectFits does) → EffectFits (unless f r reply does).effect
done_fits f None reply does fits = fits refl
done_fits f (Some refusal) reply does fits = tt

before_fits : (index : ℕ) (o : Option StoredFile) → EffectFits (created_before index o).effect
before_fits index None = tt
before_fits index (Some f) = tt

made_fits : (s : ServerState) (name : List ℕ) (owner : ℕ) (r : Option Refusal) → owner < 2 ^ 32 → EffectFits (made_unless s name owner r).effect
made_fits s name owner None own = (own, own, omega arith)
made_fits s name owner (Some refusal) own = tt

created_fits : (s : ServerState) (name : List ℕ) (owner : ℕ) (found : Option ℕ) → owner < 2 ^ 32 → EffectFits (created_by s name owner found).effect
created_fits s name owner None own = made_fits s name owner (tick_refusal s.clock) own
created_fits s name owner (Some index) own = before_fits index (slice_get s.files index)

-- the uid that a call makes an owner has room
abbrev OwnerFits : DsCallValue → Type 0
OwnerFits (Create name owner) = owner < 2 ^ 32
OwnerFits (SetAttr fileid owner guard) = owner < 2 ^ 32
OwnerFits (Write fileid at synced bytes) = Unit {0}
OwnerFits (Commit fileid) = Unit {0}
OwnerFits (Read fileid at count) = Unit {0}

call_fits : (s : ServerState) (caller : Caller) (call : DsCallValue) → OwnerFits call → EffectFits (ds_plan s caller call).effect
call_fits s caller (Create name owner) own =
    cond_both (not (eqb caller.uid 0)) _ (created_by s (mirror_name name) owner (index_of s.names (mirror_name name))) (λ (p : DsPlan). EffectFits p.effect) (λ e. tt) (λ e. created_fits s (mirror_name name) owner (index_of s.names (mirror_name name)) own)
call_fits s caller (SetAttr fileid owner guard) own =
    at_fileid s.files (λ (n : Named). EffectFits (set_at s caller owner guard n).effect) tt tt
    (λ index f there. done_fits f (set_refusal s f caller true (Some guard)) _ _ (λ e. record { new_owner = own; new_group = own; new_mode = refl; new_atime = tt; new_mtime = tt })) fileid
call_fits s caller (Write fileid at synced bytes) own =
    at_fileid s.files (λ (n : Named). EffectFits (write_at s caller at synced bytes n).effect) tt tt
    (λ index f there. done_fits f (write_refusal s index f caller true at bytes) _ _ (write_ends s index f caller true at bytes)) fileid
call_fits s caller (Commit fileid) own = at_fileid s.files (λ (n : Named). EffectFits (commit_at s caller n).effect) tt tt (λ index f there. done_fits f (commit_refusal f caller) _ _ (λ e. tt)) fileid
call_fits s caller (Read fileid at count) own = at_fileid s.files (λ (n : Named). EffectFits (read_at s caller at count n).effect) tt tt (λ index f there. done_fits f (read_refusal f caller) _ NoEffect (λ e. tt)) fileid

step_proper : (s : ServerState) (caller : Caller) (call : DsCallValue) → OwnerFits call → IsProper s → IsProper (ds_step s caller call).server
step_proper s caller call own i = effect_proper s caller (ds_plan s caller call).effect (permitted s caller call) (call_fits s caller call own) i

said_owner : (call : DsCallValue) → IsSpeakable call → OwnerFits call
said_owner (Create name owner) fits = fits.1
said_owner (SetAttr fileid owner guard) fits = fits.1
said_owner (Write fileid at synced bytes) fits = tt
said_owner (Commit fileid) fits = tt
said_owner (Read fileid at count) fits = tt

no_owner : (call : DsCallValue) → is_of_bytes call ≡ true → OwnerFits call
no_owner (Create name owner) is = absurd cc
no_owner (SetAttr fileid owner guard) is = absurd cc
no_owner (Write fileid at synced bytes) is = tt
no_owner (Commit fileid) is = tt
no_owner (Read fileid at count) is = tt

pub steps : (s : ServerState) (caller : Caller) (call : DsCallValue) → IsProper s → IsSpeakable call → IsProper (ds_step s caller call).server
steps s caller call i fits = step_proper s caller call (said_owner call fits) i

pub users : (s : ServerState) (caller : Caller) (call : DsCallValue) → is_of_bytes call ≡ true → IsProper s → IsProper (ds_step s caller call).server
users s caller call is i = step_proper s caller call (no_owner call is) i

-- ---- new servers and restarts

pub starts : (number boot : ℕ) → number < 2 ^ 32 → boot < 2 ^ 32 → IsProper (new_server number boot)
starts number boot numbered booted = record {
  number = numbered;
  boot = omega (arith, booted);
  count = omega arith;
  root = all_proper (record { boot = boot; count = 0 }) (record { boot = booted; count = omega arith });
  named = refl;
  few = omega arith;
  files = tt;
}

restarted_all : (n : ℕ) (files : List StoredFile) (pieces : List Piece) → AllByRecursion IsProperFile files → AllByRecursion IsProperFile (files_restarted n files pieces)
restarted_all n [] pieces all = tt
restarted_all n (f ∷ files) pieces all = (restarted_proper f (pieces_of n pieces) all.0, restarted_all (n + 1) files pieces all.1)

some_by : (b : Bool) (x y : ServerState) → cond b None (Some x) ≡ Some y → (b ≡ false) × (x ≡ y)
some_by true x y e = absurd cc
some_by false x y e = (refl, cc)

pub restarts : (s : ServerState) (pieces : List Piece) (new : ServerState) → IsProper s → restart_of s pieces ≡ Some new → IsProper new
restarts s pieces new i is =
    let by = some_by (eqb s.clock.boot max_boot) (server_restarted s pieces) new is in
    let left = eqb-false s.clock.boot max_boot by.0 in
    let boot = i.boot in
    subst IsProper by.1 (record {
      number = i.number;
      boot = omega (arith, boot, left);
      count = omega arith;
      root = i.root;
      named = i.named ∙ sym (same_count 2 s.files pieces);
      few = subst (λ n. IsFew n (s.clock.boot + 1) 0) (sym (same_count 2 s.files pieces)) (few_rebooted (length s.files) s.clock.boot s.clock.count i.count i.few);
      files = restarted_all 2 s.files pieces i.files;
    })
