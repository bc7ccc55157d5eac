-- Each reply of a proper server to a call of the cluster has a spelling.
use Rattle.std.proofs.Common.{◌≡◌, ℕ, ◌+◌, ◌*◌, ◌^◌, ◌<◌, ◌≤◌, min, Bool, true, false, cond, eqb, List, length, drop, Option, Some, None, refl, sym, subst, arith, length-take}
use Rattle.std.specs.Prelude.{slice_get, not, nat_lt, ◌==◌, ◌||◌}
use Rattle.std.specs.Int.{w64, from_be_bytes}
use Rattle.std.specs.Option.{option_map}
use Rattle.std.proofs.lemmas.Bool.{cond_both}
use Rattle.std.proofs.lemmas.Option.{slice_get_within}
use Rattle.ff_xdr.specs.Form.{Fits}
use Rattle.ff_xdr.proofs.CutShort.{length-long}
use Rattle.nfs3_wire.specs.declared.attributes.Fattr3.{Fattr3}
use Rattle.nfs3_wire.specs.declared.attributes.Time3.{Time3}
use Rattle.nfs3_wire.specs.declared.create.CreateHow.{CreateHow}
use Rattle.nfs3_wire.specs.declared.create.CreateHow.TheVariants.{Unchecked}
use Rattle.nfs3_wire.specs.declared.stable_how.StableHow.{StableHow}
use Rattle.nfs3_wire.specs.declared.status.Stat3.{Stat3}
use Rattle.nfs3_wire.specs.declared.status.Stat3.TheVariants as stat
use Rattle.nfs3_wire.specs.Attributes.{nfstime3, time3_value, fattr3, fattr3_value}
use Rattle.nfs3_wire.specs.Stability.{stable_how, stable_how_number}
use Rattle.nfs3_wire.specs.Status.{refusal, stat_number}
use Rattle.nfs3_wire.specs.Wcc.{post_op_attr, post_op_value, wcc_data, wcc_data_value}
use Rattle.nfs3_wire.specs.Replies.{Nfs3Reply, nfs3_results, reply_value}
use Rattle.cluster_model.specs.declared.limits.TheConstants.{FILE_MODE}
use Rattle.cluster_model.specs.declared.tick.Tick.{Tick}
use Rattle.cluster_model.specs.declared.tick.Times.{Times}
use Rattle.cluster_model.specs.File.{StoredFile, FileOp, Writes, Commits, Sets, shown, file_after, new_file}
use Rattle.cluster_model.specs.Ticks.{next_tick}
use Rattle.cluster_model.specs.Server.{ServerState, Named, Caller, Refusal, Acces, Inval, NotSync, Fbig, NoSpc, Jukebox, named, max_boot, max_read, max_ticks, tick_refusal, index_of, write_refusal, commit_refusal, set_refusal, read_refusal, root_after}
use Rattle.cluster_model.specs.DsCalls.{DsCallValue, mirror_name}
use Rattle.cluster_model.specs.DsCalls as ds
use Rattle.cluster_model.proofs.Permitted.{at_fileid}
use Rattle.ds_procedures.specs.Objects.{Object, Missing, Root, File, object_by, object_of, handle_of, time_of, root_attributes, file_attributes, attributes_of, wcc_between, wcc_same, stat_of, caller_of}
use Rattle.ds_procedures.specs.Write.{is_synced, stability_of, write_unless, write_plan}
use Rattle.ds_procedures.specs.Commit.{commit_unless, commit_plan}
use Rattle.ds_procedures.specs.Setattr.{tick_of, changes_of, set_unless, set_plan}
use Rattle.ds_procedures.specs.Read.{read_unless, read_reply}
use Rattle.ds_procedures.specs.Lookup.{max_name}
use Rattle.ds_procedures.specs.Create.{CreateCase, NotMade, IsThere, Makes, creation_unless, made_by, made_how, create_case, owner_of, group_of, file_mode_of, create_in, create_plan}
use Rattle.ds_procedures.specs.Steps.{plan_of}
use Rattle.ds_calls.specs.MadeCalls.{fileid_handle, guard_time, asked_stability, owner_set, nfs_call_of, user_credential}
use Rattle.ds_calls.specs.DsCallLaws.{IsSpeakable, DsMessage, HasRecord}
use Rattle.same_server.specs.SameServer.{CanReply}
use Rattle.proper_servers.specs.ProperServers.{IsProperTick, AreProperTimes, IsProperFile, IsProper}
use Rattle.proper_servers.proofs.ProperFiles.{each_at, shown_within, new_proper, OpFits, op_proper}
use Rattle.proper_servers.proofs.ProperSteps.{next_proper, write_ends}

-- ---- attributes

abbrev AttributesFit : Fattr3 → Type 0
AttributesFit a = Fits fattr3 (fattr3_value a)

tick_fits : (t : Tick) → IsProperTick t → Fits nfstime3 (time3_value (time_of t))
tick_fits t i = (i.boot, i.count)

file_fits : (fileid : ℕ) (f : StoredFile) → fileid < 2 ^ 64 → IsProperFile f → AttributesFit (file_attributes fileid f)
file_fits fileid f few i =
    let most = shown_within f.content i.content in
    let size : length (shown f) < 2 ^ 64 = omega (arith, most) in
    let mode_fits : f.mode < 2 ^ 32 = subst (λ (n : ℕ). n < 2 ^ 32) (sym i.mode) (omega arith) in (
      (refl, (mode_fits, (omega arith, (i.owner, i.group)))),
      (
        (size, (size, ((omega arith, omega arith), (omega arith, few)))),
        (tick_fits f.times.atime i.times.atime, (tick_fits f.times.mtime i.times.mtime, tick_fits f.times.ctime i.times.ctime)),
      ),
    )

root_fits : (times : Times) → AreProperTimes times → AttributesFit (root_attributes times)
root_fits times i = (
  (refl, (omega arith, (omega arith, (omega arith, omega arith)))),
  (
    (omega arith, (omega arith, ((omega arith, omega arith), (omega arith, omega arith)))),
    (tick_fits times.atime i.atime, (tick_fits times.mtime i.mtime, tick_fits times.ctime i.ctime)),
  ),
)

wcc_fits : (before after : Fattr3) → AttributesFit before → AttributesFit after → Fits wcc_data (wcc_data_value (wcc_between before after))
wcc_fits before after b a = ((b.1.0.0, (b.1.1.1.0, b.1.1.1.1)), a)

-- ---- statuses and objects

abbrev Refuses : Stat3 → Type 0
Refuses status = Fits refusal (stat_number status)

refuses : (r : Refusal) → Refuses (stat_of r)
refuses Acces = refl
refuses Inval = refl
refuses NotSync = refl
refuses Fbig = refl
refuses NoSpc = refl
refuses Jukebox = refl

abbrev ObjectFits : Object → Type 0
ObjectFits (Missing status) = Refuses status
ObjectFits Root = Unit {0}
ObjectFits (File index f) = (index + 2 < 2 ^ 64) × IsProperFile f

abbrev ReplyFits : Nfs3Reply → Type 0
ReplyFits reply = Fits nfs3_results (reply_value reply)

module _ (s : ServerState) (i : IsProper s) (few : length s.files + 3 < 2 ^ 64) (caller : Caller) where
  there_fits : (index : ℕ) (f : StoredFile) → slice_get s.files index ≡ Some f → (index + 2 < 2 ^ 64) × IsProperFile f
  there_fits index f there = let within = slice_get_within s.files index f there in (omega (arith, within, few), each_at IsProperFile s.files index f i.files there)

  object_fits : (handle : List ℕ) → ObjectFits (object_of s.files handle)
  object_fits handle =
      cond_both (eqb (length handle) 8) (object_by (named s.files (from_be_bytes w64 handle))) (Missing stat.BadHandle) ObjectFits
      (λ e. at_fileid s.files (λ (n : Named). ObjectFits (object_by n)) refl tt there_fits (from_be_bytes w64 handle)) (λ e. refl)

  root_now : AttributesFit (root_attributes s.root)
  root_now = root_fits s.root i.root

  root_same : Fits wcc_data (wcc_data_value (wcc_same (attributes_of s Root)))
  root_same = wcc_fits (root_attributes s.root) (root_attributes s.root) root_now root_now

  boot_fits : s.clock.boot < 2 ^ 64
  boot_fits = let boot = i.boot in omega (arith, boot)

  -- ---- calls on a file

  module _ (index : ℕ) (f : StoredFile) (there : (index + 2 < 2 ^ 64) × IsProperFile f) where
    now_fits : AttributesFit (file_attributes (index + 2) f)
    now_fits = file_fits (index + 2) f there.0 there.1

    same_fits : Fits wcc_data (wcc_data_value (wcc_same (attributes_of s (File index f))))
    same_fits = wcc_fits (file_attributes (index + 2) f) (file_attributes (index + 2) f) now_fits now_fits

    after_fits : (op : FileOp) → OpFits op → Fits wcc_data (wcc_data_value (wcc_between (file_attributes (index + 2) f) (file_attributes (index + 2) (file_after f s.clock op))))
    after_fits op fits =
        wcc_fits (file_attributes (index + 2) f) (file_attributes (index + 2) (file_after f s.clock op)) now_fits (file_fits (index + 2) (file_after f s.clock op) there.0 (op_proper f s.clock op (next_proper s i) fits there.1))

    stability_fits : (synced : Bool) → Fits stable_how (stable_how_number (stability_of synced))
    stability_fits true = refl
    stability_fits false = refl

    write_done_fits : (offset : ℕ) (stability : StableHow) (bytes : List ℕ) (r : Option Refusal) → length bytes < 2 ^ 32 → (r ≡ None → OpFits (Writes offset (is_synced stability) bytes))
        → ReplyFits (write_unless s index f offset stability bytes r).reply
    write_done_fits offset stability bytes None short fits = (after_fits (Writes offset (is_synced stability) bytes) (fits refl), (short, (stability_fits (is_synced stability), boot_fits)))
    write_done_fits offset stability bytes (Some r) short fits = (refuses r, same_fits)

    commit_done_fits : (r : Option Refusal) → ReplyFits (commit_unless s index f r).reply
    commit_done_fits None = (after_fits Commits tt, boot_fits)
    commit_done_fits (Some r) = (refuses r, same_fits)

    set_done_fits : (owner : ℕ) (r : Option Refusal) → owner < 2 ^ 32 → ReplyFits (set_unless s index f (changes_of (owner_set None owner)) r).reply
    set_done_fits owner None owns = after_fits (Sets (changes_of (owner_set None owner))) (record { new_owner = owns; new_group = owns; new_mode = refl; new_atime = tt; new_mtime = tt })
    set_done_fits owner (Some r) owns = (refuses r, same_fits)

    read_done_fits : (offset count : ℕ) (r : Option Refusal) → ReplyFits (read_unless index f offset count r)
    read_done_fits offset count None =
        let size = length-take (min count max_read) (drop offset (shown f)) in
        (now_fits, (omega (arith, size), (tt, omega (arith, size))))
    read_done_fits offset count (Some r) = (refuses r, now_fits)

  write_fits : (o : Object) (offset count : ℕ) (stability : StableHow) (bytes : List ℕ) → length bytes < 2 ^ 32 → ObjectFits o → ReplyFits (write_plan s o offset count stability bytes caller).reply
  write_fits (Missing status) offset count stability bytes short fits = (fits, (tt, tt))
  write_fits Root offset count stability bytes short fits = (refl, root_same)
  write_fits (File index f) offset count stability bytes short fits =
      write_done_fits index f fits offset stability bytes (write_refusal s index f caller (count == length bytes) offset bytes) short (λ e. write_ends s index f caller (count == length bytes) offset bytes e)

  commit_fits : (o : Object) → ObjectFits o → ReplyFits (commit_plan s o caller).reply
  commit_fits (Missing status) fits = (fits, (tt, tt))
  commit_fits Root fits = (refl, root_same)
  commit_fits (File index f) fits = commit_done_fits index f fits (commit_refusal f caller)

  set_fits : (o : Object) (owner : ℕ) (guard : Option Time3) → owner < 2 ^ 32 → ObjectFits o → ReplyFits (set_plan s o (owner_set None owner) guard caller).reply
  set_fits (Missing status) owner guard owns fits = (fits, (tt, tt))
  set_fits Root owner guard owns fits = (refl, root_same)
  set_fits (File index f) owner guard owns fits = set_done_fits index f fits owner (set_refusal s f caller true (option_map tick_of guard)) owns

  read_fits : (o : Object) (offset count : ℕ) → ObjectFits o → ReplyFits (read_reply s o offset count caller)
  read_fits (Missing status) offset count fits = (fits, tt)
  read_fits Root offset count fits = (refl, root_now)
  read_fits (File index f) offset count fits = read_done_fits index f fits offset count (read_refusal f caller)

  -- ---- CREATE

  abbrev CaseFits : CreateCase → Type 0
  CaseFits (NotMade status) = Refuses status
  CaseFits (IsThere index) = Unit {0}
  CaseFits (Makes a) = (owner_of a caller < 2 ^ 32) × (group_of a caller < 2 ^ 32) × (file_mode_of a ≡ FILE_MODE)

  module _ (owner : ℕ) (owns : owner < 2 ^ 32) where
    creation_fits : (r : Option Refusal) → CaseFits (creation_unless (owner_set (Some FILE_MODE) owner) r)
    creation_fits None = (owns, owns, refl)
    creation_fits (Some r) = refuses r

    made_by_fits : (found : Option ℕ) → CaseFits (made_by s.clock (owner_set (Some FILE_MODE) owner) found)
    made_by_fits None = creation_fits (tick_refusal s.clock)
    made_by_fits (Some index) = tt

    made_how_fits : (name : List ℕ) (found : Option ℕ) → CaseFits (made_how s.clock name (Unchecked (owner_set (Some FILE_MODE) owner)) found)
    made_how_fits name found =
        cond_both (eqb (length name) 0 || false) (NotMade stat.Inval) (made_by s.clock (owner_set (Some FILE_MODE) owner) found) CaseFits (λ e. refl) (λ e. made_by_fits found)

    case_fits : (name : List ℕ) → CaseFits (create_case s.clock s.names name (Unchecked (owner_set (Some FILE_MODE) owner)) caller)
    case_fits name =
        let how : CreateHow = Unchecked (owner_set (Some FILE_MODE) owner) in
        let made : CreateCase = made_how s.clock name how (index_of s.names name) in
        cond_both (not (eqb caller.uid 0)) (NotMade stat.Acces) (cond (nat_lt max_name (length name)) (NotMade stat.NameTooLong) made) CaseFits (λ e. refl)
        (λ e. cond_both (nat_lt max_name (length name)) (NotMade stat.NameTooLong) made CaseFits (λ e. refl) (λ e. made_how_fits name (index_of s.names name)))

  handle_fits : (index : ℕ) → length (handle_of index) ≤ 64
  handle_fits index = let size = length-long (index + 2) in omega (arith, size)

  at_fits : (index : ℕ) (o : Option StoredFile) → slice_get s.files index ≡ o → Fits post_op_attr (post_op_value (option_map (file_attributes (index + 2)) o))
  at_fits index None is = tt
  at_fits index (Some f) is = let there = there_fits index f is in file_fits (index + 2) f there.0 there.1

  create_in_fits : (name : List ℕ) (k : CreateCase) → CaseFits k → ReplyFits (create_in s name caller k).reply
  create_in_fits name (NotMade status) fits = (fits, root_same)
  create_in_fits name (IsThere index) fits = (handle_fits index, (at_fits index (slice_get s.files index) refl, root_same))
  create_in_fits name (Makes a) fits =
      let next = next_proper s i in
      let file : StoredFile = new_file (owner_of a caller) (group_of a caller) (file_mode_of a) (next_tick s.clock) in (
        handle_fits (length s.files),
        (
          file_fits (length s.files + 2) file (omega (arith, few)) (new_proper (owner_of a caller) (group_of a caller) (file_mode_of a) (next_tick s.clock) fits.0 fits.1 fits.2 next),
          wcc_fits (root_attributes s.root) (root_attributes (root_after s.root (next_tick s.clock))) root_now (root_fits (root_after s.root (next_tick s.clock)) (record { atime = i.root.atime; mtime = next; ctime = next })),
        ),
      )

  create_fits : (o : Object) (name : List ℕ) (owner : ℕ) → owner < 2 ^ 32 → ObjectFits o → ReplyFits (create_plan s o name (Unchecked (owner_set (Some FILE_MODE) owner)) caller).reply
  create_fits (Missing status) name owner owns fits = (fits, (tt, tt))
  create_fits (File index f) name owner owns fits = (refl, same_fits index f fits)
  create_fits Root name owner owns fits = create_in_fits name (create_case s.clock s.names name (Unchecked (owner_set (Some FILE_MODE) owner)) caller) (case_fits owner owns name)

  -- ---- all five

  plan_fits : (call : DsCallValue) → IsSpeakable call → ReplyFits (plan_of s (nfs_call_of call) caller).reply
  plan_fits (ds.Create name owner) said = create_fits (object_of s.files (fileid_handle 1)) (mirror_name name) owner said.1 (object_fits (fileid_handle 1))
  plan_fits (ds.SetAttr fileid owner guard) said = set_fits (object_of s.files (fileid_handle fileid)) owner (Some (guard_time guard)) said.1 (object_fits (fileid_handle fileid))
  plan_fits (ds.Write fileid at synced bytes) said =
      let most = said.2 in
      write_fits (object_of s.files (fileid_handle fileid)) at (length bytes) (asked_stability synced) bytes (omega (arith, most)) (object_fits (fileid_handle fileid))
  plan_fits (ds.Commit fileid) said = commit_fits (object_of s.files (fileid_handle fileid)) (object_fits (fileid_handle fileid))
  plan_fits (ds.Read fileid at count) said = read_fits (object_of s.files (fileid_handle fileid)) at count (object_fits (fileid_handle fileid))

-- there are fewer ticks than fileids
room_left : (files boot count : ℕ) → files ≤ boot * max_ticks + count → boot ≤ max_boot → count ≤ max_ticks → files + 3 < 2 ^ 64
room_left files boot count few booted counted = omega (arith, few, booted, counted)

pub replies : (s : ServerState) (m : DsMessage) → IsProper s → HasRecord m → CanReply s m
replies s m i has =
    let few = room_left (length s.files) s.clock.boot s.clock.count i.few i.boot i.count in
    record { named = i.named; few = omega (arith, few); fits = plan_fits s i few (caller_of (user_credential m.machine m.user)) m.call has.call_fits }
