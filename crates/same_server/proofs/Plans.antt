-- What a call comes to as a call of NFSv3, and without one.
use Rattle.std.proofs.Common.{◌≡◌, ℕ, zero, suc, ◌+◌, ◌^◌, ◌<◌, Bool, true, false, ◌||◌, List, [], ◌∷◌, length, Option, Some, None, refl, sym, ap, subst, ◌∙◌, arith}
use Rattle.std.specs.Prelude.{◌==◌, nat_lt, not, slice_get, codes, IsSome, if◌then◌else◌}
use Rattle.std.specs.Option.{option_map}
use Rattle.std.specs.Fmt.{decimal}
use Rattle.std.specs.Int.{w64, from_be_bytes}
use Rattle.std.proofs.lemmas.Bool.{eq-eqb, ne_eqb, le-ltb}
use Rattle.std.proofs.lemmas.List.{length-append}
use Rattle.std.proofs.lemmas.Nat.{from_be_bytes-to_be_bytes_8}
use Rattle.std.proofs.lemmas.List.Quantifiers.{position-Some}
use Rattle.std.specs.Str.{bytes_eq}
use Rattle.ff_xdr.specs.Form.{long}
use Rattle.ff_xdr.proofs.CutShort.{length-long}
use Rattle.nfs3_wire.specs.declared.attributes.Fattr3.{Fattr3}
use Rattle.nfs3_wire.specs.declared.wcc.WccAttr.{WccAttr}
use Rattle.nfs3_wire.specs.declared.wcc.WccData.{WccData}
use Rattle.nfs3_wire.specs.declared.create.CreateHow.TheVariants.{Unchecked}
use Rattle.nfs3_wire.specs.declared.status.Stat3.TheVariants as stat
use Rattle.nfs3_wire.specs.Replies.{Nfs3Reply, CreateDone}
use Rattle.cluster_model.specs.declared.tick.Tick.{Tick}
use Rattle.cluster_model.specs.File.{StoredFile, FileOp, Writes, Commits, Sets, file_after, new_file}
use Rattle.cluster_model.specs.Ticks.{next_tick}
use Rattle.cluster_model.specs.Server.{ServerState, Caller, Refusal, Acces, Inval, Fbig, NoSpc, Jukebox, Named, NoEffect, OnFile, named, bytes_read, root_after, index_of, tick_refusal, write_refusal, commit_refusal, set_refusal, read_refusal}
use Rattle.cluster_model.specs.Server as model
use Rattle.cluster_model.specs.DsCalls.{DsCallValue, Create, SetAttr, Write, Commit, Read, Set, Written, Committed, Failed, DsPlan, ds_plan, unless, shown_after, owner_changes, bytes_reply, refusal_number, write_at, commit_at, set_at, read_at, mirror_name, created_before, created_by, made_unless, create_in_root, replies}
use Rattle.ds_procedures.specs.Objects.{Object, object_by, object_of, handle_of, root_attributes, file_attributes, wcc_attr_of, wcc_same, wcc_between}
use Rattle.ds_procedures.specs.Plans.{Plan, reply_alone}
use Rattle.ds_procedures.specs.Write.{write_plan, write_unless}
use Rattle.ds_procedures.specs.Commit.{commit_plan, commit_unless}
use Rattle.ds_procedures.specs.Setattr.{set_plan, set_unless}
use Rattle.ds_procedures.specs.Read.{read_reply, read_unless}
use Rattle.ds_procedures.specs.Lookup.{max_name}
use Rattle.ds_procedures.specs.Create.{CreateCase, NotMade, IsThere, create_plan, create_in, create_case, made_how, made_by, creation_unless}
use Rattle.ds_procedures.specs.Steps.{plan_of}
use Rattle.ds_calls.specs.MadeCalls.{fileid_handle, guard_time, asked_stability, owner_set, nfs_call_of}
use Rattle.ds_calls.specs.DsCallLaws.{AttributesBeside, IsAnswerTo, nfs_reply_of, IsSpeakable}
use Rattle.ds_calls.proofs.MirrorNames.{twenty_digits}

-- The same is done, and the reply of NFSv3 says the answer, with something beside it.
pub record SamePlan (call : DsCallValue) (p : Plan) (d : DsPlan) : Type 0 where
  pub effect : p.effect ≡ d.effect
  pub beside : AttributesBeside
  pub reply : p.reply ≡ nfs_reply_of beside call d.reply

-- ---- handles

-- the handle of a fileid names what the fileid names
object_there : (files : List StoredFile) (fileid : ℕ) → fileid < 2 ^ 64 → object_of files (fileid_handle fileid) ≡ object_by (named files fileid)
unfolding long
object_there files fileid h =
    ap (λ (b : Bool). if b then object_by (named files (from_be_bytes w64 (fileid_handle fileid))) else object_of files []) (eq-eqb (length (fileid_handle fileid)) 8 (length-long fileid))
    ∙ ap (λ (n : ℕ). object_by (named files n)) (from_be_bytes-to_be_bytes_8 fileid h)

-- ---- what stands beside an answer

no_wcc : WccData
no_wcc = record { before = None; after = None }

-- attributes, those from before where there are some, and the directory's
about : Fattr3 → Option WccAttr → AttributesBeside
about attributes before = record { attributes = attributes; before = before; directory = no_wcc }

-- of an object that stays as it is
unchanged : Fattr3 → AttributesBeside
unchanged a = about a (Some (wcc_attr_of a))

changed : Fattr3 → Fattr3 → AttributesBeside
changed before after = about after (Some (wcc_attr_of before))

in_directory : Fattr3 → WccData → AttributesBeside
in_directory a directory = record { attributes = a; before = None; directory = directory }

-- ---- calls on a file

module _ (s : ServerState) (index : ℕ) (f : StoredFile) where
  of_file : Fattr3
  of_file = file_attributes (index + 2) f

  of_file_after : FileOp → Fattr3
  of_file_after op = file_attributes (index + 2) (file_after f s.clock op)

  write_same : (fileid at : ℕ) (synced : Bool) (bytes : List ℕ) (r : Option Refusal)
      → IsAnswerTo (Write fileid at synced bytes) (unless f r (Written (shown_after s f (Writes at synced bytes)) s.clock.boot) (OnFile index (Writes at synced bytes))).reply
      → SamePlan (Write fileid at synced bytes) (write_unless s index f at (asked_stability synced) bytes r) (unless f r (Written (shown_after s f (Writes at synced bytes)) s.clock.boot) (OnFile index (Writes at synced bytes)))
  unfolding about unchanged changed no_wcc of_file of_file_after
  write_same fileid at true bytes None answers = record { effect = refl; beside = changed of_file (of_file_after (Writes at true bytes)); reply = refl }
  write_same fileid at false bytes None answers = record { effect = refl; beside = changed of_file (of_file_after (Writes at false bytes)); reply = refl }
  write_same fileid at synced bytes (Some Acces) answers = record { effect = refl; beside = unchanged of_file; reply = refl }
  write_same fileid at synced bytes (Some Inval) answers = record { effect = refl; beside = unchanged of_file; reply = refl }
  write_same fileid at synced bytes (Some model.NotSync) answers = absurd answers
  write_same fileid at synced bytes (Some Fbig) answers = record { effect = refl; beside = unchanged of_file; reply = refl }
  write_same fileid at synced bytes (Some NoSpc) answers = record { effect = refl; beside = unchanged of_file; reply = refl }
  write_same fileid at synced bytes (Some Jukebox) answers = record { effect = refl; beside = unchanged of_file; reply = refl }

  commit_same : (fileid : ℕ) (r : Option Refusal) → IsAnswerTo (Commit fileid) (unless f r (Committed (shown_after s f Commits) s.clock.boot) (OnFile index Commits)).reply
      → SamePlan (Commit fileid) (commit_unless s index f r) (unless f r (Committed (shown_after s f Commits) s.clock.boot) (OnFile index Commits))
  unfolding about unchanged changed no_wcc of_file of_file_after
  commit_same fileid None answers = record { effect = refl; beside = changed of_file (of_file_after Commits); reply = refl }
  commit_same fileid (Some Acces) answers = record { effect = refl; beside = unchanged of_file; reply = refl }
  commit_same fileid (Some Inval) answers = record { effect = refl; beside = unchanged of_file; reply = refl }
  commit_same fileid (Some model.NotSync) answers = absurd answers
  commit_same fileid (Some Fbig) answers = record { effect = refl; beside = unchanged of_file; reply = refl }
  commit_same fileid (Some NoSpc) answers = record { effect = refl; beside = unchanged of_file; reply = refl }
  commit_same fileid (Some Jukebox) answers = record { effect = refl; beside = unchanged of_file; reply = refl }

  set_same : (fileid owner : ℕ) (guard : Tick) (r : Option Refusal)
      → SamePlan (SetAttr fileid owner guard) (set_unless s index f (owner_changes owner) r) (unless f r (Set (shown_after s f (Sets (owner_changes owner)))) (OnFile index (Sets (owner_changes owner))))
  unfolding about unchanged changed no_wcc of_file of_file_after
  set_same fileid owner guard None = record { effect = refl; beside = changed of_file (of_file_after (Sets (owner_changes owner))); reply = refl }
  set_same fileid owner guard (Some Acces) = record { effect = refl; beside = unchanged of_file; reply = refl }
  set_same fileid owner guard (Some Inval) = record { effect = refl; beside = unchanged of_file; reply = refl }
  set_same fileid owner guard (Some model.NotSync) = record { effect = refl; beside = unchanged of_file; reply = refl }
  set_same fileid owner guard (Some Fbig) = record { effect = refl; beside = unchanged of_file; reply = refl }
  set_same fileid owner guard (Some NoSpc) = record { effect = refl; beside = unchanged of_file; reply = refl }
  set_same fileid owner guard (Some Jukebox) = record { effect = refl; beside = unchanged of_file; reply = refl }

  read_same : (fileid at count : ℕ) (r : Option Refusal) → IsAnswerTo (Read fileid at count) (unless f r (bytes_reply f at (bytes_read f at count)) NoEffect).reply
      → SamePlan (Read fileid at count) (reply_alone (read_unless index f at count r)) (unless f r (bytes_reply f at (bytes_read f at count)) NoEffect)
  unfolding about unchanged no_wcc of_file
  read_same fileid at count None answers = record { effect = refl; beside = unchanged of_file; reply = refl }
  read_same fileid at count (Some Acces) answers = record { effect = refl; beside = unchanged of_file; reply = refl }
  read_same fileid at count (Some Inval) answers = record { effect = refl; beside = unchanged of_file; reply = refl }
  read_same fileid at count (Some model.NotSync) answers = absurd answers
  read_same fileid at count (Some Fbig) answers = record { effect = refl; beside = unchanged of_file; reply = refl }
  read_same fileid at count (Some NoSpc) answers = record { effect = refl; beside = unchanged of_file; reply = refl }
  read_same fileid at count (Some Jukebox) answers = record { effect = refl; beside = unchanged of_file; reply = refl }

-- ---- calls on what a fileid names

module _ (s : ServerState) (caller : Caller) where
  of_root : Fattr3
  of_root = root_attributes s.root

  write_named : (fileid at : ℕ) (synced : Bool) (bytes : List ℕ) (n : Named) → IsAnswerTo (Write fileid at synced bytes) (write_at s caller at synced bytes n).reply
      → SamePlan (Write fileid at synced bytes) (write_plan s (object_by n) at (length bytes) (asked_stability synced) bytes caller) (write_at s caller at synced bytes n)
  unfolding about unchanged no_wcc of_root
  write_named fileid at synced bytes model.Nothing answers = record { effect = refl; beside = about of_root None; reply = refl }
  write_named fileid at synced bytes model.Root answers = record { effect = refl; beside = unchanged of_root; reply = refl }
  write_named fileid at synced bytes (model.File index f) answers =
      subst (λ (b : Bool). SamePlan (Write fileid at synced bytes) (write_unless s index f at (asked_stability synced) bytes (write_refusal s index f caller b at bytes)) (write_at s caller at synced bytes (model.File index f)))
      (sym (eq-eqb (length bytes) (length bytes) refl)) (write_same s index f fileid at synced bytes (write_refusal s index f caller true at bytes) answers)

  commit_named : (fileid : ℕ) (n : Named) → IsAnswerTo (Commit fileid) (commit_at s caller n).reply → SamePlan (Commit fileid) (commit_plan s (object_by n) caller) (commit_at s caller n)
  unfolding about unchanged no_wcc of_root
  commit_named fileid model.Nothing answers = record { effect = refl; beside = about of_root None; reply = refl }
  commit_named fileid model.Root answers = record { effect = refl; beside = unchanged of_root; reply = refl }
  commit_named fileid (model.File index f) answers = commit_same s index f fileid (commit_refusal f caller) answers

  set_named : (fileid owner : ℕ) (guard : Tick) (n : Named)
      → SamePlan (SetAttr fileid owner guard) (set_plan s (object_by n) (owner_set None owner) (Some (guard_time guard)) caller) (set_at s caller owner guard n)
  unfolding about unchanged no_wcc of_root
  set_named fileid owner guard model.Nothing = record { effect = refl; beside = about of_root None; reply = refl }
  set_named fileid owner guard model.Root = record { effect = refl; beside = unchanged of_root; reply = refl }
  set_named fileid owner guard (model.File index f) = set_same s index f fileid owner guard (set_refusal s f caller true (Some guard))

  read_named : (fileid at count : ℕ) (n : Named) → IsAnswerTo (Read fileid at count) (read_at s caller at count n).reply
      → SamePlan (Read fileid at count) (reply_alone (read_reply s (object_by n) at count caller)) (read_at s caller at count n)
  unfolding about unchanged no_wcc of_root
  read_named fileid at count model.Nothing answers = record { effect = refl; beside = about of_root None; reply = refl }
  read_named fileid at count model.Root answers = record { effect = refl; beside = unchanged of_root; reply = refl }
  read_named fileid at count (model.File index f) answers = read_same s index f fileid at count (read_refusal f caller) answers

  -- ---- CREATE

  wcc_of_root : WccData
  wcc_of_root = wcc_same (Some (root_attributes s.root))

  made_same : (name owner : ℕ) (r : Option Refusal) → IsAnswerTo (Create name owner) (made_unless s (mirror_name name) owner r).reply
      → SamePlan (Create name owner) (create_in s (mirror_name name) caller (creation_unless (owner_set (Some 416) owner) r)) (made_unless s (mirror_name name) owner r)
  unfolding in_directory of_root wcc_of_root
  made_same name owner None answers = record {
    effect = refl;
    beside = in_directory (file_attributes (length s.files + 2) (new_file owner owner 416 (next_tick s.clock))) (wcc_between (root_attributes s.root) (root_attributes (root_after s.root (next_tick s.clock))));
    reply = refl;
  }
  made_same name owner (Some Acces) answers = record { effect = refl; beside = in_directory of_root wcc_of_root; reply = refl }
  made_same name owner (Some Inval) answers = record { effect = refl; beside = in_directory of_root wcc_of_root; reply = refl }
  made_same name owner (Some model.NotSync) answers = record { effect = refl; beside = in_directory of_root wcc_of_root; reply = refl }
  made_same name owner (Some Fbig) answers = record { effect = refl; beside = in_directory of_root wcc_of_root; reply = refl }
  made_same name owner (Some NoSpc) answers = record { effect = refl; beside = in_directory of_root wcc_of_root; reply = refl }
  made_same name owner (Some Jukebox) answers = record { effect = refl; beside = in_directory of_root wcc_of_root; reply = refl }

  there_same : (name owner index : ℕ) (found : Option StoredFile) → slice_get s.files index ≡ found → IsSome found
      → SamePlan (Create name owner) (create_in s (mirror_name name) caller (IsThere index)) (created_before index found)
  unfolding in_directory wcc_of_root
  there_same name owner index None is some = absurd (cc (some))
  there_same name owner index (Some f) is some = record {
    effect = refl;
    beside = in_directory (file_attributes (index + 2) f) wcc_of_root;
    reply = ap (λ (o : Option StoredFile). CreateDone (Some (handle_of index)) (option_map (file_attributes (index + 2)) o) wcc_of_root) is;
  }

  some_within : (files : List StoredFile) (i : ℕ) → i < length files → IsSome (slice_get files i)
  some_within [] i h = absurd (omega (arith, h))
  some_within (f ∷ files) zero h = refl
  some_within (f ∷ files) (suc i) h = some_within files i (omega (arith, h))

  -- a name that is found is a file's
  index_there : length s.names ≡ length s.files → (name : List ℕ) (index : ℕ) → index_of s.names name ≡ Some index → IsSome (slice_get s.files index)
  index_there same name index is =
      let within = (position-Some (bytes_eq name) s.names index [] is).0 in
      some_within s.files index (omega (arith, within, same))

  found_same : (name owner : ℕ) (found : Option ℕ) → ((index : ℕ) → found ≡ Some index → IsSome (slice_get s.files index)) → IsAnswerTo (Create name owner) (created_by s (mirror_name name) owner found).reply
      → SamePlan (Create name owner) (create_in s (mirror_name name) caller (made_by s.clock (owner_set (Some 416) owner) found)) (created_by s (mirror_name name) owner found)
  found_same name owner None there answers = made_same name owner (tick_refusal s.clock) answers
  found_same name owner (Some index) there answers = there_same name owner index (slice_get s.files index) refl (there index refl)

  -- the name is neither too long nor empty, so it is looked for
  made_is : (name owner : ℕ) → name < 2 ^ 64 → (found : Option ℕ)
      → (if nat_lt max_name (length (mirror_name name)) then NotMade stat.NameTooLong else made_how s.clock (mirror_name name) (Unchecked (owner_set (Some 416) owner)) found)
      ≡ made_by s.clock (owner_set (Some 416) owner) found
  made_is name owner h found =
      let size : length (mirror_name name) ≡ 1 + length (decimal name) = length-append (codes "m") (decimal name) in
      let short : nat_lt max_name (length (mirror_name name)) ≡ false = le-ltb _ _ (omega (arith, size, twenty_digits name h)) in
      let some : (length (mirror_name name) == 0) ≡ false = ne_eqb (length (mirror_name name)) 0 (λ e. omega (arith, size, e)) in
      ap (λ (b : Bool). if b then NotMade stat.NameTooLong else made_how s.clock (mirror_name name) (Unchecked (owner_set (Some 416) owner)) found) short
      ∙ ap (λ (b : Bool). if b || false then NotMade stat.Inval else made_by s.clock (owner_set (Some 416) owner) found) some

  create_named : (name owner : ℕ) → name < 2 ^ 64 → length s.names ≡ length s.files → IsAnswerTo (Create name owner) (create_in_root s caller (mirror_name name) owner).reply
      → SamePlan (Create name owner) (create_in s (mirror_name name) caller (create_case s.clock s.names (mirror_name name) (Unchecked (owner_set (Some 416) owner)) caller)) (create_in_root s caller (mirror_name name) owner)
  unfolding in_directory of_root wcc_of_root
  create_named name owner h same answers =
      subst (λ (k : CreateCase). SamePlan (Create name owner) (create_in s (mirror_name name) caller (if not (caller.uid == 0) then NotMade stat.Acces else k)) (create_in_root s caller (mirror_name name) owner))
      (sym (made_is name owner h found)) (by_uid (caller.uid == 0) answers)
    where
      found : Option ℕ
      found = index_of s.names (mirror_name name)

      by_uid : (t : Bool) → IsAnswerTo (Create name owner) (if not t then replies (Failed (refusal_number Acces) None) else created_by s (mirror_name name) owner found).reply
          → SamePlan (Create name owner) (create_in s (mirror_name name) caller (if not t then NotMade stat.Acces else made_by s.clock (owner_set (Some 416) owner) found)) (if not t then replies (Failed (refusal_number Acces) None) else created_by s (mirror_name name) owner found)
      by_uid false answers = record { effect = refl; beside = in_directory of_root wcc_of_root; reply = refl }
      by_uid true answers = found_same name owner found (λ index is. index_there same (mirror_name name) index is) answers

  -- ---- all five

  pub plan_same : (call : DsCallValue) → IsSpeakable call → length s.names ≡ length s.files → IsAnswerTo call (ds_plan s caller call).reply
      → SamePlan call (plan_of s (nfs_call_of call) caller) (ds_plan s caller call)
  plan_same (Create name owner) fits same answers =
      subst (λ (o : Object). SamePlan (Create name owner) (create_plan s o (mirror_name name) (Unchecked (owner_set (Some 416) owner)) caller) (ds_plan s caller (Create name owner))) (sym (object_there s.files 1 (omega arith)))
      (create_named name owner fits.0 same answers)
  plan_same (SetAttr fileid owner guard) fits same answers =
      subst (λ (o : Object). SamePlan (SetAttr fileid owner guard) (set_plan s o (owner_set None owner) (Some (guard_time guard)) caller) (ds_plan s caller (SetAttr fileid owner guard))) (sym (object_there s.files fileid fits.0))
      (set_named fileid owner guard (named s.files fileid))
  plan_same (Write fileid at synced bytes) fits same answers =
      subst (λ (o : Object). SamePlan (Write fileid at synced bytes) (write_plan s o at (length bytes) (asked_stability synced) bytes caller) (ds_plan s caller (Write fileid at synced bytes))) (sym (object_there s.files fileid fits.0))
      (write_named fileid at synced bytes (named s.files fileid) answers)
  plan_same (Commit fileid) fits same answers =
      subst (λ (o : Object). SamePlan (Commit fileid) (commit_plan s o caller) (ds_plan s caller (Commit fileid))) (sym (object_there s.files fileid fits))
      (commit_named fileid (named s.files fileid) answers)
  plan_same (Read fileid at count) fits same answers =
      subst (λ (o : Object). SamePlan (Read fileid at count) (reply_alone (read_reply s o at count caller)) (ds_plan s caller (Read fileid at count))) (sym (object_there s.files fileid fits.0))
      (read_named fileid at count (named s.files fileid) answers)
