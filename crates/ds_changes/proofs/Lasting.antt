-- What the log says behind a step is what lasts of the server behind it.
use Rattle.std.proofs.Common.{◌≡◌, ℕ, ◌+◌, ◌-◌, ◌<◌, ◌≤◌, Bool, true, false, List, [], ◌∷◌, ◌++◌, length, get_or, map, set, min, Option, Some, None, refl, sym, ap, subst, ◌∙◌, arith}
use Rattle.std.specs.Prelude.{slice_get, nat_lt, nat_le, nat_eq}
use Rattle.std.specs.List.{AllByRecursion, list_all}
use Rattle.std.proofs.lemmas.Bool.{le-leb, lt-ltb, le-ltb, eq-eqb}
use Rattle.std.proofs.lemmas.List.{map-append, map-set, length-map, length-take, length-drop}
use Rattle.std.proofs.lemmas.List.Folds.{list_all-append}
use Rattle.std.proofs.lemmas.Option.{same_Some, slice_get-map, get_or_from_slice_get}
use Rattle.std.proofs.Math.Seq.{map-set_same}
use Rattle.cluster_model.specs.declared.tick.Tick.{Tick}
use Rattle.cluster_model.specs.declared.tick.Times.{Times}
use Rattle.cluster_model.specs.declared.change.Changes.{Changes}
use Rattle.cluster_model.specs.Ticks.{next_tick}
use Rattle.cluster_model.specs.Content.{Pending, overlay, overlay_all}
use Rattle.cluster_model.specs.File.{StoredFile, FileOp, Writes, Commits, Sets, Restarts, shown, new_file, set as set_attributes, times_after, written, restarted, file_after, clock_after}
use Rattle.cluster_model.specs.Server.{ServerState, Effect, NoEffect, OnFile, NewFile, on_file, with_file, server_after, total_size, max_file, max_total, index_of}
use Rattle.cluster_model.proofs.Placing.{overlay_all_push}
use Rattle.ds_procedures.specs.declared.lookup.TheConstants.{MAX_NAME}
use Rattle.ds_procedures.specs.declared.setattr.TheConstants.{MODE_BITS}
use Rattle.ds_procedures.specs.CodePlans.{HasRoomFor}
use Rattle.ds_files.specs.Decisions.{CanDo, superblock_of, IsMakeable, IsMode, IsWellMadeOp}
use Rattle.ds_log.specs.Bodies.{Logged, Creates, HoldsBytes}
use Rattle.ds_log.specs.Durable.{start_of, durable, with_stored, attributed, holding, ends_in_file, at_fileid, applied}
use Rattle.ds_log.specs.Steady.{IsSteady, IsSteadyFile}
use Rattle.ds_changes.specs.Joined.{IsShown, AreJoined}
use Rattle.ds_changes.specs.Changes.{attributes_body, own_range, HoldsOf, OpBody, BodyOf}
use Rattle.ds_changes.proofs.Covering.{shown_again}
use Rattle.ds_changes.proofs.Sizes.{total_left}
use Rattle.ds_changes.proofs.Keeping.{same_boot, file_keeps, total_after}

-- what lasts of a file
abbrev left : StoredFile → StoredFile
left f = restarted f []

-- a file with nothing pending, whose times are stable
abbrev resting : StoredFile → List ℕ → Times → StoredFile
resting f bytes times = record { content = record { stable = bytes; pending = [] }; owner = f.owner; group = f.group; mode = f.mode; times = times; stable_times = times }

-- ---- what lasts of a server, by its files

durable_set : (s : ServerState) (index : ℕ) (g : StoredFile) (clock : Tick) → clock.boot ≡ s.clock.boot → durable (with_file s index g clock) ≡ with_stored (durable s) index (left g)
durable_set s index g clock same =
    ap (λ (boot : ℕ). let t : ServerState = record { number = s.number; clock = start_of boot; root = s.root; names = s.names; files = map left (set s.files index g) } in t) same
    ∙ ap (λ (files : List StoredFile). let t : ServerState = record { number = s.number; clock = start_of s.clock.boot; root = s.root; names = s.names; files = files } in t) (map-set left s.files index g)

-- a file of which the same lasts
durable_same : (s : ServerState) (index : ℕ) (f g : StoredFile) (clock : Tick) → slice_get s.files index ≡ Some f → clock.boot ≡ s.clock.boot → left g ≡ left f → durable (with_file s index g clock) ≡ durable s
durable_same s index f g clock there same lasts =
    let here : left g ≡ left (get_or s.files index f) = lasts ∙ ap left (sym (get_or_from_slice_get s.files index f f there)) in
    ap (λ (boot : ℕ). let t : ServerState = record { number = s.number; clock = start_of boot; root = s.root; names = s.names; files = map left (set s.files index g) } in t) same
    ∙ ap (λ (files : List StoredFile). let t : ServerState = record { number = s.number; clock = start_of s.clock.boot; root = s.root; names = s.names; files = files } in t) (map-set_same left s.files index g f here)

-- what a body makes of a file that is there
on_left : (s : ServerState) (index : ℕ) (f : StoredFile) (fits : StoredFile → Bool) (change : StoredFile → StoredFile) → slice_get s.files index ≡ Some f → fits (left f) ≡ true
    → at_fileid (durable s) (index + 2) fits change ≡ Some (with_stored (durable s) index (change (left f)))
on_left s index f fits change there fit =
    let low : nat_lt (index + 2) 2 ≡ false = le-ltb _ _ (omega arith) in
    let back : index + 2 - 2 ≡ index = omega arith in
    let found : slice_get (map left s.files) index ≡ Some (left f) = slice_get-map left s.files index ∙ rw there refl in
    rw (low, back, found, fit) refl

-- ---- nothing to log

-- with nothing pending, the same lasts of a file that is made stable
settled_same : (f : StoredFile) (clock : Tick) → IsSteadyFile clock f → f.content.pending ≡ [] → resting f (shown f) f.times ≡ left f
settled_same f clock k none =
    ap (λ (ws : List Pending). resting f (overlay_all f.content.stable ws) f.times) none ∙ ap (λ (times : Times). resting f f.content.stable times) (sym (k.settled none))

own_none : (at : ℕ) (bytes : List ℕ) → own_range at bytes ≡ [] → bytes ≡ []
own_none at [] e = refl
own_none at (b ∷ bytes) e = absurd cc

op_nothing : (s : ServerState) (index : ℕ) (f : StoredFile) (op : FileOp) → IsSteadyFile s.clock f → OpBody s.clock index f op None → left (file_after f s.clock op) ≡ left f
op_nothing s index f (Writes at false []) k is = refl
op_nothing s index f (Writes at false (b ∷ bytes)) k is = refl
op_nothing s index f (Writes at true bytes) k is =
    ap (λ (bs : List ℕ). left (written f (next_tick s.clock) at true bs)) (own_none at bytes is.1) ∙ settled_same f s.clock k is.0
op_nothing s index f Commits k is = settled_same f s.clock k is.0
op_nothing s index f (Sets changes) k is = absurd cc
op_nothing s index f (Restarts pieces) k is = absurd is

at_file : (s : ServerState) (index : ℕ) (op : FileOp) (f : StoredFile) (P : ServerState → Type 0) → slice_get s.files index ≡ Some f → P (with_file s index (file_after f s.clock op) (clock_after s.clock op)) → P (server_after s (OnFile index op))
at_file s index op f P there is = subst (λ (o : Option StoredFile). P (on_file s index op o)) (sym there) is

pub nothing_logged : (s : ServerState) (effect : Effect) → IsSteady s → CanDo s effect → BodyOf s effect None → durable (server_after s effect) ≡ durable s
nothing_logged s NoEffect k can is = refl
nothing_logged s (NewFile name owner group mode) k can is = absurd cc
nothing_logged s (OnFile index op) k can is =
    let f = is.0 in
    let same = same_boot s.clock op s f (can.ready.1 f is.1) in
    at_file s index op f (λ (t : ServerState). durable t ≡ durable s) is.1 (durable_same s index f (file_after f s.clock op) (clock_after s.clock op) is.1 same (op_nothing s index f op (k.each index f is.1) is.2))

-- ---- a new file

new_logged : (s : ServerState) (name : List ℕ) (owner group mode : ℕ) → IsMakeable name mode → index_of s.names name ≡ None → applied (durable s) (Creates name (length s.files + 2) owner group mode (next_tick s.clock)) ≡ Some (durable (server_after s (NewFile name owner group mode)))
new_logged s name owner group mode made absent =
    let f : StoredFile = new_file owner group mode (next_tick s.clock) in
    let some : nat_lt 0 (length name) ≡ true = lt-ltb _ _ made.some in
    let short : nat_le (length name) MAX_NAME ≡ true = le-leb _ _ made.short in
    let fileid : nat_eq (length s.files + 2) (length (map left s.files) + 2) ≡ true = eq-eqb _ _ (ap (λ (n : ℕ). n + 2) (sym (length-map s.files left))) in
    let bits : nat_lt mode MODE_BITS ≡ true = lt-ltb _ _ made.bits in
    let begun : nat_le s.clock.boot s.clock.boot ≡ true = le-leb _ _ (omega arith) in
    let files : map left (s.files ++ f ∷ []) ≡ map left s.files ++ f ∷ [] = map-append left s.files (f ∷ []) in
    rw (some, short, absent, fileid, bits, begun, files) refl

-- ---- bytes that become stable

abbrev EndsInFile : Pending → Type 0
EndsInFile w = w.at + length w.bytes ≤ max_file

-- a range of what is shown ends where the file does, or before
shown_ends : (shown : List ℕ) (ranges : List Pending) → length shown ≤ max_file → AllByRecursion (IsShown shown) ranges → list_all ends_in_file ranges ≡ true
shown_ends shown [] size all = refl
shown_ends shown (r ∷ ranges) size all =
    let long : length r.bytes ≡ min (length r.bytes) (length shown - r.at) = sym (ap length all.0.same) ∙ simp (length-take, length-drop) refl in
    let some = all.0.some in
    let ends : nat_le (r.at + length r.bytes) max_file ≡ true = le-leb _ _ (omega (arith, long, some, size)) in
    rw (ends, shown_ends shown ranges size all.1) refl

own_ends : (own : List Pending) → AllByRecursion EndsInFile own → list_all ends_in_file own ≡ true
own_ends [] all = refl
own_ends (w ∷ own) all = rw (le-leb _ _ all.0, own_ends own all.1) refl

overlay_all_append : (old : List ℕ) (vs ws : List Pending) → overlay_all old (vs ++ ws) ≡ overlay_all (overlay_all old vs) ws
overlay_all_append old [] ws = refl
overlay_all_append old (v ∷ vs) ws = overlay_all_append (overlay old v.at v.bytes) vs ws

-- what is known where bytes of a file become stable
record Stables (s : ServerState) (index : ℕ) (f g : StoredFile) (times : Times) (own : List Pending) (clock : Tick) : Type 0 where
  there : slice_get s.files index ≡ Some f
  steady : IsSteadyFile s.clock f
  lasts : left g ≡ resting f (overlay_all (shown f) own) times
  atime : times.atime ≡ f.times.atime
  begun : times.ctime.boot ≤ s.clock.boot
  boot : clock.boot ≡ s.clock.boot
  ends : AllByRecursion EndsInFile own
  total : total_size (set s.files index g) ≤ max_total

held_is : (s : ServerState) (index : ℕ) (f g : StoredFile) (times : Times) (own ranges : List Pending) (clock : Tick) → Stables s index f g times own clock → AreJoined f.content.pending (shown f) ranges → holding (left f) times.mtime times.ctime (ranges ++ own) ≡ left g
held_is s index f g times own ranges clock k joined =
    let bytes : overlay_all f.content.stable (ranges ++ own) ≡ overlay_all (shown f) own = overlay_all_append f.content.stable ranges own ∙ ap (λ (old : List ℕ). overlay_all old own) (shown_again f.content.stable f.content.pending ranges joined) in
    let atime : f.stable_times.atime ≡ times.atime = k.steady.atime ∙ sym k.atime in
    ap (λ (bs : List ℕ). let at : Times = record { atime = f.stable_times.atime; mtime = times.mtime; ctime = times.ctime } in resting f bs at) bytes
    ∙ ap (λ (t : Tick). let at : Times = record { atime = t; mtime = times.mtime; ctime = times.ctime } in resting f (overlay_all (shown f) own) at) atime
    ∙ sym k.lasts

stable_logged : (s : ServerState) (index : ℕ) (f g : StoredFile) (times : Times) (own ranges : List Pending) (clock : Tick) → Stables s index f g times own clock → AreJoined f.content.pending (shown f) ranges
    → applied (durable s) (HoldsBytes (index + 2) times.mtime times.ctime (ranges ++ own)) ≡ Some (durable (with_file s index g clock))
stable_logged s index f g times own ranges clock k joined =
    let is = held_is s index f g times own ranges clock k joined in
    let back : index + 2 - 2 ≡ index = omega arith in
    let all : list_all ends_in_file (ranges ++ own) ≡ true = list_all-append ends_in_file ranges own ∙ rw (shown_ends (shown f) ranges k.steady.size joined.shows, own_ends own k.ends) refl in
    let less = total_left (set s.files index g) in
    let total : nat_le (total_size (set (map left s.files) index (left g))) max_total ≡ true = le-leb _ _ (subst (λ (files : List StoredFile). total_size files ≤ max_total) (map-set left s.files index g) (omega (arith, less, k.total))) in
    let begun : nat_le times.ctime.boot s.clock.boot ≡ true = le-leb _ _ k.begun in
    on_left s index f _ (λ (h : StoredFile). holding h times.mtime times.ctime (ranges ++ own)) k.there (rw (back, is, all, total, begun) refl)
    ∙ ap (λ (h : StoredFile). Some (with_stored (durable s) index h)) is
    ∙ ap (λ (t : ServerState). Some t) (sym (durable_set s index g clock k.boot))

-- the same of the body that a step has
stable_body : (s : ServerState) (index : ℕ) (f g : StoredFile) (times : Times) (own : List Pending) (clock : Tick) (body : Logged) → Stables s index f g times own clock → HoldsOf index f times own body → applied (durable s) body ≡ Some (durable (with_file s index g clock))
stable_body s index f g times own clock body k h =
    ap (applied (durable s)) h.is ∙ stable_logged s index f g times own h.ranges clock k h.joined

-- ---- each thing that is done to a file

own_within : (at : ℕ) (bytes : List ℕ) → (0 < length bytes → at + length bytes ≤ max_file) → AllByRecursion EndsInFile (own_range at bytes)
own_within at [] short = tt
own_within at (b ∷ bytes) short = (short (omega arith), tt)

written_lasts : (f : StoredFile) (tick : Tick) (at : ℕ) (bytes : List ℕ) → left (written f tick at true bytes) ≡ resting f (overlay_all (shown f) (own_range at bytes)) (times_after f.times tick bytes)
written_lasts f tick at [] = refl
written_lasts f tick at (b ∷ bytes) =
    ap (λ (bs : List ℕ). resting f bs (times_after f.times tick (b ∷ bytes))) (overlay_all_push f.content.stable f.content.pending (record { at = at; bytes = b ∷ bytes }))

atime_stays : (times : Times) (tick : Tick) (bytes : List ℕ) → (times_after times tick bytes).atime ≡ times.atime
atime_stays times tick [] = refl
atime_stays times tick (b ∷ bytes) = refl

ctime_begun : (f : StoredFile) (clock : Tick) (bytes : List ℕ) → IsSteadyFile clock f → (times_after f.times (next_tick clock) bytes).ctime.boot ≤ clock.boot
ctime_begun f clock [] k = k.ctime
ctime_begun f clock (b ∷ bytes) k = omega arith

module _ (s : ServerState) (index : ℕ) (f : StoredFile) (k : IsSteady s) (there : slice_get s.files index ≡ Some f) where
  abbrev Follows : FileOp → Logged → Type 0
  Follows op body = applied (durable s) body ≡ Some (durable (with_file s index (file_after f s.clock op) (clock_after s.clock op)))

  writes : (at : ℕ) (bytes : List ℕ) (body : Logged) → HasRoomFor (superblock_of s) f (Writes at true bytes) → HoldsOf index f (times_after f.times (next_tick s.clock) bytes) (own_range at bytes) body → Follows (Writes at true bytes) body
  writes at bytes body room h =
      stable_body s index f (file_after f s.clock (Writes at true bytes)) (times_after f.times (next_tick s.clock) bytes) (own_range at bytes) (clock_after s.clock (Writes at true bytes)) body (record {
        there = there;
        steady = k.each index f there;
        lasts = written_lasts f (next_tick s.clock) at bytes;
        atime = atime_stays f.times (next_tick s.clock) bytes;
        begun = ctime_begun f s.clock bytes (k.each index f there);
        boot = same_boot s.clock (Writes at true bytes) s f room;
        ends = own_within at bytes room.short;
        total = total_after s index f (Writes at true bytes) there k.room room;
      }) h

  commits : (body : Logged) → HoldsOf index f f.times [] body → Follows Commits body
  commits body h =
      stable_body s index f (file_after f s.clock Commits) f.times [] s.clock body (record {
        there = there;
        steady = k.each index f there;
        lasts = refl;
        atime = refl;
        begun = (k.each index f there).ctime;
        boot = refl;
        ends = tt;
        total = total_after s index f Commits there k.room tt;
      }) h

  sets : (changes : Changes) → IsMode changes.mode → Follows (Sets changes) (attributes_body index (set_attributes f (next_tick s.clock) changes))
  sets changes made =
      let g : StoredFile = set_attributes f (next_tick s.clock) changes in
      let bits : nat_lt g.mode MODE_BITS ≡ true = lt-ltb _ _ (file_keeps s f (Sets changes) (k.each index f there) tt made).mode in
      let begun : nat_le s.clock.boot s.clock.boot ≡ true = le-leb _ _ (omega arith) in
      on_left s index f _ (λ (h : StoredFile). attributed h g.owner g.group g.mode g.times) there (rw (bits, begun) refl)
      ∙ ap (λ (t : ServerState). Some t) (sym (durable_set s index g (next_tick s.clock) refl))

  op_logged : (op : FileOp) (body : Logged) → HasRoomFor (superblock_of s) f op → IsWellMadeOp op → OpBody s.clock index f op (Some body) → Follows op body
  op_logged (Writes at false bytes) body room made is = absurd cc
  op_logged (Writes at true bytes) body room made is = writes at bytes body room is
  op_logged Commits body room made is = commits body is
  op_logged (Sets changes) body room made is = ap (applied (durable s)) (same_Some body (attributes_body index (set_attributes f (next_tick s.clock) changes)) is) ∙ sets changes made
  op_logged (Restarts pieces) body room made is = absurd is

-- ---- the law

pub body_logged : (s : ServerState) (effect : Effect) (body : Logged) → IsSteady s → CanDo s effect → BodyOf s effect (Some body) → applied (durable s) body ≡ Some (durable (server_after s effect))
body_logged s NoEffect body k can is = absurd cc
body_logged s (NewFile name owner group mode) body k can is =
    ap (applied (durable s)) (same_Some body (Creates name (length s.files + 2) owner group mode (next_tick s.clock)) is) ∙ new_logged s name owner group mode can.made can.ready.1
body_logged s (OnFile index op) body k can is =
    let f = is.0 in
    at_file s index op f (λ (t : ServerState). applied (durable s) body ≡ Some (durable t)) is.1 (op_logged s index f k is.1 op body (can.ready.1 f is.1) can.made is.2)
