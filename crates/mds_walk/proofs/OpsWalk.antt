-- Each operation on files and layouts keeps what is kept in each case.
use Rattle.std.proofs.Common.{◌≡◌, ◌≤◌, ℕ, ◌+◌, Bool, true, false, cond, List, [], ◌∷◌, length, Option, Some, None, refl, sym, ap, subst, ◌∙◌, inl, arith}
use Rattle.std.specs.Prelude.{◌-◌, ◌&&◌, not, nat_lt, is_some}
use Rattle.std.proofs.lemmas.Bool.{cond_both, and_parts, ne_eqb, ltb-false}
use Rattle.std.proofs.lemmas.Bool.Decides.{nat_tests}
use Rattle.ff_xdr.specs.Form.{Value}
use Rattle.ff_xdr.specs.Arms.{arm, by_arm, of_each_arm}
use Rattle.cluster_model.specs.declared.limits.TheConstants.{MAX_FILE, PIECE_SIZE, SPARE_UIDS}
use Rattle.cluster_model.specs.declared.layout_state.LayoutPhase.{LayoutPhase}
use Rattle.cluster_model.specs.declared.layout_state.LayoutPhase.TheVariants.{Making, Free, Held, Fencing, Settling, Copying}
use Rattle.cluster_model.specs.declared.ids.NodeId.{NodeId}
use Rattle.cluster_model.specs.declared.ids.NodeId.TheVariants.{Mds, Server, Client}
use Rattle.cluster_model.specs.declared.ids.FileId.{FileId}
use Rattle.cluster_model.specs.declared.phase.EndCause.TheVariants.{ReturnedAll}
use Rattle.cluster_model.specs.declared.phase.Phase.{Phase}
use Rattle.cluster_model.specs.declared.entry.Entry.{Entry}
use Rattle.cluster_model.specs.declared.entry.Entry.TheVariants as entry
use Rattle.cluster_model.specs.Phases.{holder_of, phase_of}
use Rattle.device_addr.specs.Universal.{AddressValue}
use Rattle.file_rule.specs.MdsFiles.{FileStep}
use Rattle.file_rule.specs.FilePhases.{OwnWrite, AsksLayout, Returns, phase, end_of_uids, are_spent}
use Rattle.ff_layout.specs.IoError.{ff_ioerr4}
use Rattle.layout_report.specs.Reports.{report_of}
use Rattle.nfs4_types.specs.declared.status.Stat4.{Stat4}
use Rattle.nfs4_types.specs.declared.status.Stat4.TheVariants as stat
use Rattle.nfs4_file_ops.specs.Close.{close4_args}
use Rattle.nfs4_file_ops.specs.Open.{open4_args}
use Rattle.nfs4_file_ops.specs.Read.{read4_args}
use Rattle.nfs4_file_ops.specs.Write.{write4_args}
use Rattle.nfs4_file_ops.specs.GetDeviceInfo.{getdeviceinfo4_args}
use Rattle.nfs4_file_ops.specs.LayoutCommit.{layoutcommit4_args}
use Rattle.nfs4_file_ops.specs.LayoutGet.{layoutget4_args}
use Rattle.nfs4_file_ops.specs.LayoutReturn.{layoutreturn4, layoutreturn_file4, layoutreturn4_args}
use Rattle.open_state.specs.declared.open.Open.{Open}
use Rattle.open_state.specs.Opens.{open_of, opened, closed}
use Rattle.mds_refusals.specs.declared.object.Object.{Object}
use Rattle.mds_refusals.specs.declared.object.Object.TheVariants.{File}
use Rattle.mds_refusals.specs.declared.open.Creation.{Creation}
use Rattle.mds_refusals.specs.declared.open.OpenFound.{OpenFound}
use Rattle.mds_refusals.specs.Opens.{open_order, has_room}
use Rattle.mds_refusals.specs.Orders.{Order, refusal}
use Rattle.nfs4_compound.specs.Results.{resop4}
use Rattle.mds_refusals.specs.Lookup.{lookup_order}
use Rattle.mds_refusals.specs.Commit.{commit_order}
use Rattle.mds_refusals.specs.LayoutReturns.{layout_return_all_order}
use Rattle.mds_refusals.specs.LayoutCommit.{layout_commit_order}
use Rattle.mds_refusals.specs.Writes.{has_bytes, write_order}
use Rattle.mds_refusals.specs.declared.write.WriteAsk.{WriteAsk}
use Rattle.mds_refusals.specs.LayoutGets.{layout_get_order}
use Rattle.mds_refusals.specs.GetDeviceInfo.{device_info_order}
use Rattle.mds_refusals.specs.PutFh.{put_fh_order, object_of}
use Rattle.mds_rule.specs.MdsStates.{CompoundRun, ServedFile, MdsSend, MdsValue, MdsStep, sends_none, confirmed_node, served, with_served, numbered, file_named}
use Rattle.mds_rule.specs.OpSteps.{OpStep, with_result, at_object, gives, refused_or}
use Rattle.mds_rule.specs.ServedFiles.{has_fresh, file_stepped, input_at, asks_back, ends_periods}
use Rattle.mds_rule.specs.SessionOps.{goes_with}
use Rattle.mds_rule.specs.FileOps.{client_of, current_file, file_or_none, stateid_in, named_in, write_verifier, phase_or_free, uids_left, put_object, runs_put_fh, get_object, runs_get_fh, runs_lookup, get_attributes, runs_get_attr, with_new_file, opens_or_makes, opens_file, open_named, creation_in, can_open, may_make, runs_open, name_in, closes, runs_close, runs_commit, reads_at, runs_read, read_length, with_read, with_write, writes_at, writes_file, ends_by, write_refused, runs_write, write_ask, is_delay}
use Rattle.mds_rule.specs.LayoutOps.{no_stateid, layout_asked, layout_found, with_holder, granted_in, grants_to, is_granted, phase_behind, later_by, layout_answer, runs_layout_get, is_try_later, errors_of, client_number, return_by, returns_file, file_return, returns_all, runs_layout_return, runs_layout_commit, device_from, device_size, device_answer, runs_get_device_info}
use Rattle.mds_walk.proofs.Parts.{Enters, HeardOf, CanBegin, Parts, TakesInput, TakesReturns}
use Rattle.mds_walk.proofs.Keeping.{KeepsOp, no_entries, stays, enters_then}
use Rattle.mds_walk.proofs.Served.{stepped_there}
use Rattle.mds_walk.proofs.ServedWalk.{asks, periods, refused, unless_refused, takes_by}
use Rattle.mds_walk.proofs.LayoutHolders.{again_holds, new_free}
use Rattle.std.proofs.lemmas.Option.{same_Some}

-- ---- an OPEN that makes a file

-- nothing of it is wrong
abbrev AreNot : Order → Type 0
AreNot [] = Unit {0}
AreNot (fault ∷ rest) = (fault.0 ≡ false) × AreNot rest

none_refused : (order : Order) → refusal order ≡ None → AreNot order
none_refused [] is = tt
none_refused ((b, status) ∷ rest) is = by_test b is (none_refused rest)
  where
    by_test : (b : Bool) → cond b (Some status) (refusal rest) ≡ None → (refusal rest ≡ None → AreNot rest) → (b ≡ false) × AreNot rest
    by_test true its more = absurd cc
    by_test false its more = (refl, more its)

abbrev found_of : MdsValue → CompoundRun → Option FileId → OpenFound
found_of m c found = record { file = found; can_open = can_open m (client_of c) found; can_make = may_make m }

was_not : (b : Bool) → not b ≡ false → b ≡ true
was_not true is = refl
was_not false is = absurd cc

makes_so : (m : MdsValue) (c : CompoundRun) (access : ℕ) (creation : Creation) (name : List ℕ) → refusal (open_order c.current name access creation (found_of m c None)) ≡ None → may_make m ≡ true
makes_so m c access creation name so =
    (and_parts (can_open m (client_of c) None) (may_make m) (was_not (has_room (found_of m c None)) (none_refused (open_order c.current name access creation (found_of m c None)) so).1.1.1.1.1.1.0)).1

-- a WRITE of bytes that is not refused
both_off : (b c : Bool) → b ≡ true → (b && c) ≡ false → c ≡ false
both_off true c is off = off
both_off false c is off = absurd cc

let_through : (c : CompoundRun) (ask : WriteAsk) → 1 ≤ ask.length → refusal (write_order c.current ask) ≡ None → (ask.length ≤ PIECE_SIZE) × (ask.offset + ask.length ≤ MAX_FILE)
let_through c ask some so =
    let order = none_refused (write_order c.current ask) so in
    let has : has_bytes ask ≡ true = ap not (ne_eqb ask.length 0 (λ is. omega (arith, is, some))) in
    let few : nat_lt PIECE_SIZE ask.length ≡ false = order.1.1.1.0 in
    let within : nat_lt MAX_FILE (ask.offset + ask.length) ≡ false = both_off (has_bytes ask) (nat_lt MAX_FILE (ask.offset + ask.length)) has order.1.1.1.1.0 in
    (ltb-false PIECE_SIZE ask.length few, ltb-false MAX_FILE (ask.offset + ask.length) within)

free_only : (p : LayoutPhase) → Rattle.mds_refusals.specs.Writes.is_free (phase_of p) ≡ true → p ≡ Free
free_only Making is = absurd cc
free_only Free is = refl
free_only (Held holder recalled) is = absurd cc
free_only (Fencing next end) is = absurd cc
free_only (Settling copies) is = absurd cc
free_only (Copying copier copies) is = absurd cc

still_left : (uid : ℕ) → nat_lt (end_of_uids - uid) SPARE_UIDS ≡ false → nat_lt end_of_uids (uid + SPARE_UIDS) ≡ false
still_left uid spare = grind (arith, nat_tests, spare)

let_begin : (m : MdsValue) (c : CompoundRun) (s : ServedFile) (ask : WriteAsk) (at : ℕ) (bytes : List ℕ) → ask.offset ≡ at → ask.length ≡ length bytes → ask.uids_left ≡ uids_left m → ask.phase ≡ phase_of s.file.layout.phase
    → 1 ≤ length bytes → refusal (write_order c.current ask) ≡ None → CanBegin m s at bytes
let_begin m c s ask at bytes offset count uids free some so =
    let order = none_refused (write_order c.current ask) so in
    let many : 1 ≤ ask.length = omega (arith, count, some) in
    let has : has_bytes ask ≡ true = ap not (ne_eqb ask.length 0 (λ is. omega (arith, is, many))) in
    let limits : (ask.length ≤ PIECE_SIZE) × (ask.offset + ask.length ≤ MAX_FILE) = let_through c ask many so in
    let few : ask.length ≤ PIECE_SIZE = limits.0 in
    let within : ask.offset + ask.length ≤ MAX_FILE = limits.1 in
    let is_so : not (Rattle.mds_refusals.specs.Writes.is_free ask.phase) ≡ false = both_off (has_bytes ask) (not (Rattle.mds_refusals.specs.Writes.is_free ask.phase)) has order.1.1.1.1.1.0 in
    let left : nat_lt ask.uids_left SPARE_UIDS ≡ false = both_off (has_bytes ask) (nat_lt ask.uids_left SPARE_UIDS) has order.1.1.1.1.1.1.0 in
    record {
      free = free_only s.file.layout.phase (ap Rattle.mds_refusals.specs.Writes.is_free (sym free) ∙ was_not (Rattle.mds_refusals.specs.Writes.is_free ask.phase) is_so);
      unspent = still_left m.fresh.uid (ap (λ (n : ℕ). nat_lt n SPARE_UIDS) (sym uids) ∙ left);
      some = some;
      few = subst (λ (n : ℕ). n ≤ PIECE_SIZE) count few;
      within = subst (λ (n : ℕ). at + n ≤ MAX_FILE) count (subst (λ (n : ℕ). n + ask.length ≤ MAX_FILE) offset within);
    }

module _ (I : MdsValue → List Entry → List MdsSend → Type 0) (Heard : HeardOf) (W : CompoundRun → Type 0) (k : Parts I Heard W) where
  -- ---- names and opens

  object_put : (m : MdsValue) (c : CompoundRun) (o : Option Object) → KeepsOp I m (put_object m c o)
  object_put m c None = stays I m
  object_put m c (Some object) = stays I m

  pub puts_fh : (m : MdsValue) (c : CompoundRun) (handle : List ℕ) → KeepsOp I m (runs_put_fh m c handle)
  puts_fh m c handle = refused I Heard W k m c 22 (refusal (put_fh_order handle (length m.files))) _ (object_put m c (object_of handle))

  object_got : (m : MdsValue) (c : CompoundRun) (o : Option Object) → KeepsOp I m (get_object m c o)
  object_got m c None = stays I m
  object_got m c (Some object) = stays I m

  pub gets_fh : (m : MdsValue) (c : CompoundRun) → KeepsOp I m (runs_get_fh m c)
  gets_fh m c = object_got m c c.current

  pub looks_up : (m : MdsValue) (c : CompoundRun) (name : List ℕ) → KeepsOp I m (runs_lookup m c name)
  looks_up m c name =
      refused I Heard W k m c 15 (refusal (lookup_order c.current name (file_named m name))) (gives m (at_object c (File (file_or_none (file_named m name)))) (arm 15 resop4 (inl tt))) (stays I m)

  attributes_got : (m : MdsValue) (c : CompoundRun) (words : List ℕ) (o : Option Object) → KeepsOp I m (get_attributes m c words o)
  attributes_got m c words None = stays I m
  attributes_got m c words (Some object) = stays I m

  pub gets_attr : (m : MdsValue) (c : CompoundRun) (words : List ℕ) → KeepsOp I m (runs_get_attr m c words)
  gets_attr m c words = attributes_got m c words c.current

  open_walk : (m : MdsValue) (c : CompoundRun) (access : ℕ) (creation : Creation) (name : List ℕ) (o : Option FileId) → KeepsOp I m (open_named m c access creation name o)
  open_walk m c access creation name (Some file) =
      refused I Heard W k m c 18 (refusal (open_order c.current name access creation (found_of m c (Some file)))) (opens_file m c file)
      (no_entries I m (record m { opens = opened m.opens (client_of c) file }) (k.opens m (client_of c) file))
  open_walk m c access creation name None =
      unless_refused I Heard W k m c 18 (refusal (open_order c.current name access creation (found_of m c None))) (opens_or_makes m c name None)
      (λ so.
      no_entries I m (record (with_new_file m name) { opens = opened m.opens (client_of c) (numbered (length m.files + 1)) })
      (λ es ss i. k.opens (with_new_file m name) (client_of c) (numbered (length m.files + 1)) es ss (k.makes m name (makes_so m c access creation name so) es ss i)))

  pub opens : (m : MdsValue) (c : CompoundRun) (args : Value open4_args) → KeepsOp I m (runs_open m c args)
  opens m c (seqid, (access, (deny, (clientid, (owner, (how, claim)))))) = open_walk m c access (creation_in how) (name_in claim) (file_named m (name_in claim))

  close_walk : (m : MdsValue) (c : CompoundRun) (file : FileId) (o : Option Open) → KeepsOp I m (closes m c file o)
  close_walk m c file None = stays I m
  close_walk m c file (Some o) = no_entries I m (record m { opens = closed m.opens (client_of c) file }) (k.closes m (client_of c) file)

  pub closes_file : (m : MdsValue) (c : CompoundRun) (args : Value close4_args) → KeepsOp I m (runs_close m c args)
  closes_file m c (seqid, stateid) = refused I Heard W k m c 4 _ _ (close_walk m c (current_file c) (open_of m.opens (client_of c) (current_file c)))

  pub commits : (m : MdsValue) (c : CompoundRun) → KeepsOp I m (runs_commit m c)
  commits m c = refused I Heard W k m c 5 (refusal (commit_order c.current)) (gives m c (arm 5 resop4 (inl write_verifier))) (stays I m)

  -- ---- bytes

  read_walk : (m : MdsValue) (c : CompoundRun) → W c → (file : FileId) (at count : ℕ) (o : Option ServedFile) → served m file ≡ o → KeepsOp I m (reads_at m c file at count o)
  read_walk m c its file at count None is = stays I m
  read_walk m c its file at count (Some s) is = no_entries I m (with_served m file (with_read c at count s)) (k.begins_read m file s c at count its is)

  pub reads : (m : MdsValue) (c : CompoundRun) (args : Value read4_args) → W c → KeepsOp I m (runs_read m c args)
  reads m c (stateid, (offset, count)) its = refused I Heard W k m c 25 _ _ (read_walk m c its (current_file c) offset (read_length count) (served m (current_file c)) refl)

  write_begun : (m : MdsValue) (c : CompoundRun) → W c → (file : FileId) (at : ℕ) (bytes : List ℕ) → (o : Option ServedFile) → served m file ≡ o → ((s : ServedFile) → o ≡ Some s → CanBegin m s at bytes)
      → Enters I m (writes_at (input_at m file (OwnWrite at bytes) o).mds c file at bytes (served (input_at m file (OwnWrite at bytes) o).mds file)) (input_at m file (OwnWrite at bytes) o).entries
  write_begun m c its file at bytes None is can = subst (λ (o : Option ServedFile). Enters I m (writes_at m c file at bytes o) []) (sym is) (stays I m)
  write_begun m c its file at bytes (Some s) is can =
      let step : FileStep = phase file s.file (OwnWrite at bytes) m.fresh in
      let x : MdsStep = file_stepped m file s step in
      cond_both (has_fresh m.fresh) x (sends_none m) (λ (y : MdsStep). Enters I m (writes_at y.mds c file at bytes (served y.mds file)) y.entries)
      (λ fresh.
      subst (λ (o : Option ServedFile). Enters I m (writes_at x.mds c file at bytes o) x.entries) (sym (stepped_there m file s step is)) (k.begins_write m file s c at bytes its is (can s refl) fresh))
      (λ spent.
      subst (λ (o : Option ServedFile). Enters I m (writes_at m c file at bytes o) []) (sym is) (no_entries I m (with_served m file (with_write c at bytes s)) (k.begins_alone m file s c at bytes its is (can s refl) spent)))

  write_walk : (m : MdsValue) (c : CompoundRun) → W c → (args : Value write4_args) → refusal (write_order c.current (write_ask m c args)) ≡ None → KeepsOp I m (writes_file m c args)
  write_walk m c its (stateid, (offset, (stable, []))) so = stays I m
  write_walk m c its (stateid, (offset, (stable, (b ∷ bytes)))) so =
      write_begun m c its (current_file c) offset (b ∷ bytes) (served m (current_file c)) refl
      (λ s at. let_begin m c s (write_ask m c (stateid, (offset, (stable, (b ∷ bytes))))) offset (b ∷ bytes) refl refl refl (ap phase_or_free at) (omega arith) so)

  pub writes : (m : MdsValue) (c : CompoundRun) (now : ℕ) (args : Value write4_args) → W c → KeepsOp I m (runs_write m c now args)
  writes m c now args its = by_status (refusal (write_order c.current (write_ask m c args))) refl
    where
      by_status : (status : Option Stat4) → refusal (write_order c.current (write_ask m c args)) ≡ status → KeepsOp I m (write_refused m c now args status)
      by_status status so =
          cond_both (is_delay status) (ends_by (asks_back m (current_file c) now) c 38 stat.Delay) (refused_or m c 38 status (writes_file m c args)) (λ (x : OpStep). KeepsOp I m x)
          (λ is. (asks I Heard W k m (current_file c) now).enters) (λ off. unless_refused I Heard W k m c 38 status (writes_file m c args) (λ none. write_walk m c its args (so ∙ none)))

  -- ---- layouts

  -- it is the client's already
  again_walk : (m : MdsValue) (c : CompoundRun) (file : FileId) → ((s : ServedFile) → served m file ≡ Some s → s.holder ≡ Some (client_of c)) → (o : Option ServedFile) → served m file ≡ o → KeepsOp I m (granted_in (sends_none m) c file true o)
  again_walk m c file its None is = stays I m
  again_walk m c file its (Some s) is = no_entries I m (with_served m file (with_holder (client_of c) true s)) (k.gives_again m file s (client_of c) is (its s is))

  -- nobody has it
  new_walk : (m : MdsValue) (c : CompoundRun) (file : FileId) (n : ℕ) → confirmed_node m (client_of c) ≡ Some (Client n) → ((s : ServedFile) → served m file ≡ Some s → (s.file.layout.phase ≡ Free) × (are_spent m.fresh ≡ false))
      → (o : Option ServedFile) → served m file ≡ o → KeepsOp I m (granted_in (input_at m file (AsksLayout n) o) c file false (served (input_at m file (AsksLayout n) o).mds file))
  new_walk m c file n from free None is = subst (λ (o : Option ServedFile). KeepsOp I m (granted_in (sends_none m) c file false o)) (sym is) (stays I m)
  new_walk m c file n from free (Some s) is =
      let step : FileStep = phase file s.file (AsksLayout n) m.fresh in
      let x : MdsStep = file_stepped m file s step in
      let f = free s is in
      cond_both (has_fresh m.fresh) x (sends_none m) (λ (y : MdsStep). KeepsOp I m (granted_in y c file false (served y.mds file)))
      (λ fresh. subst (λ (o : Option ServedFile). KeepsOp I m (granted_in x c file false o)) (sym (stepped_there m file s step is)) (k.grants m file s (client_of c) n from is f.0 f.1 fresh))
      (λ spent.
      subst (λ (o : Option ServedFile). KeepsOp I m (granted_in (sends_none m) c file false o)) (sym is)
      (no_entries I m (with_served m file (with_holder (client_of c) false s)) (k.grants_alone m file s (client_of c) n from is f.0 f.1 spent)))

  grants_walk : (m : MdsValue) (c : CompoundRun) (file : FileId) (again : Bool) → (again ≡ true → (s : ServedFile) → served m file ≡ Some s → s.holder ≡ Some (client_of c))
      → (again ≡ false → (s : ServedFile) → served m file ≡ Some s → (s.file.layout.phase ≡ Free) × (are_spent m.fresh ≡ false)) → (from : Option NodeId) → confirmed_node m (client_of c) ≡ from → KeepsOp I m (grants_to m c file again from)
  grants_walk m c file true its free from node = again_walk m c file (its refl) (served m file) refl
  grants_walk m c file false its free None node = stays I m
  grants_walk m c file false its free (Some Mds) node = stays I m
  grants_walk m c file false its free (Some (Server n)) node = stays I m
  grants_walk m c file false its free (Some (Client n)) node = new_walk m c file n node (free refl) (served m file) refl

  later_walk : (m : MdsValue) (c : CompoundRun) (now : ℕ) (p : Option Phase) → KeepsOp I m (later_by m c now p)
  later_walk m c now None = stays I m
  later_walk m c now (Some p) =
      let s : MdsStep = asks_back m (current_file c) now in
      enters_then I m m s.mds (entry.Later (current_file c) p ∷ []) s.entries (k.later m (current_file c) p) (asks I Heard W k m (current_file c) now).enters

  pub layout_gets : (m : MdsValue) (c : CompoundRun) (now : ℕ) (args : Value layoutget4_args) → KeepsOp I m (runs_layout_get m c now args)
  layout_gets m c now args = by_status (refusal (layout_get_order c.current (layout_asked args) (layout_found m c (layout_asked args)))) refl
    where
      by_status : (status : Option Stat4) → refusal (layout_get_order c.current (layout_asked args) (layout_found m c (layout_asked args))) ≡ status → KeepsOp I m (layout_answer m c now (layout_found m c (layout_asked args)) status)
      by_status status so =
          cond_both (is_try_later status) (later_by m c now (phase_behind (layout_found m c (layout_asked args)).fault)) (refused_or m c 50 status (grants_to m c (current_file c) (is_granted (served m (current_file c))) (confirmed_node m (client_of c)))) (λ (x : OpStep). KeepsOp I m x)
          (λ is. later_walk m c now (phase_behind (layout_found m c (layout_asked args)).fault))
          (λ off.
          unless_refused I Heard W k m c 50 status (grants_to m c (current_file c) (is_granted (served m (current_file c))) (confirmed_node m (client_of c)))
          (λ none.
          grants_walk m c (current_file c) (is_granted (served m (current_file c))) (λ granted s at. again_holds m c (layout_asked args) (so ∙ none) s at granted) (λ free s at. new_free m c (layout_asked args) (so ∙ none) s at free)
          (confirmed_node m (client_of c)) refl))

  return_walk : TakesReturns I → (m : MdsValue) (c : CompoundRun) (file : FileId) (errors : List (Value ff_ioerr4)) (o : Option ServedFile) → served m file ≡ o → KeepsOp I m (return_by m c file errors o)
  return_walk may m c file errors None is = stays I m
  return_walk may m c file errors (Some s) is =
      (takes_by I Heard W k m file (Returns (client_number (holder_of s.file.layout.phase)) s.file.layout.cred (report_of errors s.file.layout.live))
      (λ t there.
      subst (λ (x : ServedFile). TakesInput I m file t (Returns (client_number (holder_of x.file.layout.phase)) x.file.layout.cred (report_of errors x.file.layout.live))) (same_Some t s (sym there ∙ is)) (may m file t errors) there)).enters

  returns_walk : TakesReturns I → (m : MdsValue) (c : CompoundRun) (o : Option (List (Value ff_ioerr4))) → KeepsOp I m (returns_file m c o)
  returns_walk may m c None = stays I m
  returns_walk may m c (Some errors) = return_walk may m c (current_file c) errors (served m (current_file c)) refl

  file_walk : TakesReturns I → (m : MdsValue) (c : CompoundRun) (reclaim : Bool) (layout_type : ℕ) (args : Value layoutreturn_file4) → KeepsOp I m (file_return m c reclaim layout_type args)
  file_walk may m c reclaim layout_type (offset, (length, (stateid, body))) = refused I Heard W k m c 51 _ _ (returns_walk may m c (errors_of body))

  all_walk : (m : MdsValue) (c : CompoundRun) (reclaim : Bool) (layout_type : ℕ) → KeepsOp I m (returns_all m c reclaim layout_type)
  all_walk m c reclaim layout_type =
      refused I Heard W k m c 51 (refusal (layout_return_all_order layout_type reclaim)) (goes_with (ends_periods m (client_of c) ReturnedAll) (with_result c no_stateid)) (periods I Heard W k m (client_of c) ReturnedAll).enters

  pub layout_returns : (m : MdsValue) (c : CompoundRun) (args : Value layoutreturn4_args) → TakesReturns I → KeepsOp I m (runs_layout_return m c args)
  layout_returns m c (reclaim, (layout_type, (iomode, kind))) may =
      of_each_arm layoutreturn4
      (λ (v : Value layoutreturn4).
      KeepsOp I m (by_arm layoutreturn4 ((λ file. file_return m c reclaim layout_type file), ((λ fsid. returns_all m c reclaim layout_type), ((λ all. returns_all m c reclaim layout_type), tt))) v))
      ((λ file. file_walk may m c reclaim layout_type file), ((λ fsid. all_walk m c reclaim layout_type), ((λ all. all_walk m c reclaim layout_type), tt))) kind

  pub layout_commits : (m : MdsValue) (c : CompoundRun) (args : Value layoutcommit4_args) → KeepsOp I m (runs_layout_commit m c args)
  layout_commits m c (offset, (length, (reclaim, (stateid, rest)))) =
      refused I Heard W k m c 49 (refusal (layout_commit_order c.current (named_in m c (stateid_in stateid)))) (gives m c (arm 49 resop4 (inl None))) (stays I m)

  pub device_infos : (m : MdsValue) (c : CompoundRun) (args : Value getdeviceinfo4_args) → KeepsOp I m (runs_get_device_info m c args)
  device_infos m c (device, (layout_type, (maxcount, notify))) = by_status (device_from 1 m.servers device) (refusal (device_info_order layout_type (is_some (device_from 1 m.servers device)) maxcount (device_size (device_from 1 m.servers device))))
    where
      by_status : (found : Option AddressValue) (status : Option Stat4) → KeepsOp I m (device_answer m c maxcount found status)
      by_status found None = stays I m
      by_status found (Some stat.TooSmall) = stays I m
      by_status found (Some status) = stays I m
