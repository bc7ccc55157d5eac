-- A file takes a step, if what it draws is there.
use Rattle.std.proofs.Common.{◌≡◌, ℕ, ◌+◌, ◌-◌, ◌<◌, ◌≤◌, true, ltb, List, ◌++◌, length, set, Option, Some, None, refl, sym, subst, arith, append-nil}
use Rattle.std.specs.List.{AllByRecursion}
use Rattle.std.proofs.lemmas.Bool.{cond_both, and_parts, ltb-true}
use Rattle.cluster_model.specs.declared.ids.MirrorId.{MirrorId}
use Rattle.cluster_model.specs.declared.entry.Entry.{Entry}
use Rattle.cluster_model.specs.Journal.{Copy, copy_after}
use Rattle.cluster_model.specs.Phases.{ids_of}
use Rattle.file_rule.specs.MdsFiles.{MdsFile, FileStep}
use Rattle.file_rule.specs.FilePhases.{FileInput, end_of_uids, phase}
use Rattle.cluster_laws.specs.Machine.{Machine, MachineStep, Holding, no_move, numbered_at, with_file, fresh_of, held_by, file_id, can_draw, file_stepped, file_takes}
use Rattle.cluster_laws.proofs.Lists.{all_more}
use Rattle.cluster_laws.proofs.Invariant.{Drawn, Net, IsPacket, net_of, Holds}
use Rattle.cluster_laws.proofs.Onward.{Later, packet_on}
use Rattle.cluster_laws.proofs.Moved.{IsNote, moved_holds}
use Rattle.cluster_laws.proofs.Rows.{RowOk}
use Rattle.cluster_laws.proofs.Draws.{draws, drawn_net, later_drawn, later_same, top_other, top_less, lows_drawn}
use Rattle.cluster_laws.proofs.CopySteps.{StepOk, Plain, Draws}
use Rattle.cluster_laws.proofs.PhaseOk.{IsInput, phase_ok}
use Rattle.cluster_laws.proofs.KnownNow.{all_stand, known_now}

pub note_copies : (n next_uid : ℕ) (entries : List Entry) → AllByRecursion (IsNote n next_uid) entries → AllByRecursion (λ x. (id : MirrorId) (c : Copy) → copy_after id c x ≡ c) entries
note_copies n next_uid entries h = all_more (IsNote n next_uid) (λ x. (id : MirrorId) (c : Copy) → copy_after id c x ≡ c) entries (λ e k. k.copies) h

module _ (m : Machine) (journal : List Entry) (d : Drawn) (h : Holds m journal d) where
  abbrev net : Net
  net = net_of m d

  -- it holds after a move, with what was drawn by then
  abbrev pub HoldsAfter : MachineStep → Type 0
  HoldsAfter x = (e : Drawn) × Holds x.machine (journal ++ x.entries) e

  pub no_step : HoldsAfter (no_move m)
  no_step = (d, subst (λ (j : List Entry). Holds m j d) (sym (append-nil journal)) h)

  -- ---- one file

  module _ (n : ℕ) (f : MdsFile) (there : numbered_at m.files n ≡ Some f) (g : MdsFile) (entries : List Entry) (held : List Holding) where
    -- the machine then, by the next uid and the next name
    abbrev pub then : ℕ → ℕ → Machine
    then uid name = record { servers = m.servers; files = set m.files (n - 1) g; next_uid = uid; next_name = name; last_xid = m.last_xid; packets = m.packets; holdings = held }

    pub plain_holds : RowOk net journal n m.next_uid g entries → Holds (then m.next_uid m.next_name) (journal ++ entries) d
    plain_holds row =
        moved_holds m journal d h (set m.files (n - 1) g) m.next_uid m.next_name m.last_xid m.packets held d h.few_names (later_same net (all_stand m journal d h)) entries (note_copies n m.next_uid entries row.notes)
        n f g there refl row.notes row.right row.file h.packets (λ k other. refl) h.tops h.lows (omega arith)

    pub drawn_holds : (names : ℕ) → m.next_name + names ≤ 18446744073709551616 → RowOk (drawn_net net n m.next_uid names) journal n (m.next_uid + 1) g entries
        → Holds (then (m.next_uid + 1) (m.next_name + names)) (journal ++ entries) (draws d m.next_name n m.next_uid)
    drawn_holds names few row =
        let later : Later net (drawn_net net n m.next_uid names) = later_drawn net n m.next_uid names (all_stand m journal d h) h.tops in
        moved_holds m journal d h (set m.files (n - 1) g) (m.next_uid + 1) (m.next_name + names) m.last_xid m.packets held (draws d m.next_name n m.next_uid) few later entries (note_copies n (m.next_uid + 1) entries row.notes)
        n f g there refl row.notes row.right row.file
        (all_more (IsPacket net) (IsPacket (drawn_net net n m.next_uid names)) m.packets (packet_on net (drawn_net net n m.next_uid names) later) h.packets)
        (λ k other. top_other d m.next_name n m.next_uid k other) (λ k. top_less d m.next_name n m.next_uid k (h.tops k)) (λ k less. lows_drawn d m.next_name n m.next_uid h.tops h.lows k) (omega arith)

  -- ---- a step of it

  pub few_by : (uids names : ℕ) → can_draw m uids names ≡ true → m.next_name + names ≤ 18446744073709551616
  few_by uids names is =
      let less : m.next_name + names < 18446744073709551616 = ltb-true (m.next_name + names) 18446744073709551616 (and_parts (ltb (m.next_uid + uids) (end_of_uids + 1)) (ltb (m.next_name + names) 18446744073709551616) is).1 in
      omega (arith, less)

  pub none_more : (a b : ℕ) → b ≡ 0 → a ≡ a + b
  none_more a b e = omega (arith, e)

  pub one_more : (a b : ℕ) → b ≡ 1 → a + 1 ≡ a + b
  one_more a b e = omega (arith, e)

  step_taken : (n : ℕ) (f : MdsFile) → numbered_at m.files n ≡ Some f → (s : FileStep) (held : List Holding) → StepOk net journal n m.next_uid s → m.next_name + s.names ≤ 18446744073709551616
      → HoldsAfter (record { machine = with_file m n s held; entries = s.entries })
  step_taken n f there s held (Plain uids names row) few = (
    d,
    subst (λ (uid : ℕ). Holds (then n f there s.file s.entries (m.holdings ++ held) uid (m.next_name + s.names)) (journal ++ s.entries) d) (none_more m.next_uid s.uids uids)
        (subst (λ (name : ℕ). Holds (then n f there s.file s.entries (m.holdings ++ held) m.next_uid name) (journal ++ s.entries) d) (none_more m.next_name s.names names)
        (plain_holds n f there s.file s.entries (m.holdings ++ held) row)),
  )
  step_taken n f there s held (Draws uids row) few = (
    draws d m.next_name n m.next_uid,
    subst (λ (uid : ℕ). Holds (then n f there s.file s.entries (m.holdings ++ held) uid (m.next_name + s.names)) (journal ++ s.entries) (draws d m.next_name n m.next_uid)) (one_more m.next_uid s.uids uids)
        (drawn_holds n f there s.file s.entries (m.holdings ++ held) s.names few row),
  )

  pub step_ok : (n : ℕ) (f : MdsFile) → numbered_at m.files n ≡ Some f → (s : FileStep) → StepOk net journal n m.next_uid s → HoldsAfter (file_stepped m n s)
  step_ok n f there s ok =
      cond_both (can_draw m s.uids s.names) (record { machine = with_file m n s (held_by (ids_of s.file.layout.live) s.entries); entries = s.entries }) (no_move m) HoldsAfter
      (λ e. step_taken n f there s (held_by (ids_of s.file.layout.live) s.entries) ok (few_by s.uids s.names e)) (λ e. no_step)

  -- an input comes to a file, if it is there
  pub takes_ok : (n : ℕ) (input : FileInput) → ((f : MdsFile) → numbered_at m.files n ≡ Some f → IsInput net f input) → (f : Option MdsFile) → numbered_at m.files n ≡ f → HoldsAfter (file_takes m n input f)
  takes_ok n input brought None there = no_step
  takes_ok n input brought (Some f) there =
      step_ok n f there (phase (file_id n) f input (fresh_of m)) (phase_ok net n m.next_uid (length m.files) (length m.servers) journal (known_now m journal d h) f (h.files n f there) input (brought f there))
