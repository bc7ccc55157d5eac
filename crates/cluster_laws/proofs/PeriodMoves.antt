-- Each move keeps what holds of the periods of all files.
use Rattle.std.proofs.Common.{◌≡◌, ◌≢◌, ℕ, suc, ◌+◌, ◌-◌, ◌<◌, ◌≤◌, Bool, true, false, ltb, ◌&&◌, not, List, [], ◌∷◌, ◌++◌, length, filter, set, Option, Some, None, refl, sym, ap, subst, ◌∙◌, arith, inl, inr, append-nil}
use Rattle.std.specs.Prelude.{slice_get, ◌==◌}
use Rattle.std.specs.List.{AllByRecursion}
use Rattle.std.proofs.lemmas.Bool.{cond_both, cases_eq, and_parts, ltb-true}
use Rattle.std.proofs.lemmas.List.{length-set}
use Rattle.std.proofs.lemmas.Option.{same_Some}
use Rattle.cluster_model.specs.declared.piece.Piece.{Piece}
use Rattle.cluster_model.specs.declared.tick.Tick.{Tick}
use Rattle.cluster_model.specs.declared.ids.NodeId.{NodeId}
use Rattle.cluster_model.specs.declared.ids.NodeId.TheVariants.{Mds, Server, Client}
use Rattle.cluster_model.specs.declared.ids.MirrorId.{MirrorId}
use Rattle.cluster_model.specs.declared.entry.Entry.{Entry}
use Rattle.cluster_model.specs.declared.entry.Entry.TheVariants as entry
use Rattle.cluster_model.specs.declared.call_stage.CallStage.TheVariants.{Waits}
use Rattle.cluster_model.specs.File.{FileOp, Writes, Commits, Sets, Restarts as Restarted}
use Rattle.cluster_model.specs.Server.{ServerState, Caller, Effect, NoEffect, OnFile, NewFile, applied_entries, committed_entries, owner_entries, op_entries, entries_of, restart_of}
use Rattle.cluster_model.specs.DsCalls.{DsCallValue, DsReplyValue, ds_plan}
use Rattle.cluster_model.specs.Phases.{ids_of}
use Rattle.copy_rule.specs.Copies.{is_given_up}
use Rattle.file_rule.specs.MdsFiles.{MdsFile, FileStep, a_uid}
use Rattle.file_rule.specs.declared.creation.Creation.{Creation}
use Rattle.file_rule.specs.FilePhases.{FileInput, Answers, TimesOut, Sees, CallOut, call_out, is_outstanding, creations_at, new_mds_file, are_spent, phase}
use Rattle.cluster_laws.specs.Machine.{PacketValue, Call, Reply, Machine, MachineStep, Holding, Move, Deliver, Creates, Happens, CallsOut, SendsAgain, GivesUpWaiting, Hears, Uses, Learns, Takes, Strays, Tells, Restarts, no_move, numbered_at, with_file, held_by, file_id, fresh_of, can_draw, file_takes, caller_by, arrives_at, file_of, answers_at, comes_to, delivered, comes_by_itself, are_servers, may_create, created, goes_out, call_out_from, sent_again, used, may_use, may_number, heard_at, heard, puts_out, ctime_in, learns_tick, was_write_to, learnt, noted, started_again, restarts_at, moved}
use Rattle.cluster_laws.specs.Telling.{is_telling}
use Rattle.cluster_laws.specs.Periods.{owed_in, user_in}
use Rattle.cluster_laws.proofs.Lists.{all_append, all_more, all_at, put_same, put_other, same_numbered, within_number}
use Rattle.cluster_laws.proofs.Invariant.{Drawn, IsAnswer, If, IsPacket, net_of, Holds}
use Rattle.cluster_laws.proofs.PhaseOk.{IsInput}
use Rattle.cluster_laws.proofs.KnownNow.{known_now}
use Rattle.cluster_laws.proofs.Moves.{brought, answers_input, heard_input, tick_input, next_number}
use Rattle.cluster_laws.proofs.NewFiles.{pushed, pushed_length}
use Rattle.cluster_laws.proofs.PeriodFacts.{AreInPlace, place_more, granted_in, granted_append, none_granted, IsNoPeriod, owed_same, user_same, IsOfFile, IsStill, sent_still, rogue_still, told_still}
use Rattle.cluster_laws.proofs.PeriodStates.{IsMine, IsMadeSo, IsPeriod, period_on, drawn_for, mine_drawn, new_mine, PeriodRow, PeriodOk, Plain, Draws, still_none, still_place, still_grants, still_unused, still_tells, new_unused}
use Rattle.cluster_laws.proofs.PeriodPhases.{phase_row, out_period}

-- of all files, of those that are not there yet, and of the journal
pub record ArePeriods (whose : ℕ → ℕ) (m : Machine) (journal : List Entry) : Type 0 where
  pub files : (n : ℕ) (f : MdsFile) → numbered_at m.files n ≡ Some f → IsPeriod whose m.next_uid journal n f
  pub past : (n : ℕ) → length m.files < n → (owed_in journal (file_id n) ≡ None) × (user_in journal (file_id n) ≡ None)
  pub below : AllByRecursion (λ e. If (granted_in e) (λ u. u < m.next_uid)) journal
  pub place : AreInPlace [] journal
  pub tells : AllByRecursion (λ e. is_telling e ≡ true) journal

-- ---- entries of data servers

applied_still : (id : MirrorId) (uid at : ℕ) (bytes : List ℕ) → AllByRecursion IsStill (applied_entries id uid at bytes)
applied_still id uid at [] = tt
applied_still id uid at (b ∷ bytes) = (record { none = λ f. record { owed = λ o. refl; user = λ j u. refl }; grant = refl; place = λ before. tt; tells = refl }, tt)

committed_still : (id : MirrorId) (synced : Bool) → AllByRecursion IsStill (committed_entries id synced)
committed_still id false = tt
committed_still id true = (record { none = λ f. record { owed = λ o. refl; user = λ j u. refl }; grant = refl; place = λ before. tt; tells = refl }, tt)

owner_still : (id : MirrorId) (owner : Option ℕ) → AllByRecursion IsStill (owner_entries id owner)
owner_still id None = tt
owner_still id (Some uid) = (record { none = λ f. record { owed = λ o. refl; user = λ j u. refl }; grant = refl; place = λ before. tt; tells = refl }, tt)

op_still : (id : MirrorId) (uid : ℕ) (op : FileOp) → AllByRecursion IsStill (op_entries id uid op)
op_still id uid (Writes at synced bytes) = all_append IsStill (applied_entries id uid at bytes) (committed_entries id synced) (applied_still id uid at bytes) (committed_still id synced)
op_still id uid Commits = committed_still id true
op_still id uid (Sets changes) = owner_still id changes.owner
op_still id uid (Restarted pieces) = tt

server_still : (s : ServerState) (uid : ℕ) (effect : Effect) → AllByRecursion IsStill (entries_of s uid effect)
server_still s uid NoEffect = tt
server_still s uid (OnFile index op) = op_still _ uid op
server_still s uid (NewFile name owner group mode) = (record { none = λ f. record { owed = λ o. refl; user = λ j u. refl }; grant = refl; place = λ before. tt; tells = refl }, tt)

module _ (m : Machine) (journal : List Entry) (d : Drawn) (h : Holds m journal d) (whose : ℕ → ℕ) (p : ArePeriods whose m journal) where
  abbrev pub PeriodsAfter : MachineStep → Type 0
  PeriodsAfter x = (w : ℕ → ℕ) × ArePeriods w x.machine (journal ++ x.entries)

  pub none : PeriodsAfter (no_move m)
  none = (whose, subst (λ (j : List Entry). ArePeriods whose m j) (sym (append-nil journal)) p)

  -- ---- the files stay, and the entries say nothing of periods

  quiet : (servers : List ServerState) (next_name : ℕ) (last_xid : NodeId → ℕ) (packets : List PacketValue) (holdings : List Holding) (entries : List Entry) → AllByRecursion IsStill entries
      → ArePeriods whose (record { servers = servers; files = m.files; next_uid = m.next_uid; next_name = next_name; last_xid = last_xid; packets = packets; holdings = holdings }) (journal ++ entries)
  quiet servers next_name last_xid packets holdings entries still = record {
    files = λ n f there. period_on whose m.next_uid whose m.next_uid journal entries n (still_none n entries still) (λ uid k. k) (λ uid mine unused. still_unused journal entries still uid unused) f (p.files n f there);
    past = λ n past.
        let was = p.past n past in
        (owed_same (file_id n) journal entries (still_none n entries still) ∙ was.0, user_same (file_id n) journal entries (still_none n entries still) ∙ was.1);
    below = all_append (λ e. If (granted_in e) (λ u. u < m.next_uid)) journal entries p.below (still_grants (λ u. u < m.next_uid) entries still);
    place = place_more [] journal entries p.place (still_place journal entries still);
    tells = all_append (λ e. is_telling e ≡ true) journal entries p.tells (still_tells entries still);
  }

  -- ---- one file takes a step

  more_than : (a b : ℕ) → a ≤ b → (x : Option ℕ) → If x (λ u. u < a) → If x (λ u. u < b)
  more_than a b up None k = tt
  more_than a b up (Some u) k = omega (arith, up, k)

  module _ (n : ℕ) (f : MdsFile) (there : numbered_at m.files n ≡ Some f) (g : MdsFile) (entries : List Entry) (then_whose : ℕ → ℕ) (then_uid : ℕ) (up : m.next_uid ≤ then_uid)
      (mine_on : (k uid : ℕ) → IsMine whose m.next_uid k uid → IsMine then_whose then_uid k uid) (row : PeriodRow then_whose then_uid journal n g entries) where
    not_mine : (k uid : ℕ) → k ≢ n → IsMine then_whose then_uid k uid → (x : Option ℕ) → If x (IsMine then_whose then_uid n) → If x (λ u. u ≢ uid)
    not_mine k uid other mine None q = tt
    not_mine k uid other mine (Some u) q = λ e. other (sym mine.mine ∙ ap then_whose (sym e) ∙ q.mine)

    drawn_less : (x : Option ℕ) → If x (IsMine then_whose then_uid n) → If x (λ u. u < then_uid)
    drawn_less None q = tt
    drawn_less (Some u) q = q.drawn

    of_other : (k : ℕ) → k ≢ n → AllByRecursion (IsNoPeriod (file_id k)) entries
    of_other k other = all_more (IsOfFile n) (IsNoPeriod (file_id k)) entries (λ e q. q k other) row.of_file

    other_file : (k : ℕ) (x : MdsFile) → k ≢ n → numbered_at m.files k ≡ Some x → IsPeriod then_whose then_uid (journal ++ entries) k x
    other_file k x other is =
        period_on whose m.next_uid then_whose then_uid journal entries k (of_other k other) (mine_on k)
        (λ uid mine unused. granted_append uid journal entries unused
        (none_granted uid entries (all_more (λ e. If (granted_in e) (IsMine then_whose then_uid n)) (λ e. If (granted_in e) (λ u. u ≢ uid)) entries (λ e. not_mine k uid other (mine_on k uid mine) (granted_in e)) row.grants)))
        x (p.files k x is)

    files_now : (k : ℕ) (x : MdsFile) → numbered_at (set m.files (n - 1) g) k ≡ Some x → IsPeriod then_whose then_uid (journal ++ entries) k x
    files_now k x is =
        elim (cases_eq k n) [
          | inl same ↦
              let x_is : g ≡ x = same_numbered (set m.files (n - 1) g) n g x (put_same m.files n f g there) (sym (ap (numbered_at (set m.files (n - 1) g)) same) ∙ is) in
              rw (← x_is, same) row.period
          | inr other ↦ other_file k x other (sym (put_other m.files n k f g there other) ∙ is)
        ]

    stepped : (next_name : ℕ) (last_xid : NodeId → ℕ) (packets : List PacketValue) (holdings : List Holding)
        → ArePeriods then_whose (record { servers = m.servers; files = set m.files (n - 1) g; next_uid = then_uid; next_name = next_name; last_xid = last_xid; packets = packets; holdings = holdings }) (journal ++ entries)
    stepped next_name last_xid packets holdings =
        let within = (within_number m.files n f there).1 in
        let count = length-set m.files (n - 1) g in
        record {
          files = files_now;
          past = λ k past.
              let was = p.past k (omega (arith, past, count)) in
              let none_of = of_other k (λ e. absurd (omega (arith, e, within, past, count))) in
              (owed_same (file_id k) journal entries none_of ∙ was.0, user_same (file_id k) journal entries none_of ∙ was.1);
          below = all_append (λ e. If (granted_in e) (λ u. u < then_uid)) journal entries
              (all_more (λ e. If (granted_in e) (λ u. u < m.next_uid)) (λ e. If (granted_in e) (λ u. u < then_uid)) journal (λ e. more_than m.next_uid then_uid up (granted_in e)) p.below)
              (all_more (λ e. If (granted_in e) (IsMine then_whose then_uid n)) (λ e. If (granted_in e) (λ u. u < then_uid)) entries (λ e. drawn_less (granted_in e)) row.grants);
          place = place_more [] journal entries p.place row.place;
          tells = all_append (λ e. is_telling e ≡ true) journal entries p.tells row.tells;
        }

  none_more : (a b : ℕ) → b ≡ 0 → a ≡ a + b
  none_more a b e = omega (arith, e)

  one_more : (a b : ℕ) → b ≡ 1 → a + 1 ≡ a + b
  one_more a b e = omega (arith, e)

  abbrev with_uid : ℕ → FileStep → List Holding → ℕ → Machine
  with_uid n s held uid = record { servers = m.servers; files = set m.files (n - 1) s.file; next_uid = uid; next_name = m.next_name + s.names; last_xid = m.last_xid; packets = m.packets; holdings = m.holdings ++ held }

  step_taken : (n : ℕ) (f : MdsFile) → numbered_at m.files n ≡ Some f → (s : FileStep) (held : List Holding) → PeriodOk whose m.next_uid journal n s → PeriodsAfter (record { machine = with_file m n s held; entries = s.entries })
  step_taken n f there s held (Plain uids row) = (
    whose,
    subst (λ (uid : ℕ). ArePeriods whose (with_uid n s held uid) (journal ++ s.entries)) (none_more m.next_uid s.uids uids)
        (stepped n f there s.file s.entries whose m.next_uid (omega arith) (λ k uid mine. mine) row (m.next_name + s.names) m.last_xid m.packets (m.holdings ++ held)),
  )
  step_taken n f there s held (Draws uids row) = (
    drawn_for whose m.next_uid n,
    subst (λ (uid : ℕ). ArePeriods (drawn_for whose m.next_uid n) (with_uid n s held uid) (journal ++ s.entries)) (one_more m.next_uid s.uids uids)
        (stepped n f there s.file s.entries (drawn_for whose m.next_uid n) (m.next_uid + 1) (omega arith) (λ k uid mine. mine_drawn whose m.next_uid n k uid mine) row (m.next_name + s.names) m.last_xid m.packets (m.holdings ++ held)),
  )

  takes : (n : ℕ) (input : FileInput) → ((f : MdsFile) → numbered_at m.files n ≡ Some f → IsInput (net_of m d) f input) → (f : Option MdsFile) → numbered_at m.files n ≡ f → PeriodsAfter (file_takes m n input f)
  takes n input given None there = none
  takes n input given (Some f) there =
      let s : FileStep = phase (file_id n) f input (fresh_of m) in
      let held : List Holding = held_by (ids_of s.file.layout.live) s.entries in
      cond_both (can_draw m s.uids s.names) (record { machine = with_file m n s held; entries = s.entries }) (no_move m) PeriodsAfter
      (λ e. step_taken n f there s held (phase_row (net_of m d) whose n m.next_uid (length m.files) (length m.servers) journal (known_now m journal d h) p.below f (h.files n f there) (p.files n f there) input (given f there)))
      (λ e. none)

  -- ---- a call of a file goes out

  out : (n xid : ℕ) (f : MdsFile) → numbered_at m.files n ≡ Some f → (c : Option CallOut) → call_out f xid ≡ c → PeriodsAfter (goes_out m n xid c)
  out n xid f there None is = none
  out n xid f there (Some c) is =
      let was = out_period whose n m.next_uid xid journal f.layout f.activity (p.files n f there) c is in
      (whose, stepped n f there c.file [] whose m.next_uid (omega arith) (λ k uid mine. mine) (record { place = tt; of_file = tt; grants = tt; tells = tt; period = subst (λ (j : List Entry). IsPeriod whose m.next_uid j n c.file) (sym (append-nil journal)) was }) m.next_name _ _ m.holdings)

  calls_out : (n xid : ℕ) (f : Option MdsFile) → numbered_at m.files n ≡ f → PeriodsAfter (call_out_from m n xid f)
  calls_out n xid None there = none
  calls_out n xid (Some f) there = cond_both (ltb (m.last_xid Mds) xid) (goes_out m n xid (call_out f xid)) (no_move m) PeriodsAfter (λ e. out n xid f there (call_out f xid) refl) (λ e. none)

  -- ---- data servers, packets and notes

  still_step : (servers : List ServerState) (last_xid : NodeId → ℕ) (packets : List PacketValue) (entries : List Entry) → AllByRecursion IsStill entries
      → PeriodsAfter (record { machine = record { servers = servers; files = m.files; next_uid = m.next_uid; next_name = m.next_name; last_xid = last_xid; packets = packets; holdings = m.holdings }; entries = entries })
  still_step servers last_xid packets entries still = (whose, quiet servers m.next_name last_xid packets m.holdings entries still)

  arrives : (place : ℕ) (from : NodeId) (n xid : ℕ) (caller : Caller) (call : DsCallValue) (s : Option ServerState) → PeriodsAfter (arrives_at m place from n xid caller call s)
  arrives place from n xid caller call None = none
  arrives place from n xid caller call (Some s) = still_step _ m.last_xid _ _ (server_still s caller.uid (ds_plan s caller call).effect)

  answers : (server xid : ℕ) (reply : DsReplyValue) → IsAnswer m.packets m.servers server Mds xid reply → (place : Option ℕ) → file_of m.files server xid ≡ place → PeriodsAfter (answers_at m xid reply place)
  answers server xid reply answer None is = none
  answers server xid reply answer (Some place) is = takes (place + 1) (Answers xid reply) (answers_input m journal d h server xid reply answer place is) (slice_get m.files place) (next_number m.files place)

  hears_at : (k server xid : ℕ) (reply : DsReplyValue) (to : NodeId) → IsAnswer m.packets m.servers server to xid reply → (f : Option MdsFile) → numbered_at m.files k ≡ f → PeriodsAfter (heard_at m k server xid reply to f)
  hears_at k server xid reply to answer None there = none
  hears_at k server xid reply Mds answer (Some f) there =
      cond_both (is_outstanding f server xid) (file_takes m k (Answers xid reply) (Some f)) (no_move m) PeriodsAfter
      (λ out. takes k (Answers xid reply) (λ g is. heard_input m journal d h server xid reply answer g (subst (λ (x : MdsFile). is_outstanding x server xid ≡ true) (same_Some f g (sym there ∙ is)) out)) (Some f) there) (λ off. none)
  hears_at k server xid reply (Server n) answer (Some f) there = none
  hears_at k server xid reply (Client n) answer (Some f) there = none

  hears : (k place : ℕ) (x : Option PacketValue) → slice_get m.packets place ≡ x → PeriodsAfter (heard m k x)
  hears k place None there = none
  hears k place (Some (Call from server xid uid gid call)) there = none
  hears k place (Some (Reply call server to xid reply)) there =
      hears_at k server xid reply to (all_at (IsPacket (net_of m d)) m.packets place (Reply call server to xid reply) h.packets there).answer (numbered_at m.files k) refl

  comes : (server xid : ℕ) (reply : DsReplyValue) (to : NodeId) → IsAnswer m.packets m.servers server to xid reply → PeriodsAfter (comes_to m server xid reply to)
  comes server xid reply Mds answer = answers server xid reply answer (file_of m.files server xid) refl
  comes server xid reply (Server k) answer = none
  comes server xid reply (Client k) answer = none

  delivers : (place : ℕ) (x : Option PacketValue) → slice_get m.packets place ≡ x → PeriodsAfter (delivered m place x)
  delivers place None there = none
  delivers place (Some (Call from server xid uid gid call)) there = arrives place from server xid (caller_by uid gid) call (numbered_at m.servers server)
  delivers place (Some (Reply call server to xid reply)) there = comes server xid reply to (all_at (IsPacket (net_of m d)) m.packets place (Reply call server to xid reply) h.packets there).answer

  happens : (n : ℕ) (input : FileInput) → PeriodsAfter (moved m (Happens n input))
  happens n input = cond_both (comes_by_itself input) (file_takes m n input (numbered_at m.files n)) (no_move m) PeriodsAfter (λ e. takes n input (λ f there. brought m journal d h input e f) (numbered_at m.files n) refl) (λ e. none)

  again : (x : Option PacketValue) → PeriodsAfter (sent_again m x)
  again None = none
  again (Some x) = still_step m.servers m.last_xid _ [] tt

  uses : (node : NodeId) (n xid uid gid : ℕ) (call : DsCallValue) → PeriodsAfter (used m node n xid uid gid call)
  uses node n xid uid gid call =
      cond_both (may_use call && may_number m node xid) (record { machine = puts_out m node xid (Call node n xid uid gid call); entries = [] }) (no_move m) PeriodsAfter (λ e. still_step m.servers _ _ [] tt) (λ e. none)

  ticks : (n : ℕ) (id : MirrorId) (tick : Option Tick) → ((t : Tick) → tick ≡ Some t → IsInput (net_of m d) (new_mds_file (fresh_of m) []) (Sees id t)) → PeriodsAfter (learns_tick m n id (numbered_at m.files n) tick)
  ticks n id None given = none
  ticks n id (Some tick) given = takes n (Sees id tick) (λ f there. given tick refl) (numbered_at m.files n) refl

  learns : (n place : ℕ) (id : MirrorId) (x : Option PacketValue) → slice_get m.packets place ≡ x → PeriodsAfter (learnt m n id (numbered_at m.files n) x)
  learns n place id None there = none
  learns n place id (Some (Call from server xid uid gid call)) there = none
  learns n place id (Some (Reply call server Mds xid reply)) there =
      let answer = (all_at (IsPacket (net_of m d)) m.packets place (Reply call server Mds xid reply) h.packets there).answer in
      cond_both (server == id.server && was_write_to id.fileid (slice_get m.packets call)) (learns_tick m n id (numbered_at m.files n) (ctime_in reply)) (no_move m) PeriodsAfter
      (λ e. ticks n id (ctime_in reply) (tick_input m journal d h id server xid reply answer (and_parts _ _ e).0)) (λ e. none)
  learns n place id (Some (Reply call server (Server k) xid reply)) there = none
  learns n place id (Some (Reply call server (Client k) xid reply)) there = none

  notes : (e : Entry) → IsStill e → PeriodsAfter (noted m e)
  notes e still = still_step m.servers m.last_xid m.packets (e ∷ []) (still, tt)

  started : (n : ℕ) (pieces : List Piece) (s : Option ServerState) → PeriodsAfter (started_again m n pieces s)
  started n pieces None = none
  started n pieces (Some s) = still_step _ m.last_xid m.packets (entry.Restarted n pieces ∷ []) (record { none = λ f. record { owed = λ o. refl; user = λ j u. refl }; grant = refl; place = λ before. tt; tells = refl }, tt)

  restarts : (n : ℕ) (pieces : List Piece) (s : Option ServerState) → PeriodsAfter (restarts_at m n pieces s)
  restarts n pieces None = none
  restarts n pieces (Some s) = started n pieces (restart_of s pieces)

  -- ---- a new file

  module _ (servers : List ℕ) (some : 0 < length servers) where
    abbrev n : ℕ
    n = length m.files + 1

    abbrev now : ℕ → ℕ
    now = drawn_for whose m.next_uid n

    stands : (name : ℕ) (at : List ℕ) → 0 < length at → 0 < length (creations_at name at)
    stands name [] k = absurd (omega (arith, k))
    stands name (x ∷ at) k = more (creations_at name at)
      where
        more : (rest : List Creation) → 0 < suc (length rest)
        more rest = omega arith

    all_up : (name : ℕ) (at : List ℕ) → filter (λ (c : Creation). not (is_given_up c.stage)) (creations_at name at) ≡ creations_at name at
    all_up name [] = refl
    all_up name (x ∷ at) = ap (λ (cs : List Creation). record { server = x; name = name; stage = Waits; made = None } ∷ cs) (all_up name at)

    made_so : (name : ℕ) (at : List ℕ) → AllByRecursion IsMadeSo (creations_at name at)
    made_so name [] = tt
    made_so name (x ∷ at) = (λ is. absurd cc, made_so name at)

    its_period : IsPeriod now (m.next_uid + 1) (journal ++ []) n (new_mds_file (fresh_of m) servers)
    its_period =
        let was = p.past n (omega arith) in
        subst (λ (j : List Entry). IsPeriod now (m.next_uid + 1) j n (new_mds_file (fresh_of m) servers)) (sym (append-nil journal))
        (record {
          mine = new_mine whose m.next_uid n;
          active = record { owed = was.0; user = was.1; unused = new_unused m.next_uid journal p.below; stands = subst (λ (cs : List Creation). 0 < length cs) (sym (all_up m.next_name servers)) (stands m.next_name servers some); made = made_so m.next_name servers };
        })

    old_period : (k : ℕ) (x : MdsFile) → numbered_at m.files k ≡ Some x → IsPeriod now (m.next_uid + 1) (journal ++ []) k x
    old_period k x is = period_on whose m.next_uid now (m.next_uid + 1) journal [] k tt (mine_drawn whose m.next_uid n k) (λ uid mine unused. still_unused journal [] tt uid unused) x (p.files k x is)

    files_then : (k : ℕ) (x : MdsFile) → numbered_at (m.files ++ new_mds_file (fresh_of m) servers ∷ []) k ≡ Some x → IsPeriod now (m.next_uid + 1) (journal ++ []) k x
    files_then k x is =
        elim (pushed m.files (new_mds_file (fresh_of m) servers) k x is) [
          | inl old ↦ old_period k x old
          | inr last ↦ subst (λ (j : ℕ). IsPeriod now (m.next_uid + 1) (journal ++ []) j x) (sym last.0) (subst (λ (g : MdsFile). IsPeriod now (m.next_uid + 1) (journal ++ []) n g) last.1 its_period)
        ]

    created_periods : ArePeriods now (record { servers = m.servers; files = m.files ++ new_mds_file (fresh_of m) servers ∷ []; next_uid = m.next_uid + 1; next_name = m.next_name + 1; last_xid = m.last_xid; packets = m.packets; holdings = m.holdings }) (journal ++ [])
    created_periods =
        let count = pushed_length m.files (new_mds_file (fresh_of m) servers) in
        record {
          files = files_then;
          past = λ k past.
              let was = p.past k (omega (arith, past, count)) in
              (ap (λ (j : List Entry). owed_in j (file_id k)) (append-nil journal) ∙ was.0, ap (λ (j : List Entry). user_in j (file_id k)) (append-nil journal) ∙ was.1);
          below = subst (λ (j : List Entry). AllByRecursion (λ e. If (granted_in e) (λ u. u < m.next_uid + 1)) j) (sym (append-nil journal))
              (all_more (λ e. If (granted_in e) (λ u. u < m.next_uid)) (λ e. If (granted_in e) (λ u. u < m.next_uid + 1)) journal (λ e. more_than m.next_uid (m.next_uid + 1) (omega arith) (granted_in e)) p.below);
          place = subst (λ (j : List Entry). AreInPlace [] j) (sym (append-nil journal)) p.place;
          tells = subst (λ (j : List Entry). AllByRecursion (λ e. is_telling e ≡ true) j) (sym (append-nil journal)) p.tells;
        }

  creates : (servers : List ℕ) → PeriodsAfter (created m servers)
  creates servers =
      cond_both (may_create m servers) (record {
        machine = record { servers = m.servers; files = m.files ++ new_mds_file (fresh_of m) servers ∷ []; next_uid = m.next_uid + 1; next_name = m.next_name + 1; last_xid = m.last_xid; packets = m.packets; holdings = m.holdings };
        entries = [];
      }) (no_move m) PeriodsAfter
      (λ e.
      let draw = and_parts (ltb 0 (length servers) && ltb (length servers) 5 && are_servers (length m.servers) servers && not (are_spent (fresh_of m))) (can_draw m 1 1) e in
      let left = and_parts (ltb 0 (length servers) && ltb (length servers) 5 && are_servers (length m.servers) servers) (not (are_spent (fresh_of m))) draw.0 in
      let apart = and_parts (ltb 0 (length servers) && ltb (length servers) 5) (are_servers (length m.servers) servers) left.0 in
      let some = and_parts (ltb 0 (length servers)) (ltb (length servers) 5) apart.0 in
      (drawn_for whose m.next_uid (length m.files + 1), created_periods servers (ltb-true 0 (length servers) some.0)))
      (λ e. none)

  -- ---- every move

  pub move_periods : (move : Move) → PeriodsAfter (moved m move)
  move_periods (Deliver place) = delivers place (slice_get m.packets place) refl
  move_periods (Creates at_servers) = creates at_servers
  move_periods (Happens k input) = happens k input
  move_periods (CallsOut k xid) = calls_out k xid (numbered_at m.files k) refl
  move_periods (SendsAgain place) = again (slice_get m.packets place)
  move_periods (GivesUpWaiting k xid) = takes k (TimesOut xid) (λ f there. tt) (numbered_at m.files k) refl
  move_periods (Hears k place) = hears k place (slice_get m.packets place) refl
  move_periods (Uses node server xid uid gid call) = uses node server xid uid gid call
  move_periods (Learns k place id) = learns k place id (slice_get m.packets place) refl
  move_periods (Takes file uid at bytes) = notes (entry.Sent file (a_uid uid) at bytes) (sent_still file (a_uid uid) at bytes)
  move_periods (Strays file uid at bytes) = notes (entry.Rogue file (a_uid uid) at bytes) (rogue_still file (a_uid uid) at bytes)
  move_periods (Tells file uid at bytes) = notes (entry.Told file (a_uid uid) at bytes) (told_still file (a_uid uid) at bytes)
  move_periods (Restarts k pieces) = restarts k pieces (numbered_at m.servers k)
