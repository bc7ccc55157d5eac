-- Each grant of a run of the cluster's machine is of a uid above 0, and the mirrors that are live then have numbers above the root's.
use Rattle.std.proofs.Common.{◌≡◌, ◌<◌, ◌≤◌, ℕ, ◌+◌, ltb, ◌&&◌, List, [], ◌∷◌, ◌++◌, Option, Some, None, refl, sym, ap, subst, ◌∙◌, inl, inr, ◌⊎◌, arith}
use Rattle.std.specs.Prelude.{slice_get, ◌==◌}
use Rattle.std.specs.List.{AllByRecursion}
use Rattle.std.proofs.lemmas.Bool.{cond_both}
use Rattle.std.proofs.lemmas.Option.{none-some, same_Some}
use Rattle.cluster_model.specs.declared.piece.Piece.{Piece}
use Rattle.cluster_model.specs.declared.tick.Tick.{Tick}
use Rattle.cluster_model.specs.declared.ids.NodeId.{NodeId}
use Rattle.cluster_model.specs.declared.ids.NodeId.TheVariants.{Mds, Server, Client}
use Rattle.cluster_model.specs.declared.ids.FileId.{FileId}
use Rattle.cluster_model.specs.declared.ids.Cred.{Cred}
use Rattle.cluster_model.specs.declared.ids.Mirror.{Mirror}
use Rattle.cluster_model.specs.declared.ids.MirrorId.{MirrorId}
use Rattle.cluster_model.specs.declared.entry.Entry.{Entry}
use Rattle.cluster_model.specs.declared.entry.Entry.TheVariants as entry
use Rattle.cluster_model.specs.declared.layout_state.LayoutPhase.{LayoutPhase}
use Rattle.cluster_model.specs.Phases.{ids_of}
use Rattle.cluster_model.specs.Server.{ServerState, Caller, restart_of}
use Rattle.cluster_model.specs.DsCalls.{DsCallValue, DsReplyValue, ds_plan, ds_step}
use Rattle.cluster_model.specs.GuardLaws.{IsInOrder, CallLaws, RestartLaws}
use Rattle.file_rule.specs.MdsFiles.{MdsFile, FileStep, a_uid}
use Rattle.file_rule.specs.FilePhases.{FileInput, Answers, TimesOut, Sees, CallOut, call_out, is_outstanding, new_mds_file, phase}
use Rattle.cluster_laws.specs.Machine.{PacketValue, Call, Reply, Machine, MachineStep, Move, Deliver, Creates, Happens, CallsOut, SendsAgain, GivesUpWaiting, Hears, Uses, Learns, Takes, Strays, Tells, Restarts, no_move, numbered_at, with_file, held_by, file_id, fresh_of, can_draw, file_takes, caller_by, arrives_at, file_of, answers_at, comes_to, delivered, comes_by_itself, may_create, created, goes_out, call_out_from, sent_again, may_use, may_number, puts_out, used, heard_at, heard, ctime_in, learns_tick, was_write_to, learnt, noted, started_again, restarts_at, moved, journal_of}
use Rattle.cluster_laws.specs.FenceLaw.{live_in}
use Rattle.cluster_laws.proofs.Invariant.{Drawn, IsMirrorOf, IsFile, live_of, net_of, Holds}
use Rattle.cluster_laws.proofs.Moves.{next_number, move_ok}
use Rattle.cluster_laws.proofs.PeriodFacts.{granted_in}
use Rattle.machine_walk.proofs.Stories.{AreEach, each_more}
use Rattle.machine_walk.proofs.StepsByKind.{phase_kind}
use Rattle.machine_walk.proofs.Writers.{IsSilent}
use Rattle.held_mirrors.proofs.GrantSteps.{GrantsFile, grants_or}
use Rattle.held_mirrors.proofs.Holdings.{effect_grantless, taken_grantless, all_silent}

-- the root has the number 1
abbrev pub AreAboveRoot : List MirrorId → Type 0
AreAboveRoot live = AllByRecursion (λ (id : MirrorId). 2 ≤ id.fileid) live

-- a grant is of a uid above 0, and the live mirrors have numbers above the root's
abbrev pub IsPlacedGrant : List Entry → Entry → Type 0
IsPlacedGrant before e =
    (file : FileId) (cred : Cred) (holder : NodeId) → e ≡ entry.Granted file cred holder → (0 < cred.0) × ((live : List MirrorId) → live_in before file ≡ Some live → AreAboveRoot live)

-- ---- entries that grant nothing

quiet_grant : (before : List Entry) (e : Entry) → granted_in e ≡ None → IsPlacedGrant before e
quiet_grant before e none file cred holder is = absurd (none-some cred.0 (sym none ∙ ap granted_in is))

quiet_grants : (before entries : List Entry) → AllByRecursion (λ (e : Entry). granted_in e ≡ None) entries → AreEach IsPlacedGrant before entries
quiet_grants before [] all = tt
quiet_grants before (e ∷ entries) all = (quiet_grant before e all.0, quiet_grants (before ++ e ∷ []) entries all.1)

-- ---- a step of a file

file_of_grant : (f g : FileId) (c d : Cred) (h k : NodeId) → entry.Granted f c h ≡ entry.Granted g d k → f ≡ g
file_of_grant f g c d h k is = cc

cred_of_grant : (f g : FileId) (c d : Cred) (h k : NodeId) → entry.Granted f c h ≡ entry.Granted g d k → c ≡ d
cred_of_grant f g c d h k is = cc

above_root : (P : Mirror → Type 0) (live : List Mirror) → ((m : Mirror) → P m → 2 ≤ m.id.fileid) → AllByRecursion P live → AreAboveRoot (ids_of live)
above_root P [] each all = tt
above_root P (m ∷ live) each all = (each m all.0, above_root P live each all.1)

module _ (m : Machine) (journal : List Entry) (d : Drawn) (h : Holds m journal d) where
  abbrev Placed : MachineStep → Type 0
  Placed x = AreEach IsPlacedGrant journal x.entries

  mirror_above : (n : ℕ) (x : Mirror) → IsMirrorOf (net_of m d) n journal x → 2 ≤ x.id.fileid
  mirror_above n x k = let place = k.bears.place in omega (arith, place)

  module _ (n : ℕ) (f : MdsFile) (there : numbered_at m.files n ≡ Some f) where
    its : IsFile (net_of m d) journal n f
    its = h.files n f there

    granted_file : (s : FileStep) → GrantsFile n f.layout s → AreEach IsPlacedGrant journal s.entries
    granted_file s g = subst (λ (l : List Entry). AreEach IsPlacedGrant journal l) (sym g.is) (head, quiet_grants (journal ++ entry.Granted (file_id n) f.layout.cred g.holder ∷ []) g.writes (taken_grantless n f.layout.cred g.writes g.taken))
      where
        was : live_in journal (file_id n) ≡ Some (ids_of f.layout.live)
        was = its.live ∙ ap (λ (p : LayoutPhase). live_of p (ids_of f.layout.live)) g.phase

        head : IsPlacedGrant journal (entry.Granted (file_id n) f.layout.cred g.holder)
        head file cred holder is = (
          subst (λ (c : Cred). 0 < c.0) (cred_of_grant (file_id n) file f.layout.cred cred g.holder holder is) its.cred,
          λ live now.
              subst AreAboveRoot (same_Some (ids_of f.layout.live) live (sym was ∙ subst (λ (k : FileId). live_in journal k ≡ Some live) (sym (file_of_grant (file_id n) file f.layout.cred cred g.holder holder is)) now))
              (above_root (IsMirrorOf (net_of m d) n journal) f.layout.live (mirror_above n) its.mirrors),
        )

    stepped : (input : FileInput) → AreEach IsPlacedGrant journal (phase (file_id n) f input (fresh_of m)).entries
    stepped input = by_kind (grants_or n (fresh_of m) input (phase_kind n (fresh_of m) (net_of m d) journal f its input))
      where
        by_kind : GrantsFile n f.layout (phase (file_id n) f input (fresh_of m)) ⊎ AllByRecursion IsSilent (phase (file_id n) f input (fresh_of m)).entries → AreEach IsPlacedGrant journal (phase (file_id n) f input (fresh_of m)).entries
        by_kind (inl g) = granted_file (phase (file_id n) f input (fresh_of m)) g
        by_kind (inr silent) = quiet_grants journal (phase (file_id n) f input (fresh_of m)).entries (all_silent (phase (file_id n) f input (fresh_of m)).entries silent)

  takes : (n : ℕ) (input : FileInput) (f : Option MdsFile) → numbered_at m.files n ≡ f → Placed (file_takes m n input f)
  takes n input None there = tt
  takes n input (Some f) there =
      let s : FileStep = phase (file_id n) f input (fresh_of m) in
      cond_both (can_draw m s.uids s.names) (record { machine = with_file m n s (held_by (ids_of s.file.layout.live) s.entries); entries = s.entries }) (no_move m) Placed (λ e. stepped n f there input) (λ e. tt)

  -- ---- the moves

  arrives : (place : ℕ) (from : NodeId) (n xid : ℕ) (caller : Caller) (call : DsCallValue) (s : Option ServerState) → Placed (arrives_at m place from n xid caller call s)
  arrives place from n xid caller call None = tt
  arrives place from n xid caller call (Some s) = quiet_grants journal (ds_step s caller call).entries (effect_grantless s caller.uid (ds_plan s caller call).effect)

  answers : (xid : ℕ) (reply : DsReplyValue) (place : Option ℕ) → Placed (answers_at m xid reply place)
  answers xid reply None = tt
  answers xid reply (Some place) = takes (place + 1) (Answers xid reply) (slice_get m.files place) (next_number m.files place)

  comes : (server xid : ℕ) (reply : DsReplyValue) (to : NodeId) → Placed (comes_to m server xid reply to)
  comes server xid reply Mds = answers xid reply (file_of m.files server xid)
  comes server xid reply (Server n) = tt
  comes server xid reply (Client n) = tt

  delivers : (place : ℕ) (x : Option PacketValue) → Placed (delivered m place x)
  delivers place None = tt
  delivers place (Some (Call from server xid uid gid call)) = arrives place from server xid (caller_by uid gid) call (numbered_at m.servers server)
  delivers place (Some (Reply call server to xid reply)) = comes server xid reply to

  creates : (servers : List ℕ) → Placed (created m servers)
  creates servers =
      cond_both (may_create m servers) (record {
        machine = record { servers = m.servers; files = m.files ++ new_mds_file (fresh_of m) servers ∷ []; next_uid = m.next_uid + 1; next_name = m.next_name + 1; last_xid = m.last_xid; packets = m.packets; holdings = m.holdings };
        entries = [];
      }) (no_move m) Placed (λ e. tt) (λ e. tt)

  happens : (n : ℕ) (input : FileInput) → Placed (moved m (Happens n input))
  happens n input = cond_both (comes_by_itself input) (file_takes m n input (numbered_at m.files n)) (no_move m) Placed (λ e. takes n input (numbered_at m.files n) refl) (λ e. tt)

  out : (n xid : ℕ) (c : Option CallOut) → Placed (goes_out m n xid c)
  out n xid None = tt
  out n xid (Some c) = tt

  calls_out : (n xid : ℕ) (f : Option MdsFile) → Placed (call_out_from m n xid f)
  calls_out n xid None = tt
  calls_out n xid (Some f) = cond_both (ltb (m.last_xid Mds) xid) (goes_out m n xid (call_out f xid)) (no_move m) Placed (λ e. out n xid (call_out f xid)) (λ e. tt)

  again : (x : Option PacketValue) → Placed (sent_again m x)
  again None = tt
  again (Some x) = tt

  hears_at : (n server xid : ℕ) (reply : DsReplyValue) (to : NodeId) (f : Option MdsFile) → numbered_at m.files n ≡ f → Placed (heard_at m n server xid reply to f)
  hears_at n server xid reply to None there = tt
  hears_at n server xid reply Mds (Some f) there = cond_both (is_outstanding f server xid) (file_takes m n (Answers xid reply) (Some f)) (no_move m) Placed (λ e. takes n (Answers xid reply) (Some f) there) (λ e. tt)
  hears_at n server xid reply (Server k) (Some f) there = tt
  hears_at n server xid reply (Client k) (Some f) there = tt

  hears : (n : ℕ) (x : Option PacketValue) → Placed (heard m n x)
  hears n None = tt
  hears n (Some (Call from server xid uid gid call)) = tt
  hears n (Some (Reply call server to xid reply)) = hears_at n server xid reply to (numbered_at m.files n) refl

  uses : (node : NodeId) (n xid uid gid : ℕ) (call : DsCallValue) → Placed (used m node n xid uid gid call)
  uses node n xid uid gid call = cond_both (may_use call && may_number m node xid) (record { machine = puts_out m node xid (Call node n xid uid gid call); entries = [] }) (no_move m) Placed (λ e. tt) (λ e. tt)

  ticks : (n : ℕ) (id : MirrorId) (tick : Option Tick) → Placed (learns_tick m n id (numbered_at m.files n) tick)
  ticks n id None = tt
  ticks n id (Some tick) = takes n (Sees id tick) (numbered_at m.files n) refl

  learns : (n : ℕ) (id : MirrorId) (x : Option PacketValue) → Placed (learnt m n id (numbered_at m.files n) x)
  learns n id None = tt
  learns n id (Some (Call from server xid uid gid call)) = tt
  learns n id (Some (Reply call server Mds xid reply)) =
      cond_both (server == id.server && was_write_to id.fileid (slice_get m.packets call)) (learns_tick m n id (numbered_at m.files n) (ctime_in reply)) (no_move m) Placed (λ e. ticks n id (ctime_in reply)) (λ e. tt)
  learns n id (Some (Reply call server (Server k) xid reply)) = tt
  learns n id (Some (Reply call server (Client k) xid reply)) = tt

  notes : (e : Entry) → granted_in e ≡ None → Placed (noted m e)
  notes e none = (quiet_grant journal e none, tt)

  started : (n : ℕ) (pieces : List Piece) (s : Option ServerState) → Placed (started_again m n pieces s)
  started n pieces None = tt
  started n pieces (Some s) = (quiet_grant journal (entry.Restarted n pieces) refl, tt)

  restarts : (n : ℕ) (pieces : List Piece) (s : Option ServerState) → Placed (restarts_at m n pieces s)
  restarts n pieces None = tt
  restarts n pieces (Some s) = started n pieces (restart_of s pieces)

  move_placed : (move : Move) → Placed (moved m move)
  move_placed (Deliver place) = delivers place (slice_get m.packets place)
  move_placed (Creates at_servers) = creates at_servers
  move_placed (Happens n input) = happens n input
  move_placed (CallsOut n xid) = calls_out n xid (numbered_at m.files n)
  move_placed (SendsAgain place) = again (slice_get m.packets place)
  move_placed (GivesUpWaiting n xid) = takes n (TimesOut xid) (numbered_at m.files n) refl
  move_placed (Hears n place) = hears n (slice_get m.packets place)
  move_placed (Uses node server xid uid gid call) = uses node server xid uid gid call
  move_placed (Learns n place id) = learns n id (slice_get m.packets place)
  move_placed (Takes file uid at bytes) = notes (entry.Sent file (a_uid uid) at bytes) refl
  move_placed (Strays file uid at bytes) = notes (entry.Rogue file (a_uid uid) at bytes) refl
  move_placed (Tells file uid at bytes) = notes (entry.Told file (a_uid uid) at bytes) refl
  move_placed (Restarts n pieces) = restarts n pieces (numbered_at m.servers n)

-- ---- a run

module _ (calls : (s : ServerState) (caller : Caller) (call : DsCallValue) → IsInOrder s → CallLaws s caller call (ds_step s caller call).server (ds_step s caller call).reply (ds_step s caller call).entries)
    (restarted : (s : ServerState) (pieces : List Piece) (new : ServerState) → restart_of s pieces ≡ Some new → IsInOrder s → RestartLaws s pieces new) where
  pub run_placed : (moves : List Move) (m : Machine) (journal : List Entry) (d : Drawn) → Holds m journal d → AreEach IsPlacedGrant journal (journal_of m moves)
  run_placed [] m journal d h = tt
  run_placed (move ∷ moves) m journal d h =
      let one = move_ok calls restarted m journal d h move in
      each_more IsPlacedGrant journal (moved m move).entries (journal_of (moved m move).machine moves) (move_placed m journal d h move) (run_placed moves (moved m move).machine (journal ++ (moved m move).entries) one.0 one.1)
