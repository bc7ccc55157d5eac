-- What holds at the start holds behind every move, and so the journal of a run obeys the fence law.
use Rattle.std.proofs.Common.{◌≡◌, ℕ, zero, suc, ◌+◌, ◌-◌, Bool, true, cond, List, [], ◌∷◌, ◌++◌, Some, refl, sym, ap, subst, ◌∙◌, arith, append_assoc}
use Rattle.std.specs.Prelude.{slice_get}
use Rattle.std.specs.List.{AllByRecursion}
use Rattle.std.proofs.lemmas.Option.{same_Some}
use Rattle.cluster_model.specs.declared.piece.Piece.{Piece}
use Rattle.cluster_model.specs.declared.entry.Entry.{Entry}
use Rattle.cluster_model.specs.Server.{ServerState, Caller, new_server, restart_of}
use Rattle.cluster_model.specs.DsCalls.{DsCallValue, ds_step}
use Rattle.cluster_model.specs.GuardLaws.{IsInOrder, IsTold, CallLaws, RestartLaws}
use Rattle.file_rule.specs.MdsFiles.{MdsFile}
use Rattle.cluster_laws.specs.Machine.{Machine, Move, new_machine, numbered_at, moved, machine_after, journal_of}
use Rattle.cluster_laws.specs.FenceLaw.{new_servers, ObeysFences}
use Rattle.cluster_laws.specs.Telling.{is_telling, telling}
use Rattle.cluster_laws.specs.Periods.{ArePeriodsFenced, DoOwnersStay, TellsTheTruth}
use Rattle.cluster_laws.proofs.Lists.{place_of}
use Rattle.cluster_laws.proofs.Invariant.{Drawn, IsServer, net_of, Holds}
use Rattle.cluster_laws.proofs.Journals.{obeys}
use Rattle.cluster_laws.proofs.Stepped.{no_step}
use Rattle.cluster_laws.proofs.Moves.{move_ok}
use Rattle.cluster_laws.proofs.RunFacts.{owners_stay, tells}
use Rattle.cluster_laws.proofs.PeriodFacts.{periods_fenced}
use Rattle.cluster_laws.proofs.PeriodMoves.{ArePeriods, none, move_periods}
use Rattle.cluster_laws.proofs.FewTicks.{start_few}

-- ---- the start

-- the server at a place
new_at : (k : ℕ) (boots : List ℕ) (i : ℕ) (s : ServerState) → slice_get (new_servers k boots) i ≡ Some s → (boot : ℕ) × (s ≡ new_server (k + i) boot)
new_at k [] i s e = absurd cc
new_at k (boot ∷ boots) zero s e = let same : k ≡ k + 0 = omega arith in (boot, sym (same_Some (new_server k boot) s e) ∙ ap (λ (n : ℕ). new_server n boot) same)
new_at k (boot ∷ boots) (suc i) s e =
    let rest = new_at (k + 1) boots i s e in
    let same : k + 1 + i ≡ k + suc i = omega arith in
    (rest.0, rest.1 ∙ ap (λ (n : ℕ). new_server n rest.0) same)

-- nothing was drawn
abbrev pub none_drawn : Drawn
none_drawn = record { home = λ k. 0; low = λ k. 0; top = λ g. 0 }

module _ (new : (number boot : ℕ) → IsInOrder (new_server number boot) × IsTold (new_server number boot) []) (boots : List ℕ) where
  abbrev pub start : Machine
  start = new_machine (new_servers 1 boots)

  begun_server : (n boot : ℕ) → IsServer (net_of start none_drawn) [] n (new_server n boot)
  begun_server n boot = record {
    number = refl;
    in_order = (new n boot).0;
    names = λ index name is. absurd cc;
    owners = λ index file k is named less. absurd cc;
    told = (new n boot).1;
    ticks = start_few n boot;
  }

  begun_at : (n : ℕ) (s : ServerState) → numbered_at start.servers n ≡ Some s → IsServer (net_of start none_drawn) [] n s
  begun_at n s there =
      let p = place_of start.servers n s there in
      let is = new_at 1 boots (n - 1) s p.1 in
      let ne = p.0 in
      let number : 1 + (n - 1) ≡ n = omega (arith, ne) in
      subst (λ (x : ServerState). IsServer (net_of start none_drawn) [] n x) (sym (is.1 ∙ ap (λ (k : ℕ). new_server k is.0) number)) (begun_server n is.0)

  pub start_holds : Holds start [] none_drawn
  start_holds = record {
    servers = begun_at;
    packets = tt;
    files = λ n f is. absurd (no_file n f (place_of start.files n f is).1);
    tops = λ n. omega arith;
    lows = λ k less. omega arith;
    few_names = omega arith;
    entries = tt;
    right = tt;
  }
    where
      no_file : (n : ℕ) (f : MdsFile) → slice_get start.files (n - 1) ≡ Some f → ⊥
      no_file n f e = cc

  -- ---- a run

  module _ (calls : (s : ServerState) (caller : Caller) (call : DsCallValue) → IsInOrder s → CallLaws s caller call (ds_step s caller call).server (ds_step s caller call).reply (ds_step s caller call).entries)
      (restarts : (s : ServerState) (pieces : List Piece) (next : ServerState) → restart_of s pieces ≡ Some next → IsInOrder s → RestartLaws s pieces next) where
    run_holds : (moves : List Move) (m : Machine) (journal : List Entry) (d : Drawn) → Holds m journal d → (e : Drawn) × Holds (machine_after m moves) (journal ++ journal_of m moves) e
    run_holds [] m journal d h = no_step m journal d h
    run_holds (move ∷ moves) m journal d h =
        let one = move_ok calls restarts m journal d h move in
        let rest = run_holds moves (moved m move).machine (journal ++ (moved m move).entries) one.0 one.1 in
        (rest.0, subst (λ (j : List Entry). Holds (machine_after m (move ∷ moves)) j rest.0) (append_assoc journal (moved m move).entries (journal_of (moved m move).machine moves)) rest.1)

    pub run_obeys : (moves : List Move) → ObeysFences (journal_of start moves)
    run_obeys moves = obeys (journal_of start moves) (run_holds moves start [] none_drawn start_holds).1.right

    -- what holds of a whole run
    pub run_whole : (moves : List Move) → (e : Drawn) × Holds (machine_after start moves) (journal_of start moves) e
    run_whole moves = run_holds moves start [] none_drawn start_holds

    pub run_stays : (moves : List Move) → DoOwnersStay (journal_of start moves)
    run_stays moves = let w = run_whole moves in owners_stay (machine_after start moves) (journal_of start moves) w.0 w.1

    pub run_tells : (moves : List Move) → TellsTheTruth boots moves
    run_tells moves = let w = run_whole moves in tells (machine_after start moves) (journal_of start moves) w.0 w.1

    -- ---- the periods of a run

    pub start_periods : ArePeriods (λ uid. 0) start []
    start_periods = record { files = λ n f is. absurd (no_file n f (place_of start.files n f is).1); past = λ n past. (refl, refl); below = tt; place = tt; tells = tt }
      where
        no_file : (n : ℕ) (f : MdsFile) → slice_get start.files (n - 1) ≡ Some f → ⊥
        no_file n f e = cc

    periods_hold : (moves : List Move) (m : Machine) (journal : List Entry) (d : Drawn) → Holds m journal d → (whose : ℕ → ℕ) → ArePeriods whose m journal → (w : ℕ → ℕ) × ArePeriods w (machine_after m moves) (journal ++ journal_of m moves)
    periods_hold [] m journal d h whose p = none m journal d h whose p
    periods_hold (move ∷ moves) m journal d h whose p =
        let one = move_ok calls restarts m journal d h move in
        let next = move_periods m journal d h whose p move in
        let rest = periods_hold moves (moved m move).machine (journal ++ (moved m move).entries) one.0 one.1 next.0 next.1 in
        (rest.0, subst (λ (j : List Entry). ArePeriods rest.0 (machine_after m (move ∷ moves)) j) (append_assoc journal (moved m move).entries (journal_of (moved m move).machine moves)) rest.1)

    pub run_fenced : (moves : List Move) → ArePeriodsFenced (journal_of start moves)
    run_fenced moves = periods_fenced (journal_of start moves) (periods_hold moves start [] none_drawn start_holds (λ uid. 0) start_periods).1.place

    -- nothing is left out of a run's journal
    all_left : (journal : List Entry) → AllByRecursion (λ e. is_telling e ≡ true) journal → telling journal ≡ journal
    all_left [] h = refl
    all_left (e ∷ journal) h = ap (λ (b : Bool). cond b (e ∷ telling journal) (telling journal)) h.0 ∙ ap (λ (j : List Entry). e ∷ j) (all_left journal h.1)

    pub run_left : (moves : List Move) → telling (journal_of start moves) ≡ journal_of start moves
    run_left moves = all_left (journal_of start moves) (periods_hold moves start [] none_drawn start_holds (λ uid. 0) start_periods).1.tells
