-- A new file of the server is one of the machine's.
use Rattle.std.proofs.Common.{◌≡◌, ◌≤◌, ℕ, ◌+◌, ◌*◌, ◌-◌, Bool, true, cond, List, [], ◌∷◌, ◌++◌, length, None, refl, sym, ap, subst, ◌∙◌, arith}
use Rattle.std.specs.Prelude.{not, ◌&&◌, nat_lt}
use Rattle.std.proofs.lemmas.Bool.{and_parts, and_from, lt-ltb}
use Rattle.std.proofs.lemmas.Bool.Decides.{nat_tests}
use Rattle.std.proofs.lemmas.List.{map-append, length-map}
use Rattle.cluster_model.specs.declared.limits.TheConstants.{SPARE_UIDS}
use Rattle.cluster_model.specs.declared.entry.Entry.{Entry}
use Rattle.file_rule.specs.declared.fresh.Fresh.{Fresh}
use Rattle.file_rule.specs.MdsFiles.{MdsFile}
use Rattle.file_rule.specs.FilePhases.{are_spent, end_of_uids, creations_at, new_mds_file}
use Rattle.cluster_laws.specs.Machine.{are_servers, Machine, MachineStep, Creates, no_move, fresh_of, can_draw, may_create, moved}
use Rattle.machine_moves.proofs.Bound.{goes_silently}
use Rattle.cluster_model.specs.declared.call_stage.CallStage.TheVariants.{Waits}
use Rattle.file_rule.specs.declared.creation.Creation.{Creation}
use Rattle.cluster_laws.specs.Telling.{telling}
use Rattle.cluster_laws.proofs.FewMirrors.{FileHasFew}
use Rattle.mds_moves.specs.MdsBinds.{IsReachedBy, ServedStands}
use Rattle.mds_moves.proofs.FileStands.{TellsAll}
use Rattle.mds_rule.specs.MdsStates.{ServedFile, MdsSend, MdsValue}
use Rattle.mds_rule.specs.ServedFiles.{has_fresh}
use Rattle.mds_rule.specs.FileOps.{servers_of, max_files, uids_left, new_served, with_new_file, may_make}
use Rattle.mds_walk.proofs.Lists.{all_push}
use Rattle.mds_moves.specs.MdsMoves.{IsServedInRange}
use Rattle.mds_moves.proofs.Draws.{can}
use Rattle.mds_moves.proofs.Servers.{new_ones, how_many}
use Rattle.mds_moves.proofs.MdsMachine.{file_in, goes_silent}
use Rattle.mds_moves.proofs.Stands.{IsFrom, binds_further}

spare_left : (uid : ℕ) → not (nat_lt (end_of_uids - uid) SPARE_UIDS) ≡ true → not (nat_lt end_of_uids (uid + SPARE_UIDS)) ≡ true
spare_left uid spare = grind (arith, nat_tests, spare)

made_few : (fresh : Fresh) (servers : List ℕ) → length servers ≤ 4 → FileHasFew (new_mds_file fresh servers)
made_few fresh servers few =
    let same : length (creations_at fresh.name servers) ≡ length servers = length-map {B = Creation} servers (λ n. record { server = n; name = fresh.name; stage = Waits; made = None }) in
    record { mirrors = record { few_wanted = few; few_live = omega arith }; room = omega (arith, few, same) }

module _ (tells : TellsAll) (mc : Machine) (journal : List Entry) (reached : IsReachedBy mc journal) (Stood : Type 0) (past : List MdsSend) where
  abbrev IsSo : MdsValue → List Entry → List MdsSend → Type 0
  IsSo m es ss = IsFrom mc journal Stood past m es ss

  pub makes_case : (m : MdsValue) (name : List ℕ) → may_make m ≡ true → (es : List Entry) (ss : List MdsSend) → IsSo m es ss → IsSo (with_new_file m name) es ss
  makes_case m name may es ss i =
      let n : Machine = i.machine in
      let count : ℕ = length m.servers in
      let file : ℕ = length m.files + 1 in
      let servers : List ℕ = servers_of count m.mirrors file in
      let parts = and_parts (nat_lt (length m.files) max_files && not (nat_lt (uids_left m) SPARE_UIDS)) (has_fresh m.fresh) may in
      let spare : not (nat_lt (uids_left m) SPARE_UIDS) ≡ true = (and_parts (nat_lt (length m.files) max_files) (not (nat_lt (uids_left m) SPARE_UIDS)) parts.0).1 in
      let many : length servers ≡ m.mirrors = how_many count m.mirrors file in
      let some : nat_lt 0 (length servers) ≡ true = lt-ltb 0 (length servers) (omega (arith, many, i.is.setup.some)) in
      let within : nat_lt (length servers) 5 ≡ true = lt-ltb (length servers) 5 (omega (arith, many, i.is.setup.few)) in
      let apart : are_servers (length n.servers) servers ≡ true =
      subst (λ (k : ℕ). are_servers k servers ≡ true) i.is.setup.same (new_ones count m.mirrors file i.is.setup.there i.is.setup.some) in
      let unspent : not (are_spent (fresh_of n)) ≡ true = ap (λ (f : Fresh). not (are_spent f)) (sym i.is.fresh) ∙ spare_left m.fresh.uid spare in
      let draws : can_draw n 1 1 ≡ true = can n (record { file = new_mds_file m.fresh servers; entries = []; uids = 1; names = 1 }) (record { uids = omega arith; names = omega arith }) m.fresh i.is.fresh parts.1 in
      let there : may_create n servers ≡ true =
      and_from _ (can_draw n 1 1)
      (and_from _ (not (are_spent (fresh_of n)))
      (and_from (nat_lt 0 (length servers) && nat_lt (length servers) 5) (are_servers (length n.servers) servers) (and_from (nat_lt 0 (length servers)) (nat_lt (length servers) 5) some within) apart) unspent) draws in
      let after : Machine = record {
        servers = n.servers;
        files = n.files ++ new_mds_file (fresh_of n) servers ∷ [];
        next_uid = n.next_uid + 1;
        next_name = n.next_name + 1;
        last_xid = n.last_xid;
        packets = n.packets;
        holdings = n.holdings;
      } in
      let step : MachineStep = record { machine = after; entries = [] } in
      let comes : moved n (Creates servers) ≡ step = ap (λ (b : Bool). cond b step (no_move n)) there in
      let x : MdsValue = with_new_file m name in
      record {
        machine = after;
        goes = goes_silently mc n es (Creates servers) after i.goes comes;
        stays = i.stays;
        is = goes_silent n after (record { packets = λ place packet p. p; servers = refl }) m.servers m.mirrors m.files m.fresh m.calls m.next_xid ss i.is refl x.files x.fresh
            (map-append file_in m.files _ ∙ (ap (λ (l : List MdsFile). l ++ new_mds_file m.fresh servers ∷ []) i.is.files ∙ ap (λ (f : Fresh). n.files ++ new_mds_file f servers ∷ []) i.is.fresh))
            (ap (λ (f : Fresh). record { uid = f.uid + 1; name = f.name + 1; servers = f.servers }) i.is.fresh) (all_push IsServedInRange m.files _ i.is.writes tt);
        kept = i.kept;
        binds = binds_further tells mc n journal es reached i.goes es (λ ends. ends) Stood i.binds (Creates servers) (λ stood ends. tt);
        own = λ stood.
            (let own = i.own stood in
            let names : m.fresh.name ≤ 4 * m.fresh.uid = own.names in
            record {
              writes = all_push (ServedStands n.packets (journal ++ telling es) ss) m.files (new_served name (new_mds_file m.fresh servers)) own.writes tt;
              few = all_push (λ (s : ServedFile). FileHasFew s.file) m.files (new_served name (new_mds_file m.fresh servers)) own.few (made_few m.fresh servers (omega (arith, many, i.is.setup.few)));
              names = omega (arith, names);
            });
      }
