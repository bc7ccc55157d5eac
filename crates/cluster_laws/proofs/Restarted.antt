-- A data server starts again.
use Rattle.std.proofs.Common.{◌≡◌, ℕ, ◌<◌, ◌≤◌, List, [], ◌∷◌, ◌++◌, Some, sym, ap, subst, ◌∙◌, arith}
use Rattle.std.specs.Prelude.{slice_get}
use Rattle.cluster_model.specs.declared.entry.Entry.{Entry}
use Rattle.cluster_model.specs.declared.entry.Entry.TheVariants as entry
use Rattle.cluster_model.specs.File.{StoredFile}
use Rattle.cluster_model.specs.Server.{ServerState}
use Rattle.cluster_model.specs.DsCalls.{mirror_name}
use Rattle.cluster_model.specs.GuardLaws.{IsInOrder, IsTold}
use Rattle.cluster_laws.specs.Machine.{Machine, numbered_at, with_server}
use Rattle.cluster_laws.proofs.Lists.{all_more}
use Rattle.cluster_laws.proofs.Invariant.{Drawn, IsPacket, IsServer, net_of, Holds}
use Rattle.cluster_laws.proofs.Onward.{packet_on}
use Rattle.cluster_laws.proofs.Changed.{goes_on, changed_holds}
use Rattle.cluster_model.specs.declared.piece.Piece.{Piece}
use Rattle.cluster_model.specs.Server.{restart_of}
use Rattle.cluster_model.specs.GuardLaws.{RestartLaws}
use Rattle.cluster_laws.proofs.FewTicks.{restart_few}

module _ (restarts : (s : ServerState) (pieces : List Piece) (new : ServerState) → restart_of s pieces ≡ Some new → IsInOrder s → RestartLaws s pieces new) where
  module _ (m : Machine) (journal : List Entry) (d : Drawn) (h : Holds m journal d) (n : ℕ) (s : ServerState) (there : numbered_at m.servers n ≡ Some s) (pieces : List Piece) (new : ServerState) (is : restart_of s pieces ≡ Some new) where
    old : IsServer (net_of m d) journal n s
    old = h.servers n s there

    laws : RestartLaws s pieces new
    laws = restarts s pieces new is old.in_order

    owned : (index : ℕ) (file : StoredFile) (k : ℕ) → slice_get new.files index ≡ Some file → slice_get new.names index ≡ Some (mirror_name k) → k < m.next_name → (d.low k ≤ file.owner) × (file.owner ≤ d.top (d.home k))
    owned index file k found named less =
        let before = laws.owners index file found in
        let was = old.owners index before.0 k before.1 (sym (ap (λ (names : List (List ℕ)). slice_get names index) laws.names) ∙ named) less in
        let same = before.2 in
        let low = was.0 in
        let high = was.1 in
        (omega (arith, same, low), omega (arith, same, high))

    told : IsTold new (journal ++ entry.Restarted n pieces ∷ [])
    told = subst (λ (k : ℕ). IsTold new (journal ++ entry.Restarted k pieces ∷ [])) old.number (laws.told journal old.told)

    this : IsServer (net_of (with_server m n new m.packets) d) (journal ++ entry.Restarted n pieces ∷ []) n new
    this = record {
      number = laws.follows.number ∙ old.number;
      in_order = laws.follows.in_order;
      names = λ index name found. old.names index name (sym (ap (λ (names : List (List ℕ)). slice_get names index) laws.names) ∙ found);
      owners = owned;
      told = told;
      ticks = restart_few s pieces new is old.ticks;
    }

    pub restarted_holds : Holds (with_server m n new m.packets) (journal ++ entry.Restarted n pieces ∷ []) d
    restarted_holds =
        changed_holds m journal d h n s there new laws.follows m.packets (λ place p found. found) (λ x server c all. all) (entry.Restarted n pieces ∷ []) (sym old.number, tt) (tt, tt) this
        (all_more (IsPacket (net_of m d)) (IsPacket (net_of (with_server m n new m.packets) d)) m.packets (packet_on (net_of m d) (net_of (with_server m n new m.packets) d) (goes_on m journal d h n s there new laws.follows m.packets (λ place p found. found) (λ x server c all. all))) h.packets)
