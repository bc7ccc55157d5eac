-- What one machine does to all of them: it changes alone, and the others stay.
use Rattle.std.proofs.Common.{◌≡◌, ℕ, ◌+◌, ◌-◌, ◌<◌, List, [], ◌∷◌, ◌++◌, length, map, get_or, set, Option, Some, None, Result, Ok, Err, OnOk, refl, sym, ap, subst, ◌∙◌, append-nil, option_map}
use Rattle.std.specs.Prelude.{slice_get}
use Rattle.std.proofs.lemmas.List.{map-set, length-map}
use Rattle.std.proofs.lemmas.Option.{slice_get-map, slice_get_read, same_Some}
use Rattle.ff_xdr.specs.declared.error.NoMemory.{NoMemory}
use Rattle.cluster_model.specs.declared.ids.NodeId.{NodeId}
use Rattle.cluster_model.specs.declared.outbox.Outbox.{Outbox}
use Rattle.cluster_model.specs.declared.entry.Entry.TheVariants as entry
use Rattle.cluster_model.specs.declared.piece.Piece.{Piece}
use Rattle.cluster_model.specs.Server.{ServerState, restart_of}
use Rattle.ds_files.specs.Receive.{outcome_of}
use Rattle.ds_files.specs.Posts.{Acts}
use Rattle.mds_rule.specs.MdsStates.{MdsValue, MdsStep}
use Rattle.mds_core.specs.MdsSteps.{ServerValue, MdsStepsBy}
use Rattle.client_state.specs.ClientStates.{ClientValue}
use Rattle.client_state.specs.ClientSends.{ClientStep, sends_none}
use Rattle.client_state.specs.QueueSteps.{HasStepped}
use Rattle.mirror_client.specs.ClientSteps.{ClientOfUser, StepsBy}
use Rattle.world_rule.specs.Machines.{MachinesValue, mds_acts, nth, does_nothing, client_did, client_at, started, client_acts, server_at, server_acts, restarts, restarts_at, HasActed}
use Rattle.cluster_machines.specs.Indexes.{index_at}
use Rattle.cluster_machines.proofs.Numbered.{before, found, not_found, put_again}

-- the machines as the code has them
abbrev pub seen : MdsValue → List ServerState → List ClientOfUser → MachinesValue
seen mds servers clients = record { mds = mds; servers = servers; clients = map (λ (c : ClientOfUser). c.client) clients }

-- nothing was done
pub nothing : (m : MachinesValue) (out : Outbox) → HasActed (does_nothing m) out m out
nothing m out = record { machines = refl; entries = sym (append-nil _); sends = sym (append-nil _) }

-- the metadata server made a step
pub mds_acted : (m : MachinesValue) (x y : ServerValue) (servers : List ServerState) (clients : List ClientOfUser) → seen x.mds servers clients ≡ m → (rule : MdsValue → MdsStep) (old : Outbox) (result : Result (Unit {0}) NoMemory) (new : Outbox) → MdsStepsBy rule x old result y new
    → OnOk result (HasActed (mds_acts rule m) old (seen y.mds servers clients) new)
mds_acted m x y servers clients is rule old (Err e) new said = tt
mds_acted m x y servers clients is rule old (Ok done) new (was, left, made) = subst (λ (v : MachinesValue). HasActed (mds_acts rule v) old (seen y.mds servers clients) new) is (record {
  machines = λ i. seen (made.mds i) servers clients;
  entries = made.entries;
  sends = made.sends;
})

module _ (m : MachinesValue) (mds : MdsValue) (servers : List ServerState) (clients : List ClientOfUser) (is : seen mds servers clients ≡ m) (n count : ℕ) where
  -- ---- a client

  -- a number of no client: nothing is done
  pub no_client : (rule : ClientValue → ClientStep) (out : Outbox) → count ≡ length clients → index_at n count ≡ None → HasActed (client_acts n rule m) out m out
  no_client rule out many none =
      let absent : nth m.clients n ≡ None = not_found m.clients n count (many ∙ sym (length-map clients (λ (c : ClientOfUser). c.client)) ∙ ap (λ (v : MachinesValue). length v.clients) is) none in
      subst (λ (o : Option ClientValue). HasActed (client_at m n rule o) out m out) (sym absent) (nothing m out)

  module _ (index : ℕ) (x : ClientOfUser) (many : count ≡ length clients) (within : index < count) (numbered : index + 1 ≡ n) (read : x ≡ get_or clients index x) where
    -- the one of this number
    client_there : slice_get m.clients index ≡ Some x.client
    client_there =
        subst (λ (v : MachinesValue). slice_get v.clients index ≡ Some x.client) is
        (slice_get-map (λ (c : ClientOfUser). c.client) clients index ∙ ap (option_map (λ (c : ClientOfUser). c.client)) (slice_get_read clients count index x many within read))

    client_is : nth m.clients n ≡ Some x.client
    client_is = found m.clients index n x.client numbered client_there

    -- it stays as it is
    pub client_stays : (rule : ClientValue → ClientStep) (out : Outbox) → rule x.client ≡ sends_none x.client → HasActed (client_acts n rule m) out m out
    client_stays rule out stays =
        subst (λ (o : Option ClientValue). HasActed (client_at m n rule o) out m out) (sym client_is) (subst (λ s. HasActed (client_did m n s) out m out) (sym stays) (record {
          machines = sym (ap (λ cs. record m { clients = cs }) (put_again m.clients index n x.client numbered client_there));
          entries = sym (append-nil _);
          sends = sym (append-nil _);
        }))

    -- it made a step
    pub client_stepped : (rule : ClientValue → ClientStep) (y : ClientOfUser) (old new : Outbox) → HasStepped (rule x.client) old y.client new → HasActed (client_acts n rule m) old (seen mds servers (set clients index y)) new
    client_stepped rule y old new stepped =
        let changed : map (λ (c : ClientOfUser). c.client) (set clients index y) ≡ set (map (λ (c : ClientOfUser). c.client) clients) (n - 1) (rule x.client).client
        = map-set (λ (c : ClientOfUser). c.client) clients index y ∙ (λ i. set (map (λ (c : ClientOfUser). c.client) clients) (before index n numbered i) (stepped.client i)) in
        subst (λ (o : Option ClientValue). HasActed (client_at m n rule o) old (seen mds servers (set clients index y)) new) (sym client_is) record {
          machines = subst (λ (v : MachinesValue). seen mds servers (set clients index y) ≡ record v { clients = set v.clients (n - 1) (rule x.client).client }) is (λ i. record { mds = mds; servers = servers; clients = changed i });
          entries = stepped.entries;
          sends = stepped.sends;
        }

    -- by the same step of a rule of its own
    pub client_acted_as : (rule own : ClientValue → ClientStep) (y : ClientOfUser) (old : Outbox) (result : Result (Unit {0}) NoMemory) (new : Outbox) → rule x.client ≡ own x.client → StepsBy own x old result y new
        → OnOk result (HasActed (client_acts n rule m) old (seen mds servers (set clients index y)) new)
    client_acted_as rule own y old (Err e) new same said = tt
    client_acted_as rule own y old (Ok done) new same (was, left, stepped) = client_stepped rule y old new (subst (λ s. HasStepped s old y.client new) (sym same) stepped)

    -- it stepped by the rule, or memory was wanted
    pub client_acted : (rule : ClientValue → ClientStep) (y : ClientOfUser) (old : Outbox) (result : Result (Unit {0}) NoMemory) (new : Outbox) → StepsBy rule x old result y new → OnOk result (HasActed (client_acts n rule m) old (seen mds servers (set clients index y)) new)
    client_acted rule y old result new said = client_acted_as rule rule y old result new refl said

    -- what is read there again is the same
    pub read_again : (z : ClientOfUser) → z ≡ get_or clients index z → z ≡ x
    read_again z again = same_Some z x (sym (slice_get_read clients count index z many within again) ∙ slice_get_read clients count index x many within read)

  -- ---- a data server

  no_server : count ≡ length servers → index_at n count ≡ None → nth m.servers n ≡ None
  no_server many none = not_found m.servers n count (many ∙ ap (λ (v : MachinesValue). length v.servers) is) none

  -- a number of no data server: nothing is done
  pub none_acts : (from : NodeId) (bytes : List ℕ) (out : Outbox) → count ≡ length servers → index_at n count ≡ None → HasActed (server_acts n from bytes m) out m out
  none_acts from bytes out many none = subst (λ (o : Option ServerState). HasActed (server_at m n from bytes o) out m out) (sym (no_server many none)) (nothing m out)

  pub none_restarts : (pieces : List Piece) (out : Outbox) → count ≡ length servers → index_at n count ≡ None → HasActed (restarts n pieces m) out m out
  none_restarts pieces out many none = subst (λ (o : Option ServerState). HasActed (restarts_at m n pieces o) out m out) (sym (no_server many none)) (nothing m out)

  module _ (index : ℕ) (x : ServerState) (many : count ≡ length servers) (within : index < count) (numbered : index + 1 ≡ n) (read : x ≡ get_or servers index x) where
    -- the one of this number
    server_there : slice_get servers index ≡ Some x
    server_there = slice_get_read servers count index x many within read

    server_is : nth m.servers n ≡ Some x
    server_is = found m.servers index n x numbered (subst (λ (v : MachinesValue). slice_get v.servers index ≡ Some x) is server_there)

    -- it became this, and all others are as they were
    became : (y z : ServerState) → y ≡ z → seen mds (set servers index y) clients ≡ record m { servers = set m.servers (n - 1) z }
    became y z same = subst (λ (v : MachinesValue). seen mds (set servers index y) clients ≡ record v { servers = set v.servers (n - 1) z }) is (λ i. seen mds (set servers (before index n numbered i) (same i)) clients)

    -- it took a record, or memory was wanted
    pub server_acted : (from : NodeId) (bytes : List ℕ) (y : ServerState) (old : Outbox) (result : Result (Unit {0}) NoMemory) (new : Outbox) → OnOk result (Acts (outcome_of x bytes) from y old new)
        → OnOk result (HasActed (server_acts n from bytes m) old (seen mds (set servers index y) clients) new)
    server_acted from bytes y old (Err e) new said = tt
    server_acted from bytes y old (Ok done) new acts = subst (λ (o : Option ServerState). HasActed (server_at m n from bytes o) old (seen mds (set servers index y) clients) new) (sym server_is) record {
      machines = became y (outcome_of x bytes).server acts.state;
      entries = acts.entries;
      sends = acts.sends;
    }

    -- its boots were spent
    pub boots_spent : (pieces : List Piece) (y : ServerState) (out : Outbox) → restart_of x pieces ≡ None → y ≡ x → HasActed (restarts n pieces m) out (seen mds (set servers index y) clients) out
    boots_spent pieces y out none same =
        subst (λ (o : Option ServerState). HasActed (restarts_at m n pieces o) out (seen mds (set servers index y) clients) out) (sym server_is)
        (subst (λ (o : Option ServerState). HasActed (started m n pieces o) out (seen mds (set servers index y) clients) out) (sym none) (record {
          machines = became y x same ∙ (λ i. record m { servers = put_again m.servers index n x numbered (subst (λ (v : MachinesValue). slice_get v.servers index ≡ Some x) is server_there) i });
          entries = sym (append-nil _);
          sends = sym (append-nil _);
        }))

    -- it started again
    pub restarted : (pieces : List Piece) (y : ServerState) (old new : Outbox) → restart_of x pieces ≡ Some y → new.entries.items ≡ old.entries.items ++ entry.Restarted n pieces ∷ [] → new.sends.items ≡ old.sends.items
        → HasActed (restarts n pieces m) old (seen mds (set servers index y) clients) new
    restarted pieces y old new again entered same =
        subst (λ (o : Option ServerState). HasActed (restarts_at m n pieces o) old (seen mds (set servers index y) clients) new) (sym server_is)
        (subst (λ (o : Option ServerState). HasActed (started m n pieces o) old (seen mds (set servers index y) clients) new) (sym again) (record {
          machines = became y y refl;
          entries = entered;
          sends = same ∙ sym (append-nil _);
        }))
