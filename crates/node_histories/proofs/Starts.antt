-- A new world is told by its nodes.
use Rattle.std.proofs.Common.{◌≡◌, ℕ, zero, suc, ◌+◌, List, [], ◌∷◌, ◌++◌, refl}
use Rattle.std.specs.Prelude.{map, replicate}
use Rattle.std.specs.List.{range_with_len, AllByRecursion}
use Rattle.cluster_model.specs.declared.ids.NodeId.TheVariants.{Mds}
use Rattle.cluster_model.specs.declared.entry.Entry.{Entry}
use Rattle.cluster_model.specs.declared.entry.Entry.TheVariants.{Packet}
use Rattle.client_state.specs.ClientStates.{fresh_client}
use Rattle.world_rule.specs.Machines.{address_of}
use Rattle.world_rule.specs.ClusterWorlds.{new_cluster}
use Rattle.node_histories.specs.ClientLives.{Life}
use Rattle.node_histories.specs.NodeHistories.{ClientStory, AreClientStories, LivesOfScript, MdsStory, Origin, IsToldByNodes}

abbrev first_life : Life
first_life = record { verifier = 1; first_xid = 1; inputs = []; begun = []; steps = [] }

abbrev first_story : ClientStory
first_story = record { newest = first_life; older = [] }

all_start : (first count : ℕ) → AreClientStories first (replicate count first_story) (map (λ n. fresh_client n 1 1) (range_with_len first count)) (replicate count 1) []
all_start first zero = tt
all_start first (suc count) =
    (record { lives = (record { history = refl; woven = tt; strays = tt }, record { verifier = refl; first_xid = refl; begins = refl }); client = refl; verifier_is = refl; told = refl }, all_start (first + 1) count)

none_asked : (count : ℕ) → AllByRecursion (λ (s : ClientStory). LivesOfScript s.newest s.older) (replicate count first_story)
none_asked zero = tt
none_asked (suc count) = (tt, none_asked count)

none_there : (stories : List ClientStory) (mds : MdsStory) (past behind : List Entry) (e : Entry) → [] ≡ past ++ e ∷ behind → Origin stories mds past e
none_there stories mds [] behind e is = absurd cc
none_there stories mds (p ∷ past) behind e is = absurd cc

none_itself : (past behind : List Entry) (number : ℕ) (bytes : List ℕ) → [] ≡ past ++ Packet number Mds Mds bytes ∷ behind → ⊥
none_itself [] behind number bytes is = absurd cc
none_itself (p ∷ past) behind number bytes is = absurd cc

pub begins : (servers mirrors clients : ℕ) → IsToldByNodes (new_cluster servers mirrors clients)
begins servers mirrors clients =
    let mds : MdsStory = record { servers = map address_of (range_with_len 1 servers); mirrors = mirrors; events = []; steps = [] } in
    record {
      stories = replicate clients first_story;
      clients = all_start 1 clients;
      asked = none_asked clients;
      mds = mds;
      mds_is = record { mds = refl; history = refl; woven = tt; together = tt; told = refl };
      origins = none_there (replicate clients first_story) mds;
      numbers = refl;
      apart = none_itself;
    }
