-- Runs and steps of a client that enter what a client does, and how they follow one another.
use Rattle.std.proofs.Common.{◌≡◌, Bool, true, false, List, ◌++◌}
use Rattle.std.specs.Prelude.{if◌then◌else◌}
use Rattle.std.specs.List.{AllByRecursion}
use Rattle.cluster_model.specs.declared.entry.Entry.{Entry}
use Rattle.client_state.specs.ClientStates.{ClientValue, ClientRun, unmoved, followed_by, ends_as}
use Rattle.client_state.specs.ClientSends.{ClientStep, sends_none, and_then, run_then}
use Rattle.node_histories.specs.NodeHistories.{is_client_entry}
use Rattle.node_histories.proofs.Parts.{all_joined}

abbrev pub AreClientEntries : List Entry → Type 0
AreClientEntries entries = AllByRecursion (λ e. is_client_entry e ≡ true) entries

pub record EntersRun (r : ClientRun) : Type 0 where
  pub entries : AreClientEntries r.entries

pub record EntersStep (s : ClientStep) : Type 0 where
  pub entries : AreClientEntries s.entries

pub entries_append : (a b : List Entry) → AreClientEntries a → AreClientEntries b → AreClientEntries (a ++ b)
entries_append a b first second = all_joined (λ e. is_client_entry e ≡ true) a b first second

-- ---- nothing is entered

pub run_nothing : (c : ClientValue) → EntersRun (unmoved c)
run_nothing c = record { entries = tt }

pub step_nothing : (c : ClientValue) → EntersStep (sends_none c)
step_nothing c = record { entries = tt }

-- ---- one after the other

pub run_follows : (r : ClientRun) (next : ClientValue → ClientRun) → EntersRun r → ((d : ClientValue) → EntersRun (next d)) → EntersRun (followed_by r next)
run_follows r next first second = record { entries = entries_append r.entries (next r.client).entries first.entries (second r.client).entries }

pub run_ends : (r : ClientRun) (next : ClientValue → ClientValue) → EntersRun r → EntersRun (ends_as r next)
run_ends r next first = record { entries = first.entries }

pub run_steps : (r : ClientRun) (next : ClientValue → ClientStep) → EntersRun r → ((d : ClientValue) → EntersStep (next d)) → EntersStep (run_then r next)
run_steps r next first second = record { entries = entries_append r.entries (next r.client).entries first.entries (second r.client).entries }

pub step_steps : (s : ClientStep) (next : ClientValue → ClientStep) → EntersStep s → ((d : ClientValue) → EntersStep (next d)) → EntersStep (and_then s next)
step_steps s next first second = record { entries = entries_append s.entries (next s.client).entries first.entries (second s.client).entries }

-- ---- by a test

pub run_either : (b : Bool) (x y : ClientRun) → EntersRun x → EntersRun y → EntersRun (if b then x else y)
run_either true x y first second = first
run_either false x y first second = second

pub step_either : (b : Bool) (x y : ClientStep) → EntersStep x → EntersStep y → EntersStep (if b then x else y)
step_either true x y first second = first
step_either false x y first second = second
