-- Runs and steps of a client that send and enter what a user does, and how they follow one another.
use Rattle.std.proofs.Common.{◌≡◌, Bool, true, false, List, [], ◌∷◌, ◌++◌}
use Rattle.std.specs.Prelude.{if◌then◌else◌}
use Rattle.std.specs.List.{AllByRecursion}
use Rattle.cluster_model.specs.declared.entry.Entry.{Entry}
use Rattle.client_state.specs.ClientStates.{ClientValue, ClientRun, unmoved, followed_by, ends_as}
use Rattle.client_state.specs.ClientSends.{ClientSend, ClientStep, sends_none, and_then, run_then}
use Rattle.client_sends.specs.SendsOfUsers.{IsUserSend, is_user_entry}

abbrev pub AreUserEntries : List Entry → Type 0
AreUserEntries entries = AllByRecursion (λ e. is_user_entry e ≡ true) entries

abbrev pub AreUserSends : List ClientSend → Type 0
AreUserSends sends = AllByRecursion IsUserSend sends

pub record UserRun (r : ClientRun) : Type 0 where
  pub entries : AreUserEntries r.entries

pub record UserStep (s : ClientStep) : Type 0 where
  pub entries : AreUserEntries s.entries
  pub sends : AreUserSends s.sends

pub all_append : {A : Type 0} (P : A → Type 0) (a b : List A) → AllByRecursion P a → AllByRecursion P b → AllByRecursion P (a ++ b)
all_append P [] b first second = second
all_append P (x ∷ a) b first second = (first.0, all_append P a b first.1 second)

pub entries_append : (a b : List Entry) → AreUserEntries a → AreUserEntries b → AreUserEntries (a ++ b)
entries_append a b first second = all_append (λ e. is_user_entry e ≡ true) a b first second

-- ---- nothing is entered

pub run_nothing : (c : ClientValue) → UserRun (unmoved c)
run_nothing c = record { entries = tt }

pub step_nothing : (c : ClientValue) → UserStep (sends_none c)
step_nothing c = record { entries = tt; sends = tt }

-- ---- one after the other

pub run_follows : (r : ClientRun) (next : ClientValue → ClientRun) → UserRun r → ((d : ClientValue) → UserRun (next d)) → UserRun (followed_by r next)
run_follows r next first second = record { entries = entries_append r.entries (next r.client).entries first.entries (second r.client).entries }

pub run_ends : (r : ClientRun) (next : ClientValue → ClientValue) → UserRun r → UserRun (ends_as r next)
run_ends r next first = record { entries = first.entries }

pub run_steps : (r : ClientRun) (next : ClientValue → ClientStep) → UserRun r → ((d : ClientValue) → UserStep (next d)) → UserStep (run_then r next)
run_steps r next first second = record {
  entries = entries_append r.entries (next r.client).entries first.entries (second r.client).entries;
  sends = (second r.client).sends;
}

pub step_steps : (s : ClientStep) (next : ClientValue → ClientStep) → UserStep s → ((d : ClientValue) → UserStep (next d)) → UserStep (and_then s next)
step_steps s next first second = record {
  entries = entries_append s.entries (next s.client).entries first.entries (second s.client).entries;
  sends = all_append IsUserSend s.sends (next s.client).sends first.sends (second s.client).sends;
}

-- ---- by a test

pub run_either : (b : Bool) (x y : ClientRun) → UserRun x → UserRun y → UserRun (if b then x else y)
run_either true x y first second = first
run_either false x y first second = second

pub step_either : (b : Bool) (x y : ClientStep) → UserStep x → UserStep y → UserStep (if b then x else y)
step_either true x y first second = first
step_either false x y first second = second
