-- What a client that left does, and one that did not.
use Rattle.std.proofs.Common.{◌≡◌, ℕ, Bool, true, false, List, [], ◌∷◌, ◌++◌, if◌then◌else◌, sym, ap, subst, ◌∙◌, append-nil}
use Rattle.cluster_model.specs.declared.entry.Entry.TheVariants as entry
use Rattle.cluster_model.specs.declared.outbox.Outbox.{Outbox}
use Rattle.client_state.specs.ClientStates.{ClientValue, fresh_client}
use Rattle.client_state.specs.ClientSends.{sends_none}
use Rattle.client_state.specs.QueueSteps.{HasStepped}
use Rattle.mirror_client.specs.ClientRule.{turned, strays}
use Rattle.world_rule.specs.Machines.{leaves, goes_astray, starts_anew}

-- it stays as it is
pub left_before : (n : ℕ) (c : ClientValue) → c.has_left ≡ true → leaves n c ≡ sends_none c
left_before n c left = ap (λ (b : Bool). if b then sends_none c else record { client = turned c; entries = entry.Turned n ∷ []; sends = [] }) left

pub stays_within : (place at : ℕ) (bytes : List ℕ) (c : ClientValue) → c.has_left ≡ false → goes_astray place at bytes c ≡ sends_none c
stays_within place at bytes c left = ap (λ (b : Bool). if b then strays c.file c.layout place at bytes c else sends_none c) left

pub stays_away : (n verifier : ℕ) (c : ClientValue) → c.has_left ≡ true → starts_anew n verifier c ≡ sends_none c
stays_away n verifier c left = ap (λ (b : Bool). if b then sends_none c else record { client = fresh_client n verifier c.next_xid; entries = entry.Rebooted n ∷ []; sends = [] }) left

-- one that left strays
pub strays_left : (place at : ℕ) (bytes : List ℕ) (c : ClientValue) → c.has_left ≡ true → goes_astray place at bytes c ≡ strays c.file c.layout place at bytes c
strays_left place at bytes c left = ap (λ (b : Bool). if b then strays c.file c.layout place at bytes c else sends_none c) left

-- one that did not leaves, or starts anew
pub has_turned : (n : ℕ) (c d : ClientValue) (old new : Outbox) → c.has_left ≡ false → d ≡ turned c → new.entries.items ≡ old.entries.items ++ entry.Turned n ∷ [] → new.sends.items ≡ old.sends.items → HasStepped (leaves n c) old d new
has_turned n c d old new left is entered same =
    subst (λ (b : Bool). HasStepped (if b then sends_none c else record { client = turned c; entries = entry.Turned n ∷ []; sends = [] }) old d new) (sym left) record {
      client = is;
      entries = entered;
      sends = same ∙ sym (append-nil _);
    }

pub has_started : (n verifier : ℕ) (c d : ClientValue) (old new : Outbox) → c.has_left ≡ false → d ≡ fresh_client n verifier c.next_xid → new.entries.items ≡ old.entries.items ++ entry.Rebooted n ∷ [] → new.sends.items ≡ old.sends.items → HasStepped (starts_anew n verifier c) old d new
has_started n verifier c d old new left is entered same =
    subst (λ (b : Bool). HasStepped (if b then sends_none c else record { client = fresh_client n verifier c.next_xid; entries = entry.Rebooted n ∷ []; sends = [] }) old d new) (sym left) record {
      client = is;
      entries = entered;
      sends = same ∙ sym (append-nil _);
    }
