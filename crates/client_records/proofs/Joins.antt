-- Runs and steps of a client, one after the other, as items of a history: each item is so, and something of the history and of the client is
-- kept.
use Rattle.std.proofs.Common.{◌≡◌, Bool, true, false, List, [], ◌++◌, refl, sym, ap, subst, ◌∙◌}
use Rattle.std.specs.Prelude.{if◌then◌else◌}
use Rattle.std.proofs.lemmas.List.{append_assoc, append-nil, map-append}
use Rattle.cluster_model.specs.declared.entry.Entry.{Entry}
use Rattle.client_state.specs.ClientStates.{ClientValue, ClientRun, unmoved, followed_by}
use Rattle.client_state.specs.ClientSends.{ClientSend, ClientStep, sends_none, and_then, run_then}
use Rattle.client_laws.specs.ClientHistory.{HistoryItem, Enters, Sends, entered, sent, Each}
use Rattle.client_laws.proofs.Orders.{each_append}

pub entered_append : (a b : List Entry) → entered (a ++ b) ≡ entered a ++ entered b
entered_append a b = map-append Enters a b

pub sent_append : (a b : List ClientSend) → sent (a ++ b) ≡ sent a ++ sent b
sent_append a b = map-append Sends a b

pub joined_past : (past a b c : List HistoryItem) → c ≡ a ++ b → (past ++ a) ++ b ≡ past ++ c
joined_past past a b c is = append_assoc past a b ∙ ap (λ l. past ++ l) (sym is)

module _ (I : List HistoryItem → ClientValue → Type 0) (P : List HistoryItem → HistoryItem → Type 0) where
  -- a run, which enters and sends nothing
  pub record RunKeeps (past : List HistoryItem) (r : ClientRun) : Type 0 where
    pub entries : Each P past (entered r.entries)
    pub keeps : I (past ++ entered r.entries) r.client

  -- what a step enters comes before what it sends
  pub record StepKeeps (past : List HistoryItem) (s : ClientStep) : Type 0 where
    pub entries : Each P past (entered s.entries)
    pub sends : Each P (past ++ entered s.entries) (sent s.sends)
    pub keeps : I ((past ++ entered s.entries) ++ sent s.sends) s.client

  -- a step that enters nothing
  pub record CallsKeep (past : List HistoryItem) (s : ClientStep) : Type 0 where
    pub none : s.entries ≡ []
    pub sends : Each P past (sent s.sends)
    pub keeps : I (past ++ sent s.sends) s.client

  each_joined : (past a b c : List HistoryItem) → c ≡ a ++ b → Each P past a → Each P (past ++ a) b → Each P past c
  each_joined past a b c is first second = subst (λ l. Each P past l) (sym is) (each_append P past a b first second)

  pub run_unmoved : (past : List HistoryItem) (c : ClientValue) → I past c → RunKeeps past (unmoved c)
  run_unmoved past c i = record { entries = tt; keeps = subst (λ h. I h c) (sym (append-nil past)) i }

  pub calls_none : (past : List HistoryItem) (c : ClientValue) → I past c → CallsKeep past (sends_none c)
  calls_none past c i = record { none = refl; sends = tt; keeps = subst (λ h. I h c) (sym (append-nil past)) i }

  pub step_none : (past : List HistoryItem) (c : ClientValue) → I past c → StepKeeps past (sends_none c)
  step_none past c i = record { entries = tt; sends = tt; keeps = subst (λ h. I h c) (sym (append-nil (past ++ []) ∙ append-nil past)) i }

  pub run_follows : (past : List HistoryItem) (r : ClientRun) (next : ClientValue → ClientRun) → RunKeeps past r → RunKeeps (past ++ entered r.entries) (next r.client) → RunKeeps past (followed_by r next)
  run_follows past r next first second = record {
    entries = each_joined past (entered r.entries) (entered (next r.client).entries) _ (entered_append r.entries (next r.client).entries) first.entries second.entries;
    keeps = subst (λ h. I h (next r.client).client) (joined_past past (entered r.entries) (entered (next r.client).entries) _ (entered_append r.entries (next r.client).entries)) second.keeps;
  }

  pub run_steps : (past : List HistoryItem) (r : ClientRun) (next : ClientValue → ClientStep) → RunKeeps past r → StepKeeps (past ++ entered r.entries) (next r.client) → StepKeeps past (run_then r next)
  run_steps past r next first second =
      let same : (past ++ entered r.entries) ++ entered (next r.client).entries ≡ past ++ entered (r.entries ++ (next r.client).entries) = joined_past past (entered r.entries) (entered (next r.client).entries) _ (entered_append r.entries (next r.client).entries) in
      record {
        entries = each_joined past (entered r.entries) (entered (next r.client).entries) _ (entered_append r.entries (next r.client).entries) first.entries second.entries;
        sends = subst (λ h. Each P h (sent (next r.client).sends)) same second.sends;
        keeps = subst (λ h. I (h ++ sent (next r.client).sends) (next r.client).client) same second.keeps;
      }

  -- calls behind a run
  pub run_calls : (past : List HistoryItem) (r : ClientRun) (next : ClientValue → ClientStep) → RunKeeps past r → CallsKeep (past ++ entered r.entries) (next r.client) → StepKeeps past (run_then r next)
  run_calls past r next first second =
      run_steps past r next first (record {
        entries = subst (λ (l : List Entry). Each P (past ++ entered r.entries) (entered l)) (sym second.none) tt;
        sends = subst (λ h. Each P h (sent (next r.client).sends)) same second.sends;
        keeps = subst (λ h. I (h ++ sent (next r.client).sends) (next r.client).client) same second.keeps;
      })
    where
      same : past ++ entered r.entries ≡ (past ++ entered r.entries) ++ entered (next r.client).entries
      same = sym (append-nil (past ++ entered r.entries)) ∙ ap (λ (l : List Entry). (past ++ entered r.entries) ++ entered l) (sym second.none)

  pub calls_then : (past : List HistoryItem) (s : ClientStep) (next : ClientValue → ClientStep) → CallsKeep past s → CallsKeep (past ++ sent s.sends) (next s.client) → CallsKeep past (and_then s next)
  calls_then past s next first second = record {
    none = ap (λ l. l ++ (next s.client).entries) first.none ∙ second.none;
    sends = each_joined past (sent s.sends) (sent (next s.client).sends) _ (sent_append s.sends (next s.client).sends) first.sends second.sends;
    keeps = subst (λ h. I h (next s.client).client) (joined_past past (sent s.sends) (sent (next s.client).sends) _ (sent_append s.sends (next s.client).sends)) second.keeps;
  }

  -- calls behind a step
  pub step_calls : (past : List HistoryItem) (s : ClientStep) (next : ClientValue → ClientStep) → StepKeeps past s → CallsKeep ((past ++ entered s.entries) ++ sent s.sends) (next s.client) → StepKeeps past (and_then s next)
  step_calls past s next first second =
      let same : s.entries ≡ s.entries ++ (next s.client).entries = sym (append-nil s.entries) ∙ ap (λ l. s.entries ++ l) (sym second.none) in
      let later : List HistoryItem = past ++ entered s.entries in
      record {
        entries = subst (λ (l : List Entry). Each P past (entered l)) same first.entries;
        sends = subst (λ (l : List Entry). Each P (past ++ entered l) (sent (s.sends ++ (next s.client).sends))) same (each_joined later (sent s.sends) (sent (next s.client).sends) _ (sent_append s.sends (next s.client).sends) first.sends second.sends);
        keeps =
            subst (λ (l : List Entry). I ((past ++ entered l) ++ sent (s.sends ++ (next s.client).sends)) (next s.client).client) same
            (subst (λ h. I h (next s.client).client) (joined_past later (sent s.sends) (sent (next s.client).sends) _ (sent_append s.sends (next s.client).sends)) second.keeps);
      }

  -- ---- by a test

  pub run_either : (past : List HistoryItem) (b : Bool) (x y : ClientRun) → (b ≡ true → RunKeeps past x) → (b ≡ false → RunKeeps past y) → RunKeeps past (if b then x else y)
  run_either past true x y first second = first refl
  run_either past false x y first second = second refl

  pub step_either : (past : List HistoryItem) (b : Bool) (x y : ClientStep) → (b ≡ true → StepKeeps past x) → (b ≡ false → StepKeeps past y) → StepKeeps past (if b then x else y)
  step_either past true x y first second = first refl
  step_either past false x y first second = second refl

  pub calls_either : (past : List HistoryItem) (b : Bool) (x y : ClientStep) → (b ≡ true → CallsKeep past x) → (b ≡ false → CallsKeep past y) → CallsKeep past (if b then x else y)
  calls_either past true x y first second = first refl
  calls_either past false x y first second = second refl
