-- A client's story goes on: the newest life takes a part more, entries of others pass it, or a new life begins.
use Rattle.std.proofs.Common.{◌≡◌, ℕ, true, false, List, [], ◌∷◌, ◌++◌, Some, refl, sym, ap, subst, ◌∙◌, inl, inr, ◌⊎◌}
use Rattle.std.specs.List.{AllByRecursion}
use Rattle.std.proofs.lemmas.List.{append_assoc, append-nil}
use Rattle.cluster_model.specs.declared.ids.NodeId.TheVariants.{Client}
use Rattle.cluster_model.specs.declared.entry.Entry.{Entry}
use Rattle.cluster_model.specs.declared.entry.Entry.TheVariants.{Rebooted}
use Rattle.cluster_model.specs.Members.{IsOneOf}
use Rattle.client_state.specs.ClientStates.{ClientValue, fresh_client}
use Rattle.client_state.specs.ClientSends.{ClientSend, spelled_send}
use Rattle.client_laws.specs.ClientHistory.{ClientInput, HistoryItem, Enters, Sends, input_step, items_of, client_history, client_after}
use Rattle.world_rule.specs.ClusterWorlds.{verifier_after}
use Rattle.node_histories.specs.Weaves.{WeaveStep, entries_in, items_in, AreWoven}
use Rattle.node_histories.specs.ClientLives.{client_shown, Life, start_of, IsLife, AreLives, StraysIfLeft, HaveStraysLeft}
use Rattle.node_histories.specs.NodeHistories.{is_client_entry, ClientStory, IsClientStory, IsInputOfScript, LivesOfScript}
use Rattle.node_histories.proofs.WeaveLemmas.{entries_join, items_join, woven_join, passing, passed_entries, passed_items, passed_woven}
use Rattle.node_histories.proofs.Parts.{Shower, Part, all_joined}

-- ---- histories go on by an input

pub history_joins : (c : ClientValue) (inputs more : List ClientInput) → client_history c (inputs ++ more) ≡ client_history c inputs ++ client_history (client_after c inputs) more
history_joins c [] more = refl
history_joins c (input ∷ inputs) more =
    ap (λ (l : List HistoryItem). items_of input (input_step input c) ++ l) (history_joins (input_step input c).client inputs more)
    ∙ sym (append_assoc (items_of input (input_step input c)) (client_history (input_step input c).client inputs) (client_history (client_after (input_step input c).client inputs) more))

pub after_joins : (c : ClientValue) (inputs more : List ClientInput) → client_after c (inputs ++ more) ≡ client_after (client_after c inputs) more
after_joins c [] more = refl
after_joins c (input ∷ inputs) more = after_joins (input_step input c).client inputs more

abbrev pub client_shower : ℕ → Shower HistoryItem ClientSend
client_shower n = record {
  shown = client_shown;
  node = Client n;
  enter = Enters;
  send = Sends;
  spell = spelled_send;
  enters_so = λ e. refl;
  sends_so = λ s. refl;
  Kind = λ e. is_client_entry e ≡ true;
}

-- ---- a life grows

pub record IsGrown (story : ClientStory) (l : Life) : Type 0 where
  pub grown : Life
  pub its : (grown ≡ story.newest) ⊎ IsOneOf grown story.older
  pub begun : grown.begun ≡ l.begun
  pub more : List (WeaveStep HistoryItem)
  pub steps : grown.steps ≡ l.steps ++ more

-- each life of a story stands in the later one
abbrev pub StoryLater : ClientStory → ClientStory → Type 0
StoryLater old new = (l : Life) → ((l ≡ old.newest) ⊎ IsOneOf l old.older) → IsGrown new l

-- a story behind more entries
pub record StoryGoes (n verifier : ℕ) (old : ClientStory) (c : ClientValue) (journal : List Entry) : Type 0 where
  pub new : ClientStory
  pub is : IsClientStory n verifier new c journal
  pub later : StoryLater old new
  pub asked : LivesOfScript new.newest new.older

-- by a part of its own
pub record TakesPart (n verifier : ℕ) (old : ClientStory) (c : ClientValue) (journal : List Entry) (more : List (WeaveStep HistoryItem)) : Type 0 where
  pub go : StoryGoes n verifier old c journal
  pub begun : go.new.newest.begun ≡ old.newest.begun
  pub steps : go.new.newest.steps ≡ old.newest.steps ++ more

abbrev with_steps : Life → List ClientInput → List (WeaveStep HistoryItem) → Life
with_steps l inputs more = record { verifier = l.verifier; first_xid = l.first_xid; inputs = l.inputs ++ inputs; begun = l.begun; steps = l.steps ++ more }

newest_grows : (n : ℕ) (l grown : Life) (older : List Life) → grown.verifier ≡ l.verifier → grown.first_xid ≡ l.first_xid → grown.begun ≡ l.begun → IsLife n grown → AreLives n l older → AreLives n grown older
newest_grows n l grown [] verifier first begun is (was, its) =
    (is, record { verifier = verifier ∙ its.verifier; first_xid = first ∙ its.first_xid; begins = begun ∙ its.begins })
newest_grows n l grown (old ∷ older) verifier first begun is (was, its, rest) =
    (is, record { stayed = its.stayed; verifier = verifier ∙ its.verifier; numbered_on = first ∙ its.numbered_on; begins = begun ∙ its.begins }, rest)

asked_on : (l : Life) (older : List Life) (inputs : List ClientInput) (more : List (WeaveStep HistoryItem)) → AllByRecursion IsInputOfScript inputs → LivesOfScript l older → LivesOfScript (with_steps l inputs more) older
asked_on l [] inputs more new asked = all_joined IsInputOfScript l.inputs inputs asked new
asked_on l (old ∷ older) inputs more new asked = (all_joined IsInputOfScript l.inputs inputs asked.0 new, asked.1)

-- ---- by inputs, with steps of their items

newest_is : (n : ℕ) (l : Life) (older : List Life) → AreLives n l older → IsLife n l
newest_is n l [] lives = lives.0
newest_is n l (old ∷ older) lives = lives.0

later : (s : ClientStory) (grown : Life) (more : List (WeaveStep HistoryItem)) → grown.begun ≡ s.newest.begun → grown.steps ≡ s.newest.steps ++ more → StoryLater s (record { newest = grown; older = s.older })
later s grown more begun steps l (inl same) =
    record { grown = grown; its = inl refl; begun = begun ∙ ap (λ (x : Life). x.begun) (sym same); more = more; steps = steps ∙ ap (λ (x : Life). x.steps ++ more) (sym same) }
later s grown more begun steps l (inr old) = record { grown = l; its = inr old; begun = refl; more = []; steps = sym (append-nil l.steps) }

older_later : (s : ClientStory) (new : Life) → StoryLater s (record { newest = new; older = s.newest ∷ s.older })
older_later s new l its = record { grown = l; its = inr its; begun = refl; more = []; steps = sym (append-nil l.steps) }

strays_join : (c : ClientValue) (inputs more : List ClientInput) → HaveStraysLeft c inputs → HaveStraysLeft (client_after c inputs) more → HaveStraysLeft c (inputs ++ more)
strays_join c [] more first second = second
strays_join c (input ∷ inputs) more first second = (first.0, strays_join (input_step input c).client inputs more first.1 second)

module _ (n verifier : ℕ) (s : ClientStory) (c : ClientValue) (journal : List Entry) (i : IsClientStory n verifier s c journal) (asked : LivesOfScript s.newest s.older) where
  goes_by : (inputs : List ClientInput) (more : List Entry) (steps : List (WeaveStep HistoryItem)) → AllByRecursion IsInputOfScript inputs → HaveStraysLeft c inputs → items_in steps ≡ client_history c inputs → entries_in steps ≡ more
      → AreWoven client_shown (Client n) journal steps → TakesPart n verifier s (client_after c inputs) (journal ++ more) steps
  goes_by inputs more steps of_script left items entries woven =
      let l : Life = s.newest in
      let grown : Life = with_steps s.newest inputs steps in
      let was : IsLife n s.newest = newest_is n s.newest s.older i.lives in
      let from : ClientValue = start_of n s.newest in
      let split : client_history from (l.inputs ++ inputs) ≡ client_history from l.inputs ++ client_history (client_after from l.inputs) inputs = history_joins from l.inputs inputs in
      let here : client_history from l.inputs ++ client_history (client_after from l.inputs) inputs ≡ client_history from l.inputs ++ client_history c inputs =
      ap (λ (d : ClientValue). client_history from l.inputs ++ client_history d inputs) i.client in
      let before : client_history from l.inputs ++ client_history c inputs ≡ items_in l.steps ++ client_history c inputs = ap (λ (x : List HistoryItem). x ++ client_history c inputs) was.history in
      let behind : items_in l.steps ++ client_history c inputs ≡ items_in (l.steps ++ steps) = ap (λ (x : List HistoryItem). items_in l.steps ++ x) (sym items) ∙ sym (items_join l.steps steps) in
      let all : AreWoven client_shown (Client n) l.begun (l.steps ++ steps) =
      woven_join client_shown (Client n) l.begun l.steps steps was.woven (subst (λ (j : List Entry). AreWoven client_shown (Client n) j steps) (sym i.told) woven) in
      let parts : l.begun ++ entries_in (l.steps ++ steps) ≡ (l.begun ++ entries_in l.steps) ++ entries_in steps =
      ap (λ (x : List Entry). l.begun ++ x) (entries_join l.steps steps) ∙ sym (append_assoc l.begun (entries_in l.steps) (entries_in steps)) in
      let told : (l.begun ++ entries_in l.steps) ++ entries_in steps ≡ journal ++ more = ap (λ (x : List Entry). x ++ entries_in steps) i.told ∙ ap (λ (x : List Entry). journal ++ x) entries in
      record {
        go = record {
          new = record { newest = grown; older = s.older };
          is = record {
            lives = newest_grows n l grown s.older refl refl refl (record {
              history = split ∙ (here ∙ (before ∙ behind));
              woven = all;
              strays = strays_join from l.inputs inputs was.strays (subst (λ (d : ClientValue). HaveStraysLeft d inputs) (sym i.client) left);
            }) i.lives;
            client = after_joins from l.inputs inputs ∙ ap (λ (d : ClientValue). client_after d inputs) i.client;
            verifier_is = i.verifier_is;
            told = parts ∙ told;
          };
          later = later s grown steps refl refl;
          asked = asked_on l s.older inputs steps of_script asked;
        };
        begun = refl;
        steps = refl;
      }

  -- an input
  pub takes : (input : ClientInput) (more : List Entry) → IsInputOfScript input → StraysIfLeft c input → (p : Part (client_shower n) journal (items_of input (input_step input c)) more)
      → TakesPart n verifier s (input_step input c).client (journal ++ more) p.steps
  takes input more of_script left p = goes_by (input ∷ []) more p.steps (of_script, tt) (left, tt) (p.items_are ∙ sym (append-nil (items_of input (input_step input c)))) p.entries_are p.woven

  -- entries of others
  pub passes : (more : List Entry) → StoryGoes n verifier s c (journal ++ more)
  passes more = (goes_by [] more (passing HistoryItem more) tt tt (passed_items HistoryItem more) (passed_entries HistoryItem more) (passed_woven HistoryItem client_shown (Client n) journal more)).go

  -- a new start, of one that has not left
  pub starts_again : c.has_left ≡ false → StoryGoes n (verifier_after (Some verifier)) s (fresh_client n (verifier_after (Some verifier)) c.next_xid) (journal ++ Rebooted n ∷ [])
  starts_again stays =
      let l : Life = record { verifier = verifier_after (Some verifier); first_xid = c.next_xid; inputs = []; begun = journal ++ Rebooted n ∷ []; steps = [] } in
      record {
        new = record { newest = l; older = s.newest ∷ s.older };
        is = record {
          lives = (
            record { history = refl; woven = tt; strays = tt },
            record {
              stayed = ap (λ (d : ClientValue). d.has_left) i.client ∙ stays;
              verifier = ap (λ (v : ℕ). verifier_after (Some v)) (sym i.verifier_is);
              numbered_on = ap (λ (d : ClientValue). d.next_xid) (sym i.client);
              begins = ap (λ (j : List Entry). j ++ Rebooted n ∷ []) (sym i.told);
            },
            i.lives,
          );
          client = refl;
          verifier_is = refl;
          told = append-nil (journal ++ Rebooted n ∷ []);
        };
        later = older_later s l;
        asked = (tt, asked);
      }
