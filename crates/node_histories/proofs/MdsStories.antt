-- The metadata server's story goes on: by an event, or as entries of others pass it.
use Rattle.std.proofs.Common.{◌≡◌, List, [], ◌∷◌, ◌++◌, refl, sym, ap, subst, ◌∙◌}
use Rattle.std.proofs.lemmas.List.{append_assoc, append-nil}
use Rattle.cluster_model.specs.declared.ids.NodeId.TheVariants.{Mds}
use Rattle.cluster_model.specs.declared.entry.Entry.{Entry}
use Rattle.mds_rule.specs.MdsStates.{MdsValue, new_mds}
use Rattle.mds_walk.specs.MdsRuns.{MdsEvent, after_event, run_from}
use Rattle.mds_histories.specs.MdsHistory.{MdsItem, Comes, Enters, items_of, mds_history}
use Rattle.node_histories.specs.Weaves.{WeaveStep, entries_in, items_in, AreWoven}
use Rattle.node_histories.specs.NodeHistories.{AreTogether, mds_shown, MdsStory, IsMdsStory}
use Rattle.node_histories.proofs.WeaveLemmas.{entries_join, items_join, woven_join, passing, passed_entries, passed_items, passed_woven}
use Rattle.node_histories.proofs.Parts.{Part}
use Rattle.node_histories.proofs.Together.{together_join, passed_together}
use Rattle.node_histories.proofs.Origins.{MdsLater, mds_shower}

-- ---- runs and histories go on by an event

run_last : (m : MdsValue) (events : List MdsEvent) (e : MdsEvent) → (run_from m (events ++ e ∷ [])).mds ≡ (after_event e (run_from m events).mds).mds
run_last m [] e = refl
run_last m (x ∷ events) e = run_last (after_event x m).mds events e

history_last : (m : MdsValue) (events : List MdsEvent) (e : MdsEvent) → mds_history m (events ++ e ∷ []) ≡ mds_history m events ++ items_of e (after_event e (run_from m events).mds)
history_last m [] e = append-nil (items_of e (after_event e m))
history_last m (x ∷ events) e =
    ap (λ (l : List MdsItem). items_of x (after_event x m) ++ l) (history_last (after_event x m).mds events e)
    ∙ sym (append_assoc (items_of x (after_event x m)) (mds_history (after_event x m).mds events) (items_of e (after_event e (run_from (after_event x m).mds events).mds)))

-- ---- the story behind more entries

pub record MdsGoes (old : MdsStory) (m : MdsValue) (journal : List Entry) : Type 0 where
  pub new : MdsStory
  pub is : IsMdsStory new m journal
  pub later : MdsLater old new

-- by a part of its own
pub record MdsTakes (old : MdsStory) (m : MdsValue) (journal : List Entry) (more : List (WeaveStep MdsItem)) : Type 0 where
  pub go : MdsGoes old m journal
  pub steps : go.new.steps ≡ old.steps ++ more

module _ (s : MdsStory) (m : MdsValue) (journal : List Entry) (i : IsMdsStory s m journal) where
  told_on : (steps : List (WeaveStep MdsItem)) (more : List Entry) → entries_in steps ≡ more → entries_in (s.steps ++ steps) ≡ journal ++ more
  told_on steps more is = entries_join s.steps steps ∙ (ap (λ (l : List Entry). l ++ entries_in steps) i.told ∙ ap (λ (l : List Entry). journal ++ l) is)

  woven_on : (steps : List (WeaveStep MdsItem)) → AreWoven mds_shown Mds journal steps → AreWoven mds_shown Mds [] (s.steps ++ steps)
  woven_on steps woven = woven_join mds_shown Mds [] s.steps steps i.woven (subst (λ (j : List Entry). AreWoven mds_shown Mds j steps) (sym i.told) woven)

  -- an event brings what came first
  came_first : {e : MdsEvent} {items : List MdsItem} (y : Entry) (rest : List MdsItem) → Comes e ∷ items ≡ Enters y ∷ rest → ⊥
  came_first y rest is = absurd cc

  none_there : (y : Entry) (rest : List MdsItem) → [] ≡ Enters y ∷ rest → ⊥
  none_there y rest is = absurd cc

  -- an event
  pub takes : (e : MdsEvent) (more : List Entry) (p : Part mds_shower journal (items_of e (after_event e m)) more) → AreTogether p.steps → MdsTakes s (after_event e m).mds (journal ++ more) p.steps
  takes e more p together =
      let from : MdsValue = new_mds s.servers s.mirrors in
      let there : mds_history from s.events ++ items_of e (after_event e (run_from from s.events).mds) ≡ mds_history from s.events ++ items_of e (after_event e m) =
      ap (λ (x : MdsValue). mds_history from s.events ++ items_of e (after_event e x)) i.mds in
      let before : mds_history from s.events ++ items_of e (after_event e m) ≡ items_in s.steps ++ items_of e (after_event e m) = ap (λ (l : List MdsItem). l ++ items_of e (after_event e m)) i.history in
      let behind : items_in s.steps ++ items_of e (after_event e m) ≡ items_in (s.steps ++ p.steps) = ap (λ (l : List MdsItem). items_in s.steps ++ l) (sym p.items_are) ∙ sym (items_join s.steps p.steps) in
      record {
        go = record {
          new = record { servers = s.servers; mirrors = s.mirrors; events = s.events ++ e ∷ []; steps = s.steps ++ p.steps };
          is = record {
            mds = run_last from s.events e ∙ ap (λ (x : MdsValue). (after_event e x).mds) i.mds;
            history = history_last from s.events e ∙ (there ∙ (before ∙ behind));
            woven = woven_on p.steps p.woven;
            together = together_join s.steps p.steps i.together together (λ y rest is. absurd (came_first y rest (sym p.items_are ∙ is)));
            told = told_on p.steps more p.entries_are;
          };
          later = record { more = p.steps; steps = refl };
        };
        steps = refl;
      }

  -- entries of others
  pub passes : (more : List Entry) → MdsGoes s m (journal ++ more)
  passes more = record {
    new = record { servers = s.servers; mirrors = s.mirrors; events = s.events; steps = s.steps ++ passing MdsItem more };
    is = record {
      mds = i.mds;
      history = i.history ∙ (sym (append-nil (items_in s.steps)) ∙ (ap (λ (l : List MdsItem). items_in s.steps ++ l) (sym (passed_items MdsItem more)) ∙ sym (items_join s.steps (passing MdsItem more))));
      woven = woven_on (passing MdsItem more) (passed_woven MdsItem mds_shown Mds journal more);
      together = together_join s.steps (passing MdsItem more) i.together (passed_together more) (λ y rest is. absurd (none_there y rest (sym (passed_items MdsItem more) ∙ is)));
      told = told_on (passing MdsItem more) more (passed_entries MdsItem more);
    };
    later = record { more = passing MdsItem more; steps = refl };
  }
