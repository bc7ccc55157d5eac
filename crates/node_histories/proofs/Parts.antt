-- What an event adds to a weave: steps behind a journal, with their items and entries, and how each entry of them stands there.
use Rattle.std.proofs.Common.{◌≡◌, ℕ, ◌+◌, true, List, [], ◌∷◌, ◌++◌, refl, sym, ap, subst, ◌∙◌}
use Rattle.std.specs.Prelude.{map}
use Rattle.std.specs.List.{AllByRecursion}
use Rattle.std.proofs.lemmas.List.{append_assoc}
use Rattle.cluster_model.specs.declared.ids.NodeId.{NodeId}
use Rattle.cluster_model.specs.declared.entry.Entry.{Entry}
use Rattle.cluster_model.specs.declared.entry.Entry.TheVariants.{Packet, Delivered}
use Rattle.world_journal.specs.SentPackets.{packets_of}
use Rattle.node_histories.specs.Weaves.{ItemShown, IsUnseen, IsArrival, IsEntry, IsSending, WeaveStep, Passes, Unseen, Seen, entries_in, items_in, HasPacket, IsShownAs, AreWoven, StandsInWeave}
use Rattle.node_histories.specs.NodeHistories.{is_world_entry}
use Rattle.node_histories.proofs.WeaveLemmas.{entries_join, items_join, woven_join, IsPlaced, OfItem, OfOthers, is_placed}

pub all_joined : {A : Type 0} (P : A → Type 0) (a b : List A) → AllByRecursion P a → AllByRecursion P b → AllByRecursion P (a ++ b)
all_joined P [] b first second = second
all_joined P (x ∷ a) b first second = (first.0, all_joined P a b first.1 second)

pub all_there : {A : Type 0} (P : A → Type 0) (a b : List A) (x : A) → AllByRecursion P (a ++ x ∷ b) → P x
all_there P [] b x all = all.0
all_there P (y ∷ a) b x all = all_there P a b x all.1

-- how a node's items become entries: what it enters, of these kinds, and what it sends
pub record Shower (I S : Type 0) : Type 1 where
  pub shown : I → ItemShown
  pub node : NodeId
  pub enter : Entry → I
  pub send : S → I
  pub spell : S → NodeId × List ℕ
  pub enters_so : (e : Entry) → shown (enter e) ≡ IsEntry e
  pub sends_so : (s : S) → shown (send s) ≡ IsSending (spell s).0 (spell s).1
  pub Kind : Entry → Type 0

-- whose an entry is: the world's, one that the node enters, or one that it sends
pub data IsOwn {I S : Type 0} (w : Shower I S) (item : I) (e : Entry) : Type 0 where
  Came : is_world_entry e ≡ true → IsOwn w item e
  Entered : item ≡ w.enter e → w.Kind e → IsOwn w item e
  SentAs : (number : ℕ) (to : NodeId) (bytes : List ℕ) (s : S) → item ≡ w.send s → e ≡ Packet number w.node to bytes → IsOwn w item e

abbrev pub StepIsOwn : {I S : Type 0} → Shower I S → WeaveStep I → Type 0
StepIsOwn w (Passes e) = is_world_entry e ≡ true
StepIsOwn w (Unseen item) = Unit {0}
StepIsOwn w (Seen item e) = IsOwn w item e

-- steps with these items and entries behind a journal
pub record Part {I S : Type 0} (w : Shower I S) (journal : List Entry) (items : List I) (more : List Entry) : Type 0 where
  pub steps : List (WeaveStep I)
  pub items_are : items_in steps ≡ items
  pub entries_are : entries_in steps ≡ more
  pub woven : AreWoven w.shown w.node journal steps
  pub own : AllByRecursion (StepIsOwn w) steps

module _ {I S : Type 0} (w : Shower I S) where
  abbrev pub joins : (journal : List Entry) (a b : List I) (more further : List Entry) → Part w journal a more → Part w (journal ++ more) b further → Part w journal (a ++ b) (more ++ further)
  joins journal a b more further p q = record {
    steps = p.steps ++ q.steps;
    items_are = items_join p.steps q.steps ∙ (ap (λ (l : List I). l ++ items_in q.steps) p.items_are ∙ ap (λ (l : List I). a ++ l) q.items_are);
    entries_are = entries_join p.steps q.steps ∙ (ap (λ (l : List Entry). l ++ entries_in q.steps) p.entries_are ∙ ap (λ (l : List Entry). more ++ l) q.entries_are);
    woven = woven_join w.shown w.node journal p.steps q.steps p.woven (subst (λ (l : List Entry). AreWoven w.shown w.node (journal ++ l) q.steps) (sym p.entries_are) q.woven);
    own = all_joined (StepIsOwn w) p.steps q.steps p.own q.own;
  }

  -- what came is no entry, or is one
  pub comes_unseen : (journal : List Entry) (item : I) → w.shown item ≡ IsUnseen → Part w journal (item ∷ []) []
  comes_unseen journal item is = record { steps = Unseen item ∷ []; items_are = refl; entries_are = refl; woven = (is, tt); own = (tt, tt) }

  pub comes_by : (journal : List Entry) (item : I) (number : ℕ) (from : NodeId) (bytes : List ℕ) → w.shown item ≡ IsArrival from bytes → HasPacket journal number from w.node bytes
      → Part w journal (item ∷ []) (Delivered number ∷ [])
  comes_by journal item number from bytes is has = record {
    steps = Seen item (Delivered number) ∷ [];
    items_are = refl;
    entries_are = refl;
    woven = (subst (λ (x : ItemShown). IsShownAs w.node journal x (Delivered number)) (sym is) has, tt);
    own = (Came refl, tt);
  }

  -- an entry of the world
  pub world_enters : (journal : List Entry) (e : Entry) → is_world_entry e ≡ true → Part w journal [] (e ∷ [])
  world_enters journal e is = record { steps = Passes e ∷ []; items_are = refl; entries_are = refl; woven = tt; own = (is, tt) }

  abbrev pub enters_all : (journal entries : List Entry) → AllByRecursion w.Kind entries → Part w journal (map w.enter entries) entries
  enters_all journal [] kinds = record { steps = []; items_are = refl; entries_are = refl; woven = tt; own = tt }
  enters_all journal (e ∷ entries) kinds =
      let p : Part w (journal ++ e ∷ []) (map w.enter entries) entries = enters_all (journal ++ e ∷ []) entries kinds.1 in
      record {
        steps = Seen (w.enter e) e ∷ p.steps;
        items_are = ap (λ (l : List I). w.enter e ∷ l) p.items_are;
        entries_are = ap (λ (l : List Entry). e ∷ l) p.entries_are;
        woven = (subst (λ (x : ItemShown). IsShownAs w.node journal x e) (sym (w.enters_so e)) refl, p.woven);
        own = (Entered refl kinds.0, p.own);
      }

  pub sends_all : (journal : List Entry) (sent : ℕ) (sends : List S) → Part w journal (map w.send sends) (packets_of w.node sent (map w.spell sends))
  sends_all journal sent [] = record { steps = []; items_are = refl; entries_are = refl; woven = tt; own = tt }
  sends_all journal sent (s ∷ sends) =
      let e : Entry = Packet (sent + 1) w.node (w.spell s).0 (w.spell s).1 in
      let p : Part w (journal ++ e ∷ []) (map w.send sends) (packets_of w.node (sent + 1) (map w.spell sends)) = sends_all (journal ++ e ∷ []) (sent + 1) sends in
      record {
        steps = Seen (w.send s) e ∷ p.steps;
        items_are = ap (λ (l : List I). w.send s ∷ l) p.items_are;
        entries_are = ap (λ (l : List Entry). e ∷ l) p.entries_are;
        woven = (subst (λ (x : ItemShown). IsShownAs w.node journal x e) (sym (w.sends_so s)) (refl, refl, refl), p.woven);
        own = (SentAs (sent + 1) (w.spell s).0 (w.spell s).1 s refl refl, p.own);
      }

  -- what came, what is entered then, and what is sent
  abbrev pub acts : (journal : List Entry) (item : I) (front entries : List Entry) (sent : ℕ) (sends : List S) → Part w journal (item ∷ []) front → AllByRecursion w.Kind entries
      → Part w journal (item ∷ (map w.enter entries ++ map w.send sends)) (front ++ (entries ++ packets_of w.node sent (map w.spell sends)))
  acts journal item front entries sent sends came kinds =
      joins journal (item ∷ []) (map w.enter entries ++ map w.send sends) front (entries ++ packets_of w.node sent (map w.spell sends)) came
      (joins (journal ++ front) (map w.enter entries) (map w.send sends) entries (packets_of w.node sent (map w.spell sends)) (enters_all (journal ++ front) entries kinds)
      (sends_all ((journal ++ front) ++ entries) sent sends))

  -- an entry of a part
  pub data IsFound (steps : List (WeaveStep I)) (past : List Entry) (e : Entry) : Type 0 where
    OfWorld : is_world_entry e ≡ true → IsFound steps past e
    ByEntering : w.Kind e → StandsInWeave [] steps past (w.enter e) e → IsFound steps past e
    BySending : (number : ℕ) (to : NodeId) (bytes : List ℕ) (s : S) → e ≡ Packet number w.node to bytes → StandsInWeave [] steps past (w.send s) e → IsFound steps past e

  pub is_found : (journal : List Entry) (items : List I) (more : List Entry) (p : Part w journal items more) (past behind : List Entry) (e : Entry) → more ≡ past ++ e ∷ behind → IsFound p.steps past e
  is_found journal items more p past behind e is = by_place (is_placed p.steps past behind e (p.entries_are ∙ is))
    where
      by_owner : (earlier later : List (WeaveStep I)) (item : I) → p.steps ≡ earlier ++ Seen item e ∷ later → entries_in earlier ≡ past → IsOwn w item e → IsFound p.steps past e
      by_owner earlier later item split place (Came world) = OfWorld world
      by_owner earlier later item split place (Entered same kind) =
          ByEntering kind (record { earlier = earlier; later = later; split = subst (λ (i : I). p.steps ≡ earlier ++ Seen i e ∷ later) same split; place = sym place })
      by_owner earlier later item split place (SentAs number to bytes s same packet) =
          BySending number to bytes s packet (record { earlier = earlier; later = later; split = subst (λ (i : I). p.steps ≡ earlier ++ Seen i e ∷ later) same split; place = sym place })

      by_place : IsPlaced I p.steps past e → IsFound p.steps past e
      by_place (OfItem earlier later item split place) =
          by_owner earlier later item split place (all_there (StepIsOwn w) earlier later (Seen item e) (subst (λ (l : List (WeaveStep I)). AllByRecursion (StepIsOwn w) l) split p.own))
      by_place (OfOthers earlier later split place) =
          OfWorld (all_there (StepIsOwn w) earlier later (Passes e) (subst (λ (l : List (WeaveStep I)). AllByRecursion (StepIsOwn w) l) split p.own))

-- it stands behind the steps before
pub stands_behind : {I : Type 0} (begun journal : List Entry) (steps more : List (WeaveStep I)) (past : List Entry) (item : I) (e : Entry) → begun ++ entries_in steps ≡ journal → StandsInWeave [] more past item e
    → StandsInWeave begun (steps ++ more) (journal ++ past) item e
stands_behind {I = I} begun journal steps more past item e told s = record {
  earlier = steps ++ s.earlier;
  later = s.later;
  split = ap (λ (l : List (WeaveStep I)). steps ++ l) s.split ∙ sym (append_assoc steps s.earlier (Seen item e ∷ s.later));
  place =
      ap (λ (l : List Entry). l ++ past) (sym told)
      ∙ (append_assoc begun (entries_in steps) past ∙ (ap (λ (l : List Entry). begun ++ (entries_in steps ++ l)) s.place ∙ ap (λ (l : List Entry). begun ++ l) (sym (entries_join steps s.earlier))));
}
