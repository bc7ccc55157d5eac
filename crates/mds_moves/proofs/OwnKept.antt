-- What stands of own writes stands behind each part of an event that is not of one.
use Rattle.std.proofs.Common.{◌≡◌, ◌≤◌, ℕ, ◌*◌, Bool, false, List, [], ◌∷◌, ◌++◌, Option, Some, None, refl, sym, ap, subst, ◌∙◌, ◌⊎◌, inl, inr, arith}
use Rattle.std.specs.Prelude.{slice_set}
use Rattle.std.proofs.lemmas.List.{append_assoc, append-nil}
use Rattle.std.proofs.lemmas.Option.{none-some}
use Rattle.cluster_model.specs.declared.ids.NodeId.TheVariants.{Mds, Client}
use Rattle.cluster_model.specs.declared.ids.FileId.{FileId}
use Rattle.cluster_model.specs.declared.ids.Cred.{Cred}
use Rattle.cluster_model.specs.declared.entry.Entry.{Entry}
use Rattle.cluster_model.specs.declared.entry.Entry.TheVariants as entry
use Rattle.cluster_model.specs.declared.layout_state.LayoutPhase.{LayoutPhase}
use Rattle.cluster_model.specs.declared.layout_state.LayoutPhase.TheVariants.{Held}
use Rattle.cluster_model.specs.Content.{Pending}
use Rattle.cluster_model.specs.Phases.{ids_of}
use Rattle.cluster_model.specs.Members.{IsOneOf}
use Rattle.file_rule.specs.declared.fresh.Fresh.{Fresh}
use Rattle.file_rule.specs.MdsFiles.{Activity, Idle, MdsFile, FileStep}
use Rattle.file_rule.specs.FilePhases.{FileInput, AsksLayout, OwnWrite, Recall, Returns, Revokes, OwnEnds, Resilver, Answers, TimesOut, Ticks, Sees, asked_in, held_in, by_client, recalled_row, returned_row, revoked_row, resilvered_in, answered_in, timed_out_in, ticked, phase, CallOut, call_out_of, call_out}
use Rattle.cluster_laws.specs.Machine.{PacketValue}
use Rattle.cluster_laws.specs.Agreement.{sent_in, sent_of}
use Rattle.cluster_laws.specs.Holders.{IsIn, the_write}
use Rattle.cluster_laws.specs.Telling.{telling}
use Rattle.cluster_laws.proofs.FewMirrors.{FileHasFew}
use Rattle.cluster_laws.proofs.Lives.{ids_seen}
use Rattle.cluster_laws.specs.RunBounds.{DrawsFew}
use Rattle.machine_moves.proofs.Going.{telling_append}
use Rattle.mds_rows.specs.Draws.{drawn}
use Rattle.mds_rule.specs.MdsStates.{WaitingWrite, ServedFile, MdsSend}
use Rattle.mds_walk.proofs.Lists.{all_set}
use Rattle.mds_laws.proofs.EachCases.{is_own_input}
use Rattle.mds_moves.specs.MdsBinds.{EndsInOrder, IsWrittenTo, OwnWriteStands, ServedStands, HasOwnWrites, NewHasOwnWrites, OwnWritesStay}
use Rattle.mds_moves.proofs.NamesDrawn.{names_by_uid}
use Rattle.mds_moves.proofs.WriterMirrors.{all_more, PacketsKept, mirror_still}

-- ---- what was sent stays so

in_front : (w : Pending) (a b : List Pending) → IsIn w a → IsIn w (a ++ b)
in_front w [] b is = absurd is
in_front w (x ∷ a) b (inl is) = inl is
in_front w (x ∷ a) b (inr more) = inr (in_front w a b more)

in_behind : (w : Pending) (a b : List Pending) → IsIn w b → IsIn w (a ++ b)
in_behind w [] b is = is
in_behind w (x ∷ a) b is = inr (in_behind w a b is)

pub sent_join : (uid : ℕ) (a b : List Entry) → sent_of uid (a ++ b) ≡ sent_of uid a ++ sent_of uid b
sent_join uid [] b = refl
sent_join uid (e ∷ a) b = ap (λ (l : List Pending). sent_in uid e ++ l) (sent_join uid a b) ∙ sym (append_assoc (sent_in uid e) (sent_of uid a) (sent_of uid b))

pub still_in : (uid : ℕ) (w : Pending) (a b : List Entry) → IsIn w (sent_of uid a) → IsIn w (sent_of uid (a ++ b))
still_in uid w a b is = subst (IsIn w) (sym (sent_join uid a b)) (in_front w (sent_of uid a) (sent_of uid b) is)

pub then_in : (uid : ℕ) (w : Pending) (a b : List Entry) → IsIn w (sent_of uid b) → IsIn w (sent_of uid (a ++ b))
then_in uid w a b is = subst (IsIn w) (sym (sent_join uid a b)) (in_behind w (sent_of uid a) (sent_of uid b) is)

-- ---- the entries so far are in order where all are

pub ends_before : (packets : List PacketValue) (past es more : List Entry) → EndsInOrder packets past (es ++ more) → EndsInOrder packets past es
ends_before packets past es more ends a b f cred cause is =
    ends a (b ++ more) f cred cause (ap (λ (l : List Entry). l ++ more) is ∙ append_assoc a (entry.Ended f cred cause ∷ b) more)

pub told_join : (journal es more : List Entry) → journal ++ telling (es ++ more) ≡ (journal ++ telling es) ++ telling more
told_join journal es more = ap (λ (l : List Entry). journal ++ l) (telling_append es more) ∙ sym (append_assoc journal (telling es) (telling more))

-- ---- as the machine goes on

module _ (old new : List PacketValue) (keeps : PacketsKept old new) (journal more : List Entry) (ss ts : List MdsSend) (sent : (s : MdsSend) → IsOneOf s ss → IsOneOf s ts) where
  write_later : (f : MdsFile) (o : Option WaitingWrite) → OwnWriteStands old journal ss f o → OwnWriteStands new (journal ++ more) ts f o
  write_later f None i = tt
  write_later f (Some w) i = record {
    is_recalled = i.is_recalled;
    held = i.held;
    idle = i.idle;
    uid = i.uid;
    mirrors = i.mirrors;
    taken = i.taken;
    some = i.some;
    sent = still_in w.writer.cred (the_write w.at w.bytes) journal more i.sent;
    each = all_more (IsWrittenTo old ss w.writer.cred w.at w.bytes w.failures) (IsWrittenTo new ts w.writer.cred w.at w.bytes w.failures) (λ m its. mirror_still old new keeps ss ts sent w.writer.cred w.at w.bytes w.failures m its) w.writer.mirrors i.each;
  }

  pub served_later : (s : ServedFile) → ServedStands old journal ss s → ServedStands new (journal ++ more) ts s
  served_later s i = write_later s.file s.write i

  pub own_later : (all : List ServedFile) (fresh : Fresh) → HasOwnWrites old journal ss all fresh → HasOwnWrites new (journal ++ more) ts all fresh
  own_later all fresh i = record { writes = all_more (ServedStands old journal ss) (ServedStands new (journal ++ more) ts) (λ s its. served_later s its) all i.writes; few = i.few; names = i.names }

-- one file is put back
pub own_put : (packets : List PacketValue) (journal : List Entry) (ss : List MdsSend) (all : List ServedFile) (fresh : Fresh) (place : ℕ) (t : ServedFile) → ServedStands packets journal ss t → FileHasFew t.file
    → HasOwnWrites packets journal ss all fresh → HasOwnWrites packets journal ss (slice_set all place t) fresh
own_put packets journal ss all fresh place t stands few i =
    record { writes = all_set (ServedStands packets journal ss) all place t i.writes stands; few = all_set (λ (s : ServedFile). FileHasFew s.file) all place t i.few few; names = i.names }

-- with what was drawn
pub names_drawn : (file : FileId) (fresh : Fresh) (f : MdsFile) (input : FileInput) → DrawsFew (phase file f input fresh) → fresh.name ≤ 4 * fresh.uid → (drawn fresh (phase file f input fresh)).name ≤ 4 * (drawn fresh (phase file f input fresh)).uid
names_drawn file fresh f input few names = by_both (names_by_uid file fresh f input)
  where
    by_both : ((phase file f input fresh).names ≡ 0) ⊎ ((phase file f input fresh).uids ≡ 1) → (drawn fresh (phase file f input fresh)).name ≤ 4 * (drawn fresh (phase file f input fresh)).uid
    by_both (inl none) = omega (arith, none, names)
    by_both (inr one) = let four : (phase file f input fresh).names ≤ 4 = few.names in omega (arith, one, four, names)

-- ---- a file that the metadata server holds stays so, but for its own write's end

pub record StaysHeld (is_recalled : Bool) (f g : MdsFile) : Type 0 where
  pub held : g.layout.phase ≡ Held Mds is_recalled
  pub idle : g.activity ≡ Idle
  pub cred : g.layout.cred ≡ f.layout.cred
  pub ids : ids_of g.layout.live ≡ ids_of f.layout.live

module _ (file : FileId) (fresh : Fresh) (f : MdsFile) (is_recalled : Bool) (held : f.layout.phase ≡ Held Mds is_recalled) (idle : f.activity ≡ Idle) where
  abbrev Same : FileStep → Type 0
  Same s = StaysHeld is_recalled f s.file

  as_it_is : StaysHeld is_recalled f f
  as_it_is = record { held = held; idle = idle; cred = refl; ids = refl }

  by_phase : (row : LayoutPhase → FileStep) → Same (row (Held Mds is_recalled)) → Same (row f.layout.phase)
  by_phase row its = subst (λ (p : LayoutPhase). Same (row p)) (sym held) its

  by_activity : (row : Activity → FileStep) → Same (row Idle) → Same (row f.activity)
  by_activity row its = subst (λ (a : Activity). Same (row a)) (sym idle) its

  pub stays_held : (input : FileInput) → is_own_input input ≡ false → Same (phase file f input fresh)
  stays_held (AsksLayout client) other = by_phase (λ p. asked_in file f (Client client) [] fresh p) as_it_is
  stays_held (OwnWrite at bytes) other = absurd cc
  stays_held Recall other = by_phase (λ p. held_in f (by_client f (recalled_row f)) p) as_it_is
  stays_held (Returns client claimed places) other = by_phase (λ p. held_in f (by_client f (returned_row file f client claimed places fresh)) p) as_it_is
  stays_held (Revokes cause) other = by_phase (λ p. held_in f (by_client f (λ client. revoked_row file f cause fresh)) p) as_it_is
  stays_held (OwnEnds causes at bytes) other = absurd cc
  stays_held Resilver other = by_phase (λ p. resilvered_in f fresh p) as_it_is
  stays_held (Answers xid reply) other = by_activity (λ a. answered_in file f xid reply fresh a) as_it_is
  stays_held (TimesOut xid) other = by_activity (λ a. timed_out_in file f xid fresh a) as_it_is
  stays_held Ticks other = record { held = held; idle = ap ticked idle; cred = refl; ids = refl }
  stays_held (Sees id seen) other = record { held = held; idle = idle; cred = refl; ids = ids_seen id seen f.layout.live }

-- and its write with it
pub write_kept : (packets : List PacketValue) (journal : List Entry) (ss : List MdsSend) (file : FileId) (fresh : Fresh) (f : MdsFile) (input : FileInput) → is_own_input input ≡ false → (o : Option WaitingWrite)
    → OwnWriteStands packets journal ss f o → OwnWriteStands packets journal ss (phase file f input fresh).file o
write_kept packets journal ss file fresh f input other None i = tt
write_kept packets journal ss file fresh f input other (Some w) i =
    let k : StaysHeld i.is_recalled f (phase file f input fresh).file = stays_held file fresh f i.is_recalled i.held i.idle input other in
    record {
      is_recalled = i.is_recalled;
      held = k.held;
      idle = k.idle;
      uid = ap (λ (c : Cred). c.0) k.cred ∙ i.uid;
      mirrors = i.mirrors ∙ sym k.ids;
      taken = i.taken;
      some = i.some;
      sent = i.sent;
      each = i.each;
    }

-- ---- where nothing more is told

module _ (old new : List PacketValue) (keeps : PacketsKept old new) (journal : List Entry) (ss ts : List MdsSend) (sent : (s : MdsSend) → IsOneOf s ss → IsOneOf s ts) where
  pub served_on : (s : ServedFile) → ServedStands old journal ss s → ServedStands new journal ts s
  served_on s i = subst (λ (j : List Entry). ServedStands new j ts s) (append-nil journal) (served_later old new keeps journal [] ss ts sent s i)

  pub own_on : (all : List ServedFile) (fresh : Fresh) → HasOwnWrites old journal ss all fresh → HasOwnWrites new journal ts all fresh
  own_on all fresh i = subst (λ (j : List Entry). HasOwnWrites new j ts all fresh) (append-nil journal) (own_later old new keeps journal [] ss ts sent all fresh i)

-- a file that has a call to send has no own write
pub calls_none : (packets later : List PacketValue) (journal : List Entry) (ss ts : List MdsSend) (f : MdsFile) (xid : ℕ) (c : CallOut) → call_out f xid ≡ Some c → (o : Option WaitingWrite) → OwnWriteStands packets journal ss f o
    → OwnWriteStands later journal ts c.file o
calls_none packets later journal ss ts f xid c is None i = tt
calls_none packets later journal ss ts f xid c is (Some w) i = absurd (none-some c (sym (ap (call_out_of f xid) i.idle) ∙ is))

-- ---- between events

pub new_has : NewHasOwnWrites
new_has packets journal servers mirrors = record { writes = tt; few = tt; names = omega arith }

pub writes_stay : OwnWritesStay
writes_stay mc n past more m ss keeps own = own_later mc.packets n.packets keeps past more ss ss (λ s inside. inside) m.files m.fresh own
