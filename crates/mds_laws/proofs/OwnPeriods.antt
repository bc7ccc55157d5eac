-- The metadata server's own periods: where its write waits, it was sent, and the period's entries stand side by side.
use Rattle.std.proofs.Common.{◌≡◌, ◌<◌, ℕ, ◌+◌, ◌-◌, Bool, true, false, cond, List, [], ◌∷◌, ◌++◌, length, Option, Some, None, refl, sym, ap, subst, ◌∙◌, ◌⊎◌, inl, inr, arith}
use Rattle.std.specs.Prelude.{◌==◌, slice_get, slice_set, map, is_some}
use Rattle.std.specs.List.{list_any}
use Rattle.std.proofs.lemmas.Bool.{cond_both, cases_eq}
use Rattle.std.proofs.lemmas.Bool.Decides.{nat_tests}
use Rattle.std.proofs.lemmas.List.{append_assoc, append-nil}
use Rattle.std.proofs.lemmas.Option.{same_Some, none-some}
use Rattle.device_addr.specs.Universal.{AddressValue}
use Rattle.cluster_model.proofs.Elements.{slice_get-set_other, slice_get-set_same, Pushed, Old, New, pushed}
use Rattle.cluster_model.specs.declared.ids.NodeId.TheVariants.{Mds, Server, Client}
use Rattle.cluster_model.specs.declared.ids.FileId.{FileId}
use Rattle.cluster_model.specs.declared.ids.Cred.{Cred}
use Rattle.cluster_model.specs.declared.ids.Mirror.{Mirror}
use Rattle.cluster_model.specs.declared.phase.EndCause.TheVariants.{Returned, Own, AllReported, Recalled, Lease, NoLayout, ClientGone, ReturnedAll}
use Rattle.cluster_model.specs.declared.phase.LeftCause.{LeftCause}
use Rattle.cluster_model.specs.declared.entry.Entry.{Entry}
use Rattle.cluster_model.specs.declared.entry.Entry.TheVariants as entry
use Rattle.cluster_model.specs.declared.layout_state.LayoutState.{LayoutState}
use Rattle.cluster_model.specs.declared.layout_state.LayoutPhase.{LayoutPhase}
use Rattle.cluster_model.specs.declared.layout_state.LayoutPhase.TheVariants.{Making, Free, Held, Fencing, Settling, Copying}
use Rattle.cluster_model.specs.Phases.{with_phase, unreported, left_entries, end_entries}
use Rattle.cluster_model.specs.Members.{IsOneOf}
use Rattle.file_rule.specs.declared.fresh.Fresh.{Fresh}
use Rattle.file_rule.specs.MdsFiles.{MdsFile, FileStep, nothing}
use Rattle.file_rule.specs.FilePhases.{FileInput, OwnWrite, OwnEnds, Answers as IsAnswer, TimesOut, Sees, asked_in, are_spent, held_in, by_mds, own_row, new_mds_file, phase}
use Rattle.mds_rows.specs.Draws.{drawn}
use Rattle.recall.specs.Recalls.{without_file}
use Rattle.mirror_writer.specs.Writers as writer
use Rattle.mds_io.specs.OwnWrites.{after_own_reply}
use Rattle.mds_rule.specs.MdsStates.{CompoundRun, WaitingWrite, ServedFile, MdsSend, CallsServer, CallsBack, Replies, Answers, AwaitedCall, MdsValue, with_call, served, with_served, numbered, new_mds}
use Rattle.mds_rule.specs.declared.waiter.Waiter.TheVariants.{ForFile, ForRead, ForWrite, ForRecall}
use Rattle.mds_rule.specs.ServedFiles.{is_period_end, file_behind, file_stepped}
use Rattle.mds_rule.specs.FileOps.{servers_of, new_served, with_new_file, with_write}
use Rattle.mds_rule.specs.LayoutOps.{with_holder}
use Rattle.mds_rule.specs.Answers.{own_answer, failures_by_place, write_stepped}
use Rattle.mds_walk.specs.MdsRuns.{MdsEvent, run_from}
use Rattle.mds_laws.specs.OwnPeriods.{BeginsWithWrite, FollowsGrant, WasSentBefore, BeginsWithEnd, FollowsTold, RunsOwnPeriods}
use Rattle.mds_walk.proofs.Lists.{in_more, in_last, Split, split_in, EachOf, each_join, each_at, set_twice}
use Rattle.mds_walk.proofs.Parts.{HeardAny, CanBegin, end_input, without_write}
use Rattle.mds_laws.proofs.Keeping.{is_note}
use Rattle.mds_laws.proofs.EachCases.{EachCase, is_own_input}
use Rattle.mds_walk.proofs.Served.{place_served, served_again}
use Rattle.mds_laws.proofs.GoesWalk.{behind_each_run}
use Rattle.mds_laws.proofs.FileGrants.{out_layout}
use Rattle.mds_laws.proofs.Numbers.{WereSent, sent_more, sent_with, sent_kept}
use Rattle.mds_laws.proofs.HeldFiles.{is_own_entry, NoneOwn, left_none, IsOfOthers, HeldBack, other_apart}

-- ---- lists by their ends

last_same : {A : Type 0} (a b : List A) (x y : A) → a ++ x ∷ [] ≡ b ++ y ∷ [] → (a ≡ b) × (x ≡ y)
last_same [] [] x y is = (refl, first_is x y [] [] is)
  where
    first_is : {A : Type 0} (x y : A) (xs ys : List A) → x ∷ xs ≡ y ∷ ys → x ≡ y
    first_is x y xs ys is = cc (is)
last_same [] (z ∷ []) x y is = absurd cc
last_same [] (z ∷ w ∷ b) x y is = absurd cc
last_same (z ∷ []) [] x y is = absurd cc
last_same (z ∷ w ∷ a) [] x y is = absurd cc
last_same (z ∷ a) (w ∷ b) x y is =
    let rest = last_same a b x y (tail_is z w (a ++ x ∷ []) (b ++ y ∷ []) is) in
    (cons_is z w a b (head_is z w (a ++ x ∷ []) (b ++ y ∷ []) is) rest.0, rest.1)
  where
    head_is : {A : Type 0} (x y : A) (xs ys : List A) → x ∷ xs ≡ y ∷ ys → x ≡ y
    head_is x y xs ys is = cc (is)

    tail_is : {A : Type 0} (x y : A) (xs ys : List A) → x ∷ xs ≡ y ∷ ys → xs ≡ ys
    tail_is x y xs ys is = cc (is)

    cons_is : {A : Type 0} (x y : A) (xs ys : List A) → x ≡ y → xs ≡ ys → x ∷ xs ≡ y ∷ ys
    cons_is x y xs ys head tail = cc (head, tail)

-- ---- what each entry stands behind

pub record IsNextWrite (f : FileId) (cred : Cred) (e : Entry) : Type 0 where
  pub at : ℕ
  pub bytes : List ℕ
  pub is : e ≡ entry.Sent f cred at bytes
  pub some : 0 < length bytes

-- what comes directly behind an entry
abbrev IsNextEntry : Entry → Entry → Type 0
IsNextEntry (entry.Granted f cred Mds) e = IsNextWrite f cred e
IsNextEntry (entry.Granted f cred (Server n)) e = Unit {0}
IsNextEntry (entry.Granted f cred (Client n)) e = Unit {0}
IsNextEntry (entry.Told f cred at bytes) e = e ≡ entry.Ended f cred Own
IsNextEntry other e = Unit {0}

-- an entry behind which the next is free
abbrev IsLastEntry : Entry → Type 0
IsLastEntry (entry.Granted f cred Mds) = ⊥
IsLastEntry (entry.Granted f cred (Server n)) = Unit {0}
IsLastEntry (entry.Granted f cred (Client n)) = Unit {0}
IsLastEntry (entry.Told f cred at bytes) = ⊥
IsLastEntry other = Unit {0}

abbrev StandsBehind : List Entry → Entry → Type 0
StandsBehind past (entry.Sent f cred at bytes) = FollowsGrant f cred bytes past
StandsBehind past (entry.Told f cred at bytes) = IsOneOf (entry.Sent f cred at bytes) past
StandsBehind past (entry.Ended f cred Own) = FollowsTold f cred past
StandsBehind past (entry.Ended f cred Returned) = Unit {0}
StandsBehind past (entry.Ended f cred AllReported) = Unit {0}
StandsBehind past (entry.Ended f cred Recalled) = Unit {0}
StandsBehind past (entry.Ended f cred Lease) = Unit {0}
StandsBehind past (entry.Ended f cred NoLayout) = Unit {0}
StandsBehind past (entry.Ended f cred ClientGone) = Unit {0}
StandsBehind past (entry.Ended f cred ReturnedAll) = Unit {0}
StandsBehind past other = Unit {0}

pub record IsEntryPlaced (past : List Entry) (e : Entry) : Type 0 where
  pub behind : StandsBehind past e
  pub next : (front : List Entry) (g : Entry) → past ≡ front ++ g ∷ [] → IsNextEntry g e

abbrev IsClosed : List Entry → Type 0
IsClosed past = (front : List Entry) (g : Entry) → past ≡ front ++ g ∷ [] → IsLastEntry g

last_next : (g e : Entry) → IsLastEntry g → IsNextEntry g e
last_next (entry.Granted f cred Mds) e is = absurd is
last_next (entry.Granted f cred (Server n)) e is = tt
last_next (entry.Granted f cred (Client n)) e is = tt
last_next (entry.Told f cred at bytes) e is = absurd is
last_next other e is = tt

other_behind : (past : List Entry) (e : Entry) → is_own_entry e ≡ false → StandsBehind past e
other_behind past (entry.Sent f cred at bytes) none = absurd cc
other_behind past (entry.Told f cred at bytes) none = absurd cc
other_behind past (entry.Ended f cred Own) none = absurd cc
other_behind past (entry.Ended f cred Returned) none = tt
other_behind past (entry.Ended f cred AllReported) none = tt
other_behind past (entry.Ended f cred Recalled) none = tt
other_behind past (entry.Ended f cred Lease) none = tt
other_behind past (entry.Ended f cred NoLayout) none = tt
other_behind past (entry.Ended f cred ClientGone) none = tt
other_behind past (entry.Ended f cred ReturnedAll) none = tt
other_behind past other none = tt

other_last : (e : Entry) → is_own_entry e ≡ false → IsLastEntry e
other_last (entry.Granted f cred Mds) none = absurd cc
other_last (entry.Granted f cred (Server n)) none = tt
other_last (entry.Granted f cred (Client n)) none = tt
other_last (entry.Told f cred at bytes) none = absurd cc
other_last other none = tt

closed_push : (past : List Entry) (e : Entry) → IsLastEntry e → IsClosed (past ++ e ∷ [])
closed_push past e last front g is = subst IsLastEntry (last_same past front e g is).1 last

-- entries are placed behind others, and the last of all is closed
pub record AreEntriesPlaced (past entries : List Entry) : Type 0 where
  pub each : EachOf IsEntryPlaced past entries
  pub closed : IsClosed (past ++ entries)

others_placed : (past entries : List Entry) → IsClosed past → NoneOwn entries → AreEntriesPlaced past entries
others_placed past [] closed none = record { each = tt; closed = subst IsClosed (sym (append-nil past)) closed }
others_placed past (e ∷ entries) closed none =
    let rest : AreEntriesPlaced (past ++ e ∷ []) entries = others_placed (past ++ e ∷ []) entries (closed_push past e (other_last e none.0)) none.1 in
    record {
      each = (record { behind = other_behind past e none.0; next = λ front g is. last_next g e (closed front g is) }, rest.each);
      closed = subst IsClosed (append_assoc past (e ∷ []) entries) rest.closed;
    }

-- two entries side by side
pair_placed : (past : List Entry) (a b : Entry) → IsClosed past → StandsBehind past a → StandsBehind (past ++ a ∷ []) b → IsNextEntry a b → IsLastEntry b → AreEntriesPlaced past (a ∷ b ∷ [])
pair_placed past a b closed first second next last = record {
  each = (
    record { behind = first; next = λ front g is. last_next g a (closed front g is) },
    (record { behind = second; next = λ front g is. subst (λ (x : Entry). IsNextEntry x b) (last_same past front a g is).1 next }, tt),
  );
  closed = subst IsClosed (append_assoc past (a ∷ []) (b ∷ [])) (closed_push (past ++ a ∷ []) b last);
}

join_placed : (past a b : List Entry) → AreEntriesPlaced past a → AreEntriesPlaced (past ++ a) b → AreEntriesPlaced past (a ++ b)
join_placed past a b first second = record { each = each_join IsEntryPlaced past a b first.each second.each; closed = subst IsClosed (append_assoc past a b) second.closed }

-- ---- a period begins and ends

abbrev pub own_granted : FileId → MdsFile → ℕ → List ℕ → FileStep
own_granted file f at bytes = record {
  file = record { layout = with_phase f.layout (Held Mds false); activity = f.activity };
  entries = entry.Granted file f.layout.cred Mds ∷ entry.Sent file f.layout.cred at bytes ∷ [];
  uids = 0;
  names = 0;
}

-- the file is granted to the metadata server
pub own_granted_so : (file : FileId) (f : MdsFile) (fresh : Fresh) (at : ℕ) (bytes : List ℕ) → f.layout.phase ≡ Free → are_spent fresh ≡ false → phase file f (OwnWrite at bytes) fresh ≡ own_granted file f at bytes
own_granted_so file f fresh at bytes free unspent =
    ap (λ (p : LayoutPhase). asked_in file f Mds (entry.Sent file f.layout.cred at bytes ∷ []) fresh p) free ∙ ap (λ (b : Bool). cond b (nothing f) (own_granted file f at bytes)) unspent

begins_placed : (past : List Entry) (file : FileId) (f : MdsFile) (at : ℕ) (bytes : List ℕ) → IsClosed past → 0 < length bytes → AreEntriesPlaced past (own_granted file f at bytes).entries
begins_placed past file f at bytes closed some =
    pair_placed past (entry.Granted file f.layout.cred Mds) (entry.Sent file f.layout.cred at bytes) closed tt (record { before = past; is = refl; some = some }) (record { at = at; bytes = bytes; is = refl; some = some }) tt

module _ (past : List Entry) (closed : IsClosed past) (file : FileId) (f : MdsFile) (fresh : Fresh) (causes : List (Option LeftCause)) (at : ℕ) (bytes : List ℕ) where
  abbrev told : Entry
  told = entry.Told file f.layout.cred at bytes

  abbrev gone : List Entry
  gone = left_entries file causes f.layout.live

  end_placed : IsOneOf (entry.Sent file f.layout.cred at bytes) past → (live : List Mirror) → AreEntriesPlaced past (end_entries file f.layout.cred (gone ++ told ∷ []) Own live)
  end_placed sent [] = others_placed past (entry.Ended file f.layout.cred AllReported ∷ []) closed (refl, tt)
  end_placed sent (m ∷ live) =
      let first : AreEntriesPlaced past gone = others_placed past gone closed (left_none file causes f.layout.live) in
      let pair : AreEntriesPlaced (past ++ gone) (told ∷ entry.Ended file f.layout.cred Own ∷ []) =
      pair_placed (past ++ gone) told (entry.Ended file f.layout.cred Own) first.closed (in_more (entry.Sent file f.layout.cred at bytes) past gone sent) (record { at = at; bytes = bytes; before = past ++ gone; is = refl }) refl tt in
      subst (λ (l : List Entry). AreEntriesPlaced past l) (sym (append_assoc gone (told ∷ []) (entry.Ended file f.layout.cred Own ∷ []))) (join_placed past gone (told ∷ entry.Ended file f.layout.cred Own ∷ []) first pair)

  none_placed : AreEntriesPlaced past []
  none_placed = record { each = tt; closed = subst IsClosed (sym (append-nil past)) closed }

  by_phase : ((is_recalled : Bool) → f.layout.phase ≡ Held Mds is_recalled → IsOneOf (entry.Sent file f.layout.cred at bytes) past) → (p : LayoutPhase) → f.layout.phase ≡ p
      → AreEntriesPlaced past (held_in f (by_mds f (own_row file f causes told fresh)) p).entries
  by_phase sent Making is = none_placed
  by_phase sent Free is = none_placed
  by_phase sent (Held Mds is_recalled) is = end_placed (sent is_recalled is) (unreported (map is_some causes) f.layout.live)
  by_phase sent (Held (Server n) is_recalled) is = none_placed
  by_phase sent (Held (Client n) is_recalled) is = none_placed
  by_phase sent (Fencing next end) is = none_placed
  by_phase sent (Settling copies) is = none_placed
  by_phase sent (Copying copier copies) is = none_placed

  ends_placed : ((is_recalled : Bool) → f.layout.phase ≡ Held Mds is_recalled → IsOneOf (entry.Sent file f.layout.cred at bytes) past) → AreEntriesPlaced past (phase file f (OwnEnds causes at bytes) fresh).entries
  ends_placed sent = by_phase sent f.layout.phase refl

-- ---- all files: a write that waits was sent, where the metadata server holds the file

abbrev WaitsSent : FileId → List Entry → MdsFile → Option WaitingWrite → Type 0
WaitsSent file es f None = Unit {0}
WaitsSent file es f (Some w) = (is_recalled : Bool) → f.layout.phase ≡ Held Mds is_recalled → IsOneOf (entry.Sent file f.layout.cred w.at w.bytes) es

abbrev AreSent : List ServedFile → List Entry → Type 0
AreSent files es = (place : ℕ) (s : ServedFile) → slice_get files place ≡ Some s → WaitsSent (numbered (place + 1)) es s.file s.write

record Stands (files : List ServedFile) (calls : List AwaitedCall) (es : List Entry) (ss : List MdsSend) : Type 0 where
  pub sent : AreSent files es
  pub placed : AreEntriesPlaced [] es
  pub were : WereSent calls ss

abbrev IsSo : MdsValue → List Entry → List MdsSend → Type 0
IsSo m es ss = Stands m.files m.calls es ss

number_of : (n : ℕ) → (n == 0) ≡ false → n - 1 + 1 ≡ n
number_of n is = grind (arith, nat_tests, is)

sent_later : (file : FileId) (es more : List Entry) (f : MdsFile) (o : Option WaitingWrite) → WaitsSent file es f o → WaitsSent file (es ++ more) f o
sent_later file es more f None i = tt
sent_later file es more f (Some w) i = λ r held. in_more (entry.Sent file f.layout.cred w.at w.bytes) es more (i r held)

-- one file changes
sent_set : (files : List ServedFile) (es more : List Entry) (place : ℕ) (s t : ServedFile) → slice_get files place ≡ Some s → AreSent files es → WaitsSent (numbered (place + 1)) (es ++ more) t.file t.write → AreSent (slice_set files place t) (es ++ more)
sent_set files es more place s t at old new other x got = by_place (cases_eq other place)
  where
    by_place : (other ≡ place) ⊎ (other ≡ place → ⊥) → WaitsSent (numbered (other + 1)) (es ++ more) x.file x.write
    by_place (inl same) =
        let its : t ≡ x = same_Some t x (sym (slice_get-set_same files place s t at) ∙ (ap (slice_get (slice_set files place t)) (sym same) ∙ got)) in
        subst (λ (y : ServedFile). WaitsSent (numbered (other + 1)) (es ++ more) y.file y.write) its (subst (λ (n : ℕ). WaitsSent (numbered (n + 1)) (es ++ more) t.file t.write) (sym same) new)
    by_place (inr ne) = sent_later (numbered (other + 1)) es more x.file x.write (old other x (sym (slice_get-set_other files place other t ne) ∙ got))

module _ (m : MdsValue) (file : FileId) (s : ServedFile) (at : served m file ≡ Some s) where
  abbrev place : ℕ
  place = file.0 - 1

  there : slice_get m.files (file.0 - 1) ≡ Some s
  there = (place_served m file s at).1

  its_number : file.0 - 1 + 1 ≡ file.0
  its_number = number_of file.0 (place_served m file s at).0

  its_sent : (es : List Entry) → AreSent m.files es → WaitsSent file es s.file s.write
  its_sent es all = subst (λ (n : ℕ). WaitsSent (numbered n) es s.file s.write) its_number (all (file.0 - 1) s there)

  -- it is put back, behind what is entered
  puts_so : (es more : List Entry) (t : ServedFile) → AreSent m.files es → WaitsSent file (es ++ more) t.file t.write → AreSent (slice_set m.files (file.0 - 1) t) (es ++ more)
  puts_so es more t all new = sent_set m.files es more (file.0 - 1) s t there all (subst (λ (n : ℕ). WaitsSent (numbered n) (es ++ more) t.file t.write) (sym its_number) new)

  put_case : (t : ServedFile) (es : List Entry) (ss : List MdsSend) → WaitsSent file es t.file t.write → IsSo m es ss → IsSo (with_served m file t) es ss
  put_case t es ss new i = record {
    sent = subst (λ (l : List Entry). AreSent (slice_set m.files (file.0 - 1) t) l) (append-nil es) (puts_so es [] t i.sent (subst (λ (l : List Entry). WaitsSent file l t.file t.write) (sym (append-nil es)) new));
    placed = i.placed;
    were = i.were;
  }

  input_case : (input : FileInput) (es : List Entry) (ss : List MdsSend) → AreEntriesPlaced es (phase file s.file input m.fresh).entries
      → WaitsSent file (es ++ (phase file s.file input m.fresh).entries) (phase file s.file input m.fresh).file s.write → IsSo m es ss
      → IsSo (file_stepped m file s (phase file s.file input m.fresh)).mds (es ++ (phase file s.file input m.fresh).entries) ss
  input_case input es ss more new i =
      let step : FileStep = phase file s.file input m.fresh in
      let n : MdsValue = with_served (record m { fresh = drawn m.fresh step }) file (file_behind s step) in
      let its : Stands n.files n.calls (es ++ step.entries) ss = record { sent = puts_so es step.entries (file_behind s step) i.sent new; placed = join_placed [] es step.entries i.placed more; were = i.were } in
      cond_both (list_any is_period_end step.entries) (record n { recalls = without_file file n.recalls }) n (λ (x : MdsValue). Stands x.files x.calls (es ++ step.entries) ss) (λ end. its) (λ other. its)

  back_sent : (es more : List Entry) (g : MdsFile) → HeldBack s.file.layout g.layout → (o : Option WaitingWrite) → WaitsSent file es s.file o → WaitsSent file (es ++ more) g o
  back_sent es more g back None was = tt
  back_sent es more g back (Some w) was = λ r held.
      (let k = back r held in
      in_more (entry.Sent file g.layout.cred w.at w.bytes) es more (subst (λ (c : Cred). IsOneOf (entry.Sent file c w.at w.bytes) es) (sym k.cred) (was r (k.held ∙ held))))

  other_case : (input : FileInput) → is_own_input input ≡ false → (es : List Entry) (ss : List MdsSend) → IsSo m es ss → IsSo (file_stepped m file s (phase file s.file input m.fresh)).mds (es ++ (phase file s.file input m.fresh).entries) ss
  other_case input other es ss i =
      let k : IsOfOthers file m.fresh s.file.layout (phase file s.file input m.fresh) = other_apart file m.fresh s.file input other in
      input_case input es ss (others_placed es (phase file s.file input m.fresh).entries i.placed.closed k.none)
      (back_sent es (phase file s.file input m.fresh).entries (phase file s.file input m.fresh).file k.back s.write (its_sent es i.sent)) i

  waiting_sent : (es : List Entry) → AreSent m.files es → (w : WaitingWrite) → s.write ≡ Some w → WaitsSent file es s.file (Some w)
  waiting_sent es all w waits = subst (λ (o : Option WaitingWrite). WaitsSent file es s.file o) waits (its_sent es all)

  call_case : (t : ServedFile) (call : AwaitedCall) (es : List Entry) (ss : List MdsSend) → WaitsSent file es t.file t.write → IsSo m es ss
      → Stands (slice_set m.files (file.0 - 1) t) (with_call call m.calls) (es ++ []) (ss ++ call.sent ∷ [])
  call_case t call es ss new i = record {
    sent = puts_so es [] t i.sent (subst (λ (l : List Entry). WaitsSent file l t.file t.write) (sym (append-nil es)) new);
    placed = subst (λ (l : List Entry). AreEntriesPlaced [] l) (sym (append-nil es)) i.placed;
    were = sent_with m.calls ss call i.were;
  }

sends : (files : List ServedFile) (calls : List AwaitedCall) (es : List Entry) (ss : List MdsSend) (s : MdsSend) → Stands files calls es ss → Stands files calls es (ss ++ s ∷ [])
sends files calls es ss s i = record { sent = i.sent; placed = i.placed; were = sent_more calls ss s i.were }

note_other : (e : Entry) → is_note e ≡ true → is_own_entry e ≡ false
note_other (entry.TimedOut node xid) note = refl
note_other (entry.Failed id xid) note = refl
note_other (entry.Later file phase) note = refl
note_other (entry.ReadAnswer file status bytes) note = refl
note_other e note = absurd cc

free_apart : (is_recalled : Bool) → Free ≡ Held Mds is_recalled → ⊥
free_apart is_recalled is = absurd cc

-- a new file is being made
makes : (m : MdsValue) (name : List ℕ) (es : List Entry) (ss : List MdsSend) → IsSo m es ss → IsSo (with_new_file m name) es ss
makes m name es ss i = record { sent = λ place s got. by_place place s (pushed m.files _ place s got); placed = i.placed; were = i.were }
  where
    by_place : (place : ℕ) (s : ServedFile) → Pushed m.files (new_served name (new_mds_file m.fresh (servers_of (length m.servers) m.mirrors (length m.files + 1)))) place s → WaitsSent (numbered (place + 1)) es s.file s.write
    by_place place s (Old at) = i.sent place s at
    by_place place s (New at its) = subst (λ (x : ServedFile). WaitsSent (numbered (place + 1)) es x.file x.write) (sym its) tt

same_sent : (file : FileId) (es : List Entry) (s t : ServedFile) → t.file ≡ s.file → t.write ≡ s.write → WaitsSent file es s.file s.write → WaitsSent file es t.file t.write
same_sent file es s t same write i =
    subst (λ (f : MdsFile). WaitsSent file es f t.write) (sym same) (subst (λ (o : Option WaitingWrite). WaitsSent file es s.file o) (sym write) i)

-- a file's call changes no layout
layout_sent : (file : FileId) (es : List Entry) (f g : MdsFile) → g.layout ≡ f.layout → (o : Option WaitingWrite) → WaitsSent file es f o → WaitsSent file es g o
layout_sent file es f g same None i = tt
layout_sent file es f g same (Some w) i = λ r held. subst (λ (l : LayoutState). IsOneOf (entry.Sent file l.cred w.at w.bytes) es) (sym same) (i r (ap (λ (l : LayoutState). l.phase) (sym same) ∙ held))

begins : (m : MdsValue) (file : FileId) (s : ServedFile) (c : CompoundRun) (at : ℕ) (bytes : List ℕ) (there : served m file ≡ Some s) → CanBegin m s at bytes → (es : List Entry) (ss : List MdsSend) → IsSo m es ss
    → IsSo (with_served (file_stepped m file s (phase file s.file (OwnWrite at bytes) m.fresh)).mds file (with_write c at bytes (file_behind s (phase file s.file (OwnWrite at bytes) m.fresh)))) (es ++ (phase file s.file (OwnWrite at bytes) m.fresh).entries) ss
begins m file s c at bytes there can es ss i =
    let made : FileStep = phase file s.file (OwnWrite at bytes) m.fresh in
    let so : made ≡ own_granted file s.file at bytes = own_granted_so file s.file m.fresh at bytes can.free can.unspent in
    let t : ServedFile = file_behind s made in
    let u : ServedFile = with_write c at bytes t in
    let x : MdsValue = with_served (record m { fresh = drawn m.fresh made }) file t in
    let new : IsOneOf (entry.Sent file made.file.layout.cred at bytes) (es ++ made.entries) =
    subst (λ (y : FileStep). IsOneOf (entry.Sent file y.file.layout.cred at bytes) (es ++ y.entries)) (sym so)
    (subst (λ (l : List Entry). IsOneOf (entry.Sent file s.file.layout.cred at bytes) l) (append_assoc es (entry.Granted file s.file.layout.cred Mds ∷ []) (entry.Sent file s.file.layout.cred at bytes ∷ []))
    (in_last (entry.Sent file s.file.layout.cred at bytes) (es ++ entry.Granted file s.file.layout.cred Mds ∷ []))) in
    let its : Stands (slice_set (slice_set m.files (file.0 - 1) t) (file.0 - 1) u) m.calls (es ++ made.entries) ss = record {
      sent = subst (λ (all : List ServedFile). AreSent all (es ++ made.entries)) (sym (set_twice m.files (file.0 - 1) t u)) (puts_so m file s there es made.entries u i.sent (λ r held. new));
      placed = join_placed [] es made.entries i.placed (subst (λ (y : FileStep). AreEntriesPlaced es y.entries) (sym so) (begins_placed es file s.file at bytes i.placed.closed can.some));
      were = i.were;
    } in
    cond_both (list_any is_period_end made.entries) (record x { recalls = without_file file x.recalls }) x (λ (y : MdsValue). IsSo (with_served y file u) (es ++ made.entries) ss) (λ end. its) (λ other. its)

cases : EachCase IsSo HeardAny
cases = record {
  quiet = λ m confirmed opens reclaimed recalls es ss i. i;
  tables = λ m move is es ss i. i;
  replies = λ m node reply es ss i. sends m.files m.calls es ss (Replies node reply) i;
  answers = λ m node bytes reply is es ss i. sends m.files m.calls es ss (Answers node bytes) i;
  notes = λ m e note es ss i. record {
    sent = λ place s got. sent_later (numbered (place + 1)) es (e ∷ []) s.file s.write (i.sent place s got);
    placed = join_placed [] es (e ∷ []) i.placed (others_placed es (e ∷ []) i.placed.closed (note_other e note, tt));
    were = i.were;
  };
  puts = λ m file s t at same holder write es ss i. put_case m file s at t es ss (same_sent file es s t same write (its_sent m file s at es i.sent)) i;
  holds = λ m file s client again at es ss i. put_case m file s at (with_holder client again s) es ss (its_sent m file s at es i.sent) i;
  inputs = λ m file s input itself other at fresh es ss i. other_case m file s at input other es ss i;
  timeouts = λ m file s xid at fresh es ss i. other_case m file s at (TimesOut xid) refl es ss i;
  hears = λ m file s call server own uid c replies heard caller sent out at fresh es ss i. other_case m file s at (IsAnswer call.xid (own_answer c (replies c))) refl es ss i;
  learns = λ m file s call server own uid c replies fileid shown heard caller sent named shows at fresh es ss i. other_case m file s at (Sees (record { server = server; fileid = fileid }) shown.seen) refl es ss i;
  begins_write = λ m file s c at bytes there can fresh es ss i. begins m file s c at bytes there can es ss i;
  begins_alone = λ m file s c at bytes there can spent es ss i. put_case m file s there (with_write c at bytes s) es ss (λ r held. absurd (free_apart r (sym can.free ∙ held))) i;
  answers_write = λ m file s w call server own uid c replies heard caller sent at waits es ss i.
      put_case m file s at (record s { write = Some (write_stepped w (after_own_reply w.writer call.xid (replies c))) }) es ss (waiting_sent m file s at es i.sent w waits) i;
  times_write = λ m file s w xid at waits es ss i. put_case m file s at (record s { write = Some (write_stepped w (writer.after_timeout w.writer xid)) }) es ss (waiting_sent m file s at es i.sent w waits) i;
  ends_write = λ m file s w places at waits over fresh es ss i.
      input_case (with_served m file (without_write s)) file (without_write s) (served_again m file s (without_write s) at) (end_input s w) es ss
      (ends_placed es i.placed.closed file s.file m.fresh (failures_by_place w.failures s.file.layout.live) w.at w.bytes (waiting_sent m file s at es i.sent w waits)) tt (put_case m file s at (without_write s) es ss tt i);
  drops_write = λ m file s w places at waits over spent es ss i. put_case m file s at (without_write s) es ss tt i;
  makes = λ m name may. makes m name;
  calls_file = λ m file s c at has its es ss i.
      call_case m file s at (record s { file = c.file }) (record { node = Server c.server; xid = m.next_xid; caller = ForFile file; sent = CallsServer c.server m.next_xid c.uid c.call }) es ss
      (layout_sent file es s.file c.file (out_layout s.file m.next_xid c its) s.write (its_sent m file s at es i.sent)) i;
  calls_write = λ m file s w c at has waits its is_write es ss i.
      call_case m file s at (record s { write = Some (record w { writer = c.writer }) }) (record { node = Server c.id.server; xid = m.next_xid; caller = ForWrite file; sent = CallsServer c.id.server m.next_xid w.writer.cred c.call }) es ss
      (waiting_sent m file s at es i.sent w waits) i;
  calls_read = λ m file s t server call at has same holder write uid is_read es ss i.
      call_case m file s at t (record { node = Server server; xid = m.next_xid; caller = ForRead file; sent = CallsServer server m.next_xid 0 call }) es ss (same_sent file es s t same write (its_sent m file s at es i.sent)) i;
  calls_back = λ m node back file stateid has es ss i.
      subst (λ (l : List Entry). Stands m.files (with_call (record { node = node; xid = m.next_xid; caller = ForRecall; sent = CallsBack m.next_xid back file stateid }) m.calls) l (ss ++ CallsBack m.next_xid back file stateid ∷ [])) (sym (append-nil es))
      (record { sent = i.sent; placed = i.placed; were = sent_with m.calls ss (record { node = node; xid = m.next_xid; caller = ForRecall; sent = CallsBack m.next_xid back file stateid }) i.were });
  skips = λ m has es ss i. i;
  forgets = λ m test es ss i. record { sent = i.sent; placed = i.placed; were = sent_kept test m.calls ss i.were };
  was = λ m es ss i. i.were;
  again = λ m s es ss i inside. sends m.files m.calls es ss s i;
}

none_closed : IsClosed []
none_closed [] g is = absurd cc
none_closed (x ∷ front) g is = absurd cc

begun : (servers : List AddressValue) (mirrors : ℕ) → IsSo (new_mds servers mirrors) [] []
begun servers mirrors = record { sent = λ place s got. absurd (none-some s got); placed = record { each = tt; closed = none_closed }; were = λ call inside. absurd inside }

-- ---- the law

module _ (entries : List Entry) (placed : AreEntriesPlaced [] entries) where
  placed_at : (before after : List Entry) (e : Entry) → entries ≡ before ++ e ∷ after → IsEntryPlaced before e
  placed_at before after e is = each_at IsEntryPlaced [] before after e (subst (EachOf IsEntryPlaced []) is placed.each)

  -- what stands behind an entry that does not end the list
  behind_it : (before after : List Entry) (g : Entry) → entries ≡ before ++ g ∷ after → (IsLastEntry g → ⊥) → (e : Entry) × (rest : List Entry) × (after ≡ e ∷ rest) × IsNextEntry g e
  behind_it before [] g is open_end = absurd (open_end (placed.closed before g is))
  behind_it before (e ∷ rest) g is open_end = (e, rest, refl, (placed_at (before ++ g ∷ []) rest e (is ∙ sym (append_assoc before (g ∷ []) (e ∷ rest)))).next before g refl)

  granted_first : (before after : List Entry) (f : FileId) (cred : Cred) → entries ≡ before ++ entry.Granted f cred Mds ∷ after → BeginsWithWrite f cred after
  granted_first before after f cred is =
      let k = behind_it before after (entry.Granted f cred Mds) is (λ x. x) in
      let w : IsNextWrite f cred k.0 = k.3 in
      record { at = w.at; bytes = w.bytes; behind = k.1; is = k.2 ∙ ap (λ (e : Entry). e ∷ k.1) w.is; some = w.some }

  told_first : (before after : List Entry) (f : FileId) (cred : Cred) (at : ℕ) (bytes : List ℕ) → entries ≡ before ++ entry.Told f cred at bytes ∷ after → WasSentBefore f cred at bytes before × BeginsWithEnd f cred after
  told_first before after f cred at bytes is =
      let k = behind_it before after (entry.Told f cred at bytes) is (λ x. x) in
      let s : Split (entry.Sent f cred at bytes) before = split_in (entry.Sent f cred at bytes) before (placed_at before after (entry.Told f cred at bytes) is).behind in
      (record { before = s.front; behind = s.behind; is = s.is }, record { behind = k.1; is = k.2 ∙ ap (λ (e : Entry). e ∷ k.1) k.3 })

pub runs_own_periods : (servers : List AddressValue) (mirrors : ℕ) (events : List MdsEvent) → RunsOwnPeriods servers mirrors events
runs_own_periods servers mirrors events =
    let run : IsSo (run_from (new_mds servers mirrors) events).mds (run_from (new_mds servers mirrors) events).entries (run_from (new_mds servers mirrors) events).sends =
    behind_each_run IsSo cases (λ m request now es ss i. i) (new_mds servers mirrors) events (begun servers mirrors) in
    let all : List Entry = (run_from (new_mds servers mirrors) events).entries in
    record {
      granted = granted_first (run_from (new_mds servers mirrors) events).entries run.placed;
      sent = λ before after f cred at bytes is. (placed_at (run_from (new_mds servers mirrors) events).entries run.placed before after (entry.Sent f cred at bytes) is).behind;
      told = told_first (run_from (new_mds servers mirrors) events).entries run.placed;
      ended = λ before after f cred is. (placed_at (run_from (new_mds servers mirrors) events).entries run.placed before after (entry.Ended f cred Own) is).behind;
    }
