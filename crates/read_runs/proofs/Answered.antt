-- Each answer of a history has what it rests on; and items that say nothing of live mirrors and answer no READ.
use Rattle.std.proofs.Common.{◌≡◌, ℕ, List, [], ◌∷◌, ◌++◌, Option, None, true, refl, sym, ap, subst, ◌∙◌}
use Rattle.std.specs.Prelude.{map}
use Rattle.std.specs.List.{AllByRecursion}
use Rattle.std.proofs.lemmas.List.{append_assoc, append-nil}
use Rattle.cluster_model.specs.declared.ids.FileId.{FileId}
use Rattle.cluster_model.specs.declared.ids.MirrorId.{MirrorId}
use Rattle.cluster_model.specs.declared.entry.Entry.{Entry}
use Rattle.cluster_model.specs.declared.entry.Entry.TheVariants as entry
use Rattle.cluster_laws.specs.FenceLaw.{live_by, live_in}
use Rattle.cluster_laws.proofs.Journals.{live_append}
use Rattle.mds_histories.specs.MdsHistory.{MdsItem, Comes, Enters, Sends, entries_in}
use Rattle.mds_histories.proofs.Histories.{entries_joined, entries_entered}
use Rattle.read_runs.specs.ReadRuns.{EntersNoSwapOf, IsReadAnswered}
use Rattle.read_runs.proofs.LiveTold.{is_still, still_live}
use Rattle.read_runs.proofs.WaitingReads.{NoSwapsOf}

-- ---- answers

abbrev pub IsRight : List MdsItem → MdsItem → List MdsItem → Type 0
IsRight past (Enters (entry.ReadAnswer file status bytes)) behind = IsReadAnswered past file status bytes behind
IsRight past item behind = Unit {0}

abbrev pub AreRight : List MdsItem → List MdsItem → Type 0
AreRight past [] = Unit {0}
AreRight past (x ∷ items) = IsRight past x items × AreRight (past ++ x ∷ []) items

answered_more : (past : List MdsItem) (file : FileId) (status : ℕ) (bytes : List ℕ) (behind more : List MdsItem) → IsReadAnswered past file status bytes behind → IsReadAnswered past file status bytes (behind ++ more)
answered_more past file status bytes behind more a = record {
  node = a.node;
  asked = a.asked;
  xid = a.xid;
  v = a.v;
  compound = a.compound;
  at = a.at;
  count = a.count;
  reads = a.reads;
  start = a.start;
  since = a.since;
  starts = a.starts;
  live = a.live;
  live_then = a.live_then;
  cause = a.cause;
  reply = a.reply;
  later = a.later ++ more;
  replied = ap (λ l. l ++ more) a.replied;
  number = a.number;
  whole = a.whole;
}

right_behind : (past : List MdsItem) (x : MdsItem) (behind more : List MdsItem) → IsRight past x behind → IsRight past x (behind ++ more)
right_behind past (Enters (entry.ReadAnswer file status bytes)) behind more r = answered_more past file status bytes behind more r
right_behind past x behind more r = tt

pub right_joined : (past items more : List MdsItem) → AreRight past items → AreRight (past ++ items) more → AreRight past (items ++ more)
right_joined past [] more all rest = subst (λ (l : List MdsItem). AreRight l more) (append-nil past) rest
right_joined past (x ∷ items) more all rest =
    (right_behind past x items more all.0, right_joined (past ++ x ∷ []) items more all.1 (subst (λ (l : List MdsItem). AreRight l more) (sym (append_assoc past (x ∷ []) items)) rest))

pub right_at : (past before behind : List MdsItem) (x : MdsItem) → AreRight past (before ++ x ∷ behind) → IsRight (past ++ before) x behind
right_at past [] behind x all = subst (λ (l : List MdsItem). IsRight l x behind) (sym (append-nil past)) all.0
right_at past (y ∷ before) behind x all = subst (λ (l : List MdsItem). IsRight l x behind) (append_assoc past (y ∷ []) before) (right_at (past ++ y ∷ []) before behind x all.1)

-- ---- still items

abbrev pub IsStillItem : MdsItem → Type 0
IsStillItem (Comes event) = Unit {0}
IsStillItem (Enters e) = is_still e ≡ true
IsStillItem (Sends send) = Unit {0}

abbrev pub AreStillItems : List MdsItem → Type 0
AreStillItems items = AllByRecursion IsStillItem items

right_entry : (past : List MdsItem) (e : Entry) (behind : List MdsItem) → is_still e ≡ true → IsRight past (Enters e) behind
right_entry past (entry.ReadAnswer file status bytes) behind is = absurd cc
right_entry past e behind is = tt

right_item : (past : List MdsItem) (x : MdsItem) (behind : List MdsItem) → IsStillItem x → IsRight past x behind
right_item past (Comes event) behind is = tt
right_item past (Enters e) behind is = right_entry past e behind is
right_item past (Sends send) behind is = tt

pub right_stills : (past items : List MdsItem) → AreStillItems items → AreRight past items
right_stills past [] all = tt
right_stills past (x ∷ items) all = (right_item past x items all.0, right_stills (past ++ x ∷ []) items all.1)

no_swap_entry : (file : FileId) (e : Entry) → is_still e ≡ true → EntersNoSwapOf file (Enters e)
no_swap_entry file (entry.Swapped other old new) is = absurd cc
no_swap_entry file e is = tt

no_swap_item : (file : FileId) (x : MdsItem) → IsStillItem x → EntersNoSwapOf file x
no_swap_item file (Comes event) is = tt
no_swap_item file (Enters e) is = no_swap_entry file e is
no_swap_item file (Sends send) is = tt

pub no_swap_stills : (file : FileId) (items : List MdsItem) → AreStillItems items → NoSwapsOf file items
no_swap_stills file [] all = tt
no_swap_stills file (x ∷ items) all = (no_swap_item file x all.0, no_swap_stills file items all.1)

live_items : (file : FileId) (items : List MdsItem) → AreStillItems items → (was : Option (List MirrorId)) → live_by file was (entries_in items) ≡ was
live_items file [] all was = refl
live_items file (Comes event ∷ items) all was = live_items file items all.1 was
live_items file (Enters e ∷ items) all was = ap (λ w. live_by file w (entries_in items)) (still_live file e all.0 was) ∙ live_items file items all.1 was
live_items file (Sends send ∷ items) all was = live_items file items all.1 was

-- the live list in a longer history
pub live_told : (file : FileId) (h more : List MdsItem) → live_in (entries_in (h ++ more)) file ≡ live_by file (live_in (entries_in h) file) (entries_in more)
live_told file h more = ap (λ l. live_in l file) (entries_joined h more) ∙ live_append file None (entries_in h) (entries_in more)

pub live_stills : (file : FileId) (h items : List MdsItem) → AreStillItems items → live_in (entries_in (h ++ items)) file ≡ live_in (entries_in h) file
live_stills file h items all = live_told file h items ∙ live_items file items all (live_in (entries_in h) file)

pub live_entered : (file : FileId) (h : List MdsItem) (entries : List Entry) → live_in (entries_in (h ++ map Enters entries)) file ≡ live_by file (live_in (entries_in h) file) entries
live_entered file h entries = live_told file h (map Enters entries) ∙ ap (λ l. live_by file (live_in (entries_in h) file) l) (entries_entered entries)
