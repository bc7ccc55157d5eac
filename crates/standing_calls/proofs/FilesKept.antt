-- The calls of each file stand, through what becomes of one file and of the table.
use Rattle.std.proofs.Common.{arith, ◌≡◌, ◌≢◌, ℕ, Bool, true, false, List, [], ◌∷◌, ◌++◌, Option, Some, None, refl, sym, ap, subst, ◌∙◌, ◌⊎◌, inl, inr, filter}
use Rattle.std.specs.Prelude.{◌-◌, ◌==◌, not, slice_get, slice_set, if◌then◌else◌}
use Rattle.std.specs.List.{find, list_any}
use Rattle.std.proofs.lemmas.Bool.{cond_both, eqb-true, eq-eqb}
use Rattle.std.proofs.lemmas.Option.{none-some, same_Some}
use Rattle.cluster_model.proofs.Elements.{slice_get-set_other, Pushed, Old, New, pushed}
use Rattle.cluster_model.specs.Members.{IsOneOf}
use Rattle.cluster_model.specs.declared.ids.NodeId.{NodeId}
use Rattle.cluster_model.specs.declared.ids.NodeId.TheVariants.{Server}
use Rattle.cluster_model.specs.declared.ids.FileId.{FileId}
use Rattle.file_rule.specs.MdsFiles.{FileStep}
use Rattle.mds_rows.specs.Draws.{drawn}
use Rattle.recall.specs.Recalls.{without_file}
use Rattle.mds_rule.specs.MdsStates.{ServedFile, MdsSend, AwaitedCall, MdsValue, with_call, is_call_to, without_call, served_in, served, with_served}
use Rattle.mds_rule.specs.declared.waiter.Waiter.{Waiter}
use Rattle.mds_rule.specs.declared.waiter.Waiter.TheVariants.{ForFile, ForRead, ForWrite, ForRecall}
use Rattle.mds_rule.specs.ServedFiles.{is_period_end, file_behind, file_stepped}
use Rattle.mds_rule.specs.Answers.{is_file_out, has_read_out, has_write_out, is_awaited}
use Rattle.mds_walk.proofs.Served.{place_served, served_again}
use Rattle.mds_walk.proofs.TableKept.{IsTable}
use Rattle.standing_calls.proofs.Spots.{Spot, has_number, not_both, at_number, IsLeft, left_same}
use Rattle.standing_calls.proofs.Stands.{Good, good_left, good_called, good_out, good_without, Awaits, good_leaves, good_forgets}
use Rattle.standing_calls.proofs.OwnSpots.{own_spots, outstanding_at}
use Rattle.standing_calls.proofs.OwnSteps.{KindOf}
use Rattle.standing_calls.proofs.ReadSpots.{read_spots, TurnsSo, any_out}
use Rattle.standing_calls.proofs.WriteSpots.{write_spots, writer_out}

-- ---- one file

pub record FileGood (calls : List AwaitedCall) (file : FileId) (s : ServedFile) : Type 0 where
  pub own : Good calls (ForFile file) (own_spots s.file)
  pub reads : Good calls (ForRead file) (read_spots s.reads)
  pub write : Good calls (ForWrite file) (write_spots s.write)
  pub turns : TurnsSo s.reads
  pub kind : KindOf s.file

-- a part of its calls is left
pub record Leaves (s t : ServedFile) : Type 0 where
  pub own : IsLeft (own_spots t.file) (own_spots s.file)
  pub reads : IsLeft (read_spots t.reads) (read_spots s.reads)
  pub write : IsLeft (write_spots t.write) (write_spots s.write)
  pub turns : TurnsSo t.reads
  pub kind : KindOf t.file

pub file_left : (calls : List AwaitedCall) (file : FileId) (s t : ServedFile) → Leaves s t → FileGood calls file s → FileGood calls file t
file_left calls file s t l g = record {
  own = good_left calls (ForFile file) (own_spots t.file) (own_spots s.file) l.own g.own;
  reads = good_left calls (ForRead file) (read_spots t.reads) (read_spots s.reads) l.reads g.reads;
  write = good_left calls (ForWrite file) (write_spots t.write) (write_spots s.write) l.write g.write;
  turns = l.turns;
  kind = l.kind;
}

-- the same file, and the same waiter

abbrev pub file_of : Waiter → Option FileId
file_of (ForFile file) = Some file
file_of (ForRead file) = Some file
file_of (ForWrite file) = Some file
file_of ForRecall = None

abbrev kind_number : Waiter → ℕ
kind_number (ForFile file) = 1
kind_number (ForRead file) = 2
kind_number (ForWrite file) = 3
kind_number ForRecall = 4

-- the call of this waiter is answered: what is left of its list is without the number
pub record Hears (call : AwaitedCall) (file : FileId) (xid : ℕ) (s t : ServedFile) : Type 0 where
  pub leaves : Leaves s t
  pub own : ForFile file ≡ call.caller → has_number xid (own_spots t.file) ≡ false
  pub reads : ForRead file ≡ call.caller → has_number xid (read_spots t.reads) ≡ false
  pub write : ForWrite file ≡ call.caller → has_number xid (write_spots t.write) ≡ false

pub file_heard : (calls : List AwaitedCall) (node : NodeId) (xid : ℕ) (call : AwaitedCall) (file : FileId) (s t : ServedFile) → find (is_call_to node xid) calls ≡ Some call → Hears call file xid s t → FileGood calls file s
    → FileGood (without_call node xid calls) file t
file_heard calls node xid call file s t found h g = record {
  own = good_without calls node xid call (ForFile file) (own_spots t.file) (own_spots s.file) found h.leaves.own h.own g.own;
  reads = good_without calls node xid call (ForRead file) (read_spots t.reads) (read_spots s.reads) found h.leaves.reads h.reads g.reads;
  write = good_without calls node xid call (ForWrite file) (write_spots t.write) (write_spots s.write) found h.leaves.write h.write g.write;
  turns = h.leaves.turns;
  kind = h.leaves.kind;
}

pub leaves_same : (calls : List AwaitedCall) (file : FileId) (s : ServedFile) → FileGood calls file s → Leaves s s
leaves_same calls file s g = record { own = left_same (own_spots s.file); reads = left_same (read_spots s.reads); write = left_same (write_spots s.write); turns = g.turns; kind = g.kind }

-- it is a call of another file
unheard : (calls : List AwaitedCall) (xid : ℕ) (call : AwaitedCall) (file : FileId) (s : ServedFile) → (file_of call.caller ≡ Some file → ⊥) → FileGood calls file s → Hears call file xid s s
unheard calls xid call file s other g = record {
  leaves = leaves_same calls file s g;
  own = λ is. absurd (other (sym (ap file_of is)));
  reads = λ is. absurd (other (sym (ap file_of is)));
  write = λ is. absurd (other (sym (ap file_of is)));
}

-- the cases of a call of this file
pub hears_own : (call : AwaitedCall) (file : FileId) (xid : ℕ) (s t : ServedFile) → call.caller ≡ ForFile file → Leaves s t → has_number xid (own_spots t.file) ≡ false → Hears call file xid s t
hears_own call file xid s t is l gone =
    let no : (w : Waiter) → w ≡ call.caller → kind_number w ≡ 1 = λ w its. ap kind_number (its ∙ is) in
    record { leaves = l; own = λ its. gone; reads = λ its. absurd (omega (arith, no (ForRead file) its)); write = λ its. absurd (omega (arith, no (ForWrite file) its)) }

pub hears_reads : (call : AwaitedCall) (file : FileId) (xid : ℕ) (s t : ServedFile) → call.caller ≡ ForRead file → Leaves s t → has_number xid (read_spots t.reads) ≡ false → Hears call file xid s t
hears_reads call file xid s t is l gone =
    let no : (w : Waiter) → w ≡ call.caller → kind_number w ≡ 2 = λ w its. ap kind_number (its ∙ is) in
    record { leaves = l; own = λ its. absurd (omega (arith, no (ForFile file) its)); reads = λ its. gone; write = λ its. absurd (omega (arith, no (ForWrite file) its)) }

pub hears_write : (call : AwaitedCall) (file : FileId) (xid : ℕ) (s t : ServedFile) → call.caller ≡ ForWrite file → Leaves s t → has_number xid (write_spots t.write) ≡ false → Hears call file xid s t
hears_write call file xid s t is l gone =
    let no : (w : Waiter) → w ≡ call.caller → kind_number w ≡ 3 = λ w its. ap kind_number (its ∙ is) in
    record { leaves = l; own = λ its. absurd (omega (arith, no (ForFile file) its)); reads = λ its. absurd (omega (arith, no (ForRead file) its)); write = λ its. gone }

-- ---- all of them

abbrev pub FilesIn : List AwaitedCall → List ServedFile → Type 0
FilesIn calls files = (file : FileId) (s : ServedFile) → served_in files file ≡ Some s → FileGood calls file s

pred_apart : (a b : ℕ) → (a == 0) ≡ false → (b == 0) ≡ false → a ≢ b → a - 1 ≢ b - 1
pred_apart a b some too other same =
    let x : a ≢ 0 = λ is. not_both (sym (eq-eqb a 0 is) ∙ some) in
    let y : b ≢ 0 = λ is. not_both (sym (eq-eqb b 0 is) ∙ too) in
    other (omega (arith, x, y, same))

-- what is served behind a change of one file: that file, or another as it was
pub record IsOther (m : MdsValue) (file : FileId) (other : FileId) (s : ServedFile) : Type 0 where
  pub apart : other.0 ≢ file.0
  pub there : served m other ≡ Some s

served_other : (m : MdsValue) (file : FileId) (s t : ServedFile) → served m file ≡ Some s → (of : FileId) (u : ServedFile) → served (with_served m file t) of ≡ Some u → ((of ≡ file) × (u ≡ t)) ⊎ IsOther m file of u
served_other m file s t there of u is = by_test (of.0 == file.0) refl
  where
    same_file : of.0 ≡ file.0 → of ≡ file
    same_file same = ap (λ (n : ℕ). record { 0 = n }) same

    by_test : (b : Bool) → (of.0 == file.0) ≡ b → ((of ≡ file) × (u ≡ t)) ⊎ IsOther m file of u
    by_test true its =
        let same : of ≡ file = same_file (eqb-true of.0 file.0 its) in
        inl (same, same_Some u t (sym is ∙ (ap (served (with_served m file t)) same ∙ served_again m file s t there)))
    by_test false its =
        let apart : of.0 ≢ file.0 = λ same. not_both (sym (eq-eqb of.0 file.0 same) ∙ its) in
        let mine = place_served (with_served m file t) of u is in
        let old = place_served m file s there in
        inr (record {
          apart = apart;
          there = ap (λ (b : Bool). if b then None else slice_get m.files (of.0 - 1)) mine.0
              ∙ (sym (slice_get-set_other m.files (file.0 - 1) (of.0 - 1) t (pred_apart of.0 file.0 mine.0 old.0 apart)) ∙ mine.1);
        })

-- each file is good under other calls, and the one that changed is
pub files_set : (calls : List AwaitedCall) (m : MdsValue) (file : FileId) (s t : ServedFile) → served m file ≡ Some s → ((of : FileId) (u : ServedFile) → of.0 ≢ file.0 → served m of ≡ Some u → FileGood calls of u) → FileGood calls file t
    → FilesIn calls (with_served m file t).files
files_set calls m file s t there others good of u is = by_case (served_other m file s t there of u is)
  where
    by_case : ((of ≡ file) × (u ≡ t)) ⊎ IsOther m file of u → FileGood calls of u
    by_case (inl same) = subst (λ (x : FileId). FileGood calls x u) (sym same.0) (subst (λ (x : ServedFile). FileGood calls file x) (sym same.1) good)
    by_case (inr o) = others of u o.apart o.there

-- one file changes, and the calls are as they were
pub files_left : (m : MdsValue) (file : FileId) (s t : ServedFile) → served m file ≡ Some s → (FileGood m.calls file s → Leaves s t) → FilesIn m.calls m.files → FilesIn m.calls (with_served m file t).files
files_left m file s t there l all =
    files_set m.calls m file s t there (λ of u apart is. all of u is) (let g : FileGood m.calls file s = all file s there in file_left m.calls file s t (l g) g)

-- behind an input of it
pub files_stepped : (m : MdsValue) (file : FileId) (s : ServedFile) (step : FileStep) → FilesIn m.calls (with_served m file (file_behind s step)).files → FilesIn (file_stepped m file s step).mds.calls (file_stepped m file s step).mds.files
files_stepped m file s step all =
    let n : MdsValue = with_served (record m { fresh = drawn m.fresh step }) file (file_behind s step) in
    cond_both (list_any is_period_end step.entries) (record n { recalls = without_file file n.recalls }) n (λ (x : MdsValue). FilesIn x.calls x.files) (λ end. all) (λ other. all)

-- a new file
pub files_pushed : (m : MdsValue) (new : ServedFile) → ((file : FileId) → FileGood m.calls file new) → FilesIn m.calls m.files → FilesIn m.calls (m.files ++ new ∷ [])
files_pushed m new good all of u is = by_place mine.0 (pushed m.files new (of.0 - 1) u mine.1)
  where
    mine : ((of.0 == 0) ≡ false) × (slice_get (m.files ++ new ∷ []) (of.0 - 1) ≡ Some u)
    mine = place_served (record m { files = m.files ++ new ∷ [] }) of u is

    by_place : (of.0 == 0) ≡ false → Pushed m.files new (of.0 - 1) u → FileGood m.calls of u
    by_place some (Old there) = all of u (ap (λ (b : Bool). if b then None else slice_get m.files (of.0 - 1)) some ∙ there)
    by_place some (New at same) = subst (λ (x : ServedFile). FileGood m.calls of x) (sym same) (good of)

-- a call of this file is answered
pub files_heard : (m : MdsValue) (node : NodeId) (xid : ℕ) (call : AwaitedCall) (file : FileId) (s t : ServedFile) → find (is_call_to node xid) m.calls ≡ Some call → file_of call.caller ≡ Some file → served m file ≡ Some s
    → (FileGood m.calls file s → Hears call file xid s t) → FilesIn m.calls m.files → FilesIn (without_call node xid m.calls) (with_served m file t).files
files_heard m node xid call file s t found its there h all =
    files_set (without_call node xid m.calls) m file s t there
    (λ of u apart is.
    let g : FileGood m.calls of u = all of u is in
    file_heard m.calls node xid call of u u found (unheard m.calls xid call of u (λ same. apart (ap (λ (x : FileId). x.0) (same_Some of file (sym same ∙ its)))) g) g)
    (let g : FileGood m.calls file s = all file s there in file_heard m.calls node xid call file s t found (h g) g)

-- a call of none is
pub files_unheard : (m : MdsValue) (node : NodeId) (xid : ℕ) (call : AwaitedCall) → find (is_call_to node xid) m.calls ≡ Some call → call.caller ≡ ForRecall → FilesIn m.calls m.files → FilesIn (without_call node xid m.calls) m.files
files_unheard m node xid call found is all of u there =
    let g : FileGood m.calls of u = all of u there in
    file_heard m.calls node xid call of u u found (unheard m.calls xid call of u (λ same. none-some of (sym (ap file_of is) ∙ same)) g) g

-- ---- who waits

own_awaits : (m : MdsValue) (file : FileId) (s : ServedFile) → served m file ≡ Some s → Awaits m (ForFile file) (own_spots s.file)
own_awaits m file s there server n is = ap (is_file_out (Server server) n) there ∙ (outstanding_at s.file server n s.file.activity ∙ is)

reads_await : (m : MdsValue) (file : FileId) (s : ServedFile) → served m file ≡ Some s → Awaits m (ForRead file) (read_spots s.reads)
reads_await m file s there server n is = ap (has_read_out n) there ∙ (any_out n s.reads ∙ at_number server n (read_spots s.reads) is)

write_awaits : (m : MdsValue) (file : FileId) (s : ServedFile) → served m file ≡ Some s → Awaits m (ForWrite file) (write_spots s.write)
write_awaits m file s there server n is = ap (has_write_out n) there ∙ (writer_out n s.write ∙ at_number server n (write_spots s.write) is)

pub files_leave : (m : MdsValue) (ss : List MdsSend) (node : NodeId) (xid : ℕ) (call : AwaitedCall) → IsTable m.calls m.next_xid ss → IsOneOf call m.calls → is_call_to node xid call ≡ true → is_awaited m call ≡ false → FilesIn m.calls m.files
    → FilesIn (without_call node xid m.calls) m.files
files_leave m ss node xid call t inside its off all of u there =
    let g : FileGood m.calls of u = all of u there in
    record {
      own = good_leaves m ss node xid call (ForFile of) (own_spots u.file) t inside its off (own_awaits m of u there) g.own;
      reads = good_leaves m ss node xid call (ForRead of) (read_spots u.reads) t inside its off (reads_await m of u there) g.reads;
      write = good_leaves m ss node xid call (ForWrite of) (write_spots u.write) t inside its off (write_awaits m of u there) g.write;
      turns = g.turns;
      kind = g.kind;
    }

pub files_forget : (m : MdsValue) → FilesIn m.calls m.files → FilesIn (filter (is_awaited m) m.calls) m.files
files_forget m all of u there =
    let g : FileGood m.calls of u = all of u there in
    record {
      own = good_forgets m (ForFile of) (own_spots u.file) (own_awaits m of u there) g.own;
      reads = good_forgets m (ForRead of) (read_spots u.reads) (reads_await m of u there) g.reads;
      write = good_forgets m (ForWrite of) (write_spots u.write) (write_awaits m of u there) g.write;
      turns = g.turns;
      kind = g.kind;
    }

-- ---- a call goes out

module _ (m : MdsValue) (ss : List MdsSend) (t : IsTable m.calls m.next_xid ss) (has : not (m.next_xid == 0) ≡ true) (c : AwaitedCall) (number : c.xid ≡ m.next_xid) where
  pub file_called : (file : FileId) (s : ServedFile) → FileGood m.calls file s → FileGood (with_call c m.calls) file s
  file_called file s g = record {
    own = good_called m.calls m.next_xid ss t has c number (ForFile file) (own_spots s.file) g.own;
    reads = good_called m.calls m.next_xid ss t has c number (ForRead file) (read_spots s.reads) g.reads;
    write = good_called m.calls m.next_xid ss t has c number (ForWrite file) (write_spots s.write) g.write;
    turns = g.turns;
    kind = g.kind;
  }

  pub files_called : FilesIn m.calls m.files → FilesIn (with_call c m.calls) m.files
  files_called all of u there = file_called of u (all of u there)

  -- one of these places is called
  pub spots_called : (w : Waiter) (xs ys : List Spot) (server place : ℕ) → c.node ≡ Server server → c.caller ≡ w → ys ≡ slice_set xs place (server, Some m.next_xid) → Good m.calls w xs → Good (with_call c m.calls) w ys
  spots_called w xs ys server place node caller set g =
      subst (λ (l : List Spot). Good (with_call c m.calls) w l) (sym set) (good_out m.calls m.next_xid ss t has c number w xs server place node caller g)

  pub files_call : (file : FileId) (s u : ServedFile) → served m file ≡ Some s → (FileGood m.calls file s → FileGood (with_call c m.calls) file s → FileGood (with_call c m.calls) file u) → FilesIn m.calls m.files
      → FilesIn (with_call c m.calls) (with_served m file u).files
  files_call file s u there goes all =
      files_set (with_call c m.calls) m file s u there (λ of x apart is. file_called of x (all of x is)) (let g : FileGood m.calls file s = all file s there in goes g (file_called file s g))
