-- Where mirrors last came into a file's live list, and what became of that list since.
use Rattle.std.proofs.Common.{◌≡◌, Bool, true, false, cond, not, ◌⊎◌, inl, inr, List, [], ◌∷◌, ◌++◌, filter, Option, Some, None, refl, sym, ap, ◌∙◌, subst, append_assoc, append-nil}
use Rattle.std.specs.List.{AllByRecursion}
use Rattle.std.proofs.lemmas.Bool.{cases_Bool, cases_eq, and_parts, eqb-true}
use Rattle.std.proofs.lemmas.Option.{same_Some}
use Rattle.cluster_model.specs.declared.ids.FileId.{FileId}
use Rattle.cluster_model.specs.declared.ids.MirrorId.{MirrorId}
use Rattle.cluster_model.specs.declared.phase.LeftCause.{LeftCause}
use Rattle.cluster_model.specs.declared.entry.Entry.{Entry}
use Rattle.cluster_model.specs.declared.entry.Entry.TheVariants.{Free, Left, Swapped}
use Rattle.cluster_model.specs.Journal.{is_mirror}
use Rattle.cluster_model.specs.Members.{IsOneOf}
use Rattle.cluster_laws.specs.FenceLaw.{is_file, swapped_in, first_free, changed_live, live_after, live_by, live_in}
use Rattle.cluster_laws.proofs.Journals.{live_append}
use Rattle.ff_laws.specs.ReadLaw.{IsNoSwapOf, EndsWithComing, HasNone, HasSwap, HasFree}

-- ---- names

same_file : (a b : FileId) → is_file a b ≡ true → a ≡ b
same_file a b same = λ i. record { 0 = eqb-true a.0 b.0 same i }

same_mirror : (a b : MirrorId) → is_mirror a b ≡ true → a ≡ b
same_mirror a b same =
    let server : a.server ≡ b.server = eqb-true a.server b.server (and_parts _ _ same).0 in
    let fileid : a.fileid ≡ b.fileid = eqb-true a.fileid b.fileid (and_parts _ _ same).1 in
    λ i. record { server = server i; fileid = fileid i }

-- ---- entries that bring mirrors, and others

-- an entry by which mirrors come into the live list, which was so before it
pub data Brings (file : FileId) (x : Option (List MirrorId)) (e : Entry) : Type 0 where
  BySwap : (old : Option MirrorId) (new : MirrorId) → e ≡ Swapped file old new → Brings file x e
  ByFree : (live : List MirrorId) → e ≡ Free file live → x ≡ None → Brings file x e

-- an entry by which none come
abbrev pub BringsNone : FileId → Option (List MirrorId) → Entry → Type 0
BringsNone file x (Swapped other old new) = other ≡ file → ⊥
BringsNone file x (Free other live) = other ≡ file → x ≡ None → ⊥
BringsNone file x e = Unit {0}

abbrev pub BringNone : FileId → Option (List MirrorId) → List Entry → Type 0
BringNone file x [] = Unit {0}
BringNone file x (e ∷ entries) = BringsNone file x e × BringNone file (live_after file x e) entries

first_or_not : (file other : FileId) (x : Option (List MirrorId)) (live : List MirrorId) → other ≡ file
    → Brings file x (Free other live) ⊎ BringsNone file x (Free other live)
first_or_not file other None live same = inl (ByFree live (ap (λ (k : FileId). Free k live) same) refl)
first_or_not file other (Some before) live same = inr (λ same none. absurd (cc (none)))

brings : (file : FileId) (x : Option (List MirrorId)) (e : Entry) → Brings file x e ⊎ BringsNone file x e
brings file x (Swapped other old new) =
    elim (cases_eq other.0 file.0) [
      | inl same ↦ inl (BySwap old new (λ i. Swapped (record { 0 = same i }) old new))
      | inr ne ↦ inr (λ same. ne (ap (λ (k : FileId). k.0) same))
    ]
brings file x (Free other live) =
    elim (cases_eq other.0 file.0) [
      | inl same ↦ first_or_not file other x live (λ i. record { 0 = same i })
      | inr ne ↦ inr (λ same none. ne (ap (λ (k : FileId). k.0) same))
    ]
brings file x e = inr tt

-- no swap is among entries that bring none
is_no_swap : (file : FileId) (x : Option (List MirrorId)) (e : Entry) → BringsNone file x e → IsNoSwapOf file e
is_no_swap file x (Swapped other old new) quiet = quiet
is_no_swap file x e quiet = tt

pub are_no_swaps : (file : FileId) (x : Option (List MirrorId)) (entries : List Entry) → BringNone file x entries → AllByRecursion (IsNoSwapOf file) entries
are_no_swaps file x [] quiet = tt
are_no_swaps file x (e ∷ entries) quiet = (is_no_swap file x e quiet.0, are_no_swaps file (live_after file x e) entries quiet.1)

-- ---- the last coming

data LastOf (file : FileId) (x : Option (List MirrorId)) (entries : List Entry) : Type 0 where
  NoneCame : BringNone file x entries → LastOf file x entries
  Came : (before rest : List Entry) (e : Entry) → entries ≡ before ++ e ∷ rest → Brings file (live_by file x before) e
      → BringNone file (live_after file (live_by file x before) e) rest → LastOf file x entries

last_with : (file : FileId) (x : Option (List MirrorId)) (e : Entry) (entries : List Entry) → LastOf file (live_after file x e) entries → LastOf file x (e ∷ entries)
last_with file x e entries (Came before rest d is some quiet) = Came (e ∷ before) rest d (ap (λ (k : List Entry). e ∷ k) is) some quiet
last_with file x e entries (NoneCame quiet) =
    elim (brings file x e) [
      | inl some ↦ Came [] entries e refl some quiet
      | inr none ↦ NoneCame (none, quiet)
    ]

last_of : (file : FileId) (x : Option (List MirrorId)) (entries : List Entry) → LastOf file x entries
last_of file x [] = NoneCame tt
last_of file x (e ∷ entries) = last_with file x e entries (last_of file (live_after file x e) entries)

-- Behind this journal, entries go on up to the last coming of mirrors, and then none come.
pub record LastComing (journal : List Entry) (file : FileId) (entries : List Entry) : Type 0 where
  pub comings : List Entry
  pub rest : List Entry
  pub split : entries ≡ comings ++ rest
  pub last : EndsWithComing journal file comings
  pub quiet : BringNone file (live_in (journal ++ comings) file) rest

ends_with : (journal : List Entry) (file : FileId) (before : List Entry) (e : Entry) → Brings file (live_by file (live_in journal file) before) e
    → EndsWithComing journal file (before ++ e ∷ [])
ends_with journal file before e (BySwap old new is) = HasSwap before old new (ap (λ (k : Entry). before ++ k ∷ []) is)
ends_with journal file before e (ByFree live is none) =
    HasFree before live (ap (λ (k : Entry). before ++ k ∷ []) is) (live_append file None journal before ∙ none)

of_last : (journal : List Entry) (file : FileId) (entries : List Entry) → LastOf file (live_in journal file) entries → LastComing journal file entries
of_last journal file entries (NoneCame quiet) = record {
  comings = [];
  rest = entries;
  split = refl;
  last = HasNone refl;
  quiet = subst (λ (k : List Entry). BringNone file (live_in k file) entries) (sym (append-nil journal)) quiet;
}
of_last journal file entries (Came before rest e is some quiet) =
    let now : live_in (journal ++ (before ++ e ∷ [])) file ≡ live_after file (live_by file (live_in journal file) before) e =
    live_append file None journal (before ++ e ∷ []) ∙ live_append file (live_in journal file) before (e ∷ []) in
    record {
      comings = before ++ e ∷ [];
      rest = rest;
      split = is ∙ sym (append_assoc before (e ∷ []) rest);
      last = ends_with journal file before e some;
      quiet = subst (λ (k : Option (List MirrorId)). BringNone file k rest) (sym now) quiet;
    }

pub last_coming : (journal : List Entry) (file : FileId) (entries : List Entry) → LastComing journal file entries
last_coming journal file entries = of_last journal file entries (last_of file (live_in journal file) entries)

-- ---- the live mirrors before entries that bring none

-- among these entries the mirror leaves the file
pub record HasGone (file : FileId) (m : MirrorId) (entries : List Entry) : Type 0 where
  pub before : List Entry
  pub cause : LeftCause
  pub behind : List Entry
  pub split : entries ≡ before ++ Left file m cause ∷ behind

-- Before these entries a live list was there, of which each mirror is live behind them, or has gone; and none else is live.
pub record WereLive (file : FileId) (x : Option (List MirrorId)) (live : List MirrorId) (entries : List Entry) : Type 0 where
  pub mirrors : List MirrorId
  pub were : x ≡ Some mirrors
  pub old : (m : MirrorId) → IsOneOf m live → IsOneOf m mirrors
  pub each : (m : MirrorId) → IsOneOf m mirrors → IsOneOf m live ⊎ HasGone file m entries

all_stay : (file : FileId) (x : Option (List MirrorId)) (live : List MirrorId) (entries : List Entry) → x ≡ Some live → WereLive file x live entries
all_stay file x live entries is = record { mirrors = live; were = is; old = λ m one. one; each = λ m one. inl one }

-- of mirrors, those that pass a test
passed : (test : MirrorId → Bool) (m : MirrorId) (live : List MirrorId) → IsOneOf m (filter test live) → IsOneOf m live
passed test m [] one = one
passed test m (k ∷ live) one = by_test (test k) (passed test m live) one
  where
    by_test : (b : Bool) → (IsOneOf m (filter test live) → IsOneOf m live) → IsOneOf m (cond b (k ∷ filter test live) (filter test live)) → (m ≡ k) ⊎ IsOneOf m live
    by_test true go (inl same) = inl same
    by_test true go (inr later) = inr (go later)
    by_test false go later = inr (go later)

passes : (test : MirrorId → Bool) (m : MirrorId) (live : List MirrorId) → test m ≡ true → IsOneOf m live → IsOneOf m (filter test live)
passes test m [] fits one = one
passes test m (k ∷ live) fits (inl same) =
    let is : test k ≡ true = ap test (sym same) ∙ fits in
    subst (λ (b : Bool). IsOneOf m (cond b (k ∷ filter test live) (filter test live))) (sym is) (inl same)
passes test m (k ∷ live) fits (inr later) = by_test (test k) (passes test m live fits later)
  where
    by_test : (b : Bool) → IsOneOf m (filter test live) → IsOneOf m (cond b (k ∷ filter test live) (filter test live))
    by_test true rest = inr rest
    by_test false rest = rest

-- the first entry free was there
frees_again : (x : Option (List MirrorId)) (mirrors live : List MirrorId) → (x ≡ None → ⊥) → first_free mirrors x ≡ Some live → x ≡ Some live
frees_again None mirrors live some is = absurd (some refl)
frees_again (Some before) mirrors live some is = is

-- one leaves
one_leaves : (file other : FileId) (gone : MirrorId) (cause : LeftCause) (x : Option (List MirrorId)) (live : List MirrorId) → other ≡ file
    → changed_live (filter (λ (k : MirrorId). not (is_mirror k gone))) x ≡ Some live → WereLive file x live (Left other gone cause ∷ [])
one_leaves file other gone cause None live same is = absurd (cc (is))
one_leaves file other gone cause (Some mirrors) live same is =
    let left : filter (λ (k : MirrorId). not (is_mirror k gone)) mirrors ≡ live = same_Some _ live is in
    record {
      mirrors = mirrors;
      were = refl;
      old = λ m one. passed (λ (k : MirrorId). not (is_mirror k gone)) m mirrors (subst (λ (k : List MirrorId). IsOneOf m k) (sym left) one);
      each = λ m one. elim (cases_Bool (is_mirror m gone)) [
        | inl it ↦
            let itself : m ≡ gone = same_mirror m gone it in
            inr (record { before = []; cause = cause; behind = []; split = λ i. Left (same i) (sym itself i) cause ∷ [] })
        | inr not_it ↦
            inl (subst (λ (k : List MirrorId). IsOneOf m k) left (passes (λ (k : MirrorId). not (is_mirror k gone)) m mirrors (ap not not_it) one))
      ];
    }

one_entry : (file : FileId) (x : Option (List MirrorId)) (e : Entry) (live : List MirrorId) → BringsNone file x e → live_after file x e ≡ Some live
    → WereLive file x live (e ∷ [])
one_entry file x (Free other mirrors) live quiet is =
    elim (cases_Bool (is_file other file)) [
      | inl own ↦
          all_stay file x live (Free other mirrors ∷ [])
          (frees_again x mirrors live (quiet (same_file other file own)) (sym (ap (λ (b : Bool). cond b (first_free mirrors x) x) own) ∙ is))
      | inr not_own ↦ all_stay file x live (Free other mirrors ∷ []) (sym (ap (λ (b : Bool). cond b (first_free mirrors x) x) not_own) ∙ is)
    ]
one_entry file x (Left other mirror cause) live quiet is =
    let gone = changed_live (filter (λ (k : MirrorId). not (is_mirror k mirror))) x in
    elim (cases_Bool (is_file other file)) [
      | inl own ↦ one_leaves file other mirror cause x live (same_file other file own) (sym (ap (λ (b : Bool). cond b gone x) own) ∙ is)
      | inr not_own ↦ all_stay file x live (Left other mirror cause ∷ []) (sym (ap (λ (b : Bool). cond b gone x) not_own) ∙ is)
    ]
one_entry file x (Swapped other old new) live quiet is =
    elim (cases_Bool (is_file other file)) [
      | inl own ↦ absurd (quiet (same_file other file own))
      | inr not_own ↦ all_stay file x live (Swapped other old new ∷ []) (sym (ap (λ (b : Bool). cond b (changed_live (swapped_in old new) x) x) not_own) ∙ is)
    ]
one_entry file x e live quiet is = all_stay file x live (e ∷ []) is

-- one entry, and then others
then_others : (file : FileId) (x y : Option (List MirrorId)) (live : List MirrorId) (e : Entry) (entries : List Entry) (later : WereLive file y live entries)
    → WereLive file x later.mirrors (e ∷ []) → WereLive file x live (e ∷ entries)
then_others file x y live e entries later first = record {
  mirrors = first.mirrors;
  were = first.were;
  old = λ m one. first.old m (later.old m one);
  each = λ m one. elim (first.each m one) [
    | inl still ↦
        elim (later.each m still) [
          | inl here ↦ inl here
          | inr gone ↦ inr (record { before = e ∷ gone.before; cause = gone.cause; behind = gone.behind; split = ap (λ (k : List Entry). e ∷ k) gone.split })
        ]
    | inr gone ↦
        inr (
        record {
          before = gone.before;
          cause = gone.cause;
          behind = gone.behind ++ entries;
          split = ap (λ (k : List Entry). k ++ entries) gone.split ∙ append_assoc gone.before (Left file m gone.cause ∷ gone.behind) entries;
        }
        )
  ];
}

pub were_live : (file : FileId) (x : Option (List MirrorId)) (entries : List Entry) (live : List MirrorId) → BringNone file x entries
    → live_by file x entries ≡ Some live → WereLive file x live entries
were_live file x [] live quiet is = all_stay file x live [] is
were_live file x (e ∷ entries) live quiet is =
    let later = were_live file (live_after file x e) entries live quiet.1 is in
    then_others file x (live_after file x e) live e entries later (one_entry file x e later.mirrors quiet.0 later.were)
