-- A file's pages behind what is done to it.
use Rattle.std.specs.Prelude.{OnOk, OnErr}
use Rattle.std.proofs.Common.{◌≡◌, Result, Ok, Err, ℕ, ◌+◌, ◌<◌, ◌≤◌, max, List, [], ◌∷◌, ◌++◌, length, refl, sym, ap, ◌∙◌, arith}
use Rattle.std.proofs.lemmas.List.{length_push}
use Rattle.cluster_model.specs.Content.{Pending, overlay, overlay_all, joined, settled}
use Rattle.cluster_model.proofs.Placing.{overlay_all_push}
use Rattle.file_pages.specs.Pages.{PagesValue, first_bytes, byte_at, byte_over, bytes_of, bytes_over, AreZerosBehind, IsEmpty, HaveSamePages, IsWrittenOver, HasAdopted}
use Rattle.file_pages.proofs.PageBytes.{no_bytes, length_first_bytes, bytes_written, zeros_written, bytes_adopted, zeros_adopted, bytes_alone, bytes_on_none, zeros_turned, zeros_turned_back}
use Rattle.data_file.specs.Paged.{no_pages, IsStored, IsPaged}

-- ---- pages that are the same

pub are_same : (p : PagesValue) → HaveSamePages p p
are_same p = record { size = refl; kept = refl }

pub same_bytes : (old new : PagesValue) → HaveSamePages old new → bytes_of new ≡ bytes_of old
same_bytes old new s = rw (s.size, s.kept) refl

same_over : (s d s2 d2 : PagesValue) → HaveSamePages s s2 → HaveSamePages d d2 → bytes_over s2 d2 ≡ bytes_over s d
same_over s d s2 d2 a b = rw (a.size, a.kept, b.size, b.kept) refl

pub same_zeros : (s d s2 d2 : PagesValue) → HaveSamePages s s2 → HaveSamePages d d2 → AreZerosBehind s d → AreZerosBehind s2 d2
same_zeros s d s2 d2 a b zeros = rw (a.size, a.kept, b.size, b.kept) zeros

none_same : (d none : PagesValue) → IsEmpty d → IsEmpty none → HaveSamePages d none
none_same d none e f = record { size = f.0 ∙ sym e.0; kept = f.1 ∙ sym e.1 }

no_pages_empty : IsEmpty no_pages
no_pages_empty = (refl, refl)

pub stored_same : (s s2 : PagesValue) → HaveSamePages s s2 → IsStored s → IsStored s2
stored_same s s2 a stored = same_zeros s no_pages s2 no_pages a (are_same no_pages) stored

-- ---- nothing pending

pub stored_empty : (s : PagesValue) → IsEmpty s → IsStored s
stored_empty s e = same_zeros no_pages no_pages s no_pages (none_same no_pages s no_pages_empty e) (are_same no_pages) (λ place behind. refl)

pub paged_clean : (s d : PagesValue) → IsStored s → IsEmpty d → IsPaged s d []
paged_clean s d stored e = record {
  shown = bytes_alone s d e;
  zeros = same_zeros s no_pages s d (are_same s) (none_same no_pages d no_pages_empty e) stored;
  stored = stored;
  room = rw e.1 (omega arith);
  clean = λ none. e;
}

pub paged_none : (s d : PagesValue) (ws : List Pending) → IsStored s → IsEmpty d → ws ≡ [] → IsPaged s d ws
paged_none s d ws stored e none = rw none (paged_clean s d stored e)

pub empty_bytes : (s : PagesValue) → IsEmpty s → bytes_of s ≡ []
empty_bytes s e = ap (first_bytes (byte_at s.kept)) e.0 ∙ no_bytes (byte_at s.kept)

-- ---- what is shown

pub shown_length : (s d : PagesValue) (ws : List Pending) → IsPaged s d ws → length (overlay_all (bytes_of s) ws) ≡ max s.size d.size
shown_length s d ws p = ap length (sym p.shown) ∙ length_first_bytes (byte_over s.kept d.kept) (max s.size d.size)

-- ---- an error, which leaves pages the same

pub paged_same : (s d s2 d2 : PagesValue) (ws : List Pending) → HaveSamePages s s2 → HaveSamePages d d2 → s.room ≤ s2.room → IsPaged s d ws → IsPaged s2 d2 ws
paged_same s d s2 d2 ws a b grows p = record {
  shown = same_over s d s2 d2 a b ∙ p.shown ∙ ap (λ (xs : List ℕ). overlay_all xs ws) (sym (same_bytes s s2 a));
  zeros = same_zeros s d s2 d2 a b p.zeros;
  stored = stored_same s s2 a p.stored;
  room = let before = p.room in rw b.kept (omega (arith, before, grows));
  clean = λ none. (b.size ∙ (p.clean none).0, b.kept ∙ (p.clean none).1);
}

-- where nothing is pending, the room is no matter
pub paged_same_clean : (s d s2 : PagesValue) (ws : List Pending) → HaveSamePages s s2 → ws ≡ [] → IsPaged s d ws → IsPaged s2 d ws
paged_same_clean s d s2 ws a none p = paged_none s2 d ws (stored_same s s2 a p.stored) (p.clean none) none

-- ---- a write that is pending

push_some : (ws : List Pending) (w : Pending) → ws ++ w ∷ [] ≡ [] → length ws + 1 ≡ 0
push_some ws w none = sym (length_push ws w) ∙ ap length none

pub paged_taken : (s d s2 d2 : PagesValue) (ws : List Pending) (at : ℕ) (bytes : List ℕ) → 0 < length bytes → HaveSamePages s s2 → IsWrittenOver s2 d at bytes d2 → length d2.kept ≤ s2.room → IsPaged s d ws
    → IsPaged s2 d2 (ws ++ record { at = at; bytes = bytes } ∷ [])
paged_taken s d s2 d2 ws at bytes some a is room p =
    let zeros = same_zeros s d s2 d a (are_same d) p.zeros in
    let before : bytes_over s2 d ≡ overlay_all (bytes_of s2) ws = same_over s d s2 d a (are_same d) ∙ p.shown ∙ ap (λ (xs : List ℕ). overlay_all xs ws) (sym (same_bytes s s2 a)) in
    record {
      shown = bytes_written s2 d d2 at bytes some zeros is ∙ ap (λ (xs : List ℕ). overlay xs at bytes) before ∙ sym (overlay_all_push (bytes_of s2) ws (record { at = at; bytes = bytes }));
      zeros = zeros_written s2 d d2 at bytes some zeros is;
      stored = stored_same s s2 a p.stored;
      room = room;
      clean = λ none. absurd (omega (arith, push_some ws (record { at = at; bytes = bytes }) none));
    }

-- ---- all becomes stable

pub stored_settled : (s d s2 : PagesValue) (ws : List Pending) → HasAdopted s d s2 → IsPaged s d ws → IsStored s2
stored_settled s d s2 ws is p = zeros_adopted s d s2 no_pages is no_pages_empty p.zeros

pub settled_bytes : (s d s2 : PagesValue) (ws : List Pending) → HasAdopted s d s2 → IsPaged s d ws → bytes_of s2 ≡ overlay_all (bytes_of s) ws
settled_bytes s d s2 ws is p = bytes_adopted s d s2 is ∙ p.shown

-- ---- a write that is stable at once, where nothing is pending

pub stored_written : (none s s2 : PagesValue) (at : ℕ) (bytes : List ℕ) → 0 < length bytes → IsEmpty none → IsStored s → IsWrittenOver none s at bytes s2 → IsStored s2
stored_written none s s2 at bytes some e stored is =
    let over : AreZerosBehind s none = same_zeros s no_pages s none (are_same s) (none_same no_pages none no_pages_empty e) stored in
    let behind : AreZerosBehind s2 none = zeros_turned_back s2 none e (zeros_written none s s2 at bytes some (zeros_turned s none e over) is) in
    same_zeros s2 none s2 no_pages (are_same s2) (none_same none no_pages e no_pages_empty) behind

pub written_bytes : (none s s2 : PagesValue) (at : ℕ) (bytes : List ℕ) → 0 < length bytes → IsEmpty none → IsStored s → IsWrittenOver none s at bytes s2 → bytes_of s2 ≡ overlay (bytes_of s) at bytes
written_bytes none s s2 at bytes some e stored is =
    let over : AreZerosBehind s none = same_zeros s no_pages s none (are_same s) (none_same no_pages none no_pages_empty e) stored in
    sym (bytes_on_none none s2 e)
    ∙ bytes_written none s s2 at bytes some (zeros_turned s none e over) is
    ∙ ap (λ (xs : List ℕ). overlay xs at bytes) (bytes_on_none none s e)

-- so also where the write may have failed
pub put_stored : {E : Type 0} (none s s2 : PagesValue) (at : ℕ) (bytes : List ℕ) (result : Result (Unit {0}) E) → 0 < length bytes → IsEmpty none → IsStored s → OnOk result (IsWrittenOver none s at bytes s2) → OnErr result (HaveSamePages s s2) → IsStored s2
put_stored none s s2 at bytes (Ok done) some e stored is same = stored_written none s s2 at bytes some e stored is
put_stored none s s2 at bytes (Err error) some e stored is same = stored_same s s2 same stored

-- the content behind such a write
pub in_place : (stable new : List ℕ) (ws : List Pending) (at : ℕ) (bytes : List ℕ) → 0 < length bytes → ws ≡ [] → new ≡ overlay stable at bytes
    → record { stable = new; pending = ws } ≡ settled (joined (record { stable = stable; pending = ws }) at bytes)
in_place stable new ws at [] some none is = absurd (omega (arith, some))
in_place stable new ws at (b ∷ bytes) some none is = rw (none, is) refl

-- and behind one over writes that are pending
pub all_stable : (stable new : List ℕ) (ws : List Pending) (at : ℕ) (bytes : List ℕ) → 0 < length bytes → new ≡ overlay_all stable (ws ++ record { at = at; bytes = bytes } ∷ [])
    → record { stable = new; pending = [] } ≡ settled (joined (record { stable = stable; pending = ws }) at bytes)
all_stable stable new ws at [] some is = absurd (omega (arith, some))
all_stable stable new ws at (b ∷ bytes) some is = rw is refl
