-- The bytes of a dirty end are those of a mirror of the layout that the user cannot reach any more. It stays so, whatever comes.
use Rattle.std.proofs.Common.{◌≡◌, ℕ, ◌<◌, ◌≤◌, Bool, true, false, ◌&&◌, ◌||◌, eqb, cond, List, [], ◌∷◌, ◌++◌, length, refl, ap, subst, ◌∙◌, arith, ◌⊎◌, inl, inr}
use Rattle.std.proofs.lemmas.Bool.{eqb-true}
use Rattle.cluster_model.specs.declared.ids.FileId.{FileId}
use Rattle.cluster_model.specs.declared.ids.MirrorId.{MirrorId}
use Rattle.cluster_model.specs.declared.entry.Entry.{Entry}
use Rattle.cluster_model.specs.declared.entry.Entry.TheVariants.{Granted, Sent, Rogue, Applied, Committed, Restarted}
use Rattle.cluster_model.specs.Content.{Pending, shown_of}
use Rattle.cluster_model.specs.Journal.{is_mirror}
use Rattle.cluster_laws.specs.FenceLaw.{is_file, is_among}
use Rattle.cluster_laws.specs.Holders.{IsIn, the_write}
use Rattle.sound_journals.specs.Marks.{UserMarks}
use Rattle.sound_journals.specs.Views.{FileView, view_after}
use Rattle.sound_journals.specs.Sound.{IsSentSoundly, IsSoundEntry}
use Rattle.cluster_laws.proofs.Putting.{AllBytes, in_left, in_either}
use Rattle.sound_journals.proofs.Holding.{IsOf, IsNew, IsBeyond, StandsWith, IsHeld, shown_of_bytes, shown_least, shown_up, shown_stands}
use Rattle.sound_journals.proofs.Turns.{mirror_is, past_on, trace_at}

-- bytes that a dirty end may leave
pub record IsDirtyBytes (base : List ℕ) (sent rogue : List Pending) (bytes : List ℕ) : Type 0 where
  pub of : AllBytes (IsOf base sent rogue) bytes
  pub least : length base ≤ length bytes
  pub up : (n : ℕ) → IsBeyond base sent rogue n → length bytes ≤ n

abbrev pub AreMarked : UserMarks → Pending → Type 0
AreMarked k w = IsIn w k.here ⊎ IsIn w k.covered

-- What was marked at the mirror stands in the bytes. What was sent and strayed until then is among all that was.
pub record IsSourceOf (sent rogue : List Pending) (bytes : List ℕ) (all_sent all_rogue : List Pending) (k : UserMarks) : Type 0 where
  pub sent_more : (w : Pending) → IsIn w sent → IsIn w all_sent
  pub rogue_more : (w : Pending) → IsIn w rogue → IsIn w all_rogue
  pub marks : (w : Pending) → AreMarked k w → IsNew sent rogue w
  pub stands : (w : Pending) → IsIn w all_sent → AreMarked k w → StandsWith rogue w bytes

pub record IsSourceAt (v : FileView) (uid : ℕ) (source : MirrorId) (sent rogue : List Pending) (bytes : List ℕ) : Type 0 where
  pub of_layout : v.layout uid source ≡ true
  pub past : uid < (v.copy source).owner
  pub is_source : IsSourceOf sent rogue bytes (v.sent uid) (v.rogue uid) (v.marks uid source)

pub record IsDirtyFrom (v : FileView) (uid : ℕ) (base bytes : List ℕ) : Type 0 where
  pub source : MirrorId
  pub sent : List Pending
  pub rogue : List Pending
  pub dirty : IsDirtyBytes base sent rogue bytes
  pub at_source : IsSourceAt v uid source sent rogue bytes

-- what a mirror of the period shows, once it is out of reach
pub dirty_from : (v : FileView) (uid : ℕ) (base : List ℕ) (m : MirrorId) → v.layout uid m ≡ true → uid < (v.copy m).owner → IsHeld base (v.sent uid) (v.rogue uid) (trace_at v uid m) → IsDirtyFrom v uid base (shown_of (v.copy m).content)
dirty_from v uid base m of_layout past h = record {
  source = m;
  sent = v.sent uid;
  rogue = v.rogue uid;
  dirty = record {
    of = shown_of_bytes base (v.sent uid) (v.rogue uid) (trace_at v uid m) h;
    least = shown_least base (v.sent uid) (v.rogue uid) (trace_at v uid m) h;
    up = shown_up base (v.sent uid) (v.rogue uid) (trace_at v uid m) h;
  };
  at_source = record {
    of_layout = of_layout;
    past = past;
    is_source = record {
      sent_more = λ w is. is;
      rogue_more = λ w is. is;
      marks = h.marks;
      stands = shown_stands base (v.sent uid) (v.rogue uid) (trace_at v uid m) h;
    };
  };
}

-- ---- it stays

layout_stays : (a b c : Bool) → c ≡ true → cond a (b || c) c ≡ true
layout_stays true true c h = refl
layout_stays true false c h = h
layout_stays false b c h = h

pub layout_on : (f : FileId) (v : FileView) (e : Entry) (uid : ℕ) (m : MirrorId) → v.layout uid m ≡ true → (view_after f v e).layout uid m ≡ true
layout_on f v (Granted file cred holder) uid m h = layout_stays (is_file file f && eqb cred.0 uid) (is_among m v.live) (v.layout uid m) h
layout_on f v _ uid m h = h

module _ (sent rogue : List Pending) (bytes : List ℕ) (s r : List Pending) (k : UserMarks) (h : IsSourceOf sent rogue bytes s r k) where
  commits : IsSourceOf sent rogue bytes s r (record { here = k.here; covered = k.here ++ k.covered })
  commits = record { sent_more = h.sent_more; rogue_more = h.rogue_more; marks = λ w is. h.marks w (either w is); stands = λ w is by. h.stands w is (either w by) }
    where
      either : (w : Pending) → IsIn w k.here ⊎ IsIn w (k.here ++ k.covered) → AreMarked k w
      either w (inl is) = inl is
      either w (inr is) = in_either w k.here k.covered is

  loses : IsSourceOf sent rogue bytes s r (record { here = []; covered = k.covered })
  loses = record { sent_more = h.sent_more; rogue_more = h.rogue_more; marks = λ w is. h.marks w (either w is); stands = λ w is by. h.stands w is (either w by) }
    where
      either : (w : Pending) → IsIn w [] ⊎ IsIn w k.covered → AreMarked k w
      either w (inl wrong) = absurd wrong
      either w (inr is) = inr is

  sends : (w : Pending) → r ≡ [] → IsSourceOf sent rogue bytes (s ++ w ∷ []) r k
  sends w none = record {
    sent_more = λ v is. in_left v s (w ∷ []) (h.sent_more v is);
    rogue_more = h.rogue_more;
    marks = h.marks;
    stands = λ v is by. h.stands v (back v (h.marks v by)) by;
  }
    where
      back : (v : Pending) → IsNew sent rogue v → IsIn v s
      back v (inl x) = h.sent_more v x
      back v (inr y) = absurd (subst (IsIn v) none (h.rogue_more v y))

  strays : (w : Pending) → IsSourceOf sent rogue bytes s (r ++ w ∷ []) k
  strays w = record { sent_more = h.sent_more; rogue_more = λ v is. in_left v r (w ∷ []) (h.rogue_more v is); marks = h.marks; stands = h.stands }

pub is_source_on : (f : FileId) (v : FileView) (e : Entry) (uid : ℕ) (m : MirrorId) (sent rogue : List Pending) (bytes : List ℕ) → IsSoundEntry f v e → uid < (v.copy m).owner
    → IsSourceOf sent rogue bytes (v.sent uid) (v.rogue uid) (v.marks uid m) → IsSourceOf sent rogue bytes ((view_after f v e).sent uid) ((view_after f v e).rogue uid) ((view_after f v e).marks uid m)
is_source_on f v (Applied mirror cred at bs) uid m sent rogue bytes s past h = by_tests (is_mirror mirror m) (eqb cred.0 uid) refl refl
  where
    wrong : is_mirror mirror m ≡ true → cred.0 ≡ uid → ⊥
    wrong is same =
        let owner : cred.0 ≡ (v.copy m).owner = s.0 ∙ ap (λ (k : MirrorId). (v.copy k).owner) (mirror_is mirror m is) in
        absurd (omega (arith, same, owner, past))

    by_tests : (b c : Bool) → is_mirror mirror m ≡ b → eqb cred.0 uid ≡ c → IsSourceOf sent rogue bytes (v.sent uid) (v.rogue uid) (cond (b && c) (record { here = the_write at bs ∷ (v.marks uid m).here; covered = (v.marks uid m).covered }) (v.marks uid m))
    by_tests true true is same = absurd (wrong is (eqb-true cred.0 uid same))
    by_tests true false is differ = h
    by_tests false c is same = h
is_source_on f v (Committed mirror) uid m sent rogue bytes s past h = by_test (is_mirror mirror m)
  where
    by_test : (b : Bool) → IsSourceOf sent rogue bytes (v.sent uid) (v.rogue uid) (cond b (record { here = (v.marks uid m).here; covered = (v.marks uid m).here ++ (v.marks uid m).covered }) (v.marks uid m))
    by_test true = commits sent rogue bytes (v.sent uid) (v.rogue uid) (v.marks uid m) h
    by_test false = h
is_source_on f v (Restarted server pieces) uid m sent rogue bytes s past h = by_test (eqb server m.server)
  where
    by_test : (b : Bool) → IsSourceOf sent rogue bytes (v.sent uid) (v.rogue uid) (cond b (record { here = []; covered = (v.marks uid m).covered }) (v.marks uid m))
    by_test true = loses sent rogue bytes (v.sent uid) (v.rogue uid) (v.marks uid m) h
    by_test false = h
is_source_on f v (Sent file cred at bs) uid m sent rogue bytes s past h = by_test (eqb cred.0 uid) refl
  where
    by_test : (b : Bool) → eqb cred.0 uid ≡ b → IsSourceOf sent rogue bytes (cond b (v.sent uid ++ the_write at bs ∷ []) (v.sent uid)) (v.rogue uid) (v.marks uid m)
    by_test true same = sends sent rogue bytes (v.sent uid) (v.rogue uid) (v.marks uid m) h (the_write at bs) (subst (λ (u : ℕ). IsSentSoundly v u at bs) (eqb-true cred.0 uid same) s).none_strayed
    by_test false same = h
is_source_on f v (Rogue file cred at bs) uid m sent rogue bytes s past h = by_test (eqb cred.0 uid)
  where
    by_test : (b : Bool) → IsSourceOf sent rogue bytes (v.sent uid) (cond b (v.rogue uid ++ the_write at bs ∷ []) (v.rogue uid)) (v.marks uid m)
    by_test true = strays sent rogue bytes (v.sent uid) (v.rogue uid) (v.marks uid m) h (the_write at bs)
    by_test false = h
is_source_on f v _ uid m sent rogue bytes s past h = h

pub source_on : (f : FileId) (v : FileView) (e : Entry) (uid : ℕ) (m : MirrorId) (sent rogue : List Pending) (bytes : List ℕ) → IsSoundEntry f v e → IsSourceAt v uid m sent rogue bytes → IsSourceAt (view_after f v e) uid m sent rogue bytes
source_on f v e uid m sent rogue bytes s h = record {
  of_layout = layout_on f v e uid m h.of_layout;
  past = past_on f v e m uid s h.past;
  is_source = is_source_on f v e uid m sent rogue bytes s h.past h.is_source;
}

pub dirty_on : (f : FileId) (v : FileView) (e : Entry) (uid : ℕ) (base bytes : List ℕ) → IsSoundEntry f v e → IsDirtyFrom v uid base bytes → IsDirtyFrom (view_after f v e) uid base bytes
dirty_on f v e uid base bytes s h = record { source = h.source; sent = h.sent; rogue = h.rogue; dirty = h.dirty; at_source = source_on f v e uid h.source h.sent h.rogue bytes s h.at_source }
