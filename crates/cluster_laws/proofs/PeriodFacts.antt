-- What entries say of the users of a file's periods.
use Rattle.std.proofs.Common.{◌≡◌, ◌≢◌, ℕ, Bool, true, false, cond, List, [], ◌∷◌, ◌++◌, Option, Some, None, refl, sym, ap, subst, ◌∙◌, append_assoc, append-nil}
use Rattle.std.specs.Prelude.{◌||◌}
use Rattle.std.specs.List.{AllByRecursion}
use Rattle.std.proofs.lemmas.Bool.{ne_eqb}
use Rattle.cluster_model.specs.declared.ids.NodeId.{NodeId}
use Rattle.cluster_model.specs.declared.ids.FileId.{FileId}
use Rattle.cluster_model.specs.declared.ids.Cred.{Cred}
use Rattle.cluster_model.specs.declared.ids.MirrorId.{MirrorId}
use Rattle.cluster_model.specs.declared.phase.EndCause.{EndCause}
use Rattle.cluster_model.specs.declared.phase.LeftCause.{LeftCause}
use Rattle.cluster_model.specs.declared.entry.Entry.{Entry}
use Rattle.cluster_model.specs.declared.entry.Entry.TheVariants as entry
use Rattle.cluster_laws.specs.Machine.{file_id}
use Rattle.cluster_laws.specs.FenceLaw.{is_file}
use Rattle.cluster_laws.specs.Telling.{is_telling}
use Rattle.cluster_laws.specs.Periods.{owed_behind, owed_after, owed_by, owed_in, user_when_free, user_after, user_by, user_in, grants, was_granted, IsInPlace, ArePeriodsFenced}
use Rattle.cluster_laws.proofs.Invariant.{If}

-- ---- entries in place

abbrev pub AreInPlace : List Entry → List Entry → Type 0
AreInPlace before [] = Unit {0}
AreInPlace before (e ∷ entries) = IsInPlace before e × AreInPlace (before ++ e ∷ []) entries

pub place_more : (before a b : List Entry) → AreInPlace before a → AreInPlace (before ++ a) b → AreInPlace before (a ++ b)
place_more before [] b h k = subst (λ x. AreInPlace x b) (append-nil before) k
place_more before (e ∷ a) b h k = (h.0, place_more (before ++ e ∷ []) a b h.1 (subst (λ x. AreInPlace x b) (sym (append_assoc before (e ∷ []) a)) k))

place_at : (before front : List Entry) (e : Entry) (rest : List Entry) → AreInPlace before (front ++ e ∷ rest) → IsInPlace (before ++ front) e
place_at before [] e rest h = subst (λ x. IsInPlace x e) (sym (append-nil before)) h.0
place_at before (x ∷ front) e rest h = subst (λ y. IsInPlace y e) (append_assoc before (x ∷ []) front) (place_at (before ++ x ∷ []) front e rest h.1)

pub periods_fenced : (journal : List Entry) → AreInPlace [] journal → ArePeriodsFenced journal
periods_fenced journal h before behind e is = place_at [] before e behind (subst (λ x. AreInPlace [] x) is h)

-- ---- joined journals

pub owed_append : (f : FileId) (owed : Option ℕ) (a b : List Entry) → owed_by f owed (a ++ b) ≡ owed_by f (owed_by f owed a) b
owed_append f owed [] b = refl
owed_append f owed (e ∷ a) b = owed_append f (owed_after f owed e) a b

pub user_append : (f : FileId) (before : List Entry) (uid : Option ℕ) (a b : List Entry) → user_by f before uid (a ++ b) ≡ user_by f (before ++ a) (user_by f before uid a) b
user_append f before uid [] b = ap (λ (x : List Entry). user_by f x uid b) (sym (append-nil before))
user_append f before uid (e ∷ a) b = user_append f (before ++ e ∷ []) (user_after f before uid e) a b ∙ ap (λ (x : List Entry). user_by f x (user_by f (before ++ e ∷ []) (user_after f before uid e) a) b) (append_assoc before (e ∷ []) a)

or_false : (a b : Bool) → a ≡ false → b ≡ false → (a || b) ≡ false
or_false true b h k = absurd cc
or_false false b h k = k

pub granted_append : (uid : ℕ) (a b : List Entry) → was_granted a uid ≡ false → was_granted b uid ≡ false → was_granted (a ++ b) uid ≡ false
granted_append uid [] b h k = k
granted_append uid (e ∷ a) b h k = or_false _ _ (first _ _ h) (granted_append uid a b (second _ _ h) k)
  where
    first : (x y : Bool) → (x || y) ≡ false → x ≡ false
    first true y e = absurd cc
    first false y e = refl

    second : (x y : Bool) → (x || y) ≡ false → y ≡ false
    second true y e = absurd cc
    second false y e = e

-- ---- what an entry says

-- the uid that an entry grants, if it is a grant
abbrev pub granted_in : Entry → Option ℕ
granted_in (entry.Granted file cred holder) = Some cred.0
granted_in _ = None

pub not_granted : (uid : ℕ) (e : Entry) → If (granted_in e) (λ u. u ≢ uid) → grants uid e ≡ false
not_granted uid (entry.Granted file cred holder) h = ne_eqb cred.0 uid h
not_granted uid _ h = refl

pub none_granted : (uid : ℕ) (entries : List Entry) → AllByRecursion (λ e. If (granted_in e) (λ u. u ≢ uid)) entries → was_granted entries uid ≡ false
none_granted uid [] h = refl
none_granted uid (e ∷ entries) h = or_false _ _ (not_granted uid e h.0) (none_granted uid entries h.1)

-- an entry that says nothing of a file's periods
pub record IsNoPeriod (f : FileId) (e : Entry) : Type 0 where
  pub owed : (owed : Option ℕ) → owed_after f owed e ≡ owed
  pub user : (journal : List Entry) (uid : Option ℕ) → user_after f journal uid e ≡ uid

pub owed_stays : (f : FileId) (entries : List Entry) → AllByRecursion (IsNoPeriod f) entries → (owed : Option ℕ) → owed_by f owed entries ≡ owed
owed_stays f [] h owed = refl
owed_stays f (e ∷ entries) h owed = ap (λ (x : Option ℕ). owed_by f x entries) (h.0.owed owed) ∙ owed_stays f entries h.1 owed

pub user_stays : (f : FileId) (entries : List Entry) → AllByRecursion (IsNoPeriod f) entries → (before : List Entry) (uid : Option ℕ) → user_by f before uid entries ≡ uid
user_stays f [] h before uid = refl
user_stays f (e ∷ entries) h before uid = ap (λ (x : Option ℕ). user_by f (before ++ e ∷ []) x entries) (h.0.user before uid) ∙ user_stays f entries h.1 (before ++ e ∷ []) uid

pub owed_same : (f : FileId) (journal entries : List Entry) → AllByRecursion (IsNoPeriod f) entries → owed_in (journal ++ entries) f ≡ owed_in journal f
owed_same f journal entries h = owed_append f None journal entries ∙ owed_stays f entries h (owed_in journal f)

pub user_same : (f : FileId) (journal entries : List Entry) → AllByRecursion (IsNoPeriod f) entries → user_in (journal ++ entries) f ≡ user_in journal f
user_same f journal entries h = user_append f [] None journal entries ∙ user_stays f entries h journal (user_in journal f)

-- one entry more
pub owed_then : (f : FileId) (journal : List Entry) (e : Entry) → owed_in (journal ++ e ∷ []) f ≡ owed_after f (owed_in journal f) e
owed_then f journal e = owed_append f None journal (e ∷ [])

pub user_then : (f : FileId) (journal : List Entry) (e : Entry) → user_in (journal ++ e ∷ []) f ≡ user_after f journal (user_in journal f) e
user_then f journal e = user_append f [] None journal (e ∷ [])

-- ---- entries of one file

-- of this file, or of none
abbrev pub IsOfFile : ℕ → Entry → Type 0
IsOfFile n e = (k : ℕ) → k ≢ n → IsNoPeriod (file_id k) e

another : (n k : ℕ) → k ≢ n → is_file (file_id n) (file_id k) ≡ false
another n k other = ne_eqb n k (λ e. other (sym e))

pub ended_of : (n : ℕ) (cred : Cred) (cause : EndCause) → IsOfFile n (entry.Ended (file_id n) cred cause)
ended_of n cred cause k other = record { owed = λ owed. ap (λ (b : Bool). cond b (Some cred.0) owed) (another n k other); user = λ journal uid. refl }

pub fenced_of : (n : ℕ) (old new : Cred) (live : List MirrorId) → IsOfFile n (entry.Fenced (file_id n) old new live)
fenced_of n old new live k other = record {
  owed = λ owed. ap (λ (b : Bool). cond b (owed_behind old.0 live owed) owed) (another n k other);
  user = λ journal uid. ap (λ (b : Bool). cond b (Some new.0) uid) (another n k other);
}

pub free_of : (n : ℕ) (live : List MirrorId) → IsOfFile n (entry.Free (file_id n) live)
free_of n live k other = record { owed = λ owed. refl; user = λ journal uid. ap (λ (b : Bool). cond b (user_when_free journal live uid) uid) (another n k other) }

-- entries that say nothing of periods of any file, and grant nothing
pub record IsStill (e : Entry) : Type 0 where
  pub none : (f : FileId) → IsNoPeriod f e
  pub grant : granted_in e ≡ None
  pub place : (before : List Entry) → IsInPlace before e
  pub tells : is_telling e ≡ true

pub sent_still : (f : FileId) (cred : Cred) (at : ℕ) (bytes : List ℕ) → IsStill (entry.Sent f cred at bytes)
sent_still f cred at bytes = record { none = λ g. record { owed = λ o. refl; user = λ j u. refl }; grant = refl; place = λ b. tt; tells = refl }

pub rogue_still : (f : FileId) (cred : Cred) (at : ℕ) (bytes : List ℕ) → IsStill (entry.Rogue f cred at bytes)
rogue_still f cred at bytes = record { none = λ g. record { owed = λ o. refl; user = λ j u. refl }; grant = refl; place = λ b. tt; tells = refl }

pub told_still : (f : FileId) (cred : Cred) (at : ℕ) (bytes : List ℕ) → IsStill (entry.Told f cred at bytes)
told_still f cred at bytes = record { none = λ g. record { owed = λ o. refl; user = λ j u. refl }; grant = refl; place = λ b. tt; tells = refl }

pub left_still : (f : FileId) (id : MirrorId) (cause : LeftCause) → IsStill (entry.Left f id cause)
left_still f id cause = record { none = λ g. record { owed = λ o. refl; user = λ j u. refl }; grant = refl; place = λ b. tt; tells = refl }

pub swapped_still : (f : FileId) (old : Option MirrorId) (new : MirrorId) → IsStill (entry.Swapped f old new)
swapped_still f old new = record { none = λ g. record { owed = λ o. refl; user = λ j u. refl }; grant = refl; place = λ b. tt; tells = refl }

pub granted_none : (f : FileId) (file : FileId) (cred : Cred) (holder : NodeId) → IsNoPeriod f (entry.Granted file cred holder)
granted_none f file cred holder = record { owed = λ o. refl; user = λ j u. refl }
