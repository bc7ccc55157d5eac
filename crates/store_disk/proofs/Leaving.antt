-- What crashes leave from one moment of a disk to another.
use Rattle.std.proofs.Common.{◌≡◌, ℕ, List, [], ◌∷◌, ◌++◌, Option, Some, None, refl, sym, ap, subst, ◌∙◌}
use Rattle.std.specs.List.{AllByRecursion}
use Rattle.std.proofs.lemmas.List.{append_assoc}
use Rattle.store_disk.specs.Disks.{DiskState, DiskLife, AllImages, LeavesBetween, LeavesSince, LeavesNow, goes_on}

abbrev Images : (List ℕ → Type 0) → List DiskState → Type 0
Images P states = AllByRecursion (AllImages P) states

joined : (P : List ℕ → Type 0) (xs ys : List DiskState) → Images P xs → Images P ys → Images P (xs ++ ys)
joined P [] ys h g = g
joined P (x ∷ xs) ys h g = (h.0, joined P xs ys h.1 g)

front : (P : List ℕ → Type 0) (xs ys : List DiskState) → Images P (xs ++ ys) → Images P xs
front P [] ys h = tt
front P (x ∷ xs) ys h = (h.0, front P xs ys h.1)

last : (P : List ℕ → Type 0) (xs : List DiskState) (y : DiskState) → Images P (xs ++ y ∷ []) → AllImages P y
last P [] y h = h.0
last P (x ∷ xs) y h = last P xs y h.1

weaker_all : (P Q : List ℕ → Type 0) → ((bytes : List ℕ) → P bytes → Q bytes) → (states : List DiskState) → Images P states → Images Q states
weaker_all P Q w [] h = tt
weaker_all P Q w (s ∷ states) h = ((λ bytes image. w bytes (h.0 bytes image)), weaker_all P Q w states h.1)

-- nothing was done
pub leaves_none : (P : List ℕ → Type 0) (life : DiskLife) → AllImages P life.now → LeavesBetween P life life
leaves_none P life h = record { since = []; goes = refl; images = (h, tt) }

-- one change or one sync
pub leaves_step : (P : List ℕ → Type 0) (life : DiskLife) (s : DiskState) → AllImages P life.now → AllImages P s → LeavesBetween P life (goes_on life s)
leaves_step P life s h g = record { since = s ∷ []; goes = refl; images = (g, (h, tt)) }

-- one after the other
pub leaves_both : (P : List ℕ → Type 0) (a b c : DiskLife) → LeavesBetween P a b → LeavesBetween P b c → LeavesBetween P a c
leaves_both P a b c h g = record {
  since = g.since ++ h.since;
  goes = g.goes ∙ ap (λ (states : List DiskState). g.since ++ states) h.goes ∙ sym (append_assoc g.since h.since (a.now ∷ a.past));
  images = subst (Images P) (sym (append_assoc g.since h.since (a.now ∷ []))) (joined P g.since (h.since ++ a.now ∷ []) (front P g.since (b.now ∷ []) g.images) h.images);
}

-- less is said of what crashes leave
pub leaves_weaker : (P Q : List ℕ → Type 0) (a b : DiskLife) → ((bytes : List ℕ) → P bytes → Q bytes) → LeavesBetween P a b → LeavesBetween Q a b
leaves_weaker P Q a b w h = record { since = h.since; goes = h.goes; images = weaker_all P Q w (h.since ++ a.now ∷ []) h.images }

-- what a crash left at the first moment
pub leaves_old : (P : List ℕ → Type 0) (a b : DiskLife) → LeavesBetween P a b → AllImages P a.now
leaves_old P a b h = last P h.since a.now h.images

newest : (P : List ℕ → Type 0) (states : List DiskState) (now : DiskState) (past earlier : List DiskState) (old : DiskState) → now ∷ past ≡ states ++ old ∷ earlier → Images P (states ++ old ∷ []) → AllImages P now
newest P [] now past earlier old is h = let same : old ≡ now = cc (is) in subst (AllImages P) same h.0
newest P (s ∷ states) now past earlier old is h = let same : s ≡ now = cc (is) in subst (AllImages P) same h.0

-- what a crash leaves at the last moment
pub leaves_new : (P : List ℕ → Type 0) (a b : DiskLife) → LeavesBetween P a b → AllImages P b.now
leaves_new P a b h = newest P h.since b.now b.past a.past a.now h.goes h.images

-- ---- the same of a disk that may tell nothing

-- what is known of a disk's life, where it tells
abbrev pub Told : Option DiskLife → (DiskLife → Type 0) → Type 0
Told None K = Unit {0}
Told (Some life) K = K life

pub told_weaker : (told : Option DiskLife) (K L : DiskLife → Type 0) → ((life : DiskLife) → K life → L life) → Told told K → Told told L
told_weaker None K L w h = tt
told_weaker (Some life) K L w h = w life h

pub told_both : (told : Option DiskLife) (K L : DiskLife → Type 0) → Told told K → Told told L → Told told (λ life. K life × L life)
told_both None K L h g = tt
told_both (Some life) K L h g = (h, g)

pub told_now : (told : Option DiskLife) (P : List ℕ → Type 0) → Told told (λ life. AllImages P life.now) → LeavesNow told P
told_now None P h = tt
told_now (Some life) P h = h

pub since_none : (P : List ℕ → Type 0) (told : Option DiskLife) → Told told (λ life. AllImages P life.now) → LeavesSince told told P
since_none P None h = refl
since_none P (Some life) h = (life, refl, leaves_none P life h)

pub since_same : (P : List ℕ → Type 0) (told new : Option DiskLife) → new ≡ told → Told told (λ life. AllImages P life.now) → LeavesSince told new P
since_same P told new same h = subst (λ (o : Option DiskLife). LeavesSince told o P) (sym same) (since_none P told h)

pub since_both : (P : List ℕ → Type 0) (a b c : Option DiskLife) → LeavesSince a b P → LeavesSince b c P → LeavesSince a c P
since_both P None b c h g = subst (λ (o : Option DiskLife). LeavesSince o c P) h g
since_both P (Some a) b c h g =
    let later : LeavesSince (Some h.0) c P = subst (λ (o : Option DiskLife). LeavesSince o c P) h.1 g in
    (later.0, later.1, leaves_both P a h.0 later.0 h.2 later.2)

pub since_weaker : (P Q : List ℕ → Type 0) (a b : Option DiskLife) → ((bytes : List ℕ) → P bytes → Q bytes) → LeavesSince a b P → LeavesSince a b Q
since_weaker P Q None b w h = h
since_weaker P Q (Some a) b w h = (h.0, h.1, leaves_weaker P Q a h.0 w h.2)

pub since_old : (P : List ℕ → Type 0) (a b : Option DiskLife) → LeavesSince a b P → LeavesNow a P
since_old P None b h = tt
since_old P (Some a) b h = leaves_old P a h.0 h.2

pub since_new : (P : List ℕ → Type 0) (a b : Option DiskLife) → LeavesSince a b P → Told b (λ life. AllImages P life.now)
since_new P None b h = subst (λ (o : Option DiskLife). Told o (λ life. AllImages P life.now)) (sym h) tt
since_new P (Some a) b h = subst (λ (o : Option DiskLife). Told o (λ life. AllImages P life.now)) (sym h.1) (leaves_new P a h.0 h.2)

-- what is known of a disk that tells, and of no moment, is known later
pub since_told : (P : List ℕ → Type 0) (K : Type 0) (a b : Option DiskLife) → LeavesSince a b P → Told a (λ _. K) → Told b (λ _. K)
since_told P K None b h k = subst (λ (o : Option DiskLife). Told o (λ _. K)) (sym h) tt
since_told P K (Some a) b h k = subst (λ (o : Option DiskLife). Told o (λ _. K)) (sym h.1) k
