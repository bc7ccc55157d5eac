-- What the calls of a disk leave to a crash.
use Rattle.std.proofs.Common.{◌≡◌, ℕ, List, length, Option, Some, None, Result, Ok, Err, inl, inr, refl, sym, ap, subst}
use Rattle.cluster_model.specs.Content.{overlay}
use Rattle.rpc_record.specs.declared.stream.Failed.{Failed}
use Rattle.rpc_record.specs.declared.stream.Failed.TheVariants.{Fault, NoMemory}
use Rattle.store_disk.specs.Disks.{DiskState, DiskLife, AllImages, LeavesSince, Torn, TornLength, goes_on, synced_state, with_write, with_length, resized, WritesAt, CutsTo, Syncs}
use Rattle.store_disk.proofs.Placed.{torn_whole, torn_none, cut_whole, cut_none}
use Rattle.store_disk.proofs.Leaving.{Told, leaves_none, leaves_step, since_both, since_new}

-- Of what is synced a crash leaves all.
pub synced_images : (P : List ℕ → Type 0) (bytes : List ℕ) → P bytes → AllImages P (synced_state bytes)
synced_images P bytes h left (inl is) = subst P (sym is) h
synced_images P bytes h left (inr is) = subst P (sym is) h

pub images_of : (P : List ℕ → Type 0) (s : DiskState) (bytes : List ℕ) → s ≡ synced_state bytes → P bytes → AllImages P s
images_of P s bytes is h = subst (AllImages P) (sym is) (synced_images P bytes h)

-- what a read gives is one of those that a crash may leave
pub seen_image : (P : List ℕ → Type 0) (s : DiskState) → AllImages P s → P s.seen
seen_image P s h = h s.seen (inl refl)

-- one write to what was synced
pub write_images : (P : List ℕ → Type 0) (bytes : List ℕ) (at count : ℕ) (seen : List ℕ) → ((left : List ℕ) → Torn at count bytes left → P left) → Torn at count bytes seen
    → AllImages P (with_write (synced_state bytes) at count seen)
write_images P bytes at count seen h torn left (inl is) = subst P (sym is) (h seen torn)
write_images P bytes at count seen h torn left (inr was) = h left (subst (λ (before : List ℕ). Torn at count before left) was.1 was.2)

-- one cut of what was synced
pub cut_images : (P : List ℕ → Type 0) (bytes : List ℕ) (to : ℕ) (seen : List ℕ) → ((left : List ℕ) → TornLength to bytes left → P left) → TornLength to bytes seen
    → AllImages P (with_length (synced_state bytes) to seen)
cut_images P bytes to seen h cut left (inl is) = subst P (sym is) (h seen cut)
cut_images P bytes to seen h cut left (inr was) = h left (subst (λ (before : List ℕ). TornLength to before left) was.1 was.2)

-- ---- a write to what was synced

-- these bytes were synced, and whatever a crash makes of a write there has P
pub record CanTear (P : List ℕ → Type 0) (at count : ℕ) (bytes : List ℕ) (life : DiskLife) : Type 0 where
  pub synced : life.now ≡ synced_state bytes
  pub torn : (left : List ℕ) → Torn at count bytes left → P left

write_step : (P : List ℕ → Type 0) (at count : ℕ) (bytes seen : List ℕ) (life : DiskLife) → CanTear P at count bytes life → Torn at count bytes seen
    → AllImages P life.now × AllImages P (with_write life.now at count seen)
write_step P at count bytes seen life can torn = (
  images_of P life.now bytes can.synced (can.torn bytes (torn_none bytes at count)),
  subst (λ (s : DiskState). AllImages P (with_write s at count seen)) (sym can.synced) (write_images P bytes at count seen can.torn torn),
)

seen_of : (life : DiskLife) (bytes : List ℕ) → life.now ≡ synced_state bytes → life.now.seen ≡ bytes
seen_of life bytes is = ap (λ (s : DiskState). s.seen) is

pub write_leaves : (P : List ℕ → Type 0) (at : ℕ) (piece bytes : List ℕ) (old : Option DiskLife) (result : Result (Unit {0}) Failed) (new : Option DiskLife)
    → Told old (CanTear P at (length piece) bytes) → WritesAt old at piece result new → LeavesSince old new P
write_leaves P at piece bytes None result new can is = is
write_leaves P at piece bytes (Some life) (Ok x) new can is =
    let torn : Torn at (length piece) bytes (overlay life.now.seen at piece) = subst (λ (old : List ℕ). Torn at (length piece) bytes (overlay old at piece)) (sym (seen_of life bytes can.synced)) (torn_whole bytes at piece) in
    let both = write_step P at (length piece) bytes (overlay life.now.seen at piece) life can torn in
    (goes_on life (with_write life.now at (length piece) (overlay life.now.seen at piece)), is, leaves_step P life _ both.0 both.1)
write_leaves P at piece bytes (Some life) (Err Fault) new can is =
    let torn : Torn at (length piece) bytes is.0 = subst (λ (old : List ℕ). Torn at (length piece) old is.0) (seen_of life bytes can.synced) is.1 in
    let both = write_step P at (length piece) bytes is.0 life can torn in
    (goes_on life (with_write life.now at (length piece) is.0), is.2, leaves_step P life _ both.0 both.1)
write_leaves P at piece bytes (Some life) (Err NoMemory) new can is =
    (life, is, leaves_none P life (images_of P life.now bytes can.synced (can.torn bytes (torn_none bytes at (length piece)))))

-- how a disk stands behind a write to what was synced
pub write_now : (at : ℕ) (piece bytes : List ℕ) (old : Option DiskLife) (x : Unit {0}) (new : Option DiskLife) → Told old (λ life. life.now ≡ synced_state bytes) → WritesAt old at piece (Ok x) new
    → Told new (λ life. life.now ≡ with_write (synced_state bytes) at (length piece) (overlay bytes at piece))
write_now at piece bytes None x new can is = subst (λ (o : Option DiskLife). Told o (λ life. life.now ≡ with_write (synced_state bytes) at (length piece) (overlay bytes at piece))) (sym is) tt
write_now at piece bytes (Some life) x new can is =
    subst (λ (o : Option DiskLife). Told o (λ later. later.now ≡ with_write (synced_state bytes) at (length piece) (overlay bytes at piece))) (sym is)
    (ap (λ (s : DiskState). with_write s at (length piece) (overlay s.seen at piece)) can)

-- ---- a cut of what was synced

-- these bytes were synced, and whatever a crash makes of a cut of them has P
pub record CanCut (P : List ℕ → Type 0) (to : ℕ) (bytes : List ℕ) (life : DiskLife) : Type 0 where
  pub synced : life.now ≡ synced_state bytes
  pub cut : (left : List ℕ) → TornLength to bytes left → P left

cut_step : (P : List ℕ → Type 0) (to : ℕ) (bytes seen : List ℕ) (life : DiskLife) → CanCut P to bytes life → TornLength to bytes seen
    → AllImages P life.now × AllImages P (with_length life.now to seen)
cut_step P to bytes seen life can cut = (
  images_of P life.now bytes can.synced (can.cut bytes (cut_none bytes to)),
  subst (λ (s : DiskState). AllImages P (with_length s to seen)) (sym can.synced) (cut_images P bytes to seen can.cut cut),
)

pub cut_leaves : (P : List ℕ → Type 0) (to : ℕ) (bytes : List ℕ) (old : Option DiskLife) (result : Result (Unit {0}) Failed) (new : Option DiskLife)
    → Told old (CanCut P to bytes) → CutsTo old to result new → LeavesSince old new P
cut_leaves P to bytes None result new can is = is
cut_leaves P to bytes (Some life) (Ok x) new can is =
    let cut : TornLength to bytes (resized life.now.seen to) = subst (λ (old : List ℕ). TornLength to bytes (resized old to)) (sym (seen_of life bytes can.synced)) (cut_whole bytes to) in
    let both = cut_step P to bytes (resized life.now.seen to) life can cut in
    (goes_on life (with_length life.now to (resized life.now.seen to)), is, leaves_step P life _ both.0 both.1)
cut_leaves P to bytes (Some life) (Err Fault) new can is =
    let cut : TornLength to bytes is.0 = subst (λ (old : List ℕ). TornLength to old is.0) (seen_of life bytes can.synced) is.1 in
    let both = cut_step P to bytes is.0 life can cut in
    (goes_on life (with_length life.now to is.0), is.2, leaves_step P life _ both.0 both.1)
cut_leaves P to bytes (Some life) (Err NoMemory) new can is =
    (life, is, leaves_none P life (images_of P life.now bytes can.synced (can.cut bytes (cut_none bytes to))))

-- how a disk stands behind a cut of what was synced
pub cut_now : (to : ℕ) (bytes : List ℕ) (old : Option DiskLife) (x : Unit {0}) (new : Option DiskLife) → Told old (λ life. life.now ≡ synced_state bytes) → CutsTo old to (Ok x) new
    → Told new (λ life. life.now ≡ with_length (synced_state bytes) to (resized bytes to))
cut_now to bytes None x new can is = subst (λ (o : Option DiskLife). Told o (λ life. life.now ≡ with_length (synced_state bytes) to (resized bytes to))) (sym is) tt
cut_now to bytes (Some life) x new can is =
    subst (λ (o : Option DiskLife). Told o (λ later. later.now ≡ with_length (synced_state bytes) to (resized bytes to))) (sym is)
    (ap (λ (s : DiskState). with_length s to (resized s.seen to)) can)

-- ---- a sync

pub sync_leaves : (P : List ℕ → Type 0) (old : Option DiskLife) (result : Result (Unit {0}) Failed) (new : Option DiskLife) → Told old (λ life. AllImages P life.now) → Syncs old result new → LeavesSince old new P
sync_leaves P None result new h is = is
sync_leaves P (Some life) (Ok x) new h is = (goes_on life (synced_state life.now.seen), is, leaves_step P life _ h (synced_images P life.now.seen (seen_image P life.now h)))
sync_leaves P (Some life) (Err e) new h is = (life, is, leaves_none P life h)

-- how a disk stands behind a sync
pub sync_now : (bytes : List ℕ) (old : Option DiskLife) (x : Unit {0}) (new : Option DiskLife) → Told old (λ life. life.now.seen ≡ bytes) → Syncs old (Ok x) new → Told new (λ life. life.now ≡ synced_state bytes)
sync_now bytes None x new h is = subst (λ (o : Option DiskLife). Told o (λ life. life.now ≡ synced_state bytes)) (sym is) tt
sync_now bytes (Some life) x new h is = subst (λ (o : Option DiskLife). Told o (λ later. later.now ≡ synced_state bytes)) (sym is) (ap synced_state h)

-- ---- the same calls behind others

pub since_write : (P : List ℕ → Type 0) (at : ℕ) (piece bytes : List ℕ) (first old : Option DiskLife) (result : Result (Unit {0}) Failed) (new : Option DiskLife)
    → LeavesSince first old P → Told old (CanTear P at (length piece) bytes) → WritesAt old at piece result new → LeavesSince first new P
since_write P at piece bytes first old result new h can is = since_both P first old new h (write_leaves P at piece bytes old result new can is)

pub since_cut : (P : List ℕ → Type 0) (to : ℕ) (bytes : List ℕ) (first old : Option DiskLife) (result : Result (Unit {0}) Failed) (new : Option DiskLife)
    → LeavesSince first old P → Told old (CanCut P to bytes) → CutsTo old to result new → LeavesSince first new P
since_cut P to bytes first old result new h can is = since_both P first old new h (cut_leaves P to bytes old result new can is)

-- A sync leaves nothing that was not left before it.
pub since_sync : (P : List ℕ → Type 0) (first old : Option DiskLife) (result : Result (Unit {0}) Failed) (new : Option DiskLife) → LeavesSince first old P → Syncs old result new → LeavesSince first new P
since_sync P first old result new h is = since_both P first old new h (sync_leaves P old result new (since_new P first old h) is)
