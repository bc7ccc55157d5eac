-- Where an entry stands in a journal, by tests of entries.
use Rattle.std.proofs.Common.{◌≡◌, Bool, true, false, ◌||◌, List, [], ◌∷◌, ◌++◌, refl, sym, ap, ◌∙◌}
use Rattle.std.specs.List.{AllByRecursion, list_any}
use Rattle.cluster_model.specs.declared.ids.NodeId.TheVariants.{Mds, Server, Client}
use Rattle.cluster_model.specs.declared.entry.Entry.{Entry}
use Rattle.cluster_model.specs.declared.entry.Entry.TheVariants.{Packet, Delivered, Left, Swapped, ReadAnswer}
use Rattle.cluster_model.specs.declared.ids.FileId.{FileId}
use Rattle.ff_laws.specs.ReadLaw.{IsNoSwapOf}

-- ---- tests

abbrev pub is_answer : Entry → Bool
is_answer (ReadAnswer file status bytes) = true
is_answer e = false

abbrev pub is_delivery : Entry → Bool
is_delivery (Delivered number) = true
is_delivery e = false

abbrev pub is_request : Entry → Bool
is_request (Packet number (Client client) Mds bytes) = true
is_request e = false

abbrev pub is_to_server : Entry → Bool
is_to_server (Packet number Mds (Server server) bytes) = true
is_to_server e = false

abbrev pub is_left : Entry → Bool
is_left (Left file mirror cause) = true
is_left e = false

abbrev pub is_swap : Entry → Bool
is_swap (Swapped file old new) = true
is_swap e = false

-- ---- where none passes

either : (a b : Bool) → (a || b) ≡ false → (a ≡ false) × (b ≡ false)
either true b h = absurd cc
either false b h = (refl, h)

pub none_of : (test : Entry → Bool) (a b : List Entry) → list_any test (a ++ b) ≡ false → (list_any test a ≡ false) × (list_any test b ≡ false)
none_of test [] b h = (refl, h)
none_of test (e ∷ a) b h =
    let here = either (test e) (list_any test (a ++ b)) h in
    let rest = none_of test a b here.1 in
    (ap (λ (x : Bool). x || list_any test a) here.0 ∙ rest.0, rest.1)

-- none stands in a list of which none passes
pub not_there : (test : Entry → Bool) (list before behind : List Entry) (e : Entry) → list_any test list ≡ false → test e ≡ true → list ≡ before ++ e ∷ behind → ⊥
not_there test list before behind e none passes is =
    let parts = none_of test before (e ∷ behind) (ap (λ x. list_any test x) (sym is) ∙ none) in
    let here = either (test e) (list_any test behind) parts.1 in
    absurd (cc (here.0, passes))

-- the one that passes stands at one place
pub one_place : (test : Entry → Bool) (first rest before behind : List Entry) (x e : Entry) → list_any test first ≡ false → list_any test rest ≡ false → test e ≡ true
    → first ++ x ∷ rest ≡ before ++ e ∷ behind → (first ≡ before) × (x ≡ e) × (rest ≡ behind)
one_place test [] rest [] behind x e early late passes is = (refl, cc, cc)
one_place test [] rest (b ∷ before) behind x e early late passes is =
    let tail : rest ≡ before ++ e ∷ behind = cc in
    absurd (not_there test rest before behind e late passes tail)
one_place test (f ∷ first) rest [] behind x e early late passes is =
    let here = either (test f) (list_any test first) early in
    let same : f ≡ e = cc in
    absurd (cc (here.0, passes, ap test same))
one_place test (f ∷ first) rest (b ∷ before) behind x e early late passes is =
    let here = either (test f) (list_any test first) early in
    let tail : first ++ x ∷ rest ≡ before ++ e ∷ behind = cc in
    let head : f ≡ b = cc in
    let parts = one_place test first rest before behind x e here.1 late passes tail in
    (cc (head, parts.0), parts.1, parts.2)

-- what holds of entries that do not pass holds of all
pub none_by : (test : Entry → Bool) (P : Entry → Type 0) → ((e : Entry) → test e ≡ false → P e) → (entries : List Entry) → list_any test entries ≡ false → AllByRecursion P entries
none_by test P each [] h = tt
none_by test P each (e ∷ entries) h =
    let here = either (test e) (list_any test entries) h in
    (each e here.0, none_by test P each entries here.1)

-- no entry is a swap of the file
no_swap : (file : FileId) (e : Entry) → is_swap e ≡ false → IsNoSwapOf file e
no_swap file (Swapped other old new) h = absurd cc
no_swap file e h = tt

pub no_swaps : (file : FileId) (entries : List Entry) → list_any is_swap entries ≡ false → AllByRecursion (IsNoSwapOf file) entries
no_swaps file = none_by is_swap (IsNoSwapOf file) (no_swap file)
