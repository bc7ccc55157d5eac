-- Which targets of a copy can come into a live list behind a change of it, and that all of them can come in.
use Rattle.std.proofs.Common.{◌≡◌, ℕ, ◌≤◌, ◌<◌, ◌+◌, Bool, true, false, not, eqb, cond, List, [], ◌∷◌, ◌++◌, length, map, Option, Some, None, refl, sym, ap, ◌∙◌, arith}
use Rattle.std.specs.Prelude.{◌==◌, ◌||◌, ◌&&◌, is_some}
use Rattle.std.specs.List.{list_any, list_all, flat_map}
use Rattle.std.proofs.lemmas.Bool.{and_parts, eq-eqb, eqb-true, lt-ltb}
use Rattle.std.proofs.lemmas.List.{length-map}
use Rattle.cluster_model.specs.declared.tick.Tick.{Tick}
use Rattle.cluster_model.specs.declared.ids.Mirror.{Mirror}
use Rattle.cluster_model.specs.declared.ids.MirrorId.{MirrorId}
use Rattle.cluster_model.specs.Journal.{is_mirror}
use Rattle.cluster_model.specs.Mirrors.{has_server}
use Rattle.cluster_model.specs.Phases.{seen_if, seen_at, is_source, is_one_of, but_for, put_if, in_place, can_swap, can_swap_all}
use Rattle.copy_rule.specs.declared.copy_target.CopyTarget.{CopyTarget}
use Rattle.copy_rule.specs.Copies.{is_given_up, swap_of}
use Rattle.mds_activity.specs.Targets.{can_stand, is_made_on, can_come_in, one_if_added, count_added, target_servers, CanAllComeIn}

pub both : (a b : Bool) → a ≡ true → b ≡ true → (a && b) ≡ true
both true b h k = k
both false b h k = absurd cc

-- numbers that differ, the other way round
pub other_way : (a b : ℕ) → eqb a b ≡ false → eqb b a ≡ false
other_way a b h = by_test (eqb b a) refl
  where
    by_test : (t : Bool) → eqb b a ≡ t → eqb b a ≡ false
    by_test true e = let same : eqb a b ≡ true = eq-eqb a b (sym (eqb-true b a e)) in let no : true ≡ false = sym same ∙ h in absurd cc
    by_test false e = e

pub not_true : (a : Bool) → not a ≡ true → a ≡ false
not_true true e = absurd cc
not_true false e = refl

-- ---- live lists that are alike at the servers that pass a test

pub record Alike (p : ℕ → Bool) (live live' : List Mirror) : Type 0 where
  pub servers : (s : ℕ) → p s ≡ true → has_server live' s ≡ has_server live s
  pub source : (id : MirrorId) → p id.server ≡ true → is_source id live' ≡ is_source id live
  pub one_of : (id : MirrorId) → p id.server ≡ true → is_one_of id live' ≡ is_one_of id live

place_alike : (p : ℕ → Bool) (live live' : List Mirror) → Alike p live live' → (server : ℕ) (replaced : Option MirrorId) → p server ≡ true → can_stand live server replaced ≡ true → can_stand live' server replaced ≡ true
place_alike p live live' alike server None h k = ap not (alike.servers server h) ∙ k
place_alike p live live' alike server (Some old) h k =
    let parts = and_parts _ _ k in
    let more = and_parts _ _ parts.1 in
    let at : p old.server ≡ true = ap p (sym (eqb-true server old.server parts.0)) ∙ h in
    both _ _ parts.0 (both _ _ (ap not (alike.source old at) ∙ more.0) (alike.one_of old at ∙ more.1))

-- a target that was thrown away, or whose server passes
abbrev pub passes_off : (ℕ → Bool) → CopyTarget → Bool
passes_off p t = is_given_up t.stage || p t.server

fits_alike : (p : ℕ → Bool) (live live' : List Mirror) → Alike p live live' → (t : CopyTarget) → passes_off p t ≡ true → can_come_in live t ≡ true → can_come_in live' t ≡ true
fits_alike p live live' alike t off fit = by_test (is_given_up t.stage) off fit
  where
    by_test : (b : Bool) → (b || p t.server) ≡ true → cond b (not (is_some t.made)) (is_made_on t.server t.made && can_stand live t.server t.replaced) ≡ true → cond b (not (is_some t.made)) (is_made_on t.server t.made && can_stand live' t.server t.replaced) ≡ true
    by_test true h k = k
    by_test false h k = let parts = and_parts _ _ k in both _ _ parts.0 (place_alike p live live' alike t.server t.replaced h parts.1)

all_fit_alike : (p : ℕ → Bool) (live live' : List Mirror) → Alike p live live' → (targets : List CopyTarget) → list_all (passes_off p) targets ≡ true → list_all (can_come_in live) targets ≡ true → list_all (can_come_in live') targets ≡ true
all_fit_alike p live live' alike [] off fit = refl
all_fit_alike p live live' alike (t ∷ targets) off fit =
    let offs = and_parts _ _ off in
    let fits = and_parts _ _ fit in
    both _ _ (fits_alike p live live' alike t offs.0 fits.0) (all_fit_alike p live live' alike targets offs.1 fits.1)

pub still_fit : (p : ℕ → Bool) (live live' : List Mirror) (targets : List CopyTarget) → Alike p live live' → list_all (passes_off p) targets ≡ true → length live' + count_added targets ≤ 4 → CanAllComeIn live targets → CanAllComeIn live' targets
still_fit p live live' targets alike off room h = record { apart = h.apart; fit = all_fit_alike p live live' alike targets off h.fit; room = room }

-- ---- a list that is mapped, where a mirror that changes does so on its server

mapped : (p : ℕ → Bool) (f : Mirror → Mirror) (live : List Mirror) → ((m : Mirror) → (f m).id.server ≡ m.id.server) → ((m : Mirror) (id : MirrorId) → p id.server ≡ true → is_mirror (f m).id id ≡ is_mirror m.id id) → Alike p live (map f live)
mapped p f live on same = record { servers = λ s h. servers live s; source = λ id h. source live id h; one_of = λ id h. one_of live id h }
  where
    servers : (live : List Mirror) (s : ℕ) → has_server (map f live) s ≡ has_server live s
    servers [] s = refl
    servers (m ∷ live) s = ap (λ k. eqb k s || has_server (map f live) s) (on m) ∙ ap (λ b. eqb m.id.server s || b) (servers live s)

    source : (live : List Mirror) (id : MirrorId) → p id.server ≡ true → is_source id (map f live) ≡ is_source id live
    source [] id h = refl
    source (m ∷ live) id h = same m id h

    one_of : (live : List Mirror) (id : MirrorId) → p id.server ≡ true → is_one_of id (map f live) ≡ is_one_of id live
    one_of [] id h = refl
    one_of (m ∷ live) id h = ap (λ b. b || is_one_of id (map f live)) (same m id h) ∙ ap (λ b. is_mirror m.id id || b) (one_of live id h)

-- another ctime was seen
abbrev any_server : ℕ → Bool
any_server s = true

seen_id : (b : Bool) (tick : Tick) (m : Mirror) → ◌≡◌ {A = MirrorId} (cond {A = Mirror} b (record { id = m.id; seen = tick }) m).id m.id
seen_id true tick m = refl
seen_id false tick m = refl

seen_alike : (id : MirrorId) (tick : Tick) (live : List Mirror) → Alike any_server live (seen_at id tick live)
seen_alike id tick live =
    let same : (m : Mirror) → (seen_if id tick m).id ≡ m.id = λ m. seen_id (is_mirror m.id id) tick m in
    mapped any_server (seen_if id tick) live (λ m. ap (λ (i : MirrorId). i.server) (same m)) (λ m other h. ap (λ (i : MirrorId). is_mirror i other) (same m))

all_pass : (targets : List CopyTarget) → list_all (passes_off any_server) targets ≡ true
all_pass [] = refl
all_pass (t ∷ targets) = both _ _ (by_test (is_given_up t.stage)) (all_pass targets)
  where
    by_test : (b : Bool) → (b || true) ≡ true
    by_test true = refl
    by_test false = refl

pub seen_fit : (id : MirrorId) (tick : Tick) (live : List Mirror) (targets : List CopyTarget) → CanAllComeIn live targets → CanAllComeIn (seen_at id tick live) targets
seen_fit id tick live targets h =
    let count : length (seen_at id tick live) ≡ length live = length-map live (seen_if id tick) in
    let room = h.room in
    still_fit any_server live (seen_at id tick live) targets (seen_alike id tick live) (all_pass targets) (omega (arith, count, room)) h

-- ---- servers but for one

abbrev pub but_server : ℕ → ℕ → Bool
but_server n s = not (eqb s n)

-- a mirror on that server is none of another
off_server : (n s k : ℕ) → k ≡ n → but_server n s ≡ true → eqb k s ≡ false
off_server n s k on h = ap (λ (j : ℕ). eqb j s) on ∙ other_way s n (not_true _ h)

off_mirror : (n : ℕ) (m : MirrorId) (id : MirrorId) → m.server ≡ n → but_server n id.server ≡ true → is_mirror m id ≡ false
off_mirror n m id on h = ap (λ b. b && eqb m.fileid id.fileid) (off_server n id.server m.server on h)

-- one mirror comes into the place of another on its server
put_on : (old : MirrorId) (new m : Mirror) (b : Bool) → is_mirror m.id old ≡ b → new.id.server ≡ old.server → (cond b new m).id.server ≡ m.id.server
put_on old new m true is on = on ∙ sym (eqb-true m.id.server old.server (and_parts _ _ is).0)
put_on old new m false is on = refl

put_same : (old : MirrorId) (new m : Mirror) (id : MirrorId) (b : Bool) → is_mirror m.id old ≡ b → new.id.server ≡ old.server → but_server new.id.server id.server ≡ true → is_mirror (cond b new m).id id ≡ is_mirror m.id id
put_same old new m id true is on h = off_mirror new.id.server new.id id refl h ∙ sym (off_mirror new.id.server m.id id (eqb-true m.id.server old.server (and_parts _ _ is).0 ∙ sym on) h)
put_same old new m id false is on h = refl

put_alike : (old : MirrorId) (new : Mirror) (live : List Mirror) → new.id.server ≡ old.server → Alike (but_server new.id.server) live (map (put_if old new) live)
put_alike old new live on = mapped (but_server new.id.server) (put_if old new) live (λ m. put_on old new m (is_mirror m.id old) refl on) (λ m id h. put_same old new m id (is_mirror m.id old) refl on h)

-- one joins the others
end_alike : (new : Mirror) (live : List Mirror) → Alike (but_server new.id.server) live (live ++ new ∷ [])
end_alike new live = record { servers = servers live; source = source live; one_of = one_of live }
  where
    none : (b : Bool) → b ≡ false → (b || false) ≡ false
    none true e = absurd cc
    none false e = refl

    servers : (live : List Mirror) (s : ℕ) → but_server new.id.server s ≡ true → has_server (live ++ new ∷ []) s ≡ has_server live s
    servers [] s h = none _ (off_server new.id.server s new.id.server refl h)
    servers (m ∷ live) s h = ap (λ b. eqb m.id.server s || b) (servers live s h)

    source : (live : List Mirror) (id : MirrorId) → but_server new.id.server id.server ≡ true → is_source id (live ++ new ∷ []) ≡ is_source id live
    source [] id h = off_mirror new.id.server new.id id refl h
    source (m ∷ live) id h = refl

    one_of : (live : List Mirror) (id : MirrorId) → but_server new.id.server id.server ≡ true → is_one_of id (live ++ new ∷ []) ≡ is_one_of id live
    one_of [] id h = none _ (off_mirror new.id.server new.id id refl h)
    one_of (m ∷ live) id h = ap (λ b. is_mirror m.id id || b) (one_of live id h)

-- one leaves that is not the first
left_servers : (gone : MirrorId) (s : ℕ) → but_server gone.server s ≡ true → (live : List Mirror) → has_server (but_for gone live) s ≡ has_server live s
left_servers gone s h [] = refl
left_servers gone s h (m ∷ live) = by_test (is_mirror m.id gone) refl ∙ ap (λ b. eqb m.id.server s || b) (left_servers gone s h live)
  where
    by_test : (b : Bool) → is_mirror m.id gone ≡ b → has_server (cond (not b) (m ∷ but_for gone live) (but_for gone live)) s ≡ (eqb m.id.server s || has_server (but_for gone live) s)
    by_test true is = ap (λ b. b || has_server (but_for gone live) s) (sym (off_server gone.server s m.id.server (eqb-true m.id.server gone.server (and_parts _ _ is).0) h))
    by_test false is = refl

left_one_of : (gone id : MirrorId) → but_server gone.server id.server ≡ true → (live : List Mirror) → is_one_of id (but_for gone live) ≡ is_one_of id live
left_one_of gone id h [] = refl
left_one_of gone id h (m ∷ live) = by_test (is_mirror m.id gone) refl ∙ ap (λ b. is_mirror m.id id || b) (left_one_of gone id h live)
  where
    by_test : (b : Bool) → is_mirror m.id gone ≡ b → is_one_of id (cond (not b) (m ∷ but_for gone live) (but_for gone live)) ≡ (is_mirror m.id id || is_one_of id (but_for gone live))
    by_test true is = ap (λ b. b || is_one_of id (but_for gone live)) (sym (off_mirror gone.server m.id id (eqb-true m.id.server gone.server (and_parts _ _ is).0) h))
    by_test false is = refl

left_source : (gone : MirrorId) (live : List Mirror) → is_source gone live ≡ false → (id : MirrorId) → is_source id (but_for gone live) ≡ is_source id live
left_source gone [] not_first id = refl
left_source gone (m ∷ live) not_first id = ap (λ b. is_source id (cond (not b) (m ∷ but_for gone live) (but_for gone live))) not_first

pub left_alike : (gone : MirrorId) (live : List Mirror) → is_source gone live ≡ false → Alike (but_server gone.server) live (but_for gone live)
left_alike gone live not_first = record { servers = λ s h. left_servers gone s h live; source = λ id h. left_source gone live not_first id; one_of = λ id h. left_one_of gone id h live }

pub left_shorter : (gone : MirrorId) (live : List Mirror) → length (but_for gone live) ≤ length live
left_shorter gone [] = omega arith
left_shorter gone (m ∷ live) = by_test (is_mirror m.id gone) (left_shorter gone live)
  where
    by_test : (b : Bool) → length (but_for gone live) ≤ length live → length (cond (not b) (m ∷ but_for gone live) (but_for gone live)) ≤ length (m ∷ live)
    by_test true h = omega (arith, h)
    by_test false h = omega (arith, h)

-- ---- all targets that are left come in, one after the other

-- targets behind one are on other servers
pub off_behind : (n : ℕ) (targets : List CopyTarget) → list_any (λ k. k == n) (target_servers targets) ≡ false → list_all (passes_off (but_server n)) targets ≡ true
off_behind n [] none = refl
off_behind n (t ∷ targets) none = both _ _ (by_test (is_given_up t.stage) (eqb t.server n) none) (off_behind n targets (rest (eqb t.server n) none))
  where
    by_test : (b e : Bool) → (e || list_any (λ k. k == n) (target_servers targets)) ≡ false → (b || not e) ≡ true
    by_test true e h = refl
    by_test false true h = absurd cc
    by_test false false h = refl

    rest : (e : Bool) → (e || list_any (λ k. k == n) (target_servers targets)) ≡ false → list_any (λ k. k == n) (target_servers targets) ≡ false
    rest true h = absurd cc
    rest false h = h

tail_fits : (live : List Mirror) (t : CopyTarget) (targets : List CopyTarget) → CanAllComeIn live (t ∷ targets) → CanAllComeIn live targets
tail_fits live t targets h =
    let room = h.room in
    record { apart = (and_parts _ _ h.apart).1; fit = (and_parts _ _ h.fit).1; room = omega (arith, room) }

left_parts : (b x y : Bool) → cond b (not true) (x && y) ≡ true → (x ≡ true) × (y ≡ true)
left_parts true x y h = absurd cc
left_parts false x y h = and_parts x y h

-- the first that is left comes in, where the others can behind it
module _ (t : CopyTarget) (targets : List CopyTarget) (live : List Mirror) (h : CanAllComeIn live (t ∷ targets)) (behind : (live' : List Mirror) → CanAllComeIn live' targets → can_swap_all (flat_map (λ x. swap_of x x.made) targets) live' ≡ true) where
  longer : (live : List Mirror) (m : Mirror) → length (live ++ m ∷ []) ≡ length live + 1
  longer [] m = refl
  longer (x ∷ live) m = let so_far = longer live m in omega (arith, so_far)

  off_here : (m : Mirror) → m.id.server ≡ t.server → list_all (passes_off (but_server m.id.server)) targets ≡ true
  off_here m on = off_behind m.id.server targets (ap (λ (n : ℕ). list_any (λ k. k == n) (target_servers targets)) on ∙ not_true _ (and_parts _ _ h.apart).0)

  by_place : (m : Mirror) (replaced : Option MirrorId) → m.id.server ≡ t.server → can_stand live t.server replaced ≡ true → length live + (one_if_added replaced + count_added targets) ≤ 4
      → (can_swap (record { new = m; old = t.replaced }) replaced live && can_swap_all (flat_map (λ x. swap_of x x.made) targets) (in_place (record { new = m; old = t.replaced }) replaced live)) ≡ true
  by_place m None on place room =
      let few : length live < 4 = omega (arith, room) in
      let free : not (has_server live m.id.server) ≡ true = ap (λ (k : ℕ). not (has_server live k)) on ∙ place in
      let count : length (live ++ m ∷ []) ≡ length live + 1 = longer live m in
      both _ _ (both _ _ (lt-ltb (length live) 4 few) free) (behind (live ++ m ∷ []) (still_fit (but_server m.id.server) live (live ++ m ∷ []) targets (end_alike m live) (off_here m on) (omega (arith, room, count)) (tail_fits live t targets h)))
  by_place m (Some old) on place room =
      let parts = and_parts _ _ place in
      let same : m.id.server ≡ old.server = on ∙ eqb-true t.server old.server parts.0 in
      let count : length (map (put_if old m) live) ≡ length live = length-map live (put_if old m) in
      both _ _ (both _ _ (eq-eqb m.id.server old.server same) parts.1) (behind (map (put_if old m) live) (still_fit (but_server m.id.server) live (map (put_if old m) live) targets (put_alike old m live same) (off_here m on) (omega (arith, room, count)) (tail_fits live t targets h)))

  by_made : (made : Option Mirror) → cond (is_given_up t.stage) (not (is_some made)) (is_made_on t.server made && can_stand live t.server t.replaced) ≡ true → can_swap_all (swap_of t made ++ flat_map (λ x. swap_of x x.made) targets) live ≡ true
  by_made None fit = behind live (tail_fits live t targets h)
  by_made (Some m) fit =
      let parts = left_parts (is_given_up t.stage) _ _ fit in
      by_place m t.replaced (eqb-true m.id.server t.server parts.0) parts.1 h.room

pub all_swap : (targets : List CopyTarget) (live : List Mirror) → CanAllComeIn live targets → can_swap_all (flat_map (λ t. swap_of t t.made) targets) live ≡ true
all_swap [] live h = refl
all_swap (t ∷ targets) live h = by_made t targets live h (λ live' k. all_swap targets live' k) t.made (and_parts _ _ h.fit).0
