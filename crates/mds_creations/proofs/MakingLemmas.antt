-- What holds of the creations of a new file behind each step.
use Rattle.std.proofs.Common.{◌≡◌, ℕ, zero, suc, ◌<◌, ◌≤◌, ◌+◌, ◌⊎◌, inl, inr, Bool, true, false, not, eqb, cond, nat_lt, List, [], ◌∷◌, ◌++◌, length, map, filter, take, set, get_or, Option, Some, None, refl, sym, ap, subst, ◌∙◌, arith}
use Rattle.std.specs.Prelude.{slice_get, ◌==◌, ◌||◌, ◌&&◌}
use Rattle.std.specs.List.{list_any, list_all, flat_map}
use Rattle.std.specs.Option.{option_to_list}
use Rattle.std.proofs.lemmas.Bool.{cond_both, and_parts, ltb-true, eq-eqb, eqb-true, le-leb}
use Rattle.std.proofs.lemmas.List.{length-set, length-map, take_all}
use Rattle.std.proofs.lemmas.Option.{same_Some, slice_get-get_or}
use Rattle.cluster_model.specs.declared.ids.Mirror.{Mirror}
use Rattle.cluster_model.specs.declared.call_stage.CallStage.{CallStage}
use Rattle.cluster_model.specs.declared.call_stage.CallStage.TheVariants.{Waits, Out, KeptOut, KeptBack, Done, GivenUp}
use Rattle.cluster_model.specs.declared.limits.TheConstants.{MAX_TIMEOUTS}
use Rattle.cluster_model.specs.DsCalls.{DsReplyValue, Created, Set, Written, Committed, Bytes, NotSync, Failed}
use Rattle.cluster_model.specs.Fences.{waits, is_out, is_over, stage_at_tick}
use Rattle.cluster_model.specs.Mirrors.{has_server, are_on_different_servers, are_mirrors}
use Rattle.copy_rule.specs.Copies.{is_given_up}
use Rattle.file_rule.specs.declared.creation.Creation.{Creation}
use Rattle.file_rule.specs.MdsFiles.{in_stage}
use Rattle.file_rule.specs.FilePhases.{creations_at}
use Rattle.mds_creations.specs.Makings.{are_different, is_made_so, is_sound, stands, servers_of, AreCreations, failed_with, answered_with, late_with}

both : (a b : Bool) → a ≡ true → b ≡ true → (a && b) ≡ true
both true b h k = k
both false b h k = absurd cc

-- ---- a start

servers_at : (name : ℕ) (servers : List ℕ) → servers_of (creations_at name servers) ≡ servers
servers_at name [] = refl
servers_at name (n ∷ servers) = ap (λ (rest : List ℕ). n ∷ rest) (servers_at name servers)

sound_at : (name : ℕ) (servers : List ℕ) → list_all is_sound (creations_at name servers) ≡ true
sound_at name [] = refl
sound_at name (n ∷ servers) = sound_at name servers

some_at : (name : ℕ) (servers : List ℕ) → 1 ≤ length servers → list_any stands (creations_at name servers) ≡ true
some_at name [] h = absurd (omega (arith, h))
some_at name (n ∷ servers) h = refl

pub started : (items : List Creation) (name : ℕ) (servers : List ℕ) (i : ℕ) → items ≡ creations_at name (take i servers) → length servers ≤ i → 1 ≤ length servers → length servers ≤ 4 → are_different servers ≡ true → AreCreations items
started items name servers i is whole some few apart =
    let same : items ≡ creations_at name servers = is ∙ ap (creations_at name) (take_all i servers whole) in
    let count : length items ≡ length servers = ap length same ∙ length-map servers _ in
    record {
      few = omega (arith, few, count);
      apart = ap (λ l. are_different (servers_of l)) same ∙ ap are_different (servers_at name servers) ∙ apart;
      sound = ap (list_all is_sound) same ∙ sound_at name servers;
      some = ap (list_any stands) same ∙ some_at name servers some;
    }

-- ---- one changes

servers_set : (items : List Creation) (place : ℕ) (c new : Creation) → slice_get items place ≡ Some c → new.server ≡ c.server → servers_of (set items place new) ≡ servers_of items
servers_set [] place c new e on = absurd cc
servers_set (x ∷ items) zero c new e on = ap (λ (k : ℕ). k ∷ servers_of items) (on ∙ ap (λ (y : Creation). y.server) (sym (same_Some x c e)))
servers_set (x ∷ items) (suc place) c new e on = ap (λ (rest : List ℕ). x.server ∷ rest) (servers_set items place c new e on)

sound_set : (items : List Creation) (place : ℕ) (new : Creation) → is_sound new ≡ true → list_all is_sound items ≡ true → list_all is_sound (set items place new) ≡ true
sound_set [] place new h all = refl
sound_set (x ∷ items) zero new h all = both _ _ h (and_parts _ _ all).1
sound_set (x ∷ items) (suc place) new h all = let parts = and_parts _ _ all in both _ _ parts.0 (sound_set items place new h parts.1)

pub sound_one : (items : List Creation) (place : ℕ) (c : Creation) → slice_get items place ≡ Some c → list_all is_sound items ≡ true → is_sound c ≡ true
sound_one [] place c e all = absurd cc
sound_one (x ∷ items) zero c e all = subst (λ (y : Creation). is_sound y ≡ true) (same_Some x c e) (and_parts _ _ all).0
sound_one (x ∷ items) (suc place) c e all = sound_one items place c e (and_parts _ _ all).1

or_true : (a b : Bool) → b ≡ true → (a || b) ≡ true
or_true true b h = refl
or_true false b h = h

or_first : (a b : Bool) → a ≡ true → (a || b) ≡ true
or_first true b h = refl
or_first false b h = absurd cc

stands_set : (items : List Creation) (place : ℕ) (c new : Creation) → slice_get items place ≡ Some c → stands new ≡ true → list_any stands (set items place new) ≡ true
stands_set [] place c new e h = absurd cc
stands_set (x ∷ items) zero c new e h = or_first _ _ h
stands_set (x ∷ items) (suc place) c new e h = or_true _ _ (stands_set items place c new e h)

one_stands : (items : List Creation) → 0 < length (filter stands items) → list_any stands items ≡ true
one_stands [] h = absurd (omega (arith, h))
one_stands (x ∷ items) h = by_test (stands x) refl h (one_stands items)
  where
    by_test : (b : Bool) → stands x ≡ b → 0 < length (cond b (x ∷ filter stands items) (filter stands items)) → (0 < length (filter stands items) → list_any stands items ≡ true) → (stands x || list_any stands items) ≡ true
    by_test true e k rest = or_first _ _ e
    by_test false e k rest = or_true _ _ (rest k)

other_stands : (items : List Creation) (place : ℕ) (new : Creation) → 1 < length (filter stands items) → list_any stands (set items place new) ≡ true
other_stands [] place new h = absurd (omega (arith, h))
other_stands (x ∷ items) zero new h = by_test (stands x) h
  where
    by_test : (b : Bool) → 1 < length (cond b (x ∷ filter stands items) (filter stands items)) → (stands new || list_any stands items) ≡ true
    by_test true k = or_true _ _ (one_stands items (omega (arith, k)))
    by_test false k = or_true _ _ (one_stands items (omega (arith, k)))
other_stands (x ∷ items) (suc place) new h = by_test (stands x) refl h (other_stands items place new)
  where
    by_test : (b : Bool) → stands x ≡ b → 1 < length (cond b (x ∷ filter stands items) (filter stands items)) → (1 < length (filter stands items) → list_any stands (set items place new) ≡ true) → (stands x || list_any stands (set items place new)) ≡ true
    by_test true e k rest = or_first _ _ e
    by_test false e k rest = or_true _ _ (rest k)

-- what a step keeps of one
record IsNext (items : List Creation) (c new : Creation) : Type 0 where
  on : new.server ≡ c.server
  sound : is_sound new ≡ true
  left : (stands new ≡ true) ⊎ (1 < length (filter stands items))

put_ok : (items : List Creation) (place : ℕ) (c new : Creation) → slice_get items place ≡ Some c → AreCreations items → IsNext items c new → AreCreations (set items place new)
put_ok items place c new e h k =
    let count : length (set items place new) ≡ length items = length-set items place new in
    let few = h.few in
    record {
      few = omega (arith, few, count);
      apart = ap are_different (servers_set items place c new e k.on) ∙ h.apart;
      sound = sound_set items place new k.sound h.sound;
      some = by_left k.left;
    }
  where
    by_left : (stands new ≡ true) ⊎ (1 < length (filter stands items)) → list_any stands (set items place new) ≡ true
    by_left (inl s) = stands_set items place c new e s
    by_left (inr s) = other_stands items place new s

-- where a CREATE waits or is out nothing was made
none_out : (xid server : ℕ) (stage : CallStage) (made : Option Mirror) → is_out xid stage ≡ true → is_made_so server stage made ≡ true → made ≡ None
none_out xid server Waits made out ok = absurd cc
none_out xid server (Out x timeouts) None out ok = refl
none_out xid server (Out x timeouts) (Some m) out ok = absurd cc
none_out xid server (KeptOut x) None out ok = refl
none_out xid server (KeptOut x) (Some m) out ok = absurd cc
none_out xid server KeptBack made out ok = absurd cc
none_out xid server Done made out ok = absurd cc
none_out xid server GivenUp made out ok = absurd cc

none_waiting : (server : ℕ) (stage : CallStage) (made : Option Mirror) → waits stage ≡ true → is_made_so server stage made ≡ true → made ≡ None
none_waiting server Waits None w ok = refl
none_waiting server Waits (Some m) w ok = absurd cc
none_waiting server (Out x timeouts) made w ok = absurd cc
none_waiting server (KeptOut x) made w ok = absurd cc
none_waiting server KeptBack made w ok = absurd cc
none_waiting server Done made w ok = absurd cc
none_waiting server GivenUp made w ok = absurd cc

-- another stage of one that is not made
unmade : (server : ℕ) (stage : CallStage) (made : Option Mirror) → made ≡ None → is_made_so server stage None ≡ true → is_made_so server stage made ≡ true
unmade server stage made none ok = subst (λ (o : Option Mirror). is_made_so server stage o ≡ true) (sym none) ok

failed_next : (items : List Creation) (c : Creation) (kept : CallStage) → c.made ≡ None → is_made_so c.server kept None ≡ true → not (is_given_up kept) ≡ true → IsNext items c (in_stage c (failed_with (nat_lt 1 (length (filter stands items))) kept))
failed_next items c kept none ok standing =
    cond_both (nat_lt 1 (length (filter stands items))) GivenUp kept (λ s. IsNext items c (in_stage c s))
    (λ e. record { on = refl; sound = unmade c.server GivenUp c.made none refl; left = inr (ltb-true 1 (length (filter stands items)) e) })
    (λ e. record { on = refl; sound = unmade c.server kept c.made none ok; left = inl standing })

answer_next : (items : List Creation) (c : Creation) (reply : DsReplyValue) → c.made ≡ None → IsNext items c (answered_with (nat_lt 1 (length (filter stands items))) c reply)
answer_next items c (Created fileid shown) none = record { on = refl; sound = eq-eqb c.server c.server refl; left = inl refl }
answer_next items c (Set shown) none = failed_next items c KeptBack none refl refl
answer_next items c (Written shown verifier) none = failed_next items c KeptBack none refl refl
answer_next items c (Committed shown verifier) none = failed_next items c KeptBack none refl refl
answer_next items c (Bytes shown eof bytes) none = failed_next items c KeptBack none refl refl
answer_next items c (NotSync shown) none = failed_next items c KeptBack none refl refl
answer_next items c (Failed status shown) none = failed_next items c KeptBack none refl refl

stage_next : (items : List Creation) (c : Creation) (stage : CallStage) → c.made ≡ None → is_made_so c.server stage None ≡ true → not (is_given_up stage) ≡ true → IsNext items c (in_stage c stage)
stage_next items c stage none ok standing = record { on = refl; sound = unmade c.server stage c.made none ok; left = inl standing }

late_next : (items : List Creation) (server name xid : ℕ) (stage : CallStage) (made : Option Mirror) → is_out xid stage ≡ true → made ≡ None
    → IsNext items (record { server = server; name = name; stage = stage; made = made }) (late_with (nat_lt 1 (length (filter stands items))) (record { server = server; name = name; stage = stage; made = made }))
late_next items server name xid Waits made out none = absurd cc
late_next items server name xid (Out x timeouts) made out none =
    let c : Creation = record { server = server; name = name; stage = Out x timeouts; made = made } in
    cond_both (nat_lt (timeouts + 1) MAX_TIMEOUTS) (Out x (timeouts + 1)) (failed_with (nat_lt 1 (length (filter stands items))) (KeptOut x)) (λ s. IsNext items c (in_stage c s))
    (λ e. stage_next items c (Out x (timeouts + 1)) none refl refl)
    (λ e. failed_next items c (KeptOut x) none refl refl)
late_next items server name xid (KeptOut x) made out none = stage_next items (record { server = server; name = name; stage = KeptOut x; made = made }) (KeptOut x) none refl refl
late_next items server name xid KeptBack made out none = absurd cc
late_next items server name xid Done made out none = absurd cc
late_next items server name xid GivenUp made out none = absurd cc

module _ (items : List Creation) (place : ℕ) (d : Creation) (within : place < length items) (h : AreCreations items) where
  here : slice_get items place ≡ Some (get_or items place d)
  here = slice_get-get_or items place d within

  ok : is_sound (get_or items place d) ≡ true
  ok = sound_one items place (get_or items place d) here h.sound

  pub answer_ok : (xid : ℕ) (reply : DsReplyValue) → is_out xid (get_or items place d).stage ≡ true → AreCreations (set items place (answered_with (nat_lt 1 (length (filter stands items))) (get_or items place d) reply))
  answer_ok xid reply out = put_ok items place (get_or items place d) _ here h (answer_next items (get_or items place d) reply (none_out xid (get_or items place d).server (get_or items place d).stage (get_or items place d).made out ok))

  pub late_ok : (xid : ℕ) → is_out xid (get_or items place d).stage ≡ true → AreCreations (set items place (late_with (nat_lt 1 (length (filter stands items))) (get_or items place d)))
  late_ok xid out =
      let c : Creation = get_or items place d in
      put_ok items place c _ here h (late_next items c.server c.name xid c.stage c.made out (none_out xid c.server c.stage c.made out ok))

  pub sent_ok : (xid : ℕ) → waits (get_or items place d).stage ≡ true → AreCreations (set items place (in_stage (get_or items place d) (Out xid 0)))
  sent_ok xid w =
      let c : Creation = get_or items place d in
      put_ok items place c _ here h (stage_next items c (Out xid 0) (none_waiting c.server c.stage c.made w ok) refl refl)

-- ---- a tick

abbrev ticked : Creation → Creation
ticked c = in_stage c (stage_at_tick c.stage)

tick_servers : (items : List Creation) → servers_of (map ticked items) ≡ servers_of items
tick_servers [] = refl
tick_servers (c ∷ items) = ap (λ (rest : List ℕ). c.server ∷ rest) (tick_servers items)

tick_one : (server : ℕ) (stage : CallStage) (made : Option Mirror) → is_made_so server (stage_at_tick stage) made ≡ is_made_so server stage made
tick_one server Waits made = refl
tick_one server (Out x timeouts) made = refl
tick_one server (KeptOut x) None = refl
tick_one server (KeptOut x) (Some m) = refl
tick_one server KeptBack None = refl
tick_one server KeptBack (Some m) = refl
tick_one server Done made = refl
tick_one server GivenUp made = refl

tick_stands : (stage : CallStage) → is_given_up (stage_at_tick stage) ≡ is_given_up stage
tick_stands Waits = refl
tick_stands (Out x timeouts) = refl
tick_stands (KeptOut x) = refl
tick_stands KeptBack = refl
tick_stands Done = refl
tick_stands GivenUp = refl

tick_sound : (items : List Creation) → list_all is_sound (map ticked items) ≡ list_all is_sound items
tick_sound [] = refl
tick_sound (c ∷ items) = ap (λ b. b && list_all is_sound (map ticked items)) (tick_one c.server c.stage c.made) ∙ ap (λ b. is_sound c && b) (tick_sound items)

tick_some : (items : List Creation) → list_any stands (map ticked items) ≡ list_any stands items
tick_some [] = refl
tick_some (c ∷ items) = ap (λ b. not b || list_any stands (map ticked items)) (tick_stands c.stage) ∙ ap (λ b. stands c || b) (tick_some items)

pub tick_ok : (items : List Creation) → AreCreations items → AreCreations (map ticked items)
tick_ok items h =
    let count : length (map ticked items) ≡ length items = length-map items ticked in
    let few = h.few in
    record {
      few = omega (arith, few, count);
      apart = ap are_different (tick_servers items) ∙ h.apart;
      sound = tick_sound items ∙ h.sound;
      some = tick_some items ∙ h.some;
    }

-- ---- all are over

abbrev made_in : List Creation → List Mirror
made_in items = flat_map (λ c. option_to_list c.made) items

module _ where
  by_stage : (server : ℕ) (stage : CallStage) (made : Option Mirror) → is_over stage ≡ true → is_made_so server stage made ≡ true → ((not (is_given_up stage) ≡ false) × (made ≡ None)) ⊎ ((m : Mirror) × (made ≡ Some m) × (m.id.server ≡ server))
  by_stage server Waits made over ok = absurd cc
  by_stage server (Out x timeouts) made over ok = absurd cc
  by_stage server (KeptOut x) made over ok = absurd cc
  by_stage server KeptBack made over ok = absurd cc
  by_stage server Done None over ok = absurd cc
  by_stage server Done (Some m) over ok = inr (m, refl, eqb-true m.id.server server ok)
  by_stage server GivenUp None over ok = inl (refl, refl)
  by_stage server GivenUp (Some m) over ok = absurd cc

  neither : (a b : Bool) → (a || b) ≡ false → (a ≡ false) × (b ≡ false)
  neither true b e = absurd cc
  neither false b e = (refl, e)

  not_true : (a : Bool) → not a ≡ true → a ≡ false
  not_true true e = absurd cc
  not_true false e = refl

  no_server : (items : List Creation) (n : ℕ) → list_all (λ c. is_over c.stage) items ≡ true → list_all is_sound items ≡ true → list_any (λ k. k == n) (servers_of items) ≡ false → has_server (made_in items) n ≡ false
  no_server [] n over sound none = refl
  no_server (c ∷ items) n over sound none =
      let overs = and_parts _ _ over in
      let sounds = and_parts _ _ sound in
      let nones = neither _ _ none in
      by_made (by_stage c.server c.stage c.made overs.0 sounds.0) nones.0 (no_server items n overs.1 sounds.1 nones.1)
    where
      by_made : ((not (is_given_up c.stage) ≡ false) × (c.made ≡ None)) ⊎ ((m : Mirror) × (c.made ≡ Some m) × (m.id.server ≡ c.server)) → eqb c.server n ≡ false → has_server (made_in items) n ≡ false → has_server (option_to_list c.made ++ made_in items) n ≡ false
      by_made (inl s) other rest = ap (λ o. has_server (option_to_list o ++ made_in items) n) s.1 ∙ rest
      by_made (inr (m, is, on)) other rest = ap (λ o. has_server (option_to_list o ++ made_in items) n) is ∙ ap (λ k. eqb k n || has_server (made_in items) n) on ∙ ap (λ b. b || has_server (made_in items) n) other ∙ rest

  apart_made : (items : List Creation) → list_all (λ c. is_over c.stage) items ≡ true → list_all is_sound items ≡ true → are_different (servers_of items) ≡ true → are_on_different_servers (made_in items) ≡ true
  apart_made [] over sound apart = refl
  apart_made (c ∷ items) over sound apart =
      let overs = and_parts _ _ over in
      let sounds = and_parts _ _ sound in
      let aparts = and_parts _ _ apart in
      by_made (by_stage c.server c.stage c.made overs.0 sounds.0) (no_server items c.server overs.1 sounds.1 (not_true _ aparts.0)) (apart_made items overs.1 sounds.1 aparts.1)
    where
      by_made : ((not (is_given_up c.stage) ≡ false) × (c.made ≡ None)) ⊎ ((m : Mirror) × (c.made ≡ Some m) × (m.id.server ≡ c.server)) → has_server (made_in items) c.server ≡ false → are_on_different_servers (made_in items) ≡ true → are_on_different_servers (option_to_list c.made ++ made_in items) ≡ true
      by_made (inl s) none rest = ap (λ o. are_on_different_servers (option_to_list o ++ made_in items)) s.1 ∙ rest
      by_made (inr (m, is, on)) none rest = ap (λ o. are_on_different_servers (option_to_list o ++ made_in items)) is ∙ both _ _ (ap (λ k. not (has_server (made_in items) k)) on ∙ ap not none) rest

  few_made : (items : List Creation) → length (made_in items) ≤ length items
  few_made [] = omega arith
  few_made (c ∷ items) = by_made c.made (few_made items)
    where
      by_made : (o : Option Mirror) → length (made_in items) ≤ length items → length (option_to_list o ++ made_in items) ≤ length (c ∷ items)
      by_made None rest = omega (arith, rest)
      by_made (Some m) rest = omega (arith, rest)

  some_made : (items : List Creation) → list_all (λ c. is_over c.stage) items ≡ true → list_all is_sound items ≡ true → list_any stands items ≡ true → 1 ≤ length (made_in items)
  some_made [] over sound some = absurd cc
  some_made (c ∷ items) over sound some =
      let overs = and_parts _ _ over in
      let sounds = and_parts _ _ sound in
      by_made (by_stage c.server c.stage c.made overs.0 sounds.0) some (λ k. some_made items overs.1 sounds.1 k)
    where
      by_made : ((not (is_given_up c.stage) ≡ false) × (c.made ≡ None)) ⊎ ((m : Mirror) × (c.made ≡ Some m) × (m.id.server ≡ c.server)) → (stands c || list_any stands items) ≡ true → (list_any stands items ≡ true → 1 ≤ length (made_in items)) → 1 ≤ length (option_to_list c.made ++ made_in items)
      by_made (inl s) k rest = subst (λ (o : Option Mirror). 1 ≤ length (option_to_list o ++ made_in items)) (sym s.1) (rest (ap (λ b. b || list_any stands items) (sym s.0) ∙ k))
      by_made (inr (m, is, on)) k rest = subst (λ (o : Option Mirror). 1 ≤ length (option_to_list o ++ made_in items)) (sym is) (omega arith)

pub record AreMade (items : List Creation) : Type 0 where
  pub mirrors : are_mirrors (made_in items) ≡ true
  pub some : 1 ≤ length (made_in items)
  pub few : length (made_in items) ≤ length items

pub all_over : (items : List Creation) → AreCreations items → list_all (λ c. is_over c.stage) items ≡ true → AreMade items
all_over items h over =
    let few = h.few in
    let less = few_made items in
    record {
      mirrors = both _ _ (le-leb (length (made_in items)) 4 (omega (arith, few, less))) (apart_made items over h.sound h.apart);
      some = some_made items over h.sound h.some;
      few = less;
    }

-- what comes of the mirrors that were made
pub made_some : (items : List Creation) (made live : List Mirror) (result : Option (List Mirror)) → AreCreations items → list_all (λ c. is_over c.stage) items ≡ true
    → made ≡ made_in items → result ≡ cond (are_mirrors made) (Some made) None → result ≡ Some live → live ≡ made_in items
made_some items made live result h over same is some =
    let all : are_mirrors made ≡ true = ap are_mirrors same ∙ (all_over items h over).mirrors in
    sym (same_Some made live (sym (is ∙ ap (λ b. cond b (Some made) None) all) ∙ some)) ∙ same

pub made_none : (items : List Creation) (made : List Mirror) (result : Option (List Mirror)) → AreCreations items → list_all (λ c. is_over c.stage) items ≡ true
    → made ≡ made_in items → result ≡ cond (are_mirrors made) (Some made) None → result ≡ None → ⊥
made_none items made result h over same is none =
    let all : are_mirrors made ≡ true = ap are_mirrors same ∙ (all_over items h over).mirrors in
    let both : ◌≡◌ {A = Option (List Mirror)} (Some made) None = sym (is ∙ ap (λ b. cond b (Some made) None) all) ∙ none in
    absurd cc
