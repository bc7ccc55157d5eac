-- What keeps a server the machine's: its files and numbers, what it sent, and its calls.
use Rattle.std.proofs.Common.{◌≡◌, ◌≤◌, ◌<◌, ℕ, zero, suc, ◌+◌, ◌-◌, Bool, true, false, cond, List, [], ◌∷◌, ◌++◌, length, Some, None, refl, sym, ap, subst, ◌∙◌, inl, inr, ◌⊎◌, arith}
use Rattle.std.specs.Prelude.{not, ◌==◌, map, slice_get, slice_set}
use Rattle.std.specs.Option.{option_map}
use Rattle.std.proofs.lemmas.Bool.{cond_both}
use Rattle.std.proofs.lemmas.List.{map-set}
use Rattle.std.proofs.lemmas.Option.{same_Some, slice_get-map}
use Rattle.cluster_model.specs.declared.ids.NodeId.TheVariants.{Mds}
use Rattle.cluster_model.specs.declared.ids.FileId.{FileId}
use Rattle.cluster_model.specs.Members.{IsOneOf}
use Rattle.rpc_record.specs.CallNumbers.{IsBelow}
use Rattle.device_addr.specs.Universal.{AddressValue}
use Rattle.file_rule.specs.declared.fresh.Fresh.{Fresh}
use Rattle.file_rule.specs.MdsFiles.{MdsFile}
use Rattle.cluster_laws.specs.Machine.{Machine, fresh_of, numbered_at}
use Rattle.machine_moves.specs.MachineMoves.{KeepsPackets}
use Rattle.machine_moves.proofs.Packets.{still_called}
use Rattle.mds_rule.specs.MdsStates.{ServedFile, MdsSend, CallsServer, CallsBack, Replies, Answers, AwaitedCall, MdsValue, with_call, served}
use Rattle.mds_rule.specs.Goes.{xid_after}
use Rattle.mds_laws.specs.MdsRunLaws.{number_sent}
use Rattle.mds_walk.proofs.Lists.{in_more, in_last, in_with_call, AllOf, all_push}
use Rattle.mds_walk.proofs.Served.{place_served}
use Rattle.mds_laws.proofs.Numbers.{below_all, below_push, in_below, after_below, after_fits}
use Rattle.mds_moves.specs.MdsMoves.{IsSentIn, IsAwaitedFor, IsSetUp, IsServedInRange, NumbersOnce, IsServerOf}

-- ---- files

abbrev pub file_in : ServedFile → MdsFile
file_in s = s.file

pub file_there : (mc : Machine) (m : MdsValue) (file : FileId) (s : ServedFile) → map file_in m.files ≡ mc.files → served m file ≡ Some s → numbered_at mc.files file.0 ≡ Some s.file
file_there mc m file s same at =
    let place : ((file.0 == 0) ≡ false) × (slice_get m.files (file.0 - 1) ≡ Some s) = place_served m file s at in
    ap (λ (b : Bool). cond b None (slice_get mc.files (file.0 - 1))) place.0
    ∙ (ap (λ (l : List MdsFile). slice_get l (file.0 - 1)) (sym same) ∙ (slice_get-map file_in m.files (file.0 - 1) ∙ ap (option_map file_in) place.1))

pub set_files : (all : List ServedFile) (files : List MdsFile) (place : ℕ) (t : ServedFile) → map file_in all ≡ files → map file_in (slice_set all place t) ≡ slice_set files place t.file
set_files all files place t same = map-set file_in all place t ∙ ap (λ (l : List MdsFile). slice_set l place t.file) same

pub put_files : (all : List ServedFile) (place : ℕ) (s t : ServedFile) → slice_get all place ≡ Some s → t.file ≡ s.file → map file_in (slice_set all place t) ≡ map file_in all
put_files [] place s t at same = absurd cc
put_files (y ∷ ys) zero s t at same = ap (λ (f : MdsFile). f ∷ map file_in ys) (same ∙ ap file_in (sym (same_Some y s at)))
put_files (y ∷ ys) (suc place) s t at same = ap (λ (l : List MdsFile). y.file ∷ l) (put_files ys place s t at same)

-- ---- what was sent

still_sent : (mc n : Machine) → KeepsPackets mc n → (s : MdsSend) → IsSentIn mc s → IsSentIn n s
still_sent mc n keeps (CallsServer server xid uid call) is = (still_called mc n server xid uid call keeps is.0, is.1)
still_sent mc n keeps (CallsBack xid back file stateid) is = tt
still_sent mc n keeps (Replies node reply) is = tt
still_sent mc n keeps (Answers node bytes) is = tt

all_still : (mc n : Machine) → KeepsPackets mc n → (ss : List MdsSend) → AllOf (IsSentIn mc) ss → AllOf (IsSentIn n) ss
all_still mc n keeps [] all = tt
all_still mc n keeps (s ∷ ss) all = (still_sent mc n keeps s all.0, all_still mc n keeps ss all.1)

in_pushed : {A : Type 0} (x y : A) (xs : List A) → IsOneOf x (xs ++ y ∷ []) → IsOneOf x xs ⊎ (x ≡ y)
in_pushed x y [] (inl is) = inr is
in_pushed x y [] (inr inside) = absurd inside
in_pushed x y (z ∷ zs) (inl is) = inl (inl is)
in_pushed x y (z ∷ zs) (inr inside) = further (in_pushed x y zs inside)
  where
    further : IsOneOf x zs ⊎ (x ≡ y) → IsOneOf x (z ∷ zs) ⊎ (x ≡ y)
    further (inl old) = inl (inr old)
    further (inr new) = inr new

once_push : (ss : List MdsSend) (s : MdsSend) → NumbersOnce ss → ((b : MdsSend) (xid : ℕ) → IsOneOf b ss → number_sent s ≡ Some xid → number_sent b ≡ Some xid → s ≡ b) → NumbersOnce (ss ++ s ∷ [])
once_push ss s once new a b xid a_in b_in a_is b_is = by_place (in_pushed a s ss a_in) (in_pushed b s ss b_in)
  where
    by_place : IsOneOf a ss ⊎ (a ≡ s) → IsOneOf b ss ⊎ (b ≡ s) → a ≡ b
    by_place (inl x) (inl y) = once a b xid x y a_is b_is
    by_place (inl x) (inr y) = sym (y ∙ new a xid x (ap number_sent (sym y) ∙ b_is) a_is)
    by_place (inr x) (inl y) = x ∙ new b xid y (ap number_sent (sym x) ∙ a_is) b_is
    by_place (inr x) (inr y) = x ∙ sym y

-- ---- what a step of the machine keeps

pub record KeepsMachine (mc n : Machine) : Type 0 where
  pub packets : KeepsPackets mc n
  pub servers : length mc.servers ≡ length n.servers

module _ (mc n : Machine) (kept : KeepsMachine mc n) (servers : List AddressValue) (mirrors : ℕ) (all : List ServedFile) (next : Fresh) (awaited : List AwaitedCall) (next_xid : ℕ) (ss : List MdsSend)
    (i : IsServerOf mc servers mirrors all next awaited next_xid ss) where
  set_up : IsSetUp servers mirrors n
  set_up = record { some = i.setup.some; few = i.setup.few; there = i.setup.there; same = i.setup.same ∙ kept.servers }

  -- no call goes out
  pub goes_silent : n.last_xid Mds ≡ mc.last_xid Mds → (after : List ServedFile) (fresh : Fresh) → map file_in after ≡ n.files → fresh ≡ fresh_of n → AllOf IsServedInRange after → IsServerOf n servers mirrors after fresh awaited next_xid ss
  goes_silent last after fresh files drawn writes = record {
    files = files;
    fresh = drawn;
    setup = set_up;
    numbers = subst (λ (x : ℕ). (next_xid ≡ 0) ⊎ (x < next_xid)) (sym last) i.numbers;
    below = i.below;
    few = i.few;
    once = i.once;
    calls = i.calls;
    writes = writes;
    sent = all_still mc n kept.packets ss i.sent;
  }

  -- a call goes out under the next number
  pub goes_calling : not (next_xid == 0) ≡ true → n.last_xid Mds ≤ next_xid → (call : AwaitedCall) → number_sent call.sent ≡ Some next_xid → IsAwaitedFor call → IsSentIn n call.sent
      → (after : List ServedFile) → map file_in after ≡ n.files → next ≡ fresh_of n → AllOf IsServedInRange after → IsServerOf n servers mirrors after next (with_call call awaited) (xid_after next_xid) (ss ++ call.sent ∷ [])
  goes_calling has last call number its stands after files drawn writes = record {
    files = files;
    fresh = drawn;
    setup = set_up;
    numbers = risen;
    below = after_below next_xid (ss ++ call.sent ∷ []) (below_push (next_xid + 1) ss call.sent (below_all next_xid ss (i.below has)) (subst (IsBelow (next_xid + 1)) (sym number) (omega arith)));
    few = after_fits next_xid i.few;
    once = once_push ss call.sent i.once (λ b xid inside new old. absurd (apart b xid inside new old));
    calls = λ other inside. by_place other (in_with_call other call awaited inside);
    writes = writes;
    sent = all_push (IsSentIn n) ss call.sent (all_still mc n kept.packets ss i.sent) stands;
  }
    where
      risen : (xid_after next_xid ≡ 0) ⊎ (n.last_xid Mds < xid_after next_xid)
      risen = cond_both (next_xid == 4294967295) 0 (next_xid + 1) (λ (x : ℕ). (x ≡ 0) ⊎ (n.last_xid Mds < x)) (λ is. inl refl) (λ off. inr (omega (arith, last)))

      apart : (b : MdsSend) (xid : ℕ) → IsOneOf b ss → number_sent call.sent ≡ Some xid → number_sent b ≡ Some xid → ⊥
      apart b xid inside new old =
          let same : next_xid ≡ xid = same_Some next_xid xid (sym number ∙ new) in
          let less : xid < next_xid = subst (IsBelow next_xid) old (in_below next_xid ss b (i.below has) inside) in
          omega (arith, same, less)

      by_place : (other : AwaitedCall) → IsOneOf other awaited ⊎ (other ≡ call) → IsOneOf other.sent (ss ++ call.sent ∷ []) × IsAwaitedFor other
      by_place other (inl old) = (in_more other.sent ss (call.sent ∷ []) (i.calls other old).0, (i.calls other old).1)
      by_place other (inr new) = subst (λ (c : AwaitedCall). IsOneOf c.sent (ss ++ call.sent ∷ []) × IsAwaitedFor c) (sym new) (in_last call.sent ss, its)

-- ---- what changes no machine

module _ (mc : Machine) (servers : List AddressValue) (mirrors : ℕ) (all : List ServedFile) (next : Fresh) (awaited : List AwaitedCall) (next_xid : ℕ) (ss : List MdsSend)
    (i : IsServerOf mc servers mirrors all next awaited next_xid ss) where
  -- what has no number is sent, or what was sent before
  pub sends_more : (s : MdsSend) → IsSentIn mc s → ((b : MdsSend) (xid : ℕ) → IsOneOf b ss → number_sent s ≡ Some xid → number_sent b ≡ Some xid → s ≡ b)
      → (not (next_xid == 0) ≡ true → IsBelow next_xid (number_sent s)) → IsServerOf mc servers mirrors all next awaited next_xid (ss ++ s ∷ [])
  sends_more s stands once below = record {
    files = i.files;
    fresh = i.fresh;
    setup = i.setup;
    numbers = i.numbers;
    below = λ has. below_push next_xid ss s (i.below has) (below has);
    few = i.few;
    once = once_push ss s i.once once;
    calls = λ call inside. (in_more call.sent ss (s ∷ []) (i.calls call inside).0, (i.calls call inside).1);
    writes = i.writes;
    sent = all_push (IsSentIn mc) ss s i.sent stands;
  }

  -- the next number is a new one
  pub is_new : not (next_xid == 0) ≡ true → mc.last_xid Mds < next_xid
  is_new has = by_number i.numbers
    where
      never : false ≡ true → ⊥
      never e = absurd cc

      by_number : (next_xid ≡ 0) ⊎ (mc.last_xid Mds < next_xid) → mc.last_xid Mds < next_xid
      by_number (inl none) = absurd (never (subst (λ (x : ℕ). not (x == 0) ≡ true) none has))
      by_number (inr less) = less

  -- a number is passed over
  pub passes_over : not (next_xid == 0) ≡ true → IsServerOf mc servers mirrors all next awaited (xid_after next_xid) ss
  passes_over has = record {
    files = i.files;
    fresh = i.fresh;
    setup = i.setup;
    numbers = cond_both (next_xid == 4294967295) 0 (next_xid + 1) (λ (x : ℕ). (x ≡ 0) ⊎ (mc.last_xid Mds < x)) (λ is. inl refl) (λ off. let new = is_new has in inr (omega (arith, new)));
    below = after_below next_xid ss (below_all next_xid ss (i.below has));
    few = after_fits next_xid i.few;
    once = i.once;
    calls = i.calls;
    writes = i.writes;
    sent = i.sent;
  }

  -- other calls are awaited, each of them one of these
  pub awaits_fewer : (fewer : List AwaitedCall) → ((call : AwaitedCall) → IsOneOf call fewer → IsOneOf call awaited) → IsServerOf mc servers mirrors all next fewer next_xid ss
  awaits_fewer fewer within = record {
    files = i.files;
    fresh = i.fresh;
    setup = i.setup;
    numbers = i.numbers;
    below = i.below;
    few = i.few;
    once = i.once;
    calls = λ call inside. i.calls call (within call inside);
    writes = i.writes;
    sent = i.sent;
  }

  -- the files are kept as they stand
  pub same_files : (after : List ServedFile) → map file_in after ≡ map file_in all → AllOf IsServedInRange after → IsServerOf mc servers mirrors after next awaited next_xid ss
  same_files after same writes = record {
    files = same ∙ i.files;
    fresh = i.fresh;
    setup = i.setup;
    numbers = i.numbers;
    below = i.below;
    few = i.few;
    once = i.once;
    calls = i.calls;
    writes = writes;
    sent = i.sent;
  }
