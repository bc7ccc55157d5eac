-- How a configuration is found in a JSON value.
use Rattle.std.proofs.Common.{◌≡◌, ℕ, zero, suc, ◌+◌, ◌<◌, ◌≤◌, ◌==◌, Bool, false, List, [], ◌∷◌, ◌++◌, length, take, get_or, map, Some, None, Result, Ok, Err, Vec, is_ok, is_err, cond, refl, sym, ap, ◌∙◌, arith, codes}
use Rattle.std.specs.List.{All}
use Rattle.std.specs.Prelude.{String}
use Rattle.std.specs.declared.alloc.Global.{Global}
use Rattle.std.proofs.lemmas.List.{take_more}
use Rattle.std.proofs.lemmas.List.Elements.{All-head, All-tail, All-nil, All-cons}
use Rattle.serde_json.specs.Data.{Data, null, boolean, string, array, object, number, Items, no_items, item, Members, no_members, member}
use Rattle.serde_json.specs.View.{view, items_view, members_view}
use Rattle.serde_json.specs.declared.value.Value.{Value}
use Rattle.device_addr.specs.declared.net_addr.NetAddr.{NetAddr}
use Rattle.device_addr.specs.Universal.{AddressValue, IsAddress, address_text, address_value}
use Rattle.serde_json.specs.Find.{as_array}
use Rattle.ff_node.specs.declared.config.ConfigFault.{ConfigFault}
use Rattle.ff_node.specs.declared.config.ConfigFault.TheVariants.{Bad, NoMemory}
use Rattle.ff_node.specs.Config.{FieldValues, before, five_members, address_items, ListsServers, ReadsItems, ReadsServers}

-- ---- the five members

pub no_fourth : (d1 d2 d3 : Data) (m0 m1 m2 m3 : Members) → m0 ≡ member (codes "mds") d1 m1 → m1 ≡ member (codes "mirrors") d2 m2 → m2 ≡ member (codes "own") d3 m3
    → ((e : Data) (rest : Members) → m3 ≡ member (codes "servers") e rest → ⊥) → (f : FieldValues) (rest : Members) → m0 ≡ before f rest → ⊥
no_fourth d1 d2 d3 m0 m1 m2 m3 one two three none f rest is =
    let left : m3 ≡ member (codes "servers") f.servers (member (codes "turns") f.turns rest) = cc in
    none f.servers (member (codes "turns") f.turns rest) left

pub no_fifth : (d1 d2 d3 d4 : Data) (m0 m1 m2 m3 m4 : Members) → m0 ≡ member (codes "mds") d1 m1 → m1 ≡ member (codes "mirrors") d2 m2 → m2 ≡ member (codes "own") d3 m3
    → m3 ≡ member (codes "servers") d4 m4 → ((e : Data) (rest : Members) → m4 ≡ member (codes "turns") e rest → ⊥) → (f : FieldValues) (rest : Members) → m0 ≡ before f rest → ⊥
no_fifth d1 d2 d3 d4 m0 m1 m2 m3 m4 one two three four none f rest is =
    let left : m4 ≡ member (codes "turns") f.turns rest = cc in
    none f.turns rest left

pub all_five : (d1 d2 d3 d4 d5 : Data) (m0 m1 m2 m3 m4 m5 : Members) → m0 ≡ member (codes "mds") d1 m1 → m1 ≡ member (codes "mirrors") d2 m2 → m2 ≡ member (codes "own") d3 m3
    → m3 ≡ member (codes "servers") d4 m4 → m4 ≡ member (codes "turns") d5 m5 → m0 ≡ before (record { mds = d1; mirrors = d2; own = d3; servers = d4; turns = d5 }) m5
all_five d1 d2 d3 d4 d5 m0 m1 m2 m3 m4 m5 one two three four five = cc

-- no member is left behind the five
pub nothing_left : (v : Value) (m0 rest : Members) (g f : FieldValues) → view v ≡ object m0 → m0 ≡ before g rest → view v ≡ five_members f → rest ≡ no_members
nothing_left v m0 rest g f whole five is = let same : object (before g rest) ≡ object (before f no_members) = ap object (sym five) ∙ sym whole ∙ is in cc same

pub all_members : (v : Value) (m0 rest : Members) (g : FieldValues) → view v ≡ object m0 → m0 ≡ before g rest → rest ≡ no_members → view v ≡ five_members g
all_members v m0 rest g whole five none = whole ∙ ap object (five ∙ ap (before g) none)

pub no_entries : (ms : List (String Global × Value)) → members_view ms ≡ no_members → length ms ≡ 0
no_entries [] none = refl
no_entries (m ∷ ms) none = absurd (cc)

pub of_no_entries : (ms : List (String Global × Value)) → length ms ≡ 0 → members_view ms ≡ no_members
of_no_entries [] none = refl
of_no_entries (m ∷ ms) none = absurd (omega arith)

-- ---- a list of addresses

-- as many items as addresses
pub as_many : (xs ys : List AddressValue) → address_items xs ≡ address_items ys → length xs ≡ length ys
as_many [] [] is = refl
as_many [] (y ∷ ys) is = absurd (cc)
as_many (x ∷ xs) [] is = absurd (cc)
as_many (x ∷ xs) (y ∷ ys) is = let rest : address_items xs ≡ address_items ys = cc in ap suc (as_many xs ys rest)

pub length_items : (xs : List Value) (ys : List AddressValue) → items_view xs ≡ address_items ys → length xs ≡ length ys
length_items [] [] is = refl
length_items [] (y ∷ ys) is = absurd (cc)
length_items (x ∷ xs) [] is = absurd (cc)
length_items (x ∷ xs) (y ∷ ys) is = let rest : items_view xs ≡ address_items ys = cc in ap suc (length_items xs ys rest)

-- an item is an address, where all are
pub item_is : (xs : List Value) (ys : List AddressValue) (i : ℕ) (x : Value) → i < length xs → x ≡ get_or xs i x → All IsAddress ys → items_view xs ≡ address_items ys
    → (a : AddressValue) × IsAddress a × (view x ≡ string (address_text a))
item_is [] ys i x within is all same = absurd (omega arith)
item_is (v ∷ xs) [] i x within is all same = absurd (cc)
item_is (v ∷ xs) (y ∷ ys) zero x within is all same =
    let first : view v ≡ string (address_text y) = cc in
    (y, All-head IsAddress y ys all, ap view is ∙ first)
item_is (v ∷ xs) (y ∷ ys) (suc i) x within is all same =
    let rest : items_view xs ≡ address_items ys = cc in
    item_is xs ys i x (omega arith) is (All-tail IsAddress y ys all) rest

push_item : (xs : List Value) (ys : List NetAddr) (x : Value) (a : NetAddr) → items_view xs ≡ address_items (map address_value ys) → view x ≡ string (address_text (address_value a))
    → items_view (xs ++ x ∷ []) ≡ address_items (map address_value (ys ++ a ∷ []))
push_item [] [] x a same is = ap (λ d. item d no_items) is
push_item [] (y ∷ ys) x a same is = absurd (cc)
push_item (v ∷ xs) [] x a same is = absurd (cc)
push_item (v ∷ xs) (y ∷ ys) x a same is =
    let first : view v ≡ string (address_text (address_value y)) = cc in
    let rest : items_view xs ≡ address_items (map address_value ys) = cc in
    let more = push_item xs ys x a rest is in
    cc (first, more)

push_all : (ys : List NetAddr) (a : NetAddr) → All IsAddress (map address_value ys) → IsAddress (address_value a) → All IsAddress (map address_value (ys ++ a ∷ []))
push_all [] a all good = All-cons IsAddress (address_value a) [] good (All-nil IsAddress)
push_all (y ∷ ys) a all good =
    All-cons IsAddress (address_value y) (map address_value (ys ++ a ∷ [])) (All-head IsAddress (address_value y) (map address_value ys) all)
    (push_all ys a (All-tail IsAddress (address_value y) (map address_value ys) all) good)

-- one item more
pub more_items : (xs : List Value) (ys : List NetAddr) (i : ℕ) (x : Value) (a : NetAddr) → i < length xs → x ≡ get_or xs i x → IsAddress (address_value a) → view x ≡ string (address_text (address_value a))
    → All IsAddress (map address_value ys) × (items_view (take i xs) ≡ address_items (map address_value ys))
    → All IsAddress (map address_value (ys ++ a ∷ [])) × (items_view (take (i + 1) xs) ≡ address_items (map address_value (ys ++ a ∷ [])))
more_items xs ys i x a within is good text done =
    let grown : take (i + 1) xs ≡ take i xs ++ x ∷ [] = take_more xs i x within ∙ ap (λ v. take i xs ++ v ∷ []) (sym is) in
    (push_all ys a done.0 good, ap items_view grown ∙ push_item (take i xs) ys x a done.1 text)

-- what a push that did not fail left
pub pushed : {E : Type 0} (r : Result (Unit {0}) E) (old new : List NetAddr) (a : NetAddr) (failed : Bool) → new ≡ cond (is_ok r) (old ++ a ∷ []) old → failed ≡ is_err r → failed ≡ false → new ≡ old ++ a ∷ []
pushed (Ok x) old new a failed is test not = is
pushed (Err e) old new a failed is test not = absurd (cc (test, not))

-- ---- the list of the data servers

pub not_zero : (n : ℕ) → false ≡ (n == 0) → 1 ≤ n
not_zero zero not = absurd (cc)
not_zero (suc n) not = omega arith

array_of : (d : Data) (items : Items) → as_array d ≡ Some items → d ≡ array items
array_of null items is = absurd (cc)
array_of (boolean b) items is = absurd (cc)
array_of (number n) items is = absurd (cc)
array_of (string s) items is = absurd (cc)
array_of (array ds) items is = let same : ds ≡ items = cc in ap array same
array_of (object ms) items is = absurd (cc)

pub no_list : (d : Data) → as_array d ≡ None → (servers : List AddressValue) → ListsServers d servers → ⊥
no_list d none servers lists = let some : as_array d ≡ Some (address_items servers) = ap as_array lists.items in cc (none, some)

-- the items are as many as the servers
pub many_servers : (d : Data) (xs : List Value) → as_array d ≡ Some (items_view xs) → (servers : List AddressValue) → ListsServers d servers → length xs ≡ length servers
many_servers d xs is servers lists =
    let some : as_array d ≡ Some (address_items servers) = ap as_array lists.items in
    let same : items_view xs ≡ address_items servers = cc (is, some) in
    length_items xs servers same

pub reads_servers : (d : Data) (xs : List Value) (r : Result (Vec NetAddr Global) ConfigFault) → as_array d ≡ Some (items_view xs) → 1 ≤ length xs → length xs ≤ 16 → ReadsItems xs r → ReadsServers d r
reads_servers d xs (Ok v) is some few reads =
    let many = length_items xs (map address_value v.items) reads.1 in
    record {
      items = array_of d (items_view xs) is ∙ ap array reads.1;
      addresses = reads.0;
      some = omega (arith, many);
      few = omega (arith, many);
    }
reads_servers d xs (Err Bad) is some few reads = λ servers lists.
    let found : as_array d ≡ Some (address_items servers) = ap as_array lists.items in
    let same : items_view xs ≡ address_items servers = cc (is, found) in
    reads servers lists.addresses same
reads_servers d xs (Err NoMemory) is some few reads = tt
