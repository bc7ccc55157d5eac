-- What a step of a file draws: a uid, and numbers of names from the next one on.
use Rattle.std.proofs.Common.{◌≡◌, ◌≢◌, ℕ, ◌+◌, ◌<◌, ◌≤◌, Bool, eqb, ltb, cond, refl, sym, ap, subst, arith, inl, inr}
use Rattle.std.proofs.lemmas.Bool.{cond_both, cases_lt, eq-eqb, ne_eqb, lt-ltb, le-ltb}
use Rattle.cluster_laws.proofs.Facts.{AllFollow}
use Rattle.cluster_laws.proofs.Invariant.{Drawn, Net}
use Rattle.cluster_laws.proofs.Onward.{Later}

-- with a uid drawn for a file, and the names from then on
abbrev pub draws : Drawn → ℕ → ℕ → ℕ → Drawn
draws d next_name n uid = record {
  home = λ k. cond (ltb k next_name) (d.home k) n;
  low = λ k. cond (ltb k next_name) (d.low k) uid;
  top = λ g. cond (eqb g n) uid (d.top g);
}

abbrev pub drawn_net : Net → ℕ → ℕ → ℕ → Net
drawn_net net n uid names = record { servers = net.servers; packets = net.packets; last_xid = net.last_xid; next_name = net.next_name + names; drawn = draws net.drawn net.next_name n uid }

pub top_here : (d : Drawn) (next_name n uid : ℕ) → (draws d next_name n uid).top n ≡ uid
top_here d next_name n uid = ap (λ (b : Bool). cond b uid (d.top n)) (eq-eqb n n refl)

pub top_other : (d : Drawn) (next_name n uid k : ℕ) → k ≢ n → (draws d next_name n uid).top k ≡ d.top k
top_other d next_name n uid k other = ap (λ (b : Bool). cond b uid (d.top k)) (ne_eqb k n other)

pub top_rises : (d : Drawn) (next_name n uid k : ℕ) → d.top k < uid → d.top k ≤ (draws d next_name n uid).top k
top_rises d next_name n uid k less = cond_both (eqb k n) uid (d.top k) (λ (t : ℕ). d.top k ≤ t) (λ e. omega (arith, less)) (λ e. omega arith)

pub top_less : (d : Drawn) (next_name n uid k : ℕ) → d.top k < uid → (draws d next_name n uid).top k < uid + 1
top_less d next_name n uid k less = cond_both (eqb k n) uid (d.top k) (λ (t : ℕ). t < uid + 1) (λ e. omega arith) (λ e. omega (arith, less))

pub old_home : (d : Drawn) (next_name n uid k : ℕ) → k < next_name → (draws d next_name n uid).home k ≡ d.home k
old_home d next_name n uid k less = ap (λ (b : Bool). cond b (d.home k) n) (lt-ltb k next_name less)

pub old_low : (d : Drawn) (next_name n uid k : ℕ) → k < next_name → (draws d next_name n uid).low k ≡ d.low k
old_low d next_name n uid k less = ap (λ (b : Bool). cond b (d.low k) uid) (lt-ltb k next_name less)

pub new_home : (d : Drawn) (next_name n uid k : ℕ) → next_name ≤ k → (draws d next_name n uid).home k ≡ n
new_home d next_name n uid k le = ap (λ (b : Bool). cond b (d.home k) n) (le-ltb k next_name le)

pub new_low : (d : Drawn) (next_name n uid k : ℕ) → next_name ≤ k → (draws d next_name n uid).low k ≡ uid
new_low d next_name n uid k le = ap (λ (b : Bool). cond b (d.low k) uid) (le-ltb k next_name le)

pub lows_drawn : (d : Drawn) (next_name n uid : ℕ) → ((g : ℕ) → d.top g < uid) → ((k : ℕ) → k < next_name → d.low k ≤ d.top (d.home k)) → (k : ℕ) → (draws d next_name n uid).low k ≤ (draws d next_name n uid).top ((draws d next_name n uid).home k)
lows_drawn d next_name n uid tops lows k =
    elim (cases_lt k next_name) [
      | inl less ↦
          let low = old_low d next_name n uid k less in
          let was = lows k less in
          let rises = top_rises d next_name n uid (d.home k) (tops (d.home k)) in
          subst (λ (g : ℕ). (draws d next_name n uid).low k ≤ (draws d next_name n uid).top g) (sym (old_home d next_name n uid k less)) (omega (arith, low, was, rises))
      | inr le ↦
          let low = new_low d next_name n uid k le in
          let top = top_here d next_name n uid in
          subst (λ (g : ℕ). (draws d next_name n uid).low k ≤ (draws d next_name n uid).top g) (sym (new_home d next_name n uid k le)) (omega (arith, low, top))
    ]

pub later_drawn : (net : Net) (n uid names : ℕ) → AllFollow net.servers net.servers → ((g : ℕ) → net.drawn.top g < uid) → Later net (drawn_net net n uid names)
later_drawn net n uid names same tops = record {
  servers = same;
  sent = λ place p is. is;
  calls = λ xid server call used all. all;
  used = omega arith;
  names = omega arith;
  home = λ k less. old_home net.drawn net.next_name n uid k less;
  low = λ k less. old_low net.drawn net.next_name n uid k less;
  tops = λ g. top_rises net.drawn net.next_name n uid g (tops g);
}

pub later_same : (net : Net) → AllFollow net.servers net.servers → Later net net
later_same net same = record {
  servers = same;
  sent = λ place p is. is;
  calls = λ xid server call used all. all;
  used = omega arith;
  names = omega arith;
  home = λ k less. refl;
  low = λ k less. refl;
  tops = λ g. omega arith;
}
