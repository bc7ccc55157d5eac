-- The sizes of a cluster that the lines of a script choose are in their ranges.
use Rattle.std.proofs.Common.{◌≡◌, ℕ, ◌+◌, ◌≤◌, Bool, true, false, cond, ◌&&◌, List, [], ◌∷◌, Option, Some, None, refl, subst}
use Rattle.std.specs.Prelude.{nat_le, codes, ◌==◌, option_map}
use Rattle.std.specs.Str.{bytes_eq}
use Rattle.std.proofs.lemmas.Bool.{and_parts, leb-true}
use Rattle.cluster_model.specs.Event.{EventValue}
use Rattle.ff_script.specs.Pieces.{◌>>=◌, decimal_at}
use Rattle.ff_script.specs.Line as bare
use Rattle.cluster_script.specs.declared.sizes.ClusterSizes.{ClusterSizes}
use Rattle.cluster_script.specs.ScriptWords.{words_of, three_of, within, number_within}
use Rattle.cluster_script.specs.ClusterLines as cluster
use Rattle.ff_replay.specs.declared.setup.Setup.{Setup}
use Rattle.ff_replay.specs.declared.setup.Setup.TheVariants.{Bare, Cluster}
use Rattle.ff_replay.specs.Script.{ScriptLine, SaysNothing, SetsUp, Happens, Script, cluster_setup, setup_in, words_in, line_in, by_line, script_of}

pub record AreSizes (sizes : ClusterSizes) : Type 0 where
  pub servers : sizes.servers ≤ 16
  pub some : 1 ≤ sizes.mirrors
  pub few : sizes.mirrors ≤ 4
  pub there : sizes.mirrors ≤ sizes.servers
  pub clients : sizes.clients ≤ 256

abbrev pub IsSetup : Option Setup → Type 0
IsSetup None = Unit {0}
IsSetup (Some Bare) = Unit {0}
IsSetup (Some (Cluster sizes)) = AreSizes sizes

-- ---- numbers

pub bound : {A B : Type 0} (o : Option A) (f : A → Option B) (b : B) → o >>= f ≡ Some b → (a : A) × (o ≡ Some a) × (f a ≡ Some b)
bound None f b is = absurd cc
bound (Some a) f b is = (a, refl, is)

pub tested : {A : Type 0} (b : Bool) (x y : A) → cond b (Some x) None ≡ Some y → (b ≡ true) × (x ≡ y)
tested true x y is = (refl, cc)
tested false x y is = absurd cc

within_range : (low high n k : ℕ) → within low high n ≡ Some k → (low ≤ k) × (k ≤ high)
within_range low high n k is =
    let both = tested (nat_le low n && nat_le n high) n k is in
    let parts = and_parts (nat_le low n) (nat_le n high) both.0 in
    (subst (λ (x : ℕ). low ≤ x) both.1 (leb-true low n parts.0), subst (λ (x : ℕ). x ≤ high) both.1 (leb-true n high parts.1))

pub number_range : (low high : ℕ) (word : List ℕ) (k : ℕ) → number_within low high word ≡ Some k → (low ≤ k) × (k ≤ high)
number_range low high word k is =
    let n = bound (decimal_at word) (within low high) k is in
    within_range low high n.0 k n.2

-- ---- the sizes of a cluster

sizes_three : (s k c : List ℕ) (sizes : ClusterSizes) → cluster.sizes_from (s, k, c) ≡ Some sizes → AreSizes sizes
sizes_three s k c sizes is =
    let servers = bound (number_within 1 16 s) _ sizes is in
    let mirrors = bound (number_within 1 4 k) _ sizes servers.2 in
    let few = bound (within 0 servers.0 mirrors.0) _ sizes mirrors.2 in
    let clients = bound (number_within 1 256 c) _ sizes few.2 in
    let made : record { servers = servers.0; mirrors = few.0; clients = clients.0 } ≡ sizes = cc clients.2 in
    let same = (tested (nat_le 0 mirrors.0 && nat_le mirrors.0 servers.0) mirrors.0 few.0 few.1).1 in
    let range = number_range 1 4 k mirrors.0 mirrors.1 in
    subst AreSizes made (record {
      servers = (number_range 1 16 s servers.0 servers.1).1;
      some = subst (λ (n : ℕ). 1 ≤ n) same range.0;
      few = subst (λ (n : ℕ). n ≤ 4) same range.1;
      there = (within_range 0 servers.0 mirrors.0 few.0 few.1).1;
      clients = (number_range 1 256 c clients.0 clients.1).1;
    })

sizes_words : (words : List (List ℕ)) (sizes : ClusterSizes) → cluster.setup_by words ≡ Some sizes → AreSizes sizes
sizes_words [] sizes is = absurd cc
sizes_words (word ∷ args) sizes is = by_word (bytes_eq word (codes "cluster")) is
  where
    by_word : (b : Bool) → cond b (three_of args >>= cluster.sizes_from) None ≡ Some sizes → AreSizes sizes
    by_word true so =
        let three = bound (three_of args) cluster.sizes_from sizes so in
        sizes_three three.0.0 three.0.1 three.0.2 sizes three.2
    by_word false so = absurd cc

-- ---- the line that chooses

setup_text : (text : List ℕ) (chosen : Setup) → setup_in text ≡ Some chosen → IsSetup (Some chosen)
setup_text text chosen is = by_text (bytes_eq text (codes "bare")) is
  where
    by_sizes : (o : Option ClusterSizes) → cluster.cluster_at text ≡ o → cluster_setup o ≡ Some chosen → IsSetup (Some chosen)
    by_sizes None at so = absurd cc
    by_sizes (Some sizes) at so =
        let same : Cluster sizes ≡ chosen = cc so in
        subst (λ (c : Setup). IsSetup (Some c)) same (sizes_words (words_of text) sizes at)

    by_text : (b : Bool) → cond b (Some Bare) (cluster_setup (cluster.cluster_at text)) ≡ Some chosen → IsSetup (Some chosen)
    by_text true so =
        let same : Bare ≡ chosen = cc so in
        subst (λ (c : Setup). IsSetup (Some c)) same tt
    by_text false so = by_sizes (cluster.cluster_at text) refl so

words_set : (setup : Option Setup) (text : List ℕ) (chosen : Setup) → words_in setup text ≡ Some (SetsUp chosen) → IsSetup (Some chosen)
words_set None text chosen is = by_setup (setup_in text) refl is
  where
    by_setup : (o : Option Setup) → setup_in text ≡ o → option_map SetsUp o ≡ Some (SetsUp chosen) → IsSetup (Some chosen)
    by_setup None at so = absurd cc
    by_setup (Some c) at so =
        let same : c ≡ chosen = cc so in
        setup_text text chosen (subst (λ (x : Setup). setup_in text ≡ Some x) same at)
words_set (Some Bare) text chosen is = by_event (bare.event_at text) is
  where
    by_event : (o : Option EventValue) → option_map Happens o ≡ Some (SetsUp chosen) → IsSetup (Some chosen)
    by_event None so = absurd cc
    by_event (Some e) so = absurd cc
words_set (Some (Cluster sizes)) text chosen is = by_event (cluster.event_at sizes text) is
  where
    by_event : (o : Option EventValue) → option_map Happens o ≡ Some (SetsUp chosen) → IsSetup (Some chosen)
    by_event None so = absurd cc
    by_event (Some e) so = absurd cc

pub line_sets : (setup : Option Setup) (line : List ℕ) (chosen : Setup) → line_in setup line ≡ Some (SetsUp chosen) → IsSetup (Some chosen)
line_sets setup [] chosen is = absurd cc
line_sets setup (c ∷ rest) chosen is = by_mark (c == 35) is
  where
    by_mark : (b : Bool) → cond b (Some SaysNothing) (words_in setup (c ∷ rest)) ≡ Some (SetsUp chosen) → IsSetup (Some chosen)
    by_mark true so = absurd cc
    by_mark false so = words_set setup (c ∷ rest) chosen so

-- ---- the lines

by_said : (number : ℕ) (setup : Option Setup) (said : Option ScriptLine) (rest : Option Setup → Script) → ((chosen : Setup) → said ≡ Some (SetsUp chosen) → IsSetup (Some chosen))
    → ((s : Option Setup) → IsSetup (rest s).setup) → IsSetup (by_line number setup said rest).setup
by_said number setup None rest sets all = tt
by_said number setup (Some SaysNothing) rest sets all = all setup
by_said number setup (Some (SetsUp chosen)) rest sets all = sets chosen refl
by_said number setup (Some (Happens event)) rest sets all = all setup

pub script_setup : (lines : List (List ℕ)) (number : ℕ) (setup : Option Setup) → IsSetup (script_of number setup lines).setup
script_setup [] number setup = tt
script_setup (line ∷ lines) number setup =
    by_said number setup (line_in setup line) (λ chosen. script_of (number + 1) chosen lines) (λ chosen is. line_sets setup line chosen is) (λ s. script_setup lines (number + 1) s)
