-- The configuration in a source's first line.
use Rattle.std.specs.Prelude.{⊤}
use Rattle.std.proofs.Common.{true, ◌++◌, ◌≡◌, ℕ, ◌+◌, ◌<◌, List, [], length, Option, Some, None, Result, Ok, Err, refl, sym, ap, subst, ◌∙◌, arith}
use Rattle.line_runs.specs.declared.lines.Ended.TheVariants.{Newline, End, PastBudget as RanOver}
use Rattle.rpc_record.specs.declared.stream.Failed.TheVariants.{Fault, NoMemory as Wanted}
use Rattle.std.proofs.lemmas.List.{append-nil}
use Rattle.line_runs.specs.declared.end.RunEnd.{RunEnd}
use Rattle.line_runs.specs.declared.end.RunEnd.TheVariants.{Done, BadLine, ReadFault, WriteFault, NoMemory, Limit}
use Rattle.line_runs.specs.Lines.{all_left, cut_line, ReadsLine}
use Rattle.line_runs.proofs.LineLemmas.{cut_more-line, cut_more-over}
use Rattle.node_config.specs.declared.config.Config.{Config}
use Rattle.ff_node.specs.declared.end.NodeEnd.{NodeEnd}
use Rattle.command_words.specs.Commands.{CommandValue, Replay, Gen, Show, Ds, Mds, Put, Get}
use Rattle.node_config.specs.Configs.{ConfigValue}
use Rattle.ff_node.specs.Config.{Configures, max_line}
use Rattle.ff_node.proofs.OneConfig.{one_config}
use Rattle.ff_run.specs.Node.{DrawsFirst, Draws, DrawsFor, KeepsSource, HoldsRest, line_of_cut, rest_of_cut, first_line, is_of_server, ConfiguresFor, FindsConfig, HasNoConfig, ReadsFirst, FirstFaults}

-- ---- one line configures one node

-- a line that configures a node with a greater number than there are servers configures no data server
pub no_server : (command : CommandValue) (line : List ℕ) (c : ConfigValue) (servers : ℕ) → is_of_server command ≡ true → Configures line c → servers < c.own → servers ≡ length c.servers → (d : ConfigValue) → ConfiguresFor command line d → ⊥
no_server command line c servers serves is more size d other =
    let same = one_config line c d is other.configures in
    let own = other.own serves in
    omega (arith, more, size, own, same.0, same.1)

-- a line that configures no node
pub no_node : (command : CommandValue) (line : List ℕ) → ((c : ConfigValue) → Configures line c → ⊥) → (d : ConfigValue) → ConfiguresFor command line d → ⊥
no_node command line none d is = none d is.configures

-- ---- the first line of a source

-- the line is the first of the bytes, where they are told
abbrev pub IsFirst : Option (List ℕ) → List ℕ → Type 0
IsFirst None line = ⊤
IsFirst (Some bytes) line = first_line bytes ≡ Some line

pub first_newline : (left left' : Option (List ℕ)) (line held' : List ℕ) → ReadsLine (max_line + 1) [] left (Ok Newline) line held' left' → IsFirst left line
first_newline None left' line held' read = tt
first_newline (Some bytes) left' line held' read =
    ap line_of_cut (ap (cut_line (max_line + 1)) (sym read.drawn.whole) ∙ cut_more-line (max_line + 1) read.drawn.front read.drawn.rest line held' read.cut)

pub first_end : (left left' : Option (List ℕ)) (line held' : List ℕ) → ReadsLine (max_line + 1) [] left (Ok End) line held' left' → IsFirst left line
first_end None left' line held' read = tt
first_end (Some bytes) left' line held' read = ap line_of_cut read.cut

pub first_over : (command : CommandValue) (left left' : Option (List ℕ)) (line held' : List ℕ) → ReadsLine (max_line + 1) [] left (Ok RanOver) line held' left' → HasNoConfig command left
first_over command None left' line held' read = tt
first_over command (Some bytes) left' line held' read = λ other c is configures.
    let over : first_line bytes ≡ None = ap line_of_cut (ap (cut_line (max_line + 1)) (sym read.keeps.drawn.whole) ∙ cut_more-over (max_line + 1) read.keeps.drawn.front read.keeps.drawn.rest read.cut) in
    let no : None ≡ Some other = sym over ∙ is in absurd (cc (no))

some_line : {x y : List ℕ} → Some x ≡ Some y → x ≡ y
some_line e = cc

pub reads_first : (command : CommandValue) (left : Option (List ℕ)) (line : List ℕ) (r : Result Config RunEnd) → IsFirst left line → FindsConfig command line r → ReadsFirst command left r
reads_first command None line (Ok config) first finds = (line, finds)
reads_first command (Some bytes) line (Ok config) first finds = (line, first, finds)
reads_first command None line (Err (BadLine n)) first finds = (finds.0, tt)
reads_first command (Some bytes) line (Err (BadLine n)) first finds =
    (finds.0, λ other c is configures. finds.1 c (subst (λ l. ConfiguresFor command l c) (some_line (sym is ∙ first)) configures))
reads_first command left line (Err NoMemory) first finds = tt
reads_first command left line (Err Done) first finds = absurd finds
reads_first command left line (Err ReadFault) first finds = absurd finds
reads_first command left line (Err WriteFault) first finds = absurd finds
reads_first command left line (Err (Limit count)) first finds = absurd finds

-- ---- what was drawn from the source

-- where it was read to the line's end
draws_all : (command : CommandValue) (bytes line : List ℕ) (left' : Option (List ℕ)) (r : Result Config RunEnd) → DrawsFirst bytes left' → FindsConfig command line r → Draws (Some bytes) r left'
draws_all command bytes line left' (Ok config) drawn finds = drawn
draws_all command bytes line left' (Err (BadLine n)) drawn finds = drawn
draws_all command bytes line left' (Err NoMemory) drawn finds = drawn.drawn
draws_all command bytes line left' (Err Done) drawn finds = absurd finds
draws_all command bytes line left' (Err ReadFault) drawn finds = absurd finds
draws_all command bytes line left' (Err WriteFault) drawn finds = absurd finds
draws_all command bytes line left' (Err (Limit count)) drawn finds = absurd finds

pub draws_newline : (command : CommandValue) (left left' : Option (List ℕ)) (line held' : List ℕ) (r : Result Config RunEnd) → ReadsLine (max_line + 1) [] left (Ok Newline) line held' left' → FindsConfig command line r → Draws left r left'
draws_newline command None left' line held' r read finds = read
draws_newline command (Some bytes) left' line held' r read finds =
    draws_all command bytes line left' r (record { drawn = read.drawn; first = ap line_of_cut read.cut ∙ sym (first_newline (Some bytes) left' line held' read) }) finds

pub draws_end : (command : CommandValue) (left left' : Option (List ℕ)) (line held' : List ℕ) (r : Result Config RunEnd) → ReadsLine (max_line + 1) [] left (Ok End) line held' left' → FindsConfig command line r → Draws left r left'
draws_end command None left' line held' r read finds = read
draws_end command (Some bytes) left' line held' r read finds =
    draws_all command bytes line left' r (record { drawn = record { front = bytes; rest = []; told = read.none_left; whole = append-nil bytes }; first = refl }) finds

pub draws_over : (left left' : Option (List ℕ)) (line held' : List ℕ) (n : ℕ) → ReadsLine (max_line + 1) [] left (Ok RanOver) line held' left' → Draws {T = Config} left (Err (BadLine n)) left'
draws_over None left' line held' n read = read
draws_over (Some bytes) left' line held' n read =
    let drawn = read.keeps.drawn in
    let over : first_line bytes ≡ None = ap line_of_cut (ap (cut_line (max_line + 1)) (sym drawn.whole) ∙ cut_more-over (max_line + 1) drawn.front drawn.rest read.cut) in
    record { drawn = drawn; first = ap line_of_cut read.cut ∙ sym over }

pub draws_fault : (left left' : Option (List ℕ)) (line held' : List ℕ) → ReadsLine (max_line + 1) [] left (Err Fault) line held' left' → Draws {T = Config} left (Err ReadFault) left'
draws_fault None left' line held' read = read
draws_fault (Some bytes) left' line held' read = read.keeps.drawn

pub draws_wanted : (left left' : Option (List ℕ)) (line held' : List ℕ) → ReadsLine (max_line + 1) [] left (Err Wanted) line held' left' → Draws {T = Config} left (Err NoMemory) left'
draws_wanted None left' line held' read = read
draws_wanted (Some bytes) left' line held' read = read.drawn

-- nothing was read
pub draws_none : (left : Option (List ℕ)) → Draws {T = Config} left (Err NoMemory) left
draws_none None = refl
draws_none (Some bytes) = record { front = []; rest = bytes; told = refl; whole = refl }

-- what was drawn for an error is drawn for any result that is the error
pub draws_err : (left left' : Option (List ℕ)) (r : Result Config RunEnd) (q : Result NodeEnd RunEnd) (e : RunEnd) → r ≡ Err e → q ≡ Err e → Draws left r left' → Draws left q left'
draws_err left left' r q e is so draws = subst (λ x. Draws left x left') (sym so) (same left e (subst (λ x. Draws left x left') is draws))
  where
    same : (l : Option (List ℕ)) (x : RunEnd) → Draws {T = Config} l (Err x) left' → Draws {T = NodeEnd} l (Err x) left'
    same None x d = d
    same (Some bytes) (BadLine n) d = d
    same (Some bytes) ReadFault d = d
    same (Some bytes) NoMemory d = d
    same (Some bytes) Done d = absurd d
    same (Some bytes) WriteFault d = absurd d
    same (Some bytes) (Limit count) d = absurd d

-- the source did not fail
pub faults_first : (command : CommandValue) (line : List ℕ) (r : Result Config RunEnd) (old new : ℕ) → FindsConfig command line r → new ≡ old → FirstFaults r old new
faults_first command line (Ok config) old new finds same = same
faults_first command line (Err (BadLine n)) old new finds same = same
faults_first command line (Err NoMemory) old new finds same = same
faults_first command line (Err Done) old new finds same = absurd finds
faults_first command line (Err ReadFault) old new finds same = absurd finds
faults_first command line (Err WriteFault) old new finds same = absurd finds
faults_first command line (Err (Limit count)) old new finds same = absurd finds

-- ---- what is behind the first line

pub rest_newline : (left left' : Option (List ℕ)) (line held' : List ℕ) (r : Result Config RunEnd) → ReadsLine (max_line + 1) [] left (Ok Newline) line held' left' → HoldsRest left r held' left'
rest_newline left left' line held' (Err end) read = tt
rest_newline None left' line held' (Ok config) read = ap (all_left held') read
rest_newline (Some bytes) left' line held' (Ok config) read =
    let drawn = read.drawn in
    ap (all_left held') drawn.told
    ∙ ap Some (sym (ap rest_of_cut (ap (cut_line (max_line + 1)) (sym drawn.whole) ∙ cut_more-line (max_line + 1) drawn.front drawn.rest line held' read.cut)))

pub rest_end : (left left' : Option (List ℕ)) (line held' : List ℕ) (r : Result Config RunEnd) → ReadsLine (max_line + 1) [] left (Ok End) line held' left' → HoldsRest left r held' left'
rest_end left left' line held' (Err end) read = tt
rest_end None left' line held' (Ok config) read = ap (all_left held') read
rest_end (Some bytes) left' line held' (Ok config) read =
    ap (all_left held') read.none_left ∙ ap (λ l. Some (l ++ [])) read.none_held ∙ ap Some (sym (ap rest_of_cut read.cut))

-- ---- what was drawn for a node

same_draws : (left left' : Option (List ℕ)) (config : Config) (end : NodeEnd) → Draws {T = Config} left (Ok config) left' → Draws {T = NodeEnd} left (Ok end) left'
same_draws None left' config end draws = draws
same_draws (Some bytes) left' config end draws = draws

kept_draws : (left mid left' : Option (List ℕ)) (config : Config) (end : NodeEnd) → Draws {T = Config} left (Ok config) mid → left' ≡ mid → Draws {T = NodeEnd} left (Ok end) left'
kept_draws left mid left' config end draws same = same_draws left left' config end (subst (λ l. Draws {T = Config} left (Ok config) l) (sym same) draws)

pub draws_for : (command : CommandValue) (left mid left' : Option (List ℕ)) (config : Config) (end : NodeEnd) → Draws {T = Config} left (Ok config) mid → KeepsSource command mid left' → DrawsFor command left end left'
draws_for (Put name) left mid left' config end draws same = tt
draws_for (Get name) left mid left' config end draws same = kept_draws left mid left' config end draws same
draws_for Ds left mid left' config end draws same = kept_draws left mid left' config end draws same
draws_for Mds left mid left' config end draws same = kept_draws left mid left' config end draws same
draws_for Show left mid left' config end draws same = kept_draws left mid left' config end draws same
draws_for (Gen number) left mid left' config end draws same = kept_draws left mid left' config end draws same
draws_for (Replay mode) left mid left' config end draws same = kept_draws left mid left' config end draws same
