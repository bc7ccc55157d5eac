-- Why of the READs of a file none waits behind the calls that go out.
use Rattle.std.proofs.Common.{◌≡◌, ◌≢◌, ◌≤◌, ◌<◌, inl, inr, ℕ, zero, suc, Bool, true, false, List, [], ◌∷◌, length, Option, Some, None, refl, sym, ap, subst, ◌∙◌, arith}
use Rattle.std.specs.Prelude.{◌-◌, ◌==◌, ◌&&◌, position, if◌then◌else◌, slice_get, slice_set}
use Rattle.std.specs.Option.{option_map}
use Rattle.std.specs.List.{range_with_len}
use Rattle.std.proofs.lemmas.Bool.{cond_both, eq-eqb, eqb-true}
use Rattle.std.proofs.lemmas.List.Quantifiers.{position-Some}
use Rattle.std.proofs.lemmas.Option.{none-some, same_Some}
use Rattle.cluster_model.specs.Members.{IsOneOf}
use Rattle.cluster_model.proofs.Elements.{slice_get-set_same, slice_get-set_other}
use Rattle.cluster_model.specs.declared.ids.FileId.{FileId}
use Rattle.cluster_model.specs.declared.ids.Mirror.{Mirror}
use Rattle.cluster_model.specs.declared.layout_state.LayoutState.{LayoutState}
use Rattle.cluster_model.specs.Fences.{waits}
use Rattle.file_rule.specs.FilePhases.{CallOut, call_out}
use Rattle.mds_io.specs.Reads.{ReadState, ReadSends, at_stage, in_turn}
use Rattle.mds_io.specs.Reads as read
use Rattle.mirror_writer.specs.Writers.{WriterSends}
use Rattle.mirror_writer.specs.Writers as writer
use Rattle.mds_quiet.proofs.OwnCalls.{out_layout}
use Rattle.mds_rule.specs.MdsStates.{WaitingRead, WaitingWrite, ServedFile, MdsValue, MdsStep, sends_none, and_then, served, numbered}
use Rattle.mds_rule.specs.declared.waiter.Waiter.TheVariants.{ForRead}
use Rattle.mds_rule.specs.Goes.{calls_server, OwnCall, own_of_file, own_of_write, own_by, place_of, place_or_last, has_xids, own_call, recall_call, repeats, read_goes, read_call, read_call_in, each, read_count, place_calls, file_calls, calls_out}
use Rattle.mds_progress.proofs.Resent.{in_range, within}
use Rattle.mds_quiet.specs.RestLaw.{ReadsGoOut}
use Rattle.mds_quiet.proofs.OutWalk.{read_sent, each_so, read_so, place_so, file_so}
use Rattle.mds_quiet.proofs.FileOuts.{served_suc, off_on, none_left, FileCases, Has, At, at_more, out_cases}

-- ---- a READ that waits

-- whoever has its turn is asked, under whichever number
turn_id : (r : ReadState) (x y : ℕ) (o : Option Mirror) → option_map (λ (c : ReadSends). c.id) (read.sends_to r x o) ≡ option_map (λ (c : ReadSends). c.id) (read.sends_to r y o)
turn_id r x y None = refl
turn_id r x y (Some m) = refl

same_turn : (r : ReadState) (x y : ℕ) → option_map (λ (c : ReadSends). c.id) (read.next_sent r x) ≡ option_map (λ (c : ReadSends). c.id) (read.next_sent r y)
same_turn r x y = by_test (waits r.stage)
  where
    by_test : (b : Bool) → option_map (λ (c : ReadSends). c.id) (if b then read.sends_to r x (in_turn r) else None) ≡ option_map (λ (c : ReadSends). c.id) (if b then read.sends_to r y (in_turn r) else None)
    by_test true = turn_id r x y (in_turn r)
    by_test false = refl

-- behind its call it waits no more
rests_out : (r : ReadState) (xid : ℕ) (sent : ReadSends) → read.next_sent r xid ≡ Some sent → (x : ℕ) → read.next_sent sent.read x ≡ None
rests_out r xid sent is x = by_test (waits r.stage) is
  where
    by_turn : (o : Option Mirror) → read.sends_to r xid o ≡ Some sent → read.next_sent sent.read x ≡ None
    by_turn None none = absurd (none-some sent none)
    by_turn (Some m) its = ap (λ (c : ReadSends). read.next_sent c.read x) (sym (same_Some _ sent its))

    by_test : (b : Bool) → (if b then read.sends_to r xid (in_turn r) else None) ≡ Some sent → read.next_sent sent.read x ≡ None
    by_test true its = by_turn (in_turn r) its
    by_test false none = absurd (none-some sent none)

-- ---- an own call changes neither the layout nor the READs

pub record StaysBeside (s t : ServedFile) : Type 0 where
  pub layout : t.file.layout ≡ s.file.layout
  pub reads : t.reads ≡ s.reads

pub own_beside : (file : FileId) (s : ServedFile) (xid : ℕ) (c : OwnCall) (o : Option WaitingWrite) → own_by file s xid o ≡ Some c → StaysBeside s c.served
own_beside file s xid c None is = by_call (call_out s.file xid) refl is
  where
    by_call : (o : Option CallOut) → call_out s.file xid ≡ o → option_map (own_of_file file s) o ≡ Some c → StaysBeside s c.served
    by_call None at none = absurd (none-some c none)
    by_call (Some d) at its = subst (λ (x : OwnCall). StaysBeside s x.served) (same_Some (own_of_file file s d) c its) (record { layout = out_layout s.file xid d at; reads = refl })
own_beside file s xid c (Some w) is = by_call (writer.next_sent w.writer xid) is
  where
    by_call : (o : Option WriterSends) → option_map (own_of_write file s w) o ≡ Some c → StaysBeside s c.served
    by_call None none = absurd (none-some c none)
    by_call (Some d) its = subst (λ (x : OwnCall). StaysBeside s x.served) (same_Some (own_of_write file s w d) c its) (record { layout = refl; reads = refl })

pub same_place : (s t : ServedFile) (server : ℕ) → t.file.layout ≡ s.file.layout → place_of t server ≡ place_of s server
same_place s t server same = ap (λ (l : LayoutState). place_or_last (position (λ (m : Mirror). m.id.server == server) l.live)) same

-- ---- one READ, and the pass of one place

module _ (p q n : ℕ) where
  -- it waits for no call to this place
  abbrev Passed : ServedFile → Type 0
  Passed s = (r : WaitingRead) (sent : ReadSends) (xid : ℕ) → slice_get s.reads n ≡ Some r → read.next_sent r.read xid ≡ Some sent → place_of s sent.id.server ≢ q

  own_passed : (file : FileId) (s : ServedFile) (xid : ℕ) (c : OwnCall) → own_by file s xid s.write ≡ Some c → Passed s → Passed c.served
  own_passed file s xid c is passed r sent x at goes here =
      let k : StaysBeside s c.served = own_beside file s xid c s.write is in
      passed r sent x (subst (λ (l : List WaitingRead). slice_get l n ≡ Some r) k.reads at) goes (sym (same_place s c.served sent.id.server k.layout) ∙ here)

  -- the one that was sent waits no more
  sent_passed : (s : ServedFile) (t : WaitingRead) (sent : ReadSends) (xid : ℕ) → slice_get s.reads n ≡ Some t → read.next_sent t.read xid ≡ Some sent → Passed (read_sent s n t sent)
  sent_passed s t sent xid at goes r more x there its here =
      let new : WaitingRead = record { compound = t.compound; read = sent.read } in
      let same : new ≡ r = same_Some new r (sym (slice_get-set_same s.reads n t new at) ∙ there) in
      none-some more (sym (rests_out t.read xid sent goes x) ∙ ap (λ (y : WaitingRead). read.next_sent y.read x) same ∙ its)

  reads_passed : (s : ServedFile) (i : ℕ) (t : WaitingRead) (sent : ReadSends) (xid : ℕ) → slice_get s.reads i ≡ Some t → read.next_sent t.read xid ≡ Some sent → Passed s → Passed (read_sent s i t sent)
  reads_passed s i t sent xid at goes passed = by_place (i == n) refl
    where
      by_place : (b : Bool) → (i == n) ≡ b → Passed (read_sent s i t sent)
      by_place true here =
          let same : i ≡ n = eqb-true i n here in
          subst (λ (j : ℕ). Passed (read_sent s j t sent)) (sym same) (sent_passed s t sent xid (subst (λ (j : ℕ). slice_get s.reads j ≡ Some t) same at) goes)
      by_place false off = λ r more x there its. passed r more x (sym (slice_get-set_other s.reads i n (record { compound = t.compound; read = sent.read }) (λ same. off_on (sym off ∙ eq-eqb i n (sym same)))) ∙ there) its

  cases : FileCases Passed
  cases = record { reads = reads_passed; own = own_passed }

  abbrev Rest : MdsValue → Type 0
  Rest m = At p Passed m

  -- ---- its turn

  abbrev file_at : FileId
  file_at = numbered (suc p)

  -- where the file at the place is this one
  only : (m : MdsValue) (s : ServedFile) → served m file_at ≡ Some s → Passed s → Has p Passed m
  only m s is passed u at = subst Passed (same_Some s u (sym is ∙ served_suc m p ∙ at)) passed

  turn_goes : (m : MdsValue) (s : ServedFile) (r : WaitingRead) (o : Option ReadSends) → served m file_at ≡ Some s → slice_get s.reads n ≡ Some r → read.next_sent r.read m.next_xid ≡ o → Rest (read_goes m file_at s n q r o).mds
  turn_goes m s r None is at goes = inr (only m s is (λ t sent x there its here. none-some sent (none_at t x there ∙ its)))
    where
      none_map : (o : Option ReadSends) → option_map (λ (c : ReadSends). c.id) o ≡ None → o ≡ None
      none_map None is = refl
      none_map (Some c) is = absurd (none-some c.id (sym is))

      none_at : (t : WaitingRead) (x : ℕ) → slice_get s.reads n ≡ Some t → None ≡ read.next_sent t.read x
      none_at t x there =
          let same : r ≡ t = same_Some r t (sym at ∙ there) in
          sym (none_map (read.next_sent t.read x) (ap (λ (y : WaitingRead). option_map (λ (c : ReadSends). c.id) (read.next_sent y.read x)) (sym same) ∙ same_turn r.read x m.next_xid ∙ ap (option_map (λ (c : ReadSends). c.id)) goes))
  turn_goes m s r (Some sent) is at goes =
      cond_both ((place_of s sent.id.server == q) && has_xids m) (calls_server m file_at (read_sent s n r sent) (ForRead file_at) sent.id.server 0 sent.call) (sends_none m) (λ (x : MdsStep). Rest x.mds)
      (λ both. inr (λ u there. subst Passed (same_Some (read_sent s n r sent) u (sym (put_there both) ∙ there)) (sent_passed s r sent m.next_xid at goes)))
      (λ off. by_place (place_of s sent.id.server == q) refl off)
    where
      put_there : ((place_of s sent.id.server == q) && has_xids m) ≡ true → slice_get (slice_set m.files (file_at.0 - 1) (read_sent s n r sent)) p ≡ Some (read_sent s n r sent)
      put_there both =
          let here : file_at.0 - 1 ≡ p = omega arith in
          subst (λ (i : ℕ). slice_get (slice_set m.files i (read_sent s n r sent)) p ≡ Some (read_sent s n r sent)) (sym here) (slice_get-set_same m.files p s (read_sent s n r sent) (sym (served_suc m p) ∙ is))

      other : (place_of s sent.id.server == q) ≡ false → Passed s
      other off t more x there its here =
          let same : r ≡ t = same_Some r t (sym at ∙ there) in
          let id : Some sent.id ≡ Some more.id = ap (option_map (λ (c : ReadSends). c.id)) (sym goes) ∙ same_turn r.read m.next_xid x ∙ ap (λ (y : WaitingRead). option_map (λ (c : ReadSends). c.id) (read.next_sent y.read x)) same ∙ ap (option_map (λ (c : ReadSends). c.id)) its in
          off_on (sym off ∙ eq-eqb (place_of s sent.id.server) q (ap (λ (i : Option Rattle.cluster_model.specs.declared.ids.MirrorId.MirrorId). place_at i) id ∙ here))
        where
          place_at : Option Rattle.cluster_model.specs.declared.ids.MirrorId.MirrorId → ℕ
          place_at None = 0
          place_at (Some i) = place_of s i.server

      by_place : (b : Bool) → (place_of s sent.id.server == q) ≡ b → (b && has_xids m) ≡ false → Rest m
      by_place true here off = inl (none_left m off)
      by_place false away off = inr (only m s is (other away))

  turn_read : (m : MdsValue) (s : ServedFile) (o : Option WaitingRead) → served m file_at ≡ Some s → slice_get s.reads n ≡ o → Rest (read_call m file_at s n q o).mds
  turn_read m s None is at = inr (only m s is (λ r sent x there. absurd (none-some r (sym at ∙ there))))
  turn_read m s (Some r) is at = turn_goes m s r (read.next_sent r.read m.next_xid) is at refl

  turn_in : (m : MdsValue) (o : Option ServedFile) → served m file_at ≡ o → Rest (read_call_in file_at q n m o).mds
  turn_in m None is = inr (λ s at. absurd (none-some s (sym is ∙ served_suc m p ∙ at)))
  turn_in m (Some s) is = turn_read m s (slice_get s.reads n) is refl

  -- ---- the pass

  abbrev one : ℕ → MdsValue → MdsStep
  one i m = read_call_in file_at q i m (served m file_at)

  reached : (list : List ℕ) (m : MdsValue) → IsOneOf n list → Rest (each one list m).mds
  reached [] m inside = absurd inside
  reached (i ∷ list) m (inl same) = each_so Rest (out_cases p Passed cases) one (λ j x. read_so Rest (out_cases p Passed cases) file_at q j x) list (one i m).mds (subst (λ (j : ℕ). Rest (one j m).mds) same (turn_in m (served m file_at) refl))
  reached (i ∷ list) m (inr inside) = reached list (one i m).mds inside

  read_within : (reads : List WaitingRead) (i : ℕ) (r : WaitingRead) → slice_get reads i ≡ Some r → i < length reads
  read_within [] i r at = absurd (none-some r at)
  read_within (x ∷ reads) zero r at = omega arith
  read_within (x ∷ reads) (suc i) r at = let rest = read_within reads i r at in omega (arith, rest)

  -- whether there is such a READ or not
  pass_of : (m : MdsValue) (o : Option ServedFile) → served m file_at ≡ o → Rest (each one (range_with_len 0 (read_count o)) m).mds
  pass_of m None is = inr (λ s at. absurd (none-some s (sym is ∙ served_suc m p ∙ at)))
  pass_of m (Some s) is = by_read (slice_get s.reads n) refl
    where
      by_read : (o : Option WaitingRead) → slice_get s.reads n ≡ o → Rest (each one (range_with_len 0 (length s.reads)) m).mds
      by_read None at = each_so Rest (out_cases p Passed cases) one (λ j x. read_so Rest (out_cases p Passed cases) file_at q j x) (range_with_len 0 (length s.reads)) m (inr (only m s is (λ r sent x there. absurd (none-some r (sym at ∙ there)))))
      by_read (Some r) at = let less = read_within s.reads n r at in reached (range_with_len 0 (length s.reads)) m (in_range (length s.reads) 0 n (omega arith) (omega (arith, less)))

  pass : (m : MdsValue) → Rest (place_calls file_at q m).mds
  pass m =
      let k : MdsValue = (own_call file_at q (own_call file_at q (own_call file_at q (own_call file_at q m).mds).mds).mds).mds in
      pass_of k (served k file_at) refl

  passes : (list : List ℕ) (m : MdsValue) → IsOneOf q list → Rest (each (place_calls file_at) list m).mds
  passes [] m inside = absurd inside
  passes (i ∷ list) m (inl same) =
      each_so Rest (out_cases p Passed cases) (place_calls file_at) (λ j x. place_so Rest (out_cases p Passed cases) file_at j x) list (place_calls file_at i m).mds (subst (λ (j : ℕ). Rest (place_calls file_at j m).mds) same (pass m))
  passes (i ∷ list) m (inr inside) = passes list (place_calls file_at i m).mds inside

  pub of_files : (kept : List (Option (ℕ × ℕ))) (list : List ℕ) (m : MdsValue) → IsOneOf q (0 ∷ 1 ∷ 2 ∷ 3 ∷ 4 ∷ []) → IsOneOf (suc p) list → Rest (each (file_calls kept) list m).mds
  of_files kept [] m few inside = absurd inside
  of_files kept (i ∷ list) m few (inl same) =
      each_so Rest (out_cases p Passed cases) (file_calls kept) (λ j x. file_so Rest (out_cases p Passed cases) kept j x) list (file_calls kept i m).mds
      (subst (λ (j : ℕ). Rest (file_calls kept j m).mds) same (passes (0 ∷ 1 ∷ 2 ∷ 3 ∷ 4 ∷ []) (and_then (recall_call (numbered (suc p)) m) (repeats (slice_get kept (suc p - 1)))).mds few))
  of_files kept (i ∷ list) m few (inr inside) = of_files kept list (file_calls kept i m).mds few inside

-- ---- a place of the live list, or the last

found_within : {X : Type 0} (test : X → Bool) (xs : List X) (i : ℕ) → position test xs ≡ Some i → i < length xs
found_within test [] i at = absurd (none-some i at)
found_within test (z ∷ xs) i at = (position-Some test (z ∷ xs) i z at).0

few_of : (s : ServedFile) (server : ℕ) → length s.file.layout.live ≤ 4 → (o : Option ℕ) → position (λ (m : Mirror). m.id.server == server) s.file.layout.live ≡ o → place_or_last o ≤ 4
few_of s server few None at = omega arith
few_of s server few (Some place) at = let below : place < length s.file.layout.live = found_within (λ (m : Mirror). m.id.server == server) s.file.layout.live place at in omega (arith, below, few)

pub few_places : (s : ServedFile) (server : ℕ) → length s.file.layout.live ≤ 4 → place_of s server ≤ 4
few_places s server few = few_of s server few (position (λ (m : Mirror). m.id.server == server) s.file.layout.live) refl

pub places : (q : ℕ) → q ≤ 4 → IsOneOf q (0 ∷ 1 ∷ 2 ∷ 3 ∷ 4 ∷ [])
places zero few = inl refl
places (suc zero) few = inr (inl refl)
places (suc (suc zero)) few = inr (inr (inl refl))
places (suc (suc (suc zero))) few = inr (inr (inr (inl refl)))
places (suc (suc (suc (suc zero)))) few = inr (inr (inr (inr (inl refl))))
places (suc (suc (suc (suc (suc q))))) few = absurd (omega (arith, few))

-- ---- the law

module _ (p : ℕ) where
  abbrev pub NoFile : ServedFile → Type 0
  NoFile s = ⊥

  no_file : FileCases NoFile
  no_file = record { reads = λ s n r sent xid at goes i. i; own = λ file s xid c is i. i }

  -- where no file was there none is
  pub none_there : (kept : List (Option (ℕ × ℕ))) (m : MdsValue) → slice_get m.files p ≡ None → At p NoFile (calls_out kept m).mds
  none_there kept m none =
      each_so (At p NoFile) (out_cases p NoFile no_file) (file_calls kept) (λ j x. file_so (At p NoFile) (out_cases p NoFile no_file) kept j x) (range_with_len 1 (length m.files)) m
      (inr (λ s at. none-some s (sym none ∙ at)))

-- what holds of the file at a place behind its own calls, whether there is one or not
pub numbered_in : (m : MdsValue) (p : ℕ) (s : ServedFile) → slice_get m.files p ≡ Some s → IsOneOf (suc p) (range_with_len 1 (length m.files))
numbered_in m p s at = let less = within m.files p s at in in_range (length m.files) 1 (suc p) (omega arith) (omega (arith, less))

pub reads_go : (kept : List (Option (ℕ × ℕ))) (m : MdsValue) → ReadsGoOut kept m
reads_go kept m p s at few some n xid r there = by_sent (read.next_sent r.read xid) refl
  where
    after : (o : Option ServedFile) → slice_get m.files p ≡ o → (q : ℕ) → q ≤ 4 → At p (Passed p q n) (calls_out kept m).mds
    after None none q low = at_more p (NoFile p) (Passed p q n) (calls_out kept m).mds (λ t no_such. absurd no_such) (none_there p kept m none)
    after (Some t) is q low = of_files p q n kept (range_with_len 1 (length m.files)) m (places q low) (numbered_in m p t is)

    by_sent : (o : Option ReadSends) → read.next_sent r.read xid ≡ o → o ≡ None
    by_sent None goes = refl
    by_sent (Some sent) goes = absurd (by_number (after (slice_get m.files p) refl (place_of s sent.id.server) (few_places s sent.id.server few)))
      where
        by_number : At p (Passed p (place_of s sent.id.server) n) (calls_out kept m).mds → ⊥
        by_number (inl none) = some none
        by_number (inr all) = all s at r sent xid there goes refl
