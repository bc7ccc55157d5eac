-- What a sink got of the text of the tasks to which a run led.
use Rattle.std.proofs.Common.{◌≡◌, ℕ, length, take, true, false, List, [], ◌++◌, Option, Some, Result, Ok, Err, refl, sym, ap, subst, ◌∙◌, inl, inr, ◌⊎◌}
use Rattle.std.specs.Prelude.{OnErr}
use Rattle.std.proofs.lemmas.List.{append-nil, append_assoc, take_at}
use Rattle.ff_xdr.specs.declared.error.NoMemory.{NoMemory as WantsMemory}
use Rattle.rpc_record.specs.declared.stream.Failed.{Failed}
use Rattle.line_runs.specs.declared.end.LineStep.{LineStep}
use Rattle.line_runs.specs.declared.end.RunEnd.{RunEnd}
use Rattle.line_runs.specs.declared.end.RunEnd.TheVariants.{Done, BadLine, ReadFault, WriteFault, NoMemory, Limit}
use Rattle.line_runs.specs.Tasks.{Ahead, HasPrintedPart}
use Rattle.line_runs.specs.Writing.{IsBeginningOf, WritesText}
use Rattle.line_runs.specs.Playback.{RunState, Owes, OwesPart, Relieves, ClosesRun}
use Rattle.line_runs.specs.Leads.{LeadsOn, HasLed, HadLed, GotPart, StepHasLed, RunHasLed, EndHasLed}

-- ---- a step that wanted memory

-- what it printed was cut off again
pub cut_off : {State : Type 0} (old : Ahead State) (text printed now : List ℕ) (n : ℕ) → n ≡ length text → HasPrintedPart old text printed → now ≡ take n printed → now ≡ text
cut_off old text printed now n length_is part cut =
    cut ∙ ap (λ (l : List ℕ). take n l) part.now ∙ ap (λ (k : ℕ). take k (text ++ part.part)) length_is ∙ take_at text part.part (length text) refl

pub prints_nothing : {State : Type 0} (old : Ahead State) (text now : List ℕ) → now ≡ text → HasPrintedPart old text now
prints_nothing old text now same = record { part = []; now = same ∙ sym (append-nil text); begins = λ lines. record { rest = (old.meaning lines).text; whole = refl } }

-- ---- beginnings

-- a beginning of a beginning
begins_through : (x y z : List ℕ) → IsBeginningOf x y → IsBeginningOf y z → IsBeginningOf x z
begins_through x y z one two = record { rest = one.rest ++ two.rest; whole = sym (append_assoc x one.rest two.rest) ∙ ap (λ l. l ++ two.rest) one.whole ∙ two.whole }

-- the same text before both
begins_behind : (front x y : List ℕ) → IsBeginningOf x y → IsBeginningOf (front ++ x) (front ++ y)
begins_behind front x y begins = record { rest = begins.rest; whole = append_assoc front x begins.rest ∙ ap (λ l. front ++ l) begins.whole }

module _ {Self : Type 0} (leads : Self → List ℕ → Type 0) (closing : Self → List ℕ) (base : List ℕ) where
  pub stands_waits : (held : Option (List ℕ)) (task : Self) (waiting : List ℕ) → HasLed leads base held task waiting → HadLed leads closing base held waiting
  stands_waits held task waiting s = record { front = s.front; got = s.got; task = task; text = waiting; led = s.led; begins = record { rest = closing task; whole = refl } }

  -- the sink got a beginning of what waited
  got_of : (held held' : Option (List ℕ)) (waiting part : List ℕ) → IsBeginningOf part waiting → (w : HadLed leads closing base held waiting) → held' ≡ Some ((base ++ w.front) ++ part) → GotPart leads closing base held'
  got_of held held' waiting part begins w is = record {
    task = w.task;
    text = w.front ++ w.text;
    led = w.led;
    part = w.front ++ part;
    begins = subst (λ l. IsBeginningOf (w.front ++ part) l) (sym (append_assoc w.front w.text (closing w.task))) (begins_behind w.front part (w.text ++ closing w.task) (begins_through part waiting (w.text ++ closing w.task) begins w.begins));
    got = is ∙ ap (λ l. Some l) (append_assoc base w.front part);
  }

  -- ---- text that was written

  pub writes : (held held' : Option (List ℕ)) (waiting : List ℕ) (r : Result (Unit {0}) Failed) → HadLed leads closing base held waiting → WritesText held waiting r held' → GotPart leads closing base held'
  writes held held' waiting r w wrote = by_result r (subst (λ h. WritesText h waiting r held') w.got wrote)
    where
      by_result : (q : Result (Unit {0}) Failed) → WritesText (Some (base ++ w.front)) waiting q held' → GotPart leads closing base held'
      by_result (Ok x) took = got_of held held' waiting waiting (record { rest = []; whole = append-nil waiting }) w took
      by_result (Err e) took = got_of held held' waiting took.0 took.1 w took.2

  pub flushed : (held held' : Option (List ℕ)) (task : Self) (waiting : List ℕ) (r : Result (Unit {0}) Failed) (x : Unit {0}) → r ≡ Ok x → HasLed leads base held task waiting → WritesText held waiting r held' → HasLed leads base held' task []
  flushed held held' task waiting r x is s wrote =
      let took : WritesText (Some (base ++ s.front)) waiting (Ok x) held' = subst (λ h. WritesText h waiting (Ok x) held') s.got (subst (λ q. WritesText held waiting q held') is wrote) in record {
        front = s.front ++ waiting;
        got = took ∙ ap (λ l. Some l) (append_assoc base s.front waiting);
        led = subst (λ l. leads task l) (sym (append-nil (s.front ++ waiting))) s.led;
      }

  -- ---- text that was written where it is long

  pub relieved : (held held' : Option (List ℕ)) (task : Self) (old new : RunState) (r : Result (Unit {0}) Failed) (x : Unit {0}) → r ≡ Ok x → HasLed leads base held task old.text → Relieves held old r held' new → HasLed leads base held' task new.text
  relieved held held' task old new r x is s relieves =
      let owes : Owes held old.text held' new.text = (subst (λ q. Relieves held old q held' new) is relieves).1 in
      let took : Owes (Some (base ++ s.front)) old.text held' new.text = subst (λ h. Owes h old.text held' new.text) s.got owes in record {
        front = s.front ++ took.0;
        got = took.1 ∙ ap (λ l. Some l) (append_assoc base s.front took.0);
        led = subst (λ l. leads task l) (ap (λ l. s.front ++ l) (sym took.2) ∙ sym (append_assoc s.front took.0 new.text)) s.led;
      }

  pub unrelieved : (held held' : Option (List ℕ)) (task : Self) (old new : RunState) (r : Result (Unit {0}) Failed) (e : Failed) → r ≡ Err e → HasLed leads base held task old.text → Relieves held old r held' new → GotPart leads closing base held'
  unfolding stands_waits
  unrelieved held held' task old new r e is s relieves =
      let owes : OwesPart held old.text held' [] = subst (λ q. Relieves held old q held' new) is relieves in
      let took : Owes (Some (base ++ s.front)) old.text held' owes.0 = subst (λ h. Owes h old.text held' owes.0) s.got owes.1 in
      got_of held held' old.text took.0 (record { rest = owes.0; whole = took.2 }) (stands_waits held task old.text s) took.1

  -- ---- a step within a line

  pub stepped : (held : Option (List ℕ)) (task new : Self) (text text' : List ℕ) (r : Result LineStep WantsMemory) → LeadsOn leads task text r new text' → OnErr r (text' ≡ text) → HasLed leads base held task text → StepHasLed leads closing base r held new text'
  stepped held task new text text' (Ok step) on same s = record { front = s.front; got = s.got; led = on s.front step refl s.led }
  stepped held task new text text' (Err e) on same s = stands_waits held task text' (subst (λ l. HasLed leads base held task l) (sym same) s)

  pub step_stands : (held : Option (List ℕ)) (task : Self) (text : List ℕ) (r : Result LineStep WantsMemory) (step : LineStep) → r ≡ Ok step → StepHasLed leads closing base r held task text → HasLed leads base held task text
  step_stands held task text r step is s = subst (λ q. StepHasLed leads closing base q held task text) is s

  pub step_stood : (held : Option (List ℕ)) (task : Self) (text : List ℕ) (r : Result LineStep WantsMemory) (e : WantsMemory) → r ≡ Err e → StepHasLed leads closing base r held task text → HadLed leads closing base held text
  step_stood held task text r e is s = subst (λ q. StepHasLed leads closing base q held task text) is s

  -- ---- where a run could not write

  pub run_got : (held : Option (List ℕ)) (task : Self) (text : List ℕ) (q : Result (Option RunEnd) Failed) (e : Failed) → q ≡ Err e → GotPart leads closing base held → RunHasLed leads closing base q held task text
  run_got held task text q e is got = subst (λ x. RunHasLed leads closing base x held task text) (sym is) got

  pub run_lost : (held : Option (List ℕ)) (task : Self) (text : List ℕ) (r : Result (Option RunEnd) Failed) (e : Failed) → r ≡ Err e → RunHasLed leads closing base r held task text → GotPart leads closing base held
  run_lost held task text r e is s = subst (λ x. RunHasLed leads closing base x held task text) is s

  pub all_got : (held : Option (List ℕ)) (task : Self) (text : List ℕ) (q : Result RunEnd Failed) (e : Failed) → q ≡ Err e → GotPart leads closing base held → EndHasLed leads closing base q held task text
  all_got held task text q e is got = subst (λ x. EndHasLed leads closing base x held task text) (sym is) got

  pub all_lost : (held : Option (List ℕ)) (task : Self) (text : List ℕ) (q : Result RunEnd Failed) (e : Failed) → q ≡ Err e → EndHasLed leads closing base q held task text → GotPart leads closing base held
  all_lost held task text q e is s = subst (λ x. EndHasLed leads closing base x held task text) is s

  -- ---- the closing text

  closes_part : (held : Option (List ℕ)) (task : Self) (text part : List ℕ) → IsBeginningOf part (closing task) → HasLed leads base held task text → HadLed leads closing base held (text ++ part)
  closes_part held task text part begins s = record { front = s.front; got = s.got; task = task; text = text; led = s.led; begins = begins_behind text part (closing task) begins }

  -- all of it, or a beginning
  closed : {A B C : Type 0} (held : Option (List ℕ)) (task : Self) (text text' : List ℕ) → (A × (text' ≡ text ++ closing task)) ⊎ (B × C × ((part : List ℕ) × IsBeginningOf part (closing task) × (text' ≡ text ++ part))) → HasLed leads base held task text
      → HadLed leads closing base held text'
  closed held task text text' (inl whole) s = subst (λ l. HadLed leads closing base held l) (sym whole.1) (closes_part held task text (closing task) (record { rest = []; whole = append-nil (closing task) }) s)
  closed held task text text' (inr (b, c, part)) s = subst (λ l. HadLed leads closing base held l) (sym part.2) (closes_part held task text part.0 part.1 s)

  pub close_stands : (held : Option (List ℕ)) (task : Self) (text text' : List ℕ) (end end' : RunEnd) → ClosesRun end (closing task) text end' text' → RunHasLed leads closing base (Ok (Some end)) held task text → HadLed leads closing base held text'
  close_stands held task text text' Done end' closes s = closed held task text text' closes s
  close_stands held task text text' (BadLine n) end' closes s = closed held task text text' closes s
  close_stands held task text text' (Limit count) end' closes s = closed held task text text' closes s
  close_stands held task text text' ReadFault end' (inl same) s = subst (λ l. HadLed leads closing base held l) (sym same.1) s
  close_stands held task text text' ReadFault end' (inr part) s = let no : false ≡ true = part.0 in absurd (cc)
  close_stands held task text text' WriteFault end' (inl same) s = subst (λ l. HadLed leads closing base held l) (sym same.1) s
  close_stands held task text text' WriteFault end' (inr part) s = let no : false ≡ true = part.0 in absurd (cc)
  close_stands held task text text' NoMemory end' (inl same) s = subst (λ l. HadLed leads closing base held l) (sym same.1) s
  close_stands held task text text' NoMemory end' (inr part) s = let no : false ≡ true = part.0 in absurd (cc)
