use Rattle.std.proofs.Common.{◌≡◌, ℕ, ◌<◌, true, List, [], ◌∷◌, ◌++◌, length, refl, sym, ap, subst, ◌∙◌, arith}
use Rattle.std.specs.Prelude.{position, bytes_eq}
use Rattle.mds_rule.specs.MdsStates.{ServedFile}
use Rattle.served_files.specs.Quiet.{is_marked}
use Rattle.served_files.proofs.FileLists.{AreKept, stay_kept, one_more}
use Rattle.served_files.proofs.NameLists.{named_is, absent_is}
use Rattle.served_files.proofs.files.Files.add.Goals as goal

pub add-requires : goal.add-requires
add-requires c = record {
  absent = absent_is (position (bytes_eq c.args.name.now) c.self.inside.names) (named_is c.self.inside.names c.self.inside.files.items c.args.self.now c.args.name.now (position (bytes_eq c.args.name.now) c.self.inside.names) c.self.invariant.0 c.self.view_is refl ∙ c.requires.absent);
}

pub invariant_of-self : goal.invariant_of-self
invariant_of-self c = subst (λ (l : List ServedFile). AreKept c.self.inside.names c.self.inside.touched.due.keys c.self.inside.touched.restless.keys l) (sym c.reserve.ensures.items) c.self.invariant

pub invariant_of-self-in_err-mark : goal.invariant_of-self-in_err-mark
invariant_of-self-in_err-mark c =
    subst (λ (l : List ServedFile). AreKept c.self.inside.names c.mark.new.touched.due.keys c.mark.new.touched.restless.keys l) (sym c.reserve.ensures.items)
    (stay_kept c.self.inside.names c.self.inside.touched.due.keys c.mark.new.touched.due.keys c.self.inside.touched.restless.keys c.mark.new.touched.restless.keys c.self.inside.files.items c.mark.ensures.stay_due
    c.mark.ensures.stay_restless c.self.invariant)

pub invariant_of-self-in_err-add : goal.invariant_of-self-in_err-add
invariant_of-self-in_err-add c =
    subst (λ (l : List ServedFile). AreKept c.add.new.self c.mark.new.touched.due.keys c.mark.new.touched.restless.keys l) (sym c.reserve.ensures.items)
    (subst (λ (l : List (List ℕ)). AreKept l c.mark.new.touched.due.keys c.mark.new.touched.restless.keys c.self.inside.files.items) (sym c.in_err-add.ensures.err)
    (stay_kept c.self.inside.names c.self.inside.touched.due.keys c.mark.new.touched.due.keys c.self.inside.touched.restless.keys c.mark.new.touched.restless.keys c.self.inside.files.items c.mark.ensures.stay_due
    c.mark.ensures.stay_restless c.self.invariant))

pub invariant_of-self-2 : goal.invariant_of-self-2
invariant_of-self-2 c =
    let files = c.self.inside.files.items in
    let new = c.new.result in
    let reserved = c.in_ok-reserve.ensures.items in
    let items : c.push.new.self.items ≡ files ++ new ∷ [] = c.in_ok-push.ensures.items ∙ ap (λ (l : List ServedFile). l ++ new ∷ []) reserved in
    let room : length files < 4096 = omega (arith, ap (λ (l : List ServedFile). length l) c.self.view_is, c.requires.few) in
    let place : c.len-place.result ≡ length files = omega (arith, c.len-place.ensures, ap (λ (l : List ServedFile). length l) reserved) in
    let due : is_marked c.mark.new.touched.due.keys (length files) ≡ true = subst (λ (n : ℕ). is_marked c.mark.new.touched.due.keys n ≡ true) place c.in_ok-mark.ensures.due in
    let restless : is_marked c.mark.new.touched.restless.keys (length files) ≡ true = subst (λ (n : ℕ). is_marked c.mark.new.touched.restless.keys n ≡ true) place c.in_ok-mark.ensures.restless in
    let names : c.add.new.self ≡ c.self.inside.names ++ new.name ∷ [] =
    c.in_ok-add.ensures.ok ∙ ap (λ (n : List ℕ). c.self.inside.names ++ n ∷ []) (sym c.in_ok-own.ensures ∙ ap (λ (s : ServedFile). s.name) (sym c.new.ensures)) in
    subst (λ (l : List (List ℕ)). AreKept l c.mark.new.touched.due.keys c.mark.new.touched.restless.keys c.push.new.self.items) (sym names)
    (subst (λ (l : List ServedFile). AreKept (c.self.inside.names ++ new.name ∷ []) c.mark.new.touched.due.keys c.mark.new.touched.restless.keys l) (sym items) (one_more c.self.inside.names c.self.inside.touched.due.keys c.mark.new.touched.due.keys c.self.inside.touched.restless.keys c.mark.new.touched.restless.keys files new room c.mark.ensures.stay_due due c.mark.ensures.stay_restless restless c.self.invariant))
