-- What asking comes to.
use Rattle.std.proofs.Common.{◌≡◌, ℕ, List, Option, Result, Ok, Err, refl, sym, ap, ◌∙◌}
use Rattle.std.specs.Prelude.{option_map, OnOk}
use Rattle.std.specs.List.{find, list_any, position_or_len}
use Rattle.cluster_model.specs.declared.ids.FileId.{FileId}
use Rattle.cluster_model.specs.declared.ids.Cred.{Cred}
use Rattle.recall.specs.declared.recall.Recall.{Recall}
use Rattle.recall.specs.declared.kept_recall.KeptRecall.{KeptRecall}
use Rattle.recall.specs.Recalls.{is_of, is_before, is_under_way}
use Rattle.recall.specs.Entries.{grant_in, recalls_of, is_out_to, holder}
use Rattle.recall.proofs.Standing.{any_in, found_in}

pub is_known : (file : FileId) (cred : Cred) (es : List KeptRecall) (recalls : List Recall) (seen : List KeptRecall) → recalls_of es ≡ recalls → seen ≡ es
    → is_under_way file cred recalls ≡ list_any (λ e. is_of file cred e.recall) seen
is_known file cred es recalls seen shown same =
    ap (is_under_way file cred) (sym shown) ∙ sym (any_in (is_of file cred) es) ∙ ap (list_any (λ e. is_of file cred e.recall)) (sym same)

pub holder_is : (client : ℕ) (es seen : List KeptRecall) (grant : Option (FileId × Cred)) → seen ≡ es → grant ≡ option_map grant_in (find (λ e. is_out_to client e.recall) seen) → grant ≡ holder (recalls_of es) client
holder_is client es seen grant same is = is ∙ ap (λ (l : List KeptRecall). option_map grant_in (find (λ e. is_out_to client e.recall) l)) same ∙ found_in (is_out_to client) es

pub place_is : (r : Recall) (es seen : List KeptRecall) (place : ℕ) → seen ≡ es → place ≡ position_or_len (λ e. is_before r e.recall) seen → place ≡ position_or_len (λ e. is_before r e.recall) es
place_is r es seen place same is = is ∙ ap (position_or_len (λ e. is_before r e.recall)) same

-- what was no error did what it says
pub was_ok : {E : Type 0} (r : Result (Unit {0}) E) {P : Type 0} → ((e : E) → r ≡ Err e → ⊥) → OnOk r P → P
was_ok (Ok done) no_error says = says
was_ok (Err e) no_error says = absurd (no_error e refl)
