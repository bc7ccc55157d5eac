-- Where a write of the metadata server has ended.
use Rattle.std.proofs.Common.{◌≡◌, Bool, true, false, ◌&&◌, ◌||◌, List, [], ◌∷◌, refl, sym, ap, ◌∙◌}
use Rattle.std.specs.Prelude.{not}
use Rattle.std.specs.List.{list_all, list_any}
use Rattle.mirror_writer.specs.Writers.{WriterMirror, WriterValue, is_committed, open_committed, rest_committed}
use Rattle.mirror_writer.specs.Outstanding.{has_no_mirror}

-- one mirror more, which has failed or not and is committed or not, in front of others
one_more : (failed committed all some none : Bool) → ((all && some) || none) ≡ all
    → ((((failed || committed) && all) && ((not failed && committed) || some)) || (failed && none)) ≡ ((failed || committed) && all)
one_more true committed all some none others = others
one_more false true true some none others = refl
one_more false true false some none others = refl
one_more false false all some none others = refl

over_of : (mirrors : List WriterMirror)
    → ((open_committed mirrors && list_any (λ m. not m.has_failed && is_committed m) mirrors) || list_all (λ (m : WriterMirror). m.has_failed) mirrors) ≡ open_committed mirrors
over_of [] = refl
over_of (m ∷ mirrors) =
    one_more m.has_failed (is_committed m) (open_committed mirrors) (list_any (λ m. not m.has_failed && is_committed m) mirrors) (list_all (λ (m : WriterMirror). m.has_failed) mirrors)
    (over_of mirrors)

pub by_rest : (w : WriterValue) → rest_committed w ≡ true → true ≡ open_committed w.mirrors
by_rest w is = sym (ap (λ b. b || has_no_mirror w) is) ∙ over_of w.mirrors

pub by_none : (w : WriterValue) → rest_committed w ≡ false → has_no_mirror w ≡ open_committed w.mirrors
by_none w is = sym (ap (λ b. b || has_no_mirror w) is) ∙ over_of w.mirrors
