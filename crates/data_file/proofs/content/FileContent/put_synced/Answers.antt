use Rattle.std.proofs.Common.{◌≡◌, ◌<◌, ℕ, List, [], ◌∷◌, ◌++◌, length, ap, ◌∙◌, arith}
use Rattle.std.proofs.lemmas.Grind.{common_steps}
use Rattle.std.proofs.lemmas.Result.{on_ok_weaker}
use Rattle.cluster_model.specs.Content.{overlay_all}
use Rattle.file_pages.specs.Pages.{bytes_of}
use Rattle.data_file.proofs.Paging.{paged_none, paged_taken, same_bytes, put_stored, written_bytes, stored_settled, settled_bytes, in_place, all_stable}
use Rattle.data_file.proofs.content.FileContent.put_synced.Goals as goal

pub invariant_of-self : goal.invariant_of-self
invariant_of-self c =
    let f = c.self.inside in
    let some : 0 < length c.args.bytes.now = grind (arith, common_steps) in
    let none : f.pending.items ≡ [] = grind (arith, common_steps) in
    let empty = c.self.invariant.clean none in
    paged_none c.write.new.self f.dirty f.pending.items (put_stored f.dirty f.stable c.write.new.self c.args.at c.args.bytes.now c.write.result some empty c.self.invariant.stored c.write.ensures.ok c.write.ensures.err) empty none

pub returns-then-is_empty-2-clause-ok : goal.returns-then-is_empty-2-clause-ok
returns-then-is_empty-2-clause-ok c =
    let f = c.self.inside in
    let some : 0 < length c.args.bytes.now = grind (arith, common_steps) in
    let none : f.pending.items ≡ [] = grind (arith, common_steps) in
    let empty = c.self.invariant.clean none in
    on_ok_weaker c.write.result
    (λ is. rw (← c.self.view_is) (in_place (bytes_of f.stable) (bytes_of c.write.new.self) f.pending.items c.args.at c.args.bytes.now some none (written_bytes f.dirty f.stable c.write.new.self c.args.at c.args.bytes.now some empty c.self.invariant.stored is)))
    c.write.ensures.ok

pub invariant_of-self-2 : goal.invariant_of-self-2
invariant_of-self-2 c =
    let f = c.self.inside in
    let some : 0 < length c.args.bytes.now = grind (arith, common_steps) in
    let put = c.in_ok-put_over.ensures in
    let taken = paged_taken f.stable f.dirty c.put_over.new.stable c.put_over.new.dirty f.pending.items c.args.at c.args.bytes.now some put.stable put.ok put.room c.self.invariant in
    paged_none c.adopt_reserved.new.self c.adopt_reserved.new.dirty c.new.result.items
    (stored_settled c.put_over.new.stable c.put_over.new.dirty c.adopt_reserved.new.self (f.pending.items ++ record { at = c.args.at; bytes = c.args.bytes.now } ∷ []) c.adopt_reserved.ensures.adopted taken)
    c.adopt_reserved.ensures.empty c.new.ensures.items

pub returns-clause-ok : goal.returns-clause-ok
returns-clause-ok c =
    let f = c.self.inside in
    let some : 0 < length c.args.bytes.now = grind (arith, common_steps) in
    let put = c.in_ok-put_over.ensures in
    let taken = paged_taken f.stable f.dirty c.put_over.new.stable c.put_over.new.dirty f.pending.items c.args.at c.args.bytes.now some put.stable put.ok put.room c.self.invariant in
    let bytes = settled_bytes c.put_over.new.stable c.put_over.new.dirty c.adopt_reserved.new.self (f.pending.items ++ record { at = c.args.at; bytes = c.args.bytes.now } ∷ []) c.adopt_reserved.ensures.adopted taken in
    rw (← c.self.view_is, c.new.ensures.items) (all_stable (bytes_of f.stable) (bytes_of c.adopt_reserved.new.self) f.pending.items c.args.at c.args.bytes.now some (bytes ∙ ap (λ (xs : List ℕ). overlay_all xs (f.pending.items ++ record { at = c.args.at; bytes = c.args.bytes.now } ∷ [])) (same_bytes f.stable c.put_over.new.stable put.stable)))
