use Rattle.std.proofs.Common.{◌≡◌, length, slice_index, Contains, sym, refl}
use Rattle.std.proofs.lemmas.List.{get_or_read_under}
use Rattle.std.proofs.lemmas.List.Elements.{All-contains}
use Rattle.grid_base.specs.declared.vertex.Vertex.{Vertex}
use Rattle.grid_base.specs.Numbers.{IsVertex}
use Rattle.reference_programs.proofs.Marks.{joined_by_marks}
use Rattle.reference_programs.proofs.reference_joins.joins_by_merging.Goals as goal

pub all_have_mark-requires : goal.all_have_mark-requires
all_have_mark-requires c k d below =
    rw (c.as_slice.ensures.value, c.in_ok-marks.ensures.long) (c.requires.vertices k d below)

pub returns : goal.returns
returns c =
    let first = c.in-Some.first.now in
    let marks = c.in_ok-marks.marks.items in
    let terminals = c.args.terminals.now in
    let item = c.in-Some.ensures.item in
    let at : Contains terminals first = (0, item.3.0, sym item.1) in
    let vertex : IsVertex c.args.size first.0 =
    All-contains (λ (t : Vertex). IsVertex c.args.size t.0) terminals first c.requires.vertices at in
    let mark : c.index-mark.result.now ≡ slice_index marks first.0 =
    get_or_read_under marks first.0 (length marks) _ 0 c.index-mark.ensures (rw c.in_ok-marks.ensures.long vertex) refl in
    let joined = joined_by_marks c.args.size c.args.pieces.now marks terminals first c.in_ok-marks.ensures at
    c.requires.vertices in
    let answer = rw (c.as_slice.ensures.value, mark) at c.all_have_mark.ensures in
    (λ yes. joined.0 (answer.0 yes), λ joins. answer.1 (joined.1 joins))
