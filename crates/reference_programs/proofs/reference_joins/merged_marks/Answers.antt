use Rattle.std.proofs.Common.{rules, ◌≡◌, ◌<◌, ℕ, List, ◌++◌, length, slice_index, get_or, ap, ◌∙◌, sym, subst, take, drop}
use Rattle.std.proofs.Common.{refl, arith}
use Rattle.std.proofs.lemmas.List.{take_more, take_all, take-append-le, get_or_read_under}
use Rattle.std.proofs.lemmas.List.FromFn.{length-range_with_len, get_or-range_with_len}
use Rattle.grid_base.specs.declared.piece.Piece.{Piece}
use Rattle.grid_base.specs.declared.piece.Piece.TheVariants.{Edge}
use Rattle.grid_base.specs.Numbers.{IsPiece, start_of, end_of}
use Rattle.grid_base.proofs.Pieces.{end_of-vertex}
use Rattle.reference_programs.proofs.Marks.{own_marks, merged_marks}
use Rattle.reference_programs.proofs.reference_joins.merged_marks.Goals as goal

pub loop-p-init : goal.loop-p-init
loop-p-init c =
    let marks = c.in_ok-marks.marks.items in
    let count = c.vertices.result in
    own_marks c.args.size marks
    (ap length c.in_ok-marks.ensures ∙ length-range_with_len 0 count ∙ c.vertices.ensures)
    (λ k below. ap (λ (xs : List ℕ). slice_index xs k) c.in_ok-marks.ensures
    ∙ get_or-range_with_len 0 count k 0 (subst (λ (n : ℕ). k < n) (sym c.vertices.ensures) below) ∙ omega arith)

-- a list that was written whole
written : (xs ys : List ℕ) (n : ℕ) → n ≡ length xs → length ys ≡ length xs → take n (ys ++ drop (length ys) xs) ≡ ys
written xs ys n all same = take-append-le n ys (drop (length ys) xs) (omega arith) ∙ take_all n ys (omega arith)

pub loop-p-preserved : goal.loop-p-preserved
loop-p-preserved c =
    let before = c.loop-p.marks.items in
    let after = c.merge.new.marks in
    let none : Piece = Edge (record { 0 = 0 }) in
    let p : Piece = get_or c.args.pieces.now c.loop-p.p-index none in
    let at : c.loop-p.p-index < length c.args.pieces.now = c.loop-p-test.true in
    let piece : IsPiece c.args.size p = c.requires c.loop-p.p-index none at in
    let near : start_of p < length before = rw c.loop-p.invariant.long piece.0 in
    let far : end_of c.args.size p < length before = rw c.loop-p.invariant.long (end_of-vertex c.args.size p piece) in
    let all : c.loop-p.marks.len ≡ length before = search rules in
    let long : length after ≡ length before = c.merge.auto.marks ∙ ap length c.as_mut_slice.ensures.value in
    let old : c.index.result.now ≡ slice_index before (start_of p) =
    get_or_read_under before (start_of p) (length before) _ 0 (rw c.ends_of.ensures.start at c.index.ensures) near refl in
    let new : c.index-in-loop-p.result.now ≡ slice_index before (end_of c.args.size p) =
    get_or_read_under before (end_of c.args.size p) (length before) _ 0
    (rw c.ends_of.ensures.end at c.index-in-loop-p.ensures) far refl in
    rw (written before after c.loop-p.marks.len all long, take_more c.args.pieces.now c.loop-p.p-index none at)
    (merged_marks c.args.size (take c.loop-p.p-index c.args.pieces.now) p before after c.loop-p.invariant piece long
    (rw (c.as_mut_slice.ensures.value, old, new) at c.merge.ensures))
