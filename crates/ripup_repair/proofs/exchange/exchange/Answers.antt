use Rattle.std.proofs.Common.{◌≡◌, ◌<◌, ◌+◌, ◌-◌, ◌∷◌, ◌++◌, ℕ, List, length, take, drop, get_or, slice_set, sym, ◌∙◌, ap, arith}
use Rattle.ripup_repair.proofs.Common.{set-append_seam, take_more, length-take, append_assoc, drop_more, get_or-append_right}
use Rattle.ripup_repair.proofs.Common.{slice_get-get_or, Piece, at_positions, with_elements, at_positions-long, All-take}
use Rattle.ripup_repair.proofs.Positions.{at_positions-push, with_elements-other, with_elements-push, earlier_apart}
use Rattle.ripup_repair.proofs.exchange.exchange.Goals as goal

pub loop-i-preserved : goal.loop-i-preserved
loop-i-preserved c =
    let trees : List (List Piece) = c.args.trees.now in
    let sets : List (List Piece) = c.args.sets.now in
    let ks : List ℕ = c.args.positions.now in
    let i : ℕ = c.loop-i.i in
    let k : ℕ = get_or ks i 0 in
    let short : i < length ks = c.loop-i-test.true in
    let in_sets : i < length sets = omega (arith, short, c.requires.long) in
    let in_trees : k < length trees = c.requires.positions i 0 short in
    let so_far : List (List Piece) = at_positions trees (take i ks) in
    let long : length so_far ≡ i =
    at_positions-long trees (take i ks) (All-take (λ k. k < length trees) i ks c.requires.positions)
    ∙ length-take i ks ∙ omega (arith, short) in
    let even : length (take i sets) ≡ length (take i ks) =
    length-take i sets ∙ omega (arith, length-take i ks, short, in_sets) in
    let none : i - i ≡ 0 = omega arith in
    let y : List Piece = get_or sets i c.index-sets-i.result in
    let t : List Piece = get_or trees k c.index-trees-positions.result in
    let rest : drop i sets ≡ y ∷ drop (i + 1) sets = drop_more sets i c.index-sets-i.result in_sets in
    let now : c.loop-i.sets ≡ so_far ++ y ∷ drop (i + 1) sets = c.loop-i.invariant.sets ∙ ap (λ l. so_far ++ l) rest in
    let read : c.swap.new.x ≡ y =
    c.swap.ensures.x_after
    ∙ ap (λ l. get_or l i c.index-sets-i.result) now
    ∙ get_or-append_right so_far (y ∷ drop (i + 1) sets) i i c.index-sets-i.result long (omega arith)
    ∙ ap (λ n. get_or (y ∷ drop (i + 1) sets) n c.index-sets-i.result) none in
    let had : c.swap.new.y ≡ t =
    c.swap.ensures.y_after
    ∙ ap (λ l. get_or l k c.index-trees-positions.result) c.loop-i.invariant.trees
    ∙ with_elements-other trees (take i ks) (take i sets) k c.index-trees-positions.result
    (earlier_apart ks i c.requires.rising short) in
    let more = at_positions-push trees (take i ks) k t (slice_get-get_or trees k c.index-trees-positions.result in_trees) in
    record {
      trees = rw (take_more ks i 0 short, take_more sets i c.index-sets-i.result in_sets)
          (rw (with_elements-push trees (take i ks) (take i sets) k y even)
          (ap (λ l. slice_set l k c.swap.new.x) c.loop-i.invariant.trees
          ∙ ap (slice_set (with_elements trees (take i ks) (take i sets)) k) read));
      sets = rw (take_more ks i 0 short, more, append_assoc)
          (ap (λ l. slice_set l i c.swap.new.y) now
          ∙ ap (λ n. slice_set (so_far ++ y ∷ drop (i + 1) sets) n c.swap.new.y) (sym long)
          ∙ set-append_seam so_far y (drop (i + 1) sets) c.swap.new.y
          ∙ ap (λ z. so_far ++ z ∷ drop (i + 1) sets) had);
    }
