use Rattle.std.proofs.Common.{◌≡◌, ◌<◌, ◌∷◌, ◌++◌, [], ℕ, Bool, cond, List, length, take, get_or, slice_index_or, sym, ◌∙◌, ap}
use Rattle.std.proofs.Common.{subst, arith, below_more}
use Rattle.ripup_repair.proofs.Common.{filter, range_with_len, take_all, filter_more, get_or-range_with_len}
use Rattle.ripup_repair.proofs.Common.{length-range_with_len, get_or_from_slice_get, AllZip-long, Piece, At, size_of, share_at}
use Rattle.ripup_repair.proofs.Common.{load, IsRising, ArePieces, IsRoute, At-read, holds_overfull, routing_pieces, Grid}
use Rattle.ripup_repair.proofs.RepairNets.{holds_overfull-same, is_due, load_on-edge}
use Rattle.ripup_repair.proofs.overfull.nets_to_repair.Goals as goal

pub holds_overfull-due-requires-clause-pieces : goal.holds_overfull-due-requires-clause-pieces
holds_overfull-due-requires-clause-pieces c =
    let g : Grid = c.args.design.now.grid in
    subst (ArePieces (size_of g)) (sym c.index-trees-position.is) (routing_pieces g c.args.design.now.nets c.args.trees.now
    c.requires.routing c.loop-position.position c.index-trees-position.result c.loop-position-test.true)

pub overflow_cast-position : goal.overflow_cast-position
overflow_cast-position c =
    let d = c.args.design.now in
    omega (
      arith,
      c.loop-position-test.true,
      AllZip-long (IsRoute d.grid) d.nets c.args.trees.now c.requires.routing,
      d.limits.count,
    )

pub loop-position-preserved : goal.loop-position-preserved
loop-position-preserved c =
    let d = c.args.design.now in
    let trees : List (List Piece) = c.args.trees.now in
    let k = c.loop-position.position in
    let short : k < length trees = c.loop-position-test.true in
    let tree : List Piece = c.index-trees-position.result in
    let all : List ℕ = range_with_len 0 (length trees) in
    let test : ℕ → Bool = is_due d trees in
    let at : At trees k tree = At-read trees k tree c.index-trees-position.is short in
    let due : c.holds_overfull-due.result ≡ test k =
    c.holds_overfull-due.ensures.overfull
    ∙ holds_overfull-same d.grid (λ e. share_at e c.args.share.now.party) (load d.grid d.nets trees) tree
    (subst (ArePieces (size_of d.grid)) (sym c.index-trees-position.is) (routing_pieces d.grid d.nets trees c.requires.routing
    k tree short))
    (λ e within. c.requires.loads e (omega (arith, within)) ∙ load_on-edge d.grid d.nets trees e within)
    ∙ ap (λ t. holds_overfull d.grid (load d.grid d.nets trees) t) (sym (get_or_from_slice_get trees k tree [] at)) in
    let here : get_or all k k ≡ k = get_or-range_with_len 0 (length trees) k k short ∙ omega arith in
    record {
      found = c.in_ok-push_if.ensures.pushed
          ∙ ap (λ l. l ++ cond c.holds_overfull-due.result (k ∷ []) []) c.loop-position.invariant.found
          ∙ ap (λ b. filter test (take k all) ++ cond b (k ∷ []) []) due
          ∙ ap (λ j. filter test (take k all) ++ cond (test j) (j ∷ []) []) (sym here)
          ∙ sym (filter_more test all k k (omega (arith, short, length-range_with_len 0 (length trees))));
      rising = below_more (λ j. (e : List Piece) → IsRising (slice_index_or trees j e)) k c.loop-position.invariant.rising
          (λ e. subst IsRising (sym (get_or_from_slice_get trees k tree e at)) c.holds_overfull-due.ensures.rising);
    }

pub returns-clause-positions : goal.returns-clause-positions
returns-clause-positions c =
    let all : List ℕ = range_with_len 0 (length c.args.trees.now) in
    c.loop-position.invariant.found
    ∙ ap (filter (is_due c.args.design.now c.args.trees.now)) (take_all c.loop-position.position all (omega
    (arith, c.loop-position-test.false, length-range_with_len 0 (length c.args.trees.now))))
