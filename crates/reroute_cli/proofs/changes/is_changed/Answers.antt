use Rattle.std.proofs.Common.{◌≡◌, ◌≢◌, ◌<◌, ◌↔◌, ℕ, Bool, IsTrue, List, not, true, false, length, refl, slice_index_or, sym, ◌∙◌, subst}
use Rattle.std.proofs.lemmas.Option.{same_Some, slice_get-get_or}
use Rattle.grid_base.specs.declared.piece.Piece.{Piece}
use Rattle.grid_base.specs.Lists.{At}
use Rattle.tree_set.specs.Order.{IsRising}
use Rattle.reroute_cli.proofs.changes.is_changed.Goals as goal

-- what was read at a place is what stands there
stands : {X : Type 0} (xs : List X) (k : ℕ) (other y : X) → k < length xs → At xs k y → slice_index_or xs k other ≡ y
stands xs k other y below at = same_Some _ _ (sym (slice_get-get_or xs k other below) ∙ at)

-- where the net had a block
changed_where : (same had : Bool) (old new : List Piece) → IsTrue same ↔ (old ≡ new) → had ≡ true → IsTrue (not same) ↔ (IsTrue had × (old ≢ new))
changed_where true had old new decided is = (λ no. cc no, λ both. absurd (both.1 (decided.0 refl)))
changed_where false had old new decided is = (λ _. (is, λ equal. let yes = decided.1 equal in cc yes), λ _. refl)

-- and where it had none
unchanged_where : (read had : Bool) (old new : List Piece) → read ≡ false → read ≡ had → IsTrue read ↔ (IsTrue had × (old ≢ new))
unchanged_where read had old new none is = (λ yes. let told : read ≡ true = yes in cc (told, none), λ both. let told : had ≡ true = both.0 in cc (told, none, is))

pub returns-then-has_block-place-clause-rising : goal.returns-then-has_block-place-clause-rising
returns-then-has_block-place-clause-rising c new at =
    subst IsRising (c.index-trees-place.is ∙ stands c.args.trees.now c.args.place _ new c.requires.trees at) c.are_same-is_same.ensures.rising

pub returns-else-has_block-place-clause-rising : goal.returns-else-has_block-place-clause-rising
returns-else-has_block-place-clause-rising c new at =
    subst IsRising (c.index-trees-place.is ∙ stands c.args.trees.now c.args.place _ new c.requires.trees at) c.are_same-is_same.ensures.rising

pub returns-then-has_block-place-clause-changed : goal.returns-then-has_block-place-clause-changed
returns-then-has_block-place-clause-changed c had old new at_had at_old at_new =
    let k = c.args.place in
    let is_old = c.index-given-place.is ∙ stands c.args.given.now k _ old c.requires.given at_old in
    let is_new = c.index-trees-place.is ∙ stands c.args.trees.now k _ new c.requires.trees at_new in
    let decided : IsTrue c.are_same-is_same.result ↔ (old ≡ new) = subst (λ (x : List Piece). IsTrue c.are_same-is_same.result ↔ (x ≡ new)) is_old
    (subst (λ (x : List Piece). IsTrue c.are_same-is_same.result ↔ (c.index-given-place.result ≡ x)) is_new c.are_same-is_same.ensures.same) in
    changed_where c.are_same-is_same.result had old new decided (sym (stands c.args.has_block.now k false had c.requires.has_block at_had) ∙ c.if-has_block-place.true)

pub returns-else-has_block-place-clause-changed : goal.returns-else-has_block-place-clause-changed
returns-else-has_block-place-clause-changed c had old new at_had at_old at_new =
    unchanged_where _ had old new c.if-has_block-place.false (stands c.args.has_block.now c.args.place false had c.requires.has_block at_had)
