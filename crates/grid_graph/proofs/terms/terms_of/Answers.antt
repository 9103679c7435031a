use Rattle.std.proofs.Common.{◌≡◌, Bool, true, false, not, get_or, refl, sym, ◌∙◌}
use Rattle.std.specs.BTreeSet.{contains}
use Rattle.std.specs.Ordering.{nat_cmp}
use Rattle.grid_graph.proofs.WithoutRepeats.{terminal_added, terminal_known}
use Rattle.grid_graph.proofs.terms.terms_of.Goals as goal
use Rattle.grid_graph.proofs.terms.terms_of.Goals.{then-branch+in_ok-push, else-branch}

was_absent : (found added : Bool) → added ≡ not found → added ≡ true → found ≡ false
was_absent true added e t = sym t ∙ e
was_absent false added e t = refl

was_present : (found added : Bool) → added ≡ not found → added ≡ false → found ≡ true
was_present true added e t = refl
was_present false added e t = sym t ∙ e

pub loop-v-preserved : goal.loop-v-preserved
loop-v-preserved c = elim c.if-branch.branch [
  | then-branch+in_ok-push w ↦ rw (w.terms-is, w.in_ok-push.ensures.items) (terminal_added c.args.vertices.now c.loop-v.v-index (contains nat_cmp c.loop-v.seen) (contains nat_cmp c.insert.new.self) c.loop-v.terms.items (get_or c.args.vertices.now c.loop-v.v-index (record { 0 = 0 })) c.loop-v-test.true refl c.loop-v.invariant (was_absent _ _ c.in_ok-insert.ensures.added w.if-branch.true) c.in_ok-insert.ensures.updates.0)
  | else-branch w ↦ rw w.terms-is (terminal_known c.args.vertices.now c.loop-v.v-index (contains nat_cmp c.loop-v.seen) (contains nat_cmp c.insert.new.self) c.loop-v.terms.items (get_or c.args.vertices.now c.loop-v.v-index (record { 0 = 0 })) c.loop-v-test.true refl c.loop-v.invariant (was_present _ _ c.in_ok-insert.ensures.added w.if-branch.false) c.in_ok-insert.ensures.updates.0)
]

pub of-requires : goal.of-requires
of-requires c = c.loop-v.invariant.distinct
