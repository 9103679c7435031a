use Rattle.std.proofs.Common.{◌≡◌, ◌-◌, ◌++◌, take, drop, length, arith}
use Rattle.std.proofs.lemmas.Grind.{common_steps}
use Rattle.label_search.proofs.Held.{first_least, read, taken_kept, taken_only}
use Rattle.label_search.proofs.heap.Heap.take.Goals as goal

pub returns-then-self-gt0-clause-least : goal.returns-then-self-gt0-clause-least
returns-then-self-gt0-clause-least c = first_least c.args.self.now _ c.requires (read c.args.self.now.vertices.items 0 _ (omega arith) c.index-least.ensures)

pub returns-else-self-gt0-clause-least : goal.returns-else-self-gt0-clause-least
returns-else-self-gt0-clause-least c = first_least c.args.self.now _ c.requires (read c.args.self.now.vertices.items 0 _ (omega arith) c.index-least.ensures)

pub returns-then-self-gt0-clause-kept : goal.returns-then-self-gt0-clause-kept
returns-then-self-gt0-clause-kept c =
    let s = c.args.self.now in
    let ks = c.sift_down.new.keys in
    let vs = c.sift_down.new.vertices in
    let same_ks : take s.keys.len (ks ++ drop (length ks) s.keys.items) ≡ ks = grind (arith, common_steps, c.sift_down.auto.keys) in
    let same_vs : take s.vertices.len (vs ++ drop (length vs) s.vertices.items) ≡ vs = grind (arith, common_steps, c.sift_down.auto.vertices) in
    let filled = rw (c.as_mut_slice.ensures.value, c.as_mut_slice-then-self-gt0.ensures.value) at c.sift_down.ensures.filled in
    rw (same_ks, same_vs) (taken_kept s.keys.items s.vertices.items ks vs s.len _ _ _
    (read s.vertices.items 0 _ (omega arith) c.index-least.ensures) (read s.vertices.items (s.len - 1) _ (omega arith) c.index-vertex.ensures) (read s.keys.items (s.len - 1) _ (omega arith) c.index-key.ensures)
    filled)

pub returns-then-self-gt0-clause-only : goal.returns-then-self-gt0-clause-only
returns-then-self-gt0-clause-only c =
    let s = c.args.self.now in
    let ks = c.sift_down.new.keys in
    let vs = c.sift_down.new.vertices in
    let same_ks : take s.keys.len (ks ++ drop (length ks) s.keys.items) ≡ ks = grind (arith, common_steps, c.sift_down.auto.keys) in
    let same_vs : take s.vertices.len (vs ++ drop (length vs) s.vertices.items) ≡ vs = grind (arith, common_steps, c.sift_down.auto.vertices) in
    let filled = rw (c.as_mut_slice.ensures.value, c.as_mut_slice-then-self-gt0.ensures.value) at c.sift_down.ensures.filled in
    λ u k held. taken_only s.keys.items s.vertices.items s.places.items ks vs s.len _ _ _ s.indexed c.if-self-gt0.true
    (read s.vertices.items 0 _ (omega arith) c.index-least.ensures) (read s.vertices.items (s.len - 1) _ (omega arith) c.index-vertex.ensures) (read s.keys.items (s.len - 1) _ (omega arith) c.index-key.ensures)
    filled u k (rw (same_ks, same_vs) at held)
