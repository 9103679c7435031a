use Rattle.std.proofs.Common.{◌≡◌, ◌<◌, ◌++◌, take, drop, length, get_or, refl, arith}
use Rattle.std.proofs.lemmas.Grind.{common_steps}
use Rattle.label_search.proofs.Held.{gap_room, gap_for, may_rise, ordered_padded, lowered_kept, lowered_only}
use Rattle.label_search.proofs.Padded.{IsPadded, is_padded}
use Rattle.label_search.proofs.heap.Heap.lower.Goals.{After-place_for-gap, After-pad_to, After-pad_to-2, After-pad_to-3}
use Rattle.label_search.proofs.heap.Heap.lower.Goals as goal

within : (c : After-place_for-gap) → c.place_for-gap.result < c.args.self.now.room
within c =
    let s = c.args.self.now in
    let at = c.place_for-gap.ensures in
    gap_room s.keys.items s.vertices.items s.places.items s.len c.place_for-gap.result c.args.index s.room s.indexed s.placed c.requires.vertex at.within at.others

keys : (c : After-pad_to) → IsPadded c.args.self.now.keys.items c.pad_to.new.items.items c.place_for-gap.result 0
keys c = is_padded c.args.self.now.keys.items c.pad_to.new.items.items c.place_for-gap.result 0 c.pad_to.ensures.items

vertices : (c : After-pad_to-2) → IsPadded c.args.self.now.vertices.items c.pad_to-2.new.items.items c.place_for-gap.result 0
vertices c = is_padded c.args.self.now.vertices.items c.pad_to-2.new.items.items c.place_for-gap.result 0 c.pad_to-2.ensures.items

places : (c : After-pad_to-3) → IsPadded c.args.self.now.places.items c.pad_to-3.new.items.items c.args.index 0
places c = is_padded c.args.self.now.places.items c.pad_to-3.new.items.items c.args.index 0 c.pad_to-3.ensures.items

pub pad_to-requires : goal.pad_to-requires
pad_to-requires c = record { room = omega (arith, within (goal.at.pad_to-requires c).After-place_for-gap, c.args.self.now.keys_room) }

pub pad_to-requires-2 : goal.pad_to-requires-2
pad_to-requires-2 c = record { room = omega (arith, within (goal.at.pad_to-requires-2 c).After-place_for-gap, c.args.self.now.vertices_room) }

pub sift_up-requires-clause-gap : goal.sift_up-requires-clause-gap
sift_up-requires-clause-gap c =
    let s = c.args.self.now in
    let at = goal.at.sift_up-requires-clause-gap c in
    let found = c.place_for-gap.ensures in
    rw (c.as_mut_slice.ensures.value, c.as_mut_slice-2.ensures.value, c.as_mut_slice-3.ensures.value, c.max-self.ensures)
    (gap_for s.keys.items s.vertices.items s.places.items c.pad_to.new.items.items c.pad_to-2.new.items.items c.pad_to-3.new.items.items s.len
    c.place_for-gap.result c.args.index s.indexed (keys at.After-pad_to) (vertices at.After-pad_to-2) (places at.After-pad_to-3)
    (omega (arith, within at.After-place_for-gap, s.limit)) found.within found.others)

pub sift_up-requires-clause-order : goal.sift_up-requires-clause-order
sift_up-requires-clause-order c =
    let s = c.args.self.now in
    let at = goal.at.sift_up-requires-clause-order c in
    let found = c.place_for-gap.ensures in
    let gap = c.place_for-gap.result in
    let padded = keys at.After-pad_to in
    rw (c.as_mut_slice.ensures.value, c.max-self.ensures)
    (may_rise c.pad_to.new.items.items s.len gap c.args.key (ordered_padded s.keys.items c.pad_to.new.items.items s.len gap padded s.ordered) found.within
    (λ inside. omega (
      arith,
      padded.same gap,
      c.requires.lower (get_or s.keys.items gap 0) (record {
        place = gap;
        inside = inside;
        vertex = found.here inside;
        valued = refl;
      }),
    )))

pub returns-clause-kept : goal.returns-clause-kept
returns-clause-kept c =
    let s = c.args.self.now in
    let at = goal.at.returns-clause-kept c in
    let ks = c.sift_up.new.keys in
    let vs = c.sift_up.new.vertices in
    let same_ks : take c.pad_to.new.items.len (ks ++ drop (length ks) c.pad_to.new.items.items) ≡ ks = grind (arith, common_steps, c.sift_up.auto.keys) in
    let same_vs : take c.pad_to-2.new.items.len (vs ++ drop (length vs) c.pad_to-2.new.items.items) ≡ vs = grind (arith, common_steps, c.sift_up.auto.vertices) in
    let filled = rw (c.as_mut_slice.ensures.value, c.as_mut_slice-2.ensures.value, c.max-self.ensures) at c.sift_up.ensures.filled in
    rw (same_ks, same_vs, c.max-self.ensures)
    (lowered_kept s.keys.items s.vertices.items c.pad_to.new.items.items c.pad_to-2.new.items.items ks vs s.len c.place_for-gap.result c.args.index c.args.key
    (keys at.After-pad_to) (vertices at.After-pad_to-2) c.place_for-gap.ensures.here filled)

pub returns-clause-only : goal.returns-clause-only
returns-clause-only c =
    let s = c.args.self.now in
    let at = goal.at.returns-clause-only c in
    let found = c.place_for-gap.ensures in
    let ks = c.sift_up.new.keys in
    let vs = c.sift_up.new.vertices in
    let same_ks : take c.pad_to.new.items.len (ks ++ drop (length ks) c.pad_to.new.items.items) ≡ ks = grind (arith, common_steps, c.sift_up.auto.keys) in
    let same_vs : take c.pad_to-2.new.items.len (vs ++ drop (length vs) c.pad_to-2.new.items.items) ≡ vs = grind (arith, common_steps, c.sift_up.auto.vertices) in
    let filled = rw (c.as_mut_slice.ensures.value, c.as_mut_slice-2.ensures.value, c.max-self.ensures) at c.sift_up.ensures.filled in
    λ u k held. lowered_only s.keys.items s.vertices.items c.pad_to.new.items.items c.pad_to-2.new.items.items ks vs s.len c.place_for-gap.result c.args.index c.args.key
    (keys at.After-pad_to) (vertices at.After-pad_to-2) found.within found.others
    filled u k (rw (same_ks, same_vs, c.max-self.ensures) at held)
