-- Where a vertex may enter a heap.
use Rattle.std.proofs.Common.{◌≡◌, ◌≢◌, ℕ, ◌+◌, ◌-◌, ◌*◌, ◌<◌, ◌≤◌, ◌⊎◌, List, length, get_or, max, refl, sym, ◌∙◌, ap, subst, inl, inr}
use Rattle.std.proofs.Common.{⊎_elim, arith}
use Rattle.std.proofs.lemmas.Bool.{cases_eq, cases_lt}
use Rattle.std.proofs.lemmas.Grind.{common_steps}
use Rattle.grid_base.specs.Limits.{max_vertices}
use Rattle.label_search.specs.Heaps.{IsIndexed, HasGap, Holds, FillsGap, parent, AreOrdered, MayRise}
use Rattle.label_search.specs.Held.{IsLeastHeld}
use Rattle.label_search.specs.declared.heap.Heap.{Heap}
use Rattle.label_search.proofs.Order.{root_least}
use Rattle.label_search.proofs.Padded.{IsPadded}
use Rattle.label_search.proofs.Pigeons.{at_most, less_than}

-- two places in use don't have one vertex
pub places_differ : (ks vs ps : List ℕ) (len : ℕ) → IsIndexed ks vs ps len → (i j : ℕ) → i < len → j < len
    → get_or vs i 0 ≡ get_or vs j 0 → i ≡ j
places_differ ks vs ps len is i j low high same = sym (is.noted i low) ∙ ap (λ v. get_or ps v 0) same ∙ is.noted j high

-- the place of a vertex, or the one behind all others, is within the room
pub gap_room : (ks vs ps : List ℕ) (len gap v room : ℕ) → IsIndexed ks vs ps len → length ps ≤ room → v < room → gap ≤ len
    → ((j : ℕ) → j < len → j ≢ gap → get_or vs j 0 ≢ v) → gap < room
gap_room ks vs ps len gap v room is small inside low others =
    let below : (j : ℕ) → j < len → get_or vs j 0 < room = λ j at. omega (arith, is.within j at, small) in
    ⊎_elim
    (λ within. omega (arith, within, at_most room len (λ j. get_or vs j 0) below (places_differ ks vs ps len is)))
    (λ past.
    let new : (j : ℕ) → j < len → get_or vs j 0 ≢ v = λ j at. others j at (λ same. omega (arith, at, past, same)) in
    omega (arith, low, less_than room len (λ j. get_or vs j 0) v inside below (places_differ ks vs ps len is) new))
    (cases_lt gap len)

-- the place of a vertex, or the one behind all others, waits for it in the lists that have room for it
pub gap_for : (ks vs ps more_ks more_vs more_ps : List ℕ) (len gap v : ℕ) → IsIndexed ks vs ps len → IsPadded ks more_ks gap 0
    → IsPadded vs more_vs gap 0 → IsPadded ps more_ps v 0 → gap < max_vertices → gap ≤ len
    → ((j : ℕ) → j < len → j ≢ gap → get_or vs j 0 ≢ v) → HasGap more_ks more_vs more_ps (max len (gap + 1)) gap v
gap_for ks vs ps more_ks more_vs more_ps len gap v is keys vertices places small low others = record {
  lists = record {
    vertices = omega (arith, keys.long, vertices.long, is.lists.vertices);
    small = omega (arith, keys.long, is.lists.small, small);
    room = omega (arith, keys.long, is.lists.room);
  };
  inside = omega arith;
  vertex = omega (arith, places.long);
  within = λ j at other. omega (arith, vertices.same j, is.within j (omega (arith, at, other, low)), places.long);
  noted = λ j at other. places.same (get_or more_vs j 0) ∙ ap (λ u. get_or ps u 0) (vertices.same j)
      ∙ is.noted j (omega (arith, at, other, low));
  other = λ j at other same. others j (omega (arith, at, other, low)) other (sym (vertices.same j) ∙ same);
}

-- a key that is no greater than the one that stands there may rise
pub may_rise : (ks : List ℕ) (len gap key : ℕ) → AreOrdered ks len → gap ≤ len → (gap < len → key ≤ get_or ks gap 0)
    → MayRise ks (max len (gap + 1)) gap key
may_rise ks len gap key order low lower = record {
  beside = λ j some at other apart. order j some (omega (arith, at, other, low));
  around = λ j past some at below.
      let inside : j < len = omega (arith, at, low, ap (λ n. n * 4) below) in
      omega (arith, order gap past (omega (arith, inside, below)), order j some inside, ap (λ n. get_or ks n 0) below);
  below = λ j some at below.
      let inside : j < len = omega (arith, at, low, ap (λ n. n * 4) below) in
      omega (arith, lower (omega (arith, inside, below)), order j some inside, ap (λ n. get_or ks n 0) below);
}

-- a longer list is ordered as before
pub ordered_padded : (ks more_ks : List ℕ) (len gap : ℕ) → IsPadded ks more_ks gap 0 → AreOrdered ks len → AreOrdered more_ks len
ordered_padded ks more_ks len gap keys order j some at =
    omega (arith, keys.same (parent j), keys.same j, order j some at)

-- the heap holds what it held, but for the vertex that got another key
pub lowered_kept : (ks vs more_ks more_vs new_ks new_vs : List ℕ) (len gap v key : ℕ) → IsPadded ks more_ks gap 0
    → IsPadded vs more_vs gap 0 → (gap < len → get_or vs gap 0 ≡ v)
    → FillsGap more_ks more_vs new_ks new_vs (max len (gap + 1)) gap v key →
    (u k : ℕ) → u ≢ v → Holds ks vs len u k → Holds new_ks new_vs (max len (gap + 1)) u k
lowered_kept ks vs more_ks more_vs new_ks new_vs len gap v key keys vertices here is u k other before =
    is.kept u k (record {
      place = before.place;
      inside = omega (arith, before.inside);
      elsewhere = λ same. other (sym before.vertex ∙ ap (λ j. get_or vs j 0) same ∙ here (omega (arith, same, before.inside)));
      vertex = vertices.same before.place ∙ before.vertex;
      valued = keys.same before.place ∙ before.valued;
    })

pub lowered_only : (ks vs more_ks more_vs new_ks new_vs : List ℕ) (len gap v key : ℕ) → IsPadded ks more_ks gap 0
    → IsPadded vs more_vs gap 0 → gap ≤ len → ((j : ℕ) → j < len → j ≢ gap → get_or vs j 0 ≢ v)
    → FillsGap more_ks more_vs new_ks new_vs (max len (gap + 1)) gap v key →
    (u k : ℕ) → Holds new_ks new_vs (max len (gap + 1)) u k → ((u ≡ v) × (k ≡ key)) ⊎ ((u ≢ v) × Holds ks vs len u k)
lowered_only ks vs more_ks more_vs new_ks new_vs len gap v key keys vertices low others is u k held = ⊎_elim
    (λ here. inl here)
    (λ old.
    let inside : old.place < len = omega (arith, old.inside, old.elsewhere, low) in
    let vertex = sym (vertices.same old.place) ∙ old.vertex in
    inr (
      λ same. others old.place inside old.elsewhere (vertex ∙ same),
      record { place = old.place; inside = inside; vertex = vertex; valued = sym (keys.same old.place) ∙ old.valued },
    ))
    (is.only u k held)

-- the last entry took the place of the first
pub taken_kept : (ks vs new_ks new_vs : List ℕ) (len first v key : ℕ) → get_or vs 0 0 ≡ first → get_or vs (len - 1) 0 ≡ v
    → get_or ks (len - 1) 0 ≡ key →
    FillsGap ks vs new_ks new_vs (len - 1) 0 v key → (u k : ℕ) → u ≢ first → Holds ks vs len u k
    → Holds new_ks new_vs (len - 1) u k
taken_kept ks vs new_ks new_vs len first v key at_root at_v at_key is u k other held = ⊎_elim
    (λ last.
    let same_v : v ≡ u = sym at_v ∙ ap (λ j. get_or vs j 0) (sym last) ∙ held.vertex in
    let same_key : key ≡ k = sym at_key ∙ ap (λ j. get_or ks j 0) (sym last) ∙ held.valued in
    subst (λ x. Holds new_ks new_vs (len - 1) x k) same_v (subst (λ x. Holds new_ks new_vs (len - 1) v x) same_key is.placed))
    (λ apart. is.kept u k (record {
      place = held.place;
      inside = omega (arith, held.inside, apart);
      elsewhere = λ root. other (sym held.vertex ∙ ap (λ j. get_or vs j 0) root ∙ at_root);
      vertex = held.vertex;
      valued = held.valued;
    }))
    (cases_eq held.place (len - 1))

pub taken_only : (ks vs ps new_ks new_vs : List ℕ) (len first v key : ℕ) → IsIndexed ks vs ps len → 0 < len - 1
    → get_or vs 0 0 ≡ first → get_or vs (len - 1) 0 ≡ v → get_or ks (len - 1) 0 ≡ key →
    FillsGap ks vs new_ks new_vs (len - 1) 0 v key → (u k : ℕ) → Holds new_ks new_vs (len - 1) u k
    → (u ≢ first) × Holds ks vs len u k
taken_only ks vs ps new_ks new_vs len first v key indexed some at_root at_v at_key is u k held = ⊎_elim
    (λ last. (
      λ same. omega (
        arith,
        places_differ ks vs ps len indexed (len - 1) 0 (omega arith) (omega arith)
            (at_v ∙ sym last.0 ∙ same ∙ sym at_root),
      ),
      record { place = len - 1; inside = omega arith; vertex = at_v ∙ sym last.0; valued = at_key ∙ sym last.1 },
    ))
    (λ old. (
      λ same. old.elsewhere (places_differ ks vs ps len indexed old.place 0 (omega (arith, old.inside)) (omega arith)
          (old.vertex ∙ same ∙ sym at_root)),
      record { place = old.place; inside = omega (arith, old.inside); vertex = old.vertex; valued = old.valued },
    ))
    (is.only u k held)

-- an element that was read with a default of its own
pub read : (xs : List ℕ) (i x : ℕ) → i < length xs → x ≡ get_or xs i x → get_or xs i 0 ≡ x
read xs i x inside is = grind (arith, common_steps)

-- the first vertex has a least key
pub first_least : (h : Heap) (v : ℕ) → 0 < h.len → get_or h.vertices.items 0 0 ≡ v → IsLeastHeld h v
first_least h v some first = record {
  key = get_or h.keys.items 0 0;
  held = record { place = 0; inside = some; vertex = first; valued = refl };
  least = λ u k held. omega (arith, root_least h.keys.items h.len held.place h.ordered held.inside, held.valued);
}
