-- Slots and spots where one more vertex is found.
use Rattle.std.proofs.Common.{◌≡◌, ◌≢◌, ℕ, ◌+◌, ◌<◌, ◌≤◌, ◌⊎◌, List, length, get_or, set, refl, sym, ◌∙◌, ap, subst, inl, inr, ⊎_elim, arith, eq-eqb, ne_eqb, get_or-set_same, get_or-set_other}
use Rattle.std.proofs.lemmas.Bool.{cases_eq, cases_lt}
use Rattle.std.proofs.lemmas.List.{length-set}
use Rattle.grid_base.specs.declared.size.Size.{Size}
use Rattle.grid_base.specs.declared.spot.Spot.{Spot}
use Rattle.grid_base.specs.Numbers.{vertices, IsVertex}
use Rattle.grid_base.specs.Spots.{IsSpot, spot_at}
use Rattle.grid_base.proofs.Spots.{spot_at-is}
use Rattle.grid_base.specs.declared.vertex.Vertex.{Vertex}
use Rattle.std.specs.List.{All}
use Rattle.std.proofs.lemmas.List.Elements.{All-get_or}
use Rattle.label_search.specs.declared.found.Slot.{Slot}
use Rattle.label_search.specs.declared.found.Found.{Found}
use Rattle.label_search.specs.Finding.{AreFound, unset, nowhere, vertex_found}
use Rattle.label_search.specs.Founds.{index_in, FindsMore, AreFoundFirst}
use Rattle.label_search.specs.Padding.{padded}
use Rattle.label_search.proofs.Padded.{length-padded, get_or-padded_other}
use Rattle.label_search.proofs.Pigeons.{less_than}

-- the slot of a vertex with the present stamp has its index
pub index_in-found : (f : Found) (v : ℕ) → (get_or f.slots.items v unset).stamp ≡ f.present → index_in f v ≡ (get_or f.slots.items v unset).index
index_in-found f v is = let test = eq-eqb _ _ is in rw test refl

pub index_in-other : (f : Found) (v : ℕ) → (get_or f.slots.items v unset).stamp ≢ f.present → index_in f v ≡ vertices f.size
index_in-other f v other = let test = ne_eqb _ _ other in rw test refl

-- a vertex is found, or its index is past all
pub found_cases : (f : Found) (v : ℕ) → (index_in f v < f.len) ⊎ ((index_in f v ≡ vertices f.size) × ((get_or f.slots.items v unset).stamp ≢ f.present))
found_cases f v = ⊎_elim
    (λ is. inl (subst (λ i. i < f.len) (sym (index_in-found f v is)) (f.found.back v is)))
    (λ other. inr (index_in-other f v other, other))
    (cases_eq (get_or f.slots.items v unset).stamp f.present)

-- a vertex whose index is past all found ones has no slot of this search
pub unfound : (f : Found) (v : ℕ) → f.len ≤ index_in f v → (get_or f.slots.items v unset).stamp ≢ f.present
unfound f v past is = omega (arith, past, index_in-found f v is, f.found.back v is)

-- a found vertex stands at its index
pub vertex_found-index : (f : Found) (v : ℕ) → index_in f v < f.len → vertex_found f.spots.items (index_in f v) ≡ v
vertex_found-index f v inside = ⊎_elim
    (λ is. ap (vertex_found f.spots.items) (index_in-found f v is) ∙ f.found.same v is)
    (λ other. absurd (omega (arith, inside, index_in-other f v other, f.found.room)))
    (cases_eq (get_or f.slots.items v unset).stamp f.present)

-- two found vertices have different indices
pub index_in-differ : (f : Found) (u v : ℕ) → index_in f u < f.len → index_in f u ≡ index_in f v → u ≡ v
index_in-differ f u v inside same =
    sym (vertex_found-index f u inside) ∙ ap (vertex_found f.spots.items) same ∙ vertex_found-index f v (subst (λ i. i < f.len) same inside)

-- a found vertex is one of the grid
pub found_vertex : (f : Found) (v : ℕ) → index_in f v < f.len → IsVertex f.size v
found_vertex f v inside = subst (IsVertex f.size) (vertex_found-index f v inside) (f.found.standing (index_in f v) inside).vertex

-- the vertex at an index has it
pub index_in-at : (f : Found) (i : ℕ) → i < f.len → index_in f (vertex_found f.spots.items i) ≡ i
index_in-at f i inside =
    let slot = f.found.indexed i inside in
    index_in-found f (vertex_found f.spots.items i) (ap (λ (x : Slot). x.stamp) slot) ∙ ap (λ (x : Slot). x.index) slot

-- one that isn't found finds room
pub room_for : (f : Found) (v : ℕ) → IsVertex f.size v → (get_or f.slots.items v unset).stamp ≢ f.present → f.len < vertices f.size
room_for f v vertex new =
    less_than (vertices f.size) f.len (vertex_found f.spots.items) v vertex (λ j high. (f.found.standing j high).vertex)
    (λ i j low high same. sym (index_in-at f i low) ∙ ap (index_in f) same ∙ index_in-at f j high)
    (λ j high same. new (subst (λ u. (get_or f.slots.items u unset).stamp ≡ f.present) same (ap (λ (x : Slot). x.stamp) (f.found.indexed j high))))

-- a list of spots as another, but for the spot at an index, up to which it goes at least
pub record HasSpotAt (old new : List Spot) (i : ℕ) (to : Spot) : Type 0 where
  pub inside : i < length new
  pub here : get_or new i nowhere ≡ to
  pub others : (j : ℕ) → j ≢ i → get_or new j nowhere ≡ get_or old j nowhere

-- a spot was written at an index of the list, or behind its end
pub spot_put : (spots more : List Spot) (i : ℕ) (to : Spot) → i ≤ length spots → more ≡ padded spots i to → HasSpotAt spots (set more i to) i to
spot_put spots more i to near is =
    let inside : i < length more = omega (arith, ap (λ (xs : List Spot). length xs) is, length-padded spots i to) in
    record {
      inside = omega (arith, inside, length-set more i to);
      here = get_or-set_same more i to nowhere inside;
      others = λ j other. get_or-set_other more i j to nowhere other ∙ ap (λ (xs : List Spot). get_or xs j nowhere) is ∙ get_or-padded_other spots i j to nowhere near other;
    }

-- one more vertex is found
pub AreFound-more : (s : Size) (slots : List Slot) (spots more : List Spot) (len present : ℕ) (to : Spot) → AreFound s slots spots len present → IsSpot s to → (get_or slots to.vertex.0 unset).stamp ≢ present → len < vertices s → HasSpotAt spots more len to →
    AreFound s (set slots to.vertex.0 (record { stamp = present; index = len })) more (len + 1) present
AreFound-more s slots spots more len present to is at new room put =
    let v = to.vertex.0 in
    let slot : Slot = record { stamp = present; index = len } in
    let in_slots : v < length slots = subst (λ n. v < n) (sym is.slot_count) at.vertex in
    let slot_here : (u : ℕ) → u ≡ v → get_or (set slots v slot) u unset ≡ slot = λ u here. subst (λ w. get_or (set slots v slot) w unset ≡ slot) (sym here) (get_or-set_same slots v slot unset in_slots) in
    let slot_there : (u : ℕ) → u ≢ v → get_or (set slots v slot) u unset ≡ get_or slots u unset = λ u other. get_or-set_other slots v u slot unset other in
    let spot_here : (i : ℕ) → i ≡ len → get_or more i nowhere ≡ to = λ i here. subst (λ j. get_or more j nowhere ≡ to) (sym here) put.here in
    let spot_there : (i : ℕ) → i ≢ len → get_or more i nowhere ≡ get_or spots i nowhere = put.others in
    let apart : (i : ℕ) → i < len → vertex_found spots i ≢ v = λ i low same. new (subst (λ u. (get_or slots u unset).stamp ≡ present) same (ap (λ (x : Slot). x.stamp) (is.indexed i low))) in
    record {
      slot_count = length-set slots v slot ∙ is.slot_count;
      spot_count = omega (arith, put.inside);
      room = omega (arith, room);
      started = is.started;
      standing = λ i low. ⊎_elim
          (λ here. subst (IsSpot s) (sym (spot_here i here)) at)
          (λ other. subst (IsSpot s) (sym (spot_there i other)) (is.standing i (omega arith)))
          (cases_eq i len);
      indexed = λ i low. ⊎_elim
          (λ here. slot_here _ (ap (λ (x : Spot). x.vertex.0) (spot_here i here)) ∙ ap (λ n. record { stamp = present; index = n }) (sym here))
          (λ other.
          let before : i < len = omega arith in
          let same = ap (λ (x : Spot). x.vertex.0) (spot_there i other) in
          slot_there _ (λ at_v. apart i before (sym same ∙ at_v)) ∙ ap (λ u. get_or slots u unset) same ∙ is.indexed i before)
          (cases_eq i len);
      back = λ u stamped. ⊎_elim
          (λ here. omega (arith, ap (λ (x : Slot). x.index) (slot_here u here)))
          (λ other.
          let same = slot_there u other in
          omega (arith, ap (λ (x : Slot). x.index) same, is.back u (ap (λ (x : Slot). x.stamp) (sym same) ∙ stamped)))
          (cases_eq u v);
      same = λ u stamped. ⊎_elim
          (λ here. ap (vertex_found more) (ap (λ (x : Slot). x.index) (slot_here u here)) ∙ ap (λ (x : Spot). x.vertex.0) (spot_here len refl) ∙ sym here)
          (λ other.
          let same = slot_there u other in
          let old = ap (λ (x : Slot). x.stamp) (sym same) ∙ stamped in
          ap (vertex_found more) (ap (λ (x : Slot). x.index) same) ∙ ap (λ (x : Spot). x.vertex.0) (spot_there _ (λ at_len. omega (arith, at_len, is.back u old))) ∙ is.same u old)
          (cases_eq u v);
      stamps = λ u. ⊎_elim
          (λ here. omega (arith, ap (λ (x : Slot). x.stamp) (slot_here u here)))
          (λ other. omega (arith, ap (λ (x : Slot). x.stamp) (slot_there u other), is.stamps u))
          (cases_eq u v);
    }

pub FindsMore-refl : (f : Found) → FindsMore f f
FindsMore-refl f = record { size = refl; more = omega arith; kept = λ v inside. refl; others = λ v past. past }

pub FindsMore-trans : (a b d : Found) → FindsMore a b → FindsMore b d → FindsMore a d
FindsMore-trans a b d first second = record {
  size = second.size ∙ first.size;
  more = omega (arith, first.more, second.more);
  kept = λ v inside. second.kept v (omega (arith, first.kept v inside, inside, first.more)) ∙ first.kept v inside;
  others = λ v past. ⊎_elim
      (λ found. omega (arith, second.kept v found, first.others v past))
      (λ other. omega (arith, first.more, second.others v (omega (arith, other.0, b.found.room))))
      (found_cases b v);
}

-- what was found first stays so
pub still_found : (listed : List Vertex) (count : ℕ) (old new : Found) → AreFoundFirst listed count old → FindsMore old new → AreFoundFirst listed count new
still_found listed count old new first more = record {
  room = omega (arith, first.room, more.more);
  in_list = λ v low. ⊎_elim
      (λ found. first.in_list v (omega (arith, low, more.kept v found)))
      (λ past. absurd (omega (arith, low, first.room, more.others v past)))
      (cases_lt (index_in old v) old.len);
  first = λ v is. let low = first.first v is in omega (arith, low, more.kept v (omega (arith, low, first.room)));
}

-- a vertex of a list with its place
pub listed_spot : (s t : Size) (terminals : List Vertex) (i : ℕ) (d : Vertex) (x : Spot) → All (λ (v : Vertex). IsVertex t v.0) terminals → t ≡ s → i < length terminals → x ≡ spot_at s (get_or terminals i d).0 → IsSpot s x
listed_spot s t terminals i d x all same low is =
    let vertex = subst (λ (r : Size). IsVertex r (get_or terminals i d).0) same (All-get_or (λ (v : Vertex). IsVertex t v.0) terminals i d low all) in
    subst (IsSpot s) (sym is) (spot_at-is s (get_or terminals i d).0 vertex)
