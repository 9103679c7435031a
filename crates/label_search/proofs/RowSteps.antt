-- What the numbers of a search are after a vertex got one.
use Rattle.std.proofs.Common.{◌≡◌, ◌≢◌, ℕ, ◌+◌, ◌-◌, ◌*◌, ◌<◌, ◌≤◌, ◌⊎◌, List, length, get_or, set, sum_by, sym, ◌∙◌, ap, subst, inl, inr}
use Rattle.std.proofs.Common.{⊎_elim, arith, get_or-set_same, get_or-set_other}
use Rattle.std.proofs.lemmas.Bool.{cases_eq, cases_lt}
use Rattle.std.proofs.lemmas.List.{length-set}
use Rattle.std.proofs.lemmas.List.Sums.{sum_by-set}
use Rattle.grid_base.specs.Numbers.{vertices}
use Rattle.label_search.specs.declared.found.Found.{Found}
use Rattle.label_search.specs.declared.heap.Heap.{Heap}
use Rattle.label_search.specs.Finding.{vertex_found}
use Rattle.label_search.specs.Founds.{index_in, FindsMore}
use Rattle.label_search.specs.Held.{IsHeld, heap_room}
use Rattle.label_search.specs.Padding.{padded}
use Rattle.label_search.specs.RowParts.{ArePartsOfRow}
use Rattle.label_search.specs.Stamped.{far}
use Rattle.label_search.proofs.Finding.{index_in-at, index_in-differ, found_cases}
use Rattle.label_search.proofs.Padded.{IsPadded, is_padded, padded_total}

-- a vertex has an index among those found now, and had it before or is new
pub record IsEntered (old new : Found) (v i : ℕ) : Type 0 where
  pub more : FindsMore old new
  pub index : index_in new v ≡ i
  pub inside : i < new.len
  pub others : (u : ℕ) → u ≢ v → index_in new u ≡ index_in old u
  pub before : (index_in old v ≡ i) ⊎ ((old.len ≡ i) × (index_in old v ≡ vertices old.size))

-- the heap holds this key at an index, and otherwise what it held
pub record IsLoweredAt (old new : Heap) (i key : ℕ) : Type 0 where
  pub room : heap_room new ≡ heap_room old
  pub kept : (u k : ℕ) → u ≢ i → IsHeld old u k → IsHeld new u k
  pub only : (u k : ℕ) → IsHeld new u k → ((u ≡ i) × (k ≡ key)) ⊎ ((u ≢ i) × IsHeld old u k)

-- the index is within the room of the list of numbers
pub entered_room : (f g : Found) (v i : ℕ) → IsEntered f g v i → i < vertices f.size
entered_room f g v i entered = omega (arith, entered.inside, g.found.room, ap vertices entered.more.size)

-- no more are found than before, or just those up to the index
entered_len : (f g : Found) (v i : ℕ) → IsEntered f g v i → (g.len ≤ f.len) ⊎ (g.len ≤ i + 1)
entered_len f g v i entered = ⊎_elim
    (λ some.
    let last = g.len - 1 in
    let u = vertex_found g.spots.items last in
    let at : index_in g u ≡ last = index_in-at g last (omega (arith, some)) in
    ⊎_elim
    (λ here. inr (omega (arith, here)))
    (λ apart.
    let before : index_in g u ≡ index_in f u = entered.others u
    (λ same. apart (sym at ∙ ap (index_in g) same ∙ entered.index)) in
    inl (⊎_elim
    (λ found. omega (arith, found, before, at))
    (λ none. absurd (omega (arith, none.0, before, at, some, g.found.room, ap vertices entered.more.size)))
    (found_cases f u)))
    (cases_eq last i))
    (λ none. inl (omega (arith, none)))
    (cases_lt 0 g.len)

-- the numbers reach as far as what is found
pub entered_parts : (f g : Found) (numbers more : List ℕ) (h : Heap) (v i : ℕ) → ArePartsOfRow f numbers h → IsEntered f g v i
    → IsPadded numbers more i far → ArePartsOfRow g more h
entered_parts f g numbers more h v i is entered grown =
    let same = ap vertices entered.more.size in
    record {
      count = omega (arith, grown.long, is.count, entered_room f g v i entered, same);
      found_count = ⊎_elim
          (λ old. omega (arith, grown.long, is.found_count, old))
          (λ new. omega (arith, grown.long, new))
          (entered_len f g v i entered);
      room = is.room ∙ sym same;
      limits = λ j. omega (arith, grown.same j, is.limits j);
      beyond = λ j past. grown.same j ∙ is.beyond j (omega (arith, past, entered.more.more));
      waiting = λ j k held. omega (arith, is.waiting j k held, entered.more.more);
    }

pub lowered_parts : (f g : Found) (numbers more : List ℕ) (h h2 : Heap) (v i number key : ℕ) → ArePartsOfRow f numbers h
    → IsEntered f g v i → IsPadded numbers more i far → number ≤ far → IsLoweredAt h h2 i key
    → ArePartsOfRow g (set more i number) h2
lowered_parts f g numbers more h h2 v i number key before entered grown small lowered =
    let is = entered_parts f g numbers more h v i before entered grown in
    record {
      count = omega (arith, length-set more i number, is.count);
      found_count = omega (arith, length-set more i number, is.found_count);
      room = lowered.room ∙ is.room;
      limits = λ j. ⊎_elim
          (λ here. omega (
            arith,
            small,
            ap (λ n. get_or (set more i number) n far) here,
            get_or-set_same more i number far (omega (arith, grown.long)),
          ))
          (λ other. omega (arith, is.limits j, get_or-set_other more i j number far other))
          (cases_eq j i);
      beyond = λ j past. get_or-set_other more i j number far (omega (arith, past, entered.inside)) ∙ is.beyond j past;
      waiting = λ j k held. ⊎_elim
          (λ here. omega (arith, here.0, entered.inside))
          (λ old. is.waiting j k old.1)
          (lowered.only j k held);
    }

-- another vertex has another index
pub entered_apart : (f g : Found) (v i u : ℕ) → IsEntered f g v i → u ≢ v → index_in g u ≢ i
entered_apart f g v i u entered other same =
    other (index_in-differ g u v (omega (arith, same, entered.inside)) (same ∙ sym entered.index))

pub lowered_others : (f g : Found) (numbers more : List ℕ) (v i number u : ℕ) → IsEntered f g v i
    → IsPadded numbers more i far → u ≢ v
    → get_or (set more i number) (index_in g u) far ≡ get_or numbers (index_in f u) far
lowered_others f g numbers more v i number u entered grown other =
    get_or-set_other more i (index_in g u) number far (entered_apart f g v i u entered other) ∙ grown.same (index_in g u)
    ∙ ap (λ j. get_or numbers j far) (entered.others u other)

-- the number that stood at the index is the vertex's
pub entered_number : (f g : Found) (numbers : List ℕ) (h : Heap) (v i : ℕ) → ArePartsOfRow f numbers h → IsEntered f g v i
    → get_or numbers i far ≡ get_or numbers (index_in f v) far
entered_number f g numbers h v i is entered = ⊎_elim
    (λ same. ap (λ j. get_or numbers j far) (sym same))
    (λ new. is.beyond i (omega (arith, new.0)) ∙ sym (is.beyond (index_in f v) (omega (arith, new.1, f.found.room))))
    entered.before

-- a vertex that is found has the number that it had
pub entered_numbers : (f g : Found) (numbers more : List ℕ) (h : Heap) (v i u : ℕ) → ArePartsOfRow f numbers h
    → IsEntered f g v i → IsPadded numbers more i far
    → get_or more (index_in g u) far ≡ get_or numbers (index_in f u) far
entered_numbers f g numbers more h v i u is entered grown = grown.same (index_in g u) ∙ ⊎_elim
    (λ here. ap (λ j. get_or numbers j far) (ap (index_in g) here ∙ entered.index) ∙ entered_number f g numbers h v i is entered
    ∙ ap (λ w. get_or numbers (index_in f w) far) (sym here))
    (λ other. ap (λ j. get_or numbers j far) (entered.others u other))
    (cases_eq u v)

pub lowered_total : (f g : Found) (numbers more : List ℕ) (h : Heap) (v i number : ℕ) → ArePartsOfRow f numbers h
    → IsEntered f g v i → more ≡ padded numbers i far →
    sum_by (λ x. x) (set more i number) + far * (vertices g.size - length (set more i number))
    + get_or numbers (index_in f v) far
    ≡ sum_by (λ x. x) numbers + far * (vertices f.size - length numbers) + number
lowered_total f g numbers more h v i number is entered padding =
    let grown = is_padded numbers more i far padding in
    omega (
      arith,
      ap (λ n. far * (n - length (set more i number))) (ap vertices entered.more.size),
      ap (λ n. far * (vertices f.size - n)) (length-set more i number),
      padded_total numbers more i (vertices f.size) padding (entered_room f g v i entered) is.count,
      sum_by-set (λ x. x) more i number far (omega (arith, grown.long)),
      grown.same i,
      entered_number f g numbers h v i is entered,
    )

-- the key that the index had is the vertex's
pub entered_key : (f g : Found) (numbers : List ℕ) (h : Heap) (v i k : ℕ) → ArePartsOfRow f numbers h → IsEntered f g v i
    → IsHeld h i k → IsHeld h (index_in f v) k
entered_key f g numbers h v i k is entered held = ⊎_elim
    (λ same. subst (λ j. IsHeld h j k) (sym same) held)
    (λ new. absurd (omega (arith, new.0, is.waiting i k held)))
    entered.before

pub lowered_kept : (f g : Found) (numbers : List ℕ) (h h2 : Heap) (v i key u k : ℕ) → ArePartsOfRow f numbers h
    → IsEntered f g v i → IsLoweredAt h h2 i key → u ≢ v → IsHeld h (index_in f u) k → IsHeld h2 (index_in g u) k
lowered_kept f g numbers h h2 v i key u k is entered lowered other held =
    let same = entered.others u other in
    lowered.kept (index_in g u) k (entered_apart f g v i u entered other) (subst (λ j. IsHeld h j k) (sym same) held)

pub lowered_only : (f g : Found) (numbers : List ℕ) (h h2 : Heap) (v i key u k : ℕ) → ArePartsOfRow f numbers h
    → IsEntered f g v i → IsLoweredAt h h2 i key → IsHeld h2 (index_in g u) k
    → ((u ≡ v) × (k ≡ key)) ⊎ ((u ≢ v) × IsHeld h (index_in f u) k)
lowered_only f g numbers h h2 v i key u k is entered lowered held = ⊎_elim
    (λ here. inl (index_in-differ g u v (omega (arith, here.0, entered.inside)) (here.0 ∙ sym entered.index), here.1))
    (λ old.
    let other : u ≢ v = λ same. old.0 (ap (index_in g) same ∙ entered.index) in
    inr (other, subst (λ j. IsHeld h j k) (entered.others u other) old.1))
    (lowered.only (index_in g u) k held)
