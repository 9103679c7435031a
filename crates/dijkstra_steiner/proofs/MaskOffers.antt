-- What a search over masks knows after a mask at a vertex was offered a number.
use Rattle.std.proofs.Common.{◌≡◌, ℕ, ◌+◌, ◌-◌, ◌<◌, ◌≤◌, List, refl, sym, ◌∙◌, ap, subst, inl, inr, ⊎_elim, arith}
use Rattle.std.proofs.lemmas.Bool.{cases_eq, cases_lt}
use Rattle.grid_base.specs.declared.piece.Piece.{Piece}
use Rattle.grid_base.specs.declared.size.Size.{Size}
use Rattle.grid_base.specs.declared.vertex.Vertex.{Vertex}
use Rattle.grid_base.specs.Numbers.{IsVertex, Connects}
use Rattle.grid_graph.specs.Weighed.{Weighs}
use Rattle.label_search.specs.declared.row.Row.{Row}
use Rattle.label_search.specs.Rows.{size_in, number_in, Waits}
use Rattle.label_search.specs.Runs.{IsSearch, TakesOffer, IsAnswered}
use Rattle.label_search.specs.Stamped.{far, max_key}
use Rattle.label_search.proofs.Finding.{FindsMore-refl, FindsMore-trans}
use Rattle.label_search.proofs.Relaxing.{OfferedBelow, offered_all}
use Rattle.steiner_tables.specs.Masks.{rooted_masks, AreParts}
use Rattle.steiner_tables.specs.Tables.{HasTree}
use Rattle.steiner_tables.proofs.Masks.{parts_sum}
use Rattle.steiner_tables.proofs.Trees.{has_more}
use Rattle.dijkstra_steiner.specs.Stacks.{IsStackOf, on_stack, mask_of, rest_on}
use Rattle.dijkstra_steiner.specs.MaskSearches.{IsMaskSearch, Proceeds, mask_number}
use Rattle.dijkstra_steiner.proofs.OnStack.{vertex_on, mask_on, same_on}

-- where nothing is offered
pub Proceeds-refl : (r : Row) → Proceeds r r
Proceeds-refl r = record {
  found = FindsMore-refl r.found;
  falls = λ w. omega arith;
  changed = λ w. inl refl;
  kept = λ w waits. waits;
  less = omega arith;
}

-- one after the other
pub Proceeds-trans : (old mid new : Row) → Proceeds old mid → Proceeds mid new → Proceeds old new
Proceeds-trans old mid new first second = record {
  found = FindsMore-trans old.found mid.found new.found first.found second.found;
  falls = λ w. omega (arith, first.falls w, second.falls w);
  changed = λ w. ⊎_elim
      (λ same. ⊎_elim (λ still. inl (same ∙ still)) (λ waits. inr (second.kept w waits)) (first.changed w))
      (λ waits. inr waits)
      (second.changed w);
  kept = λ w waits. second.kept w (first.kept w waits);
  less = omega (arith, first.less, second.less);
}

-- an offer goes on
pub offered_proceeds : (old new : Row) (to x : ℕ) → TakesOffer old new to x → Proceeds old new
offered_proceeds old new to x is = record {
  found = is.found;
  falls = is.falls;
  changed = λ w. ⊎_elim (λ same. inl same) (λ taken. inr taken.2) (is.changed w);
  kept = is.kept;
  less = is.less;
}

-- what doesn't wait afterwards has the number that it had
pub stays : (old new : Row) (w : ℕ) → Proceeds old new → ¬ Waits new w → number_in new w ≡ number_in old w
stays old new w on still = ⊎_elim (λ same. same) (λ waits. absurd (still waits)) (on.changed w)

-- a number that was read where a mask stands at a vertex
pub number_at : (flat : Size) (r : Row) (n mask v w : ℕ) → n ≡ number_in r w → w ≡ on_stack flat mask v
    → n ≡ mask_number flat r mask v
number_at flat r n mask v w is there = is ∙ ap (number_in r) there

-- a mask at a vertex was offered the weight of a set that joins them
pub offered_masks : (stack flat : Size) (pieces : List (Piece × ℕ)) (terminals : List Vertex) (low : ℕ → ℕ → ℕ)
    (last root mask v w x : ℕ) (old new : Row) → IsStackOf stack flat → size_in old ≡ stack → 0 < mask → mask ≤ last
    → last ≤ rooted_masks → IsVertex flat v → w ≡ on_stack flat mask v →
    TakesOffer old new w x → IsSearch (rest_on stack terminals low) max_key new → HasTree flat pieces terminals mask v x
    → IsMaskSearch flat pieces terminals low last root old → IsMaskSearch flat pieces terminals low last root new
offered_masks stack flat pieces terminals low last root mask v w x old new is sized some within room vertex there taken search tree
    before =
    let size : stack ≡ size_in new = sym (taken.found.size ∙ sized) in
    let fits : mask ≤ rooted_masks = omega (arith, within, room) in
    record {
      search = subst (λ (s : Size). IsSearch (rest_on s terminals low) max_key new) size search;
      used = λ u has. subst (λ (s : Size). IsVertex s u × (mask_of s u ≤ last)) (sym taken.found.size) (⊎_elim
          (λ same. before.used u (omega (arith, same, has)))
          (λ here. subst (λ n. IsVertex (size_in old) n × (mask_of (size_in old) n ≤ last)) (sym (here.0 ∙ there))
          (subst (λ (s : Size). IsVertex s (on_stack flat mask v) × (mask_of s (on_stack flat mask v) ≤ last)) (sym sized) (
            vertex_on stack flat mask v is some fits vertex,
            omega (arith, mask_on stack flat mask v is some fits vertex, within),
          )))
          (taken.changed u));
      trees = λ other u positive small inside has. ⊎_elim
          (λ same. has_more flat pieces terminals other u (mask_number flat old other u) (mask_number flat new other u)
          (before.trees other u positive small inside (omega (arith, same, has))) (omega (arith, same)))
          (λ here.
          let at = same_on stack flat other u mask v is positive (omega (arith, small, room)) inside some fits vertex
          (here.0 ∙ there) in
          has_more flat pieces terminals other u x (mask_number flat new other u)
          (subst (λ m. HasTree flat pieces terminals m u x) (sym at.0)
          (subst (λ a. HasTree flat pieces terminals mask a x) (sym at.1) tree)) (omega (arith, here.1)))
          (taken.changed (on_stack flat other u));
      waits = λ has. ⊎_elim
          (λ same. taken.kept root (before.waits (omega (arith, same, has))))
          (λ here. here.2)
          (taken.changed root);
    }

-- for the masks below this one, the sum of a mask and of each other part that doesn't wait was offered
abbrev pub MergedBelow : Size → Row → ℕ → ℕ → ℕ → ℕ → Type 0
MergedBelow flat r number mask v n = (other b : ℕ) → AreParts mask other b → b < n → ¬ Waits r (on_stack flat other v)
    → mask_number flat r b v ≤ number + mask_number flat r other v

-- no mask up to this one has it as a part
pub merged_none : (flat : Size) (r : Row) (number mask v : ℕ) → MergedBelow flat r number mask v (mask + 1)
merged_none flat r number mask v other b parts low still =
    absurd (omega (arith, low, parts_sum mask other b parts, parts.others))

-- and for this one
pub merged_more : (flat : Size) (old new : Row) (number mask v n : ℕ) → Proceeds old new → MergedBelow flat old number mask v n
    → (AreParts mask (n - mask) n → ¬ Waits new (on_stack flat (n - mask) v)
    → mask_number flat new n v ≤ number + mask_number flat new (n - mask) v) → MergedBelow flat new number mask v (n + 1)
merged_more flat old new number mask v n on below here other b parts low still = ⊎_elim
    (λ last.
    let same : other ≡ n - mask = omega (arith, last, parts_sum mask other b parts) in
    subst (λ m. mask_number flat new m v ≤ number + mask_number flat new other v) (sym last)
    (subst (λ m. mask_number flat new n v ≤ number + mask_number flat new m v) (sym same)
    (here (subst (AreParts mask (n - mask)) last (subst (λ m. AreParts mask m b) same parts))
    (subst (λ m. ¬ Waits new (on_stack flat m v)) same still))))
    (λ earlier. omega (
      arith,
      below other b parts (omega arith) (λ waits. still (on.kept (on_stack flat other v) waits)),
      stays old new (on_stack flat other v) on still,
      on.falls (on_stack flat b v),
    ))
    (cases_eq b n)

-- a sum that was offered is taken, or above all numbers
pub sum_offered : (flat : Size) (old new : Row) (number other beside both v w : ℕ) → Proceeds old new
    → beside ≡ mask_number flat old other v → w ≡ on_stack flat both v
    → (number + beside + far ≤ max_key → number_in new w ≤ number + beside) → ¬ Waits new (on_stack flat other v)
    → mask_number flat new both v ≤ number + mask_number flat new other v
sum_offered flat old new number other beside both v w on is there free still =
    let same = stays old new (on_stack flat other v) on still in
    let here = ap (number_in new) there in
    let limit : mask_number flat new both v ≤ far = new.parts.limits _ in
    ⊎_elim
    (λ great. omega (arith, same, is, limit, great))
    (λ small. omega (arith, same, is, here, free small))
    (cases_lt max_key (number + beside + far))

-- so is what a mask gets by a piece
pub step_offered : (flat : Size) (new : Row) (mask number by k v w : ℕ) → w ≡ on_stack flat mask v → by ≡ k
    → (number + by + far ≤ max_key → number_in new w ≤ number + by)
    → IsAnswered (mask_number flat new mask) (λ _. 0) far v (number + k)
step_offered flat new mask number by k v w there is free =
    let here = ap (number_in new) there in
    ⊎_elim
    (λ great. inr (omega (arith, is, great)))
    (λ small. inl (omega (arith, is, here, free small)))
    (cases_lt max_key (number + by + far))

-- all neighbours were offered what the mask gets from a vertex
pub relaxed_all : (flat : Size) (pieces : List (Piece × ℕ)) (r : Row) (mask from number : ℕ) → mask_number flat r mask from ≡ number
    → OfferedBelow flat pieces (λ _. 0) far (mask_number flat r mask) from number 6 → (p : Piece) (k u : ℕ) → Weighs pieces p k
    → Connects flat p from u → mask_number flat r mask u ≤ number + k
relaxed_all flat pieces r mask from number is below p k u weighs connects =
    let limit : mask_number flat r mask u ≤ far = r.parts.limits _ in
    ⊎_elim
    (λ taken. omega (arith, taken, is))
    (λ great. omega (arith, great, is, limit))
    (offered_all flat pieces (λ _. 0) far (mask_number flat r mask) from number is below p k u weighs connects)
