-- Stacks of entries.
use Rattle.std.proofs.Common.{ℕ, List, [], ◌∷◌, ◌++◌, ◌≡◌, ◌<◌, ◌≤◌, length, slice_index, Some, slice_get, arith, sym, ◌∙◌, ap, subst, inl, inr, refl, cond, set, zero, suc}
use Rattle.std.proofs.lemmas.Bool.{cases_eq, cases_lt, eq-eqb, ne_eqb}
use Rattle.std.proofs.lemmas.List.{get_or-set_same, get_or-set_other, length-append}
use Rattle.std.proofs.lemmas.Option.{slice_get_within}
use Rattle.std.proofs.Math.ListN.{length-set}
use Rattle.bucket_queue.specs.declared.queue.Entry.{Entry}
use Rattle.bucket_queue.specs.declared.queue.BucketQueue.{BucketQueue}
use Rattle.bucket_queue.specs.Waiting.{IsStack, Holds, TakesFirst, KeepsEmpty, AreEmptied, with_bucket}

some_is : {X : Type 0} (a b : X) → Some a ≡ Some b → a ≡ b
some_is a b e = cc

-- a list with an item is not empty
nothing_else : {X : Type 0} {x : X} {xs : List X} → [] ≡ x ∷ xs → ⊥
nothing_else e = cc

pub found_more : {X : Type 0} (xs ys : List X) (k : ℕ) (x : X) → slice_get xs k ≡ Some x → slice_get (xs ++ ys) k ≡ Some x
found_more [] ys k x e = absurd (cc)
found_more (z ∷ zs) ys zero x e = e
found_more (z ∷ zs) ys (suc k) x e = found_more zs ys k x e

pub found_last : {X : Type 0} (xs : List X) (x : X) → slice_get (xs ++ (x ∷ [])) (length xs) ≡ Some x
found_last [] x = refl
found_last (z ∷ zs) x = found_last zs x

-- a stack stays where an entry is added
pub stack_more : {T : Type 0} (entries : List (Entry T)) (e : Entry T) (b top : ℕ) (xs : List T)
    → IsStack entries b top xs → IsStack (entries ++ (e ∷ [])) b top xs
stack_more entries e b top [] is = is
stack_more entries e b top (x ∷ xs) (y, found, item, bucket, rest) =
    (y, found_more entries (e ∷ []) top y found, item, bucket, stack_more entries e b y.below xs rest)

-- no item waits where no entry is
pub stack_none : {T : Type 0} (entries : List (Entry T)) (b top : ℕ) (xs : List T)
    → length entries ≤ top → IsStack entries b top xs → xs ≡ []
stack_none entries b top [] past is = refl
stack_none entries b top (x ∷ xs) past (e, found, item, bucket, rest) =
    let w : top < length entries = slice_get_within entries top e found in absurd (omega arith)

-- a bucket without items has no entry
pub top_none : {T : Type 0} (entries : List (Entry T)) (b top : ℕ) (xs : List T)
    → xs ≡ [] → IsStack entries b top xs → top ≡ 4294967295
top_none {T} entries b top xs none is =
    let P : List T → Type 0 = λ ys. IsStack entries b top ys in subst P none is

-- what waits in a bucket that gets other items, and in all others
pub with_same : {T : Type 0} (waiting : ℕ → List T) (k : ℕ) (items : List T) (b : ℕ) → b ≡ k → with_bucket waiting k items b ≡ items
with_same waiting k items b same = ap (λ t. cond t items (waiting b)) (eq-eqb b k same)

pub with_other : {T : Type 0} (waiting : ℕ → List T) (k : ℕ) (items : List T) (b : ℕ) → (b ≡ k → ⊥) → with_bucket waiting k items b ≡ waiting b
with_other waiting k items b other = ap (λ t. cond t items (waiting b)) (ne_eqb b k other)

-- what is so of the entry that a bucket has is so of the one that it is given
along : {T : Type 0} (entries : List (Entry T)) (b top top' : ℕ) (xs ys : List T) → top ≡ top' → xs ≡ ys → IsStack entries b top ys → IsStack entries b top' xs
along {T} entries b top top' xs ys same items is =
    let P : ℕ → Type 0 = λ t. IsStack entries b t xs in
    let Q : List T → Type 0 = λ zs. IsStack entries b top zs in
    subst P same (subst Q (sym items) is)

-- one bucket gets another stack
stacks_set : {T : Type 0} (entries : List (Entry T)) (tops : List ℕ) (waiting : ℕ → List T) (at top : ℕ) (items : List T)
    → at < length tops → IsStack entries at top items
    → ((b : ℕ) → b < 32768 → IsStack entries b (slice_index tops b) (waiting b))
    → (b : ℕ) → b < 32768 → IsStack entries b (slice_index (set tops at top) b) (with_bucket waiting at items b)
stacks_set {T} entries tops waiting at top items within stack stacks b inside = elim (cases_eq b at) [
  | inl same ↦
      let P : ℕ → Type 0 = λ k. IsStack entries k top items in
      along entries b top (slice_index (set tops at top) b) (with_bucket waiting at items b) items
      (sym (ap (λ k. slice_index (set tops at top) k) same ∙ get_or-set_same tops at top 0 within))
      (with_same waiting at items b same) (subst P (sym same) stack)
  | inr other ↦
      along entries b (slice_index tops b) (slice_index (set tops at top) b) (with_bucket waiting at items b) (waiting b)
      (sym (get_or-set_other tops at b top 0 other)) (with_other waiting at items b other) (stacks b inside)
]

-- an entry is put into a bucket
pub holds_put : {T : Type 0} (old new : BucketQueue T) (waiting : ℕ → List T) (at : ℕ) (e : Entry T)
    → Holds old waiting → length old.entries.items < 4294967295 → at < 32768
    → new.entries.items ≡ old.entries.items ++ (e ∷ [])
    → e.below ≡ slice_index old.tops.items at → e.bucket ≡ at
    → new.tops.items ≡ set old.tops.items at (length old.entries.items)
    → new.low ≤ old.low → new.low ≤ at → old.end ≤ new.end → at < new.end → new.end ≤ 32768
    → Holds new (with_bucket waiting at (e.item ∷ waiting at))
holds_put {T} old new waiting at e h room within entered below bucket topped low lower end further last =
    let entries : List (Entry T) = old.entries.items ++ (e ∷ []) in
    let items : List T = e.item ∷ waiting at in
    let top : ℕ = length old.entries.items in
    let P : List (Entry T) → List ℕ → Type 0 = λ es ts. (b : ℕ) → b < 32768 → IsStack es b (slice_index ts b) (with_bucket waiting at items b) in
    let Under : ℕ → Type 0 = λ t. IsStack entries at t (waiting at) in
    let there : at < length old.tops.items = omega (arith, h.tops) in
    let more : (b : ℕ) → b < 32768 → IsStack entries b (slice_index old.tops.items b) (waiting b) =
    λ b inside. stack_more old.entries.items e b (slice_index old.tops.items b) (waiting b) (h.stacks b inside) in
    let stack : IsStack entries at top items =
    (e, found_last old.entries.items e, refl, bucket, subst Under (sym below) (more at within)) in
    record {
      tops = ap length topped ∙ (length-set old.tops.items at top ∙ h.tops);
      few = omega (arith, room, ap length entered, length-append old.entries.items (e ∷ []));
      within = last;
      stacks = subst (λ (es : List (Entry T)). P es new.tops.items) (sym entered) (subst (λ (ts : List ℕ). P entries ts) (sym topped)
          (stacks_set entries old.tops.items waiting at top items there stack more));
      before = λ b less.
          let other : b ≡ at → ⊥ = λ same. omega (arith, less, lower, same) in
          with_other waiting at items b other ∙ h.before b (omega (arith, less, low));
      behind = λ b past.
          let other : b ≡ at → ⊥ = λ same. omega (arith, past, further, same) in
          with_other waiting at items b other ∙ h.behind b (omega (arith, past, end));
    }

-- the last item of a stack, and what is below it
pub taken : {T : Type 0} (entries : List (Entry T)) (b top : ℕ) (xs : List T) (e : Entry T)
    → length entries ≤ 4294967295 → slice_get entries top ≡ Some e → IsStack entries b top xs
    → (rest : List T) × (xs ≡ e.item ∷ rest) × IsStack entries b e.below rest
taken entries b top [] e few got is =
    let w : top < length entries = slice_get_within entries top e got in absurd (omega (arith, w, few, is))
taken {T} entries b top (x ∷ xs) e few got (y, found, item, bucket, rest) =
    let same : y ≡ e = some_is y e (sym found ∙ got) in
    let P : Entry T → Type 0 = λ z. IsStack entries b z.below xs in
    (xs, ap (λ z. z ∷ xs) (sym item ∙ ap (λ (z : Entry T). z.item) same), subst P same rest)

-- the last item of the first bucket with any is taken out
pub holds_take : {T : Type 0} (old new : BucketQueue T) (waiting : ℕ → List T) (at : ℕ) (e : Entry T)
    → Holds old waiting → at < 32768 → slice_get old.entries.items (slice_index old.tops.items at) ≡ Some e
    → ((b : ℕ) → b < at → waiting b ≡ [])
    → new.entries.items ≡ old.entries.items → new.tops.items ≡ set old.tops.items at e.below
    → new.low ≡ at → new.end ≡ old.end
    → TakesFirst waiting e.item new
holds_take {T} old new waiting at e h within got none entered topped low end =
    let t : (rest : List T) × (waiting at ≡ e.item ∷ rest) × IsStack old.entries.items at e.below rest =
    taken old.entries.items at (slice_index old.tops.items at) (waiting at) e h.few got (h.stacks at within) in
    let P : List (Entry T) → List ℕ → Type 0 = λ es ts. (b : ℕ) → b < 32768 → IsStack es b (slice_index ts b) (with_bucket waiting at t.0 b) in
    let there : at < length old.tops.items = omega (arith, h.tops) in
    record {
      bucket = at;
      rest = t.0;
      first = t.1;
      before = none;
      left = record {
        tops = ap length topped ∙ (length-set old.tops.items at e.below ∙ h.tops);
        few = omega (arith, ap length entered, h.few);
        within = omega (arith, end, h.within);
        stacks = subst (λ (es : List (Entry T)). P es new.tops.items) (sym entered) (subst (λ (ts : List ℕ). P old.entries.items ts) (sym topped)
            (stacks_set old.entries.items old.tops.items waiting at e.below t.0 there t.2 h.stacks));
        before = λ b less.
            let other : b ≡ at → ⊥ = λ same. omega (arith, less, low, same) in
            with_other waiting at t.0 b other ∙ none b (omega (arith, less, low));
        behind = λ b past.
            let empty : waiting b ≡ [] = h.behind b (omega (arith, past, end)) in
            let other : b ≡ at → ⊥ = λ same. nothing_else (sym empty ∙ (ap waiting same ∙ t.1)) in
            with_other waiting at t.0 b other ∙ empty;
      };
    }

-- no item waits in a bucket without an entry
pub none_at : {T : Type 0} (queue : BucketQueue T) (waiting : ℕ → List T) (at : ℕ)
    → Holds queue waiting → at < 32768 → length queue.entries.items ≤ slice_index queue.tops.items at → waiting at ≡ []
none_at queue waiting at h within past =
    stack_none queue.entries.items at (slice_index queue.tops.items at) (waiting at) past (h.stacks at within)

-- no item waits where no bucket has an entry
pub holds_none : {T : Type 0} (queue : BucketQueue T)
    → length queue.tops.items ≡ 32768 → length queue.entries.items ≤ 4294967295 → queue.end ≤ 32768
    → ((b : ℕ) → b < 32768 → slice_index queue.tops.items b ≡ 4294967295)
    → Holds queue (λ _. [])
holds_none queue long few last empty =
    record { tops = long; few = few; within = last; stacks = empty; before = λ b less. refl; behind = λ b past. refl }

empty_stack : {T : Type 0} (entries : List (Entry T)) (b top : ℕ) (xs : List T) (old new : List ℕ)
    → IsStack entries b top xs → top ≡ slice_index old b → b < length new → KeepsEmpty old new → AreEmptied entries (length entries) new
    → slice_index new b ≡ 4294967295
empty_stack entries b top [] old new is same inside kept emptied = kept.empty b (sym same ∙ is)
empty_stack entries b top (x ∷ xs) old new (e, found, item, bucket, rest) same inside kept emptied =
    sym (ap (λ k. slice_index new k) bucket)
    ∙ emptied top e (slice_get_within entries top e found) found (omega (arith, inside, bucket))

-- where the bucket of each entry is empty, all are
pub empty_by_entries : {T : Type 0} (old : BucketQueue T) (waiting : ℕ → List T) (tops : List ℕ)
    → Holds old waiting → KeepsEmpty old.tops.items tops → AreEmptied old.entries.items (length old.entries.items) tops
    → (b : ℕ) → b < 32768 → slice_index tops b ≡ 4294967295
empty_by_entries old waiting tops h kept emptied b inside =
    empty_stack old.entries.items b (slice_index old.tops.items b) (waiting b) old.tops.items tops (h.stacks b inside) refl
    (omega (arith, inside, kept.long, h.tops)) kept emptied

-- where all buckets between the bounds are empty, all are
pub empty_by_span : {T : Type 0} (old : BucketQueue T) (waiting : ℕ → List T) (tops : List ℕ) (end : ℕ)
    → Holds old waiting → KeepsEmpty old.tops.items tops → old.end ≤ end
    → ((b : ℕ) → old.low ≤ b → b < end → slice_index tops b ≡ 4294967295)
    → (b : ℕ) → b < 32768 → slice_index tops b ≡ 4294967295
empty_by_span {T} old waiting tops end h kept bound span b inside =
    let outside : waiting b ≡ [] → slice_index tops b ≡ 4294967295 = λ none.
    kept.empty b (top_none old.entries.items b (slice_index old.tops.items b) (waiting b) none (h.stacks b inside)) in
    elim (cases_lt b old.low) [
      | inl less ↦ outside (h.before b less)
      | inr from ↦ elim (cases_lt b end) [
        | inl within ↦ span b from within
        | inr past ↦ outside (h.behind b (omega (arith, bound, past)))
      ]
    ]
