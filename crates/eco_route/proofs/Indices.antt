-- An index, as nets come and go.
use Rattle.std.proofs.Common.{◌≡◌, ◌≢◌, ℕ, zero, suc, ◌+◌, ◌<◌, cond, ◌==◌, List, [], ◌∷◌, ◌++◌, length, get_or, take, Option, None, Some, refl, sym, ◌∙◌, ap, subst, ⊎_elim, inl, inr, arith, eq-eqb, ne_eqb}
use Rattle.std.specs.Prelude.{◌⊎◌}
use Rattle.std.specs.BTreeMap.{get, is_at}
use Rattle.std.specs.Cmp.{unsigned_tied}
use Rattle.std.specs.Map.{lookup}
use Rattle.std.specs.List.{remove}
use Rattle.std.specs.Ordering.{eq_by_cmp, nat_cmp}
use Rattle.std.proofs.lemmas.Bool.{cases_eq}
use Rattle.std.proofs.lemmas.List.{length_push}
use Rattle.std.proofs.lemmas.Option.{same_Some, slice_get_within, slice_get-get_or}
use Rattle.grid_base.specs.Lists.{At, HasNoRepeats}
use Rattle.grid_base.proofs.Lists.{At-push, At-pushed, At-push_cases}
use Rattle.eco_route.specs.declared.net_index.NetIndex.{NetIndex}
use Rattle.eco_route.specs.NetIndices.{AreRisingNumbers, IsIndexOf}
use Rattle.eco_route.proofs.Removed.{place_before, At-removed, At-remaining, place_before-differs, place_before-rises, place_after, length-removed}

pub take_at : {X : Type 0} (xs : List X) (i k : ℕ) (x : X) → At (take i xs) k x → At xs k x × (k < i)
take_at xs zero k x at = absurd (omega (arith, slice_get_within [] k x at))
take_at [] (suc i) k x at = absurd (omega (arith, slice_get_within [] k x at))
take_at (y ∷ xs) (suc i) zero x at = (at, omega arith)
take_at (y ∷ xs) (suc i) (suc k) x at = let rest = take_at xs i k x at in (rest.0, omega (arith, rest.1))

-- what stands at a place of a list without repeats stands nowhere before
pub not_before : (xs : List ℕ) (i x : ℕ) → HasNoRepeats xs → At xs i x → (k : ℕ) → ¬ At (take i xs) k x
not_before xs i x once stands k at = let early = take_at xs i k x at in omega (arith, early.1, once k i x early.0 stands)

-- an element stands somewhere in a list, or nowhere
pub somewhere : (xs : List ℕ) (x : ℕ) → ((i : ℕ) × At xs i x) ⊎ ((i : ℕ) → ¬ At xs i x)
somewhere [] x = inr (λ i at. omega (arith, slice_get_within [] i x at))
somewhere (y ∷ xs) x =
    ⊎_elim
    (λ (same : y ≡ x). inl (zero, ap (λ z. Some z) same))
    (λ (other : y ≢ x). ⊎_elim
    (λ found. inl (suc found.0, found.1))
    (λ none. inr (nowhere none other))
    (somewhere xs x))
    (cases_eq y x)
  where
    nowhere : ((i : ℕ) → ¬ At xs i x) → y ≢ x → (i : ℕ) → ¬ At (y ∷ xs) i x
    nowhere none other zero at = other (same_Some y x at)
    nowhere none other (suc i) at = none i at

-- the number of a net
number_at : (ids : List ℕ) (index : NetIndex) → IsIndexOf ids index → (i id : ℕ) → At ids i id → (a : ℕ) × At index.numbers.items i a
number_at ids index is i id at =
    (get_or index.numbers.items i 0, slice_get-get_or index.numbers.items i 0 (omega (arith, slice_get_within ids i id at, is.long)))

-- the net of a number that the index tells
pub told_of : (ids : List ℕ) (index : NetIndex) → IsIndexOf ids index → (id a : ℕ) → get nat_cmp index.by_id id ≡ Some a
    → (i : ℕ) × At ids i id × At index.numbers.items i a
told_of ids index is id a told =
    ⊎_elim
    (λ found.
    let number = number_at ids index is found.0 id found.1 in
    let same : number.0 ≡ a = same_Some number.0 a (sym (is.told found.0 id number.0 found.1 number.1) ∙ told) in
    (found.0, found.1, subst (λ b. At index.numbers.items found.0 b) same number.1))
    (λ none. absurd (let off : None ≡ Some a = sym (is.only id none) ∙ told in cc))
    (somewhere ids id)

-- where the index tells nothing, no net has the id
pub untold : (ids : List ℕ) (index : NetIndex) → IsIndexOf ids index → (id : ℕ) → get nat_cmp index.by_id id ≡ None → (i : ℕ) → ¬ At ids i id
untold ids index is id none i at =
    let number = number_at ids index is i id at in
    let off : None ≡ Some number.0 = sym none ∙ is.told i id number.0 at number.1 in cc

-- the map has something at the id, and at others what it had
abbrev pub Changes : NetIndex → NetIndex → ℕ → Option ℕ → Type 0
Changes old new id value = (q : ℕ) → get nat_cmp new.by_id q ≡ cond (id == q) value (get nat_cmp old.by_id q)

changed : (old new : NetIndex) (id : ℕ) (value : Option ℕ) → Changes old new id value → get nat_cmp new.by_id id ≡ value
changed old new id value changes = changes id ∙ ap (λ b. cond b value (get nat_cmp old.by_id id)) (eq-eqb id id refl)

kept : (old new : NetIndex) (id q : ℕ) (value : Option ℕ) → Changes old new id value → id ≢ q → get nat_cmp new.by_id q ≡ get nat_cmp old.by_id q
kept old new id q value changes other = changes q ∙ ap (λ b. cond b value (get nat_cmp old.by_id q)) (ne_eqb id q other)

-- what std says of a map that changes
pub Changes-tied : (old new : NetIndex) (id : ℕ) (value : Option ℕ) → ((q : ℕ) → get nat_cmp new.by_id q ≡ cond (eq_by_cmp nat_cmp id q) value (get nat_cmp old.by_id q)) → Changes old new id value
Changes-tied old new id value changes q = changes q ∙ ap (λ b. cond b value (get nat_cmp old.by_id q)) (unsigned_tied id q)

-- with the same numbers and entries it is the same index
pub IsIndexOf-same : (ids : List ℕ) (old new : NetIndex) → IsIndexOf ids old → new.numbers.items ≡ old.numbers.items → new.by_id.entries ≡ old.by_id.entries → new.next ≡ old.next
    → IsIndexOf ids new
IsIndexOf-same ids old new is numbers entries next =
    let found : (id : ℕ) → get nat_cmp new.by_id id ≡ get nat_cmp old.by_id id = λ id. ap (lookup (is_at (nat_cmp id))) entries in
    record {
      long = ap length numbers ∙ is.long;
      rising = subst AreRisingNumbers (sym numbers) is.rising;
      given = λ i a at. omega (arith, is.given i a (subst (λ (ns : List ℕ). At ns i a) numbers at), next);
      told = λ i id a at_id at. found id ∙ is.told i id a at_id (subst (λ (ns : List ℕ). At ns i a) numbers at);
      only = λ id none. found id ∙ is.only id none;
    }

module _ (ids : List ℕ) (old new : NetIndex) (id : ℕ) (is : IsIndexOf ids old) where
  -- a net came
  pub IsIndexOf-pushed : ((i : ℕ) → ¬ At ids i id) → new.numbers.items ≡ old.numbers.items ++ old.next ∷ [] → new.next ≡ old.next + 1
      → Changes old new id (Some old.next) → IsIndexOf (ids ++ id ∷ []) new
  IsIndexOf-pushed free numbers next changes =
      let was : List ℕ = old.numbers.items in
      let shown : (i a : ℕ) → At new.numbers.items i a → (At was i a) ⊎ ((i ≡ length was) × (a ≡ old.next)) =
      λ i a at. At-push_cases was old.next a i (subst (λ (ns : List ℕ). At ns i a) numbers at) in
      record {
        long = ap length numbers ∙ omega (arith, length_push was old.next, length_push ids id, is.long);
        rising = λ i j a b less at_i at_j. ⊎_elim
            (λ first. ⊎_elim
            (λ second. is.rising i j a b less first second)
            (λ last. subst (λ (x : ℕ). a < x) (sym last.1) (is.given i a first))
            (shown j b at_j))
            (λ last. absurd (omega (arith, less, last.0, ap length numbers, length_push was old.next, slice_get_within new.numbers.items j b at_j)))
            (shown i a at_i);
        given = λ i a at. ⊎_elim
            (λ first. omega (arith, is.given i a first, next))
            (λ last. omega (arith, last.1, next))
            (shown i a at);
        told = λ i q a at_id at. ⊎_elim
            (λ first. ⊎_elim
            (λ before. kept old new id q (Some old.next) changes (λ same. free i (subst (λ (x : ℕ). At ids i x) (sym same) first)) ∙ is.told i q a first before)
            (λ last. absurd (omega (arith, slice_get_within ids i q first, last.0, is.long)))
            (shown i a at))
            (λ come. ⊎_elim
            (λ before. absurd (omega (arith, slice_get_within was i a before, come.0, is.long)))
            (λ last. ap (get nat_cmp new.by_id) come.1 ∙ changed old new id (Some old.next) changes ∙ ap (λ x. Some x) (sym last.1))
            (shown i a at))
            (At-push_cases ids id q i at_id);
        only = λ q none.
            kept old new id q (Some old.next) changes (λ same. none (length ids) (subst (λ (x : ℕ). At (ids ++ id ∷ []) (length ids) x) same (At-pushed ids id)))
            ∙ is.only q (λ i at. none i (At-push ids id q i at));
      }

  -- a net went
  pub IsIndexOf-removed : (place : ℕ) → HasNoRepeats ids → At ids place id → new.numbers.items ≡ remove old.numbers.items place → new.next ≡ old.next
      → Changes old new id None → IsIndexOf (remove ids place) new
  IsIndexOf-removed place once stands numbers next changes =
      let was : List ℕ = old.numbers.items in
      let within : place < length ids = slice_get_within ids place id stands in
      let shown : (i a : ℕ) → At new.numbers.items i a → At was (place_before place i) a =
      λ i a at. At-removed was place i a (subst (λ (ns : List ℕ). At ns i a) numbers at) in
      record {
        long = ap length numbers ∙ omega (arith, length-removed was place (omega (arith, within, is.long)), length-removed ids place within, is.long);
        rising = λ i j a b less at_i at_j.
            is.rising (place_before place i) (place_before place j) a b (place_before-rises place i j less) (shown i a at_i) (shown j b at_j);
        given = λ i a at. omega (arith, is.given (place_before place i) a (shown i a at), next);
        told = λ i q a at_id at.
            let stood : At ids (place_before place i) q = At-removed ids place i q at_id in
            kept old new id q None changes (λ same. place_before-differs place i (once (place_before place i) place q stood (subst (λ (x : ℕ). At ids place x) same stands)))
            ∙ is.told (place_before place i) q a stood (shown i a at);
        only = λ q none. ⊎_elim
            (λ (same : id ≡ q). ap (get nat_cmp new.by_id) (sym same) ∙ changed old new id None changes)
            (λ (other : id ≢ q). kept old new id q None changes other ∙ is.only q (λ k at.
            let moved = place_after place k (λ here. other (same_Some id q (sym stands ∙ subst (λ (x : ℕ). At ids x q) here at))) in
            none moved.0 (At-remaining ids place moved.0 q (subst (λ (x : ℕ). At ids x q) (sym moved.1) at))))
            (cases_eq id q);
      }
