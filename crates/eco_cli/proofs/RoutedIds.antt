-- The ids of nets that edits route, edit by edit.
use Rattle.std.proofs.Common.{◌≡◌, ◌+◌, ◌==◌, ◌||◌, ℕ, zero, suc, Bool, true, false, List, [], ◌∷◌, take, cond, refl, sym, ◌∙◌, ap, arith}
use Rattle.std.proofs.Math.Bool.{or-false, or_assoc}
use Rattle.std.proofs.lemmas.Option.{same_Some, slice_get_within}
use Rattle.std.specs.List.{list_any}
use Rattle.edit_text.specs.declared.edit.Edit.{Edit}
use Rattle.grid_base.specs.Lists.{At}
use Rattle.eco_cli.specs.RoutedCounts.{routes_net}

-- one element more
any-next : {X : Type 0} (p : X → Bool) (xs : List X) (k : ℕ) (x : X) → At xs k x → list_any p (take (suc k) xs) ≡ (list_any p (take k xs) || p x)
any-next p [] k x at = absurd (omega (arith, slice_get_within [] k x at))
any-next p (y ∷ xs) zero x at = or-false (p y) ∙ ap p (same_Some y x at)
any-next p (y ∷ xs) (suc k) x at = ap (λ b. p y || b) (any-next p xs k x at) ∙ sym (or_assoc (p y) (list_any p (take k xs)) (p x))

plus_one : (k : ℕ) → suc k ≡ k + 1
plus_one k = omega arith

cond-or : (b a : Bool) → cond b true a ≡ (a || b)
cond-or true true = refl
cond-or true false = refl
cond-or false true = refl
cond-or false false = refl

-- the ids that the edits so far route
abbrev pub AreRoutedSoFar : List Edit → ℕ → (ℕ → Bool) → Type 0
AreRoutedSoFar edits k ids = (id : ℕ) → ids id ≡ list_any (routes_net id) (take k edits)

-- one edit more, with its id or with none
pub routed-next : (edits : List Edit) (k : ℕ) (e : Edit) (ids more : ℕ → Bool) → At edits k e → AreRoutedSoFar edits k ids
    → ((id : ℕ) → more id ≡ cond (routes_net id e) true (ids id)) → AreRoutedSoFar edits (k + 1) more
routed-next edits k e ids more at are next id =
    next id ∙ cond-or (routes_net id e) (ids id) ∙ ap (λ b. b || routes_net id e) (are id) ∙ sym (any-next (routes_net id) edits k e at)
    ∙ ap (λ n. list_any (routes_net id) (take n edits)) (plus_one k)
