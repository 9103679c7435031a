-- Targets and the places where they are.
use Rattle.std.proofs.Common.{ℕ, List, [], ◌∷◌, ◌++◌, Some, ◌≡◌, ◌<◌, ◌+◌, length, take, map, get_or, slice_get, ap, sym, subst, ◌∙◌, inl, inr, arith}
use Rattle.std.specs.List.{Any}
use Rattle.std.specs.Option.{option_map}
use Rattle.std.proofs.lemmas.List.{map-append, take_more, length-map}
use Rattle.std.proofs.lemmas.Option.{slice_get_cases, slice_get-get_or, slice_get-map}
use Rattle.net_search.specs.declared.goal.Goal.{Goal}
use Rattle.net_search.specs.declared.site.Site.{Site}
use Rattle.net_search.specs.declared.target.Target.{Target}

site_is : (a b : Site) → Some a ≡ Some b → a ≡ b
site_is a b e = cc

mapped_length : {A B : Type 0} (f : A → B) (xs : List A) → length (map f xs) ≡ length xs
mapped_length f xs = simp length-map

-- goals that stand where the targets do: what is so of the place of a goal is so of the place of a target
pub found_target : (goals : List Goal) (targets : List Target) (P : Site → Type 0)
    → map (λ (goal : Goal). goal.site) goals ≡ map (λ (target : Target). target.site) targets
    → Any (λ (goal : Goal). P goal.site) goals → Any (λ (target : Target). P target.site) targets
found_target goals targets P same (k, g, within, is, holds) =
    let here : slice_get goals k ≡ Some g = slice_get-get_or goals k g within ∙ ap (λ (x : Goal). Some x) is in
    let left : slice_get (map (λ (x : Goal). x.site) goals) k ≡ Some g.site =
    slice_get-map (λ (x : Goal). x.site) goals k ∙ ap (option_map (λ (x : Goal). x.site)) here in
    elim (slice_get_cases targets k).1 [
      | inl w ↦
          let right : slice_get (map (λ (x : Target). x.site) targets) k ≡ Some w.0.site =
          slice_get-map (λ (x : Target). x.site) targets k ∙ ap (option_map (λ (x : Target). x.site)) w.2 in
          (k, w.0, w.1, w.3, subst P (site_is g.site w.0.site (sym left ∙ (ap (λ (xs : List Site). slice_get xs k) same ∙ right))) holds)
      | inr past ↦
          let long : length goals ≡ length targets =
          sym (mapped_length (λ (x : Goal). x.site) goals) ∙ (ap length same ∙ mapped_length (λ (x : Target). x.site) targets) in
          absurd (omega (arith, within, long, past.0))
    ]

-- one goal more, where the next target is
pub aimed_more : (goals new : List Goal) (goal : Goal) (targets : List Target) (i : ℕ) (d : Target) → i < length targets
    → new ≡ goals ++ (goal ∷ []) → goal.site ≡ (get_or targets i d).site
    → map (λ (x : Goal). x.site) goals ≡ map (λ (x : Target). x.site) (take i targets)
    → map (λ (x : Goal). x.site) new ≡ map (λ (x : Target). x.site) (take (i + 1) targets)
aimed_more goals new goal targets i d within put at before =
    let g : Goal → Site = λ x. x.site in
    let t : Target → Site = λ x. x.site in
    ap (map g) put ∙ (map-append g goals (goal ∷ []) ∙ (ap (λ xs. xs ++ (goal.site ∷ [])) before
    ∙ (ap (λ (s : Site). map t (take i targets) ++ (s ∷ [])) at
    ∙ (sym (map-append t (take i targets) (get_or targets i d ∷ [])) ∙ sym (ap (map t) (take_more targets i d within))))))
