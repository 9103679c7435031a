-- Adjusting a grid step by step.
use Rattle.std.proofs.Common.{◌≡◌, ◌≢◌, ℕ, true, false, ◌==◌, List, [], ◌∷◌, ◌++◌, length, Some, Ok, refl, sym, ap, ◌∙◌, ⊎_elim, eq-eqb, ne_eqb}
use Rattle.std.specs.Option.{unwrap_or}
use Rattle.std.proofs.lemmas.Bool.{cases_eq}
use Rattle.grid_base.proofs.Lists.{length-some}
use Rattle.grid_base.proofs.Options.{unwrap_or-option_or}
use Rattle.text_scan.specs.Tokens.{Token}
use Rattle.text_scan.specs.Reading.{tokens_left, past_blanks}
use Rattle.grid_graph.specs.declared.grid.Grid.{Grid}
use Rattle.grid_graph.specs.Grids.{capacity}
use Rattle.design_tokens.specs.Parsing.{Reading, ◌>>=◌, parts_at}
use Rattle.ispd_reader.specs.Limits.{max_adjustments}
use Rattle.design_tokens.specs.Numbers.{count_at}
use Rattle.ispd_reader.specs.Header.{Extent}
use Rattle.ispd_reader.specs.Adjustments.{Adjustment, level_where, last_level, adjustment_at, adjustments_at}
use Rattle.ispd_reader.specs.Adjusted.{IsAdjusted, IsAdjustedBy}

-- no token is left
pub no_adjustments : (e : Extent) (r : Reading) → tokens_left r ≡ [] → adjustments_at e r ≡ Ok ([], past_blanks r)
unfolding adjustments_at
no_adjustments e r h = let none : (length (tokens_left r) == 0) ≡ true = ap (λ (ts : List Token). length ts == 0) h in rw none refl

-- a token is left
pub some_adjustments : (e : Extent) (r : Reading) → (tokens_left r ≡ [] → ⊥) → adjustments_at e r ≡ (count_at max_adjustments (past_blanks r) >>= λ count. parts_at (adjustment_at e) 0 count.0 count.1)
unfolding adjustments_at
some_adjustments e r h = let some : (length (tokens_left r) == 0) ≡ false = length-some (tokens_left r) h in rw some refl

-- one more adjustment decides for its edge, and leaves the others as they were
last_level-push : (e : ℕ) (done : List Adjustment) (a : Adjustment) (before : ℕ) → unwrap_or (last_level e (done ++ a ∷ [])) before ≡ unwrap_or (level_where e a.edge a.level) (unwrap_or (last_level e done) before)
last_level-push e [] a before = refl
last_level-push e (b ∷ bs) a before =
    let own = level_where e b.edge b.level in
    unwrap_or-option_or (last_level e (bs ++ a ∷ [])) own before ∙ last_level-push e bs a (unwrap_or own before)
    ∙ sym (ap (unwrap_or (level_where e a.edge a.level)) (unwrap_or-option_or (last_level e bs) own before))

-- before any adjustment
pub IsAdjusted-none : (g : Grid) → IsAdjusted g g []
IsAdjusted-none g = record { levels = λ e. refl; kept = refl }

-- one more adjustment
pub IsAdjusted-push : (old now new : Grid) (done : List Adjustment) (a : Adjustment) → IsAdjusted old now done → IsAdjustedBy now new a → IsAdjusted old new (done ++ a ∷ [])
IsAdjusted-push old now new done a so_far step = record {
  levels = λ e. step.levels e ∙ ap (λ d. unwrap_or (level_where e a.edge a.level) d) (so_far.levels e)
      ∙ sym (last_level-push e done a (capacity old e));
  kept = step.kept ∙ so_far.kept;
}

-- an adjustment of one edge
pub one_edge : (old new : Grid) (x level : ℕ) → capacity new x ≡ level → ((e : ℕ) → e ≢ x → capacity new e ≡ capacity old e) → (e : ℕ) → capacity new e ≡ unwrap_or (level_where e (Some x) level) (capacity old e)
one_edge old new x level here others e = ⊎_elim
    (λ (h : x ≡ e). let t : (x == e) ≡ true = eq-eqb x e h in rw t (ap (capacity new) (sym h) ∙ here))
    (λ (h : x ≢ e). let t : (x == e) ≡ false = ne_eqb x e h in rw t (others e (λ q. h (sym q))))
    (cases_eq x e)
