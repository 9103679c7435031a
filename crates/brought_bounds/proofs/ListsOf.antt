-- Lists of rows.
use Rattle.std.proofs.Common.{◌≡◌, ◌<◌, ℕ, List, [], length, get_or, All, Vec, sym, ◌∙◌, ap, subst, arith}
use Rattle.std.proofs.lemmas.List.{length-map}
use Rattle.std.proofs.lemmas.Option.{slice_get-map, slice_get-get_or, same_Some}
use Rattle.std.specs.Option.{option_map}
use Rattle.std.specs.declared.alloc.Global.{Global}
use Rattle.brought_bounds.specs.RowLists.{lists_of}

pub lists-length : (rows : List (Vec ℕ Global)) → length (lists_of rows) ≡ length rows
lists-length rows = length-map rows (λ row. row.items)

pub list_at : (rows : List (Vec ℕ Global)) (k : ℕ) (d : List ℕ) (e : Vec ℕ Global) → k < length rows
    → get_or (lists_of rows) k d ≡ (get_or rows k e).items
list_at rows k d e low =
    same_Some (get_or (lists_of rows) k d) ((get_or rows k e).items)
    (sym (slice_get-get_or (lists_of rows) k d (omega (arith, low, lists-length rows)))
    ∙ slice_get-map (λ row. row.items) rows k ∙ ap (option_map (λ (row : Vec ℕ Global). row.items))
    (slice_get-get_or rows k e low))

pub all_lists : (P : List ℕ → Type 0) (rows : List (Vec ℕ Global)) → All P (lists_of rows) → All (λ row. P row.items) rows
all_lists P rows all k d low = subst P (list_at rows k [] d low) (all k [] (omega (arith, low, lists-length rows)))
