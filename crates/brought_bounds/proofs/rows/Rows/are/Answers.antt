use Rattle.std.proofs.Common.{◌≡◌, ℕ, List, All, Vec, length, sym, ◌∙◌, ap, subst}
use Rattle.std.proofs.lemmas.List.Elements.{All-map}
use Rattle.std.specs.declared.alloc.Global.{Global}
use Rattle.brought_bounds.specs.RowLists.{lists_of}
use Rattle.brought_bounds.specs.TableWords.{IsRow}
use Rattle.brought_bounds.proofs.ListsOf.{lists-length, all_lists}
use Rattle.brought_bounds.proofs.rows.Rows.are.Goals as goal

pub returns-then-len-rows : goal.returns-then-len-rows
returns-then-len-rows c =
    let n = c.args.numbers in
    let rows = c.self.inside.rows.items in
    let view : lists_of rows ≡ c.args.self.now = c.self.view_is in
    let given : c.as_slice.result.now ≡ rows = c.as_slice.ensures.value in
    let All_rows : List (Vec ℕ Global) → Type 0 = λ xs. All (λ (row : Vec ℕ Global). IsRow n row.items) xs in (
      λ is. (
        ap length (sym view) ∙ lists-length rows ∙ ap length (sym given) ∙ c.as_slice.ensures.len ∙ sym c.len.ensures
            ∙ c.if-len-rows.true,
        subst (All (IsRow n)) view (All-map (IsRow n) (λ row. row.items) rows (subst All_rows given (c.are_rows.ensures.0 is))),
      ),
      λ both. c.are_rows.ensures.1 (subst All_rows (sym given)
          (all_lists (IsRow n) rows (subst (All (IsRow n)) (sym view) both.1))),
    )
