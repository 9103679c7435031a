use Rattle.std.proofs.Common.{ℕ, List, slice_index, ◌∙◌, ap}
use Rattle.load_table.proofs.ShortValues.{inside-short}
use Rattle.load_table.proofs.found.Found.at.Goals as goal

pub value_at-requires-clause-word : goal.value_at-requires-clause-word
value_at-requires-clause-word c = rw c.as_slice.ensures.value (inside-short _ _ c.self.view_is c.requires.word)

pub returns : goal.returns
returns c = record { value = c.value_at.ensures.value ∙ rw (c.as_slice.ensures.value, c.as_slice-2.ensures.value) (ap (λ (l : List ℕ). slice_index l c.args.word) c.self.view_is) }
