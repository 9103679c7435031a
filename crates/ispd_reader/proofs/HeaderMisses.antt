-- What is missing before the nets where no token is left.
use Rattle.std.proofs.Common.{◌≡◌, ℕ, ◌<◌, [], length, Err, refl, arith}
use Rattle.std.specs.Prelude.{IsTrue, nat_lt}
use Rattle.std.proofs.lemmas.Bool.Decides.{nat_tests}
use Rattle.grid_base.specs.Numbers.{layers}
use Rattle.text_scan.specs.Reading.{tokens_left}
use Rattle.ispd_reader.specs.declared.header_stage.HeaderStage.{HeaderStage}
use Rattle.ispd_reader.specs.declared.header_stage.HeaderStage.TheVariants.{Size, List, Tiles}
use Rattle.ispd_reader.specs.declared.header_stage.SizeStage.TheVariants.{Grid, Cols, Rows, Layers}
use Rattle.ispd_reader.specs.declared.header_stage.ListStage.TheVariants.{FirstWord, SecondWord, Value}
use Rattle.ispd_reader.specs.declared.header_stage.LayoutStage.TheVariants.{Left, Lower, Width, Height}
use Rattle.design_tokens.specs.declared.input_fault.InputFault.TheVariants.{Syntax}
use Rattle.ispd_reader.specs.declared.layer_lists.LayerLists.{LayerLists}
use Rattle.design_tokens.specs.declared.wanted.Wanted.TheVariants as wanted
use Rattle.design_tokens.specs.Parsing.{Reading}
use Rattle.ispd_reader.specs.Header.{extent_at, origin_at, tile_size_at}
use Rattle.ispd_reader.specs.HeaderStages.{stage_left, wanted_at, IsStage}
use Rattle.ispd_reader.specs.LayerLists.{first_word, second_word}
use Rattle.ispd_reader.specs.LayersRead.{header_with}
use Rattle.design_tokens.proofs.NextTokens.{no_word, no_number, no_side}
use Rattle.ispd_reader.proofs.HeaderSteps.{first_word_refused, second_word_refused, no_value}

room : (done count : ℕ) → IsTrue (nat_lt done count) → done < count
room done count h = grind (arith, nat_tests)

-- the word, or number, that is next is missing
pub stage_misses : (stage : HeaderStage) (read : LayerLists) → IsStage stage read → (r : Reading) → tokens_left r ≡ [] → stage_left stage read r ≡ Err (Syntax (length r.text) (wanted_at stage))
unfolding extent_at origin_at tile_size_at
stage_misses (Size Grid) read kept r none = rw (no_word wanted.Grid r none) refl
stage_misses (Size Cols) read kept r none = rw (no_number r none) refl
stage_misses (Size (Rows cols)) read kept r none = rw (no_number r none) refl
stage_misses (Size (Layers cols rows)) read kept r none = rw (no_number r none) refl
stage_misses (List size list FirstWord) read kept r none = first_word_refused list (header_with size read) r (Syntax (length r.text) (first_word list)) (no_word (first_word list) r none)
stage_misses (List size list SecondWord) read kept r none = second_word_refused list (header_with size read) r (Syntax (length r.text) (second_word list)) (no_word (second_word list) r none)
stage_misses (List size list (Value done)) read kept r none = no_value list size done read kept.lists (room done (layers size) kept.next) r none
stage_misses (Tiles size Left) read kept r none = rw (no_number r none) refl
stage_misses (Tiles size (Lower x)) read kept r none = rw (no_number r none) refl
stage_misses (Tiles size (Width origin)) read kept r none = rw (no_side r none) refl
stage_misses (Tiles size (Height origin width)) read kept r none = rw (no_side r none) refl
