-- What the text of a generated design says.
use Rattle.std.proofs.Common.{◌≡◌, ℕ, ◌+◌, ◌*◌, ◌≤◌, ◌^◌, false, nat_lt, List, [], ◌∷◌, ◌++◌, length, All, refl, sym, ap, subst, ◌∙◌, arith, append_assoc, length-append, Ok, ⊎_elim, lt-ltb, Err, ◌<◌}
use Rattle.std.specs.Prelude.{codes, decimal, map, flat_map}
use Rattle.std.proofs.lemmas.Bool.{cases_lt}
use Rattle.std.proofs.lemmas.Bool.Decides.{nat_tests}
use Rattle.std.proofs.lemmas.Grind.{flat_map-append}
use Rattle.std.proofs.lemmas.List.{append-nil, length-map}
use Rattle.std.proofs.lemmas.List.Elements.{All-cons, All-append}
use Rattle.std.proofs.lemmas.List.Folds.{flat_map-map}
use Rattle.text_scan.specs.Reading.{Reading, whole}
use Rattle.gr_make.specs.declared.shape.Shape.{Shape}
use Rattle.gr_make.specs.MadeAdjustments.{MadeAdjustment, adjustment_count, made_adjustments}
use Rattle.gr_make.specs.MadeNets.{MadeNet, made_nets}
use Rattle.gr_make.specs.MadeText.{line_text, heading_lines, pin_line, net_lines, adjustment_line, made_text}
use Rattle.gr_make.specs.Shapes.{IsShape, max_made_nets}
use Rattle.design_tokens.specs.declared.input_fault.InputFault.TheVariants.{TooLong}
use Rattle.ispd_reader.specs.Adjustments.{Adjustment, adjustments_at}
use Rattle.ispd_reader.specs.Designs.{Contents, contents_at, contents_of}
use Rattle.ispd_reader.specs.Header.{header_at}
use Rattle.ispd_reader.specs.Limits.{max_bytes}
use Rattle.ispd_reader.specs.Nets.{Net, nets_at}
use Rattle.made_designs.specs.MadeContents.{made_extent, made_header, net_made, adjustment_made, made_contents}
use Rattle.made_designs.proofs.Adjusting.{IsMadeAdjustment, adjustments_read}
use Rattle.made_designs.proofs.Drawn.{nets_numbered, length-made_nets, adjustments_fit, length-made_adjustments, few_adjustments}
use Rattle.made_designs.proofs.Heading.{heading_read}
use Rattle.made_designs.proofs.Lengths.{length-text}
use Rattle.made_designs.proofs.Lines.{IsShortLine, heading_short, nets_short, adjustments_short, count_short}
use Rattle.made_designs.proofs.LineWords.{words_left, words_of_lines, text_words}
use Rattle.made_designs.proofs.Nets.{AreNumberedFrom, words_of_net, nets_read}
use Rattle.made_designs.proofs.Tokens.{Reads}

-- ---- the words of its lines

words_of_nets : (nets : List MadeNet) → words_of_lines (flat_map net_lines nets) ≡ flat_map words_of_net nets
words_of_nets [] = refl
words_of_nets (net ∷ nets) =
    let line : List (List ℕ) → List (List ℕ) = λ words. words in
    let first : List (List ℕ) = (codes "n" ++ decimal net.number) ∷ decimal net.number ∷ decimal (length net.pins) ∷ decimal 1 ∷ [] in
    flat_map-append line (net_lines net) (flat_map net_lines nets)
    ∙ ap (λ (others : List (List ℕ)). words_of_lines (net_lines net) ++ others) (words_of_nets nets)
    ∙ ap (λ (pins : List (List ℕ)). first ++ pins ++ flat_map words_of_net nets) (flat_map-map line pin_line net.pins)

-- the lines after the nets
abbrev last_lines : List MadeAdjustment → List (List (List ℕ))
last_lines adjustments = (decimal (length adjustments) ∷ []) ∷ map adjustment_line adjustments

-- the words after the nets
abbrev last_words : List MadeAdjustment → List (List ℕ)
last_words adjustments = decimal (length adjustments) ∷ (flat_map adjustment_line adjustments ++ [])

words_of_all : (heading : List (List (List ℕ))) (nets : List MadeNet) (adjustments : List MadeAdjustment) →
    words_of_lines (heading ++ flat_map net_lines nets ++ last_lines adjustments) ≡ words_of_lines heading ++ (flat_map words_of_net nets ++ last_words adjustments)
words_of_all heading nets adjustments =
    let line : List (List ℕ) → List (List ℕ) = λ words. words in
    let last = last_lines adjustments in
    flat_map-append line (heading ++ flat_map net_lines nets) last
    ∙ ap (λ (words : List (List ℕ)). words ++ words_of_lines last) (flat_map-append line heading (flat_map net_lines nets) ∙ ap (λ (words : List (List ℕ)). words_of_lines heading ++ words) (words_of_nets nets))
    ∙ append_assoc (words_of_lines heading) (flat_map words_of_net nets) (words_of_lines last)
    ∙ ap (λ (words : List (List ℕ)). words_of_lines heading ++ (flat_map words_of_net nets ++ (decimal (length adjustments) ∷ words)))
    (flat_map-map line adjustment_line adjustments ∙ sym (append-nil (flat_map adjustment_line adjustments)))

-- ---- their reading

contents_of_parts : (shape : Shape) (r : Reading) (nets : List Net) (adjustments : List Adjustment) (behind_heading behind_nets : List (List ℕ)) →
    (heading : Reads (header_at r) (made_header shape) behind_heading) (all : Reads (nets_at (made_header shape) heading.after) nets behind_nets) → Reads (adjustments_at (made_extent shape) all.after) adjustments [] →
    contents_at r ≡ Ok (record { header = made_header shape; nets = nets; adjustments = adjustments })
unfolding contents_at
contents_of_parts shape r nets adjustments behind_heading behind_nets heading all last = rw (heading.reads, all.reads, last.reads) refl

module _ (shape : Shape) (is : IsShape shape) (nets : List MadeNet) (numbered : AreNumberedFrom shape 0 nets) (long : length nets ≡ shape.nets)
    (adjustments : List MadeAdjustment) (fit : All (IsMadeAdjustment shape) adjustments) (few : length adjustments ≤ 2 ^ 16) where
  abbrev lines : List (List (List ℕ))
  lines = heading_lines shape ++ flat_map net_lines nets ++ last_lines adjustments

  few_nets : 0 + length nets ≤ max_made_nets
  few_nets = omega (arith, long, is.few_nets)

  lines_short : All IsShortLine lines
  lines_short =
      All-append IsShortLine (heading_lines shape ++ flat_map net_lines nets) (last_lines adjustments)
      (All-append IsShortLine (heading_lines shape) (flat_map net_lines nets) (heading_short shape is) (nets_short shape is nets 0 numbered few_nets).lines)
      (All-cons IsShortLine (decimal (length adjustments) ∷ []) (map adjustment_line adjustments) (count_short (length adjustments) (omega (arith, few))) (adjustments_short shape is adjustments fit))

  lines_few : length lines ≤ 2 ^ 23 + 2 ^ 16 + 9
  lines_few = omega (
    arith,
    length-append (heading_lines shape ++ flat_map net_lines nets) (last_lines adjustments),
    length-append (heading_lines shape) (flat_map net_lines nets),
    (nets_short shape is nets 0 numbered few_nets).few,
    length-map adjustments adjustment_line,
    few,
    few_nets,
  )

  text_fits : nat_lt max_bytes (length (flat_map line_text lines)) ≡ false
  text_fits =
      let bound : length (flat_map line_text lines) ≤ 120 * length lines = length-text lines lines_short in
      let small : length (flat_map line_text lines) ≤ max_bytes = omega (arith, bound, lines_few) in
      grind (arith, nat_tests)

  begins : words_left (whole (flat_map line_text lines)) ≡ words_of_lines (heading_lines shape) ++ (flat_map words_of_net nets ++ last_words adjustments)
  begins = text_words 0 lines (λ k e below i f inside. ((lines_short k e below).words i f inside).is) ∙ words_of_all (heading_lines shape) nets adjustments

  -- it is read as what the nets and the adjustments say
  text_says : contents_of (flat_map line_text lines) ≡ Ok (record { header = made_header shape; nets = map (net_made shape) nets; adjustments = map (adjustment_made shape) adjustments })
  text_says =
      let heading = heading_read shape is (whole (flat_map line_text lines)) (flat_map words_of_net nets ++ last_words adjustments) begins in
      let all = nets_read shape is nets numbered long heading.after (last_words adjustments) heading.leaves in
      let last = adjustments_read shape is adjustments fit (omega (arith, few)) all.after [] all.leaves in
      rw text_fits (contents_of_parts shape (whole (flat_map line_text lines)) (map (net_made shape) nets) (map (adjustment_made shape) adjustments) _ _ heading all last)

-- the text of a generated design says its nets and its adjustments
pub made_text_says : (seed : ℕ) (shape : Shape) → IsShape shape → contents_of (made_text seed shape) ≡ Ok (made_contents seed shape)
made_text_says seed shape is =
    let nets = made_nets seed shape in
    let adjustments = made_adjustments seed shape in
    let count : length adjustments ≡ adjustment_count shape = length-made_adjustments seed shape in
    let says : contents_of (flat_map line_text (heading_lines shape ++ flat_map net_lines nets ++ last_lines adjustments)) ≡ Ok (made_contents seed shape) =
    text_says shape is nets (nets_numbered seed shape is) (length-made_nets seed shape) adjustments (adjustments_fit seed shape is) (omega (arith, count, few_adjustments shape is)) in
    subst (λ n. contents_of (flat_map line_text (heading_lines shape ++ flat_map net_lines nets ++ ((decimal n ∷ []) ∷ map adjustment_line adjustments))) ≡ Ok (made_contents seed shape)) count says

-- a text that says something is not too long
says_is_short : (text : List ℕ) (c : Contents) → contents_of text ≡ Ok c → length text ≤ max_bytes
says_is_short text c says = ⊎_elim
    (λ (long : max_bytes < length text). let refused : contents_of text ≡ Err TooLong = rw (lt-ltb max_bytes (length text) long) refl in absurd (cc))
    (λ (short : length text ≤ max_bytes). short)
    (cases_lt max_bytes (length text))

-- so that of a generated design is not
pub made_text_short : (seed : ℕ) (shape : Shape) → IsShape shape → length (made_text seed shape) ≤ max_bytes
made_text_short seed shape is = says_is_short (made_text seed shape) (made_contents seed shape) (made_text_says seed shape is)
