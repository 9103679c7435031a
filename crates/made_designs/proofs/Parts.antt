-- Reading parts one after another, whose words are those of the elements of a list.
use Rattle.std.proofs.Common.{◌≡◌, ℕ, ◌+◌, List, [], ◌∷◌, ◌++◌, length, All, refl, ◌∙◌, append_assoc}
use Rattle.std.specs.Prelude.{map, flat_map}
use Rattle.std.proofs.lemmas.List.Elements.{All-head, All-tail}
use Rattle.text_scan.specs.Parts.{Read, parts_at}
use Rattle.text_scan.specs.Reading.{Reading}
use Rattle.made_designs.proofs.LineWords.{words_left}
use Rattle.made_designs.proofs.Tokens.{Reads, reads-then}

module _ {A F X : Type 0} (part : ℕ → Reading → Read Reading F A) (Fits : X → Type 0) (words : X → List (List ℕ)) (value : X → A) where
  -- the words of an element are read as its value, whatever its number and what stands behind
  abbrev pub ReadsBack : X → Type 0
  ReadsBack x = (i : ℕ) (r : Reading) (others : List (List ℕ)) → words_left r ≡ words x ++ others → Reads (part i r) (value x) others

  -- so all are read, in order
  pub parts_read : ((x : X) → Fits x → ReadsBack x) → (xs : List X) → All Fits xs → (i : ℕ) (r : Reading) (others : List (List ℕ)) →
      words_left r ≡ flat_map words xs ++ others → Reads (parts_at part i (length xs) r) (map value xs) others
  parts_read each [] all i r others here = record { after = r; reads = refl; leaves = here }
  parts_read each (x ∷ xs) all i r others here =
      reads-then _ (each x (All-head Fits x xs all) i r (flat_map words xs ++ others) (here ∙ append_assoc (words x) (flat_map words xs) others)) (λ r1 here1.
      reads-then _ (parts_read each xs (All-tail Fits x xs all) (i + 1) r1 others here1) (λ r2 here2.
      record { after = r2; reads = refl; leaves = here2 }))
