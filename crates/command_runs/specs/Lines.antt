-- Lines of the report.
use Rattle.std.specs.Prelude.{ℕ, List, ◌∷◌, [], ◌++◌, flat_map, codes, decimal, Some, None}
use Rattle.std.specs.declared.option.Option.{Option}
use Rattle.edge_prices.specs.declared.budget.Budget.{Budget}
use Rattle.grid_graph.specs.GroundErrors.{unreachable_number}
use Rattle.design_tokens.specs.declared.wanted.Wanted.{Wanted}
use Rattle.ispd_reader.specs.Faults.{input_fault_number, fields_of, wanted_of}
use Rattle.ispd_reader.specs.Words.{spelling}
use Rattle.command_runs.specs.declared.refusal.Refusal.{Refusal}
use Rattle.command_runs.specs.declared.refusal.Refusal.TheVariants.{NoCommand, Input, Unreachable, Text, Unread, NoMemory}
use Rattle.command_runs.specs.TextFaults.{text_fault_fields}

-- numbers, each behind a space
abbrev pub fields : List ℕ → List ℕ
fields numbers = flat_map (λ n. codes " " ++ decimal n) numbers

-- a line: a word, and numbers behind it
abbrev pub line : List ℕ → List ℕ → List ℕ
line word numbers = word ++ fields numbers ++ codes "\n"

-- the line of the budget, where there is one
abbrev pub budget_line : Option Budget → List ℕ
budget_line None = []
budget_line (Some budget) = line (codes "budget") (budget.most ∷ [])

-- the word that was wanted, behind a space, where one was
abbrev pub wanted_part : Option Wanted → List ℕ
wanted_part None = []
wanted_part (Some wanted) = codes " " ++ spelling wanted

-- the status of a run whose report was written whole
abbrev pub done_status : ℕ
done_status = 0

-- the status of a run that reported a reason against what it judged
abbrev pub objected_status : ℕ
objected_status = 1

-- the status of a run whose files or whose report could not be written whole
abbrev pub unwritten_status : ℕ
unwritten_status = 7

-- the status of a refusal
abbrev pub status_of : Refusal → ℕ
status_of NoCommand = 2
status_of (Input fault) = 3
status_of (Text fault) = 4
status_of (Unreachable net) = 5
status_of Unread = 6
status_of NoMemory = 8

-- the numbers behind the status: the fault's number, where there is a fault, and what the fault names
abbrev pub numbers_of : Refusal → List ℕ
numbers_of (Input fault) = input_fault_number fault ∷ fields_of fault
numbers_of (Unreachable net) = unreachable_number ∷ net.id ∷ net.terminal ∷ []
numbers_of (Text fault) = text_fault_fields fault
numbers_of _ = []

-- what stands behind the numbers: the word that was wanted, and the line's end; and how the program is called
abbrev pub ending_of : Refusal → List ℕ
ending_of NoCommand = codes "\nusage: grouter route|measure|judge|make|trial|eco|climb|guide\n"
ending_of (Input fault) = wanted_part (wanted_of fault) ++ codes "\n"
ending_of _ = codes "\n"

-- what a refusal says on the report
abbrev pub lines_of : Refusal → List ℕ
lines_of refusal = codes "refused" ++ fields (status_of refusal ∷ numbers_of refusal) ++ ending_of refusal

-- what is said on the report where a file could not be written
abbrev pub unwritten_line : List ℕ
unwritten_line = line (codes "refused") (unwritten_status ∷ [])
