-- The promise of the command `make`.
use Rattle.std.specs.Prelude.{◌≡◌, ◌++◌, ℕ, false, List, [], ◌∷◌, codes, slice_index_or, unwrap_or}
use Rattle.command_words.specs.CommandLine.{names_in, make_form, seed_option}
use Rattle.command_words.specs.declared.make_request.MakeRequest.{MakeRequest}
use Rattle.gr_desk.specs.declared.port.Port.TheVariants.{DesignOut}
use Rattle.gr_desk.specs.Told.{Told}
use Rattle.gr_make.specs.declared.shape.Shape.{Shape}
use Rattle.gr_make.specs.MadeText.{made_text}
use Rattle.command_runs.specs.CommandRun.{RunOutcome, IsCommandRun}
use Rattle.command_runs.specs.Lines.{fields}
use Rattle.command_runs.specs.Sources.{Source}
use Rattle.router_cli.specs.OptionValues.{shape_in, value_in}

-- ---- what its words ask for

-- the name of the file, the seed of the design, and how large it is
pub record MakeTask : Type 0 where
  pub output : List ℕ
  pub seed : ℕ
  pub shape : Shape

-- what a command asks for
abbrev pub make_task_of : MakeRequest → MakeTask
make_task_of r =
    record { output = r.output.now; seed = r.seed; shape = record { cols = r.cols; rows = r.rows; layers = r.layers; nets = r.nets } }

-- what the words of `make` ask for
abbrev pub make_task_of_words : List (List ℕ) → MakeTask
make_task_of_words words = record {
  output = slice_index_or (names_in make_form words) 0 [];
  seed = unwrap_or (value_in make_form words seed_option) 0;
  shape = shape_in make_form words;
}

-- ---- what it leaves

-- the line on a design that was made with so many nets
abbrev pub made_line : ℕ → List ℕ
made_line nets = codes "made" ++ fields (nets ∷ []) ++ codes " nets\n"

-- the file that it makes
abbrev pub make_files : MakeTask → List Source
make_files q = record { port = DesignOut; name = q.output } ∷ []

-- the text of the design that is made from the seed, and how many nets it has
abbrev pub made_outcome : MakeTask → RunOutcome
made_outcome q = record { texts = made_text q.seed q.shape ∷ []; report = made_line q.shape.nets; objects = false }

-- ---- the promise

-- a run of `make` with this task
abbrev pub IsMakeRun : MakeTask → Told → Told → ℕ → Type 0
IsMakeRun q before after status = IsCommandRun [] (make_files q) (λ outcome. outcome ≡ made_outcome q) before after status
