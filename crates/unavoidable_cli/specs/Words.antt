-- Which words are a command of the program, and what they ask for. Words are its arguments without its own name, each a list of
-- bytes.
use Rattle.std.specs.Prelude.{◌==◌, ◌&&◌, ◌||◌, ◌-◌, ℕ, Bool, List, [], length, codes, slice_index_or, cond, Option, Some, None}
use Rattle.std.specs.Option.{option_map}
use Rattle.std.specs.List.{list_all}
use Rattle.command_words.specs.CommandLine.{all_differ, is_file_name}
use Rattle.unavoidable_cli.specs.declared.names.Names.{Names}

-- three or four names of files, no two of them equal
abbrev pub are_names : List (List ℕ) → Bool
are_names words = (length words == 3 || length words == 4) && (list_all is_file_name words && all_differ words)

-- the names of the design, of the routes, of the certificate to begin with, where there is one, and of the new certificate
pub record UnavoidableTask : Type 0 where
  pub input : List ℕ
  pub routes : List ℕ
  pub cert : Option (List ℕ)
  pub new : List ℕ

-- what names ask for
abbrev pub unavoidable_task_of : Names → UnavoidableTask
unavoidable_task_of n = record { input = n.input.now; routes = n.routes.now; cert = option_map (λ name. name.now) n.certificate; new = n.new_certificate.now }

-- what words ask for: of four names the third is that of a certificate
abbrev pub unavoidable_task_of_words : List (List ℕ) → UnavoidableTask
unavoidable_task_of_words words = record {
  input = slice_index_or words 0 [];
  routes = slice_index_or words 1 [];
  cert = cond (length words == 4) (Some (slice_index_or words 2 [])) None;
  new = slice_index_or words (length words - 1) [];
}

-- what is said where the words are no command
abbrev pub usage_text : List ℕ
usage_text = codes "refused 2\nusage: unavoidable IN ROUTES [CERT] NEW\n"
