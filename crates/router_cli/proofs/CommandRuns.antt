-- Runs by their words, which are one command at most.
use Rattle.std.proofs.Common.{◌≡◌, ◌∙◌, ◌&&◌, ℕ, List, [], ◌∷◌, Contains, take, true, false, refl, sym, ap, subst, lit<, inl, inr, string_bytes, map}
use Rattle.std.specs.Prelude.{◌⊎◌, Option, Some, slice_index_or, unwrap_or}
use Rattle.std.specs.declared.string.String.{String}
use Rattle.std.specs.Str.{bytes_eq}
use Rattle.std.proofs.lemmas.Bool.{and_parts}
use Rattle.std.proofs.lemmas.List.Folds.{list_any_at}
use Rattle.std.proofs.lemmas.Slice.Eq.{bytes_eq-Decides}
use Rattle.command_words.specs.declared.climb_request.ClimbRequest.{ClimbRequest}
use Rattle.command_words.specs.declared.eco_request.EcoRequest.{EcoRequest}
use Rattle.command_words.specs.declared.guide_request.GuideRequest.{GuideRequest}
use Rattle.command_words.specs.declared.judge_request.JudgeRequest.{JudgeRequest}
use Rattle.command_words.specs.declared.measure_request.MeasureRequest.{MeasureRequest}
use Rattle.command_words.specs.CommandLine.{CommandForm, AsksForClimb, AsksForEco, AsksForGuide, AsksForJudge, AsksForMeasure, are_names, are_options, begins_with, command_forms, has_shape, has_values_in_range, is_command, is_command_of, names_in, option_words}
use Rattle.command_words.specs.CommandLine.{route_form, measure_form, judge_form, make_form, trial_form, eco_form, climb_form, guide_form, turns_option, given_options, value_for}
use Rattle.gr_desk.specs.Told.{Told}
use Rattle.command_runs.specs.declared.refusal.Refusal.{Refusal}
use Rattle.command_runs.specs.declared.refusal.Refusal.TheVariants.{NoCommand, NoMemory}
use Rattle.command_runs.specs.AnsweredRun.{AnswersRightly}
use Rattle.command_runs.specs.CommandRun.{RunOutcome, IsCommandRun}
use Rattle.climb_cli.specs.ClimbLines.{climb_outcome}
use Rattle.climb_cli.specs.ClimbRun.{ClimbTask, IsClimbAnswer, IsClimbRun, climb_files, climb_sources, climb_task_of, climb_task_of_words}
use Rattle.climb_cli.proofs.ClimbRuns.{climb-inputs, climb-outputs}
use Rattle.eco_cli.specs.EcoInputs.{EcoTask, eco_sources}
use Rattle.eco_cli.specs.EcoLines.{eco_outcome}
use Rattle.eco_cli.specs.EcoRun.{IsEcoAnswer, IsEcoRun, eco_files, eco_task_of, eco_task_of_words}
use Rattle.eco_cli.proofs.EcoRuns.{eco-inputs, eco-outputs, unopened-said}
use Rattle.guide_cli.specs.GuideLines.{guide_outcome}
use Rattle.guide_cli.specs.GuideRun.{GuideTask, IsGuideAnswer, IsGuideRun, guide_files, guide_sources, guide_task_of, guide_task_of_words}
use Rattle.guide_cli.proofs.GuidedRuns.{guide-inputs, guide-outputs}
use Rattle.judge_cli.specs.AnswerLines.{answer_outcome}
use Rattle.judge_cli.specs.JudgeRun.{JudgeTask, IsJudgeAnswer, IsJudgeRun, judge_sources, judge_task_of, judge_task_of_words}
use Rattle.command_runs.specs.Lines.{lines_of, status_of}
use Rattle.judge_cli.specs.MeasureRun.{MeasureTask, IsMeasureAnswer, IsMeasureRun, measure_sources, measure_task_of, measure_task_of_words}
use Rattle.command_runs.specs.Saying.{TriesToSay}
use Rattle.command_runs.specs.Sources.{Source, design_source}
use Rattle.command_runs.proofs.EndedRuns.{run-refused}
use Rattle.command_runs.proofs.FilePorts.{AreInputs, AreOutputs}
use Rattle.command_runs.proofs.ReadFiles.{reads-unbegun}
use Rattle.command_runs.proofs.Traces.{touches-none}
use Rattle.router_cli.specs.Headline.{IsRouteOutcome}
use Rattle.router_cli.specs.MakeRun.{IsMakeRun, make_files, make_task_of_words, made_outcome}
use Rattle.router_cli.specs.RouteRun.{IsRouteRun, route_files}
use Rattle.router_cli.specs.Runs.{IsNoCommandRun, IsRun}
use Rattle.router_cli.specs.Tasks.{task_of_words}
use Rattle.router_cli.specs.TrialRun.{IsTrialOutcome, IsTrialRun, trial_task_of_words}
use Rattle.router_cli.proofs.RouteFiles.{make-outputs, route-outputs}

-- ---- which command words are

-- words that are no command are none of the commands
no_command-not : (words : List (List ℕ)) (form : CommandForm) → Contains command_forms form → is_command words ≡ false
    → is_command_of words form ≡ true → ⊥
no_command-not words form at none is =
    let some : is_command words ≡ true =
    list_any_at (is_command_of words) command_forms at.0 form at.1 (ap (is_command_of words) at.2 ∙ is) in
    let both : true ≡ false = sym some ∙ none in
    cc

-- words of a command begin with its word
begins : (form : CommandForm) (words : List (List ℕ)) → is_command_of words form ≡ true → begins_with form.word words ≡ true
begins form words is =
    let shaped = (and_parts (has_shape form words) (has_values_in_range form words) is).0 in
    let behind = are_names form (names_in form words) && are_options form (option_words form words) in
    (and_parts (begins_with form.word words) behind shaped).0

-- so a word is that of one command
one_word : (form other : CommandForm) (words : List (List ℕ)) → is_command_of words form ≡ true
    → is_command_of words other ≡ true → bytes_eq form.word other.word ≡ true
one_word form other [] one both = let some : false ≡ true = begins form [] one in cc
one_word form other (first ∷ rest) one both =
    let same : first ≡ form.word = (bytes_eq-Decides first form.word).0 (begins form (first ∷ rest) one) in
    subst (λ (word : List ℕ). bytes_eq word other.word ≡ true) same (begins other (first ∷ rest) both)

-- ---- what they ask for

abbrev measure_of_names : List (List ℕ) → MeasureTask
measure_of_names names = record { input = slice_index_or names 0 []; routes = slice_index_or names 1 [] }

pub measure_task-asked : (words : List (List ℕ)) (r : MeasureRequest) → AsksForMeasure words r
    → measure_task_of_words words ≡ measure_task_of r
measure_task-asked words r asks = ap measure_of_names asks.names

abbrev judge_of_names : List (List ℕ) → JudgeTask
judge_of_names names =
    record { input = slice_index_or names 0 []; routes = slice_index_or names 1 []; cert = slice_index_or names 2 [] }

pub judge_task-asked : (words : List (List ℕ)) (r : JudgeRequest) → AsksForJudge words r
    → judge_task_of_words words ≡ judge_task_of r
judge_task-asked words r asks = ap judge_of_names asks.names

abbrev eco_of_names : List (List ℕ) → EcoTask
eco_of_names names =
    record { input = slice_index_or names 0 []; routes = slice_index_or names 1 []; edits = slice_index_or names 2 []; edited = slice_index_or names 3 [] }

pub eco_task-asked : (words : List (List ℕ)) (r : EcoRequest) → AsksForEco words r → eco_task_of_words words ≡ eco_task_of r
eco_task-asked words r asks = ap eco_of_names asks.names

abbrev climb_of_values : List (List ℕ) → Option ℕ → ClimbTask
climb_of_values names turns = record {
  input = slice_index_or names 0 [];
  routes = slice_index_or names 1 [];
  cert = slice_index_or names 2 [];
  climbed = slice_index_or names 3 [];
  turns = unwrap_or turns 0;
}

pub climb_task-asked : (words : List (List ℕ)) (r : ClimbRequest) → AsksForClimb words r → climb_task_of_words words ≡ climb_task_of r
climb_task-asked words r asks =
    ap (climb_of_values (names_in climb_form words)) asks.turns ∙ ap (λ (names : List (List ℕ)). climb_of_values names (Some r.turns)) asks.names

abbrev guide_of_names : List (List ℕ) → GuideTask
guide_of_names names =
    record { input = slice_index_or names 0 []; routes = slice_index_or names 1 []; guides = slice_index_or names 2 [] }

pub guide_task-asked : (words : List (List ℕ)) (r : GuideRequest) → AsksForGuide words r
    → guide_task_of_words words ≡ guide_task_of r
guide_task-asked words r asks = ap guide_of_names asks.names

-- ---- runs that are refused before a file is read

-- a run of a command that had no memory to read its words
run-unbegun : (read made : List Source) (IsRight : RunOutcome → Type 0) (a c : Told) (status : ℕ) → AreInputs read
    → AreOutputs made → status ≡ status_of NoMemory → TriesToSay (lines_of NoMemory) a c → IsCommandRun read made IsRight a c status
run-unbegun read made IsRight a c status inputs outputs is tries =
    run-refused read made IsRight a a c status NoMemory inputs outputs (reads-unbegun {T = ℕ} read a NoMemory refl) is tries

-- a run on words that are no command
run-no_command : (a c : Told) (status : ℕ) (r : Refusal) → (r ≡ NoCommand) ⊎ (r ≡ NoMemory)
    → status ≡ status_of r → TriesToSay (lines_of r) a c → IsNoCommandRun a c status
run-no_command a c status r of is tries = record {
  refusal = r;
  is_refusal = of;
  status_is = is;
  says = record { count = tries.count; part = tries.part.added; whole = λ calm. (tries.whole calm).added };
  touches = touches-none a c (take tries.count (lines_of r)) tries.part;
  unread = tries.part.still;
  in_order = tries.part.stray.kept (λ other. absurd (other refl));
}

-- a run that had no memory to read its words, whatever they are
pub run-without_memory : {Z : Type 0} (words : List (String Z)) (a c : Told) (status : ℕ)
    → status ≡ status_of NoMemory → TriesToSay (lines_of NoMemory) a c → IsRun words a c status
run-without_memory words a c status is tries =
    let bytes = map string_bytes words in
    let route = task_of_words bytes in
    let measure = measure_task_of_words bytes in
    let judge = judge_task_of_words bytes in
    let make = make_task_of_words bytes in
    let trial = trial_task_of_words bytes in
    let eco = eco_task_of_words bytes in
    let climb = climb_task_of_words bytes in
    let guide = guide_task_of_words bytes in
    record {
      no_command = λ none. run-no_command a c status NoMemory (inr refl) is tries;
      route = λ _. run-unbegun (design_source route.input) (route_files route) (IsRouteOutcome route.input route.settings a) a
          c status (refl, tt) (route-outputs route) is tries;
      measure = λ _. run-unbegun (measure_sources measure) [] (AnswersRightly answer_outcome (IsMeasureAnswer measure a)) a c status
          (refl, (refl, tt)) tt is tries;
      judge = λ _. run-unbegun (judge_sources judge) [] (AnswersRightly answer_outcome (IsJudgeAnswer judge a)) a c status
          (refl, (refl, (refl, tt))) tt is tries;
      make = λ _. run-unbegun [] (make_files make) (λ outcome. outcome ≡ made_outcome make) a c status tt (make-outputs make)
          is tries;
      trial = λ _. run-unbegun [] [] (IsTrialOutcome trial) a c status tt tt is tries;
      eco = λ _. inl (record {
        run = run-unbegun (eco_sources eco) (eco_files eco) (AnswersRightly eco_outcome (IsEcoAnswer eco a)) a c status
            (eco-inputs eco) (eco-outputs eco) is tries;
        unobjected = λ _. (inr is, unopened-said eco a c (lines_of NoMemory) tries);
        unrefused = λ _. inr is;
      });
      climb = λ _. run-unbegun (climb_sources climb) (climb_files climb) (AnswersRightly climb_outcome (IsClimbAnswer climb a)) a c status
          (climb-inputs climb) (climb-outputs climb) is tries;
      guide = λ _. inl (record {
        run = run-unbegun (guide_sources guide) (guide_files guide) (AnswersRightly guide_outcome (IsGuideAnswer guide a)) a c status
            (guide-inputs guide) (guide-outputs guide) is tries;
        near = λ _ _ _. inr is;
      });
    }

-- a run whose words are no command
pub run-without_command : {Z : Type 0} (words : List (String Z)) (a c : Told) (status : ℕ)
    → is_command (map string_bytes words) ≡ false
    → status ≡ status_of NoCommand → TriesToSay (lines_of NoCommand) a c → IsRun words a c status
run-without_command words a c status none is tries =
    let bytes = map string_bytes words in
    record {
      no_command = λ _. run-no_command a c status NoCommand (inl refl) is tries;
      route = λ of. absurd (no_command-not bytes route_form (0, lit< tt, refl) none of);
      measure = λ of. absurd (no_command-not bytes measure_form (1, lit< tt, refl) none of);
      judge = λ of. absurd (no_command-not bytes judge_form (2, lit< tt, refl) none of);
      make = λ of. absurd (no_command-not bytes make_form (3, lit< tt, refl) none of);
      trial = λ of. absurd (no_command-not bytes trial_form (4, lit< tt, refl) none of);
      eco = λ of. absurd (no_command-not bytes eco_form (5, lit< tt, refl) none of);
      climb = λ of. absurd (no_command-not bytes climb_form (6, lit< tt, refl) none of);
      guide = λ of. absurd (no_command-not bytes guide_form (7, lit< tt, refl) none of);
    }

-- a run whose words are this command owes what it promises, and nothing for the other commands
pub run-of_command : {Z : Type 0} (words : List (String Z)) (a c : Told) (status : ℕ) (form : CommandForm)
    → Contains command_forms form → is_command_of (map string_bytes words) form ≡ true
    → (bytes_eq form.word route_form.word ≡ true → IsRouteRun (task_of_words (map string_bytes words)) a c status)
    → (bytes_eq form.word measure_form.word ≡ true → IsMeasureRun (measure_task_of_words (map string_bytes words)) a c status)
    → (bytes_eq form.word judge_form.word ≡ true → IsJudgeRun (judge_task_of_words (map string_bytes words)) a c status)
    → (bytes_eq form.word make_form.word ≡ true → IsMakeRun (make_task_of_words (map string_bytes words)) a c status)
    → (bytes_eq form.word trial_form.word ≡ true → IsTrialRun (trial_task_of_words (map string_bytes words)) a c status)
    → (bytes_eq form.word eco_form.word ≡ true → IsEcoRun (eco_task_of_words (map string_bytes words)) a c status)
    → (bytes_eq form.word climb_form.word ≡ true → IsClimbRun (climb_task_of_words (map string_bytes words)) a c status)
    → (bytes_eq form.word guide_form.word ≡ true → IsGuideRun (guide_task_of_words (map string_bytes words)) a c status)
    → IsRun words a c status
run-of_command words a c status form at is route measure judge make trial eco climb guide =
    let bytes = map string_bytes words in
    record {
      no_command = λ none. absurd (no_command-not bytes form at none is);
      route = λ other. route (one_word form route_form bytes is other);
      measure = λ other. measure (one_word form measure_form bytes is other);
      judge = λ other. judge (one_word form judge_form bytes is other);
      make = λ other. make (one_word form make_form bytes is other);
      trial = λ other. trial (one_word form trial_form bytes is other);
      eco = λ other. eco (one_word form eco_form bytes is other);
      climb = λ other. climb (one_word form climb_form bytes is other);
      guide = λ other. guide (one_word form guide_form bytes is other);
    }
