-- The command language: a command's name, its argument, and options of two words each, in any order and each at
-- most once.
use Rattle.std.specs.Prelude.{ℕ, ◌&&◌, true, List, [], ◌∷◌, codes, Option, Some, None, option_and_then, unwrap_or, is_none, if◌then◌else◌}
use Rattle.std.specs.Option.{option_map}
use Rattle.std.specs.Str.{bytes_eq}
use Rattle.sa_base.specs.declared.limits.TheConstants.{MAX_BURST, MAX_EVENTS, DEFAULT_BUDGET, DEFAULT_BURST}
use Rattle.sa_command.specs.declared.command.ScheduleWord.TheVariants.{RoundRobin}
use Rattle.sa_base.specs.declared.package.PackageName.TheVariants.{FastThreads}
use Rattle.sa_command.specs.declared.command.Command.{Command}
use Rattle.sa_command.specs.declared.command.Command.TheVariants.{Run, Threads, Load, Migrate, Check, Vp, Debug, Explore, Kernel}
use Rattle.sa_command.specs.declared.options.Options.{Options}
use Rattle.sa_command.specs.declared.options.Settings.{Settings}
use Rattle.sa_command.specs.declared.options.TheConstants.{NO_OPTIONS}
use Rattle.sa_command.specs.declared.explore.TheConstants.{DEFAULT_STATES}
use Rattle.sa_states.specs.declared.TheConstants.{MAX_STATES}
use Rattle.sa_text.specs.Number.{number_of}
use Rattle.sa_base.specs.declared.package.RulesName.TheVariants as rules
use Rattle.sa_base.specs.Package.{package_of, rules_word}
use Rattle.sa_command.specs.Values.{number_within, schedule_of, give_of}

-- the options: a name, and what its value may be
--   --schedule   an order of turns; `rr` where it is left out
--   --budget     1 to the greatest number of events; the default budget where it is left out
--   --burst      1 to the greatest number of instructions of a burst; the default burst where it is left out
--   --package    a user level, and for `check` rules; `fast` if it is left out
--   --states     1 to the greatest number of states; the default number where it is left out
--   --give       a schedule that is asked for; none where it is left out
abbrev pub with_schedule : Options → Settings → List ℕ → Option Settings
with_schedule taken s value =
    if taken.schedule && is_none s.schedule then option_map (λ x. record s { schedule = Some x }) (schedule_of value) else None

abbrev pub with_budget : Options → Settings → List ℕ → Option Settings
with_budget taken s value =
    if taken.budget && is_none s.budget then option_map (λ n. record s { budget = Some n }) (number_within 1 MAX_EVENTS value) else None

abbrev pub with_burst : Options → Settings → List ℕ → Option Settings
with_burst taken s value =
    if taken.burst && is_none s.burst then option_map (λ n. record s { burst = Some n }) (number_within 1 MAX_BURST value) else None

abbrev pub with_package : Options → Settings → List ℕ → Option Settings
with_package taken s value =
    if taken.user_level && is_none s.user_level then option_map (λ x. record s { user_level = Some x }) (package_of value) else None

abbrev pub with_states : Options → Settings → List ℕ → Option Settings
with_states taken s value =
    if taken.states && is_none s.states then option_map (λ n. record s { states = Some n }) (number_within 1 MAX_STATES value) else None

abbrev pub with_give : Options → Settings → List ℕ → Option Settings
with_give taken s value =
    if taken.give && is_none s.give then option_map (λ x. record s { give = Some x }) (give_of value) else None

abbrev pub with_option : Options → Settings → List ℕ → List ℕ → Option Settings
with_option taken s name value =
    if bytes_eq name (codes "--schedule") then with_schedule taken s value
    else (if bytes_eq name (codes "--budget") then with_budget taken s value
    else (if bytes_eq name (codes "--burst") then with_burst taken s value
    else (if bytes_eq name (codes "--package") then with_package taken s value
    else (if bytes_eq name (codes "--states") then with_states taken s value
    else (if bytes_eq name (codes "--give") then with_give taken s value else None)))))

-- the settings after these words, which come in pairs
abbrev pub settings_of : Options → Settings → List (List ℕ) → Option Settings
settings_of taken s [] = Some s
settings_of taken s (word ∷ []) = None
settings_of taken s (name ∷ value ∷ words) = option_and_then (λ t. settings_of taken t words) (with_option taken s name value)

abbrev pub nothing_set : Settings
nothing_set = record { schedule = None; budget = None; burst = None; user_level = None; states = None; give = None }

abbrev pub set_by : Options → List (List ℕ) → Option Settings
set_by taken words = settings_of taken nothing_set words

-- the commands: a name, an argument, and the options that it takes
--   run                       --schedule, --budget, --package
--   threads                   --budget, --burst
--   load N      N any         --budget
--   migrate N   1 to the greatest number of events
--   check                     --package
--   vp                        --schedule, --budget
--   debug                     --budget
--   explore                   --states, --package, --give
--   kernel                    --schedule, --budget
abbrev pub run_options : Options
run_options = record NO_OPTIONS { schedule = true; budget = true; user_level = true }

abbrev pub threads_options : Options
threads_options = record NO_OPTIONS { budget = true; burst = true }

abbrev pub turn_options : Options
turn_options = record NO_OPTIONS { schedule = true; budget = true }

abbrev pub budget_option : Options
budget_option = record NO_OPTIONS { budget = true }

abbrev pub explore_options : Options
explore_options = record NO_OPTIONS { states = true; user_level = true; give = true }

abbrev pub run_of : List (List ℕ) → Option Command
run_of words =
    option_map (λ s. Run (unwrap_or s.schedule RoundRobin) (unwrap_or s.budget DEFAULT_BUDGET) (unwrap_or s.user_level FastThreads)) (set_by run_options words)

abbrev pub threads_of : List (List ℕ) → Option Command
threads_of words =
    option_map (λ s. Threads (unwrap_or s.budget DEFAULT_BUDGET) (unwrap_or s.burst DEFAULT_BURST)) (set_by threads_options words)

abbrev pub load_of : List (List ℕ) → Option Command
load_of [] = None
load_of (number ∷ words) =
    option_and_then (λ n. option_map (λ s. Load n (unwrap_or s.budget DEFAULT_BUDGET)) (set_by budget_option words)) (number_of number)

abbrev pub migrate_of : List (List ℕ) → Option Command
migrate_of [] = None
migrate_of (number ∷ []) = option_map (λ n. Migrate n) (number_within 1 MAX_EVENTS number)
migrate_of (number ∷ word ∷ words) = None

abbrev pub check_of : List (List ℕ) → Option Command
check_of [] = Some (Check rules.FastThreads)
check_of (name ∷ []) = None
check_of (name ∷ word ∷ []) =
    if bytes_eq name (codes "--package") then option_map (λ named. Check named) (rules_word word) else None
check_of (name ∷ word ∷ more ∷ words) = None

abbrev pub vp_of : List (List ℕ) → Option Command
vp_of words =
    option_map (λ s. Vp (unwrap_or s.schedule RoundRobin) (unwrap_or s.budget DEFAULT_BUDGET)) (set_by turn_options words)

abbrev pub debug_of : List (List ℕ) → Option Command
debug_of words =
    option_map (λ s. Debug (unwrap_or s.budget DEFAULT_BUDGET)) (set_by budget_option words)

abbrev pub explore_of : List (List ℕ) → Option Command
explore_of words =
    option_map (λ s. Explore (unwrap_or s.states DEFAULT_STATES) (unwrap_or s.user_level FastThreads) s.give) (set_by explore_options words)

abbrev pub kernel_of : List (List ℕ) → Option Command
kernel_of words =
    option_map (λ s. Kernel (unwrap_or s.schedule RoundRobin) (unwrap_or s.budget DEFAULT_BUDGET)) (set_by turn_options words)

abbrev pub named : List ℕ → List (List ℕ) → Option Command
named name words =
    if bytes_eq name (codes "run") then run_of words
    else (if bytes_eq name (codes "threads") then threads_of words
    else (if bytes_eq name (codes "load") then load_of words
    else (if bytes_eq name (codes "migrate") then migrate_of words
    else (if bytes_eq name (codes "check") then check_of words
    else (if bytes_eq name (codes "vp") then vp_of words
    else (if bytes_eq name (codes "debug") then debug_of words
    else (if bytes_eq name (codes "explore") then explore_of words
    else (if bytes_eq name (codes "kernel") then kernel_of words else None))))))))

-- the command of the words after the program's name
abbrev pub command_of : List (List ℕ) → Option Command
command_of [] = None
command_of (name ∷ words) = named name words
