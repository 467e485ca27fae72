-- What each command is asked for, by what clap found for its arguments.
use Rattle.std.specs.Prelude.{ℕ, ◌^◌, ◌-◌, Bool, true, ◌&&◌, List, [], Option, Some, Result, Ok, Err, unwrap_or, codes, nat_le, if◌then◌else◌}
use Rattle.std.specs.Str.{bytes_eq}
use Rattle.clap.specs.Walk.{Row, Text, first_of, all_of}
use Rattle.sa_base.specs.declared.package.PackageName.{PackageName}
use Rattle.sa_base.specs.declared.limits.TheConstants.{DEFAULT_BUDGET, MAX_EVENTS}
use Rattle.sa_command.specs.declared.explore.TheConstants.{DEFAULT_STATES}
use Rattle.sa_command.specs.declared.command.ScheduleWord.{ScheduleWord}
use Rattle.sa_states.specs.declared.TheConstants.{MAX_STATES}
use Rattle.sa_svg.specs.declared.layout.TheConstants.{DEFAULT_WIDTH, MAX_WIDTH, MIN_WIDTH}
use Rattle.toga_words.specs.declared.refusal.Setting.TheVariants as setting
use Rattle.toga_words.specs.Asked.{Asked, Bytes, Objection, same_input, backward}
use Rattle.toga_words.specs.Asked as a
use Rattle.toga_words.specs.Values.{number_of, number_if, package_by, schedule_by, give_by}

-- what comes of a value, where it is one
abbrev pub next : {X Y : Type 0} → Result X Objection → (X → Result Y Objection) → Result Y Objection
next (Ok x) f = f x
next (Err e) f = Err e

-- an input that has to be named
abbrev pub input_of : List Row → Text → Bytes
input_of rows id = unwrap_or (first_of id rows) []

abbrev pub source_of : List Row → Bytes
source_of rows = input_of rows (codes "SOURCE")

abbrev pub trace_of : List Row → Bytes
trace_of rows = input_of rows (codes "TRACE")

abbrev pub budget_of : List Row → Result ℕ Objection
budget_of rows = number_of setting.Budget 1 MAX_EVENTS DEFAULT_BUDGET (first_of (codes "budget") rows)

-- `run`
abbrev pub run_by : List Row → ScheduleWord → PackageName → ℕ → Asked
run_by rows schedule level budget = a.run (source_of rows) schedule level budget (first_of (codes "trace") rows)
    (first_of (codes "page") rows) (first_of (codes "picture") rows)

abbrev pub run_of : List Row → Result Asked Objection
run_of rows = next (schedule_by (first_of (codes "schedule") rows)) (λ schedule.
    next (package_by (first_of (codes "package") rows)) (λ level.
    next (budget_of rows) (λ budget. Ok (run_by rows schedule level budget))))

-- `explore`
abbrev pub states_of : List Row → Result ℕ Objection
states_of rows = number_of setting.States 1 MAX_STATES DEFAULT_STATES (first_of (codes "states") rows)

abbrev pub explore_of : List Row → Result Asked Objection
explore_of rows = next (package_by (first_of (codes "package") rows)) (λ level.
    next (states_of rows) (λ states.
    next (give_by (first_of (codes "give") rows)) (λ end.
    Ok (a.explore (source_of rows) level states end (first_of (codes "output") rows)))))

-- `vp`
abbrev pub vp_of : List Row → Result Asked Objection
vp_of rows = next (schedule_by (first_of (codes "schedule") rows)) (λ schedule.
    next (budget_of rows) (λ budget.
    Ok (a.vp (source_of rows) schedule budget (first_of (codes "trace") rows))))

-- standard input is named once at most
abbrev pub is_stdin : Bytes → Bool
is_stdin name = bytes_eq name (codes "-")

-- `check` and `page`: a source, its trace and a level
pub record Judged : Type 0 where
  pub source : Bytes
  pub trace : Bytes
  pub level : PackageName

abbrev pub judged_by : List Row → PackageName → Result Judged Objection
judged_by rows level =
    if is_stdin (source_of rows) && is_stdin (trace_of rows) then Err same_input
    else Ok (record { source = source_of rows; trace = trace_of rows; level = level })

abbrev pub judged_of : List Row → Result Judged Objection
judged_of rows = next (package_by (first_of (codes "package") rows)) (judged_by rows)

abbrev pub check_of : List Row → Result Asked Objection
check_of rows = next (judged_of rows) (λ j. Ok (a.check j.source j.trace j.level))

abbrev pub page_of : List Row → Result Asked Objection
page_of rows = next (judged_of rows) (λ j. Ok (a.page j.source j.trace j.level (first_of (codes "output") rows)))

-- `picture`: the last event is not before the first, where both are named
abbrev pub in_order : Option ℕ → Option ℕ → Bool
in_order (Some from) (Some to) = nat_le from to
in_order from to = true

abbrev pub width_of : List Row → Result ℕ Objection
width_of rows = number_of setting.Width MIN_WIDTH MAX_WIDTH DEFAULT_WIDTH (first_of (codes "width") rows)

abbrev pub picture_by : List Row → Option ℕ → Option ℕ → ℕ → Result Asked Objection
picture_by rows from to width =
    if in_order from to then Ok (a.picture (trace_of rows) from to width (first_of (codes "output") rows)) else Err backward

abbrev pub picture_of : List Row → Result Asked Objection
picture_of rows = next (number_if setting.From 0 (2 ^ 64 - 1) (first_of (codes "from") rows)) (λ from.
    next (number_if setting.To 0 (2 ^ 64 - 1) (first_of (codes "to") rows)) (λ to.
    next (width_of rows) (picture_by rows from to)))

-- the others, which nothing is wrong with
abbrev pub compile_of : List Row → Asked
compile_of rows = a.compile (source_of rows) (first_of (codes "output") rows)

abbrev pub show_of : List Row → Asked
show_of rows = a.show (source_of rows) (first_of (codes "output") rows)

abbrev pub events_of : List Row → Asked
events_of rows = a.events (trace_of rows) (first_of (codes "output") rows)

abbrev pub explain_of : List Row → Asked
explain_of rows = a.explain (unwrap_or (all_of (codes "WORD") rows) [])

-- what the command of this name is asked for, of those that refuse nothing
abbrev pub plain_of : Text → List Row → Result Asked Objection
plain_of name rows =
    if bytes_eq name (codes "compile") then Ok (compile_of rows)
    else (if bytes_eq name (codes "show") then Ok (show_of rows)
    else (if bytes_eq name (codes "events") then Ok (events_of rows)
    else Ok (explain_of rows)))

-- what the command of this name is asked for
abbrev pub request_of : Text → List Row → Result Asked Objection
request_of name rows =
    if bytes_eq name (codes "run") then run_of rows
    else (if bytes_eq name (codes "explore") then explore_of rows
    else (if bytes_eq name (codes "check") then check_of rows
    else (if bytes_eq name (codes "vp") then vp_of rows
    else (if bytes_eq name (codes "picture") then picture_of rows
    else (if bytes_eq name (codes "page") then page_of rows
    else plain_of name rows)))))
