-- The program's commands, as clap's contracts see them.
use Rattle.std.specs.Prelude.{ℕ, true, List, [], ◌∷◌, Some, codes}
use Rattle.clap.specs.Lexer.{usize_max}
use Rattle.clap.specs.Walk.{Rule, Text}
use Rattle.clap.specs.Simple.{App, new_app, new_rule, with_rule, with_subcommand, on_top}
use Rattle.clap.specs.declared.builder.action.ArgAction.TheVariants.{Set}

-- an input that has to be named
abbrev pub input : Text → Rule
input id = record (new_rule id) { required = true; value_names = 1 }

-- an option of this name, with one value
abbrev pub option : Text → Rule
option id = record (new_rule id) { long = Some id; action = Some Set; value_names = 1 }

-- the same, with a letter of its own
abbrev pub lettered : ℕ → Rule → Rule
lettered letter r = record r { short = Some letter }

abbrev pub source : Rule
source = input (codes "SOURCE")

abbrev pub trace : Rule
trace = input (codes "TRACE")

abbrev pub schedule : Rule
schedule = lettered 115 (option (codes "schedule"))

abbrev pub which : Rule
which = lettered 112 (option (codes "package"))

abbrev pub budget : Rule
budget = lettered 98 (option (codes "budget"))

abbrev pub output : Rule
output = lettered 111 (option (codes "output"))

abbrev pub give : Rule
give = lettered 103 (option (codes "give"))

-- words to be explained, one at least where any is named
abbrev pub words : Rule
words = record (new_rule (codes "WORD")) { value_names = 1; range = Some (record { start_inclusive = 1; end_inclusive = usize_max }) }

-- a command of this name, with these arguments
abbrev pub with_rules : App → List Rule → App
with_rules a [] = a
with_rules a (r ∷ rest) = with_rules (with_rule a r) rest

abbrev pub command : Text → List Rule → App
command name rules = with_rules (new_app name) rules

abbrev pub run : App
run = command (codes "run") (source ∷ schedule ∷ which ∷ budget ∷ option (codes "trace") ∷ option (codes "page") ∷ option (codes "picture") ∷ [])

abbrev pub explore : App
explore = command (codes "explore") (source ∷ which ∷ option (codes "states") ∷ give ∷ output ∷ [])

abbrev pub check : App
check = command (codes "check") (source ∷ trace ∷ which ∷ [])

abbrev pub vp : App
vp = command (codes "vp") (source ∷ schedule ∷ budget ∷ option (codes "trace") ∷ [])

abbrev pub compile : App
compile = command (codes "compile") (source ∷ output ∷ [])

abbrev pub show : App
show = command (codes "show") (source ∷ output ∷ [])

abbrev pub picture : App
picture = command (codes "picture") (trace ∷ option (codes "from") ∷ option (codes "to") ∷ option (codes "width") ∷ output ∷ [])

abbrev pub page : App
page = command (codes "page") (source ∷ trace ∷ which ∷ output ∷ [])

abbrev pub events : App
events = command (codes "events") (trace ∷ output ∷ [])

abbrev pub explain : App
explain = command (codes "explain") (words ∷ [])

-- the program itself: it takes no name before its words, has a version, and wants a command
abbrev pub bare : App
bare = on_top (λ s. record s { has_version = true; no_binary_name = true; subcommand_required = true; arg_required_else_help = true })
    (new_app (codes "togaslate"))

abbrev pub with_commands : App → List App → App
with_commands a [] = a
with_commands a (c ∷ rest) = with_commands (with_subcommand a c.top) rest

-- the program with its commands
unfoldable pub program : App
program = with_commands bare (run ∷ explore ∷ check ∷ vp ∷ compile ∷ show ∷ picture ∷ page ∷ events ∷ explain ∷ [])
