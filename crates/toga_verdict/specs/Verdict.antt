-- The text of a verdict.
use Rattle.std.specs.Prelude.{ℕ, ◌-◌, ◌==◌, nat_le, Bool, ◌&&◌, if◌then◌else◌, List, [], ◌∷◌, ◌++◌, length, take, max, codes, decimal}
use Rattle.std.specs.List.{list_any}
use Rattle.sa_base.specs.declared.package.RulesName.{RulesName}
use Rattle.sa_base.specs.declared.record.Item.{Item}
use Rattle.sa_base.specs.declared.record.End.{End}
use Rattle.sa_trace.specs.TraceText.{item_text, end_word}
use Rattle.sa_laws.specs.declared.rule.Rule.{Rule}
use Rattle.sa_check.specs.declared.verdict.Verdict.{Verdict}
use Rattle.sa_check.specs.declared.verdict.Verdict.TheVariants.{Legal, Broken}
use Rattle.sa_check.specs.Line.{word_of}
use Rattle.sa_programs.specs.Programs.{first_programs, programs_after}
use Rattle.toga_explain.specs.Tables.{rule_text}
use Rattle.toga_verdict.specs.declared.lines.TheConstants.{BLANKS}
use Rattle.toga_verdict.specs.Source.{SourceView}
use Rattle.toga_verdict.specs.Words.{heard, words_of}

-- the line of an item as the trace has it, marked if it is of the event, and its words: from column 33 on, or two columns after a longer line
abbrev pub mark : ℕ → ℕ → List ℕ
mark event number = if number == event then codes "> " else codes "  "

abbrev pub gap : ℕ → List ℕ
gap len = take (max (30 - len) 2) BLANKS.now

unfoldable pub marked : ℕ → Item → List ℕ
marked event i = mark event i.event ++ item_text i ++ gap (length (item_text i))

unfoldable pub item_line : SourceView → List (List ℕ) → ℕ → Item → List ℕ
item_line x programs event i = marked event i ++ words_of x programs i.what ++ codes "\n"

-- the number is that of the event, or of one of the two before it
abbrev pub is_near : ℕ → ℕ → Bool
is_near event number = nat_le number event && nat_le (event - number) 2

abbrev pub near_line : SourceView → List (List ℕ) → ℕ → Item → List ℕ
near_line x programs event i = if is_near event i.event then item_line x programs event i else []

-- the lines of the event and of the two before it, of items after which the threads of these programs are made
abbrev pub near_lines : SourceView → List (List ℕ) → ℕ → List Item → List ℕ
near_lines x programs event [] = []
near_lines x programs event (i ∷ is) = near_line x programs event i ++ near_lines x (programs_after x.workload programs i.what) event is

abbrev pub lines_near : SourceView → ℕ → List Item → List ℕ
lines_near x event items = near_lines x (first_programs (length x.workload.spaces)) event items

-- if no item is of the event, the first three words of the last line
unfoldable pub end_line : End → ℕ → List ℕ
end_line end events = codes "> end " ++ end_word end ++ codes " " ++ decimal events ++ codes "\n"

abbrev pub last_line : ℕ → List Item → End → ℕ → List ℕ
last_line event items end events = if list_any (λ (i : Item). i.event == event) items then [] else end_line end events

-- the verdict: that every rule is kept, or which is broken at which event, and what it asks
abbrev pub legal_text : ℕ → List ℕ
legal_text events = heard (codes "Legal: a run of the source that keeps every rule, ") events (codes " events.\n")

unfoldable pub break_line : RulesName → ℕ → Rule → List ℕ
break_line rules event rule = codes "Not legal: event " ++ decimal event ++ codes " breaks rule " ++ word_of rules rule ++ codes ".\n"

unfoldable pub broken_words : RulesName → ℕ → Rule → List ℕ
broken_words rules event rule = break_line rules event rule ++ rule_text rules rule ++ codes "\n\n"

unfoldable pub broken_text : RulesName → SourceView → List Item → End → ℕ → ℕ → Rule → List ℕ
broken_text rules x items end events event rule =
    broken_words rules event rule ++ lines_near x event items ++ last_line event items end events

abbrev pub verdict_text : RulesName → SourceView → List Item → End → ℕ → Verdict → List ℕ
verdict_text rules x items end events Legal = legal_text events
verdict_text rules x items end events (Broken event rule) = broken_text rules x items end events event rule
