-- The words of sentences.
use Rattle.std.specs.Prelude.{ℕ, List, codes}
use Rattle.toga_diagnostic.specs.declared.cause.About.{About}
use Rattle.toga_diagnostic.specs.declared.cause.About.TheVariants as about
use Rattle.toga_diagnostic.specs.declared.cause.Kind.{Kind}
use Rattle.toga_diagnostic.specs.declared.cause.Kind.TheVariants as kind
use Rattle.toga_diagnostic.specs.declared.cause.Stage.{Stage}
use Rattle.toga_diagnostic.specs.declared.cause.Stage.TheVariants as stage
use Rattle.toga_diagnostic.specs.declared.cause.What.{What}
use Rattle.toga_diagnostic.specs.declared.cause.What.TheVariants as what

-- what comes before the word of an error that its word tells alone
unfoldable pub about_before : About → List ℕ
about_before about.Plain = codes ""
about_before about.AfterLabel = codes ""
about_before about.LabelOutside = codes ""
about_before about.BadLabel = codes ""
about_before about.LabelAlone = codes "label "
about_before about.Outside = codes ""
about_before about.SettingLate = codes ""
about_before about.DeclarationLate = codes ""
about_before about.AfterTurns = codes ""
about_before about.TurnsEarly = codes ""
about_before about.NoRegister = codes ""
about_before about.NoName = codes ""
about_before about.NoAt = codes ""
about_before about.NoInstruction = codes "program "

-- what comes after that word
unfoldable pub about_after : About → List ℕ
about_after about.Plain = codes " begins a plain workload text: expected it as the first word of the first line"
about_after about.AfterLabel = codes " after a label: expected an instruction"
about_after about.LabelOutside = codes " is a label outside of a program: expected `program` before it"
about_after about.BadLabel = codes " is no label: a name is a letter or _, then up to 31 letters, digits or _, and no register"
about_after about.LabelAlone = codes " has no instruction: expected one after it"
about_after about.Outside = codes " stands outside of a program: expected `program` before it"
about_after about.SettingLate = codes " comes too late: expected it before the first space and program"
about_after about.DeclarationLate = codes " comes too late: expected it before the first program of its space"
about_after about.AfterTurns = codes " comes too late: expected `turns` alone after `turns`"
about_after about.TurnsEarly = codes " comes too early: expected a program before it"
about_after about.NoRegister = codes " is no register: expected r0 to r7"
about_after about.NoName = codes " is no name: a name is a letter or _, then up to 31 letters, digits or _, and no register"
about_after about.NoAt = codes " is not the word that belongs here: expected `at`"
about_after about.NoInstruction = codes " has no instruction: expected at least `end`"

-- the word of a kind
unfoldable pub kind_word : Kind → List ℕ
kind_word kind.Space = codes "space"
kind_word kind.Mutex = codes "mutex"
kind_word kind.Semaphore = codes "semaphore"
kind_word kind.Cell = codes "cell"
kind_word kind.Program = codes "program"
kind_word kind.Label = codes "label"
kind_word kind.Instruction = codes "instruction"
kind_word kind.Eviction = codes "eviction"

-- where there may be so many of the kind
unfoldable pub where_words : Kind → List ℕ
where_words kind.Space = codes ""
where_words kind.Mutex = codes " in a space"
where_words kind.Semaphore = codes " in a space"
where_words kind.Cell = codes " in a space"
where_words kind.Program = codes " in a space"
where_words kind.Label = codes " in a program"
where_words kind.Instruction = codes " in a program"
where_words kind.Eviction = codes ""

-- which words may begin the next line
unfoldable pub stage_words : Stage → List ℕ
stage_words stage.Top = codes "`processors`, `fetch`, `slice`, `space`, a declaration or `program`"
stage_words stage.Declaring = codes "a declaration or `program`"
stage_words stage.InProgram = codes "an instruction, a label, `program`, `space` or `turns`"
stage_words stage.AfterTurns = codes "`turns`"

-- what a number is
unfoldable pub what_words : What → List ℕ
what_words what.Processors = codes "a number of processors"
what_words what.Events = codes "a number of events"
what_words what.Priority = codes "a priority"
what_words what.Patience = codes "a patience"
what_words what.Count = codes "a count"
what_words what.Page = codes "a page"
what_words what.Event = codes "an event"
what_words what.Processor = codes "a processor"
what_words what.Number = codes "a number"
