-- What can be asked for: the word of each topic, and what is said of it.
use Rattle.std.specs.Prelude.{ℕ, List, codes}
use Rattle.sa_instr.specs.Operation.{form_of as operation_form}
use Rattle.sa_trace.specs.Kind.{form_of as kind_form}
use Rattle.sa_trace.specs.TraceText.{end_word}
use Rattle.sa_check.specs.Line.{word_of as rule_word}
use Rattle.toga_explain.specs.declared.topic.Topic.{Topic}
use Rattle.toga_explain.specs.declared.topic.Topic.TheVariants.{Source, Instruction, Record, Told, Rule, Cause, End, Endless, Lost, Status}
use Rattle.toga_explain.specs.Tables.{source_word, source_text, operation_text, record_text, rule_text, cause_word, cause_said, end_text, status_word, status_text}

abbrev pub word_of : Topic → List ℕ
word_of (Source word) = source_word word
word_of (Instruction operation) = (operation_form operation).word
word_of (Record kind) = (kind_form kind).word
word_of Told = codes "told"
word_of (Rule rules rule) = rule_word rules rule
word_of (Cause cause) = cause_word cause
word_of (End end) = end_word end
word_of Endless = codes "endless"
word_of Lost = codes "lost"
word_of (Status status) = status_word status

abbrev pub text_of : Topic → List ℕ
text_of (Source word) = source_text word
text_of (Instruction operation) = operation_text operation
text_of (Record kind) = record_text kind
text_of Told = codes "`told ..`: a notice that the upcall before it passes: that a processor was added, or that an activation was preempted, blocked or unblocked."
text_of (Rule rules rule) = rule_text rules rule
text_of (Cause cause) = cause_said cause
text_of (End end) = end_text end
text_of Endless = codes "No order of turns leads from there to an end."
text_of Lost = codes "On virtual processors: at each event, as many ready threads of a space as it has blocked virtual processors could have run, had the kernel handed those processors back. Lost is the sum over all events."
text_of (Status status) = status_text status
