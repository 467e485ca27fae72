-- Each instruction, record, rule, cause of a refusal, end and status is among the topics.
use Rattle.std.specs.Prelude.{◌≡◌, ℕ, List, Option, Some, slice_get}
use Rattle.sa_base.specs.declared.package.RulesName.{RulesName}
use Rattle.sa_base.specs.declared.record.End.{End}
use Rattle.sa_base.specs.declared.refusal.Cause.{Cause}
use Rattle.sa_instr.specs.declared.operation.Operation.{Operation}
use Rattle.sa_trace.specs.declared.kind.Kind.{Kind}
use Rattle.sa_laws.specs.declared.rule.Rule.{Rule}
use Rattle.sa_check.specs.Line.{word_of as rule_word}
use Rattle.toga_explain.specs.declared.status.ExitStatus.{ExitStatus}
use Rattle.toga_explain.specs.declared.topic.Topic.{Topic}
use Rattle.toga_explain.specs.declared.topic.Topic.TheVariants as topic
use Rattle.toga_explain.specs.declared.topic.TheConstants.{INSTRUCTIONS, RECORDS, RULES, CAUSES, ENDS, STATUSES}
use Rattle.toga_explain.specs.Tables.{rule_text}
use Rattle.toga_explain.specs.Topic.{word_of, text_of}

-- a topic has a place among some
abbrev pub IsAmong : List Topic → Topic → Type 0
IsAmong topics t = (k : ℕ) × (slice_get topics k ≡ Some t)

abbrev pub InstructionsAreAmong : Type 0
InstructionsAreAmong = (operation : Operation) → IsAmong INSTRUCTIONS (topic.Instruction operation)

abbrev pub RecordsAreAmong : Type 0
RecordsAreAmong = (kind : Kind) → IsAmong RECORDS (topic.Record kind)

abbrev pub CausesAreAmong : Type 0
CausesAreAmong = (cause : Cause) → IsAmong CAUSES (topic.Cause cause)

abbrev pub EndsAreAmong : Type 0
EndsAreAmong = (end : End) → IsAmong ENDS (topic.End end)

abbrev pub StatusesAreAmong : Type 0
StatusesAreAmong = (status : ExitStatus) → IsAmong STATUSES (topic.Status status)

-- some topic among them has the word of a rule, and says what it asks
pub record IsARule (rules : RulesName) (rule : Rule) : Type 0 where
  pub of : Topic
  pub among : IsAmong RULES of
  pub word : word_of of ≡ rule_word rules rule
  pub text : text_of of ≡ rule_text rules rule

abbrev pub RulesAreAmong : Type 0
RulesAreAmong = (rules : RulesName) (rule : Rule) → IsARule rules rule
