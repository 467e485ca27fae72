-- Each instruction, record, rule, cause of a refusal, end and status has its place among the topics.
use Rattle.std.proofs.Common.{◌≡◌, ℕ, refl}
use Rattle.sa_base.specs.declared.package.RulesName.{RulesName}
use Rattle.sa_base.specs.declared.package.RulesName.TheVariants as rules
use Rattle.sa_base.specs.declared.record.End.{End}
use Rattle.sa_base.specs.declared.record.End.TheVariants as end
use Rattle.sa_base.specs.declared.refusal.Cause.{Cause}
use Rattle.sa_base.specs.declared.refusal.Cause.TheVariants as cause
use Rattle.sa_instr.specs.declared.operation.Operation.{Operation}
use Rattle.sa_instr.specs.declared.operation.Operation.TheVariants as operation
use Rattle.sa_trace.specs.declared.kind.Kind.{Kind}
use Rattle.sa_trace.specs.declared.kind.Kind.TheVariants as kind
use Rattle.sa_laws.specs.declared.rule.Rule.{Rule}
use Rattle.sa_laws.specs.declared.rule.Rule.TheVariants as rule
use Rattle.toga_explain.specs.declared.status.ExitStatus.{ExitStatus}
use Rattle.toga_explain.specs.declared.status.ExitStatus.TheVariants as status
use Rattle.toga_explain.specs.declared.topic.Topic.TheVariants as topic
use Rattle.toga_explain.specs.Tables.{demand_text, rule_text}
use Rattle.toga_explain.specs.Laws.{InstructionsAreAmong, RecordsAreAmong, RulesAreAmong, CausesAreAmong, EndsAreAmong, StatusesAreAmong, IsARule}

pub instructions-are-among : InstructionsAreAmong
instructions-are-among operation.Compute = (0, refl)
instructions-are-among operation.Set = (1, refl)
instructions-are-among operation.Add = (2, refl)
instructions-are-among operation.Sub = (3, refl)
instructions-are-among operation.Jnz = (4, refl)
instructions-are-among operation.Load = (5, refl)
instructions-are-among operation.Store = (6, refl)
instructions-are-among operation.Out = (7, refl)
instructions-are-among operation.Fork = (8, refl)
instructions-are-among operation.Join = (9, refl)
instructions-are-among operation.Lock = (10, refl)
instructions-are-among operation.Unlock = (11, refl)
instructions-are-among operation.Wait = (12, refl)
instructions-are-among operation.Signal = (13, refl)
instructions-are-among operation.Io = (14, refl)
instructions-are-among operation.Touch = (15, refl)
instructions-are-among operation.End = (16, refl)

pub records-are-among : RecordsAreAmong
records-are-among kind.Ins = (0, refl)
records-are-among kind.Out = (1, refl)
records-are-among kind.Run = (2, refl)
records-are-among kind.Stop = (3, refl)
records-are-among kind.Block = (4, refl)
records-are-among kind.Unblock = (5, refl)
records-are-among kind.Cont = (6, refl)
records-are-among kind.Back = (7, refl)
records-are-among kind.Ready = (8, refl)
records-are-among kind.Take = (9, refl)
records-are-among kind.Free = (10, refl)
records-are-among kind.Up = (11, refl)
records-are-among kind.ToldAdd = (13, refl)
records-are-among kind.ToldPreempted = (14, refl)
records-are-among kind.ToldBlocked = (15, refl)
records-are-among kind.ToldUnblocked = (16, refl)
records-are-among kind.Move = (17, refl)
records-are-among kind.Want = (18, refl)
records-are-among kind.Aim = (19, refl)
records-are-among kind.Line = (20, refl)
records-are-among kind.Fetch = (21, refl)
records-are-among kind.Fetched = (22, refl)
records-are-among kind.GiveBack = (23, refl)
records-are-among kind.Idle = (24, refl)
records-are-among kind.Spin = (25, refl)
records-are-among kind.Tick = (26, refl)

pub causes-are-among : CausesAreAmong
causes-are-among cause.NotAscii = (0, refl)
causes-are-among cause.BadWord = (1, refl)
causes-are-among cause.BadNumber = (2, refl)
causes-are-among cause.OutOfRange = (3, refl)
causes-are-among cause.Twice = (4, refl)
causes-are-among cause.NoSuchName = (5, refl)
causes-are-among cause.BadTarget = (6, refl)
causes-are-among cause.TooMany = (7, refl)
causes-are-among cause.Missing = (8, refl)

pub ends-are-among : EndsAreAmong
ends-are-among end.AllDone = (0, refl)
ends-are-among end.Stuck = (1, refl)
ends-are-among end.Budget = (2, refl)

pub statuses-are-among : StatusesAreAmong
statuses-are-among status.Done = (0, refl)
statuses-are-among status.BadWords = (1, refl)
statuses-are-among status.NoSource = (2, refl)
statuses-are-among status.Stuck = (3, refl)
statuses-are-among status.Open = (4, refl)
statuses-are-among status.NotRead = (5, refl)
statuses-are-among status.NotWritten = (6, refl)
statuses-are-among status.OutOfMemory = (7, refl)
statuses-are-among status.Illegal = (8, refl)
statuses-are-among status.NoTrace = (9, refl)
statuses-are-among status.TooMuch = (10, refl)

pub rules-are-among : RulesAreAmong
unfolding rule_text demand_text
rules-are-among rules.Priorities rule.DemandAnnounced = record { of = topic.Rule rules.Priorities rule.DemandAnnounced; among = (12, refl); word = refl; text = refl }
rules-are-among rules.FastThreads rule.DemandAnnounced = record { of = topic.Rule rules.FastThreads rule.DemandAnnounced; among = (11, refl); word = refl; text = refl }
rules-are-among rules.Any rule.DemandAnnounced = record { of = topic.Rule rules.FastThreads rule.DemandAnnounced; among = (11, refl); word = refl; text = refl }
rules-are-among _ rule.Numbered = record { of = topic.Rule rules.FastThreads rule.Numbered; among = (0, refl); word = refl; text = refl }
rules-are-among _ rule.Stepwise = record { of = topic.Rule rules.FastThreads rule.Stepwise; among = (1, refl); word = refl; text = refl }
rules-are-among _ rule.ToldOnce = record { of = topic.Rule rules.FastThreads rule.ToldOnce; among = (2, refl); word = refl; text = refl }
rules-are-among _ rule.ToldInTime = record { of = topic.Rule rules.FastThreads rule.ToldInTime; among = (3, refl); word = refl; text = refl }
rules-are-among _ rule.WhereOwned = record { of = topic.Rule rules.FastThreads rule.WhereOwned; among = (4, refl); word = refl; text = refl }
rules-are-among _ rule.AllTold = record { of = topic.Rule rules.FastThreads rule.AllTold; among = (5, refl); word = refl; text = refl }
rules-are-among _ rule.UpcallGiven = record { of = topic.Rule rules.FastThreads rule.UpcallGiven; among = (6, refl); word = refl; text = refl }
rules-are-among _ rule.InterruptNext = record { of = topic.Rule rules.FastThreads rule.InterruptNext; among = (7, refl); word = refl; text = refl }
rules-are-among _ rule.LineCause = record { of = topic.Rule rules.FastThreads rule.LineCause; among = (8, refl); word = refl; text = refl }
rules-are-among _ rule.WantCause = record { of = topic.Rule rules.FastThreads rule.WantCause; among = (9, refl); word = refl; text = refl }
rules-are-among _ rule.SharesCovered = record { of = topic.Rule rules.FastThreads rule.SharesCovered; among = (10, refl); word = refl; text = refl }
rules-are-among _ rule.TurnsTaken = record { of = topic.Rule rules.FastThreads rule.TurnsTaken; among = (13, refl); word = refl; text = refl }
rules-are-among _ rule.LocksKept = record { of = topic.Rule rules.FastThreads rule.LocksKept; among = (14, refl); word = refl; text = refl }
rules-are-among _ rule.OrderKept = record { of = topic.Rule rules.FastThreads rule.OrderKept; among = (15, refl); word = refl; text = refl }
rules-are-among _ rule.EndTold = record { of = topic.Rule rules.FastThreads rule.EndTold; among = (16, refl); word = refl; text = refl }
