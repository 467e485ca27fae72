use Rattle.std.proofs.Common.{ℕ, ◌<◌}
use Rattle.sa_assign.specs.Aims.{space_no}
use Rattle.sa_check_moment.specs.Seen.{seen}
use Rattle.sa_check.specs.Prompt.{IsPromptTo}
use Rattle.sa_check.proofs.prompt.is_told_in_time.Given as goal

abbrev pub invariant-loop-s : goal.invariant-loop-s
invariant-loop-s l = (k : ℕ) → k < l.s → IsPromptTo (seen l.moment).readings (space_no k)
