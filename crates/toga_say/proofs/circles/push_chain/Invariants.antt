use Rattle.std.proofs.Common.{◌≡◌, ◌++◌, drop}
use Rattle.toga_say.specs.Circles.{chain_text}
use Rattle.toga_say.proofs.circles.push_chain.Given as goal

abbrev pub invariant-loop-u : goal.invariant-loop-u
invariant-loop-u l = l.out.items ++ chain_text l.scene l.own l.s l.home l.t (drop l.u-index l.rest)
    ≡ l.initial.out.items ++ chain_text l.scene l.own l.s l.home l.home l.rest
