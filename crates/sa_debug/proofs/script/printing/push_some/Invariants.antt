use Rattle.std.proofs.Common.{◌≡◌, ◌++◌, take}
use Rattle.std.specs.List.{flat_map}
use Rattle.sa_debug.specs.script.Reply.{register_text}
use Rattle.sa_debug.proofs.script.printing.push_some.Given as goal

-- the registers before this one are printed
abbrev pub invariant-loop-reg : goal.invariant-loop-reg
invariant-loop-reg l = l.out.items ≡ l.initial.out.items ++ flat_map (register_text l.regs) (take l.reg-index l.some)
