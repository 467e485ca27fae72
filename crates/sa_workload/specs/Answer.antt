-- What a reader answers where it reads no workload.
use Rattle.std.specs.Prelude.{⊤}
use Rattle.sa_base.specs.declared.refusal.Bad.{Bad}
use Rattle.sa_base.specs.declared.refusal.Unread.{Unread}
use Rattle.sa_base.specs.declared.refusal.Unread.TheVariants.{Bad as refused, OutOfMemory}

-- the text is refused, so; want of memory says nothing
abbrev pub IfBad : Unread → (Bad → Type 0) → Type 0
IfBad (refused bad) P = P bad
IfBad OutOfMemory P = ⊤
