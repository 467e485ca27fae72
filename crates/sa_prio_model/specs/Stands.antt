-- How the package and the contexts of its space's activations stand beside one another.
use Rattle.std.specs.Prelude.{◌≡◌, ℕ, true, length, Some}
use Rattle.std.specs.Option.{option_map}
use Rattle.sa_abstract.specs.Setting.{Setting}
use Rattle.sa_abstract.specs.Calls.{Contexts}
use Rattle.sa_abstract.specs.Keeps.{Standing}
use Rattle.sa_package_model.specs.declared.context.Context.{Context}
use Rattle.sa_package_model.specs.Conditions.{IsThread}
use Rattle.sa_package_model.specs.Stands.{IsStanding}
use Rattle.sa_prio_model.specs.declared.context.PrioContext.{PrioContext}
use Rattle.sa_prio_model.specs.Prio.{Prio, on_at}
use Rattle.sa_prio_model.specs.Urge.{is_out}

-- the contexts without their marks
abbrev pub unmarked_of : PrioContext → Context
unmarked_of c = c.base

abbrev pub bases : Contexts PrioContext → Contexts Context
bases cs a = option_map unmarked_of (cs a)

-- a context with the mark is at an instruction of its thread, or looks for one
abbrev pub IsMarkedWell : PrioContext → Type 0
IsMarkedWell c = c.urge ≡ true → is_out c.base.state ≡ true

pub record IsPrioStanding (s : Setting) (event : ℕ) (v : Prio) (cs : Contexts PrioContext) : Type 0 where
  pub base : IsStanding s event v.base (bases cs)
  pub marks : (a : ℕ) (c : PrioContext) → cs a ≡ Some c → IsMarkedWell c
  -- each processor has a thread of the space, or none
  pub processors : length v.on ≡ s.processors
  pub threads : (q : ℕ) → IsThread (on_at v q)

abbrev pub prio_stands : Standing Prio PrioContext
prio_stands s event v cs = IsPrioStanding s event v cs
