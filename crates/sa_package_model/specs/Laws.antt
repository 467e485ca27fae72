-- What holds of each step, whatever the package.
use Rattle.std.specs.Prelude.{◌≡◌, ◌≤◌, length, All}
use Rattle.sa_base.specs.declared.context.Seen.{Seen}
use Rattle.sa_abstract.specs.Setting.{Setting, IsSetting}
use Rattle.sa_abstract.specs.Keeps.{IsAsked, IsOwn}
use Rattle.sa_package_model.specs.declared.context.Context.{Context}
use Rattle.sa_package_model.specs.declared.package.Package.{Package}
use Rattle.sa_package_model.specs.Conditions.{CanStep}
use Rattle.sa_package_model.specs.Step.{stepped}

-- the package was made for this setting
pub record IsMadeFor (s : Setting) (u : Package) : Type 0 where
  pub setting : IsSetting s
  pub space : u.shared.state.space ≡ s.space
  pub def : u.def ≡ s.def
  pub processors : u.processors ≡ s.processors
  pub fetch : u.fetch ≡ s.fetch

-- what a step asks for the kernel can do
abbrev pub StepsAskWhatCanBeDone : Type 0
StepsAskWhatCanBeDone =
    (s : Setting) (u : Package) (seen : Seen) (c : Context) → IsMadeFor s u → CanStep u seen c → IsAsked s seen (stepped u seen c).answer

-- a step adds two records at most, all of its own space
abbrev pub StepsSayTheirOwn : Type 0
StepsSayTheirOwn =
    (s : Setting) (u : Package) (seen : Seen) (c : Context) → IsMadeFor s u
    → All (IsOwn s.space) (stepped u seen c).says × (length (stepped u seen c).says ≤ 2)
