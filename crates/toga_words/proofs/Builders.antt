-- A command that gets an argument, or a subcommand.
use Rattle.std.proofs.Common.{◌≡◌, Bool, false, ap₂, ◌∙◌, ◌||◌}
use Rattle.clap.specs.Built.{AddsArg, AddsSubcommand}
use Rattle.clap.specs.Simple.{App, with_rule, with_subcommand}
use Rattle.clap.specs.Walk.{Rule, rule_of}
use Rattle.clap.specs.declared.builder.arg.Arg.{Arg}
use Rattle.clap.specs.declared.builder.command.Command.{Command}
use Rattle.toga_words.specs.Local.{IsLocalApp}

either : (x y : Bool) → x ≡ false → y ≡ false → (x || y) ≡ false
either x y p q = ap₂ (λ (a b : Bool). a || b) p q

pub with_arg : (a : App) (r : Rule) (old new : Command) (arg : Arg) → IsLocalApp a old → rule_of arg ≡ r → arg.global ≡ false
    → AddsArg old arg new → IsLocalApp (with_rule a r) new
with_arg a r old new arg one rule local h = record {
  app = h.shape local ∙ ap₂ with_rule one.app rule;
  local = h.globals ∙ either _ _ one.local local;
}

pub added : (a s : App) (old sub new : Command) → IsLocalApp a old → IsLocalApp s sub → AddsSubcommand old sub new
    → IsLocalApp (with_subcommand a s.top) new
added a s old sub new one two h = record {
  app = h.shape two.local ∙ ap₂ (λ (b t : App). with_subcommand b t.top) one.app two.app;
  local = h.globals ∙ either _ _ one.local two.local;
}
