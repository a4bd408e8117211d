-- Steps of the building of the program.
use Rattle.std.proofs.Common.{◌≡◌, ◌∙◌, ◌||◌, ap, ap₂, refl, true}
use Rattle.clap.specs.Walk.{Rule}
use Rattle.clap.specs.Simple.{App, Shape, is_simple, with_rule, with_subcommand}
use Rattle.clap.specs.Faults.{is_simple_and_free}
use Rattle.command_words.specs.Forms.{clpa}
use Rattle.clap.specs.Built.{AddsArg, AddsSubcommand}
use Rattle.clap.specs.declared.builder.arg.Arg.{Arg}
use Rattle.clap.specs.declared.builder.command.Command.{Command}
use Rattle.command_words.specs.Built.{IsApp, IsRule, leaf}

pub adds : (old new : Command) (a : Arg) (app : App) (rule : Rule) → AddsArg old a new → IsApp old app → IsRule a rule → IsApp new (with_rule app rule)
adds old new a app rule added old_is rule_is = record {
  app_is = added.shape rule_is.local ∙ ap₂ with_rule old_is.app_is rule_is.rule_is;
  local = added.globals ∙ ap₂ (λ x y. x || y) old_is.local rule_is.local;
}

pub joins : (old sub new : Command) (app : App) (shape : Shape) → AddsSubcommand old sub new → IsApp old app → IsApp sub (leaf shape) → IsApp new (with_subcommand app shape)
joins old sub new app shape added old_is sub_is = record {
  app_is = added.shape sub_is.local ∙ ap₂ with_subcommand old_is.app_is (ap (λ (a : App). a.top) sub_is.app_is);
  local = added.globals ∙ ap₂ (λ x y. x || y) old_is.local sub_is.local;
}

-- the program is one whose parse `clap` tells exactly
pub is_simple_and_free_here : is_simple_and_free clpa ≡ true
is_simple_and_free_here = refl

pub is_simple_here : is_simple clpa ≡ true
is_simple_here = refl
