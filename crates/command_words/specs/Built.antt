-- A program as it is built.
use Rattle.std.specs.Prelude.{◌≡◌, [], false}
use Rattle.clap.specs.Walk.{Rule, rule_of}
use Rattle.clap.specs.Simple.{App, Shape, app_of}
use Rattle.clap.specs.declared.builder.arg.Arg.{Arg}
use Rattle.clap.specs.declared.builder.command.Command.{Command}
use Rattle.clap.specs.declared.builder.command.Command.TheViews.{out-Command as fields_of}

-- the argument is this one, and of one command alone
pub record IsRule (a : Arg) (rule : Rule) : Type 0 where
  pub rule_is : rule_of a ≡ rule
  pub local : a.global ≡ false

-- the program is this one, and has no argument for all of its commands
pub record IsApp (program : Command) (app : App) : Type 0 where
  pub app_is : app_of program ≡ app
  pub local : (fields_of program).has_globals ≡ false

-- a command that has none of its own
abbrev pub leaf : Shape → App
leaf shape = record { top = shape; subs = [] }
