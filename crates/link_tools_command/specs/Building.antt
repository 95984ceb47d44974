-- Relations: facts about the arguments and commands that src/command.rt builds.
use Rattle.std.specs.Prelude.{◌≡◌, false, List, fold}
use Rattle.clap.specs.Words.{Rule, Shape, app_of, rule_of, shape_of, with_rule}
use Rattle.clap.specs.declared.builder.{arg.Arg.Arg, command.Command.Command}
use Rattle.clap.specs.declared.builder.command.Command.TheViews.{out-Command as fields_of}

-- the argument is read by this rule, and belongs only to its own tool: it is not global
pub record IsLocalArgOfRule (rule : Rule) (arg : Arg) : Type 0 where
  pub read : rule_of arg ≡ rule
  pub local : arg.global ≡ false

-- `new` is `old` with these arguments added, in this order. It has global arguments if `old` has
-- some, and only then.
pub record AddsArguments (rules : List Rule) (old new : Command) : Type 0 where
  pub app : app_of new ≡ fold with_rule (app_of old) rules
  pub globals : (fields_of new).has_globals ≡ (fields_of old).has_globals

-- the command is a tool of this shape, and has no global arguments
pub record IsCommandOfShape (words : Shape) (command : Command) : Type 0 where
  pub shape : shape_of command ≡ words
  pub local : (fields_of command).has_globals ≡ false
