-- A command that is built argument by argument.
use Rattle.std.proofs.Common.{◌≡◌, ◌∙◌, Bool, true, false, List, [], ◌∷◌, ◌++◌, append_assoc, ap, refl, subst, sym}
use Rattle.std.proofs.lemmas.List.{append-nil, Sums.fold-append}
use Rattle.std.specs.{Prelude.{◌||◌, fold}, Borrow.Bor}
use Rattle.clap.specs.Words.{AddsArg, App, Rule, Shape, Text, app_of, with_rule}
use Rattle.clap.specs.declared.builder.{arg.Arg.Arg, value_parser.ValueParser.ValueParser}
use Rattle.clap.specs.declared.builder.{texts.Texts.TheVariants.One, command.Command.Command}
use Rattle.link_tools_command.specs.{Building.{AddsArguments, IsLocalArgOfRule, IsCommandOfShape}, Table.{number, tool}}

pub joined : {rs qs : List Rule} {a b c : Command} → AddsArguments rs a b → AddsArguments qs b c
    → AddsArguments (rs ++ qs) a c
joined {rs} {qs} {a} first second = record {
  app = second.app ∙ ap (λ x. fold with_rule x qs) first.app
      ∙ sym (fold-append with_rule (app_of a) rs qs);
  globals = second.globals ∙ first.globals;
}

local_more : (a b : Bool) → b ≡ false → (a || b) ≡ a
local_more true b e = refl
local_more false b e = e

pub one_more : {r : Rule} {arg : Arg} {old new : Command} → IsLocalArgOfRule r arg → AddsArg old arg new
    → AddsArguments (r ∷ []) old new
one_more {r} {arg} {old} has adds = record {
  app = adds.shape has.local ∙ ap (with_rule (app_of old)) has.read;
  globals = adds.globals ∙ local_more _ _ has.local;
}

pub after_three : {r s t : Rule} {rs : List Rule} {old one new : Command}
    → AddsArguments (r ∷ s ∷ t ∷ []) old one → AddsArguments rs one new
    → AddsArguments (r ∷ s ∷ t ∷ rs) old new
after_three first rest = joined first rest

-- ---- an argument with one more setting

pub in_range : {name : Text} {p q : ValueParser} {a : Arg} → IsLocalArgOfRule (number name p) a → p ≡ q
    → IsLocalArgOfRule (number name q) a
in_range {name} {a = a} has is = subst (λ range. IsLocalArgOfRule (number name range) a) is has

pub with_default : {r : Rule} {a b : Arg} {text : Bor Text} → IsLocalArgOfRule r a
    → b ≡ record a { default_vals = One text }
    → IsLocalArgOfRule (record r { defaults = text.now ∷ [] }) b
with_default {text = text} has is = rw is (record {
  read = ap (λ (r : Rule). record r { defaults = text.now ∷ [] }) has.read;
  local = has.local;
})

pub with_value_name : {r : Rule} {a b : Arg} {name : Bor Text} → IsLocalArgOfRule r a
    → b ≡ record a { val_names = One name }
    → IsLocalArgOfRule (record r { value_names = 1 }) b
with_value_name has is = rw is (record {
  read = ap (λ (r : Rule). record r { value_names = 1 }) has.read;
  local = has.local;
})

pub with_required : {r : Rule} {a b : Arg} → IsLocalArgOfRule r a → b ≡ record a { required = true }
    → IsLocalArgOfRule (record r { required = true }) b
with_required has is = rw is (record {
  read = ap (λ (r : Rule). record r { required = true }) has.read;
  local = has.local;
})

pub ruleset settings = (in_range, with_default, with_value_name, with_required)

-- ---- a tool

top_joined : (a : App) (rs : List Rule)
    → (fold with_rule a rs).top ≡ record a.top { rules = a.top.rules ++ rs }
top_joined a [] = ap (λ rules. record a.top { rules = rules }) (sym (append-nil a.top.rules))
top_joined a (r ∷ rs) = top_joined (with_rule a r) rs ∙ ap (λ rules. record a.top { rules = rules }) (append_assoc a.top.rules (r ∷ []) rs)

pub whole_tool : {name : Text} {rs : List Rule} {old new : Command} → IsCommandOfShape (tool name []) old
    → AddsArguments rs old new → IsCommandOfShape (tool name rs) new
whole_tool {name} {rs} {old} bare adds = record {
  shape = ap (λ (a : App). a.top) adds.app ∙ top_joined (app_of old) rs ∙ ap (λ (s : Shape). record s { rules = s.rules ++ rs }) bare.shape;
  local = adds.globals ∙ bare.local;
}

pub ruleset tools = (whole_tool, one_more, after_three)
