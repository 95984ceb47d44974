use Rattle.std.proofs.Common.{◌≡◌, true, List, Option, Err, inr, map, string_bytes, subst, sym, rules}
use Rattle.std.proofs.lemmas.Result.{IfErr-weaker, IfOk-weaker}
use Rattle.std.specs.Prelude.{IfErr, IfOk}
use Rattle.clap.specs.Words.{App, Row, Text, app_of, kind_of, takes}
use Rattle.link_tools_command.specs.{Invoked.IsInvocationOfTool, Reading.MayBeFaultOfMatches}
use Rattle.link_tools_command.proofs.Taken.{clap_fault, failed, parsed, tool_fault}
use Rattle.link_tools_command.proofs.reading.options.Goals as goal

pub invocation-requires : goal.invocation-requires
invocation-requires c =
    let words : List Text = map string_bytes c.args.words.now in
    let parse = c.in-Ok-try_get_matches_from in
    (parsed c.in-Ok.command words parse.matches c.in-Ok.ensures parse.ensures.kinds
    parse.ensures.matches parse.ensures.parsed).2

pub returns-in-Ok-try_get_matches_from : goal.returns-in-Ok-try_get_matches_from
returns-in-Ok-try_get_matches_from c =
    let words : List Text = map string_bytes c.args.words.now in
    let parse = c.in-Ok-try_get_matches_from in
    let known = parsed c.in-Ok.command words parse.matches c.in-Ok.ensures parse.ensures.kinds
    parse.ensures.matches parse.ensures.parsed in
    let invoked = c.invocation.ensures in
    record {
      ok = subst (λ (tool : Option (Text × List Row)).
          IfOk c.invocation.result (IsInvocationOfTool tool)) known.1 invoked.ok;
      taken = IfOk-weaker c.invocation.result _ _ (λ invocation _. known.0) invoked.ok;
      err = IfErr-weaker c.invocation.result _ _ (tool_fault words known.0)
          (subst (λ (tool : Option (Text × List Row)). IfErr c.invocation.result (MayBeFaultOfMatches tool))
          known.1 invoked.err);
      passes = search rules;
    }

pub returns-in-Err-try_get_matches_from-clause-err : goal.returns-in-Err-try_get_matches_from-clause-err
returns-in-Err-try_get_matches_from-clause-err c =
    let words : List Text = map string_bytes c.args.words.now in
    let error = c.in-Err-try_get_matches_from.error in
    clap_fault words (kind_of error) c.usage_fault.result c.usage_fault.ensures.kind
    (failed (app_of c.in-Ok.command) words (Err error) c.in-Ok.ensures
    c.in-Err-try_get_matches_from.ensures.kinds)

pub returns-in-Err-try_get_matches_from-clause-passes : goal.returns-in-Err-try_get_matches_from-clause-passes
returns-in-Err-try_get_matches_from-clause-passes c = λ taken.
    let is : takes (app_of c.in-Ok.command) (map string_bytes c.args.words.now) ≡ true =
    subst (λ (a : App). takes a (map string_bytes c.args.words.now) ≡ true) (sym c.in-Ok.ensures) taken in
    inr (inr (inr (inr (c.usage_fault.ensures.memory (c.in-Err-try_get_matches_from.ensures.passes is)))))
