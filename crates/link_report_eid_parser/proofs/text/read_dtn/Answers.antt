use Rattle.std.proofs.Common.{◌≡◌, inr, refl, arith}
use Rattle.link_report_eid_parser.proofs.Texts.{null_text, name_text, name_read, no_dtn}
use Rattle.link_report_eid_parser.proofs.text.read_dtn.Goals as goal

pub returns-then-is_none : goal.returns-then-is_none
returns-then-is_none c = record {
  within = omega arith;
  is = null_text c.args.text.now c.if-is_none.ensures.yes;
  named = inr refl;
  rest = refl;
}

pub returns-in_default : goal.returns-in_default
returns-in_default c =
    (no_dtn c.args.text.now c.if-is_none.ensures.no c.in_default.ensures.none, refl)

pub returns-then-size-name : goal.returns-then-size-name
returns-then-size-name c =
    let name = c.in-Some.read.items in
    let found = c.in-Some.ensures.some in
    record {
      name = name;
      is = name_text name c.args.text.now found.0 (omega arith) c.if-is_none.ensures.no found.1;
      size_is = c.len-size.ensures.value;
      longer = omega arith;
      same = refl;
    }

pub returns : goal.returns
returns c =
    let name = c.in-Some.read.items in
    let found = c.in-Some.ensures.some in
    let copied : c.copy_from_slice.new.self ≡ name = cc in
    let text = name_text name c.args.text.now found.0 (omega arith) c.if-is_none.ensures.no found.1 in
    rw copied (name_read name c.args.name.now _ c.len-size.result c.len-size.ensures.value text)
