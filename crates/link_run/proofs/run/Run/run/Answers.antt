use Rattle.std.proofs.Common.{◌++◌, ◌∙◌}
use Rattle.link_run.proofs.Waiting.{waited_more, ran_on}
use Rattle.link_run.proofs.run.Run.run.Goals as goal

pub strides-preserved : goal.strides-preserved
strides-preserved g c =
    let stood = c.strides.invariant.1 in
    let same = c.strides.invariant.0 in
    let strode = rw c.in-Ok-More.field-0-is at (c.in-Ok-More.ensures.gives _ stood.0 stood.1) in
    let went = strode.3 in
    let waits = rw same at (c.in-Ok-More.ensures.waits _ stood.0 stood.1) in (
      c.in-Ok-More.ensures.tool ∙ same,
      (
        stood.0 ++ went.given,
        went.at,
        waited_more _ _ _ (g.Self.Run.place c.stride.new.self).source stood.0 went.given _ _ _ _ stood.2
            waits,
      ),
    )

pub returns-in-Ok-Done : goal.returns-in-Ok-Done
returns-in-Ok-Done g c =
    let same = c.strides.invariant.0 in
    let stood = c.strides.invariant.1 in
    let done = c.in-Ok-Done.ensures in
    let strode = rw (c.in-Ok-Done.field-0-is, same) at (done.gives _ stood.0 stood.1) in
    let waits = rw same at (done.waits _ stood.0 stood.1) in
    let ends = rw c.in-Ok-Done.field-0-is at done.ends in
    let back = c.into_end.ensures in
    ran_on _ _ _ stood.0 _ back.devices back.answer (back.ran (ends tt)) strode.3 stood.2 waits

pub returns-in-Err : goal.returns-in-Err
returns-in-Err g c =
    let same = c.strides.invariant.0 in
    let stood = c.strides.invariant.1 in
    let failed = c.in-Err.ensures in
    let strode = rw same at (failed.gives _ stood.0 stood.1) in
    let waits = rw same at (failed.waits _ stood.0 stood.1) in
    let back = c.into_end-in-Err.ensures in
    ran_on _ _ _ stood.0 _ back.devices back.answer (back.ran (failed.ends tt)) strode.3 stood.2 waits
