use Rattle.std.proofs.Common.{refl, ap, ◌∙◌}
use Rattle.link_wire.specs.Session.{source_of}
use Rattle.link_run.specs.{Reading.feed_of, Run.looks, Writers.place_of}
use Rattle.link_run.specs.declared.next.Next.TheVariants as next
use Rattle.link_run.proofs.{Waiting.waits_then, Stands.last_step}
use Rattle.link_tool_list.specs.{Listing.listing_of, ListRun.{latest_line, IsListingAtBy, IsListingAtStage}}
use Rattle.link_tool_list.specs.declared.listing.Stage.TheVariants as stage
use Rattle.link_tool_list.proofs.Lists.{not_far, due_listed, lines_written, goes_kept, step_kept}
use Rattle.link_tool_list.proofs.listing.step.Goals as goal

pub returns-in-Contact-clause-gives : goal.returns-in-Contact-clause-gives
returns-in-Contact-clause-gives g c = λ start history at.
    let look = looks g.R.InDevice.state g.W.OutDevice.state g.E.OutDevice.state in
    let latest = latest_line c.args.tool.now.latest in
    let input = feed_of c.list_contact.new.input in
    let old = place_of (source_of (feed_of c.args.input.now)) c.args.writers.now in
    let new = place_of (source_of input) c.list_contact.new.writers in
    rw c.in-Contact.is (λ begins.
    not_far look start c.args.piece c.args.far stage.Contact old new
    (IsListingAtBy g.R.InDevice.state stage.Message latest input) history c.list_contact.result
    c.requires.piece (c.list_contact.ensures.gives start latest history at begins))

pub returns-in_default-later : goal.returns-in_default-later
returns-in_default-later g c = record {
  fits = λ more. goes_kept c.in-Stage.later (feed_of c.advance.new.input) c.in-Stage.ensures.fits;
  gives = λ start history at lists.
      step_kept (looks g.R.InDevice.state g.W.OutDevice.state g.E.OutDevice.state) start
      c.args.piece c.args.far c.args.tool.now.stage (feed_of c.args.input.now)
      (feed_of c.advance.new.input) c.args.writers.now c.advance.new.writers
      (latest_line c.advance.new.latest) history c.requires.piece c.in-Stage.later
      c.in_default-later.not-Message (c.in-Stage.ensures.gives start history at lists);
  waits = c.advance.ensures.waits;
}

pub returns-in-Ended-clause-gives : goal.returns-in-Ended-clause-gives
returns-in-Ended-clause-gives g c = λ start history at lists.
    let look = looks g.R.InDevice.state g.W.OutDevice.state g.E.OutDevice.state in
    let input = feed_of c.advance.new.input in
    let tool = c.args.tool.now in
    let last = rw c.in-Ended.is at (c.advance.ensures.gives start history at lists) in
    let old = place_of (source_of (feed_of c.args.input.now)) c.args.writers.now in
    let new = place_of (source_of input) c.advance.new.writers in
    let knows = IsListingAtStage g.R.InDevice.state tool.stage (latest_line c.advance.new.latest) input in
    rw c.ended.ensures
    (not_far look start c.args.piece c.args.far tool.stage old new knows history _
    c.requires.piece (last_step listing_of old new _ _ last))

pub returns-in-Message : goal.returns-in-Message
returns-in-Message g c =
    let old = feed_of c.args.input.now in
    let mid = feed_of c.advance.new.input in
    let new = feed_of c.write_lines.new.input in
    let before = c.advance.new.writers in
    let after = c.write_lines.new.writers in
    let is = c.in-Stage.is ∙ ap next.Stage c.in-Message.is in
    record {
      fits = λ more. rw c.in-Message.is c.write_lines.ensures.fits;
      gives = λ start history at lists.
          let due = rw is at (c.advance.ensures.gives start history at lists) in
          let listed = due_listed old mid new before after due in
          rw (c.in-Message.is, c.after.ensures)
          (lines_written old mid new before after due c.args.far _ _
          (λ is. rw (c.write_lines.ensures.near is) refl)
          (c.write_lines.ensures.gives _ _ listed));
      waits = λ history lists.
          waits_then c.args.writers.now {old = c.args.input.now} (c.advance.ensures.waits history lists)
          c.write_lines.ensures.unread;
    }
