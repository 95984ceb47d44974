use Rattle.std.proofs.Common.{refl, ◌++◌, [], Ok, Err, sym, ◌∙◌}
use Rattle.std.proofs.lemmas.Bool.{false≢true}
use Rattle.link_run.specs.Reading.{feed_of}
use Rattle.link_run.proofs.{Runs.{writes_none, outputs_then}, Waiting.{unread_none, unread_then}}
use Rattle.link_tool_list.specs.ListRun.{latest_line}
use Rattle.link_tool_list.proofs.Lists.{listed_none, listed_more}
use Rattle.link_tool_list.proofs.listing.write_lines.Goals as goal

pub lines-init : goal.lines-init
lines-init g c = record {
  fits = c.requires;
  near = λ is. refl;
  unread = unread_none _;
  lines = [];
  writes = writes_none g.W.OutDevice.state g.E.OutDevice.state c.args.writers.now;
  listed = λ first history is. listed_none g.R.InDevice.state first (feed_of c.args.input.now) (latest_line c.args.latest.now) is;
}

pub returns-in-Err : goal.returns-in-Err
returns-in-Err g c =
    let kept = c.lines.invariant in
    let line = latest_line c.lines.latest in
    let part =
    outputs_then _ _ _ _ _ kept.lines line (Err c.in-Err.fault) kept.writes
    (rw c.in-Err.is at c.write_line.ensures.line) in
    record {
      fits = kept.fits;
      near = kept.near;
      gives = λ first history is. (kept.lines ++ line, part, kept.listed first history is);
      unread = kept.unread;
    }

pub returns-then-not-far : goal.returns-then-not-far
returns-then-not-far g c =
    let kept = c.lines.invariant in
    let line = latest_line c.lines.latest in
    let writes =
    outputs_then _ _ _ _ _ kept.lines line (Ok tt) kept.writes
    (rw c.in-Ok.is at c.write_line.ensures.line) in
    record {
      fits = kept.fits;
      near = kept.near;
      gives = λ first history is. (kept.lines ++ line, writes, kept.listed first history is);
      unread = kept.unread;
    }

pub returns-in-None : goal.returns-in-None
returns-in-None g c =
    let kept = c.lines.invariant in
    let line = latest_line c.lines.latest in
    let writes =
    outputs_then _ _ _ _ _ kept.lines line (Ok tt) kept.writes
    (rw c.in-Ok.is at c.write_line.ensures.line) in
    rw (c.in-None.ensures.none refl).0 (record {
      fits = kept.fits;
      near = kept.near;
      gives = λ first history is. (kept.lines ++ line, writes, kept.listed first history is);
      unread = kept.unread;
    })

pub lines-preserved : goal.lines-preserved
lines-preserved g c =
    let kept = c.lines.invariant in
    let line = latest_line c.lines.latest in
    let writes =
    outputs_then _ _ _ _ _ kept.lines line (Ok tt) kept.writes
    (rw c.in-Ok.is at c.write_line.ensures.line) in
    record {
      fits = c.in-Some.ensures.may_read;
      near = λ is. absurd (false≢true (sym is ∙ c.if-not-far.false));
      unread = unread_then kept.unread c.in-Some.ensures.unread;
      lines = kept.lines ++ line;
      writes = writes;
      listed = λ first history is.
          let on = kept.listed first history is in
          listed_more g.R.InDevice.state first (feed_of c.args.input.now) (feed_of c.lines.input) (feed_of c.next_whole.new.self) (kept.lines ++ line) c.in-Some.offset _ on (c.in-Some.ensures.gives _ on.listed.session_at);
    }
