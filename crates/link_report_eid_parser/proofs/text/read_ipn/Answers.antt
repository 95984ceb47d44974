use Rattle.std.proofs.Common.{ℕ, List, ◌∷◌, ◌++◌, ◌∙◌, ap}
use Rattle.std.specs.Fmt.{decimal}
use Rattle.link_report_eid_parser.proofs.Texts.{two_text, three_text, no_ipn, no_ipn_after, no_two_after}
use Rattle.link_report_eid_parser.proofs.text.read_ipn.Goals as goal

pub returns-in_err-first-clause-none : goal.returns-in_err-first-clause-none
returns-in_err-first-clause-none c =
    let none = c.in_err-first.ensures.none in
    rw c.from_residual.ensures
    (no_ipn c.args.text.now (record {
      two = λ node service node_fits service_fits. none node (decimal service) node_fits;
      three = λ allocator node service allocator_fits node_fits service_fits.
          none allocator (decimal node ++ 46 ∷ decimal service) allocator_fits;
    }))

pub returns-in-Some-clause-some : goal.returns-in-Some-clause-some
returns-in-Some-clause-some c =
    two_text c.in_ok-first.first c.in-Some.service c.in_ok-first.rest.now c.args.text.now
    c.in_ok-first.ensures.fits c.in-Some.ensures.fits c.in_ok-first.ensures.some
    c.in-Some.ensures.some

pub returns-in_err-node-clause-none : goal.returns-in_err-node-clause-none
returns-in_err-node-clause-none c =
    let none = c.in_err-node.ensures.none in
    rw c.from_residual-in_err-node.ensures
    (no_ipn c.args.text.now (no_ipn_after c.in_ok-first.first c.in_ok-first.rest.now c.args.text.now
    c.in_ok-first.ensures.fits c.in_ok-first.ensures.some c.in_default.ensures.none
    (λ node service node_fits service_fits. none node (decimal service) node_fits)))

pub returns-in_err-service-clause-none : goal.returns-in_err-service-clause-none
returns-in_err-service-clause-none c =
    rw c.from_residual-in_err-service.ensures
    (no_ipn c.args.text.now (no_ipn_after c.in_ok-first.first c.in_ok-first.rest.now c.args.text.now
    c.in_ok-first.ensures.fits c.in_ok-first.ensures.some c.in_default.ensures.none
    (no_two_after c.in_ok-node.node c.in_ok-node.rest.now c.in_ok-first.rest.now
    c.in_ok-node.ensures.fits c.in_ok-node.ensures.some c.in_err-service.ensures.none)))

pub returns-clause-some : goal.returns-clause-some
returns-clause-some c =
    three_text c.in_ok-first.first c.in_ok-node.node c.in_ok-service.service
    c.in_ok-first.rest.now c.args.text.now c.in_ok-first.ensures.fits c.in_ok-node.ensures.fits
    c.in_ok-service.ensures.fits c.in_ok-first.ensures.some
    (ap (λ (rest : List ℕ). decimal c.in_ok-node.node ++ 46 ∷ rest) c.in_ok-service.ensures.some
    ∙ c.in_ok-node.ensures.some)
