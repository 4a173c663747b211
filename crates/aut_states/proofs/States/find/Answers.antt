use Rattle.std.proofs.Common.{rules, tests, ◌≡◌, ◌+◌, ◌*◌, length}
use mathlib.Core.Path.{◌∙◌, ap}
use native.Mathlib.Omega.{arith}
use Rattle.std.specs.Option.{option_map}
use Rattle.std.specs.Slice.Iter.{chunks_exact_size, chunks_exact_rest}
use Rattle.slices.proofs.Records.{part_length, searched}
use Rattle.aut_steps.specs.Intern.{same2}
use Rattle.aut_states.specs.Clauses.{Found}
use Rattle.aut_states.proofs.Scan as scan
use Rattle.aut_states.proofs.States.find.Goals as goal
use Rattle.aut_states.proofs.States.find.Goals.{After-position}

-- what is found is the first of all, counted from `from`
first : (c : After-position) → Found (same2 c.args.self.now.words.now c.args.kind c.args.x c.args.y) c.args.self.now.count (option_map (λ i. c.args.from + i) c.position.result)
first c =
    let u = c.position.ensures.runs in
    let st = c.args.self.now.words.now in
    let len : length c.chunks_exact.result.rest.now + 12 * c.args.from ≡ 12 * c.args.self.now.count = part_length st (omega (arith, c.requires.1.within)) (omega (arith, c.requires.0.fits)) c.chunks_exact.ensures.rest in
    scan.found st c.args.kind c.args.x c.args.y c.requires.1 c.position.result
    (searched _ _ 12 (scan.here c.args.kind c.args.x c.args.y) (scan.here_moved c.args.kind c.args.x c.args.y) (λ x b q k. (search (rules, tests), search (rules, tests))) u.0 c.chunks_exact.result.rest
    (ap chunks_exact_size u.1 ∙ c.chunks_exact.ensures.size) (ap chunks_exact_rest u.1) (c.chunks_exact.ensures.runs u.0 u.0.seen (search rules))
    c.position.result u.2 st c.args.from c.args.self.now.count c.chunks_exact.ensures.rest len (scan.whole len))

pub returns-in_err-i : goal.returns-in_err-i
returns-in_err-i c = rw c.from_residual.ensures (rw c.in_err-i.was at (first (goal.at.returns-in_err-i c).After-position))

pub returns : goal.returns
returns c = rw c.in_ok-i.was at (first (goal.at.returns c).After-position)
