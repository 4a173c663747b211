use Rattle.std.proofs.Common.{rules, tests}
use mathlib.Core.Path.{◌∙◌, ap}
use Rattle.std.specs.Slice.Iter.{chunks_exact_size, chunks_exact_rest}
use Rattle.image_keep.proofs.Next as its
use Rattle.image_keep.proofs.has_next.Goals as goal

pub returns : goal.returns
returns c =
    let u = c.any.ensures.runs in
    its.found _ _ (λ x b q k. (search (rules, tests), search (rules, tests))) u.0 c.chunks_exact.result.rest (ap chunks_exact_size u.1 ∙ c.chunks_exact.ensures.size) (ap chunks_exact_rest u.1)
    (c.chunks_exact.ensures.runs u.0 u.0.seen (search rules)) c.args.states.now.words.now c.args.states.now.count c.requires.fits c.chunks_exact.ensures.rest c.any.result u.2
