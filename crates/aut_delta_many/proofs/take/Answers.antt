use mathlib.Core.Path.{◌∙◌, ap}
use Prim.Native.Nat.{◌*◌}
use native.Mathlib.Omega.{arith}
use lib.ListN.{length}
use Rattle.aut_steps.specs.Tables.{words}
use Rattle.aut_steps.proofs.Facts.{words_length}
use Rattle.aut_states.proofs.Slices.{pasted}
use Rattle.aut_st_insert.specs.Clauses.{RESULT}
use Rattle.aut_delta_many.proofs.Lists.{copied}
use Rattle.aut_delta_many.proofs.take.Goals as goal

pub slice_bounds-copy-end : goal.slice_bounds-copy-end
slice_bounds-copy-end c =
    let l = c.args.list in
    omega (arith, c.requires.0, ap length c.words-words.ensures, words_length c.args.transitions.now.words.now (2 * l.start) (2 * l.count))

pub returns : goal.returns
returns c =
    let s = c.args.scratch.now in
    let u = c.args.transitions.now.words.now in
    let l = c.args.list in
    let n = words_length u (2 * l.start) (2 * l.count) in
    let e = c.words-words.ensures in
    copied s u RESULT l.start l.count c.requires.0
    (pasted s _ (words u (2 * l.start) (2 * l.count)) (2 * RESULT) _ (c.copy.ensures.after ∙ e) (ap length e) (omega (arith, c.requires.0, ap length e, n)))
