use Rattle.aut_st_stage.proofs.Turns.{source_in}
use Rattle.aut_st_minus.proofs.Loops.{rows, rows_one, Summing}
use Rattle.aut_st_minus.proofs.subtract_rows.Given as goal

abbrev pub invariant-loop-i : goal.invariant-loop-i
invariant-loop-i l = Summing l.config (rows_one l.config (source_in l.second l.initial.aut)) (rows l.config (source_in l.second l.initial.aut)) l.first l.initial.aut l.initial.met l.aut l.met l.i
