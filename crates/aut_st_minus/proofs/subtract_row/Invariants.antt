use Rattle.aut_st_edges.specs.Clauses.{edge_of}
use Rattle.aut_st_minus.proofs.Loops.{row, row_one, Summing}
use Rattle.aut_st_minus.proofs.subtract_row.Given as goal

abbrev pub invariant-loop-i : goal.invariant-loop-i
invariant-loop-i l = Summing l.config (row_one l.config (edge_of l.t)) (row l.config (edge_of l.t)) l.second l.initial.aut l.initial.met l.aut l.met l.i
