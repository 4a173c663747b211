use Rattle.book_run.proofs.Lines as lines
use Rattle.book_run.proofs.go_on.Given as goal

abbrev pub invariant-loop-rest : goal.invariant-loop-rest
invariant-loop-rest l = lines.Going l.text l.setting l.initial.place l.first l.instructions l.place l.rest l.line l.left

abbrev pub decreases-loop-rest : goal.decreases-loop-rest
decreases-loop-rest l = l.left
