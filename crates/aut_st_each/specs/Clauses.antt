-- What is made of a transition, in the words of the steps.
use Rattle.aut_st_steps.specs.EachSteps as M
use Rattle.aut_st_edges.specs.Clauses.{edge_of}
use Rattle.aut_st_each.specs.declared.Each.{Each}
use Rattle.aut_st_each.specs.declared.Each.TheVariants as each

abbrev pub each_of : Each → M.Each
each_of each.Same = M.same
each_of (each.Sequence x) = M.sequence x
each_of (each.After l) = M.after l.0
each_of (each.Intersect x) = M.intersect x
each_of each.Complement = M.complement
each_of (each.Rest l) = M.rest l.0
each_of (each.Meet t) = M.meet (edge_of t)
