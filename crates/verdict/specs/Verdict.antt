-- 01, "The book and its answers": the verdict in code, and that of the plain search.
use Rattle.netkat.specs.Search as Search
use Rattle.verdict.specs.declared.Verdict.{Verdict}
use Rattle.verdict.specs.declared.Verdict.TheVariants.{Yes, No, Spent}

abbrev pub verdict_of : Verdict → Search.Verdict
verdict_of Yes = Search.yes
verdict_of No = Search.no
verdict_of Spent = Search.spent
