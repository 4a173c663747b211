use Rattle.std.proofs.Common.{of_calls}
use Rattle.aut_empty_words.specs.Words.{seen_in}
use Rattle.aut_empty_words.proofs.seen_at.Goals as goal

pub returns : goal.returns
unfolding seen_in
returns c = search of_calls
