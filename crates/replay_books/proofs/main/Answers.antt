use Rattle.std.proofs.Common.{ℕ, sym}
use Rattle.std.proofs.lemmas.List.{length-replicate}
use Rattle.replay_books.proofs.main.Goals as goal

pub slice_bounds-read_full-end : goal.slice_bounds-read_full-end
slice_bounds-read_full-end c = sym (length-replicate {A = ℕ} 1048576 0)

pub slice_bounds-text-end : goal.slice_bounds-text-end
slice_bounds-text-end c = c.in_ok-got.ensures.0

pub slice_bounds-replay_all-end : goal.slice_bounds-replay_all-end
slice_bounds-replay_all-end c = c.in_ok-got.ensures.1
